use Rattle.std.proofs.Common.{◌≡◌, ◌∙◌, ◌∷◌, ◌+◌, ◌||◌, List, ℕ, [], arith, length, drop, subst, sym, ap, rules}
use Rattle.std.specs.Rc.{rc_slice_items}
use Rattle.mk_lines.specs.LogicalLines.{logical_lines}
use Rattle.mk_lines.specs.Cells.{joined_byte}
use Rattle.mk_class.specs.Contexts.{Context}
use Rattle.mk_class.specs.LocatedClasses.{located_class}
use Rattle.mk_class.specs.ClassTable.{class_of}
use Rattle.std.proofs.lemmas.Bool.{leb-true, false≢true}
use Rattle.mk_class.specs.LineReads.{IsPlain}
use Rattle.mk_tree.specs.Plain.{IsClean}
use Rattle.mk_tree.specs.Faults.{IsReadingFault}
use Rattle.mk_tree.specs.Trees.{line_view}
use Rattle.mk_tree.specs.Unread.{UnreadLines, AreReadFrom, AreTooDeep}
use Rattle.mk_tree.proofs.AdmissionLemmas.{defines_after-few}
use Rattle.mk_tree.proofs.Reading.{next-line, next-plain, clean-further, next-seen, read-first, first-deep, fault-of_line, handed_on}
use Rattle.mk_tree.proofs.unread.Unread.read_next.Goals as goal
use Rattle.mk_tree.proofs.unread.Unread.read_next.Goals.{then-first, else-first}

pub returns-in_err-bytes-clause-few_read : goal.returns-in_err-bytes-clause-few_read
returns-in_err-bytes-clause-few_read g c =
    let next = next-line (rc_slice_items c.self.inside.text.now) _ c.in-Some.first.length c.self.inside.at c.self.invariant.within (search rules) c.in-Some.ensures.line in
    omega (arith, ap length next.lines, ap (λ (u : UnreadLines). length u.lines) c.self.view_is)

pub read_line-requires-clause-line : goal.read_line-requires-clause-line
read_line-requires-clause-line g c =
    let next = next-line (rc_slice_items c.self.inside.text.now) _ c.in-Some.first.length c.self.inside.at c.self.invariant.within (search rules) c.in-Some.ensures.line in
    rw c.in_ok-bytes.ensures.ok next.single

pub returns-in_err-line-clause-few_read : goal.returns-in_err-line-clause-few_read
returns-in_err-line-clause-few_read g c =
    let next = next-line (rc_slice_items c.self.inside.text.now) _ c.in-Some.first.length c.self.inside.at c.self.invariant.within (search rules) c.in-Some.ensures.line in
    omega (arith, ap length next.lines, ap (λ (u : UnreadLines). length u.lines) c.self.view_is, c.read_line.ensures.once)

pub returns-clause-few_read : goal.returns-clause-few_read
returns-clause-few_read g c =
    let next = next-line (rc_slice_items c.self.inside.text.now) _ c.in-Some.first.length c.self.inside.at c.self.invariant.within (search rules) c.in-Some.ensures.line in
    omega (arith, ap length next.lines, ap (λ (u : UnreadLines). length u.lines) c.self.view_is, c.read_line.ensures.once)

pub returns-in_err-line-clause-fault : goal.returns-in_err-line-clause-fault
returns-in_err-line-clause-fault g c =
    let text : List ℕ = rc_slice_items c.self.inside.text.now in
    let next = next-line (rc_slice_items c.self.inside.text.now) _ c.in-Some.first.length c.self.inside.at c.self.invariant.within (search rules) c.in-Some.ensures.line in
    let rest : List (List ℕ) = logical_lines (drop (c.self.inside.at + c.in-Some.first.length) text) in
    let seen : record { context = c.self.inside.end.context; has_unread_prefix = c.self.inside.end.has_unread_prefix; lines = c.in_ok-bytes.bytes ∷ rest } ≡ c.args.self.now =
    ap (λ z. record { context = c.self.inside.end.context; has_unread_prefix = c.self.inside.end.has_unread_prefix; lines = z ∷ rest }) c.in_ok-bytes.ensures.ok ∙ next-seen text c.in-Some.first.length c.self.inside.at c.self.inside.end.context c.self.inside.end.has_unread_prefix _ next c.self.view_is in
    let fault = fault-of_line _ _ _ (first-deep c.self.inside.end.context c.self.inside.end.has_unread_prefix c.in_ok-bytes.bytes rest) c.in_err-line.ensures.fault in
    let deep = subst (λ (z : UnreadLines). IsReadingFault (AreTooDeep z) c.in_err-line.field-0.0) seen fault in
    handed_on c.from_residual-in_err-line.result _ (IsReadingFault (AreTooDeep c.args.self.now)) c.from_residual-in_err-line.ensures (λ f e. subst (IsReadingFault (AreTooDeep c.args.self.now)) (sym e) deep)

pub returns-clause-read : goal.returns-clause-read
returns-clause-read g c =
    let text : List ℕ = rc_slice_items c.self.inside.text.now in
    let next = next-line (rc_slice_items c.self.inside.text.now) _ c.in-Some.first.length c.self.inside.at c.self.invariant.within (search rules) c.in-Some.ensures.line in
    let rest : List (List ℕ) = logical_lines (drop (c.self.inside.at + c.in-Some.first.length) text) in
    let seen : record { context = c.self.inside.end.context; has_unread_prefix = c.self.inside.end.has_unread_prefix; lines = c.in_ok-bytes.bytes ∷ rest } ≡ c.args.self.now =
    ap (λ z. record { context = c.self.inside.end.context; has_unread_prefix = c.self.inside.end.has_unread_prefix; lines = z ∷ rest }) c.in_ok-bytes.ensures.ok ∙ next-seen text c.in-Some.first.length c.self.inside.at c.self.inside.end.context c.self.inside.end.has_unread_prefix _ next c.self.view_is in
    let unread = c.self.inside.end.has_unread_prefix || c.sets_prefix_unread.result in
    subst (λ (z : UnreadLines). AreReadFrom z (line_view c.in_ok-line.line ∷ []) (record { context = c.in_ok-line.after; has_unread_prefix = unread; lines = rest })) seen
    (read-first c.self.inside.end.context c.in_ok-line.after c.self.inside.end.has_unread_prefix unread c.in_ok-bytes.bytes rest (line_view c.in_ok-line.line) c.in_ok-line.ensures.bytes c.in_ok-line.ensures.read (ap (λ z. c.self.inside.end.has_unread_prefix || z) c.sets_prefix_unread.ensures))

pub sets_prefix_unread-requires-clause-classed : goal.sets_prefix_unread-requires-clause-classed
sets_prefix_unread-requires-clause-classed g c = record {
  context = c.self.inside.end.context;
  class_is = c.in_ok-line.ensures.read.0 ∙ ap (λ l. located_class joined_byte (class_of c.self.inside.end.context l)) (sym c.in_ok-line.ensures.bytes);
}

pub invariant_of-self-2 : goal.invariant_of-self-2
invariant_of-self-2 g c =
    let next = next-line (rc_slice_items c.self.inside.text.now) _ c.in-Some.first.length c.self.inside.at c.self.invariant.within (search rules) c.in-Some.ensures.line in
    record {
      short = c.self.invariant.short;
      within = next.within;
      few = omega (arith, c.self.invariant.few, c.in-Some.ensures.line.some, ap (λ (z : Context). z.defines) c.in_ok-line.ensures.read.1, defines_after-few c.self.inside.end.context.defines (class_of c.self.inside.end.context c.in_ok-bytes.bytes));
      clean_within = omega (arith, c.clean_up_to-clean.ensures.within, ap length c.as_slice-text.ensures.value);
      is_clean = clean-further (rc_slice_items c.self.inside.text.now) c.self.inside.at (c.self.inside.at + c.in-Some.first.length) c.clean_up_to-clean.result (omega arith) (subst (λ t. IsClean t c.self.inside.at c.clean_up_to-clean.result) c.as_slice-text.ensures.value c.clean_up_to-clean.ensures.clean);
    }

pub read_line-requires-clause-plain : goal.read_line-requires-clause-plain
read_line-requires-clause-plain g c is = elim c.if-first.branch [
  | then-first w ↦
      subst IsPlain (sym c.in_ok-bytes.ensures.ok)
      (next-plain (rc_slice_items c.self.inside.text.now) _ c.in-Some.first.length c.self.inside.at c.clean_up_to-clean.result (search rules) c.in-Some.ensures.line (subst (λ t. IsClean t c.self.inside.at c.clean_up_to-clean.result) c.as_slice-text.ensures.value c.clean_up_to-clean.ensures.clean)
      (leb-true (c.self.inside.at + c.in-Some.first.length) c.clean_up_to-clean.result (sym w.is_plain-is ∙ is)) (c.in-Some.ensures.physical w.if-first.true))
  | else-first w ↦ absurd (false≢true (sym (w.is_plain-is ∙ w.if-first.false) ∙ is))
]
