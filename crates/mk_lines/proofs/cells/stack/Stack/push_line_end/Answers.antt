use Rattle.std.proofs.Common.{◌≡◌, ◌∙◌, ◌+◌, ◌-◌, ◌≤◌, ℕ, List, rules, [], ◌∷◌, ◌++◌, sym, ap, drop, length, length-drop, arith}
use Rattle.std.proofs.lemmas.List.{drop-drop}
use Rattle.mk_lines.specs.Lists.{leading}
use Rattle.mk_lines.specs.Cells.{cells, joined_text}
use Rattle.mk_lines.specs.Bytes.{byte_kind, is_blank_kind}
use Rattle.mk_lines.specs.CellStack.{top_of}
use Rattle.mk_lines.specs.StoredCells.{fold_ends}
use Rattle.mk_lines.specs.declared.cells.stack.Top.TheVariants as top
use Rattle.mk_lines.proofs.StackLemmas.{blanks-stacked, line_feed-pushed, counted-blanks}
use Rattle.mk_lines.proofs.cells.stack.Stack.push_line_end.Goals as goal

-- the blanks that are taken stand on the stack
taken : (t items : List ℕ) (first blanks : ℕ) → (top_of (cells t) ≡ top.Fold → ⊥) → drop first items ≡ joined_text (cells t) → first ≤ length items
    → blanks ≡ length (leading (λ b. is_blank_kind (byte_kind b)) t) → first + blanks ≤ length items
taken t items first blanks no_fold j within n = omega (arith, n, blanks-stacked t no_fold, ap length j, length-drop first items)

pub overflow_add-first : goal.overflow_add-first
overflow_add-first g c =
    let t = drop (c.args.offset + 1) c.args.text.now in
    let n : c.count_blanks-blanks.result ≡ length (leading (λ b. is_blank_kind (byte_kind b)) t) = counted-blanks c.args.text.now (c.args.offset + 1) c.count_blanks-blanks.result c.count_blanks-blanks.ensures in
    let was = ap (λ s. s.stack) c.self.view_is ∙ c.requires.stack in
    let fits : c.self.inside.first + c.count_blanks-blanks.result ≤ length c.self.inside.joined.items =
    taken t c.self.inside.joined.items c.self.inside.first c.count_blanks-blanks.result (λ e. c.requires.no_fold (ap (λ s. s.top) c.requires.stack ∙ e)) (ap (λ s. s.joined) was) c.self.invariant n in
    search rules

pub overflow_add-offset-3 : goal.overflow_add-offset-3
overflow_add-offset-3 g c =
    let t = drop (c.args.offset + 1) c.args.text.now in
    let n : c.count_blanks-blanks.result ≡ length (leading (λ b. is_blank_kind (byte_kind b)) t) = counted-blanks c.args.text.now (c.args.offset + 1) c.count_blanks-blanks.result c.count_blanks-blanks.ensures in
    let was = ap (λ s. s.stack) c.self.view_is ∙ c.requires.stack in
    let fits : c.self.inside.first + c.count_blanks-blanks.result ≤ length c.self.inside.joined.items =
    taken t c.self.inside.joined.items c.self.inside.first c.count_blanks-blanks.result (λ e. c.requires.no_fold (ap (λ s. s.top) c.requires.stack ∙ e)) (ap (λ s. s.joined) was) c.self.invariant n in
    search rules

pub overflow_sub-len : goal.overflow_sub-len
overflow_sub-len g c =
    let t = drop (c.args.offset + 1) c.args.text.now in
    let n : c.count_blanks-blanks.result ≡ length (leading (λ b. is_blank_kind (byte_kind b)) t) = counted-blanks c.args.text.now (c.args.offset + 1) c.count_blanks-blanks.result c.count_blanks-blanks.ensures in
    let was = ap (λ s. s.stack) c.self.view_is ∙ c.requires.stack in
    let fits : c.self.inside.first + c.count_blanks-blanks.result ≤ length c.self.inside.joined.items =
    taken t c.self.inside.joined.items c.self.inside.first c.count_blanks-blanks.result (λ e. c.requires.no_fold (ap (λ s. s.top) c.requires.stack ∙ e)) (ap (λ s. s.joined) was) c.self.invariant n in
    let m : c.len.result ≡ length c.self.inside.joined.items = c.len.ensures ∙ c.self.inside.joined.ok.0 in
    omega (arith, fits, m)

pub invariant_of-self : goal.invariant_of-self
invariant_of-self g c =
    let t = drop (c.args.offset + 1) c.args.text.now in
    let n : c.count_blanks-blanks.result ≡ length (leading (λ b. is_blank_kind (byte_kind b)) t) = counted-blanks c.args.text.now (c.args.offset + 1) c.count_blanks-blanks.result c.count_blanks-blanks.ensures in
    let was = ap (λ s. s.stack) c.self.view_is ∙ c.requires.stack in
    taken t c.self.inside.joined.items c.self.inside.first c.count_blanks-blanks.result (λ e. c.requires.no_fold (ap (λ s. s.top) c.requires.stack ∙ e)) (ap (λ s. s.joined) was) c.self.invariant n

pub invariant_of-self-2 : goal.invariant_of-self-2
invariant_of-self-2 g c =
    let t = drop (c.args.offset + 1) c.args.text.now in
    let n : c.count_blanks-blanks.result ≡ length (leading (λ b. is_blank_kind (byte_kind b)) t) = counted-blanks c.args.text.now (c.args.offset + 1) c.count_blanks-blanks.result c.count_blanks-blanks.ensures in
    let was = ap (λ s. s.stack) c.self.view_is ∙ c.requires.stack in
    taken t c.self.inside.joined.items c.self.inside.first c.count_blanks-blanks.result (λ e. c.requires.no_fold (ap (λ s. s.top) c.requires.stack ∙ e)) (ap (λ s. s.joined) was) c.self.invariant n

pub returns-clause-stack : goal.returns-clause-stack
returns-clause-stack g c =
    let offset = c.args.offset in
    let t = drop (offset + 1) c.args.text.now in
    let blanks = c.count_blanks-blanks.result in
    let items = c.self.inside.joined.items in
    let first = c.self.inside.first in
    let n : blanks ≡ length (leading (λ b. is_blank_kind (byte_kind b)) t) = counted-blanks c.args.text.now (offset + 1) blanks c.count_blanks-blanks.ensures in
    let was = ap (λ s. s.stack) c.self.view_is ∙ c.requires.stack in
    let v = ap (λ s. s.stack) c.self-2.view_is ∙ c.push_byte.ensures.stack in
    let cut = drop (first + blanks) items in
    let left : cut ≡ drop blanks (joined_text (cells t)) = sym (drop-drop blanks first items) ∙ ap (λ s. drop blanks s.joined) was in
    let m : c.len.result ≡ length items = c.len.ensures ∙ c.self.inside.joined.ok.0 in
    let k : c.len.result - (first + blanks) ≡ length cut = omega (arith, m, length-drop (first + blanks) items) in
    let ends : c.self-2.inside.ends.items ≡ fold_ends (offset + 1) (cells t) ++ record { after = length cut; raw_end = offset + 1 + blanks } ∷ [] =
    ap (λ s. s.ends) v
    ∙ (c.in_ok-push.ensures.items
    ∙ (ap (λ e. c.self.inside.ends.items ++ e ∷ []) c.in_ok-end.ensures.end
    ∙ (ap (λ s. s.ends ++ record { after = c.len.result - (first + blanks); raw_end = offset + 1 + blanks } ∷ []) was
    ∙ ap (λ z. fold_ends (offset + 1) (cells t) ++ record { after = z; raw_end = offset + 1 + blanks } ∷ []) k))) in
    line_feed-pushed offset t (λ f. c.requires.no_fold (ap (λ s. s.top) c.requires.stack ∙ f)) blanks cut (drop c.self-2.inside.first c.self-2.inside.joined.items) c.self-2.inside.ends.items c.self-2.inside.bad_fold
    n left (ap (λ s. s.joined) v) ends (ap (λ s. s.bad_fold) v ∙ ap (λ s. s.bad_fold) was)
