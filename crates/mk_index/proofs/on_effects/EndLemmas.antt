-- Where the lines of a document end.
use Rattle.std.proofs.Common.{◌≡◌, refl, sym, ap, ◌∙◌, subst, arith, ℕ, ◌+◌, ◌-◌, ◌||◌, List, [], ◌∷◌, ◌++◌, Bool, true, false, length, length-append, Option, Some, None}
use Rattle.std.specs.Prelude.{slice_get}
use Rattle.std.specs.List.{list_any}
use Rattle.std.proofs.lemmas.List.{length-map}
use Rattle.std.proofs.lemmas.List.Folds.{list_any-append}
use Rattle.mk_class.specs.Contexts.{Admits, Context, context_after_located, start}
use Rattle.mk_class.specs.ClassedLines.{classed_lines}
use Rattle.mk_tree.specs.Admissions.{AreAdmitted}
use Rattle.mk_tree.specs.Documents.{IsFaithful}
use Rattle.mk_tree.specs.LocatedLines.{LocatedLine, context_after_located_lines, located_line, located_text}
use Rattle.mk_tree.specs.UnreadPrefixes.{IsEndOf}
use Rattle.mk_tree.specs.declared.end.DocEnd.{DocEnd}
use Rattle.mk_tree.proofs.AdmissionLemmas.{context-faithful_end}
use Rattle.mk_edit_parts.specs.LocatedParts.{IsClassed, is_unread_located}
use Rattle.mk_edit_parts.specs.Seeking.{IsSought}
use Rattle.mk_edit_parts.specs.declared.seek.Sought.{Sought}
use Rattle.mk_edit_parts.proofs.on_finding.PlaceLemmas.{classed-at}
use Rattle.mk_edit_parts.proofs.on_finding.SeekLemmas.{faithful-each, unread-told}
use Rattle.mk_index.specs.Effects.{IsBehind}
use Rattle.mk_index.proofs.on_blocks.ListedLemmas.{context-last}

text-lines : (ls : List LocatedLine) → IsFaithful ls → length ls ≡ length (classed_lines (located_text ls))
text-lines ls h = ap length h ∙ length-map (classed_lines (located_text ls)) located_line

-- what is sought for no address, from the end
pub end-sought : (ls : List LocatedLine) (end : DocEnd) (count : ℕ) → IsFaithful ls → IsEndOf ls end → count ≡ length ls
    → IsSought (classed_lines (located_text ls)) None (record { count = 0; found = None; has_unread_prefix = end.has_unread_prefix; end = record { at = count; context = end.context } })
end-sought ls end count h e n = record {
  count_is = refl;
  found_is = refl;
  unread_is = e.unread_is ∙ unread-told ls h;
  end_is =
      ap (λ (m : ℕ). record { at = m; context = end.context }) (n ∙ text-lines ls h)
      ∙ ap (λ (c : Context). record { at = length (classed_lines (located_text ls)); context = c }) (e.context_is ∙ context-faithful_end ls h);
}

-- the end, from what is sought for no address
pub sought-end : (ls : List LocatedLine) (s : Sought) → IsFaithful ls → IsSought (classed_lines (located_text ls)) None s → IsEndOf ls (record { context = s.end.context; has_unread_prefix = s.has_unread_prefix })
sought-end ls s h k = record {
  context_is = ap (λ (f : _). f.context) k.end_is ∙ sym (context-faithful_end ls h);
  unread_is = k.unread_is ∙ sym (unread-told ls h);
}

-- ---- one more line

admitted-after : (c : Context) (ls rest : List LocatedLine) → AreAdmitted c (ls ++ rest) → AreAdmitted (context_after_located_lines c ls) rest
admitted-after c [] rest h = h
admitted-after c (l ∷ ls) rest h = admitted-after (context_after_located c l.class) ls rest h.1

get-last : (ls : List LocatedLine) (l : LocatedLine) → slice_get (ls ++ l ∷ []) (length ls) ≡ Some l
get-last [] l = refl
get-last (k ∷ ls) l = get-last ls l

or-false : (a : Bool) → (a || false) ≡ a
or-false true = refl
or-false false = refl

-- the last line, below those that end so
pub record Appended (doc : List LocatedLine) (end : DocEnd) (l : LocatedLine) : Type 0 where
  pub classed : IsClassed l
  pub admitted : Admits end.context l.class
  pub end_is : (context : Context) (unread : Bool) → context ≡ context_after_located end.context l.class → unread ≡ is_unread_located l → IsEndOf doc (record { context = context; has_unread_prefix = end.has_unread_prefix || unread })

pub appended : (doc : List LocatedLine) (end : DocEnd) (l : LocatedLine) (count : ℕ) → IsFaithful doc → IsBehind doc end → AreAdmitted start doc → count ≡ length doc → Some l ≡ slice_get doc (count - 1) → Appended doc end l
appended doc end l count faithful b admitted counted is = record {
  classed = classed-at doc (count - 1) l (faithful-each doc faithful) is;
  admitted = subst (λ (c : Context). Admits c l.class) (sym b.end_is.context_is)
      (subst (λ (k : LocatedLine). Admits (context_after_located_lines start b.earlier) k.class) (sym same) (admitted-after start b.earlier (b.one_more.last ∷ []) (subst (AreAdmitted start) b.one_more.lines_are admitted)).0);
  end_is = λ context unread c u. record {
    context_is = c ∙ (ap (λ (x : Context). context_after_located x l.class) b.end_is.context_is ∙ sym (ap (context_after_located_lines start) whole ∙ context-last start b.earlier l));
    unread_is = ap (λ (x : Bool). end.has_unread_prefix || x) u ∙ (ap (λ (x : Bool). x || is_unread_located l) b.end_is.unread_is
        ∙ sym (ap (list_any is_unread_located) whole ∙ (list_any-append is_unread_located b.earlier (l ∷ []) ∙ ap (λ (x : Bool). list_any is_unread_located b.earlier || x) (or-false (is_unread_located l)))));
  };
}
  where
    line_or : LocatedLine → Option LocatedLine → LocatedLine
    line_or d None = d
    line_or d (Some x) = x

    number : length doc ≡ length b.earlier + 1
    number = ap length b.one_more.lines_are ∙ length-append b.earlier (b.one_more.last ∷ [])

    same : l ≡ b.one_more.last
    same = ap (line_or l) (is ∙ (ap (slice_get doc) (let n = number in omega (arith, n, counted)) ∙ (ap (λ (ls : List LocatedLine). slice_get ls (length b.earlier)) b.one_more.lines_are ∙ get-last b.earlier b.one_more.last)))

    whole : doc ≡ b.earlier ++ l ∷ []
    whole = b.one_more.lines_are ∙ ap (λ (k : LocatedLine). b.earlier ++ k ∷ []) (sym same)
