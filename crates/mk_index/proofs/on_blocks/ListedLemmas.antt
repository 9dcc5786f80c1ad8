-- The walk that lists the keys of a block's lines.
use Rattle.std.proofs.Common.{◌≡◌, refl, sym, ap, ◌∙◌, subst, arith, ℕ, suc, ◌+◌, ◌-◌, ◌≤◌, ◌<◌, inl, inr, List, [], ◌∷◌, ◌++◌, length, length-append, append_assoc, take, drop}
use Rattle.std.specs.Prelude.{◌⊎◌}
use Rattle.std.proofs.Math.Seq.{take-append-add}
use Rattle.mk_class.specs.Contexts.{Context, start, context_after_located}
use Rattle.mk_tree.specs.Admissions.{AreAdmitted}
use Rattle.mk_tree.specs.Documents.{IsFaithful}
use Rattle.mk_tree.specs.LocatedLines.{LocatedLine, context_after_located_lines}
use Rattle.mk_edit_parts.proofs.on_finding.PlacesBelow.{admitted-from}
use Rattle.mk_edit_parts.proofs.on_finding.SeekLemmas.{faithful-each}
use Rattle.mk_edit_parts.specs.LocatedParts.{AreEachClassed}
use Rattle.mk_edit_parts.proofs.on_finding.Walks.{each-from}
use Rattle.mk_index.specs.Blocks.{AreLinesMentioned, HaveListedLines}
use Rattle.mk_index.specs.Chains.{AreChainsOf, AreMentioned, HaveListed, Mention, Stored}
use Rattle.mk_index.specs.Keys.{hashes_of}
use Rattle.mk_index.proofs.on_blocks.PartLemmas.{back-here, front-here}
use Rattle.mk_index.proofs.on_chains.KeyLemmas.{mentioned-more}
use Rattle.mk_index.specs.declared.keys.Scope.{Scope}

pub lines-mentioned-more : (s : Scope) (added ms : List Mention) (b : ℕ) (ls : List LocatedLine) → AreLinesMentioned s ms b ls → AreLinesMentioned s (added ++ ms) b ls
lines-mentioned-more s added ms b [] h = tt
lines-mentioned-more s added ms b (l ∷ ls) h = (mentioned-more added ms b (hashes_of s l) h.0, lines-mentioned-more s added ms b ls h.1)

lines-mentioned-last : (s : Scope) (ms : List Mention) (b : ℕ) (ls : List LocatedLine) (l : LocatedLine) → AreLinesMentioned s ms b ls → AreMentioned ms b (hashes_of s l) → AreLinesMentioned s ms b (ls ++ l ∷ [])
lines-mentioned-last s ms b [] l h k = (k, tt)
lines-mentioned-last s ms b (x ∷ ls) l h k = (h.0, lines-mentioned-last s ms b ls l h.1 k)

-- one line more is listed
listed-more : (s : Scope) (ms : List Mention) (b : ℕ) (ls : List LocatedLine) (l : LocatedLine) (c d : Stored) → HaveListedLines s ls b ms c → ((all : List Mention) → AreChainsOf all c → HaveListed (hashes_of s l) b all d) → HaveListedLines s (ls ++ l ∷ []) b ms d
listed-more s ms b ls l c d h more =
    let new = more (h.added ++ ms) h.chains_are in
    let joined : (new.added ++ h.added) ++ ms ≡ new.added ++ (h.added ++ ms) = append_assoc new.added h.added ms in
    record {
      added = new.added ++ h.added;
      chains_are = subst (λ (xs : List Mention). AreChainsOf xs d) (sym joined) new.chains_are;
      mentioned = subst (λ (xs : List Mention). AreLinesMentioned s xs b (ls ++ l ∷ [])) (sym joined)
          (lines-mentioned-last s (new.added ++ (h.added ++ ms)) b ls l (lines-mentioned-more s new.added (h.added ++ ms) b ls h.mentioned) new.mentioned);
    }

pub context-last : (c : Context) (ls : List LocatedLine) (l : LocatedLine) → context_after_located_lines c (ls ++ l ∷ []) ≡ context_after_located (context_after_located_lines c ls) l.class
context-last c [] l = refl
context-last c (x ∷ ls) l = context-last (context_after_located c x.class) ls l

-- a line that is listed already
listed-kept : (s : Scope) (ms : List Mention) (b : ℕ) (ls : List LocatedLine) (l : LocatedLine) (c : Stored) → HaveListedLines s ls b ms c → AreMentioned ms b (hashes_of s l) → HaveListedLines s (ls ++ l ∷ []) b ms c
listed-kept s ms b ls l c h k = record {
  added = h.added;
  chains_are = h.chains_are;
  mentioned = lines-mentioned-last s (h.added ++ ms) b ls l h.mentioned (mentioned-more h.added ms b (hashes_of s l) k);
}

-- The lines passed, and those ahead. The lines passed are listed, if the first and the last of the
-- block's lines were.
pub record Listing (s : Scope) (before after : Stored) (b front from total : ℕ) (first : Context) (ls : List LocatedLine) (count : ℕ) (context : Context) (ahead : List LocatedLine) : Type 0 where
  pub done : List LocatedLine
  pub lines_are : ls ≡ done ++ ahead
  pub count_is : length done ≡ count
  pub context_is : context ≡ context_after_located_lines first done
  pub admitted : AreAdmitted context ahead
  pub classed : AreEachClassed ahead
  pub listed : (ms : List Mention) → AreChainsOf ms before → AreLinesMentioned s ms b (take front (take total ls)) → AreLinesMentioned s ms b (drop from (take total ls)) → HaveListedLines s done b ms after

-- the walk at its start
pub listing-from : (s : Scope) (doc : List LocatedLine) (chains : Stored) (b at front from total : ℕ) (first : Context) (ahead : List LocatedLine) → IsFaithful doc → AreAdmitted start doc → first ≡ context_after_located_lines start (take at doc) → ahead ≡ drop at doc
    → Listing s chains chains b front from total first (drop at doc) 0 first ahead
listing-from s doc chains b at front from total first ahead faithful admitted context_is ahead_is = rw ahead_is (record {
  done = [];
  lines_are = refl;
  count_is = refl;
  context_is = refl;
  admitted = subst (λ (c : Context). AreAdmitted c (drop at doc)) (sym context_is) (admitted-from start doc at admitted);
  classed = each-from at doc (faithful-each doc faithful);
  listed = λ ms h f b. record { added = []; chains_are = h; mentioned = tt };
})

-- the walk one line on: the line is listed now, or was listed before
pub listing-next : (s : Scope) (before c d : Stored) (b front from total : ℕ) (first : Context) (ls : List LocatedLine) (count : ℕ) (context next : Context) (l : LocatedLine) (ahead : List LocatedLine) → Listing s before c b front from total first ls count context (l ∷ ahead) → count < total
    → next ≡ context_after_located context l.class → (((all : List Mention) → AreChainsOf all c → HaveListed (hashes_of s l) b all d) ⊎ ((d ≡ c) × ((count < front) ⊎ (from ≤ count)))) → Listing s before d b front from total first ls (count + 1) next ahead
listing-next s before c d b front from total first ls count context next l ahead w within e more = record {
  done = w.done ++ l ∷ [];
  lines_are = w.lines_are ∙ sym (append_assoc w.done (l ∷ []) ahead);
  count_is = omega (arith, length-append w.done (l ∷ []), w.count_is);
  context_is = e ∙ (ap (λ (k : Context). context_after_located k l.class) w.context_is ∙ sym (context-last first w.done l));
  admitted = subst (λ (k : Context). AreAdmitted k ahead) (sym e) w.admitted.1;
  classed = w.classed.1;
  listed = λ ms h f k. elim more [
    | inl new ↦ listed-more s ms b w.done l c d (w.listed ms h f k) new
    | inr kept ↦ subst (λ (x : Stored). HaveListedLines s (w.done ++ l ∷ []) b ms x) (sym kept.0) (listed-kept s ms b w.done l c (w.listed ms h f k) (elim kept.1 [
      | inl above ↦ front-here s ms b (take total ls) w.done l (take (total - count - 1) ahead) front part (omega (arith, above, w.count_is)) f
      | inr below ↦ back-here s ms b (take total ls) w.done l (take (total - count - 1) ahead) from part (omega (arith, below, w.count_is)) k
    ]))
  ];
}
  where
    part : take total ls ≡ w.done ++ l ∷ take (total - count - 1) ahead
    part =
        let n : total ≡ length w.done + suc (total - count - 1) = omega (arith, within, w.count_is) in
        ap (take total) w.lines_are ∙ (ap (λ (m : ℕ). take m (w.done ++ l ∷ ahead)) n ∙ take-append-add w.done (l ∷ ahead) (suc (total - count - 1)))
