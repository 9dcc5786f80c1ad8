-- The lines that assign a variable: what is listed of them is what a walk for any number sees.
use Rattle.std.proofs.Common.{◌≡◌, refl, sym, ap, ◌∙◌, subst, arith, ℕ, zero, suc, ◌+◌, ◌==◌, ◌<◌, ◌≤◌, ◌||◌, get_or, if◌then◌else◌, List, [], ◌∷◌, ◌++◌, Bool, true, false, length, length-append, suc-add, Option, Some, None, inl, inr}
use Rattle.std.proofs.lemmas.Bool.{cases_eq, eq-eqb, ne_eqb}
use Rattle.mk_class.specs.ClassedLines.{classed_lines}
use Rattle.mk_class.specs.Contexts.{context_after_located}
use Rattle.mk_class.specs.declared.class.Class.{Class}
use Rattle.mk_tree.specs.Documents.{IsFaithful}
use Rattle.mk_tree.specs.LocatedLines.{LocatedLine, located_text}
use Rattle.mk_edit_language.specs.Addresses.{Variable}
use Rattle.mk_edit_language.specs.Spots.{nth_of}
use Rattle.mk_edit_parts.specs.Candidates.{AreCandidates, Listed, seen_for}
use Rattle.mk_edit_parts.specs.Seeking.{IsSought}
use Rattle.mk_edit_parts.specs.SeekWalks.{noted_by}
use Rattle.mk_edit_parts.specs.declared.seek.Found.{Found}
use Rattle.mk_edit_parts.specs.declared.seek.Sought.{Sought}
use Rattle.mk_edit_parts.proofs.on_finding.SeekLemmas.{lines-sought}

-- two numbers are the same if the next ones are
same-suc : (a b : ℕ) → (suc a == suc b) ≡ (a == b)
same-suc a b = elim (cases_eq a b) [
  | inl e ↦ eq-eqb (suc a) (suc b) (ap suc e) ∙ sym (eq-eqb a b e)
  | inr n ↦ ne_eqb (suc a) (suc b) (λ e. n (omega (arith, e))) ∙ sym (ne_eqb a b n)
]

-- the nth of some places and one more
nth-more : (w : ℕ) (fs : List Found) (f : Found) → nth_of w (fs ++ f ∷ []) ≡ (if length fs + 1 == w then Some f else nth_of w fs)
nth-more zero [] f = refl
nth-more (suc zero) [] f = refl
nth-more (suc (suc n)) [] f = sym (ap (λ b. if b then Some f else None) (ne_eqb (0 + 1) (suc (suc n)) (λ e. absurd (omega (arith, e)))))
nth-more zero (x ∷ fs) f = sym (ap (λ b. if b then Some f else None) (ne_eqb (length (x ∷ fs) + 1) 0 (λ e. absurd (omega (arith, e)))))
nth-more (suc zero) (x ∷ fs) f = sym (ap (λ b. if b then Some f else Some x) (ne_eqb (length (x ∷ fs) + 1) 1 (λ e. absurd (omega (arith, e)))))
nth-more (suc (suc n)) (x ∷ fs) f = rw (suc-add (length fs) 1, same-suc (length fs + 1) (suc n)) (nth-more (suc n) fs f)

-- one line more is seen by a walk for any number
pub seen-more : (w : ℕ) (c d : Listed) (meant unread : Bool) (k : Class) → d.places ≡ (if meant then c.places ++ c.end ∷ [] else c.places) → d.has_unread_prefix ≡ (c.has_unread_prefix || unread) → d.end ≡ record { at = c.end.at + 1; context = context_after_located c.end.context k }
    → seen_for w d ≡ noted_by meant unread w k (seen_for w c)
seen-more w c d true unread k p u e =
    let fs = c.places ++ c.end ∷ [] in
    rw (p, u, e)
    (ap (λ (n : ℕ). record { count = n; found = nth_of w fs; has_unread_prefix = c.has_unread_prefix || unread; end = record { at = c.end.at + 1; context = context_after_located c.end.context k } }) (length-append c.places (c.end ∷ []))
    ∙ ap (λ (o : Option Found). record { count = length c.places + 1; found = o; has_unread_prefix = c.has_unread_prefix || unread; end = record { at = c.end.at + 1; context = context_after_located c.end.context k } }) (nth-more w c.places c.end))
seen-more w c d false unread k p u e = rw (p, u, e) refl

-- no more lines are listed than were passed
pub listed-more : (ps qs : List Found) (f : Found) (at : ℕ) (meant : Bool) → qs ≡ (if meant then ps ++ f ∷ [] else ps) → at ≡ f.at + 1 → length ps ≤ f.at → length qs ≤ at
listed-more ps qs f at true p e h = let n = length-append ps (f ∷ []) in omega (arith, ap length p, n, e, h)
listed-more ps qs f at false p e h = omega (arith, ap length p, e, h)

-- the place of a number, if there is one
pub nth-none : (n : ℕ) (fs : List Found) → n ≡ 0 → nth_of n fs ≡ None
nth-none zero [] h = refl
nth-none zero (x ∷ fs) h = refl
nth-none (suc n) fs h = absurd (omega (arith, h))

pub nth-past : (n : ℕ) (fs : List Found) → length fs < n → nth_of n fs ≡ None
nth-past n [] h = refl
nth-past zero (x ∷ fs) h = absurd (omega (arith, h))
nth-past (suc zero) (x ∷ fs) h = absurd (omega (arith, h))
nth-past (suc (suc n)) (x ∷ fs) h = nth-past (suc n) fs (omega (arith, h))

pub nth-there : (k : ℕ) (fs : List Found) (f : Found) → k < length fs → f ≡ get_or fs k f → nth_of (suc k) fs ≡ Some f
nth-there k [] f h e = absurd (omega (arith, h))
nth-there zero (x ∷ fs) f h e = ap (λ (z : Found). Some z) (sym e)
nth-there (suc k) (x ∷ fs) f h e = nth-there k fs f (omega (arith, h)) e

-- what is listed for the line of a number is what is sought
pub candidate-sought : (n : List ℕ) (ls : List LocatedLine) (c : Listed) (number : ℕ) → IsFaithful ls → AreCandidates n ls c → IsSought (classed_lines (located_text ls)) (Some (Variable (Some number) n)) (seen_for number c)
candidate-sought n ls c number f h = subst (λ (s : Sought). IsSought (classed_lines (located_text ls)) (Some (Variable (Some number) n)) s) (sym (h number)) (lines-sought ls (Some (Variable (Some number) n)) tt f)
