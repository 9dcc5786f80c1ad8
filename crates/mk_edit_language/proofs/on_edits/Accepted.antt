-- What it says of an edit that no cause refuses it.
use Rattle.std.proofs.Common.{◌≡◌, refl, ap, ◌∙◌, ℕ, List, [], ◌∷◌, ◌++◌, Bool, true, false, not, Option, Some, None, is_some}
use Rattle.std.specs.Prelude.{Ok}
use Rattle.mk_lines.specs.Pieces.{Replacement}
use Rattle.mk_class.specs.ClassedLines.{ClassedLine, classed_lines}
use Rattle.mk_tree.specs.LineTexts.{StandingLine}
use Rattle.mk_edit_language.specs.Edits.{Site, Edit, ExchangeLines}
use Rattle.mk_edit_language.specs.Spots.{nth_of, picked}
use Rattle.mk_edit_language.specs.LineRuns.{site_found}
use Rattle.mk_edit_language.specs.EditSpans.{spans_of}
use Rattle.mk_edit_language.specs.Causes.{where_holds, or_else}
use Rattle.mk_edit_language.specs.ArgumentCauses.{FieldTest, Tested, first_failed, bad_argument, reserved}
use Rattle.mk_edit_language.specs.AddressCauses.{unread_prefix, no_such, ambiguous, misplaced, is_missing, is_several}
use Rattle.mk_edit_language.specs.RuleCauses.{absent, already, taken, shared_rule, straddles}
use Rattle.mk_edit_language.specs.LineCauses.{open_value, open_line, open_define, leaning, too_long, misread}
use Rattle.mk_edit_language.specs.ExchangeCauses.{exchange_causes}
use Rattle.mk_edit_language.specs.Refusals.{first_cause, unless_refused, not_exchanged, causes, spans}
use Rattle.mk_edit_language.specs.KeptLines.{IsOfOnePlace}
use Rattle.mk_edit_language.specs.declared.refusal.Field.{Field}
use Rattle.mk_edit_language.specs.declared.refusal.Refusal.{Refusal}

none-first : (o : Option Refusal) (cs : List (Option Refusal)) → first_cause (o ∷ cs) ≡ None → (o ≡ None) × (first_cause cs ≡ None)
none-first None cs h = (refl, h)
none-first (Some r) cs h = absurd (cc)

-- no cause of some causes holds
abbrev NoCause : List (Option Refusal) → Type 0
NoCause [] = Unit {0}
NoCause (c ∷ cs) = (c ≡ None) × NoCause cs

pub no-cause : (cs : List (Option Refusal)) → first_cause cs ≡ None → NoCause cs
no-cause [] h = tt
no-cause (c ∷ cs) h = let p = none-first c cs h in (p.0, no-cause cs p.1)

-- a cause that is nothing does not hold
pub where_holds-none : (b : Bool) (r : Refusal) → where_holds b r ≡ None → b ≡ false
where_holds-none true r h = cc
where_holds-none false r h = refl

-- neither of two causes holds
pub neither-holds : (a b : Option Refusal) → or_else a b ≡ None → (a ≡ None) × (b ≡ None)
neither-holds None b h = (refl, h)
neither-holds (Some r) b h = absurd (cc)

pub unrefused : (o : Option Refusal) (rs rs' : List Replacement) → unless_refused o rs ≡ Ok rs' → (o ≡ None) × (rs ≡ rs')
unrefused None rs rs' h = let e : rs ≡ rs' = cc in (refl, e)
unrefused (Some r) rs rs' h = absurd (cc)

-- no cause holds, and these are the spans
pub record IsAccepted (t : List ℕ) (e : Edit) (rs : List Replacement) : Type 0 where
  pub arguments : bad_argument e ≡ None
  pub not_reserved : reserved e ≡ None
  pub prefix_read : unread_prefix (classed_lines t) ≡ None
  pub is_there : no_such (classed_lines t) e ≡ None
  pub is_one : ambiguous (classed_lines t) e ≡ None
  pub well_placed : misplaced (classed_lines t) e ≡ None
  pub not_absent : absent (classed_lines t) e ≡ None
  pub not_already : already (classed_lines t) e ≡ None
  pub not_taken : taken (classed_lines t) e ≡ None
  pub not_shared : shared_rule (classed_lines t) e ≡ None
  pub not_straddling : straddles (classed_lines t) e ≡ None
  pub value_closed : open_value (classed_lines t) e ≡ None
  pub line_closed : open_line (classed_lines t) e ≡ None
  pub define_closed : open_define (classed_lines t) e ≡ None
  pub not_leaning : leaning (classed_lines t) e ≡ None
  pub exchangeable : not_exchanged t (classed_lines t) e ≡ None
  pub not_long : too_long t (spans_of t (classed_lines t) e) ≡ None
  pub not_misread : misread (classed_lines t) e ≡ None
  pub spans_are : spans_of t (classed_lines t) e ≡ rs

-- an edit of one place is none of whole lines
pub one_place-not_exchanged : (t : List ℕ) (ls : List ClassedLine) (e : Edit) → IsOfOnePlace e → not_exchanged t ls e ≡ None
one_place-not_exchanged t ls (ExchangeLines s ts) p = absurd p
one_place-not_exchanged t ls e p = refl

-- the causes of an edit of whole lines, in their order
abbrev pub all_exchange_causes : (t : List ℕ) → List ClassedLine → Site → (ts : List (List ℕ)) → List (Option Refusal)
all_exchange_causes t ls s ts = bad_argument (ExchangeLines s ts) ∷ reserved (ExchangeLines s ts) ∷ unread_prefix ls ∷ exchange_causes t ls s ts (site_found ls s)

-- causes that do not hold, before others
none-before : (ns cs : List (Option Refusal)) → NoCause ns → first_cause (ns ++ cs) ≡ first_cause cs
none-before [] cs h = refl
none-before (n ∷ ns) cs h = ap (λ z. first_cause (z ∷ (ns ++ cs))) h.0 ∙ none-before ns cs h.1

-- three causes, before others
three-before : (a b c : Option Refusal) (cs ds : List (Option Refusal)) → first_cause cs ≡ first_cause ds → first_cause (a ∷ b ∷ c ∷ cs) ≡ first_cause (a ∷ b ∷ c ∷ ds)
three-before (Some r) b c cs ds h = refl
three-before None (Some r) c cs ds h = refl
three-before None None (Some r) cs ds h = refl
three-before None None None cs ds h = h

-- a cause that decides, before others that do not hold where it does not
one-decides : (o long read : Option Refusal) → (o ≡ None → long ≡ None) → read ≡ None → first_cause (o ∷ long ∷ read ∷ []) ≡ o
one-decides (Some r) long read h k = refl
one-decides None long read h k = ap (λ z. first_cause (z ∷ read ∷ [])) (h refl) ∙ ap (λ z. first_cause (z ∷ [])) k

-- they are the causes of the edit
pub exchange-causes : (t : List ℕ) (ls : List ClassedLine) (s : Site) (ts : List (List ℕ)) → first_cause (causes t ls (ExchangeLines s ts)) ≡ first_cause (all_exchange_causes t ls s ts)
exchange-causes t ls s ts =
    let e = ExchangeLines s ts in
    let cs = exchange_causes t ls s ts (site_found ls s) in
    let ns : List (Option Refusal) =
    no_such ls e ∷ ambiguous ls e ∷ misplaced ls e ∷ absent ls e ∷ already ls e ∷ taken ls e ∷ shared_rule ls e ∷ straddles ls e ∷ open_value ls e ∷ open_line ls e ∷ open_define ls e ∷ leaning ls e ∷ [] in
    let long = too_long t (spans_of t ls e) in
    three-before (bad_argument e) (reserved e) (unread_prefix ls) (ns ++ first_cause cs ∷ long ∷ misread ls e ∷ []) cs
    (none-before ns (first_cause cs ∷ long ∷ misread ls e ∷ []) (refl, (refl, (refl, (refl, (refl, (refl, (refl, (refl, (refl, (refl, (refl, (refl, tt))))))))))))
    ∙ one-decides (first_cause cs) long (misread ls e) (λ h. (no-cause cs h).1.1.1.1.1.1.1.1.0) refl)

-- no cause of an edit with spans holds
pub accepted : (t : List ℕ) (e : Edit) (rs : List Replacement) → spans t e ≡ Ok rs → IsAccepted t e rs
accepted t e rs h =
    let ls = classed_lines t in
    let u = unrefused (first_cause (causes t ls e)) (spans_of t ls e) rs h in
    let a = none-first (bad_argument e) _ u.0 in
    let b = none-first (reserved e) _ a.1 in
    let c = none-first (unread_prefix ls) _ b.1 in
    let d = none-first (no_such ls e) _ c.1 in
    let f = none-first (ambiguous ls e) _ d.1 in
    let g = none-first (misplaced ls e) _ f.1 in
    let i = none-first (absent ls e) _ g.1 in
    let j = none-first (already ls e) _ i.1 in
    let k = none-first (taken ls e) _ j.1 in
    let l = none-first (shared_rule ls e) _ k.1 in
    let m = none-first (straddles ls e) _ l.1 in
    let n = none-first (open_value ls e) _ m.1 in
    let o = none-first (open_line ls e) _ n.1 in
    let p = none-first (open_define ls e) _ o.1 in
    let q = none-first (leaning ls e) _ p.1 in
    let w = none-first (not_exchanged t ls e) _ q.1 in
    let r = none-first (too_long t (spans_of t ls e)) _ w.1 in
    let v = none-first (misread ls e) _ r.1 in
    record {
      arguments = a.0;
      not_reserved = b.0;
      prefix_read = c.0;
      is_there = d.0;
      is_one = f.0;
      well_placed = g.0;
      not_absent = i.0;
      not_already = j.0;
      not_taken = k.0;
      not_shared = l.0;
      not_straddling = m.0;
      value_closed = n.0;
      line_closed = o.0;
      define_closed = p.0;
      not_leaning = q.0;
      exchangeable = w.0;
      not_long = r.0;
      not_misread = v.0;
      spans_are = u.1;
    }

-- an address that is neither missing nor one of several means a line
pub spot-picked : (nth : Option ℕ) (ss : List StandingLine) → is_missing nth ss ≡ false → is_several nth ss ≡ false → (s : StandingLine) × (picked nth ss ≡ Some s)
spot-picked None [] h k = absurd (cc)
spot-picked None (s ∷ []) h k = (s, refl)
spot-picked None (s ∷ s' ∷ ss) h k = absurd (cc)
spot-picked (Some n) ss h k = go (nth_of n ss) refl h
  where
    go : (o : Option StandingLine) → nth_of n ss ≡ o → not (is_some o) ≡ false → (s : StandingLine) × (nth_of n ss ≡ Some s)
    go None e h = absurd (cc)
    go (Some s) e h = (s, e)

-- fields that pass their tests
pub first-passed : (f : Field) (x : Bool) (ts : List FieldTest) → first_failed (Tested f x ∷ ts) ≡ None → (x ≡ true) × (first_failed ts ≡ None)
first-passed f true ts h = (refl, h)
first-passed f false ts h = absurd (cc)

pub two-passed : (f g : Field) (x y : Bool) → first_failed (Tested f x ∷ Tested g y ∷ []) ≡ None → (x ≡ true) × (y ≡ true)
two-passed f g x y h =
    let p = first-passed f x (Tested g y ∷ []) h in
    (p.0, (first-passed g y [] p.1).0)
