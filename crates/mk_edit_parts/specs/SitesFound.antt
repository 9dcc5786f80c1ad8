-- Where an exchange of whole lines applies: the lines that its site means, where no cause of refusal
-- holds that comes before those of the lines around them.
-- Told in docs/ARCHITECTURE.md, "An edit's way, from Edit to moved lines".
use Rattle.std.specs.Prelude.{◌≡◌, ◌≤◌, ◌+◌, ℕ, false, List, [], ◌∷◌, length, take, drop, Option, Some, None}
use Rattle.mk_class.specs.ClassedLines.{ClassedLine, classed_lines}
use Rattle.mk_tree.specs.Documents.{context_of}
use Rattle.mk_tree.specs.LocatedLines.{LocatedLine, located_text}
use Rattle.mk_edit_language.specs.Edits.{Site, OfRun, OfRuleRun, ExchangeLines}
use Rattle.mk_edit_language.specs.Spots.{picked}
use Rattle.mk_edit_language.specs.Stretches.{Stretch, IsStretchOf}
use Rattle.mk_edit_language.specs.LineRuns.{site_number, site_stretches, site_found}
use Rattle.mk_edit_language.specs.Causes.{where_holds}
use Rattle.mk_edit_language.specs.ArgumentCauses.{bad_argument, reserved}
use Rattle.mk_edit_language.specs.AddressCauses.{unread_prefix}
use Rattle.mk_edit_language.specs.ExchangeCauses.{exchange_causes, has_no_stretch, has_several_stretches, straddles_at_site}
use Rattle.mk_edit_language.specs.Refusals.{first_cause}
use Rattle.mk_edit_language.specs.declared.refusal.Refusal.{Refusal}
use Rattle.mk_edit_language.specs.declared.refusal.Refusal.TheVariants.{NoSuch, Ambiguous}
use Rattle.mk_edit_parts.specs.Found.{IsPlaceOf}
use Rattle.mk_edit_parts.specs.declared.seek.Found.{Found}
use Rattle.mk_edit_parts.specs.declared.window.Window.{Window}

-- ---- the causes by what decides them

-- the causes of an exchange in their order
abbrev all_causes : (text : List ℕ) → Site → (new : List (List ℕ)) → List (Option Refusal)
all_causes t s ts =
    let e = ExchangeLines s ts in
    let ls = classed_lines t in
    bad_argument e ∷ reserved e ∷ unread_prefix ls ∷ exchange_causes t ls s ts (site_found ls s)

-- the first of them, up to the one before `OpenLine`: those of the fields and of the recipe prefix,
-- and then those of what the site means
abbrev pub causes_of_site : (text : List ℕ) → Site → (new : List (List ℕ)) → List (Option Refusal)
causes_of_site t s ts = take 9 (all_causes t s ts)

-- the others, from `OpenLine` on, which the lines around the site and the new lines decide
abbrev pub causes_of_lines : (text : List ℕ) → Site → (new : List (List ℕ))
    → List (Option Refusal)
causes_of_lines t s ts = drop 9 (all_causes t s ts)

-- the causes of the fields and of the recipe prefix alone
abbrev pub causes_of_fields : (text : List ℕ) → Site → (new : List (List ℕ)) → List (Option Refusal)
causes_of_fields t s ts = take 3 (all_causes t s ts)

-- ---- what a site means

-- a stretch of some lines is the lines of a window
pub record IsStretchAt (ls : List ClassedLine) (s : Stretch) (w : Window) : Type 0 where
  pub stretch_is : IsStretchOf ls s
  pub place_is : length s.above ≡ w.place.at
  pub context_is : context_of s.above ≡ w.place.context
  pub count_is : length s.lines ≡ w.count

-- The lines that a site means are those of a window, and no cause holds that comes before those that
-- the lines decide.
pub record IsSited (s : Site) (new : List (List ℕ)) (ls : List LocatedLine) (w : Window)
    : Type 0 where
  pub stretch : Stretch
  pub found_is : site_found (classed_lines (located_text ls)) s ≡ Some stretch
  pub meant : IsStretchAt (classed_lines (located_text ls)) stretch w
  pub in_range : w.place.at + w.count ≤ length ls
  pub place_of : IsPlaceOf ls w.place
  pub unrefused : first_cause (causes_of_site (located_text ls) s new) ≡ None

-- a site of new lines that go for no others
abbrev pub IsOfNew : Site → Type 0
IsOfNew (OfRun nth o) = ⊥
IsOfNew (OfRuleRun nth g) = ⊥
IsOfNew s = Unit {0}

-- ---- one of some stretches

-- of some stretches, one is meant by a number, or is the only one: the lines of a window
pub record IsOneAt (ls : List ClassedLine) (nth : Option ℕ) (ss : List Stretch) (w : Window)
    : Type 0 where
  pub stretch : Stretch
  pub picked_is : picked nth ss ≡ Some stretch
  pub is_there : has_no_stretch nth ss ≡ false
  pub is_one : has_several_stretches nth ss ≡ false
  pub meant : IsStretchAt ls stretch w

-- of some stretches, no one is meant; this is the refusal
abbrev pub IsNotOne : (nth : Option ℕ) → List Stretch → Refusal → Type 0
IsNotOne nth ss r =
    first_cause (where_holds (has_no_stretch nth ss) NoSuch
    ∷ where_holds (has_several_stretches nth ss) (Ambiguous (length ss)) ∷ []) ≡ Some r

-- new lines go to no one place of a site: none or several are meant, or the place is after a rule that
-- is split; this is the refusal
abbrev pub IsNotNew : List ClassedLine → Site → Refusal → Type 0
IsNotNew ls s r =
    let ss = site_stretches ls s in
    first_cause (where_holds (has_no_stretch (site_number s) ss) NoSuch
    ∷ where_holds (has_several_stretches (site_number s) ss) (Ambiguous (length ss))
    ∷ straddles_at_site ls s ∷ []) ≡ Some r

-- the window at a place of new lines, which has no line
abbrev pub no_lines : Found → Window
no_lines f = record { place = f; count = 0 }
