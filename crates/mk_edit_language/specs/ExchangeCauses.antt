-- The causes of refusal of whole lines that are put in, taken out or exchanged, in their order.
-- Told in docs/PROOFS.md, "An edit".
use Rattle.std.specs.Prelude.{ℕ, ◌==◌, Bool, true, false, not, ◌&&◌, ◌||◌, nat_lt, List, [], ◌∷◌, ◌++◌, length, Option, Some, None, is_some}
use Rattle.std.specs.List.{list_any}
use Rattle.mk_lines.specs.Cells.{Cell, joined_byte}
use Rattle.mk_class.specs.ListTests.{is_empty}
use Rattle.mk_class.specs.Texts.{unit_text}
use Rattle.mk_class.specs.RecipePrefix.{is_prefix_name}
use Rattle.mk_class.specs.Classes.{Class}
use Rattle.mk_class.specs.Classes.Class.{Assign, DefineHead}
use Rattle.mk_class.specs.Contexts.{Context, max_conditionals}
use Rattle.mk_class.specs.ClassedLines.{ClassedLine, context_after_lines}
use Rattle.mk_tree.specs.Documents.{context_of, most_conditionals}
use Rattle.mk_tree.specs.Leaning.{leans}
use Rattle.mk_edit_language.specs.Edits.{Site, AtPlace, OfRun, OfRuleRun, ExchangeLines}
use Rattle.mk_edit_language.specs.Spots.{nth_of}
use Rattle.mk_edit_language.specs.Addresses.{Rule, found}
use Rattle.mk_edit_language.specs.Stretches.{Stretch}
use Rattle.mk_edit_language.specs.LineRuns.{runs, is_in_run, site_number, site_stretches, before_runs}
use Rattle.mk_edit_language.specs.LineExchanges.{new_lines}
use Rattle.mk_edit_language.specs.RuleRuns.{has_no_run}
use Rattle.mk_edit_language.specs.RuleCauses.{class_meant, targets_found, shared_by, straddles_at}
use Rattle.mk_edit_language.specs.EditSpans.{spans_of}
use Rattle.mk_edit_language.specs.Causes.{where_holds}
use Rattle.mk_edit_language.specs.LineCauses.{follows_open_line, open_define_at, too_long}
use Rattle.mk_edit_language.specs.declared.refusal.Refusal.{Refusal}
use Rattle.mk_edit_language.specs.declared.refusal.Refusal.TheVariants.{NoSuch, Ambiguous, Already, Straddles, OpenLine, Leans, Misread}

-- ---- causes, each by itself

-- whether there is no stretch, or no nth one
abbrev pub has_no_stretch : Option ℕ → List Stretch → Bool
has_no_stretch None ss = is_empty ss
has_no_stretch (Some n) ss = not (is_some (nth_of n ss))

-- whether no number is given and there are several stretches
abbrev pub has_several_stretches : Option ℕ → List Stretch → Bool
has_several_stretches None (s ∷ r ∷ ss) = true
has_several_stretches nth ss = false

-- the stretches that a number leaves: the nth one, or each if no number is given
abbrev left_by_number : Option ℕ → List Stretch → List Stretch
left_by_number None ss = ss
left_by_number (Some n) ss = before_runs (nth_of n ss) []

-- whether each run that may be meant stands already where the new lines say what it says
abbrev is_exchanged : List ClassedLine → Site → (new : List (List ℕ)) → Bool
is_exchanged ls (OfRun nth o) ts =
    not (list_any (λ r. not (is_in_run ts ls r)) (left_by_number nth (runs o ls)))
is_exchanged ls s ts = false

-- whether the site of new lines, which is no run for a block, lies in a run for them or at its end
abbrev is_inserted : List ClassedLine → Site → (new : List (List ℕ)) → Option Stretch → Bool
is_inserted ls (OfRun nth o) ts found = false
is_inserted ls s ts None = false
is_inserted ls s ts (Some r) = is_in_run ts ls r

-- the rule whose run is meant has several targets
abbrev pub shared_at_site : List ClassedLine → Site → Option Refusal
shared_at_site ls (OfRuleRun nth t) = shared_by (targets_found (class_meant ls (Rule nth t)))
shared_at_site ls s = None

-- the rule whose run is meant has none, or a rule is split after which new lines go
abbrev pub straddles_at_site : List ClassedLine → Site → Option Refusal
straddles_at_site ls (OfRuleRun nth t) = where_holds (has_no_run (found ls (Rule nth t))) Straddles
straddles_at_site ls (AtPlace p) = straddles_at ls p
straddles_at_site ls s = None

abbrev open_define_at_site : List ClassedLine → Site → Option Refusal
open_define_at_site ls (AtPlace p) = open_define_at ls p
open_define_at_site ls s = None

-- whether a line of this class assigns `.RECIPEPREFIX` or opens a define for it
abbrev is_of_prefix : Class Cell → Bool
is_of_prefix (Assign a p) = is_prefix_name (unit_text joined_byte a.name)
is_of_prefix (DefineHead p) = p
is_of_prefix k = false

-- whether two contexts agree in all except perhaps the flag
abbrev pub agree_but_for_flag : Context → Context → Bool
agree_but_for_flag c d =
    (c.defines == d.defines) && ((c.conditionals == d.conditionals) && (c.prefix == d.prefix))

-- whether lines, in the place of others in this context, are too many conditionals, say something
-- of the recipe prefix, as the others may not either, or leave another context than they
abbrev is_misread_in : Context → (old new : List ClassedLine) → Bool
is_misread_in c old new =
    nat_lt max_conditionals (most_conditionals c.conditionals new)
    || (list_any (λ l. is_of_prefix l.class) (old ++ new)
    || not (agree_but_for_flag (context_after_lines c old) (context_after_lines c new)))

abbrev pub is_exchange_misread : (text : List ℕ) → (new : List (List ℕ)) → Option Stretch → Bool
is_exchange_misread t ts None = false
is_exchange_misread t ts (Some s) =
    is_misread_in (context_of s.above) s.lines (new_lines t ts s)

-- whether the lines below lean on two flags in a context: the flag after some lines, and that after
-- others in their place
abbrev pub leans_in : Context → (old new below : List ClassedLine) → Bool
leans_in c old new below =
    leans (context_after_lines c old).prefix (context_after_lines c old).flag
    (context_after_lines c new).flag below

abbrev pub exchange_leans : (text : List ℕ) → (new : List (List ℕ)) → Option Stretch → Bool
exchange_leans t ts None = false
exchange_leans t ts (Some s) =
    leans_in (context_of s.above) s.lines (new_lines t ts s) s.below

-- ---- the causes in their order, once the fields and the recipe prefix are tested

abbrev pub exchange_causes : (text : List ℕ) → List ClassedLine → Site → (new : List (List ℕ))
    → (found : Option Stretch) → List (Option Refusal)
exchange_causes t ls s ts found =
    where_holds (has_no_stretch (site_number s) (site_stretches ls s)) NoSuch
    ∷ where_holds (is_exchanged ls s ts) Already
    ∷ where_holds (has_several_stretches (site_number s) (site_stretches ls s))
    (Ambiguous (length (site_stretches ls s)))
    ∷ shared_at_site ls s
    ∷ straddles_at_site ls s
    ∷ where_holds (is_inserted ls s ts found) Already
    ∷ where_holds (follows_open_line found) OpenLine
    ∷ open_define_at_site ls s
    ∷ too_long t (spans_of t ls (ExchangeLines s ts))
    ∷ where_holds (is_exchange_misread t ts found) Misread
    ∷ where_holds (exchange_leans t ts found) Leans
    ∷ []
