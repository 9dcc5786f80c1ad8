-- Whole lines by what they say: blocks of lines, the runs of lines that say what a block says, and the
-- sites of new lines. A block is here the list of its lines.
-- Told in docs/PROOFS.md, "An edit".
use Rattle.std.specs.Prelude.{ℕ, ◌+◌, ◌==◌, if◌then◌else◌, Bool, true, false, not, ◌&&◌, nat_le, List, [], ◌∷◌, ◌++◌, map, length, Option, Some, None, option_map, option_and_then}
use Rattle.std.specs.List.{list_any}
use Rattle.std.specs.Str.{bytes_eq}
use Rattle.mk_lines.specs.Lists.{onto_first}
use Rattle.mk_lines.specs.PhysicalLines.{physical_lines, without_line_end}
use Rattle.mk_lines.specs.LogicalLines.{ends_with_odd_run}
use Rattle.mk_class.specs.ListTests.{is_empty, last_passes}
use Rattle.mk_class.specs.Arguments.{is_clean}
use Rattle.mk_class.specs.ClassedLines.{ClassedLine}
use Rattle.mk_edit_language.specs.Edits.{Place, Top, Bottom, BeforeVar, AfterVar, AfterLastVar, BeforeRule, AfterRule, Site, AtPlace, BeforeRun, AfterRun, OfRun, OfRuleRun}
use Rattle.mk_edit_language.specs.Spots.{picked}
use Rattle.mk_edit_language.specs.Addresses.{Address, Variable, LastVariable, Rule, candidates, nth_meant, place_address}
use Rattle.mk_edit_language.specs.Stretches.{Stretch, before_line, after_line, after_rule, top, bottom}
pub use Rattle.mk_edit_language.specs.Stretches.{led_by, lower}
use Rattle.mk_edit_language.specs.RuleRuns.{run_or_header}

-- ---- blocks

-- a byte before the lines of the text after it: a line feed ends a line, any other byte goes to the
-- first line
abbrev pub before_texts : (is_line_feed : Bool) → ℕ → List (List ℕ) → List (List ℕ)
before_texts true b ts = [] ∷ ts
before_texts false b ts = onto_first (b ∷ []) ts

-- the lines of a block that is written as one text: what stands between its line feeds
abbrev pub block_lines : List ℕ → List (List ℕ)
block_lines [] = [] ∷ []
block_lines (b ∷ t) = before_texts (b == 10) b (block_lines t)

-- whether lines may be those of a block: there is one, none has an LF, CR or NUL, and the last does
-- not close with an odd run of backslashes
abbrev pub is_block : List (List ℕ) → Bool
is_block ts =
    not (is_empty ts)
    && (not (list_any (λ t. not (is_clean t)) ts) && not (last_passes ends_with_odd_run ts))

-- ---- runs

-- what a line says: its physical lines without their line ends
abbrev pub texts_of : List ℕ → List (List ℕ)
texts_of l = map without_line_end (physical_lines l)

-- the lines of a block after these texts, if it begins with them
abbrev pub after_texts : (texts block : List (List ℕ)) → Option (List (List ℕ))
after_texts [] b = Some b
after_texts (t ∷ ts) [] = None
after_texts (t ∷ ts) (x ∷ b) = if bytes_eq t x then after_texts ts b else None

-- the run for a block that begins with the first of these lines, if they begin with one: lines that
-- say together what the block says
abbrev pub run_in_front : (block : List (List ℕ)) → List ClassedLine → Option Stretch
run_in_front [] ls = Some (record { above = []; lines = []; below = ls })
run_in_front (x ∷ b) [] = None
run_in_front (x ∷ b) (l ∷ ls) =
    option_and_then (λ rest. option_map (led_by l) (run_in_front rest ls))
    (after_texts (texts_of l.bytes) (x ∷ b))

-- a run, if there is one, before others
abbrev pub before_runs : Option Stretch → List Stretch → List Stretch
before_runs None rs = rs
before_runs (Some r) rs = r ∷ rs

-- the runs for a block, in the order in which they begin; they may overlap
abbrev pub runs : (block : List (List ℕ)) → List ClassedLine → List Stretch
runs b [] = []
runs b (l ∷ ls) = before_runs (run_in_front b (l ∷ ls)) (map (lower l) (runs b ls))

-- whether a stretch lies within another of the same text; an empty one does so at the ends too
abbrev is_within : (outer inner : Stretch) → Bool
is_within o i =
    nat_le (length o.above) (length i.above)
    && nat_le (length i.above + length i.lines) (length o.above + length o.lines)

-- whether a stretch lies within a run for a block
abbrev pub is_in_run : (block : List (List ℕ)) → List ClassedLine → Stretch → Bool
is_in_run b ls s = list_any (λ r. is_within r s) (runs b ls)

-- ---- sites

-- the empty stretches at the start and at the end of a run
abbrev pub before_run : Stretch → Stretch
before_run r = record { above = r.above; lines = []; below = r.lines ++ r.below }

abbrev pub after_run : Stretch → Stretch
after_run r = record { above = r.above ++ r.lines; lines = []; below = r.below }

-- the address in a site
abbrev pub site_address : Site → Option Address
site_address (AtPlace p) = place_address p
site_address (OfRuleRun nth t) = Some (Rule nth t)
site_address s = None

-- the number in a site
abbrev pub site_number : Site → Option ℕ
site_number (AtPlace p) = option_and_then nth_meant (place_address p)
site_number (BeforeRun nth o) = nth
site_number (AfterRun nth o) = nth
site_number (OfRun nth o) = nth
site_number (OfRuleRun nth t) = nth

-- the stretches that a place may mean
abbrev pub place_stretches : List ClassedLine → Place → List Stretch
place_stretches ls Top = top ls ∷ []
place_stretches ls Bottom = bottom ls ∷ []
place_stretches ls (BeforeVar nth n) = map before_line (candidates ls (Variable nth n))
place_stretches ls (AfterVar nth n) = map after_line (candidates ls (Variable nth n))
place_stretches ls (AfterLastVar n) = map after_line (candidates ls (LastVariable n))
place_stretches ls (BeforeRule nth t) = map before_line (candidates ls (Rule nth t))
place_stretches ls (AfterRule nth t) = map after_rule (candidates ls (Rule nth t))

-- the stretches that a site may mean
abbrev pub site_stretches : List ClassedLine → Site → List Stretch
site_stretches ls (AtPlace p) = place_stretches ls p
site_stretches ls (BeforeRun nth o) = map before_run (runs o ls)
site_stretches ls (AfterRun nth o) = map after_run (runs o ls)
site_stretches ls (OfRun nth o) = runs o ls
site_stretches ls (OfRuleRun nth t) = map run_or_header (candidates ls (Rule nth t))

-- the stretch that a site means: the lines that go, between those that stay
abbrev pub site_found : List ClassedLine → Site → Option Stretch
site_found ls s = picked (site_number s) (site_stretches ls s)
