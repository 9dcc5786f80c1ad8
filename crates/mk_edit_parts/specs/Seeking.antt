-- What is sought for the line that an address means.
use Rattle.std.specs.Prelude.{◌≡◌, ℕ, Bool, false, ◌&&◌, List, [], length, Option, Some, None, option_map, ⊤}
use Rattle.std.specs.List.{list_any}
use Rattle.mk_class.specs.ClassedLines.{ClassedLine, classed_lines}
use Rattle.mk_tree.specs.Documents.{context_of}
use Rattle.mk_tree.specs.LocatedLines.{LocatedLine, located_text}
use Rattle.mk_tree.specs.LineTexts.{StandingLine}
use Rattle.mk_edit_language.specs.Spots.{nth_of}
use Rattle.mk_edit_language.specs.Edits.{Edit}
use Rattle.mk_edit_language.specs.Addresses.{Address, Variable, LastVariable, Rule, address, candidates, nth_meant, Valued, Commented}
use Rattle.mk_edit_language.specs.AddressCauses.{is_unread_prefix}
use Rattle.mk_edit_parts.specs.LocatedParts.{assigns_located, has_value_located, says_name_located, is_rule_for_located}
use Rattle.mk_edit_parts.specs.declared.seek.Found.{Found}
use Rattle.mk_edit_parts.specs.declared.seek.Sought.{Sought}

-- whether a line is one that an address may mean
abbrev pub may_mean : Option Address → LocatedLine → Bool
may_mean None l = false
may_mean (Some (Variable nth n)) l = assigns_located n l
may_mean (Some (LastVariable n)) l = assigns_located n l
may_mean (Some (Valued nth n v)) l = assigns_located n l && has_value_located v l
may_mean (Some (Commented nth n)) l = says_name_located n l
may_mean (Some (Rule nth t)) l = is_rule_for_located t l

-- the number that is sought, from 1; if no number is given, 1
abbrev pub wanted_of : Option ℕ → ℕ
wanted_of None = 1
wanted_of (Some n) = n

abbrev pub wanted : Option Address → ℕ
wanted None = 1
wanted (Some a) = wanted_of (nth_meant a)

-- where a line stands: how many lines are above it, and the context that they leave
abbrev pub standing_found : StandingLine → Found
standing_found s = record { at = length s.above; context = context_of s.above }

-- the lines that an address may mean
abbrev pub candidates_of : List ClassedLine → Option Address → List StandingLine
candidates_of ls None = []
candidates_of ls (Some a) = candidates ls a

-- What is sought in some lines: how many lines the address may mean, where the line of its number
-- stands, whether the recipe prefix is set in a way that is not read, and where the lines end.
pub record IsSought (ls : List ClassedLine) (a : Option Address) (s : Sought) : Type 0 where
  pub count_is : s.count ≡ length (candidates_of ls a)
  pub found_is : s.found ≡ option_map standing_found (nth_of (wanted a) (candidates_of ls a))
  pub unread_is : s.has_unread_prefix ≡ list_any (λ l. is_unread_prefix l.class) ls
  pub end_is : s.end ≡ record { at = length ls; context = context_of ls }

-- whether an address means a line by its number among those that it may mean, and not the last one
abbrev pub IsNumbered : Option Address → Type 0
IsNumbered (Some (LastVariable n)) = ⊥
IsNumbered a = Unit {0}

-- What is known of an address before a walk: nothing, or what the walk would find.
abbrev pub IsKnownOf : Option Address → List LocatedLine → Option Sought → Type 0
IsKnownOf a ls None = ⊤
IsKnownOf a ls (Some s) = IsSought (classed_lines (located_text ls)) a s

-- what is known of the address of an edit
abbrev pub IsLineKnown : Edit → List LocatedLine → Option Sought → Type 0
IsLineKnown e ls known = IsKnownOf (address e) ls known
