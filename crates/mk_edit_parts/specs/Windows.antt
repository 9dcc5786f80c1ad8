-- Windows of a document: some of its lines, outside of which no line passes a test; and what is known
-- of a document before an edit is planned.
-- Told in docs/ARCHITECTURE.md, "The index of a session".
use Rattle.std.specs.Prelude.{◌≡◌, ◌||◌, ◌+◌, ℕ, nat_lt, Bool, true, false, List, [], ◌∷◌, ◌++◌, length, get_or, Option, Some, None, ⊤}
use Rattle.std.specs.Str.{bytes_eq}
use Rattle.mk_class.specs.Contexts.{start, context_after_located}
use Rattle.mk_tree.specs.LocatedLines.{LocatedLine}
use Rattle.mk_edit_language.specs.Addresses.{Address, Variable, Rule}
use Rattle.mk_edit_language.specs.Edits.{Every, Edit, ChangeValue, RenameTarget, ExchangeLines, EachLine, Site, BeforeRun, AfterRun, OfRun, EachEdit, ChangeEach, SubstValues, SubstRecipe, SubstRecipes}
use Rattle.mk_edit_language.specs.LineRuns.{site_address, texts_of}
use Rattle.mk_edit_parts.specs.LocatedParts.{is_target_located, is_unread_located}
use Rattle.mk_edit_parts.specs.RenamedRanges.{renamed_ranges}
use Rattle.mk_edit_parts.specs.Seeking.{IsLineKnown, may_mean}
use Rattle.mk_edit_parts.specs.declared.seek.Found.{Found}
use Rattle.mk_edit_parts.specs.declared.seek.Sought.{Sought}
use Rattle.mk_edit_parts.specs.declared.window.Known.{Known}
use Rattle.mk_edit_parts.specs.declared.window.Known.TheVariants as known
use Rattle.mk_edit_parts.specs.declared.window.Window.{Window}

-- ---- places

-- the place of the first line
abbrev pub first_place : Found
first_place = record { at = 0; context = start }

-- the place below a line that stands at this place
abbrev pub below : Found → LocatedLine → Found
below f l = record { at = f.at + 1; context = context_after_located f.context l.class }

-- the place below some lines, the first of which stands at this place
abbrev pub below_all : Found → List LocatedLine → Found
below_all f [] = f
below_all f (l ∷ ls) = below_all (below f l) ls

-- ---- windows

-- none of some lines passes a test
abbrev pub NonePasses : (test : LocatedLine → Bool) → List LocatedLine → Type 0
NonePasses p [] = Unit {0}
NonePasses p (l ∷ ls) = (p l ≡ false) × NonePasses p ls

-- A window of some lines, the first of which stands at this place. None of the lines above the
-- window passes the test. `next` says what holds of the lines below it, and of the place where they
-- begin.
pub record IsWindow (test : LocatedLine → Bool) (first : Found) (ls : List LocatedLine) (w : Window)
    (next : Found → List LocatedLine → Type 0)
    : Type 0 where
  pub above : List LocatedLine
  pub inside : List LocatedLine
  pub after : List LocatedLine
  pub lines_are : ls ≡ above ++ (inside ++ after)
  pub none_passes : NonePasses test above
  pub place_is : w.place ≡ below_all first above
  pub count_is : w.count ≡ length inside
  pub next_is : next (below_all w.place inside) after

-- Windows of some lines, in their order, the last of which reaches the end of the lines. The first
-- line stands at this place. No line outside the windows passes the test.
abbrev pub AreWindows : (test : LocatedLine → Bool) → (first : Found) → List LocatedLine → List Window
    → Type 0
AreWindows p f ls [] = ls ≡ []
AreWindows p f ls (w ∷ ws) = IsWindow p f ls w (λ g after. AreWindows p g after ws)

-- whether a line decides what a document has for an address: the address may mean it, or it sets
-- the recipe prefix in a way that is not read
abbrev pub concerns : Option Address → LocatedLine → Bool
concerns a l = may_mean a l || is_unread_located l

-- whether a line decides what a rename finds and does: it sets the recipe prefix in a way that is
-- not read, it holds the old word where a rename replaces words, or it has the new word as a target
abbrev pub concerns_rename : (old new : List ℕ) → LocatedLine → Bool
concerns_rename o n l =
    is_unread_located l || (nat_lt 0 (length (renamed_ranges o l)) || is_target_located n l)

-- what the first physical line of a line says; nothing, if the line has no byte
abbrev pub first_text : List ℕ → List ℕ
first_text bytes = get_or (texts_of bytes) 0 []

-- whether a line may be the first of a run for a block: it begins with what the block begins with
abbrev pub says_first : (block : List (List ℕ)) → LocatedLine → Bool
says_first b l = bytes_eq (first_text l.bytes) (get_or b 0 [])

-- whether a line may be the first of a run that a site names
abbrev pub may_begin_run : Site → LocatedLine → Bool
may_begin_run (BeforeRun nth o) l = says_first o l
may_begin_run (AfterRun nth o) l = says_first o l
may_begin_run (OfRun nth o) l = says_first o l
may_begin_run s l = false

-- whether a line decides what a site means: its address may mean the line, the line may be the first
-- of a run that it names, or the line sets the recipe prefix in a way that is not read
abbrev pub concerns_site : Site → LocatedLine → Bool
concerns_site s l = concerns (site_address s) l || may_begin_run s l

-- ---- what is known before an edit is planned

-- what is known of the line that an edit means
abbrev pub line_known : {A : _} → Known A → Option Sought
line_known known.Nothing = None
line_known (known.Line s) = Some s
line_known (known.Windows ws) = None

-- whether a line decides what a change of all values of a name finds and does: it assigns the name, or
-- it sets the recipe prefix in a way that is not read
abbrev pub concerns_name : (name : List ℕ) → LocatedLine → Bool
concerns_name n l = concerns (Some (Variable None n)) l

-- whether a line decides what an edit of several lines finds and does, but for the recipe lines of the
-- rules that it means, which stand below such a line: the edit's address may mean it, or it sets the
-- recipe prefix in a way that is not read; each line, if the edit has no address
abbrev pub concerns_each : EachEdit → LocatedLine → Bool
concerns_each (ChangeEach n c) l = concerns_name n l
concerns_each (SubstRecipe nth g f t) l = concerns (Some (Rule nth g)) l
concerns_each (SubstValues f t) l = true
concerns_each (SubstRecipes f t) l = true

-- windows of some lines that serve an edit: a rename, a change of all values of a name, an exchange of
-- whole lines, an edit of several lines, or any other edit, which looks at none
abbrev AreKnown : Edit → List LocatedLine → List Window → Type 0
AreKnown (ChangeValue Every n c) ls ws = AreWindows (concerns_name n) first_place ls ws
AreKnown (RenameTarget o n) ls ws = AreWindows (concerns_rename o n) first_place ls ws
AreKnown (ExchangeLines s b) ls ws = AreWindows (concerns_site s) first_place ls ws
AreKnown (EachLine e) ls ws = AreWindows (concerns_each e) first_place ls ws
AreKnown e ls ws = ⊤

-- What is known of some lines for an edit: nothing, what a walk over them would find for the edit's
-- address, or windows outside of which no line concerns the edit.
abbrev pub IsKnown : {A : _} → Edit → List LocatedLine → Known A → Type 0
IsKnown e ls known.Nothing = ⊤
IsKnown e ls (known.Line s) = IsLineKnown e ls (Some s)
IsKnown e ls (known.Windows ws) = AreKnown e ls ws.items
