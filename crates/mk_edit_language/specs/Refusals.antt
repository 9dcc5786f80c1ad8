-- The order of the causes, the outcome of an edit, and the text after it.
-- Told in docs/EDITS.md, "Refusals".
use Rattle.std.specs.Prelude.{ℕ, List, [], ◌∷◌, Option, Some, None, Result, Ok, Err}
use Rattle.mk_lines.specs.Pieces.{Replacement, replaced}
use Rattle.mk_class.specs.ClassedLines.{ClassedLine, classed_lines}
use Rattle.mk_edit_language.specs.Edits.{Edit, ExchangeLines}
use Rattle.mk_edit_language.specs.LineRuns.{site_found}
use Rattle.mk_edit_language.specs.EditSpans.{spans_of}
use Rattle.mk_edit_language.specs.ArgumentCauses.{bad_argument, reserved}
use Rattle.mk_edit_language.specs.AddressCauses.{unread_prefix, no_such, ambiguous, misplaced}
use Rattle.mk_edit_language.specs.RuleCauses.{absent, already, taken, shared_rule, straddles}
use Rattle.mk_edit_language.specs.LineCauses.{open_value, open_line, open_define, leaning, too_long, misread}
use Rattle.mk_edit_language.specs.ExchangeCauses.{exchange_causes}
use Rattle.mk_edit_language.specs.declared.refusal.Refusal.{Refusal}

-- the first cause that holds
abbrev pub first_cause : List (Option Refusal) → Option Refusal
first_cause [] = None
first_cause (None ∷ cs) = first_cause cs
first_cause (Some r ∷ cs) = Some r

-- of an edit of whole lines, the first cause that holds of their site, of the new lines and of the
-- lines around them
abbrev pub not_exchanged : (text : List ℕ) → List ClassedLine → Edit → Option Refusal
not_exchanged t ls (ExchangeLines s ts) = first_cause (exchange_causes t ls s ts (site_found ls s))
not_exchanged t ls e = None

-- The causes in their order; a cause that an edit does not have is None. The cause that a written
-- line would begin with the recipe prefix is tested once the line's place is known.
abbrev pub causes : (text : List ℕ) → List ClassedLine → Edit → List (Option Refusal)
causes t ls e =
    bad_argument e
    ∷ reserved e
    ∷ unread_prefix ls
    ∷ no_such ls e
    ∷ ambiguous ls e
    ∷ misplaced ls e
    ∷ absent ls e
    ∷ already ls e
    ∷ taken ls e
    ∷ shared_rule ls e
    ∷ straddles ls e
    ∷ open_value ls e
    ∷ open_line ls e
    ∷ open_define ls e
    ∷ leaning ls e
    ∷ not_exchanged t ls e
    ∷ too_long t (spans_of t ls e)
    ∷ misread ls e
    ∷ []

-- the refusal, if there is one, and otherwise the spans
abbrev pub unless_refused : Option Refusal → List Replacement → Result (List Replacement) Refusal
unless_refused None rs = Ok rs
unless_refused (Some r) rs = Err r

-- the spans of an edit, or the first refusal whose cause holds
abbrev pub spans : (text : List ℕ) → Edit → Result (List Replacement) Refusal
spans t e =
    let ls = classed_lines t in unless_refused (first_cause (causes t ls e)) (spans_of t ls e)

-- the text with the spans replaced; if the edit is refused, the text as it is
abbrev pub text_by : (text : List ℕ) → Result (List Replacement) Refusal → List ℕ
text_by t (Ok rs) = replaced 0 t rs
text_by t (Err r) = t

-- the text after an edit
abbrev pub text_after : (text : List ℕ) → Edit → List ℕ
text_after t e = text_by t (spans t e)
