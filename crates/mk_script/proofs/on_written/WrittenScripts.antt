-- The lines of an edit are a script that is this edit.
use Rattle.std.proofs.Common.{◌≡◌, ℕ, false, List, [], ◌∷◌, ◌++◌, refl, sym, ap, ◌∙◌, subst, append-nil, map}
use Rattle.std.specs.Prelude.{◌||◌}
use Rattle.std.specs.List.{AllByRecursion, list_any}
use Rattle.std.proofs.lemmas.Option.{some_pair_parts}
use Rattle.mk_lines.specs.Lists.{concat}
use Rattle.mk_lines.specs.Spacing.{spaced_words}
use Rattle.mk_lines.proofs.on_lists.BoolLemmas.{or-left_false, or-right_false}
use Rattle.mk_edit_language.specs.Edits.{Edit}
use Rattle.mk_history.specs.Machine.{Apply}
use Rattle.mk_script.specs.BlockReading.{plain_fields}
use Rattle.mk_script.specs.CommandTable.{Content, HaveContents, command_fields, IsCommand}
use Rattle.mk_script.specs.Lines.{script_lines}
use Rattle.mk_script.specs.ScriptLaws.{CanBeWritten}
use Rattle.mk_script.specs.WrittenEdits.{SaysOnly, command_line, each_ended, field_in_line, has_line_feed, has_return, is_lost, lines_below, lines_of_blocks, script_of}
use Rattle.mk_script.specs.WrittenLines.{HasFreeWord, IsCommandText}
use Rattle.mk_script.proofs.on_commands.FilledLemmas.{contents-plain, has-filled}
use Rattle.mk_script.proofs.on_commands.PlainLemmas.{command-fit}
use Rattle.mk_script.proofs.on_commands.ReadLemmas.{edit-read}
use Rattle.mk_script.proofs.on_commands.TextContents.{AreCommand}
use Rattle.mk_script.proofs.on_fields.EndedLines.{IsReadBack, ended-returns, lines-read, no_cr-other, read-back}
use Rattle.mk_script.proofs.on_written.WrittenContents.{below-feedless, contents-stand, field_read, line-ends, line-stands}

-- ---- the lines are read back

lines-back : (ls : List (List ℕ)) → AllByRecursion (λ l. has_line_feed l ≡ false) ls → list_any has_return ls ≡ false → AllByRecursion IsReadBack ls
lines-back [] h k = tt
lines-back (l ∷ ls) h k = (read-back l h.0 (or-left_false (has_return l) (list_any has_return ls) k), lines-back ls h.1 (or-right_false (has_return l) (list_any has_return ls) k))

-- no command is without fields
no_fields : (e : Edit) → IsCommand [] [] (Apply e) → ⊥
no_fields e command =
    let contents = command_fields (Apply e) in
    let filled = has-filled (plain_fields []) [] [] [] contents command (command-fit (Apply e) [] (contents-plain [] [] contents command)) in
    let parts = some_pair_parts [] filled.0 [] [] filled.1 in
    let none = edit-read [] e (subst (λ ts. AreCommand ts (Apply e)) (sym parts.0) filled.2) in
    absurd (cc)

-- ---- an edit

-- the text of its command is its lines
pub text-script : (e : Edit) (line below script : List ℕ) → IsCommandText (command_fields (Apply e)) line below → script ≡ line ++ 10 ∷ below → script ≡ script_of e
text-script e line below script h is = is ∙ (ap (λ (t : List ℕ). t ++ 10 ∷ below) h.line_is ∙ ap (λ (t : List ℕ). command_line e ++ 10 ∷ t) h.below_is)

pub text-lost : (e : Edit) (line below : List ℕ) → IsCommandText (command_fields (Apply e)) line below → (has_line_feed line || has_return below) ≡ is_lost e
text-lost e line below h =
    ap (λ (t : List ℕ). has_line_feed t || has_return below) h.line_is
    ∙ ap (λ q. has_line_feed (command_line e) || q) (ap (λ (t : List ℕ). has_return t) h.below_is ∙ ended-returns (lines_of_blocks e))

only-said : (e : Edit) (cs : List Content) (script : List ℕ) → cs ≡ command_fields (Apply e) → CanBeWritten cs → AllByRecursion HasFreeWord cs
    → has_line_feed (spaced_words (map field_in_line cs)) ≡ false → list_any has_return (concat (map lines_below cs)) ≡ false
    → script ≡ each_ended (spaced_words (map field_in_line cs) ∷ concat (map lines_below cs)) → SaysOnly script e
only-said e [] script is can free feed return whole = absurd (no_fields e (subst (λ ds. HaveContents [] [] ds) is refl))
only-said e (c ∷ cs) script is can free feed return whole =
    let line = spaced_words (map field_in_line (c ∷ cs)) in
    let below = concat (map lines_below (c ∷ cs)) in
    let ends = line-ends c cs free in
    let back : IsReadBack line = record { feedless = feed; no_return = no_cr-other line ends.last } in
    let read = ap script_lines whole ∙ lines-read (line ∷ below) (back, lines-back below (below-feedless (c ∷ cs) can free) return) in (
      record {
        skipped = [];
        line = line;
        block = below;
        rest = [];
        lines_are = read ∙ ap (λ ls. line ∷ ls) (sym (append-nil below));
        are_skipped = tt;
        number_is = refl;
        says = (map field_read (c ∷ cs), line-stands (c ∷ cs) free, subst (λ ds. HaveContents (map field_read (c ∷ cs)) below ds) is (contents-stand (c ∷ cs) can free));
      },
      tt,
    )

pub edit-only : (e : Edit) (line below script : List ℕ) → IsCommandText (command_fields (Apply e)) line below → (has_line_feed line || has_return below) ≡ false → script ≡ line ++ 10 ∷ below
    → SaysOnly script e
edit-only e line below script h kept is =
    let none : is_lost e ≡ false = sym (text-lost e line below h) ∙ kept in
    only-said e (command_fields (Apply e)) script refl h.can h.free (or-left_false (has_line_feed (command_line e)) (list_any has_return (lines_of_blocks e)) none)
    (or-right_false (has_line_feed (command_line e)) (list_any has_return (lines_of_blocks e)) none) (text-script e line below script h is)
