-- One line after a rename: its bytes, by its pieces; where the words stand in it, and how many words there are; and its length.
use Rattle.std.proofs.Common.{◌≡◌, sym, ap, ◌∙◌, subst, arith, ℕ, ◌+◌, ◌*◌, ◌≤◌, List, [], ◌++◌, length, length-append}
use Rattle.std.specs.Prelude.{nat_lt}
use Rattle.mk_lines.specs.Pieces.{old_bytes, new_bytes, replaced, replacements}
use Rattle.mk_lines.proofs.on_lists.PieceLemmas.{replaced-pieces}
use Rattle.mk_class.specs.Contexts.{Context}
use Rattle.mk_class.specs.ClassTable.{class_of}
use Rattle.mk_class.specs.ClassedLines.{ClassedLine}
use Rattle.mk_tree.specs.LocatedLines.{LocatedLine, located_line}
use Rattle.mk_edit_language.specs.WordPieces.{renamed_pieces}
use Rattle.mk_edit_language.specs.Costs.{is_renamed}
use Rattle.mk_edit_language.specs.RisingSpans.{Rise}
use Rattle.mk_edit_language.proofs.on_edits.RisingSpanLemmas.{Rise-until, Rise-pieces}
use Rattle.mk_edit_parts.specs.RenamedRanges.{renamed_ranges, bytes_in}
use Rattle.mk_edit_parts.specs.RenamedTexts.{AreApart, renamed_text}
use Rattle.mk_edit.specs.RenameTargetPatches.{holds_word}
use Rattle.mk_edit_parts.proofs.on_renaming.LinePieces.{line-pieces}
use Rattle.mk_edit_parts.proofs.on_renaming.WrittenLemmas.{apart-rise, written-replaced, written-length, replacing-number, replaced-some}

-- ---- the words of a line

pub line-apart : (c : Context) (l : ClassedLine) (o n rest : List ℕ) → class_of c l.bytes ≡ l.class → l.bytes ≡ old_bytes (renamed_pieces o n l.class) ++ rest → AreApart 0 (length l.bytes) (renamed_ranges o (located_line l))
line-apart c l o n rest h e =
    let ps = renamed_pieces o n l.class in
    let ranges = renamed_ranges o (located_line l) in
    let few : 0 + length (old_bytes ps) ≤ length l.bytes = omega (arith, ap length e, length-append (old_bytes ps) rest) in
    let r = Rise-until 0 (0 + length (old_bytes ps)) (length l.bytes) (replacements 0 ps) (Rise-pieces 0 ps) few in
    apart-rise 0 (length l.bytes) n ranges (subst (Rise 0 (length l.bytes)) (sym (line-pieces c l o n h)) r)

-- the line after is its pieces with each old word replaced, and its rest
pub line-rewritten : (c : Context) (l : ClassedLine) (o n rest m : List ℕ) → class_of c l.bytes ≡ l.class → l.bytes ≡ old_bytes (renamed_pieces o n l.class) ++ rest → m ≡ new_bytes (renamed_pieces o n l.class) ++ rest
    → renamed_text o n (located_line l) ≡ m
line-rewritten c l o n rest m h e k =
    let ps = renamed_pieces o n l.class in
    let ranges = renamed_ranges o (located_line l) in
    written-replaced l.bytes 0 n ranges (line-apart c l o n rest h e)
    ∙ (ap (replaced 0 l.bytes) (line-pieces c l o n h) ∙ (ap (λ z. replaced 0 z (replacements 0 ps)) e ∙ (replaced-pieces [] ps rest ∙ sym k)))

-- how long it is, by how many words are replaced and how many bytes they have
pub renamed-length : (o n : List ℕ) (l : LocatedLine) → AreApart 0 (length l.bytes) (renamed_ranges o l) → length (renamed_text o n l) + bytes_in (renamed_ranges o l) ≡ length l.bytes + length (renamed_ranges o l) * length n
renamed-length o n l h = omega (arith, written-length l.bytes 0 n (renamed_ranges o l) h)

-- ---- which lines hold a word

-- a line holds a word where a piece of it is replaced
pub holds-renamed : (c : Context) (l : ClassedLine) (o n : List ℕ) → class_of c l.bytes ≡ l.class → holds_word o (located_line l) ≡ is_renamed o n l
holds-renamed c l o n h =
    let ranges = renamed_ranges o (located_line l) in
    ap (nat_lt 0) (sym (replacing-number n ranges) ∙ ap length (line-pieces c l o n h)) ∙ replaced-some 0 (renamed_pieces o n l.class)
