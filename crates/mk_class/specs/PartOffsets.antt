-- Where a part of a line stands: the code's class has offsets into the joined text, and the
-- definition's class has the units of the part. The range between the offsets has the text, the
-- units and the words of the part; the raw range has its raw bytes.
use Rattle.std.specs.Prelude.{◌≡◌, ℕ, ◌+◌, ◌≤◌, List, map, length}
use Rattle.mk_lines.specs.Lists.{concat}
use Rattle.mk_lines.specs.Cells.{Cell, joined_byte, joined_text, raw_text}
use Rattle.mk_lines.specs.Units.{units}
use Rattle.mk_lines.specs.Ranges.{raw_offset, text_at}
use Rattle.mk_class.specs.Texts.{unit_text, word_texts}
use Rattle.mk_class.specs.TextClasses.{itself}

-- how many raw bytes units have
abbrev pub raw_width : List (List Cell) → ℕ
raw_width us = length (raw_text (concat us))

-- a range of the joined text of a line's cells is that of a part of its units, before which the
-- units `before` stand
pub record IsPart (cells : List Cell) (start end : ℕ) (before part : List (List Cell))
    : Type 0 where
  pub text_is : text_at (joined_text cells) (record { start = start; end = end })
      ≡ unit_text joined_byte part
  pub units_are : units itself (text_at (joined_text cells) (record { start = start; end = end }))
      ≡ map (map joined_byte) part
  pub words_are : word_texts itself
      (units itself (text_at (joined_text cells) (record { start = start; end = end })))
      ≡ word_texts joined_byte part
  pub rises : start ≤ end
  pub within : end ≤ length cells
  pub raw_start : raw_offset cells start ≡ raw_width before
  pub raw_end : raw_offset cells end ≡ raw_width before + raw_width part
