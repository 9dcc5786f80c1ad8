use Rattle.std.proofs.Common.{◌≡◌, ◌∙◌, arith}
use Rattle.mk_lines.specs.Cells.{line_cells}
use Rattle.mk_lines.specs.Ranges.{raw_offset}
use Rattle.mk_lines.proofs.StoredLemmas.{stored_offset-raw_offset}
use Rattle.mk_lines.proofs.cells.stored.Cells.raw_range.Goals as goal

pub returns : goal.returns
returns g c = λ line h.
    let start : c.raw_offset.result ≡ raw_offset (line_cells line) c.args.start = c.raw_offset.ensures ∙ stored_offset-raw_offset c.args.self.now line c.args.start h (omega arith) in
    let end : c.raw_offset-2.result ≡ raw_offset (line_cells line) c.args.end = c.raw_offset-2.ensures ∙ stored_offset-raw_offset c.args.self.now line c.args.end h (omega arith) in
    cc
