use Rattle.std.proofs.Common.{rules, ◌-◌, drop, length, subst, sym}
use Rattle.std.specs.Io.KnownBytes.{Consumes}
use Rattle.std.proofs.KnownBytes.{Consumes-trans}
use Rattle.mk_fs.proofs.ComparisonLemmas.{filled_more, filled_size}
use Rattle.mk_fs.proofs.in_place.comparison.fill.Goals as goal

pub loop-filled-preserved : goal.loop-filled-preserved
loop-filled-preserved g c =
    let (within, size, came) = c.loop-filled.invariant in
    let buffer = c.loop-filled.buffer in
    let at = c.loop-filled.filled in
    let kept = filled_size buffer c.read.new.buf at within (search rules) in
    let more = filled_more buffer c.read.new.buf (drop (length buffer - at) (drop at buffer)) at c.in_ok-count.count within c.in_ok-count.ensures.bound in
    (search rules, search rules, subst (Consumes _ _) (sym more) (Consumes-trans _ _ _ _ _ came c.in_ok-count.ensures.bytes.0))
