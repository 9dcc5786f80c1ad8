use Rattle.std.proofs.Common.{subst, take}
use Rattle.memchr.specs.Find.{IsFirstByte, is_byte}
use Rattle.mk_edit_parts.proofs.on_line_runs.BlockTexts.{front-found, front-not_found}
use Rattle.mk_edit_parts.proofs.block.block_front.Goals as goal

pub returns-in-Some : goal.returns-in-Some
returns-in-Some c =
    let F = front-found c.args.block.now c.in-Some.feed (subst (IsFirstByte (is_byte 10) c.args.block.now) c.in-Some.is c.memchr.ensures) in
    record { first = F.first; one_line = F.one_line }

pub returns-in-None : goal.returns-in-None
returns-in-None c =
    let F = front-not_found c.args.block.now (subst (IsFirstByte (is_byte 10) c.args.block.now) c.in-None.is c.memchr.ensures) in
    record { first = F.first; one_line = F.one_line }
