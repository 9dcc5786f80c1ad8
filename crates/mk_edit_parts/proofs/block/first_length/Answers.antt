use Rattle.std.proofs.Common.{subst}
use Rattle.memchr.specs.Find.{IsFirstByte, is_byte}
use Rattle.mk_edit_parts.proofs.on_line_runs.BlockTexts.{first-found, first-not_found}
use Rattle.mk_edit_parts.proofs.block.first_length.Goals as goal

pub returns-in-Some-clause-lines : goal.returns-in-Some-clause-lines
returns-in-Some-clause-lines c =
    (first-found c.args.lines.now c.in-Some.feed (subst (IsFirstByte (is_byte 10) c.args.lines.now) c.in-Some.is c.memchr.ensures)).lines

pub returns-in-Some-clause-one_line : goal.returns-in-Some-clause-one_line
returns-in-Some-clause-one_line c =
    (first-found c.args.lines.now c.in-Some.feed (subst (IsFirstByte (is_byte 10) c.args.lines.now) c.in-Some.is c.memchr.ensures)).one_line

pub returns-in-None-clause-lines : goal.returns-in-None-clause-lines
returns-in-None-clause-lines c =
    (first-not_found c.args.lines.now c.requires (subst (IsFirstByte (is_byte 10) c.args.lines.now) c.in-None.is c.memchr.ensures)).lines

pub returns-in-None-clause-one_line : goal.returns-in-None-clause-one_line
returns-in-None-clause-one_line c =
    (first-not_found c.args.lines.now c.requires (subst (IsFirstByte (is_byte 10) c.args.lines.now) c.in-None.is c.memchr.ensures)).one_line
