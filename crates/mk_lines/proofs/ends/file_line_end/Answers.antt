use Rattle.std.proofs.Common.{◌∙◌, sym, subst}
use Rattle.memchr.specs.Find.{IsFirstByte, is_byte}
use Rattle.mk_lines.proofs.on_lines.FileEndLemmas.{file_line_end-found, file_line_end-not_found}
use Rattle.mk_lines.proofs.ends.file_line_end.Goals as goal

pub returns-in-Some : goal.returns-in-Some
returns-in-Some c =
    let text = c.args.text.now in
    c.line_end.ensures ∙ sym (file_line_end-found text c.in-Some.feed (subst (IsFirstByte (is_byte 10) text) c.in-Some.is c.memchr.ensures))

pub returns-in-None : goal.returns-in-None
returns-in-None c = let text = c.args.text.now in sym (file_line_end-not_found text (subst (IsFirstByte (is_byte 10) text) c.in-None.is c.memchr.ensures))
