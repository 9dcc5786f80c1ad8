use Rattle.std.proofs.Common.{refl, ap, ◌∙◌}
use Rattle.mk_lines.specs.Bytes.{is_blank_byte}
use Rattle.mk_lines.specs.Lists.{after_leading}
use Rattle.mk_edit_parts.proofs.CommentLemmas.{mark-start, mark-end}
use Rattle.mk_edit_parts.proofs.comment.comment_mark.Goals as goal

pub returns-clause-start : goal.returns-clause-start
returns-clause-start c = mark-start c.args.line.now c.after_blanks-text.result.now _ c.after_blanks-text.ensures.rest refl

pub returns-clause-end : goal.returns-clause-end
returns-clause-end c =
    mark-end c.args.line.now c.after_blanks-text.result.now c.after_blanks-rest.result.now _ _ c.after_blanks-text.ensures.rest (c.after_blanks-rest.ensures.rest ∙ ap (after_leading is_blank_byte) c.after_first.ensures.rest) refl refl
