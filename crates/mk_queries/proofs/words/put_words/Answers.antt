use Rattle.std.proofs.Common.{rules, refl}
use Rattle.mk_lines.specs.Spacing.{each_after_space}
use Rattle.mk_queries.proofs.PutLemmas.{put-nothing, put-more, put-fails}
use Rattle.mk_queries.proofs.words.put_words.Goals as goal

pub words-init : goal.words-init
words-init g c = put-nothing (search rules) c.requires refl

pub words-preserved : goal.words-preserved
words-preserved g c = put-more (search rules) c.words.invariant c.in_ok-put_parts.ensures

pub returns-in_err-put_parts : goal.returns-in_err-put_parts
returns-in_err-put_parts g c = put-fails (each_after_space c.next.new.self) (search rules) c.words.invariant c.from_residual.ensures.1 c.in_err-put_parts.ensures
