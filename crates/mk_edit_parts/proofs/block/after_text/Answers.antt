use Rattle.std.proofs.lemmas.Bool.Decides.{Decides-eqb}
use Rattle.std.proofs.lemmas.Slice.Eq.{strip_prefix_is}
use Rattle.mk_edit_parts.proofs.on_line_runs.BlockTexts.{left-none, left-longer, left-nothing, left-lines}
use Rattle.mk_edit_parts.proofs.block.after_text.Goals as goal

pub returns-in_default : goal.returns-in_default
returns-in_default c =
    let S = strip_prefix_is Decides-eqb c.args.block.now c.args.text.now c.strip_prefix.result c.strip_prefix.ensures.cases in
    left-none c.args.text.now c.args.block.now (rw c.in_default.is at S)

pub returns-in_default-split_first : goal.returns-in_default-split_first
returns-in_default-split_first c =
    let S = strip_prefix_is Decides-eqb c.args.block.now c.args.text.now c.strip_prefix.result c.strip_prefix.ensures.cases in
    left-nothing c.args.text.now c.args.block.now c.in-Some.rest.now c.requires (rw c.in-Some.is at S) (rw c.in_default-split_first.is at c.split_first.ensures.cases)

pub returns-then-first-eq10 : goal.returns-then-first-eq10
returns-then-first-eq10 c =
    let S = strip_prefix_is Decides-eqb c.args.block.now c.args.text.now c.strip_prefix.result c.strip_prefix.ensures.cases in
    let F = rw c.in-Some-split_first.is at c.split_first.ensures.cases in
    left-lines c.args.text.now c.args.block.now c.in-Some.rest.now c.in-Some-split_first.first.now c.in-Some-split_first.lines.now c.requires (rw c.in-Some.is at S) F.0 c.if-first-eq10.true

pub returns-else-first-eq10 : goal.returns-else-first-eq10
returns-else-first-eq10 c =
    let S = strip_prefix_is Decides-eqb c.args.block.now c.args.text.now c.strip_prefix.result c.strip_prefix.ensures.cases in
    let F = rw c.in-Some-split_first.is at c.split_first.ensures.cases in
    left-longer c.args.text.now c.args.block.now c.in-Some.rest.now c.in-Some-split_first.first.now c.in-Some-split_first.lines.now c.requires (rw c.in-Some.is at S) F.0 c.if-first-eq10.false
