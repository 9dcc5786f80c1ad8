use Rattle.std.proofs.Common.{◌≡◌, drop, rules, take}
use Rattle.mkedit.proofs.NamedLineLemmas.{named-step}
use Rattle.mkedit.proofs.named.named_lines.Goals as goal

pub lines-preserved : goal.lines-preserved
lines-preserved g c =
    let rest = c.lines.rest.now in
    let n = c.line_length.result in
    let line : c.split_at.result.0.now ≡ take n rest = search rules in
    let after : c.split_at.result.1.now ≡ drop n rest = search rules in
    named-step _ c.lines.named.items c.push_named.new.named.items c.args.before.now rest c.split_at.result.0.now c.split_at.result.1.now n
    c.line_length.ensures.line c.lines.invariant line after c.in_ok-push_named.ensures
