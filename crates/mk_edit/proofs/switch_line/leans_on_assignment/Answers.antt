use Rattle.std.proofs.Common.{◌∙◌, ap, not, ◌&&◌, drop, ◌+◌}
use Rattle.mk_class.specs.declared.context.RuleFlag.TheVariants.{Off}
use Rattle.mk_tree.specs.Leaning.{is_same_flag}
use Rattle.mk_edit_parts.specs.LineRanges.{is_led_first_located}
use Rattle.mk_edit.proofs.on_switches.SwitchPlans.{leans-told}
use Rattle.mk_edit.proofs.switch_line.leans_on_assignment.Goals as goal

pub returns : goal.returns
returns g c = λ spot stands.
    let below = drop (c.args.place.now.at + 1) c.args.doc.now in
    c.leans.ensures
    ∙ (ap (λ z. not (is_same_flag z Off) && is_led_first_located c.prefix.result below) c.flag.ensures
    ∙ (ap (λ z. not (is_same_flag c.args.place.now.context.flag Off) && is_led_first_located z below) c.prefix.ensures
    ∙ leans-told _ spot _ c.requires.faithful stands))
