use Rattle.std.proofs.Common.{◌≡◌, ◌∙◌, ap, sym, arith, ◌+◌, ◌||◌, ◌&&◌, true, false, drop}
use Rattle.mk_class.specs.RecipePrefix.{is_prefix_led}
use Rattle.mk_tree.specs.Trees.{line_view}
use Rattle.mk_class.specs.LocatedClasses.{leaves_flag_located}
use Rattle.mk_edit_parts.specs.LineRanges.{is_led_first_located}
use Rattle.mk_tree.proofs.AdmissionLemmas.{drop-none, drop-step}
use Rattle.mk_edit_parts.proofs.on_recipes.WalkLemmas.{ahead-here}
use Rattle.mk_edit_parts.proofs.on_finding.LeanLemmas.{led_first-at}
use Rattle.mk_edit_parts.proofs.lean.is_led_first.Goals as goal

pub returns-then-begins_with : goal.returns-then-begins_with
returns-then-begins_with g c =
    let l = line_view c.in-Some.line.now in
    let ahead = c.lines.invariant.0 ∙ c.in-Some.ensures.steps in
    let there = ahead-here c.args.doc.now c.next.new.self c.lines.at l ahead in
    let rest = leaves_flag_located l.class && is_led_first_located c.args.prefix (drop (c.lines.at + 1) c.args.doc.now) in
    let led : is_prefix_led c.args.prefix l.bytes ≡ true = ap (is_prefix_led c.args.prefix) (sym c.bytes.ensures.bytes) ∙ (sym c.begins_with.ensures ∙ c.if-begins_with.true) in
    sym (led_first-at c.args.prefix c.args.doc.now c.lines.at l there ∙ ap (λ b. b || rest) led) ∙ c.lines.invariant.1

pub returns-then-not-leaves_flag : goal.returns-then-not-leaves_flag
returns-then-not-leaves_flag g c =
    let l = line_view c.in-Some.line.now in
    let ahead = c.lines.invariant.0 ∙ c.in-Some.ensures.steps in
    let there = ahead-here c.args.doc.now c.next.new.self c.lines.at l ahead in
    let below = is_led_first_located c.args.prefix (drop (c.lines.at + 1) c.args.doc.now) in
    let led : is_prefix_led c.args.prefix l.bytes ≡ false = ap (is_prefix_led c.args.prefix) (sym c.bytes.ensures.bytes) ∙ (sym c.begins_with.ensures ∙ c.if-begins_with.false) in
    let sets : leaves_flag_located l.class ≡ false = ap leaves_flag_located (sym c.class.ensures) ∙ (sym c.leaves_flag.ensures ∙ c.if-not-leaves_flag.true) in
    sym (led_first-at c.args.prefix c.args.doc.now c.lines.at l there ∙ (ap (λ b. b || (leaves_flag_located l.class && below)) led ∙ ap (λ b. b && below) sets)) ∙ c.lines.invariant.1

pub unreachable-requires : goal.unreachable-requires
unreachable-requires g c = drop-none c.args.doc.now c.lines.at (omega arith) (c.lines.invariant.0 ∙ c.in_default.ensures.steps.0)

pub lines-preserved : goal.lines-preserved
lines-preserved g c =
    let l = line_view c.in-Some.line.now in
    let ahead = c.lines.invariant.0 ∙ c.in-Some.ensures.steps in
    let there = ahead-here c.args.doc.now c.next.new.self c.lines.at l ahead in
    let below = is_led_first_located c.args.prefix (drop (c.lines.at + 1) c.args.doc.now) in
    let led : is_prefix_led c.args.prefix l.bytes ≡ false = ap (is_prefix_led c.args.prefix) (sym c.bytes.ensures.bytes) ∙ (sym c.begins_with.ensures ∙ c.if-begins_with.false) in
    let leaves : leaves_flag_located l.class ≡ true = ap leaves_flag_located (sym c.class.ensures) ∙ (sym c.leaves_flag.ensures ∙ c.if-not-leaves_flag.false) in
    (drop-step c.args.doc.now c.next.new.self l c.lines.at ahead, sym (led_first-at c.args.prefix c.args.doc.now c.lines.at l there ∙ (ap (λ b. b || (leaves_flag_located l.class && below)) led ∙ ap (λ b. b && below) leaves)) ∙ c.lines.invariant.1)
