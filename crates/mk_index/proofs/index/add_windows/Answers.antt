use Rattle.std.proofs.Common.{◌≡◌, ◌∙◌, ◌+◌, ◌*◌, ◌-◌, ◌≤◌, ◌<◌, sym, ap, subst, arith, suc, ℕ, length, take, drop, get_or, false}
use Rattle.mk_index.specs.Blocks.{lines_in}
use Rattle.mk_index.specs.Walks.{HasWindows}
use Rattle.mk_index.proofs.on_blocks.GroupLemmas.{all-of-group, end-is, one-more, within-group}
use Rattle.mk_index.proofs.on_blocks.WindowLemmas.{collected-more, collected-past, fresh-here, windows-to}
use Rattle.mk_index.proofs.index.add_windows.Goals as goal
use Rattle.mk_index.proofs.index.add_windows.Goals.{then-is_marked+in_ok-push, else-is_marked}

pub overflow_add-at : goal.overflow_add-at
overflow_add-at g c =
    let bs = c.args.blocks.now in
    let first = c.args.group * 128 in
    let n = c.numbers.number in
    let few : n < length bs = omega (arith, c.numbers-test.true, c.end_of-number-end.ensures) in
    let most : n < first + 128 = omega (arith, c.numbers-test.true, c.end_of-number-end.ensures) in
    let within = within-group bs first n c.block-block.result c.numbers.invariant.from most few c.block-block.ensures in
    let sum = c.requires.few in
    let lines = c.numbers.invariant.lines in
    grind (arith, within, sum, lines)

pub numbers-init : goal.numbers-init
numbers-init g c =
    let first = c.args.group * 128 in
    let n = c.first_of-number.result in
    let e : n ≡ first = c.first_of-number.ensures in
    let bs = c.args.blocks.now in
    let none : n - first ≡ 0 = omega (arith, e) in
    let k : lines_in (take (n - first) (drop first bs)) ≡ 0 = ap (λ (i : ℕ). lines_in (take i (drop first bs))) none in
    record {
      windows = λ s test ls ms end idle h. subst (λ (i : ℕ). HasWindows s test ls ms bs end i c.args.above c.args.windows.now.items) (sym e) h;
      lines = omega (arith, k);
      from = omega (arith, e);
    }

pub numbers-preserved : goal.numbers-preserved
numbers-preserved g c =
    let bs = c.args.blocks.now in
    let first = c.args.group * 128 in
    let n = c.numbers.number in
    let b = c.block-block.result in
    let few : suc n ≤ length bs = omega (arith, c.numbers-test.true, c.end_of-number-end.ensures) in
    let more = one-more bs first n b c.numbers.invariant.from few c.block-block.ensures in
    record {
      windows = λ s test ls ms end idle h.
          let w = c.numbers.invariant.windows s test ls ms end idle h in
          let here = fresh-here s test ls ms bs end n c.numbers.at c.numbers.windows.items b w few c.block-block.ensures in
          elim c.if-is_marked.branch [
            | then-is_marked+in_ok-push k ↦ rw k.windows-is (rw k.in_ok-push.ensures.items (collected-more s test ls ms bs end n c.numbers.at c.numbers.windows.items b w here))
            | else-is_marked k ↦
                let within : n < length c.args.marks.now = omega (arith, few, c.requires.marks) in
                let mark : get_or c.args.marks.now n false ≡ false = sym c.is_marked.ensures ∙ k.if-is_marked.false in
                rw k.windows-is (collected-past s test ls ms bs end n c.numbers.at c.numbers.windows.items b w here (idle n here.inside within mark here.classed.0 here.mentioned))
          ];
      lines = omega (arith, more, c.numbers.invariant.lines);
      from = omega (arith, c.numbers.invariant.from);
    }

pub returns : goal.returns
returns g c = λ s test ls ms end idle h.
    let bs = c.args.blocks.now in
    let first = c.args.group * 128 in
    let n = c.numbers.number in
    let to : n ≤ c.end_of-number-end.result = omega (arith, c.numbers.auto.number-end, c.first_of-number.ensures, c.end_of-number-end.ensures, c.requires.in_range) in
    let most : n ≤ first + 128 = omega (arith, to, c.end_of-number-end.ensures) in
    let over = end-is (length bs) first n c.end_of-number-end.result c.end_of-number-end.ensures c.numbers-test.false to in
    let all = all-of-group bs first n c.numbers.invariant.from over most in
    let lines : c.numbers.at ≡ c.args.above + lines_in (take 128 (drop first bs)) = omega (arith, all, c.numbers.invariant.lines) in
    let w = windows-to s test ls ms bs end n c.numbers.at (first + 128) c.numbers.windows.items (c.numbers.invariant.windows s test ls ms end idle h) over most in
    subst (λ (k : ℕ). HasWindows s test ls ms bs end (first + 128) k c.numbers.windows.items) lines w
