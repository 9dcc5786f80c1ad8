use Rattle.std.proofs.Common.{◌≡◌, ◌∙◌, ◌+◌, ◌*◌, ◌-◌, ◌≤◌, refl, sym, ap, subst, arith, suc, ℕ, List, None, length, length-set, take, drop, get_or, false}
use Rattle.std.proofs.lemmas.List.{drop-set-lt}
use Rattle.mk_index.specs.Blocks.{AreLinesMentioned, HaveListedLines, lines_in}
use Rattle.mk_index.specs.Indexes.{Stored}
use Rattle.mk_index.specs.Walks.{IsRefreshed}
use Rattle.mk_index.specs.declared.blocks.Block.{Block}
use Rattle.mk_index.proofs.on_blocks.GroupLemmas.{all-of-group, end-is, fresh-group, one-more, same-here}
use Rattle.mk_index.proofs.on_blocks.PartLemmas.{drop-drop}
use Rattle.mk_index.proofs.on_blocks.RefreshLemmas.{block-here, block-listed, block-stays, refreshing-to}
use Rattle.mk_index.proofs.index.Index.refresh_group.Goals as goal
use Rattle.mk_index.proofs.index.Index.refresh_group.Goals.{then-block+in-Ok+in_ok-after, else-block}

pub numbers-init : goal.numbers-init
numbers-init g c =
    let first = c.args.group * 128 in
    let n = c.first_of-number.result in
    let e : n ≡ first = c.first_of-number.ensures in
    let old = c.args.self.now.blocks in
    let none : n - first ≡ 0 = omega (arith, e) in
    let k : lines_in (take (n - first) (drop first old)) ≡ 0 = ap (λ (i : ℕ). lines_in (take i (drop first old))) none in
    let walk : IsRefreshed c.args.doc.now (record { scope = c.self.inside.scope; chains = c.self.inside.chains; blocks = c.self.inside.blocks; end = c.self.inside.end }) c.args.carried first c.args.above
    = subst (λ (i : Stored). IsRefreshed c.args.doc.now i c.args.carried first c.args.above) (sym c.self.view_is) c.requires.walk in
    record {
      walk = subst (λ (i : ℕ). IsRefreshed c.args.doc.now (record { scope = c.self.inside.scope; chains = c.self.inside.chains; blocks = c.self.inside.blocks; end = c.self.inside.end }) c.args.carried i c.args.above) (sym e) walk;
      count = ap (λ (s : Stored). length s.blocks) c.self.view_is;
      below = ap (λ (s : Stored). drop n s.blocks) c.self.view_is;
      lines = omega (arith, k);
      from = omega (arith, e);
    }

pub overflow_add-at : goal.overflow_add-at
overflow_add-at g c =
    let i = c.numbers.self-inside in
    let s = i.scope in
    let n = c.numbers.number in
    let same = ap (λ (s : Stored). length s.blocks) c.self.view_is in
    let few : suc n ≤ length i.blocks = omega (arith, c.numbers-test.true, c.end_of-number-end.ensures, c.numbers.invariant.count, same) in
    let here = block-here s c.args.doc.now i.chains i.blocks i.end c.numbers.carried n c.numbers.at c.block.result c.numbers.invariant.walk few c.block.ensures in
    let within : c.numbers.at + c.met-block.result.count ≤ length c.args.doc.now = omega (arith, here.within, c.met-block.ensures.count) in
    let most = c.len-lines.ensures.few in
    grind (arith, within, most)

pub numbers-preserved : goal.numbers-preserved
numbers-preserved g c =
    let i = c.numbers.self-inside in
    let s = i.scope in
    let old = c.args.self.now.blocks in
    let first = c.args.group * 128 in
    let n = c.numbers.number in
    let at = c.numbers.at in
    let block = c.block.result in
    let m = c.met-block.result in
    let w = c.numbers.invariant.walk in
    let same = ap (λ (s : Stored). length s.blocks) c.self.view_is in
    let few : suc n ≤ length i.blocks = omega (arith, c.numbers-test.true, c.end_of-number-end.ensures, c.numbers.invariant.count, same) in
    let here = block-here s c.args.doc.now i.chains i.blocks i.end c.numbers.carried n at block w few c.block.ensures in
    let context : m.context ≡ w.context = c.met-block.ensures.context w.expected w.context w.carried_is here.block.context_is in
    let is_old : block ≡ get_or old n block = c.block.ensures ∙ same-here i.blocks old n block c.numbers.invariant.below in
    let more = one-more old first n block c.numbers.invariant.from (omega (arith, few, c.numbers.invariant.count)) is_old in
    let lines : at + m.count ≡ c.args.above + lines_in (take (n + 1 - first) (drop first old)) = omega (arith, more, c.numbers.invariant.lines, c.met-block.ensures.count) in
    let further : drop (n + 1) i.blocks ≡ drop (n + 1) old = sym (drop-drop i.blocks 1 n) ∙ (ap (λ (bs : List Block). drop 1 bs) c.numbers.invariant.below ∙ drop-drop old 1 n) in
    let from : first ≤ n + 1 = omega (arith, c.numbers.invariant.from) in
    elim c.if-block.branch [
      | then-block+in-Ok+in_ok-after b ↦
          let new : Block = record { count = m.count; front = m.count; back = m.count; context = m.context; is_stale = false } in
          let next = block-listed s c.args.doc.now i.chains b.list_lines.new.chains i.blocks i.end c.numbers.carried n at m.front m.back block new b.in_ok-after.after w few c.block.ensures c.met-block.ensures.count refl context refl c.met-block.ensures.front c.met-block.ensures.back
          (λ ms h f e. let k = b.in_ok-after.ensures ms h (subst (λ (x : ℕ). AreLinesMentioned s ms x _) (sym b.in-Ok.ensures.1) f) (subst (λ (x : ℕ). AreLinesMentioned s ms x _) (sym b.in-Ok.ensures.1) e) in (subst (λ (x : ℕ). HaveListedLines s _ x ms b.list_lines.new.chains) b.in-Ok.ensures.1 k.0, k.1)) in
          rw (b.self-inside-is, b.carried-is, b.renew.ensures) (record {
            walk = next;
            count = length-set i.blocks n new ∙ c.numbers.invariant.count;
            below = drop-set-lt (n + 1) i.blocks n new (omega arith) ∙ further;
            lines = lines;
            from = from;
          })
      | else-block b ↦
          let same : m ≡ block = c.met-block.ensures.fresh b.if-block.false in
          let next = block-stays s c.args.doc.now i.chains i.blocks i.end c.numbers.carried n at block w few c.block.ensures (ap (λ (x : Block). x.is_stale) (sym same) ∙ b.if-block.false) (ap (λ (x : Block). x.context) (sym same) ∙ context) in
          rw (b.self-inside-is, b.carried-is) (record {
            walk = subst (λ (k : ℕ). IsRefreshed c.args.doc.now (record { scope = i.scope; chains = i.chains; blocks = i.blocks; end = i.end }) None (n + 1) (at + k)) (sym c.met-block.ensures.count) next;
            count = c.numbers.invariant.count;
            below = further;
            lines = lines;
            from = from;
          })
    ]

pub note_fresh-requires-clause-fresh : goal.note_fresh-requires-clause-fresh
note_fresh-requires-clause-fresh g c =
    let i = c.numbers.self-inside in
    let s = i.scope in
    let first = c.args.group * 128 in
    let n = c.numbers.number in
    let same = ap (λ (s : Stored). length s.blocks) c.self.view_is in
    let to : n ≤ c.end_of-number-end.result = omega (arith, c.numbers.auto.number-end, c.first_of-number.ensures, c.end_of-number-end.ensures, c.requires.in_range, same) in
    let end = end-is (length i.blocks) first n c.end_of-number-end.result (omega (arith, c.end_of-number-end.ensures, c.numbers.invariant.count, same)) c.numbers-test.false to in
    fresh-group i.blocks first n end c.numbers.invariant.walk.fresh

pub returns : goal.returns
returns g c =
    let i = c.numbers.self-inside in
    let s = i.scope in
    let old = c.args.self.now.blocks in
    let first = c.args.group * 128 in
    let n = c.numbers.number in
    let same = ap (λ (s : Stored). length s.blocks) c.self.view_is in
    let to : n ≤ c.end_of-number-end.result = omega (arith, c.numbers.auto.number-end, c.first_of-number.ensures, c.end_of-number-end.ensures, c.requires.in_range, same) in
    let most : n ≤ first + 128 = omega (arith, to, c.end_of-number-end.ensures) in
    let end = end-is (length i.blocks) first n c.end_of-number-end.result (omega (arith, c.end_of-number-end.ensures, c.numbers.invariant.count, same)) c.numbers-test.false to in
    let end_old = end-is (length old) first n c.end_of-number-end.result (omega (arith, c.end_of-number-end.ensures, same)) c.numbers-test.false to in
    let all = all-of-group old first n c.numbers.invariant.from end_old most in
    let lines : c.numbers.at ≡ c.args.above + lines_in (take 128 (drop first old)) = omega (arith, all, c.numbers.invariant.lines) in
    let walk = refreshing-to s c.args.doc.now i.chains i.blocks i.end c.numbers.carried n c.numbers.at (first + 128) c.numbers.invariant.walk end most in
    rw c.note_fresh.ensures (subst (λ (k : ℕ). IsRefreshed c.args.doc.now (record { scope = i.scope; chains = i.chains; blocks = i.blocks; end = i.end }) c.numbers.carried (first + 128) k) lines walk, c.numbers.invariant.count)
