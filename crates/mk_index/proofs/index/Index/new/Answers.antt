use Rattle.std.proofs.Common.{◌≡◌, ◌+◌, ◌*◌, ◌/◌, ◌%◌, refl, sym, subst, arith, List, [], length, Some}
use Rattle.mk_class.specs.Contexts.{start}
use Rattle.mk_index.specs.Blocks.{AreBlocks, unlisted}
use Rattle.mk_index.specs.declared.blocks.Block.{Block}
use Rattle.mk_index.proofs.on_blocks.MadeLemmas.{stale-run}
use Rattle.mk_index.proofs.index.Index.new.Goals as goal

pub returns : goal.returns
returns g c =
    let s = c.args.scope in
    let n = c.len.result in
    let sum : n / 16 * 16 + n % 16 ≡ length c.args.doc.now = omega (arith, c.len.ensures.number) in (
      record {
        mentions = [];
        chains_are = c.in_ok-chains.ensures;
        blocks_are = subst (λ (bs : List Block). AreBlocks s [] 0 (Some start) c.args.doc.now bs c.start.result) (sym c.in_ok-blocks.ensures)
            (stale-run s [] 0 (Some start) c.args.doc.now (n / 16) (unlisted 16) (unlisted (n % 16)) c.start.result refl refl refl refl refl refl refl refl sum);
      },
      refl,
    )
