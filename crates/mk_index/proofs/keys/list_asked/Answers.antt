use Rattle.std.proofs.Common.{[], ap, subst, sym, map, List, ℕ}
use Rattle.std.specs.Prelude.{OnOk}
use Rattle.mk_lines.specs.Words.{words_in}
use Rattle.mk_index.specs.Chains.{HaveListed, hash_of}
use Rattle.mk_index.proofs.on_chains.KeyLemmas.{listed-all, listed-none}
use Rattle.mk_index.proofs.keys.list_asked.Goals as goal

pub returns-then-not-is_asked : goal.returns-then-not-is_asked
returns-then-not-is_asked g c = λ ms h.
    subst (λ (hs : List ℕ). HaveListed hs c.args.block ms c.args.chains.now) (sym (ap (map hash_of) (listed-none c.args.is_asked (words_in c.args.text.now) c.if-not-is_asked.true))) (record { added = []; chains_are = h; mentioned = tt })

pub returns : goal.returns
returns g c = λ ms h.
    subst (λ (hs : List ℕ). OnOk c.list_words.result (HaveListed hs c.args.block ms c.list_words.new.chains)) (sym (ap (map hash_of) (listed-all c.args.is_asked (words_in c.args.text.now) c.if-not-is_asked.false))) (c.list_words.ensures ms h)
