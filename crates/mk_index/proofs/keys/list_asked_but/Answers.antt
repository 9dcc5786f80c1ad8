use Rattle.std.proofs.Common.{◌≡◌, ap, subst, sym, map, List, ℕ}
use Rattle.std.specs.Prelude.{OnOk}
use Rattle.mk_lines.specs.Words.{words_in}
use Rattle.mk_index.specs.Chains.{hash_of}
use Rattle.mk_index.specs.Exchanges.{HaveListedBut}
use Rattle.mk_index.specs.Keys.{listed}
use Rattle.mk_index.proofs.on_chains.ButLemmas.{but-none}
use Rattle.mk_index.proofs.on_chains.KeyLemmas.{listed-all, listed-none}
use Rattle.mk_index.proofs.keys.list_asked_but.Goals as goal

pub returns-then-not-is_asked : goal.returns-then-not-is_asked
returns-then-not-is_asked g c = λ ms h.
    let there = map hash_of (listed c.args.is_asked (words_in c.args.there.now)) in
    subst (λ (hs : List ℕ). HaveListedBut there hs c.args.block ms c.args.chains.now) (sym (ap (map hash_of) (listed-none c.args.is_asked (words_in c.args.text.now) c.if-not-is_asked.true))) (but-none there c.args.block c.args.chains.now ms h)

pub returns : goal.returns
returns g c = λ ms h.
    let new = c.list_words_but.new.chains in
    let all : (ws : List (List ℕ)) → map hash_of ws ≡ map hash_of (listed c.args.is_asked ws) = λ ws. sym (ap (map hash_of) (listed-all c.args.is_asked ws c.if-not-is_asked.false)) in
    subst (λ (ts : List ℕ). OnOk c.list_words_but.result (HaveListedBut ts (map hash_of (listed c.args.is_asked (words_in c.args.text.now))) c.args.block ms new)) (all (words_in c.args.there.now))
    (subst (λ (hs : List ℕ). OnOk c.list_words_but.result (HaveListedBut (map hash_of (words_in c.args.there.now)) hs c.args.block ms new)) (all (words_in c.args.text.now))
    (c.list_words_but.ensures ms h))
