use Rattle.std.proofs.Common.{ap, subst, sym, [], ◌∷◌, map}
use Rattle.mk_lines.specs.Words.{words_in}
use Rattle.mk_index.specs.Chains.{hash_of}
use Rattle.mk_index.proofs.on_chains.ListedLemmas.{Lists, lists-both}
use Rattle.mk_index.proofs.keys.list_words.Goals as goal

pub words-preserved : goal.words-preserved
words-preserved g c = λ e f.
    let first = hash_of c.in-Some.first.now in
    let after = map hash_of (words_in c.in-Some.after.now) in
    let listed : Lists (first ∷ []) c.args.block c.words.chains c.list.new.self =
    subst (λ h. Lists (h ∷ []) c.args.block c.words.chains c.list.new.self) c.hash_of.ensures (λ ms h. c.in_ok-list.ensures ms h) in
    c.words.invariant e (subst (λ hs. Lists hs c.args.block c.words.chains e) (sym (ap (map hash_of) c.in-Some.ensures.words))
    (lists-both (first ∷ []) after c.args.block c.words.chains c.list.new.self e listed f))
