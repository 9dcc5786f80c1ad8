use Rattle.std.proofs.Common.{◌≡◌, ◌∙◌, ap, subst, sym, inr, [], ◌∷◌, map, List, ℕ}
use Rattle.std.proofs.lemmas.Slice.Eq.{bytes_eq-Decides}
use Rattle.mk_lines.specs.Words.{words_in}
use Rattle.mk_index.specs.Chains.{hash_of}
use Rattle.mk_index.specs.Keys.{IsOneOf}
use Rattle.mk_index.proofs.on_chains.ButLemmas.{ListsBut, but-listed, but-there}
use Rattle.mk_index.proofs.on_chains.ListedLemmas.{Lists}
use Rattle.mk_index.proofs.keys.list_words_but.Goals as goal

pub words-preserved-in_ok-list-in-Some-split_first_word : goal.words-preserved-in_ok-list-in-Some-split_first_word
words-preserved-in_ok-list-in-Some-split_first_word g c = λ e f.
    let first = hash_of c.in-Some.first.now in
    let there = map hash_of (words_in c.words.there.now) in
    let behind = map hash_of (words_in c.in-Some-split_first_word.behind.now) in
    let after = map hash_of (words_in c.in-Some.after.now) in
    let listed : Lists (first ∷ []) c.args.block c.words.chains c.list.new.self =
    subst (λ h. Lists (h ∷ []) c.args.block c.words.chains c.list.new.self) c.hash_of.ensures (λ ms h. c.in_ok-list-in-Some-split_first_word.ensures ms h) in
    c.words.invariant e (subst (λ hs. ListsBut there hs c.args.block c.words.chains e) (sym (ap (map hash_of) c.in-Some.ensures.words))
    (but-listed first there behind after c.args.block c.words.chains c.list.new.self e (λ x is. subst (λ (hs : List ℕ). IsOneOf x hs) (sym (ap (map hash_of) c.in-Some-split_first_word.ensures.words)) (inr is)) listed f))

pub words-preserved-else-not-is_same_text : goal.words-preserved-else-not-is_same_text
words-preserved-else-not-is_same_text g c = λ e f.
    let first = hash_of c.in-Some.first.now in
    let behind = map hash_of (words_in c.in-Some-split_first_word.behind.now) in
    let after = map hash_of (words_in c.in-Some.after.now) in
    let same : c.in-Some.first.now ≡ c.in-Some-split_first_word.same.now = (bytes_eq-Decides c.in-Some.first.now c.in-Some-split_first_word.same.now).0 (sym c.is_same_text.ensures ∙ c.if-not-is_same_text.false) in
    let there : first ∷ behind ≡ map hash_of (words_in c.words.there.now) = ap (λ (w : List ℕ). hash_of w ∷ behind) same ∙ sym (ap (map hash_of) c.in-Some-split_first_word.ensures.words) in
    c.words.invariant e (subst (λ hs. ListsBut hs (map hash_of (words_in c.words.ahead.now)) c.args.block c.words.chains e) there
    (subst (λ hs. ListsBut (first ∷ behind) hs c.args.block c.words.chains e) (sym (ap (map hash_of) c.in-Some.ensures.words))
    (but-there first behind after c.args.block c.words.chains e f)))

pub words-preserved : goal.words-preserved
words-preserved g c = λ e f.
    let first = hash_of c.in-Some.first.now in
    let there = map hash_of (words_in c.words.there.now) in
    let after = map hash_of (words_in c.in-Some.after.now) in
    let listed : Lists (first ∷ []) c.args.block c.words.chains c.list-in-None.new.self =
    subst (λ h. Lists (h ∷ []) c.args.block c.words.chains c.list-in-None.new.self) c.hash_of-in-None.ensures (λ ms h. c.in_ok-list-in-None.ensures ms h) in
    c.words.invariant e (subst (λ hs. ListsBut there hs c.args.block c.words.chains e) (sym (ap (map hash_of) c.in-Some.ensures.words))
    (but-listed first there there after c.args.block c.words.chains c.list-in-None.new.self e (λ x is. is) listed f))
