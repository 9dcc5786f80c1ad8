use Rattle.std.proofs.Common.{◌++◌, [], subst, rules, map}
use Rattle.mk_tree.specs.LocatedLines.{text_of_line}
use Rattle.mk_tree.specs.Trees.{line_view}
use Rattle.mk_class.specs.declared.class.Class.{Class}
use Rattle.mk_edit_parts.specs.RenamedRanges.{word_parts}
use Rattle.mk_index.specs.Chains.{hash_of}
use Rattle.mk_index.specs.Exchanges.{AreAlike, HaveListedBut}
use Rattle.mk_index.specs.Keys.{words_of_parts}
use Rattle.mk_index.proofs.on_chains.ButLemmas.{alike-exchanged, but-after, but-all, text_hashed, words_hashed}
use Rattle.mk_index.proofs.keys.list_exchanged.Goals as goal

pub returns : goal.returns
returns g c = λ ms h.
    let s = c.args.scope in
    let k = line_view c.args.old.now in
    let l = line_view c.args.new.now in
    let new = c.list_parts_but.new.chains in
    let alike : AreAlike k.class l.class = subst (λ (x : Class). AreAlike x l.class) c.class-was.ensures (subst (λ (x : Class). AreAlike c.class-was.result x) c.class-class.ensures (c.are_alike.ensures (search rules))) in
    let text = c.in_ok-list_text.ensures ms h in
    let before = text.added ++ ms in
    let listed : HaveListedBut (words_hashed s k) (words_hashed s l) c.args.block before new =
    subst (λ (x : Class). HaveListedBut (map hash_of (words_of_parts s (text_of_line k) (word_parts x))) (words_hashed s l) c.args.block before new) c.class-was.ensures
    (subst (λ (x : Class). HaveListedBut (map hash_of (words_of_parts s (text_of_line k) (word_parts c.class-was.result))) (map hash_of (words_of_parts s (text_of_line l) (word_parts x))) c.args.block before new) c.class-class.ensures
    (c.in_ok-list_parts_but.ensures before text.chains_are)) in
    alike-exchanged s k l c.args.block _ ms new alike (but-after [] (text_hashed s l) (words_hashed s k) (words_hashed s l) c.args.block ms c.list_text.new.chains new (but-all (text_hashed s l) c.args.block ms c.list_text.new.chains text) listed)
