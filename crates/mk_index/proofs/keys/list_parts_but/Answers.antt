use Rattle.std.proofs.Common.{◌∙◌, ◌++◌, sym, ap, subst, map, List, ℕ}
use Rattle.std.specs.Prelude.{OnOk}
use Rattle.std.proofs.lemmas.Result.{on_ok_weaker}
use Rattle.mk_lines.specs.Words.{words_in}
use Rattle.mk_tree.specs.LocatedLines.{text_of_line}
use Rattle.mk_tree.specs.Trees.{line_view}
use Rattle.mk_edit_parts.specs.RenamedRanges.{word_parts}
use Rattle.mk_index.specs.Chains.{hash_of}
use Rattle.mk_index.specs.Exchanges.{HaveListedBut}
use Rattle.mk_index.specs.Keys.{listed, words_of_parts}
use Rattle.mk_index.proofs.on_chains.ButLemmas.{but-after, but-none}
use Rattle.mk_index.proofs.on_chains.KeyLemmas.{hashes-parts, no-words}
use Rattle.mk_index.proofs.keys.list_parts_but.Goals as goal

pub returns-then-not-has_parts : goal.returns-then-not-has_parts
returns-then-not-has_parts g c = λ ms h.
    let s = c.args.scope in
    let there = map hash_of (words_of_parts s (text_of_line (line_view c.args.old.now)) (word_parts c.args.was.now)) in
    let none = ap (map hash_of) (no-words s (text_of_line (line_view c.args.line.now)) c.args.class.now (sym c.has_parts.ensures ∙ c.if-not-has_parts.true)) in
    subst (λ (hs : List ℕ). HaveListedBut there hs c.args.block ms c.args.chains.now) (sym none) (but-none there c.args.block c.args.chains.now ms h)

pub returns : goal.returns
returns g c = λ ms h.
    let s = c.args.scope in
    let b = c.args.block in
    let T : List (List ℕ) → List ℕ = λ ws. map hash_of (listed s.targets ws) in
    let P : List (List ℕ) → List ℕ = λ ws. map hash_of (listed s.prerequisites ws) in
    let t1 = T (words_in c.part.result.now) in
    let h1 = T (words_in c.part-2.result.now) in
    let t2 = P (words_in c.part-3.result.now) in
    let h2 = P (words_in c.part-4.result.now) in
    let t3 = P (words_in c.part-5.result.now) in
    let h3 = P (words_in c.part-6.result.now) in
    let mid = c.list_asked_but-2.new.chains in
    let new = c.list_asked_but-3.new.chains in
    let done = c.list_asked_but-3.result in
    let one = c.in_ok-list_asked_but.ensures ms h in
    let two = but-after t1 h1 t2 h2 b ms c.list_asked_but.new.chains mid one (c.in_ok-list_asked_but-2.ensures (one.added ++ ms) one.chains_are) in
    let old = hashes-parts s c.text_of_line-before.result.now _ c.parts_of-there.result _ c.part.result.now c.part-3.result.now c.part-5.result.now c.text_of_line-before.ensures c.parts_of-there.ensures.parts c.part.ensures c.part-3.ensures c.part-5.ensures in
    let all = hashes-parts s c.text_of_line-after.result.now _ c.parts_of-here.result _ c.part-2.result.now c.part-4.result.now c.part-6.result.now c.text_of_line-after.ensures c.parts_of-here.ensures.parts c.part-2.ensures c.part-4.ensures c.part-6.ensures in
    subst (λ (ts : List ℕ). OnOk done (HaveListedBut ts (map hash_of (words_of_parts s (text_of_line (line_view c.args.line.now)) (word_parts c.args.class.now))) b ms new)) old
    (subst (λ (hs : List ℕ). OnOk done (HaveListedBut ((t1 ++ t2) ++ t3) hs b ms new)) all
    (on_ok_weaker done (but-after (t1 ++ t2) (h1 ++ h2) t3 h3 b ms mid new two) (c.list_asked_but-3.ensures (two.added ++ ms) two.chains_are)))
