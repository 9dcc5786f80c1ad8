use Rattle.std.proofs.Common.{◌∙◌, ◌++◌, [], sym, ap, subst, map, List, ℕ}
use Rattle.std.specs.Prelude.{OnOk}
use Rattle.std.proofs.lemmas.Result.{on_ok_weaker}
use Rattle.mk_lines.specs.Words.{words_in}
use Rattle.mk_tree.specs.LocatedLines.{text_of_line}
use Rattle.mk_tree.specs.Trees.{line_view}
use Rattle.mk_index.specs.Chains.{HaveListed, hash_of}
use Rattle.mk_index.specs.Keys.{listed}
use Rattle.mk_index.proofs.on_chains.KeyLemmas.{hashes-parts, no-words}
use Rattle.mk_index.proofs.on_chains.ListedLemmas.{listed-after, lists-both}
use Rattle.mk_index.proofs.keys.list_parts.Goals as goal

pub returns-then-not-has_parts : goal.returns-then-not-has_parts
returns-then-not-has_parts g c = λ ms h.
    let none = ap (map hash_of) (no-words c.args.scope (text_of_line (line_view c.args.line.now)) c.args.class.now (sym c.has_parts.ensures ∙ c.if-not-has_parts.true)) in
    subst (λ (hs : List ℕ). HaveListed hs c.args.block ms c.args.chains.now) (sym none) (record { added = []; chains_are = h; mentioned = tt })

pub returns : goal.returns
returns g c = λ ms h.
    let s = c.args.scope in
    let b = c.args.block in
    let t = map hash_of (listed s.targets (words_in c.part.result.now)) in
    let n = map hash_of (listed s.prerequisites (words_in c.part-2.result.now)) in
    let o = map hash_of (listed s.prerequisites (words_in c.part-3.result.now)) in
    let mid = c.list_asked-2.new.chains in
    let new = c.list_asked-3.new.chains in
    let two = lists-both t n b c.args.chains.now c.list_asked.new.chains mid (λ xs k. c.in_ok-list_asked.ensures xs k) (λ xs k. c.in_ok-list_asked-2.ensures xs k) ms h in
    let all = hashes-parts s c.text_of_line-text.result.now _ c.parts_of-parts.result _ c.part.result.now c.part-2.result.now c.part-3.result.now c.text_of_line-text.ensures c.parts_of-parts.ensures.parts c.part.ensures c.part-2.ensures c.part-3.ensures in
    subst (λ (hs : List ℕ). OnOk c.list_asked-3.result (HaveListed hs b ms new)) all
    (on_ok_weaker c.list_asked-3.result (listed-after (t ++ n) o b ms mid new two) (c.list_asked-3.ensures (two.added ++ ms) two.chains_are))
