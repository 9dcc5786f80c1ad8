use Rattle.std.proofs.Common.{◌++◌, ◌∷◌, [], sym, subst, map}
use Rattle.std.specs.Prelude.{OnOk}
use Rattle.std.proofs.lemmas.List.{map-append}
use Rattle.std.proofs.lemmas.Result.{on_ok_weaker}
use Rattle.mk_tree.specs.LocatedLines.{text_of_line}
use Rattle.mk_tree.specs.Trees.{line_view}
use Rattle.mk_edit_parts.specs.LocatedParts.{is_unread_located}
use Rattle.mk_edit_parts.specs.Windows.{first_text}
use Rattle.mk_index.specs.Chains.{HaveListed, hash_of}
use Rattle.mk_index.specs.Keys.{keys_in, listed, text_key, unread_key}
use Rattle.mk_index.proofs.on_chains.ListedLemmas.{listed-after}
use Rattle.mk_index.proofs.keys.list_keys.Goals as goal

pub returns : goal.returns
returns g c = λ ms h.
    let s = c.args.scope in
    let l = line_view c.args.line.now in
    let text = listed s.lines (text_key (first_text l.bytes) ∷ []) in
    let words = unread_key (is_unread_located l) ++ keys_in s (text_of_line l) l.class in
    let x = c.in_ok-list_text.ensures ms h in
    let new = c.list_words_of.new.chains in
    subst (λ hs. OnOk c.list_words_of.result (HaveListed hs c.args.block ms new)) (sym (map-append hash_of text words))
    (on_ok_weaker c.list_words_of.result (listed-after (map hash_of text) (map hash_of words) c.args.block ms c.list_text.new.chains new x) (c.list_words_of.ensures (x.added ++ ms) x.chains_are))
