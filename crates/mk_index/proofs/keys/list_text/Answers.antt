use Rattle.std.proofs.Common.{◌≡◌, ◌∙◌, ◌∷◌, [], sym, ap, subst, map}
use Rattle.std.specs.Prelude.{OnOk}
use Rattle.std.proofs.lemmas.Bool.{not-false, not-true}
use Rattle.mk_tree.specs.Trees.{line_view}
use Rattle.mk_edit_parts.specs.Windows.{first_text}
use Rattle.mk_index.specs.Chains.{HaveListed, hash_of}
use Rattle.mk_index.specs.Keys.{listed, text_key}
use Rattle.mk_index.proofs.on_chains.KeyLemmas.{listed-all, listed-none}
use Rattle.mk_index.proofs.keys.list_text.Goals as goal

pub returns-then-not-scope : goal.returns-then-not-scope
returns-then-not-scope g c = λ ms h.
    let s = c.args.scope in
    let none = ap (map hash_of) (listed-none s.lines (text_key (first_text (line_view c.args.line.now).bytes) ∷ []) (not-true s.lines c.if-not-scope.true)) in
    subst (λ hs. HaveListed hs c.args.block ms c.args.chains.now) (sym none) (record { added = []; chains_are = h; mentioned = tt })

pub returns : goal.returns
returns g c = λ ms h.
    let s = c.args.scope in
    let key = text_key (first_text (line_view c.args.line.now).bytes) in
    let hash : c.hash_of_text.result ≡ hash_of key = c.hash_of_text.ensures ∙ ap (λ t. hash_of (text_key t)) (c.line_front.ensures ∙ ap first_text c.bytes.ensures.bytes) in
    let all : c.hash_of_text.result ∷ [] ≡ map hash_of (listed s.lines (key ∷ [])) =
    ap (λ x. x ∷ []) hash ∙ ap (map hash_of) (sym (listed-all s.lines (key ∷ []) (not-false s.lines c.if-not-scope.false))) in
    subst (λ hs. OnOk c.list.result (HaveListed hs c.args.block ms c.list.new.self)) all (c.list.ensures ms h)
