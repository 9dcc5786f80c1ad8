use Rattle.std.proofs.Common.{◌≡◌, ◌∙◌, sym, ap, subst, [], ◌∷◌, ◌++◌, map, length, arith}
use Rattle.std.specs.Prelude.{OnOk}
use Rattle.std.proofs.lemmas.Bool.{not-false, not-true}
use Rattle.std.proofs.lemmas.List.{append-nil, map-append}
use Rattle.std.proofs.lemmas.Result.{on_ok_weaker}
use Rattle.mk_lines.specs.Ranges.{text_at}
use Rattle.mk_tree.specs.LocatedLines.{text_of_line}
use Rattle.mk_tree.specs.Trees.{line_view}
use Rattle.mk_edit_parts.specs.LocatedParts.{is_unread_located}
use Rattle.mk_edit_parts.specs.RenamedRanges.{word_parts}
use Rattle.mk_edit_parts.proofs.on_finding.PartLemmas.{seen-assign, text-length}
use Rattle.mk_index.specs.Chains.{HaveListed, hash_of}
use Rattle.mk_index.specs.Keys.{keys_in, listed, unread_key, words_of_parts}
use Rattle.mk_index.proofs.on_chains.KeyLemmas.{keys-other, listed-all, listed-none}
use Rattle.mk_index.proofs.on_chains.ListedLemmas.{listed-after}
use Rattle.mk_index.proofs.keys.list_words_of.Goals as goal

pub part-name-requires-clause-within : goal.part-name-requires-clause-within
part-name-requires-clause-within g c =
    let l = line_view c.args.line.now in
    let S = seen-assign l c.requires.classed _ _ (sym c.requires.class ∙ c.in-Assign.is) in
    omega (arith, ap length c.text_of_line.ensures, text-length l, S.2.name.within)

pub returns-else-not-scope : goal.returns-else-not-scope
returns-else-not-scope g c = λ ms h.
    let s = c.args.scope in
    let l = line_view c.args.line.now in
    let u = unread_key (is_unread_located l) in
    let x = c.in_ok-list_unread.ensures ms h in
    let new = c.list.new.self in
    let hash : c.hash_of.result ≡ hash_of (text_at (text_of_line l) c.in-Assign.assignment.name) =
    c.hash_of.ensures ∙ ap hash_of (c.part-name.ensures ∙ ap (λ t. text_at t c.in-Assign.assignment.name) c.text_of_line.ensures) in
    let asked : c.hash_of.result ∷ [] ≡ map hash_of (listed s.names (text_at (text_of_line l) c.in-Assign.assignment.name ∷ [])) =
    ap (λ x. x ∷ []) hash ∙ ap (map hash_of) (sym (listed-all s.names (text_at (text_of_line l) c.in-Assign.assignment.name ∷ []) (not-false s.names c.if-not-scope.false))) in
    let all : map hash_of u ++ c.hash_of.result ∷ [] ≡ map hash_of (u ++ keys_in s (text_of_line l) l.class) =
    ap (λ x. map hash_of u ++ x) asked ∙ (ap (λ k. map hash_of u ++ map hash_of (keys_in s (text_of_line l) k)) (sym (sym c.requires.class ∙ c.in-Assign.is)) ∙ sym (map-append hash_of u (keys_in s (text_of_line l) l.class))) in
    subst (λ hs. OnOk c.list.result (HaveListed hs c.args.block ms new)) all
    (on_ok_weaker c.list.result (listed-after (map hash_of u) (c.hash_of.result ∷ []) c.args.block ms c.list_unread.new.chains new x) (c.list.ensures (x.added ++ ms) x.chains_are))

pub returns-then-not-scope : goal.returns-then-not-scope
returns-then-not-scope g c = λ ms h.
    let s = c.args.scope in
    let l = line_view c.args.line.now in
    let u = unread_key (is_unread_located l) in
    let t = text_of_line l in
    let none : listed s.names (text_at t c.in-Assign.assignment.name ∷ []) ≡ [] = listed-none s.names (text_at t c.in-Assign.assignment.name ∷ []) (not-true s.names c.if-not-scope.true) in
    let all : map hash_of u ≡ map hash_of (u ++ keys_in s (text_of_line l) l.class) =
    ap (map hash_of) (sym (append-nil u)) ∙ (ap (λ ks. map hash_of (u ++ ks)) (sym none) ∙ ap (λ k. map hash_of (u ++ keys_in s t k)) (sym (sym c.requires.class ∙ c.in-Assign.is))) in
    subst (λ hs. HaveListed hs c.args.block ms c.list_unread.new.chains) all (c.in_ok-list_unread.ensures ms h)

pub returns-in_default : goal.returns-in_default
returns-in_default g c = λ ms h.
    let s = c.args.scope in
    let l = line_view c.args.line.now in
    let t = text_of_line l in
    let u = unread_key (is_unread_located l) in
    let words = words_of_parts s t (word_parts c.args.class.now) in
    let x = c.in_ok-list_unread.ensures ms h in
    let new = c.list_parts.new.chains in
    let keys : words ≡ keys_in s t l.class = sym (keys-other s t c.args.class.now c.in_default.not-Assign) ∙ ap (keys_in s t) c.requires.class in
    let all : map hash_of u ++ map hash_of words ≡ map hash_of (u ++ keys_in s (text_of_line l) l.class) = ap (λ ks. map hash_of u ++ map hash_of ks) keys ∙ sym (map-append hash_of u (keys_in s t l.class)) in
    subst (λ hs. OnOk c.list_parts.result (HaveListed hs c.args.block ms new)) all
    (on_ok_weaker c.list_parts.result (listed-after (map hash_of u) (map hash_of words) c.args.block ms c.list_unread.new.chains new x) (c.list_parts.ensures (x.added ++ ms) x.chains_are))
