use Rattle.std.proofs.Common.{◌≡◌, ◌∙◌, ◌+◌, ◌<◌, ap, sym, subst, List, ◌∷◌, length, set}
use Rattle.std.proofs.lemmas.List.{get_or_default}
use Rattle.mk_index.specs.Chains.{AreChainsOf, bucket_of}
use Rattle.mk_index.specs.declared.chains.Entry.{Entry}
use Rattle.mk_index.proofs.on_chains.ChainLemmas.{chains-pushed}
use Rattle.mk_index.proofs.chains.Chains.push.Goals as goal

pub returns : goal.returns
returns g c = λ ms h.
    let heads = c.self.inside.heads.items in
    let counted : c.len-2.result ≡ length heads = c.len-2.ensures ∙ c.self.inside.heads.ok.0 in
    let number : c.len-3.result ≡ length c.self.inside.entries.items + 1 = c.len-3.ensures ∙ (c.in_ok-push.ensures.len ∙ ap (λ n. n + 1) c.self.inside.entries.ok.0) in
    let within : c.bucket_of-bucket.result < length heads = subst (λ n. c.bucket_of-bucket.result < n) counted c.bucket_of-bucket.ensures.within in
    subst (λ (es : List Entry). AreChainsOf (record { hash = c.args.hash; block = c.args.block } ∷ ms) (record { heads = set heads c.bucket_of-bucket.result c.len-3.result; entries = es })) (sym c.in_ok-push.ensures.items)
    (chains-pushed ms (record { heads = heads; entries = c.self.inside.entries.items }) (record { hash = c.args.hash; block = c.args.block }) c.bucket_of-bucket.result c.index-before.result.now c.len-3.result
    (subst (AreChainsOf ms) (sym c.self.view_is) h) (c.bucket_of-bucket.ensures.bucket ∙ ap (λ n. bucket_of n c.args.hash) counted) within
    (c.index-before.ensures ∙ get_or_default heads c.bucket_of-bucket.result c.index-before.result.now 0 within) number)
