use Rattle.std.proofs.Common.{◌≡◌, ◌∙◌, ◌<◌, refl, sym, ap, subst, length, get_or, arith}
use Rattle.std.proofs.lemmas.Bool.{eqb-true}
use Rattle.std.proofs.lemmas.List.{get_or_default}
use Rattle.mk_index.specs.Chains.{AreChainsOf, Stored, bucket_of}
use Rattle.mk_index.proofs.on_chains.WalkLemmas.{Walk, walk-from, walk-kept, walk-on, walks-over}
use Rattle.mk_index.proofs.chains.Chains.mark.Goals as goal

pub entries-init : goal.entries-init
entries-init g c =
    let heads = c.self.inside.heads.items in
    let stored : Stored = record { heads = heads; entries = c.self.inside.entries.items } in
    let counted : c.len.result ≡ length heads = c.len.ensures ∙ c.self.inside.heads.ok.0 in
    let is : c.bucket_of.result ≡ bucket_of (length heads) c.args.first = c.bucket_of.ensures.bucket ∙ ap (λ n. bucket_of n c.args.first) counted in
    let inside : c.bucket_of.result < length heads = subst (λ n. c.bucket_of.result < n) counted c.bucket_of.ensures.within in
    let head : c.index-number.result.now ≡ get_or heads c.bucket_of.result 0 = c.index-number.ensures ∙ get_or_default heads c.bucket_of.result c.index-number.result.now 0 inside in
    let counted2 : c.len-2.result ≡ length heads = c.len-2.ensures ∙ c.self.inside.heads.ok.0 in
    let is2 : c.bucket_of-2.result ≡ bucket_of (length heads) c.args.second = c.bucket_of-2.ensures.bucket ∙ ap (λ n. bucket_of n c.args.second) counted2 in
    let inside2 : c.bucket_of-2.result < length heads = subst (λ n. c.bucket_of-2.result < n) counted2 c.bucket_of-2.ensures.within in
    let head2 : c.index-other.result.now ≡ get_or heads c.bucket_of-2.result 0 = c.index-other.ensures ∙ get_or_default heads c.bucket_of-2.result c.index-other.result.now 0 inside2 in
    record {
      length = refl;
      kept = λ b h. h;
      walk = λ ms h. subst (λ (v : Stored). Walk ms c.args.first v c.index-number.result.now c.args.marks.now) c.self.view_is
          (walk-from ms c.args.first stored c.index-number.result.now c.args.marks.now (subst (AreChainsOf ms) (sym c.self.view_is) h)
          (subst (λ b. b < length heads) is inside) (head ∙ ap (λ b. get_or heads b 0) is));
      other = λ ms h. subst (λ (v : Stored). Walk ms c.args.second v c.index-other.result.now c.args.marks.now) c.self.view_is
          (walk-from ms c.args.second stored c.index-other.result.now c.args.marks.now (subst (AreChainsOf ms) (sym c.self.view_is) h)
          (subst (λ b. b < length heads) is2 inside2) (head2 ∙ ap (λ b. get_or heads b 0) is2));
    }

pub entries-preserved : goal.entries-preserved
entries-preserved g c =
    let now = c.args.self.now in
    let marks = c.entries.marks in
    let mid = c.mark_entry-number.new.marks in
    let new = c.mark_entry-other.new.marks in
    let a = c.mark_entry-number.ensures in
    let b = c.mark_entry-other.ensures in
    record {
      length = b.length ∙ (a.length ∙ c.entries.invariant.length);
      kept = λ i h. b.kept i (a.kept i (c.entries.invariant.kept i h));
      walk = λ ms h. walk-kept ms c.args.first now c.mark_entry-number.result mid new (walk-on ms c.args.first now c.entries.number c.mark_entry-number.result marks mid (c.entries.invariant.walk ms h) a.length a.kept a.none a.some) b.length b.kept;
      other = λ ms h. walk-on ms c.args.second now c.entries.other c.mark_entry-other.result mid new (walk-kept ms c.args.second now c.entries.other marks mid (c.entries.invariant.other ms h) a.length a.kept) b.length b.kept b.none b.some;
    }

pub returns-then-other-eq0-clause-marked : goal.returns-then-other-eq0-clause-marked
returns-then-other-eq0-clause-marked g c = λ done.
    let e : c.entries.number ≡ 0 = omega (arith, c.if-number-eq0.true) in
    let f : c.entries.other ≡ 0 = omega (arith, c.if-other-eq0.true) in
    walks-over c.args.first c.args.second c.args.self.now c.entries.number c.entries.other c.entries.marks c.entries.invariant.walk c.entries.invariant.other e f

pub returns-then-number-eq0-2-clause-marked : goal.returns-then-number-eq0-2-clause-marked
returns-then-number-eq0-2-clause-marked g c = λ done.
    let e : c.entries.number ≡ 0 = omega (arith, c.if-number-eq0-2.true) in
    walks-over c.args.first c.args.second c.args.self.now c.entries.number c.entries.other c.entries.marks c.entries.invariant.walk c.entries.invariant.other e (eqb-true c.entries.other 0 done)
