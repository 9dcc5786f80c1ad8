use Rattle.std.proofs.Common.{◌≡◌, ◌∙◌, ◌+◌, ◌*◌, ◌≤◌, refl, sym, ap, subst, arith, ℕ, Option, Some, None, length, false}
use Rattle.std.specs.Prelude.{is_some}
use Rattle.mk_class.specs.Contexts.{Context}
use Rattle.mk_index.specs.Blocks.{AreFresh, blocks_of, lines_in}
use Rattle.mk_index.specs.Indexes.{IsFreshIndexOf, Stored}
use Rattle.mk_index.specs.Walks.{IsRefreshed}
use Rattle.mk_index.proofs.on_blocks.RefreshLemmas.{Refreshing, refreshed-within, refreshing-enough, refreshing-from, refreshing-past}
use Rattle.mk_index.proofs.index.Index.refresh_groups.Goals as goal
use Rattle.mk_index.proofs.index.Index.refresh_groups.Goals.{then-may_be_stale+in_ok-carried, else-may_be_stale+else-is_some, in-Some, in_default}

pub groups-init : goal.groups-init
groups-init g c = record { walk = refreshing-from c.args.doc.now c.args.self.now c.requires.index; count = refl }

pub group-lines-requires : goal.group-lines-requires
group-lines-requires g c =
    let now = ap (λ (s : Stored). length s.blocks) c.self-in-groups.view_is in
    let first = ap (λ (s : Stored). length s.blocks) c.self.view_is in
    omega (arith, c.groups-test.true, c.group_count-group-end.ensures, c.groups.invariant.count, now, first)

pub refresh_group-requires-clause-in_range : goal.refresh_group-requires-clause-in_range
refresh_group-requires-clause-in_range g c =
    let first = ap (λ (s : Stored). length s.blocks) c.self.view_is in
    omega (arith, c.groups-test.true, c.group_count-group-end.ensures, c.groups.invariant.count, first)

pub refresh_group-requires-clause-walk : goal.refresh_group-requires-clause-walk
refresh_group-requires-clause-walk g c = c.groups.invariant.walk

-- nothing is carried
none-carried : (o : Option Context) → is_some o ≡ false → o ≡ None
none-carried None h = refl
none-carried (Some x) h = absurd (cc)

pub groups-preserved : goal.groups-preserved
groups-preserved g c =
    let k = c.groups.group in
    let s = c.groups.self in
    let lines : c.group-lines.result.lines ≡ lines_in (blocks_of k s.blocks) = c.group-lines.ensures.lines_are ∙ ap (λ (i : Stored). lines_in (blocks_of k i.blocks)) c.self-in-groups.view_is in
    let next : k * 128 + 128 ≡ (k + 1) * 128 = omega arith in
    let at : c.groups.at + lines_in (blocks_of k s.blocks) ≡ c.groups.at + c.group-lines.result.lines = omega (arith, lines) in
    elim c.if-may_be_stale.branch [
      | then-may_be_stale+in_ok-carried b ↦
          let made = b.in_ok-carried.ensures in
          rw (b.self-is, b.carried-is) (record {
            walk = subst (λ (n : ℕ). IsRefreshed c.args.doc.now b.refresh_group.new.self b.in_ok-carried.carried n (c.groups.at + c.group-lines.result.lines)) next
                (subst (λ (n : ℕ). IsRefreshed c.args.doc.now b.refresh_group.new.self b.in_ok-carried.carried (k * 128 + 128) n) at made.0);
            count = made.1 ∙ c.groups.invariant.count;
          })
      | else-may_be_stale+else-is_some b ↦
          let none : c.groups.carried ≡ None = none-carried c.groups.carried (sym b.is_some.ensures ∙ b.if-is_some.false) in
          let fresh : AreFresh (blocks_of k s.blocks) = subst (λ (i : Stored). AreFresh (blocks_of k i.blocks)) c.self-in-groups.view_is (c.group-lines.ensures.are_fresh b.if-may_be_stale.false) in
          let w = subst (λ (o : Option Context). Refreshing s.scope c.args.doc.now s.chains s.blocks s.end o (k * 128) c.groups.at) none c.groups.invariant.walk in
          let past = refreshing-past s.scope c.args.doc.now s.chains s.blocks s.end (k * 128) c.groups.at 128 w fresh in
          rw (b.self-is, b.carried-is, none) (record {
            walk = subst (λ (n : ℕ). Refreshing s.scope c.args.doc.now s.chains s.blocks s.end None n (c.groups.at + c.group-lines.result.lines)) next
                (subst (λ (n : ℕ). Refreshing s.scope c.args.doc.now s.chains s.blocks s.end None (k * 128 + 128) n) at past);
            count = c.groups.invariant.count;
          })
    ]

pub overflow_add-at : goal.overflow_add-at
overflow_add-at g c =
    let within = refreshed-within c.args.doc.now _ _ _ _ (groups-preserved g c).walk in
    let most = c.len-lines.ensures.few in
    grind (arith, within, most)

pub returns-then-self-eq0 : goal.returns-then-self-eq0
returns-then-self-eq0 g c =
    let s = c.groups.self in
    let first = ap (λ (s : Stored). length s.blocks) c.self.view_is in
    let past : length s.blocks ≤ c.groups.group * 128 = omega (arith, c.groups-test.false, c.group_count-group-end.ensures, c.groups.invariant.count, first) in
    let over : (last : Context) → (c.groups.carried ≡ None → last ≡ s.end) → ((x : Context) → c.groups.carried ≡ Some x → last ≡ x) → IsFreshIndexOf c.args.doc.now (record { scope = c.self-2.inside.scope; chains = c.self-2.inside.chains; blocks = c.self-2.inside.blocks; end = last })
    = λ last none some. subst (λ (i : Stored). IsFreshIndexOf c.args.doc.now (record { scope = i.scope; chains = i.chains; blocks = i.blocks; end = last })) (sym c.self-2.view_is)
    (refreshing-enough s.scope c.args.doc.now s.chains s.blocks s.end c.groups.carried (c.groups.group * 128) c.groups.at c.groups.invariant.walk last past none some) in
    elim c.match-carried.branch [
      | in-Some b ↦ rw b.self-inside-is (over b.in-Some.context (λ e. absurd (let is = b.in-Some.is in cc)) (λ x e. let is = b.in-Some.is in cc))
      | in_default b ↦ rw b.self-inside-is (over c.self-2.inside.end (λ e. ap (λ (i : Stored). i.end) c.self-2.view_is) (λ x e. absurd (let is = b.in_default.is in cc)))
    ]

pub returns-else-self-eq0 : goal.returns-else-self-eq0
returns-else-self-eq0 g c =
    let s = c.groups.self in
    let first = ap (λ (s : Stored). length s.blocks) c.self.view_is in
    let past : length s.blocks ≤ c.groups.group * 128 = omega (arith, c.groups-test.false, c.group_count-group-end.ensures, c.groups.invariant.count, first) in
    let over : (last : Context) → (c.groups.carried ≡ None → last ≡ s.end) → ((x : Context) → c.groups.carried ≡ Some x → last ≡ x) → IsFreshIndexOf c.args.doc.now (record { scope = c.self-2.inside.scope; chains = c.self-2.inside.chains; blocks = c.self-2.inside.blocks; end = last })
    = λ last none some. subst (λ (i : Stored). IsFreshIndexOf c.args.doc.now (record { scope = i.scope; chains = i.chains; blocks = i.blocks; end = last })) (sym c.self-2.view_is)
    (refreshing-enough s.scope c.args.doc.now s.chains s.blocks s.end c.groups.carried (c.groups.group * 128) c.groups.at c.groups.invariant.walk last past none some) in
    elim c.match-carried.branch [
      | in-Some b ↦ rw b.self-inside-is (over b.in-Some.context (λ e. absurd (let is = b.in-Some.is in cc)) (λ x e. let is = b.in-Some.is in cc))
      | in_default b ↦ rw b.self-inside-is (over c.self-2.inside.end (λ e. ap (λ (i : Stored). i.end) c.self-2.view_is) (λ x e. absurd (let is = b.in_default.is in cc)))
    ]
