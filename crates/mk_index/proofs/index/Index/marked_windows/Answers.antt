use Rattle.std.proofs.Common.{◌≡◌, ◌∙◌, ◌+◌, ◌*◌, ◌/◌, ◌≤◌, sym, ap, subst, arith, ℕ, length, take, ◌++◌, ◌∷◌, []}
use Rattle.std.proofs.lemmas.List.{take_all}
use Rattle.mk_class.specs.Contexts.{Context}
use Rattle.mk_edit_parts.proofs.on_finding.SeekLemmas.{faithful-each}
use Rattle.mk_edit_parts.specs.Windows.{AreWindows, first_place}
use Rattle.mk_index.specs.Blocks.{NoneMarked, blocks_of, lines_in}
use Rattle.mk_index.specs.Indexes.{Stored}
use Rattle.mk_index.specs.Walks.{HasWindows}
use Rattle.mk_index.proofs.on_blocks.GroupLemmas.{lines_in-some, next-group}
use Rattle.mk_index.proofs.on_blocks.MadeLemmas.{lines-counted}
use Rattle.mk_index.proofs.on_blocks.WindowLemmas.{collected-from, collected-over, windows-added, windows-skip}
use Rattle.mk_index.proofs.index.Index.marked_windows.Goals as goal

pub groups-init : goal.groups-init
groups-init g c = record {
  few = omega arith;
  windows = λ test ms h idle. let s = c.args.self.now.scope in rw c.new-windows.ensures.items (collected-from s test c.args.doc.now ms c.args.self.now.blocks c.args.self.now.end h c.requires.index.fresh (faithful-each c.args.doc.now c.requires.faithful));
}

pub above-above-requires-clause-few : goal.above-above-requires-clause-few
above-above-requires-clause-few g c =
    let i = c.requires.index.index_is in
    let all = lines-counted c.args.self.now.scope i.mentions 0 _ c.args.doc.now c.args.self.now.blocks c.args.self.now.end i.blocks_are in
    let same : lines_in c.self.inside.blocks ≡ lines_in c.args.self.now.blocks = ap (λ (s : Stored). lines_in s.blocks) c.self.view_is in
    let most = c.len-lines.ensures.few in
    grind (arith, all, same, most)

pub add_windows-requires-clause-few : goal.add_windows-requires-clause-few
add_windows-requires-clause-few g c =
    let i = c.requires.index.index_is in
    let bs = c.self.inside.blocks in
    let all = lines-counted c.args.self.now.scope i.mentions 0 _ c.args.doc.now c.args.self.now.blocks c.args.self.now.end i.blocks_are in
    let same : lines_in bs ≡ lines_in c.args.self.now.blocks = ap (λ (s : Stored). lines_in s.blocks) c.self.view_is in
    let more = next-group bs c.in-Some.group in
    let some = lines_in-some bs ((c.in-Some.group + 1) * 128) in
    let most = c.len-lines.ensures.few in
    grind (arith, all, same, more, some, most, c.above-above.ensures)

pub groups-preserved : goal.groups-preserved
groups-preserved g c =
    let k = c.in-Some.group in
    let is = c.in-Some.ensures in
    let bs = c.args.self.now.blocks in
    let there : k ≤ length bs / 128 = subst (λ (n : ℕ). k ≤ n / 128) c.requires.marks is.there in
    let above : c.above-above.result ≡ lines_in (take (k * 128) bs) = c.above-above.ensures ∙ ap (λ (s : Stored). lines_in (take (k * 128) s.blocks)) c.self.view_is in
    record {
      few = omega (arith, there);
      windows = λ test ms h idle.
          let s = c.args.self.now.scope in
          let end = c.args.self.now.end in
          let doc = c.args.doc.now in
          let items = c.groups.windows.items in
          let new = c.add_windows.new.windows.items in
          let here = windows-skip s test doc ms c.args.marks.now bs end c.groups.from k items idle c.requires.marks is.below is.none (c.groups.invariant.windows test ms h idle) in
          let from = subst (λ (n : ℕ). HasWindows s test doc ms bs end (k * 128) n items) (sym above) here in
          let made = c.in_ok-add_windows.ensures s test doc ms end idle (subst (λ (x : Stored). HasWindows s test doc ms x.blocks end (k * 128) c.above-above.result items) (sym c.self.view_is) from) in
          windows-added s test doc ms bs end k c.above-above.result new above (subst (λ (x : Stored). HasWindows s test doc ms x.blocks end (k * 128 + 128) (c.above-above.result + lines_in (blocks_of k x.blocks)) new) c.self.view_is made);
    }

pub returns : goal.returns
returns g c = λ test ms h idle.
    let s = c.args.self.now.scope in
    let doc = c.args.doc.now in
    let bs = c.args.self.now.blocks in
    let items = c.groups.windows.items in
    let to = length bs / 128 + 1 in
    let none : NoneMarked c.groups.from to c.args.marks.now = subst (λ (n : ℕ). NoneMarked c.groups.from (n / 128 + 1) c.args.marks.now) c.requires.marks c.in_default.ensures in
    let over = windows-skip s test doc ms c.args.marks.now bs c.args.self.now.end c.groups.from to items idle c.requires.marks c.groups.invariant.few none (c.groups.invariant.windows test ms h idle) in
    let past : length bs ≤ to * 128 = omega arith in
    let all : lines_in (take (to * 128) bs) ≡ c.len-lines.result = ap lines_in (take_all (to * 128) bs past) ∙ (lines-counted s ms 0 _ doc bs c.args.self.now.end h ∙ sym c.len-lines.ensures.number) in
    let end : c.self.inside.end ≡ c.args.self.now.end = ap (λ (s : Stored). s.end) c.self.view_is in
    let made = collected-over s test doc ms bs c.args.self.now.end (to * 128) (lines_in (take (to * 128) bs)) items over past in
    let at = subst (λ (n : ℕ). AreWindows test first_place doc (items ++ record { place = record { at = n; context = c.args.self.now.end }; count = 0 } ∷ [])) all made in
    rw c.in_ok-push.ensures.items (subst (λ (x : Context). AreWindows test first_place doc (items ++ record { place = record { at = c.len-lines.result; context = x }; count = 0 } ∷ [])) (sym end) at)
