use Rattle.std.proofs.Common.{◌≡◌, ◌∙◌, ◌+◌, ◌-◌, ◌/◌, ap, subst, arith, ℕ, List, Bool, length, take, drop, Some, None}
use Rattle.std.proofs.lemmas.List.{length-drop, take_all}
use Rattle.memchr.specs.Find.{IsFirstByte, is_byte}
use Rattle.mk_index.specs.Blocks.{IsNextMarked, NoneMarked}
use Rattle.mk_index.proofs.on_blocks.MarkLemmas.{next-marked, no-more-marked}
use Rattle.mk_index.proofs.marks.Marks.marked_group.Goals as goal

rest-of : (xs ys : List ℕ) (n : ℕ) → xs ≡ ys → take (length xs - n) (drop n xs) ≡ drop n ys
rest-of xs ys n e = let l = length-drop n xs in take_all (length xs - n) (drop n xs) (omega (arith, l)) ∙ ap (drop n) e

pub returns-in-Some : goal.returns-in-Some
returns-in-Some g c =
    let gs = c.self.inside.groups.items in
    let all : take (length c.deref.result.now - c.args.from) (drop c.args.from c.deref.result.now) ≡ drop c.args.from gs = rest-of c.deref.result.now gs c.args.from c.deref.ensures.value in
    subst (λ (ms : List Bool). IsNextMarked c.args.from (c.args.from + c.in-Some.passed) ms) c.self.view_is (next-marked c.self.inside.blocks.items gs c.args.from c.in-Some.passed c.self.invariant (subst (λ (hay : List ℕ). IsFirstByte (is_byte 1) hay (Some c.in-Some.passed)) all c.in-Some.ensures))

pub returns-in-None : goal.returns-in-None
returns-in-None g c =
    let gs = c.self.inside.groups.items in
    let all : take (length c.deref.result.now - c.args.from) (drop c.args.from c.deref.result.now) ≡ drop c.args.from gs = rest-of c.deref.result.now gs c.args.from c.deref.ensures.value in
    subst (λ (ms : List Bool). NoneMarked c.args.from (length ms / 128 + 1) ms) c.self.view_is (no-more-marked c.self.inside.blocks.items gs c.args.from c.self.invariant (subst (λ (hay : List ℕ). IsFirstByte (is_byte 1) hay None) all c.in-None.ensures))
