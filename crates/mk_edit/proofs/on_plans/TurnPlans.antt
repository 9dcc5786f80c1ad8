-- Lines that an edit changes, each in its place, exchanged in two turns: the moves of the turns lead to the lines after the edit,
-- and hold few lines.
use Rattle.std.proofs.Common.{◌≡◌, refl, sym, ap, ◌∙◌, subst, arith, ◌+◌, ◌≤◌, Bool, true, false, List, [], ◌∷◌, ◌++◌, map, length, filter}
use Rattle.std.specs.Prelude.{if◌then◌else◌}
use Rattle.mk_lines.specs.Limits.{max_text}
use Rattle.mk_class.specs.Contexts.{Context, context_after_located}
use Rattle.mk_tree.specs.LocatedLines.{LocatedLine, size_of}
use Rattle.mk_patch.specs.Moves.{Move, IsPlain, FitMoves, after_moves, held_by, taken_by}
use Rattle.mk_patch.proofs.on_moves.MoveLemmas.{after_moves-append, fit-append, held_by-append, taken_by-append}
use Rattle.mk_patch.proofs.on_moves.ShapeLemmas.{LeadTo}
use Rattle.mk_patch.proofs.on_moves.ExchangeLemmas.{exchanges, DifferWhereChosen, AreNoLonger, how_many, exchanges-lead, exchanges-held_chosen, exchanges-taken_chosen, within-shrunk, within-grown}
use Rattle.mk_edit.proofs.on_renaming.LinesAlong.{line_where}
use Rattle.mk_edit.proofs.on_renaming.PatchPlans.{ArePartedTests, differ-again, differ-line, filter-step, longer-line, one-of_two, shorter-line}

-- how many lines pass a test
passing-number : {M : Type 0} (p : M → Bool) (ls : List M) → how_many (map p ls) ≡ length (filter p ls)
passing-number p [] = refl
passing-number p (l ∷ ls) = go (p l) (passing-number p ls) ∙ sym (filter-step p l ls)
  where
    go : (b : Bool) → how_many (map p ls) ≡ length (filter p ls) → how_many (b ∷ map p ls) ≡ (if b then 1 else 0) + length (filter p ls)
    go true h = omega (arith, h)
    go false h = omega (arith, h)

-- lines that are told by themselves
abbrev pub itself : LocatedLine → LocatedLine
itself l = l

-- The lines before are those of some values. Those of values that pass `first` are exchanged in the first turn, and those of values
-- that pass `second` in the second one; the line of a value that passes `whole` is exchanged in one of them. `new` is the line in the
-- place of a line that stands in a context.
module _ {M : Type 0} (old : M → LocatedLine) (first second whole : M → Bool) (new : Context → M → LocatedLine) where
  -- the context after a line
  abbrev after_line : Context → M → Context
  after_line x m = context_after_located x (old m).class

  -- lines of which those that pass a test are exchanged; the first stands in a context
  abbrev pub lines_where : (test : M → Bool) → Context → List M → List LocatedLine
  lines_where p x [] = []
  lines_where p x (m ∷ ms) = line_where (p m) (new x m) (old m) ∷ lines_where p (after_line x m) ms

  -- a line can be exchanged in its turn
  pub record CanTurn (x : Context) (m : M) : Type 0 where
    pub parted : ArePartedTests (first m) (second m) (whole m)
    pub plain : whole m ≡ true → IsPlain (old m) × IsPlain (new x m)
    pub shorter : first m ≡ true → length (new x m).bytes ≤ length (old m).bytes
    pub longer : second m ≡ true → length (old m).bytes ≤ length (new x m).bytes
    pub whole_first : first m ≡ true → whole m ≡ true

  abbrev pub CanEachTurn : Context → List M → Type 0
  CanEachTurn x [] = Unit {0}
  CanEachTurn x (m ∷ ms) = CanTurn x m × CanEachTurn (after_line x m) ms

  first-differ : (x : Context) (ms : List M) → CanEachTurn x ms → DifferWhereChosen (map first ms) (map old ms) (lines_where first x ms)
  first-differ x [] C = tt
  first-differ x (m ∷ ms) C =
      differ-line (first m) (new x m) (old m) (map first ms) (map old ms) (lines_where first (after_line x m) ms) (λ e. C.0.plain (C.0.whole_first e)) (first-differ (after_line x m) ms C.1)

  first-shorter : (x : Context) (ms : List M) → CanEachTurn x ms → AreNoLonger (lines_where first x ms) (map old ms)
  first-shorter x [] C = tt
  first-shorter x (m ∷ ms) C = (shorter-line (first m) (new x m) (old m) C.0.shorter, first-shorter (after_line x m) ms C.1)

  second-differ : (x : Context) (ms : List M) → CanEachTurn x ms → DifferWhereChosen (map second ms) (lines_where first x ms) (lines_where whole x ms)
  second-differ x [] C = tt
  second-differ x (m ∷ ms) C =
      let a = after_line x m in
      differ-again (first m) (second m) (whole m) (new x m) (old m) (map second ms) (lines_where first a ms) (lines_where whole a ms) C.0.parted C.0.plain (second-differ a ms C.1)

  second-longer : (x : Context) (ms : List M) → CanEachTurn x ms → AreNoLonger (lines_where first x ms) (lines_where whole x ms)
  second-longer x [] C = tt
  second-longer x (m ∷ ms) C = (longer-line (first m) (second m) (whole m) (new x m) (old m) C.0.parted C.0.longer, second-longer (after_line x m) ms C.1)

  -- each line that is exchanged is so in exactly one of the two turns
  turns-number : (x : Context) (ms : List M) → CanEachTurn x ms → length (filter first ms) + length (filter second ms) ≡ length (filter whole ms)
  turns-number x [] C = refl
  turns-number x (m ∷ ms) C =
      omega (
        arith,
        filter-step first m ms,
        filter-step second m ms,
        filter-step whole m ms,
        one-of_two (first m) (second m) (whole m) C.0.parted,
        turns-number (after_line x m) ms C.1,
      )

  -- the moves of the two turns
  abbrev pub first_turn : Context → List M → List Move
  first_turn x ms = exchanges 0 (map first ms) (lines_where first x ms)

  abbrev pub second_turn : Context → List M → List Move
  second_turn x ms = exchanges 0 (map second ms) (lines_where whole x ms)

  pub turns-lead : (x : Context) (ms : List M) → CanEachTurn x ms → size_of (map old ms) ≤ max_text → size_of (lines_where whole x ms) ≤ max_text → LeadTo (first_turn x ms ++ second_turn x ms) (map old ms) (lines_where whole x ms)
  turns-lead x ms C few_old few_new =
      let before = map old ms in
      let middle = lines_where first x ms in
      let after = lines_where whole x ms in
      let A = first_turn x ms in
      let B = second_turn x ms in
      let a : LeadTo A before middle = exchanges-lead (map first ms) before middle (first-differ x ms C) (within-shrunk before middle (first-shorter x ms C) few_old) in
      let b : LeadTo B middle after = exchanges-lead (map second ms) middle after (second-differ x ms C) (within-grown middle after (second-longer x ms C) few_new) in
      record {
        fit = fit-append A B before a.fit (subst (FitMoves B) (sym a.lead) b.fit);
        lead = after_moves-append A B before ∙ (ap (after_moves B) a.lead ∙ b.lead);
      }

  -- they hold as many lines as are exchanged, and take out as many
  pub turns-held : (x : Context) (ms : List M) → CanEachTurn x ms → held_by (first_turn x ms ++ second_turn x ms) ≡ length (filter whole ms)
  turns-held x ms C =
      omega (
        arith,
        held_by-append (first_turn x ms) (second_turn x ms),
        exchanges-held_chosen 0 (map first ms) (map old ms) (lines_where first x ms) (first-differ x ms C),
        exchanges-held_chosen 0 (map second ms) (lines_where first x ms) (lines_where whole x ms) (second-differ x ms C),
        passing-number first ms,
        passing-number second ms,
        turns-number x ms C,
      )

  pub turns-taken : (x : Context) (ms : List M) → CanEachTurn x ms → taken_by (first_turn x ms ++ second_turn x ms) ≡ length (filter whole ms)
  turns-taken x ms C =
      omega (
        arith,
        taken_by-append (first_turn x ms) (second_turn x ms),
        exchanges-taken_chosen 0 (map first ms) (map old ms) (lines_where first x ms) (first-differ x ms C),
        exchanges-taken_chosen 0 (map second ms) (lines_where first x ms) (lines_where whole x ms) (second-differ x ms C),
        passing-number first ms,
        passing-number second ms,
        turns-number x ms C,
      )
