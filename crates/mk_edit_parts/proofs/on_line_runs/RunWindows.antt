-- The runs for a block, each with the place where it begins, as a walk over a document finds them.
use Rattle.std.proofs.Common.{◌≡◌, refl, sym, ap, ◌∙◌, arith, ℕ, suc, ◌+◌, List, [], ◌∷◌, map, length, Option, Some, None, option_map}
use Rattle.mk_class.specs.Contexts.{Context, context_after}
use Rattle.mk_class.specs.ClassedLines.{ClassedLine, context_after_lines}
use Rattle.mk_tree.specs.LocatedLines.{LocatedLine, located_line, located_lines}
use Rattle.mk_edit_language.specs.Stretches.{Stretch}
use Rattle.mk_edit_language.specs.LineRuns.{lower, run_in_front, before_runs, runs}
use Rattle.mk_edit_parts.specs.LineRunWalks.{run_length}
use Rattle.mk_edit_parts.specs.Windows.{below}
use Rattle.mk_edit_parts.specs.declared.seek.Found.{Found}
use Rattle.mk_edit_parts.specs.declared.window.Window.{Window}
use Rattle.mk_edit_parts.proofs.on_line_runs.RunLengths.{lines_in, length-front, front-above}

-- some lines, by where the first stands, its context, and how many there are
abbrev window_at : ℕ → Context → ℕ → Window
window_at at c n = record { place = record { at = at; context = c }; count = n }

-- a run that begins here, if there is one, before others
abbrev pub before_windows : Found → Option ℕ → List Window → List Window
before_windows f None ws = ws
before_windows f (Some n) ws = record { place = f; count = n } ∷ ws

-- the runs for a block among some lines, the first of which stands at this place
abbrev pub windows_from : (block : List (List ℕ)) → Found → List LocatedLine → List Window
windows_from b f [] = []
windows_from b f (l ∷ ls) = before_windows f (run_length b (l ∷ ls)) (windows_from b (below f l) ls)

-- where a stretch of some lines stands, the first of which stands at this place
abbrev pub window_from : Found → Stretch → Window
window_from f s = record { place = record { at = f.at + length s.above; context = context_after_lines f.context s.above }; count = length s.lines }

windows-lower : (f : Found) (l : ClassedLine) (rs : List Stretch) → map (window_from (below f (located_line l))) rs ≡ map (window_from f) (map (lower l) rs)
windows-lower f l [] = refl
windows-lower f l (r ∷ rs) =
    let n : f.at + 1 + length r.above ≡ f.at + suc (length r.above) = omega arith in
    ap (λ (n : ℕ). window_at n (context_after_lines (context_after f.context l.class) r.above) (length r.lines) ∷ map (window_from (below f (located_line l))) rs) n
    ∙ ap (λ ws. window_from f (lower l r) ∷ ws) (windows-lower f l rs)

pub windows-runs : (b : List (List ℕ)) (f : Found) (ls : List ClassedLine) → windows_from b f (located_lines ls) ≡ map (window_from f) (runs b ls)
windows-runs b f [] = refl
windows-runs b f (l ∷ ls) =
    ap (λ o. before_windows f o (windows_from b (below f (located_line l)) (located_lines ls))) (length-front b (l ∷ ls))
    ∙ (ap (before_windows f (option_map lines_in (run_in_front b (l ∷ ls)))) (windows-runs b (below f (located_line l)) ls ∙ windows-lower f l (runs b ls))
    ∙ go (run_in_front b (l ∷ ls)) refl)
  where
    go : (o : Option Stretch) → run_in_front b (l ∷ ls) ≡ o
        → before_windows f (option_map lines_in o) (map (window_from f) (map (lower l) (runs b ls))) ≡ map (window_from f) (before_runs o (map (lower l) (runs b ls)))
    go None e = refl
    go (Some r) e =
        let n : f.at ≡ f.at + 0 = omega arith in
        let front : [] ≡ r.above = sym (front-above b (l ∷ ls) r e) in
        ap (λ (n : ℕ). window_at n f.context (length r.lines) ∷ map (window_from f) (map (lower l) (runs b ls))) n
        ∙ ap (λ (above : List ClassedLine). window_at (f.at + length above) (context_after_lines f.context above) (length r.lines) ∷ map (window_from f) (map (lower l) (runs b ls))) front
