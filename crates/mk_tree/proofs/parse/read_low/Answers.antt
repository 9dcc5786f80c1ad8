use Rattle.std.proofs.Common.{arith, ap, length, length-append, ◌∷◌}
use Rattle.mk_tree.specs.Trees.{line_view}
use Rattle.mk_tree.proofs.Reading.{read-joined, read-some, left-fits, sides-fit}
use Rattle.mk_tree.proofs.parse.read_low.Goals as goal

pub read_leaf-requires-2 : goal.read_leaf-requires-2
read_leaf-requires-2 g c =
    let line = rw c.in-Some.is at c.in_ok-line.ensures.read in
    record { fits = left-fits _ _ _ line (left-fits _ _ _ c.in_ok-left.ensures.read c.requires.fits) }

pub join-requires-clause-balanced : goal.join-requires-clause-balanced
join-requires-clause-balanced g c =
    let line = rw c.in-Some.is at c.in_ok-line.ensures.read in
    let left = c.in_ok-left.ensures.full (λ none. read-some _ _ (line_view c.in-Some.line) line none) in
    (omega (arith, left.0), omega (arith, left.0, c.in_ok-right.ensures.low))

pub join-requires-clause-fits : goal.join-requires-clause-fits
join-requires-clause-fits g c =
    let line = rw c.in-Some.is at c.in_ok-line.ensures.read in
    sides-fit _ _ c.in_ok-left.left.0 c.in_ok-right.right.0 (line_view c.in-Some.line) (read-joined _ _ _ _ c.in_ok-left.left.0 c.in_ok-right.right.0 (line_view c.in-Some.line) c.in_ok-left.ensures.read line c.in_ok-right.ensures.read) c.requires.fits

pub returns-clause-full : goal.returns-clause-full
returns-clause-full g c some =
    let line = rw c.in-Some.is at c.in_ok-line.ensures.read in
    let left = c.in_ok-left.ensures.full (λ none. read-some _ _ (line_view c.in-Some.line) line none) in
    let right = c.in_ok-right.ensures.full some in
    (omega (arith, c.join.ensures.height, left.0, right.0), omega (arith, ap length c.join.ensures.lines, length-append c.in_ok-left.left.0 (line_view c.in-Some.line ∷ c.in_ok-right.right.0), left.1, right.1))

pub returns-clause-read : goal.returns-clause-read
returns-clause-read g c =
    let line = rw c.in-Some.is at c.in_ok-line.ensures.read in
    rw c.join.ensures.lines
    (read-joined _ _ _ _ c.in_ok-left.left.0 c.in_ok-right.right.0 (line_view c.in-Some.line) c.in_ok-left.ensures.read line c.in_ok-right.ensures.read)
