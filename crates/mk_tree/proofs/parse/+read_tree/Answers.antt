use Rattle.std.proofs.Common.{arith, rules}
use Rattle.mk_tree.specs.Trees.{line_view}
use Rattle.mk_tree.proofs.Building.{full-joined}
use Rattle.mk_tree.proofs.Reading.{read-joined, read-some, left-fits, sides-fit}
use Rattle.mk_tree.proofs.parse.+read_tree.Goals as goal

pub read_tree-requires-2 : goal.read_tree-requires-2
read_tree-requires-2 g t c κs within =
    let line = rw c.in-Some.is at c.in_ok-line.ensures.read in
    (search rules, (search rules, (omega (arith, c.requires.high, c.if-height-eq2.false), left-fits _ _ _ line (left-fits _ _ _ c.in_ok-left.ensures.read c.requires.fits))))

pub append-requires-clause-fits : goal.append-requires-clause-fits
append-requires-clause-fits g t c =
    let line = rw c.in-Some.is at c.in_ok-line.ensures.read in
    sides-fit _ _ c.in_ok-left.left.0 c.in_ok-right.right.0 (line_view c.in-Some.line) (read-joined _ _ _ _ c.in_ok-left.left.0 c.in_ok-right.right.0 (line_view c.in-Some.line) c.in_ok-left.ensures.read line c.in_ok-right.ensures.read) c.requires.fits

pub returns-clause-full : goal.returns-clause-full
returns-clause-full g t c some =
    let line = rw c.in-Some.is at c.in_ok-line.ensures.read in
    let left = c.in_ok-left.ensures.full (λ none. read-some _ _ (line_view c.in-Some.line) line none) in
    full-joined c.args.height c.in_ok-left.left c.in_ok-right.right (line_view c.in-Some.line) c.append.result (λ none. absurd (omega (arith, none, c.requires.high))) left (c.in_ok-right.ensures.full some) c.append.ensures.lines c.append.ensures.height

pub returns-clause-read : goal.returns-clause-read
returns-clause-read g t c =
    let line = rw c.in-Some.is at c.in_ok-line.ensures.read in
    rw c.append.ensures.lines
    (read-joined _ _ _ _ c.in_ok-left.left.0 c.in_ok-right.right.0 (line_view c.in-Some.line) c.in_ok-left.ensures.read line c.in_ok-right.ensures.read)
