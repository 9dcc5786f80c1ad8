-- The line ends of new lines, by the last line that goes.
use Rattle.std.proofs.Common.{◌≡◌, refl, sym, ap, ◌∙◌, arith, ℕ, zero, suc, ◌+◌, ◌<◌, ◌&&◌, suc-add, Bool, false, not, List, [], ◌∷◌, ◌++◌, take, drop, Some}
use Rattle.std.specs.Prelude.{slice_get, if◌then◌else◌}
use Rattle.mk_lines.specs.PhysicalLines.{line_end, file_line_end}
use Rattle.mk_lines.specs.LogicalLines.{has_no_line_end}
use Rattle.mk_lines.specs.declared.ends.End.{End}
use Rattle.mk_lines.specs.declared.ends.End.TheVariants as ends
use Rattle.mk_class.specs.ListTests.{is_empty, last_passes}
use Rattle.mk_class.specs.ClassedLines.{ClassedLine, classed_lines}
use Rattle.mk_tree.specs.Documents.{IsFaithful}
use Rattle.mk_tree.specs.NewLineEnds.{lacks_line_end}
use Rattle.mk_tree.specs.LocatedLines.{LocatedLine, located_line, located_lines, located_text}
use Rattle.mk_tree.proofs.on_changes.NewLineLemmas.{file_line_end-some}
use Rattle.mk_edit_language.specs.LineExchanges.{last_line_end}
use Rattle.mk_edit_language.proofs.on_line_runs.BlockEnds.{last_line_end-some}
use Rattle.mk_edit_language.specs.Stretches.{Stretch}
use Rattle.mk_edit.specs.ExchangePlans.{ends_by, ends_for}
use Rattle.mk_edit.specs.PlannedMoves.{stretch_at}
use Rattle.mk_edit.proofs.on_plans.NewLinePlans.{last_passes-last}

-- some lines whose last has these bytes
record IsLast (ls : List ClassedLine) (bytes : List ℕ) : Type 0 where
  front : List ClassedLine
  last : ClassedLine
  is : ls ≡ front ++ last ∷ []
  bytes_are : last.bytes ≡ bytes

last-taken : (n : ℕ) (ls : List ClassedLine) (l : LocatedLine) → Some l ≡ slice_get (located_lines ls) n → IsLast (take (suc n) ls) l.bytes
last-taken n [] l h = absurd (cc)
last-taken zero (x ∷ ls) l h = let e : l ≡ located_line x = cc in record { front = []; last = x; is = refl; bytes_are = ap (λ (z : LocatedLine). z.bytes) (sym e) }
last-taken (suc n) (x ∷ ls) l h =
    let L = last-taken n ls l h in
    record { front = x ∷ L.front; last = L.last; is = ap (λ z. x ∷ z) L.is; bytes_are = L.bytes_are }

get-from : (at n : ℕ) (ls : List ClassedLine) → slice_get (located_lines ls) (at + n) ≡ slice_get (located_lines (drop at ls)) n
get-from zero n ls = ap (slice_get (located_lines ls)) (let e : 0 + n ≡ n = omega arith in e)
get-from (suc at) n [] = ap (slice_get []) (suc-add at n)
get-from (suc at) n (x ∷ ls) = ap (slice_get (located_lines (x ∷ ls))) (suc-add at n) ∙ get-from at n ls

-- the last of the lines of a window
last-going : (ls : List ClassedLine) (at count i : ℕ) (l : LocatedLine) → 0 < count → i + 1 ≡ at + count → Some l ≡ slice_get (located_lines ls) i → IsLast (take count (drop at ls)) l.bytes
last-going ls at zero i l some e h = absurd (omega arith)
last-going ls at (suc n) i l some e h =
    let same : i ≡ at + n = omega arith in
    last-taken n (drop at ls) l (h ∙ (ap (slice_get (located_lines ls)) same ∙ get-from at n ls))

end-of_last : (e : End) (front : List ClassedLine) (l : ClassedLine) → last_line_end e (front ++ l ∷ []) ≡ (if lacks_line_end l then e else line_end l.bytes)
end-of_last e [] l = refl
end-of_last e (x ∷ []) l = refl
end-of_last e (x ∷ y ∷ front) l = end-of_last e (y ∷ front) l

-- some lines go
pub ends-some : (ts : List (List ℕ)) (ls : List LocatedLine) (at count i : ℕ) (l : LocatedLine) → IsFaithful ls → 0 < count → i + 1 ≡ at + count → Some l ≡ slice_get ls i
    → ends_for (located_text ls) ts (stretch_at (classed_lines (located_text ls)) at count) ≡ ends_by (file_line_end (located_text ls)) (line_end l.bytes) (last_passes is_empty ts)
ends-some ts ls at count i l f some e h =
    let t = located_text ls in
    let E = file_line_end t in
    let b = last_passes is_empty ts in
    let L = last-going (classed_lines t) at count i l some e (h ∙ ap (λ z. slice_get z i) f) in
    let each : last_line_end E (stretch_at (classed_lines t) at count).lines ≡ (if has_no_line_end (line_end l.bytes) then E else line_end l.bytes) =
    ap (last_line_end E) L.is ∙ (end-of_last E L.front L.last ∙ ap (λ z. if has_no_line_end (line_end z) then E else line_end z) L.bytes_are) in
    let lacks : last_passes lacks_line_end (stretch_at (classed_lines t) at count).lines ≡ has_no_line_end (line_end l.bytes) =
    ap (last_passes lacks_line_end) L.is ∙ (last_passes-last lacks_line_end L.front L.last ∙ ap (λ z. has_no_line_end (line_end z)) L.bytes_are) in
    ap (λ (x : End). record { each = x; last = if last_passes lacks_line_end (stretch_at (classed_lines t) at count).lines && not b then ends.None else x }) each
    ∙ ap (λ z. record { each = if has_no_line_end (line_end l.bytes) then E else line_end l.bytes; last = if z && not b then ends.None else (if has_no_line_end (line_end l.bytes) then E else line_end l.bytes) }) lacks

-- each new line but the last has a line end
pub each-some : (t : List ℕ) (ts : List (List ℕ)) (s : Stretch) → has_no_line_end (ends_for t ts s).each ≡ false
each-some t ts s = last_line_end-some (file_line_end t) s.lines (file_line_end-some t)

pub ends-same : (f g e d : End) (b c : Bool) → f ≡ g → e ≡ d → b ≡ c → ends_by f e b ≡ ends_by g d c
ends-same f g e d b c h k l = ap (λ z. ends_by z e b) h ∙ (ap (λ z. ends_by g z b) k ∙ ap (ends_by g d) l)
