-- The runs for a block are the stretches of lines that say what it says.
use Rattle.std.proofs.Common.{◌≡◌, refl, sym, ap, ◌∙◌, subst, ℕ, zero, suc, Bool, true, false, List, [], ◌∷◌, ◌++◌, map, append_assoc, if◌then◌else◌, Option, Some, None, option_map}
use Rattle.std.specs.Prelude.{option_and_then}
use Rattle.std.specs.Str.{bytes_eq}
use Rattle.std.proofs.lemmas.Slice.Eq.{bytes_eq-Decides}
use Rattle.mk_lines.specs.Lists.{onto_first}
use Rattle.mk_lines.specs.Bytes.{ByteKind, LineFeed, CarriageReturn, Backslash, Blank, Ordinary, byte_kind}
use Rattle.mk_lines.specs.PhysicalLines.{physical_lines, before_lines, without_line_end}
use Rattle.mk_lines.proofs.on_cells.LineCells.{one_line-not_empty}
use Rattle.mk_class.specs.ListTests.{is_empty}
use Rattle.mk_class.specs.ClassedLines.{ClassedLine, classed_lines}
use Rattle.mk_tree.proofs.on_documents.LinesInText.{LineInText, line-in_text}
use Rattle.mk_edit_language.specs.Spots.{nth_of}
use Rattle.mk_edit_language.specs.Stretches.{Stretch}
use Rattle.mk_edit_language.specs.LineRuns.{texts_of, after_texts, led_by, lower, run_in_front, before_runs, runs}
use Rattle.mk_edit_language.specs.LineLaws.{said_by, RunsSayTheirBlock}
use Rattle.mk_edit_language.proofs.on_line_runs.SitesFound.{nth-stretch, runs-stretches}

-- ---- texts at the front of a block

after_texts-is : (ts b rest : List (List ℕ)) → after_texts ts b ≡ Some rest → ts ++ rest ≡ b
after_texts-is [] b rest h = cc
after_texts-is (t ∷ ts) [] rest h = absurd (cc)
after_texts-is (t ∷ ts) (x ∷ b) rest h = go (bytes_eq t x) refl h (λ k. after_texts-is ts b rest k)
  where
    go : (q : Bool) → bytes_eq t x ≡ q → (if q then after_texts ts b else None) ≡ Some rest → (after_texts ts b ≡ Some rest → ts ++ rest ≡ b) → t ∷ (ts ++ rest) ≡ x ∷ b
    go true e k ih = let i : t ≡ x = (bytes_eq-Decides t x).0 e in let j : ts ++ rest ≡ b = ih k in cc
    go false e k ih = absurd (cc)

after_texts-of : (ts rest : List (List ℕ)) → after_texts ts (ts ++ rest) ≡ Some rest
after_texts-of [] rest = refl
after_texts-of (t ∷ ts) rest =
    ap (λ q. if q then after_texts ts (ts ++ rest) else None) ((bytes_eq-Decides t t).1 refl) ∙ after_texts-of ts rest

-- ---- each run says what the block says

front-says : (b : List (List ℕ)) (ls : List ClassedLine) (s : Stretch) → run_in_front b ls ≡ Some s → said_by s.lines ≡ b
front-says [] ls s h = let k : record { above = []; lines = []; below = ls } ≡ s = cc in ap (λ (z : Stretch). said_by z.lines) (sym k)
front-says (x ∷ b) [] s h = absurd (cc)
front-says (x ∷ b) (l ∷ ls) s h = go (λ rest r. front-says rest ls r) (after_texts (texts_of l.bytes) (x ∷ b)) refl h
  where
    longer : (rest : List (List ℕ)) (o : Option Stretch) → run_in_front rest ls ≡ o → ((r : Stretch) → run_in_front rest ls ≡ Some r → said_by r.lines ≡ rest)
        → texts_of l.bytes ++ rest ≡ x ∷ b → option_map (led_by l) o ≡ Some s → said_by s.lines ≡ x ∷ b
    longer rest None i f j e = absurd (cc)
    longer rest (Some r) i f j e =
        let k : led_by l r ≡ s = cc in
        ap (λ (z : Stretch). said_by z.lines) (sym k) ∙ (ap (λ z. texts_of l.bytes ++ z) (f r i) ∙ j)

    go : ((rest : List (List ℕ)) (r : Stretch) → run_in_front rest ls ≡ Some r → said_by r.lines ≡ rest) → (o : Option (List (List ℕ))) → after_texts (texts_of l.bytes) (x ∷ b) ≡ o
        → option_and_then (λ rest. option_map (led_by l) (run_in_front rest ls)) o ≡ Some s → said_by s.lines ≡ x ∷ b
    go f None i e = absurd (cc)
    go f (Some rest) i e = longer rest (run_in_front rest ls) refl (f rest) (after_texts-is (texts_of l.bytes) (x ∷ b) rest i) e

-- stretches that say what a block says
abbrev Say : List (List ℕ) → List Stretch → Type 0
Say b [] = Unit {0}
Say b (s ∷ ss) = (said_by s.lines ≡ b) × Say b ss

say-lower : (b : List (List ℕ)) (l : ClassedLine) (ss : List Stretch) → Say b ss → Say b (map (lower l) ss)
say-lower b l [] h = tt
say-lower b l (s ∷ ss) h = (h.0, say-lower b l ss h.1)

runs-say : (b : List (List ℕ)) (ls : List ClassedLine) → Say b (runs b ls)
runs-say b [] = tt
runs-say b (l ∷ ls) = go (run_in_front b (l ∷ ls)) refl (say-lower b l (runs b ls) (runs-say b ls))
  where
    go : (o : Option Stretch) → run_in_front b (l ∷ ls) ≡ o → Say b (map (lower l) (runs b ls)) → Say b (before_runs o (map (lower l) (runs b ls)))
    go None e h = h
    go (Some r) e h = (front-says b (l ∷ ls) r e, h)

nth-says : (b : List (List ℕ)) (n : ℕ) (ss : List Stretch) (s : Stretch) → Say b ss → nth_of n ss ≡ Some s → said_by s.lines ≡ b
nth-says b n [] s h e = absurd (cc)
nth-says b zero (q ∷ ss) s h e = absurd (cc)
nth-says b (suc zero) (q ∷ ss) s h e = let k : q ≡ s = cc in ap (λ (z : Stretch). said_by z.lines) (sym k) ∙ h.0
nth-says b (suc (suc n)) (q ∷ ss) s h e = nth-says b (suc n) ss s h.1 e

-- ---- each stretch that says it is a run

-- lines each of which says something
record SaysSome (l : ClassedLine) : Type 0 where
  first : List ℕ
  rest : List (List ℕ)
  is : texts_of l.bytes ≡ first ∷ rest

abbrev EachSaysSome : List ClassedLine → Type 0
EachSaysSome [] = Unit {0}
EachSaysSome (l ∷ ls) = SaysSome l × EachSaysSome ls

says-some : (l : ClassedLine) (b : ℕ) (r : List ℕ) → l.bytes ≡ b ∷ r → SaysSome l
says-some l b r h = let c = cut (byte_kind b) (physical_lines r) in record { first = c.0; rest = c.1; is = ap texts_of h ∙ c.2 }
  where
    onto : (ls : List (List ℕ)) → (x : List ℕ) × (xs : List (List ℕ)) × (map without_line_end (onto_first (b ∷ []) ls) ≡ x ∷ xs)
    onto [] = (without_line_end (b ∷ []), [], refl)
    onto (l ∷ ls) = (without_line_end (b ∷ l), map without_line_end ls, refl)

    cut : (k : ByteKind) (ls : List (List ℕ)) → (x : List ℕ) × (xs : List (List ℕ)) × (map without_line_end (before_lines k b ls) ≡ x ∷ xs)
    cut LineFeed ls = (without_line_end (b ∷ []), map without_line_end ls, refl)
    cut CarriageReturn ls = onto ls
    cut Backslash ls = onto ls
    cut Blank ls = onto ls
    cut Ordinary ls = onto ls

lines-say : (t : List ℕ) (above ls below : List ClassedLine) → classed_lines t ≡ above ++ (ls ++ below) → EachSaysSome ls
lines-say t above [] below h = tt
lines-say t above (l ∷ ls) below h =
    let place : LineInText t above l (ls ++ below) = line-in_text t above l (ls ++ below) h in
    let filled = one_line-not_empty l.bytes place.one in
    (says-some l filled.0 filled.1 filled.2, lines-say t (above ++ l ∷ []) ls below (h ∙ sym (append_assoc above (l ∷ []) (ls ++ below))))

-- a block that is not empty, at a line
front-step : (block : List (List ℕ)) (l : ClassedLine) (ls : List ClassedLine) (x : List ℕ) (xs : List (List ℕ)) → block ≡ x ∷ xs
    → run_in_front block (l ∷ ls) ≡ option_and_then (λ rest. option_map (led_by l) (run_in_front rest ls)) (after_texts (texts_of l.bytes) block)
front-step [] l ls x xs h = absurd (cc)
front-step (y ∷ b) l ls x xs h = refl

front-found : (ls below : List ClassedLine) → EachSaysSome ls → run_in_front (said_by ls) (ls ++ below) ≡ Some (record { above = []; lines = ls; below = below })
front-found [] below h = refl
front-found (l ∷ ls) below h =
    let S : SaysSome l = h.0 in
    front-step (texts_of l.bytes ++ said_by ls) l (ls ++ below) S.first (S.rest ++ said_by ls) (ap (λ z. z ++ said_by ls) S.is)
    ∙ (ap (option_and_then (λ rest. option_map (led_by l) (run_in_front rest (ls ++ below)))) (after_texts-of (texts_of l.bytes) (said_by ls))
    ∙ ap (option_map (led_by l)) (front-found ls below h.1))

-- where a stretch stands among others
abbrev IsNumbered : List Stretch → Stretch → Type 0
IsNumbered ss s = (n : ℕ) × (nth_of n ss ≡ Some s)

numbered-lower : (l : ClassedLine) (ss : List Stretch) (s : Stretch) → IsNumbered ss s → IsNumbered (map (lower l) ss) (lower l s)
numbered-lower l ss s h = (h.0, go h.0 ss h.1)
  where
    go : (n : ℕ) (ss : List Stretch) → nth_of n ss ≡ Some s → nth_of n (map (lower l) ss) ≡ Some (lower l s)
    go n [] e = absurd (cc)
    go zero (q ∷ ss) e = absurd (cc)
    go (suc zero) (q ∷ ss) e = let k : q ≡ s = cc in ap (λ (z : Stretch). Some (lower l z)) k
    go (suc (suc n)) (q ∷ ss) e = go (suc n) ss e

numbered-behind : (o : Option Stretch) (ss : List Stretch) (s : Stretch) → IsNumbered ss s → IsNumbered (before_runs o ss) s
numbered-behind None ss s h = h
numbered-behind (Some r) ss s h = go h.0 ss h.1
  where
    go : (n : ℕ) (ss : List Stretch) → nth_of n ss ≡ Some s → IsNumbered (r ∷ ss) s
    go n [] e = absurd (cc)
    go zero (q ∷ ss) e = absurd (cc)
    go (suc n) (q ∷ ss) e = (suc (suc n), e)

run-found : (above : List ClassedLine) (l : ClassedLine) (ls below : List ClassedLine) → EachSaysSome (l ∷ ls)
    → IsNumbered (runs (said_by (l ∷ ls)) (above ++ (l ∷ ls ++ below))) (record { above = above; lines = l ∷ ls; below = below })
run-found [] l ls below h = (1, ap (λ (o : Option Stretch). nth_of 1 (before_runs o (map (lower l) (runs (said_by (l ∷ ls)) (ls ++ below))))) (front-found (l ∷ ls) below h))
run-found (a ∷ above) l ls below h =
    let b = said_by (l ∷ ls) in
    let rest = above ++ (l ∷ ls ++ below) in
    numbered-behind (run_in_front b (a ∷ rest)) (map (lower a) (runs b rest)) (record { above = a ∷ above; lines = l ∷ ls; below = below })
    (numbered-lower a (runs b rest) (record { above = above; lines = l ∷ ls; below = below }) (run-found above l ls below h))

stretch-found : (t : List ℕ) (b : List (List ℕ)) (above lines below : List ClassedLine) → is_empty b ≡ false → classed_lines t ≡ above ++ (lines ++ below) → said_by lines ≡ b
    → IsNumbered (runs b (classed_lines t)) (record { above = above; lines = lines; below = below })
stretch-found t b above [] below n h e = absurd (nothing b e n)
  where
    nothing : (b : List (List ℕ)) → [] ≡ b → is_empty b ≡ false → ⊥
    nothing [] e n = cc
    nothing (x ∷ b) e n = cc
stretch-found t b above (l ∷ ls) below n h e =
    let found = run-found above l ls below (lines-say t above (l ∷ ls) below h) in
    subst (λ (z : List ClassedLine). IsNumbered (runs b z) (record { above = above; lines = l ∷ ls; below = below })) (sym h)
    (subst (λ z. IsNumbered (runs z (above ++ (l ∷ ls ++ below))) (record { above = above; lines = l ∷ ls; below = below })) e found)

pub runs-said : RunsSayTheirBlock
runs-said t b n =
    let ls = classed_lines t in
    record {
      each_says = λ k s e. record {
        stretch = nth-stretch ls k (runs b ls) s (runs-stretches b ls) e;
        says = nth-says b k (runs b ls) s (runs-say b ls) e;
      };
      each_is_found = λ s r. stretch-found t b s.above s.lines s.below n r.stretch r.says;
    }
