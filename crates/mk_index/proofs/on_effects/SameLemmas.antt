-- A line in the place of another, which assigns the same variable.
use Rattle.std.proofs.Common.{◌≡◌, refl, sym, ap, ◌∙◌, subst, arith, ℕ, zero, suc, ◌+◌, ◌-◌, ◌≤◌, ◌||◌, List, [], ◌∷◌, ◌++◌, Bool, true, false, length, take, drop, map, Option, Some, None, if◌then◌else◌, inl, inr}
use Rattle.std.specs.Prelude.{IfSome, slice_get, ◌⊎◌}
use Rattle.std.specs.List.{list_any}
use Rattle.mk_class.specs.Contexts.{Context, context_after_located, start}
use Rattle.mk_class.specs.RecipePrefix.{is_prefix_name}
use Rattle.mk_tree.specs.LocatedLines.{LocatedLine, context_after_located_lines, text_of_line}
use Rattle.mk_tree.specs.UnreadPrefixes.{IsEndOf}
use Rattle.mk_tree.specs.declared.end.DocEnd.{DocEnd}
use Rattle.std.specs.Str.{bytes_eq}
use Rattle.mk_edit_parts.specs.LocatedParts.{AreEachClassed, IsClassed, assigns_in, assigns_located, is_unread_in, is_unread_located}
use Rattle.mk_edit_parts.specs.Windows.{first_text}
use Rattle.mk_edit_parts.specs.SeekWalks.{noted, noted_by, nothing_seen, seek}
use Rattle.mk_edit_parts.specs.declared.seek.Sought.{Sought}
use Rattle.mk_patch.specs.Moves.{Move, Exchange, after_moves}
use Rattle.mk_index.specs.Blocks.{AreBlocks, AreLinesMentioned, expected_after}
use Rattle.mk_index.specs.Chains.{AreMentioned, Mention, hash_of}
use Rattle.mk_index.specs.Effects.{AssignSame, IsKnownFor, Known, ListsNoTexts, StaysRight}
use Rattle.mk_index.specs.Exchanges.{IsHeld, TakesPlace}
use Rattle.mk_index.specs.Indexes as indexes
use Rattle.mk_index.specs.Indexes.{IsIndexOf}
use Rattle.mk_index.specs.Keys.{hashes_of, keys_in, listed, text_key, unread_key}
use Rattle.mk_index.specs.declared.blocks.Block.{Block}
use Rattle.mk_index.specs.declared.keys.Scope.{Scope}
use Rattle.mk_index.proofs.on_chains.KeyLemmas.{listed-none}
use Rattle.mk_index.proofs.on_blocks.ChangedLines.{with-back, with-front, with-length, with_lines}

-- a line that assigns the same variable takes the place of another one, in each block, unless what lines
-- say is listed
same-place : (k l : LocatedLine) → AssignSame k l → (s : Scope) (ms : List Mention) (n : ℕ) → s.lines ≡ false → TakesPlace s ms n k l
same-place k l h s ms n none = record {
  mentioned = λ there. subst (AreMentioned ms n) hashes there;
  unread_is = unread;
  context_is = λ c. ap (context_after_located c) h.old_is ∙ sym (ap (context_after_located c) h.new_is);
}
  where
    unread : is_unread_located k ≡ is_unread_located l
    unread = ap (is_unread_in (text_of_line k)) h.old_is ∙ (ap is_prefix_name h.name_is ∙ sym (ap (is_unread_in (text_of_line l)) h.new_is))

    hashes : hashes_of s k ≡ hashes_of s l
    hashes =
        let text : LocatedLine → List (List ℕ) = λ x. listed s.lines (text_key (first_text x.bytes) ∷ []) in
        let same : text k ≡ text l = listed-none s.lines (text_key (first_text k.bytes) ∷ []) none ∙ sym (listed-none s.lines (text_key (first_text l.bytes) ∷ []) none) in
        ap (λ (t : List (List ℕ)). map hash_of (t ++ (unread_key (is_unread_located k) ++ keys_in s (text_of_line k) k.class))) same
        ∙ (ap (λ (b : Bool). map hash_of (text l ++ (unread_key b ++ keys_in s (text_of_line k) k.class))) unread
        ∙ ap (λ (keys : List (List ℕ)). map hash_of (text l ++ (unread_key (is_unread_located l) ++ keys)))
        (ap (keys_in s (text_of_line k)) h.old_is ∙ (ap (λ (n : List ℕ). listed s.names (n ∷ [])) h.name_is ∙ sym (ap (keys_in s (text_of_line l)) h.new_is))))

-- some lines with another at an index
abbrev with_line : (at : ℕ) → LocatedLine → List LocatedLine → List LocatedLine
with_line at l ls = with_lines at 1 (l ∷ []) ls

abbrev line_or : LocatedLine → Option LocatedLine → LocatedLine
line_or d None = d
line_or d (Some x) = x

step : (at : ℕ) (x l : LocatedLine) (ls : List LocatedLine) → with_line (suc at) l (x ∷ ls) ≡ x ∷ with_line at l ls
step at x l ls = let n : suc at + 1 ≡ suc (at + 1) = omega arith in ap (λ (m : ℕ). x ∷ (take at ls ++ l ∷ drop m (x ∷ ls))) n

same-front : (s : Scope) (ms : List Mention) (n : ℕ) (ls : List LocatedLine) (at front : ℕ) (k l : LocatedLine) → Some k ≡ slice_get ls at → TakesPlace s ms n k l → AreLinesMentioned s ms n (take front ls) → AreLinesMentioned s ms n (take front (with_line at l ls))
same-front s ms n ls at zero k l there same h = tt
same-front s ms n [] at (suc front) k l there same h = absurd (cc)
same-front s ms n (x ∷ ls) zero (suc front) k l there same h =
    let here : k ≡ x = ap (line_or k) there in
    (same.mentioned (subst (AreMentioned ms n) (ap (hashes_of s) (sym here)) h.0), h.1)
same-front s ms n (x ∷ ls) (suc at) (suc front) k l there same h =
    subst (λ (xs : List LocatedLine). AreLinesMentioned s ms n (take (suc front) xs)) (sym (step at x l ls)) (h.0, same-front s ms n ls at front k l there same h.1)

same-back : (s : Scope) (ms : List Mention) (n : ℕ) (ls : List LocatedLine) (at from : ℕ) (k l : LocatedLine) → Some k ≡ slice_get ls at → TakesPlace s ms n k l → AreLinesMentioned s ms n (drop from ls) → AreLinesMentioned s ms n (drop from (with_line at l ls))
same-back s ms n [] at from k l there same h = absurd (cc)
same-back s ms n (x ∷ ls) zero zero k l there same h =
    let here : k ≡ x = ap (line_or k) there in
    (same.mentioned (subst (AreMentioned ms n) (ap (hashes_of s) (sym here)) h.0), h.1)
same-back s ms n (x ∷ ls) zero (suc from) k l there same h = h
same-back s ms n (x ∷ ls) (suc at) zero k l there same h = subst (AreLinesMentioned s ms n) (sym (step at x l ls)) (h.0, same-back s ms n ls at zero k l there same h.1)
same-back s ms n (x ∷ ls) (suc at) (suc from) k l there same h =
    subst (λ (xs : List LocatedLine). AreLinesMentioned s ms n (drop (suc from) xs)) (sym (step at x l ls)) (same-back s ms n ls at from k l there same h)

-- the line leads to the same contexts
abbrev LeadsAlike : (k l : LocatedLine) → Type 0
LeadsAlike k l = (c : Context) → context_after_located c k.class ≡ context_after_located c l.class

context-same : (c : Context) (ls : List LocatedLine) (at : ℕ) (k l : LocatedLine) → Some k ≡ slice_get ls at → LeadsAlike k l → context_after_located_lines c (with_line at l ls) ≡ context_after_located_lines c ls
context-same c [] at k l there same = absurd (cc)
context-same c (x ∷ ls) zero k l there same =
    let here : k ≡ x = ap (line_or k) there in
    ap (λ (d : Context). context_after_located_lines d ls) (sym (same c) ∙ ap (λ (y : LocatedLine). context_after_located c y.class) here)
context-same c (x ∷ ls) (suc at) k l there same = ap (context_after_located_lines c) (step at x l ls) ∙ context-same (context_after_located c x.class) ls at k l there same

unread-same : (ls : List LocatedLine) (at : ℕ) (k l : LocatedLine) → Some k ≡ slice_get ls at → is_unread_located k ≡ is_unread_located l → list_any is_unread_located (with_line at l ls) ≡ list_any is_unread_located ls
unread-same [] at k l there same = absurd (cc)
unread-same (x ∷ ls) zero k l there same =
    let here : k ≡ x = ap (line_or k) there in
    ap (λ (b : Bool). b || list_any is_unread_located ls) (sym same ∙ ap is_unread_located here)
unread-same (x ∷ ls) (suc at) k l there same = ap (list_any is_unread_located) (step at x l ls) ∙ ap (λ (b : Bool). is_unread_located x || b) (unread-same ls at k l there same)

-- where the line stands: among the first lines, or below them
inside-or-below : (at : ℕ) (k : LocatedLine) (xs ys : List LocatedLine) → Some k ≡ slice_get (xs ++ ys) at → ((Some k ≡ slice_get xs at) × (at + 1 ≤ length xs)) ⊎ ((below : ℕ) × (at ≡ length xs + below) × (Some k ≡ slice_get ys below))
inside-or-below at k [] ys there = inr (at, omega arith, there)
inside-or-below zero k (x ∷ xs) ys there = inl (there, omega arith)
inside-or-below (suc at) k (x ∷ xs) ys there = elim (inside-or-below at k xs ys there) [
  | inl h ↦ inl (h.0, let n = h.1 in omega (arith, n))
  | inr h ↦ inr (h.0, let n = h.1 in omega (arith, n), h.2)
]

expected-same : (b : Block) (xs ys : List LocatedLine) → context_after_located_lines b.context xs ≡ context_after_located_lines b.context ys → expected_after b xs ≡ expected_after b ys
expected-same b xs ys h = ap (λ (c : Context). if b.is_stale then None else Some c) h

-- the line takes the place of another one in the block that has it, of which the first block has a number
abbrev TakesPlaceHere : Scope → List Mention → (first : ℕ) → List Block → (at : ℕ) → (k l : LocatedLine) → Type 0
TakesPlaceHere s ms n bs at k l = (m number : ℕ) → number ≡ n + m → IsHeld bs at m → TakesPlace s ms number k l

pub blocks-same : (s : Scope) (ms : List Mention) (n : ℕ) (o : Option Context) (ls : List LocatedLine) (bs : List Block) (end : Context) (at : ℕ) (k l : LocatedLine) → Some k ≡ slice_get ls at → TakesPlaceHere s ms n bs at k l → AreBlocks s ms n o ls bs end → AreBlocks s ms n o (with_line at l ls) bs end
blocks-same s ms n o ls [] end at k l there place h = absurd (let none = there ∙ ap (λ (xs : List LocatedLine). slice_get xs at) h.0 in cc)
blocks-same s ms n o ls (b ∷ bs) end at k l there place h =
    elim (inside-or-below at k h.inside h.after (there ∙ ap (λ (xs : List LocatedLine). slice_get xs at) h.lines_are)) [
      | inl i ↦
          let held : IsHeld (b ∷ bs) at 0 = record { above = omega arith; below = let c = h.count_is in let f = i.1 in omega (arith, c, f) } in
          let same = place 0 n (omega arith) held in
          record {
            inside = with_line at l h.inside;
            after = h.after;
            lines_are = ap (with_line at l) h.lines_are ∙ with-front at 1 (l ∷ []) h.inside h.after i.1;
            count_is = let c = h.count_is in let m = with-length at 1 (l ∷ []) h.inside i.1 in let f = i.1 in omega (arith, c, m, f);
            context_is = h.context_is;
            front_is = same-front s ms n h.inside at b.front k l i.0 same h.front_is;
            back_is =
                let long : length h.inside - b.back ≡ length (with_line at l h.inside) - b.back = let m = with-length at 1 (l ∷ []) h.inside i.1 in let f = i.1 in omega (arith, m, f) in
                subst (λ (m : ℕ). AreLinesMentioned s ms n (drop m (with_line at l h.inside))) long (same-back s ms n h.inside at (length h.inside - b.back) k l i.0 same h.back_is);
            whole = h.whole;
            next_is = subst (λ (p : Option Context). AreBlocks s ms (n + 1) p h.after bs end) (sym (expected-same b (with_line at l h.inside) h.inside (context-same b.context h.inside at k l i.0 same.context_is))) h.next_is;
          }
      | inr i ↦
          let below : TakesPlaceHere s ms (n + 1) bs i.0 k l = λ m number e held. place (suc m) number (omega (arith, e))
          (record { above = let c = h.count_is in let f = i.1 in let a = held.above in omega (arith, c, f, a); below = let c = h.count_is in let f = i.1 in let a = held.below in omega (arith, c, f, a) }) in
          record {
            inside = h.inside;
            after = with_line i.0 l h.after;
            lines_are = ap (λ (m : ℕ). with_line m l ls) i.1 ∙ (ap (with_line (length h.inside + i.0) l) h.lines_are ∙ with-back i.0 1 (l ∷ []) h.inside h.after);
            count_is = h.count_is;
            context_is = h.context_is;
            front_is = h.front_is;
            back_is = h.back_is;
            whole = h.whole;
            next_is = blocks-same s ms (n + 1) _ h.after bs end i.0 k l i.2 below h.next_is;
          }
    ]

index-same : (ls : List LocatedLine) (at : ℕ) (k l : LocatedLine) (o : Option indexes.Stored) → Some k ≡ slice_get ls at → ((s : Scope) (ms : List Mention) (n : ℕ) → s.lines ≡ false → TakesPlace s ms n k l) → IfSome o (λ i. i.scope.lines ≡ false) → IfSome o (IsIndexOf ls)
    → IfSome o (IsIndexOf (with_line at l ls))
index-same ls at k l None there same none h = tt
index-same ls at k l (Some i) there same none h = record { mentions = h.mentions; chains_are = h.chains_are; blocks_are = blocks-same i.scope h.mentions 0 (Some start) ls i.blocks i.end at k l there (λ m number e held. same i.scope h.mentions number none) h.blocks_are }

-- the lines end as before
pub end-same-of : (ls : List LocatedLine) (at : ℕ) (k l : LocatedLine) (e : DocEnd) → Some k ≡ slice_get ls at → LeadsAlike k l → is_unread_located k ≡ is_unread_located l → IsEndOf ls e → IsEndOf (with_line at l ls) e
end-same-of ls at k l e there leads unread h = record { context_is = h.context_is ∙ sym (context-same start ls at k l there leads); unread_is = h.unread_is ∙ sym (unread-same ls at k l there unread) }

end-same : (ls : List LocatedLine) (at : ℕ) (k l : LocatedLine) (o : Option DocEnd) → Some k ≡ slice_get ls at → LeadsAlike k l → is_unread_located k ≡ is_unread_located l → IfSome o (IsEndOf ls) → IfSome o (IsEndOf (with_line at l ls))
end-same ls at k l None there leads unread h = tt
end-same ls at k l (Some e) there leads unread h = end-same-of ls at k l e there leads unread h

-- what is known stays right
exchanged-same : (doc : List LocatedLine) (ms : List Move) (at : ℕ) (k l : LocatedLine) → ms ≡ Exchange at l ∷ [] → Some k ≡ slice_get doc at → AssignSame k l → (known : Known) → ListsNoTexts known → IsKnownFor doc known → IsKnownFor (after_moves ms doc) known
exchanged-same doc ms at k l is there same known none h =
    let place = same-place k l same in
    let every : Scope = record { names = true; targets = true; prerequisites = true; lines = false } in
    let one = place every [] 0 refl in
    subst (λ (ns : List Move). IsKnownFor (after_moves ns doc) known) (sym is) (record { index_is = index-same doc at k l known.index there place none h.index_is; end_is = end-same doc at k l known.end there one.context_is one.unread_is h.end_is })

-- ---- the lines that assign a variable

assigns-same : (n : List ℕ) (k l : LocatedLine) → AssignSame k l → assigns_located n k ≡ assigns_located n l
assigns-same n k l h = ap (assigns_in (text_of_line k) n) h.old_is ∙ (ap (λ (m : List ℕ). bytes_eq m n) h.name_is ∙ sym (ap (assigns_in (text_of_line l) n) h.new_is))

-- a line that a walk notes alike
noted-same : (p : LocatedLine → Bool) (w : ℕ) (k l : LocatedLine) (s : Sought) → p k ≡ p l → is_unread_located k ≡ is_unread_located l → LeadsAlike k l → noted p w l s ≡ noted p w k s
noted-same p w k l s test unread leads =
    ap (λ (b : Bool). noted_by b (is_unread_located l) w l.class s) (sym test)
    ∙ (ap (λ (b : Bool). noted_by (p k) b w l.class s) (sym unread)
    ∙ ap (λ (c : Context). record (noted_by (p k) (is_unread_located k) w k.class s) { end = record { at = s.end.at + 1; context = c } }) (sym (leads s.end.context)))

seek-same : (p : LocatedLine → Bool) (w : ℕ) (s : Sought) (ls : List LocatedLine) (at : ℕ) (k l : LocatedLine) → Some k ≡ slice_get ls at → p k ≡ p l → is_unread_located k ≡ is_unread_located l → LeadsAlike k l → seek p w s (with_line at l ls) ≡ seek p w s ls
seek-same p w s [] at k l there test unread leads = absurd (cc)
seek-same p w s (x ∷ ls) zero k l there test unread leads =
    let here : k ≡ x = ap (line_or k) there in
    ap (λ (z : Sought). seek p w z ls) (noted-same p w k l s test unread leads ∙ ap (λ (y : LocatedLine). noted p w y s) here)
seek-same p w s (x ∷ ls) (suc at) k l there test unread leads = ap (seek p w s) (step at x l ls) ∙ seek-same p w (noted p w x s) ls at k l there test unread leads

-- what is known stays right, and the lines that assign a variable are noted as they are
pub exchanged-right : (doc : List LocatedLine) (ms : List Move) (at : ℕ) (k l : LocatedLine) → ms ≡ Exchange at l ∷ [] → Some k ≡ slice_get doc at → AssignSame k l → StaysRight doc (after_moves ms doc)
exchanged-right doc ms at k l is there same =
    let one = same-place k l same (record { names = true; targets = true; prerequisites = true; lines = false }) [] 0 refl in
    record {
      known = exchanged-same doc ms at k l is there same;
      named = λ n h w.
          h w ∙ (sym (seek-same (assigns_located n.name) w nothing_seen doc at k l there (assigns-same n.name k l same) one.unread_is one.context_is)
          ∙ ap (λ (ns : List Move). seek (assigns_located n.name) w nothing_seen (after_moves ns doc)) (sym is));
    }

-- the line that goes in has its class
each-middle : (xs : List LocatedLine) (l : LocatedLine) (ys : List LocatedLine) → AreEachClassed (xs ++ l ∷ ys) → IsClassed l
each-middle [] l ys h = h.0
each-middle (x ∷ xs) l ys h = each-middle xs l ys h.1

pub exchanged-classed : (doc : List LocatedLine) (ms : List Move) (at : ℕ) (l : LocatedLine) → ms ≡ Exchange at l ∷ [] → AreEachClassed (after_moves ms doc) → IsClassed l
exchanged-classed doc ms at l is h = each-middle (take at doc) l (drop (at + 1) doc) (subst (λ (ns : List Move). AreEachClassed (after_moves ns doc)) is h)
