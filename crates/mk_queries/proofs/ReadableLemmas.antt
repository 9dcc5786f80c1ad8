-- The joined text of a readable line is a plain line by itself.
use Rattle.std.proofs.Common.{subst, ◌≡◌, refl, sym, ap, ◌∙◌, ℕ, List, [], ◌∷◌, ◌++◌, reverse, true, false, ◌==◌, All}
use Rattle.std.specs.List.{list_any}
use Rattle.std.proofs.lemmas.Bool.{or_from}
use Rattle.std.proofs.lemmas.List.{reverse-append, reverse-reverse}
use Rattle.std.proofs.lemmas.List.Elements.{All-nil, All-cons, All-head, All-tail}
use Rattle.mk_lines.specs.Bytes.{LineFeed, byte_kind}
use Rattle.mk_lines.specs.PhysicalLines.{without_line_end}
use Rattle.mk_lines.specs.Cells.{Cell, cells, joined_byte, joined_text}
use Rattle.mk_lines.specs.CellFaults.{has_bad_fold, has_stray, is_stray, is_stray_by}
use Rattle.mk_lines.proofs.StoredLemmas.{plain-stray}
use Rattle.mk_lines.proofs.on_lists.BoolLemmas.{or-left_false, or-right_false}
use Rattle.mk_lines.proofs.on_lists.ByteLemmas.{line_feed-byte}
use Rattle.mk_lines.proofs.on_lines.LineEndLemmas.{FirstIsNot, drop_line_end-none}
use Rattle.mk_class.specs.ClassTable.{is_unreadable}
use Rattle.mk_class.specs.LineReads.{IsPlain}

-- joined bytes without stray ones
clear-text : (cs : List Cell) → has_stray cs ≡ false → list_any (λ b. is_stray_by (byte_kind b) (b == 0)) (joined_text cs) ≡ false
clear-text [] h = refl
clear-text (c ∷ cs) h = or_from (is_stray c) _ (or-left_false (is_stray c) (has_stray cs) h) (clear-text cs (or-right_false (is_stray c) (has_stray cs) h))

no_feed : (b : ℕ) → is_stray_by (byte_kind b) (b == 0) ≡ false → b ≡ 10 → ⊥
no_feed b h e = let s : is_stray_by (byte_kind b) (b == 0) ≡ true = ap (λ z. is_stray_by (byte_kind z) (z == 0)) e in cc

no_feeds : (cs : List Cell) → has_stray cs ≡ false → All (λ b. b ≡ 10 → ⊥) (joined_text cs)
no_feeds [] h = All-nil (λ b. b ≡ 10 → ⊥)
no_feeds (c ∷ cs) h =
    All-cons (λ b. b ≡ 10 → ⊥) (joined_byte c) (joined_text cs) (no_feed (joined_byte c) (or-left_false (is_stray c) (has_stray cs) h)) (no_feeds cs (or-right_false (is_stray c) (has_stray cs) h))

-- a text without line feeds has no line end
first-append : (r : List ℕ) (b : ℕ) → FirstIsNot LineFeed r → (byte_kind b ≡ LineFeed → ⊥) → FirstIsNot LineFeed (r ++ b ∷ [])
first-append [] b h k = k
first-append (x ∷ r) b h k = h

no_feeds-first : (t : List ℕ) → All (λ b. b ≡ 10 → ⊥) t → FirstIsNot LineFeed (reverse t)
no_feeds-first [] h = tt
no_feeds-first (b ∷ t) h =
    subst (FirstIsNot LineFeed) (sym (reverse-append (b ∷ []) t))
    (first-append (reverse t) b (no_feeds-first t (All-tail (λ b. b ≡ 10 → ⊥) b t h)) (λ k. All-head (λ b. b ≡ 10 → ⊥) b t h (line_feed-byte b k)))

own-text : (t : List ℕ) → All (λ b. b ≡ 10 → ⊥) t → without_line_end t ≡ t
own-text t h = ap reverse (drop_line_end-none (reverse t) (no_feeds-first t h)) ∙ reverse-reverse t

pub readable-plain : (cs : List Cell) → is_unreadable cs ≡ false → IsPlain (joined_text cs)
readable-plain cs h =
    let s = or-left_false (has_stray cs) (has_bad_fold cs) h in
    let t = joined_text cs in
    let none = no_feeds cs s in
    let own = own-text t none in
    (subst (All (λ b. b ≡ 10 → ⊥)) (sym own) none, ap (λ z. has_stray (cells z)) own ∙ (plain-stray t none ∙ clear-text cs s))
