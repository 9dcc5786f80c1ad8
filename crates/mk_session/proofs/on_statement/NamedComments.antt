-- A comment that says an assignment of a name has the name behind its `#`.
use Rattle.std.proofs.Common.{◌≡◌, refl, sym, ap, ◌∙◌, ℕ, zero, suc, List, [], ◌∷◌, ◌++◌, Bool, true, false, length, take, drop}
use Rattle.std.specs.Prelude.{◌<◌, ◌==◌, ◌&&◌, ◌||◌, ◌-◌, All}
use Rattle.std.specs.Str.{bytes_eq}
use Rattle.std.proofs.lemmas.Bool.{and_parts, eqb-true}
use Rattle.std.proofs.lemmas.List.{take-append-drop}
use Rattle.std.proofs.lemmas.Slice.Eq.{bytes_eq-Decides}
use Rattle.mk_lines.specs.Bytes.{is_blank_byte}
use Rattle.mk_lines.specs.Lists.{leading, after_leading}
use Rattle.mk_lines.proofs.on_lists.ListLemmas.{leading-after_leading}
use Rattle.mk_class.specs.ClassedLines.{ClassedLine}
use Rattle.mk_edit_language.specs.Comments.{begins_assignment, begins_modifier, is_comment, says_after_mark, says_assignment, says_name, word_length}
use Rattle.mk_session.specs.Statement.{Has, Names}
use Rattle.mk_session.proofs.on_statement.CellTexts.{has-front, has-in, has-right}

-- a text that says an assignment has the name
begins-has : (n t : List ℕ) → begins_assignment n t ≡ true → Has n t
begins-has n t h =
    let same : take (length n) t ≡ n = (bytes_eq-Decides (take (length n) t) n).0 (and_parts (bytes_eq (take (length n) t) n) _ h).0 in
    has-in n t (n ++ drop (length n) t) (sym (take-append-drop (length n) t) ∙ ap (λ z. z ++ drop (length n) t) same) (has-front n (drop (length n) t))

says-has : (n : List ℕ) (p : ℕ) (t : List ℕ) → says_assignment n p t ≡ true → Has n t
says-has n p [] h = absurd (cc)
says-has n (suc p) (b ∷ t) h = has-right n (b ∷ []) t (says-has n p t h)
says-has n zero (b ∷ t) h = go (begins_assignment n (b ∷ t)) refl (begins_modifier (b ∷ t)) h (says-has n (word_length (b ∷ t) - 1) t)
  where
    go : (x : Bool) → begins_assignment n (b ∷ t) ≡ x → (y : Bool) → (x || (y && says_assignment n (word_length (b ∷ t) - 1) t)) ≡ true
        → (says_assignment n (word_length (b ∷ t) - 1) t ≡ true → Has n t) → Has n (b ∷ t)
    go true e y k more = begins-has n (b ∷ t) e
    go false e true k more = has-right n (b ∷ []) t (more k)
    go false e false k more = absurd (cc)

-- a text behind a `#`
abbrev HasBehind : (n l : List ℕ) → Type 0
HasBehind n l = (a b : List ℕ) × (l ≡ a ++ 35 ∷ b) × Has n b

mark-has : (n r : List ℕ) → says_after_mark n r ≡ true → (b : List ℕ) × (r ≡ 35 ∷ b) × Has n b
mark-has n [] h = absurd (cc)
mark-has n (c ∷ t) h =
    let p = and_parts (c == 35) (says_assignment n 0 (after_leading is_blank_byte t)) h in
    let mark : c ≡ 35 = eqb-true c 35 p.0 in
    (t, ap (λ z. z ∷ t) mark, has-in n t (leading is_blank_byte t ++ after_leading is_blank_byte t) (sym (leading-after_leading is_blank_byte t)) (has-right n (leading is_blank_byte t) (after_leading is_blank_byte t) (says-has n 0 (after_leading is_blank_byte t) p.1)))

pub comment-says : (n : List ℕ) (l : ClassedLine) → says_name n l ≡ true → HasBehind n l.bytes
comment-says n l h =
    let M = mark-has n (after_leading is_blank_byte l.bytes) (and_parts (is_comment l.class) _ h).1 in
    (leading is_blank_byte l.bytes, M.0, sym (leading-after_leading is_blank_byte l.bytes) ∙ ap (λ z. leading is_blank_byte l.bytes ++ z) M.1, M.2)

-- a name without a blank stands in a line that names it
pub names-has : (n : List ℕ) (sign : ℕ) (l : List ℕ) → Names n sign l → All (λ b. 32 < b) n → Has n l
names-has n sign l N solid = let P = N solid in go P.0 P.1 P.2 P.3 P.4
  where
    go : (a b : List ℕ) (y x : ℕ) → 10 ∷ l ≡ a ++ y ∷ (n ++ x ∷ b) → Has n l
    go [] b y x e = let i : l ≡ n ++ x ∷ b = cc in has-in n l (n ++ x ∷ b) i (has-front n (x ∷ b))
    go (c ∷ a) b y x e = let i : l ≡ a ++ y ∷ (n ++ x ∷ b) = cc in has-in n l (a ++ y ∷ (n ++ x ∷ b)) i (has-right n a (y ∷ (n ++ x ∷ b)) (has-right n (y ∷ []) (n ++ x ∷ b) (has-front n (x ∷ b))))
