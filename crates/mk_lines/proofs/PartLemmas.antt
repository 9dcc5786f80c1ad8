-- Parts that are written one after the other.
use Rattle.std.proofs.Common.{◌≡◌, ℕ, suc, zero, ◌+◌, ◌<◌, List, [], ◌∷◌, ◌++◌, length, get_or, take, drop, refl, sym, ap, ◌∙◌, append_assoc, append-nil, add-one, arith, Bor}
use Rattle.mk_lines.specs.Device.{text_of_parts}

more : (parts : List (Bor (List ℕ))) (i : ℕ) (d : Bor (List ℕ)) → i < length parts → text_of_parts (take (suc i) parts) ≡ text_of_parts (take i parts) ++ (get_or parts i d).now
more [] i d below = absurd (omega arith)
more (part ∷ parts) zero d below = append-nil part.now
more (part ∷ parts) (suc i) d below =
    ap (λ l. part.now ++ l) (more parts i d (omega arith)) ∙ sym (append_assoc part.now (text_of_parts (take i parts)) (get_or parts i d).now)

-- the text of one more part
pub text_of_parts-more : (parts : List (Bor (List ℕ))) (i : ℕ) (d : Bor (List ℕ)) → i < length parts → text_of_parts (take (i + 1) parts) ≡ text_of_parts (take i parts) ++ (get_or parts i d).now
text_of_parts-more parts i d below = rw add-one (more parts i d below)

-- the parts before an index, the part there, and the rest
pub text_of_parts-at : (parts : List (Bor (List ℕ))) (i : ℕ) (d : Bor (List ℕ)) → i < length parts → text_of_parts parts ≡ text_of_parts (take i parts) ++ ((get_or parts i d).now ++ text_of_parts (drop (suc i) parts))
text_of_parts-at [] i d below = absurd (omega arith)
text_of_parts-at (part ∷ parts) zero d below = refl
text_of_parts-at (part ∷ parts) (suc i) d below =
    ap (λ l. part.now ++ l) (text_of_parts-at parts i d (omega arith)) ∙ sym (append_assoc part.now (text_of_parts (take i parts)) ((get_or parts i d).now ++ text_of_parts (drop (suc i) parts)))
