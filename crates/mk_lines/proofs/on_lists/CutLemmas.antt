-- Laws of a list cut into pieces by a machine.
use Rattle.std.proofs.Common.{◌≡◌, refl, ap, List, [], ◌∷◌, ◌++◌, Bool, true, false, cond, length, drop, map}
use Rattle.mk_lines.specs.Lists.{concat}
use Rattle.mk_lines.specs.Cut.{state_after, continuation, pieces}

-- the state after two lists
pub state_after-append : {A S : Type 0} (step : S → A → S) (s : S) (a b : List A) → state_after step s (a ++ b) ≡ state_after step (state_after step s a) b
state_after-append step s [] b = refl
state_after-append step s (x ∷ a) b = state_after-append step (step s x) a b

module _ {A S : Type 0} (step : S → A → S) (begins : S → A → Bool) where
  -- the pieces of a list, one after the other, are the list
  concat-pieces : (s : S) (t : List A) → continuation step begins s t ++ concat (pieces step begins s t) ≡ t
  concat-pieces s [] = refl
  concat-pieces s (x ∷ t) = go (begins s x) (concat-pieces (step s x) t)
    where
      go : (c : Bool) → continuation step begins (step s x) t ++ concat (pieces step begins (step s x) t) ≡ t
          → cond c [] (x ∷ continuation step begins (step s x) t) ++ concat (cond c ((x ∷ continuation step begins (step s x) t) ∷ pieces step begins (step s x) t) (pieces step begins (step s x) t)) ≡ x ∷ t
      go true e = ap (λ l. x ∷ l) e
      go false e = ap (λ l. x ∷ l) e

  -- if nothing begins in two lists together, nothing begins in the first
  pub continues-left : (s : S) (a b : List A) → continuation step begins s (a ++ b) ≡ a ++ b → continuation step begins s a ≡ a
  continues-left s [] b h = refl
  continues-left s (x ∷ a) b h = go (begins s x) h (λ k. continues-left (step s x) a b k)
    where
      go : (c : Bool) → cond c [] (x ∷ continuation step begins (step s x) (a ++ b)) ≡ x ∷ (a ++ b)
          → (continuation step begins (step s x) (a ++ b) ≡ a ++ b → continuation step begins (step s x) a ≡ a)
          → cond c [] (x ∷ continuation step begins (step s x) a) ≡ x ∷ a
      go true k ih = cc
      go false k ih = ap (λ l. x ∷ l) (ih (cc))

  -- if nothing begins in two lists together, nothing begins in the second
  pub continues-right : (s : S) (a b : List A) → continuation step begins s (a ++ b) ≡ a ++ b → continuation step begins (state_after step s a) b ≡ b
  continues-right s [] b h = h
  continues-right s (x ∷ a) b h = go (begins s x) h (λ k. continues-right (step s x) a b k)
    where
      go : (c : Bool) → cond c [] (x ∷ continuation step begins (step s x) (a ++ b)) ≡ x ∷ (a ++ b)
          → (continuation step begins (step s x) (a ++ b) ≡ a ++ b → continuation step begins (state_after step (step s x) a) b ≡ b)
          → continuation step begins (state_after step (step s x) a) b ≡ b
      go true k ih = cc
      go false k ih = ih (cc)

  -- if nothing begins in either of two lists, nothing begins in both together
  pub continues-append : (s : S) (a b : List A) → continuation step begins s a ≡ a → continuation step begins (state_after step s a) b ≡ b → continuation step begins s (a ++ b) ≡ a ++ b
  continues-append s [] b h k = k
  continues-append s (x ∷ a) b h k = go (begins s x) h (λ e. continues-append (step s x) a b e k)
    where
      go : (c : Bool) → cond c [] (x ∷ continuation step begins (step s x) a) ≡ x ∷ a
          → (continuation step begins (step s x) a ≡ a → continuation step begins (step s x) (a ++ b) ≡ a ++ b)
          → cond c [] (x ∷ continuation step begins (step s x) (a ++ b)) ≡ x ∷ (a ++ b)
      go true e ih = cc
      go false e ih = ap (λ l. x ∷ l) (ih (cc))

  -- if nothing begins in a list, it has no pieces
  pieces-none : (s : S) (a : List A) → continuation step begins s a ≡ a → pieces step begins s a ≡ []
  pieces-none s [] h = refl
  pieces-none s (x ∷ a) h = go (begins s x) h (λ e. pieces-none (step s x) a e)
    where
      go : (c : Bool) → cond c [] (x ∷ continuation step begins (step s x) a) ≡ x ∷ a
          → (continuation step begins (step s x) a ≡ a → pieces step begins (step s x) a ≡ [])
          → cond c ((x ∷ continuation step begins (step s x) a) ∷ pieces step begins (step s x) a) (pieces step begins (step s x) a) ≡ []
      go true e ih = cc
      go false e ih = ih (cc)

  -- the first pieces of a list are the pieces of these alone
  pub recut-first : (s : S) (t : List A) (P Q : List (List A)) → pieces step begins s t ≡ P ++ Q
      → (continuation step begins s (continuation step begins s t ++ concat P) ≡ continuation step begins s t) × (pieces step begins s (continuation step begins s t ++ concat P) ≡ P)
  recut-first s [] [] Q h = (refl, refl)
  recut-first s [] (p ∷ P) Q h = cc
  recut-first s (x ∷ t) [] Q h = go (begins s x) h refl (λ k. recut-first (step s x) t [] Q k)
    where
      go : (c : Bool) → cond c ((x ∷ continuation step begins (step s x) t) ∷ pieces step begins (step s x) t) (pieces step begins (step s x) t) ≡ Q → begins s x ≡ c
          → (pieces step begins (step s x) t ≡ Q → (continuation step begins (step s x) (continuation step begins (step s x) t ++ []) ≡ continuation step begins (step s x) t) × (pieces step begins (step s x) (continuation step begins (step s x) t ++ []) ≡ []))
          → (continuation step begins s (cond c [] (x ∷ continuation step begins (step s x) t) ++ []) ≡ cond c [] (x ∷ continuation step begins (step s x) t)) × (pieces step begins s (cond c [] (x ∷ continuation step begins (step s x) t) ++ []) ≡ [])
      go true k e ih = (refl, refl)
      go false k e ih = (rw (e, (ih k).0) refl, rw (e, (ih k).1) refl)
  recut-first s (x ∷ t) (p ∷ P) Q h = go (begins s x) h refl (λ k. recut-first (step s x) t P Q k) (λ k. recut-first (step s x) t (p ∷ P) Q k)
    where
      go : (c : Bool) → cond c ((x ∷ continuation step begins (step s x) t) ∷ pieces step begins (step s x) t) (pieces step begins (step s x) t) ≡ p ∷ (P ++ Q) → begins s x ≡ c
          → (pieces step begins (step s x) t ≡ P ++ Q → (continuation step begins (step s x) (continuation step begins (step s x) t ++ concat P) ≡ continuation step begins (step s x) t) × (pieces step begins (step s x) (continuation step begins (step s x) t ++ concat P) ≡ P))
          → (pieces step begins (step s x) t ≡ p ∷ (P ++ Q) → (continuation step begins (step s x) (continuation step begins (step s x) t ++ (p ++ concat P)) ≡ continuation step begins (step s x) t) × (pieces step begins (step s x) (continuation step begins (step s x) t ++ (p ++ concat P)) ≡ p ∷ P))
          → (continuation step begins s (cond c [] (x ∷ continuation step begins (step s x) t) ++ (p ++ concat P)) ≡ cond c [] (x ∷ continuation step begins (step s x) t)) × (pieces step begins s (cond c [] (x ∷ continuation step begins (step s x) t) ++ (p ++ concat P)) ≡ p ∷ P)
      go true k e i j =
          let h : x ∷ continuation step begins (step s x) t ≡ p = cc in
          let l : pieces step begins (step s x) t ≡ P ++ Q = cc in
          rw (← h) (rw e refl, rw (e, (i l).0, (i l).1) refl)
      go false k e i j = (rw (e, (j k).0) refl, rw (e, (j k).1) refl)

  -- at the front of a piece, a piece begins
  pub begins-at_piece : (s : S) (t : List A) (P Q : List (List A)) (y : A) (q : List A) → pieces step begins s t ≡ P ++ ((y ∷ q) ∷ Q)
      → begins (state_after step s (continuation step begins s t ++ concat P)) y ≡ true
  begins-at_piece s [] [] Q y q h = cc
  begins-at_piece s [] (p ∷ P) Q y q h = cc
  begins-at_piece s (x ∷ t) [] Q y q h = go (begins s x) refl h (λ k. begins-at_piece (step s x) t [] Q y q k)
    where
      go : (c : Bool) → begins s x ≡ c → cond c ((x ∷ continuation step begins (step s x) t) ∷ pieces step begins (step s x) t) (pieces step begins (step s x) t) ≡ (y ∷ q) ∷ Q
          → (pieces step begins (step s x) t ≡ (y ∷ q) ∷ Q → begins (state_after step (step s x) (continuation step begins (step s x) t ++ [])) y ≡ true)
          → begins (state_after step s (cond c [] (x ∷ continuation step begins (step s x) t) ++ [])) y ≡ true
      go true e k ih = let f : x ≡ y = cc in rw f at e
      go false e k ih = ih k
  begins-at_piece s (x ∷ t) (p ∷ P) Q y q h = go (begins s x) h (λ k. begins-at_piece (step s x) t P Q y q k) (λ k. begins-at_piece (step s x) t (p ∷ P) Q y q k)
    where
      go : (c : Bool) → cond c ((x ∷ continuation step begins (step s x) t) ∷ pieces step begins (step s x) t) (pieces step begins (step s x) t) ≡ p ∷ (P ++ ((y ∷ q) ∷ Q))
          → (pieces step begins (step s x) t ≡ P ++ ((y ∷ q) ∷ Q) → begins (state_after step (step s x) (continuation step begins (step s x) t ++ concat P)) y ≡ true)
          → (pieces step begins (step s x) t ≡ p ∷ (P ++ ((y ∷ q) ∷ Q)) → begins (state_after step (step s x) (continuation step begins (step s x) t ++ (p ++ concat P))) y ≡ true)
          → begins (state_after step s (cond c [] (x ∷ continuation step begins (step s x) t) ++ (p ++ concat P))) y ≡ true
      go true k i j =
          let h : x ∷ continuation step begins (step s x) t ≡ p = cc in
          let l : pieces step begins (step s x) t ≡ P ++ ((y ∷ q) ∷ Q) = cc in
          rw (← h) (i l)
      go false k i j = j k

  -- no piece is empty
  pub pieces-not_empty : (s : S) (t : List A) (P Q : List (List A)) → pieces step begins s t ≡ P ++ ([] ∷ Q) → ⊥
  pieces-not_empty s [] [] Q h = cc
  pieces-not_empty s [] (p ∷ P) Q h = cc
  pieces-not_empty s (x ∷ t) [] Q h = go (begins s x) h (λ k. pieces-not_empty (step s x) t [] Q k)
    where
      go : (c : Bool) → cond c ((x ∷ continuation step begins (step s x) t) ∷ pieces step begins (step s x) t) (pieces step begins (step s x) t) ≡ [] ∷ Q
          → (pieces step begins (step s x) t ≡ [] ∷ Q → ⊥) → ⊥
      go true k ih = cc
      go false k ih = ih k
  pieces-not_empty s (x ∷ t) (p ∷ P) Q h = go (begins s x) h (λ k. pieces-not_empty (step s x) t P Q k) (λ k. pieces-not_empty (step s x) t (p ∷ P) Q k)
    where
      go : (c : Bool) → cond c ((x ∷ continuation step begins (step s x) t) ∷ pieces step begins (step s x) t) (pieces step begins (step s x) t) ≡ p ∷ (P ++ ([] ∷ Q))
          → (pieces step begins (step s x) t ≡ P ++ ([] ∷ Q) → ⊥) → (pieces step begins (step s x) t ≡ p ∷ (P ++ ([] ∷ Q)) → ⊥) → ⊥
      go true k i j = i (cc)
      go false k i j = j k

  module _ (start : S) (begins-always : (x : A) → begins start x ≡ true) where
    -- nothing continues in the start state
    pub continuation-start : (b : List A) → continuation step begins start b ≡ []
    continuation-start [] = refl
    continuation-start (x ∷ b) = rw begins-always refl

    -- what continues a piece is the same whatever follows the start state
    continuation-append : (s : S) (a b : List A) → state_after step s a ≡ start → continuation step begins s (a ++ b) ≡ continuation step begins s a
    continuation-append s [] b h = rw h (continuation-start b)
    continuation-append s (x ∷ a) b h = ap (cond (begins s x) []) (ap (λ l. x ∷ l) (continuation-append (step s x) a b h))

    -- pieces of two lists, where the first ends in the start state
    pub pieces-append : (s : S) (a b : List A) → state_after step s a ≡ start → pieces step begins s (a ++ b) ≡ pieces step begins s a ++ pieces step begins start b
    pieces-append s [] b h = rw h refl
    pieces-append s (x ∷ a) b h =
        rw (continuation-append (step s x) a b h, pieces-append (step s x) a b h)
        (go (begins s x) (x ∷ continuation step begins (step s x) a) (pieces step begins (step s x) a))
      where
        go : (t : Bool) (u : List A) (l : List (List A)) → cond t (u ∷ (l ++ pieces step begins start b)) (l ++ pieces step begins start b) ≡ cond t (u ∷ l) l ++ pieces step begins start b
        go true u l = refl
        go false u l = refl

    -- the pieces from the start state, joined, are the list
    pub concat-pieces_from_start : (t : List A) → concat (pieces step begins start t) ≡ t
    concat-pieces_from_start t = rw (continuation-start t) at (concat-pieces start t)

    -- a list in which only the first element begins a piece is one piece
    pub one-piece : (x : A) (t : List A) → continuation step begins (step start x) t ≡ t → pieces step begins start (x ∷ t) ≡ (x ∷ t) ∷ []
    one-piece x t h = rw (begins-always x, h, pieces-none (step start x) t h) refl

    module _ (step-again : (s : S) (x : A) → begins s x ≡ true → step s x ≡ step start x) where
      -- the last pieces of a list are the pieces of these alone
      pub recut-last : (s : S) (t : List A) (P Q : List (List A)) → pieces step begins s t ≡ P ++ Q → pieces step begins start (concat Q) ≡ Q
      recut-last s [] [] Q h = rw (← h) refl
      recut-last s [] (p ∷ P) Q h = cc
      recut-last s (x ∷ t) [] Q h = go (begins s x) refl h (λ k. recut-last (step s x) t [] Q k)
        where
          go : (c : Bool) → begins s x ≡ c → cond c ((x ∷ continuation step begins (step s x) t) ∷ pieces step begins (step s x) t) (pieces step begins (step s x) t) ≡ Q
              → (pieces step begins (step s x) t ≡ Q → pieces step begins start (concat Q) ≡ Q)
              → pieces step begins start (concat Q) ≡ Q
          go true e k ih = rw (← k, concat-pieces (step s x) t, begins-always x, ← step-again s x e) refl
          go false e k ih = ih k
      recut-last s (x ∷ t) (p ∷ P) Q h = go (begins s x) h (λ k. recut-last (step s x) t P Q k) (λ k. recut-last (step s x) t (p ∷ P) Q k)
        where
          go : (c : Bool) → cond c ((x ∷ continuation step begins (step s x) t) ∷ pieces step begins (step s x) t) (pieces step begins (step s x) t) ≡ p ∷ (P ++ Q)
              → (pieces step begins (step s x) t ≡ P ++ Q → pieces step begins start (concat Q) ≡ Q)
              → (pieces step begins (step s x) t ≡ p ∷ (P ++ Q) → pieces step begins start (concat Q) ≡ Q)
              → pieces step begins start (concat Q) ≡ Q
          go true k i j = i (cc)
          go false k i j = j k

    module _ (step-again : (s : S) (x : A) → begins s x ≡ true → step s x ≡ step start x) where
      -- the pieces that begin in a list are those of the list after what continues the piece before
      pub pieces-after_continuation : (s : S) (t : List A) → pieces step begins s t ≡ pieces step begins start (drop (length (continuation step begins s t)) t)
      pieces-after_continuation s [] = refl
      pieces-after_continuation s (x ∷ t) = go (begins s x) refl (pieces-after_continuation (step s x) t)
        where
          go : (c : Bool) → begins s x ≡ c → pieces step begins (step s x) t ≡ pieces step begins start (drop (length (continuation step begins (step s x) t)) t)
              → cond c ((x ∷ continuation step begins (step s x) t) ∷ pieces step begins (step s x) t) (pieces step begins (step s x) t)
              ≡ pieces step begins start (drop (length (cond c [] (x ∷ continuation step begins (step s x) t))) (x ∷ t))
          go true e ih = rw (begins-always x, step-again s x e) refl
          go false e ih = ih

-- ---- a list that is the image of another

-- the state after an image
pub state_after-map : {A B S : Type 0} (f : A → B) (step : S → B → S) (s : S) (t : List A) → state_after step s (map f t) ≡ state_after (λ z x. step z (f x)) s t
state_after-map f step s [] = refl
state_after-map f step s (x ∷ t) = state_after-map f step (step s (f x)) t

module _ {A B S : Type 0} (f : A → B) (step : S → B → S) (begins : S → B → Bool) where
  -- what continues a piece, in an image
  continuation-map : (s : S) (t : List A) → continuation step begins s (map f t) ≡ map f (continuation (λ z x. step z (f x)) (λ z x. begins z (f x)) s t)
  continuation-map s [] = refl
  continuation-map s (x ∷ t) = rw (continuation-map (step s (f x)) t) (go (begins s (f x)))
    where
      go : (c : Bool) → cond c [] (f x ∷ map f (continuation (λ z y. step z (f y)) (λ z y. begins z (f y)) (step s (f x)) t))
          ≡ map f (cond c [] (x ∷ continuation (λ z y. step z (f y)) (λ z y. begins z (f y)) (step s (f x)) t))
      go true = refl
      go false = refl

  -- the pieces of an image are the images of the pieces
  pub pieces-map : (s : S) (t : List A) → pieces step begins s (map f t) ≡ map (map f) (pieces (λ z x. step z (f x)) (λ z x. begins z (f x)) s t)
  pieces-map s [] = refl
  pieces-map s (x ∷ t) =
      rw (continuation-map (step s (f x)) t, pieces-map (step s (f x)) t)
      (go (begins s (f x)) (x ∷ continuation (λ z y. step z (f y)) (λ z y. begins z (f y)) (step s (f x)) t) (pieces (λ z y. step z (f y)) (λ z y. begins z (f y)) (step s (f x)) t))
    where
      go : (c : Bool) (u : List A) (us : List (List A)) → cond c (map f u ∷ map (map f) us) (map (map f) us) ≡ map (map f) (cond c (u ∷ us) us)
      go true u us = refl
      go false u us = refl
