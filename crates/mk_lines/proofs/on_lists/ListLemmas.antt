-- Laws of the words on lists.
use Rattle.std.proofs.Common.{◌≡◌, refl, sym, ap, append_assoc, List, [], ◌∷◌, ◌++◌, Bool, true, false, cond}
use Rattle.mk_lines.specs.Lists.{leading, after_leading, trim_end, trailing, trim_end_before, trailing_before, concat, FirstFails, Each, LastFails}

-- lists of lists joined are joined one after the other
pub concat-append : {A : Type 0} (a b : List (List A)) → concat (a ++ b) ≡ concat a ++ concat b
concat-append [] b = refl
concat-append (x ∷ a) b = rw (concat-append a b) (sym (append_assoc x (concat a) (concat b)))

module _ {A : Type 0} (p : A → Bool) where
  -- the leading elements and those after them are the list
  pub leading-after_leading : (xs : List A) → leading p xs ++ after_leading p xs ≡ xs
  leading-after_leading [] = refl
  leading-after_leading (x ∷ xs) = go (p x) (leading-after_leading xs)
    where
      go : (c : Bool) → leading p xs ++ after_leading p xs ≡ xs → cond c (x ∷ leading p xs) [] ++ cond c (after_leading p xs) (x ∷ xs) ≡ x ∷ xs
      go true e = ap (λ l. x ∷ l) e
      go false e = refl

  -- each leading element passes the test
  pub leading-each : (xs : List A) → Each p (leading p xs)
  leading-each [] = tt
  leading-each (x ∷ xs) = go (p x) refl (leading-each xs)
    where
      go : (c : Bool) → p x ≡ c → Each p (leading p xs) → Each p (cond c (x ∷ leading p xs) [])
      go true e h = (e, h)
      go false e h = tt

  -- the first element after the leading ones fails it
  pub after_leading-first_fails : (xs : List A) → FirstFails p (after_leading p xs)
  after_leading-first_fails [] = tt
  after_leading-first_fails (x ∷ xs) = go (p x) refl (after_leading-first_fails xs)
    where
      go : (c : Bool) → p x ≡ c → FirstFails p (after_leading p xs) → FirstFails p (cond c (after_leading p xs) (x ∷ xs))
      go true e h = h
      go false e h = e

  -- the leading elements of two lists are the first list, if all its elements pass and the first of the second list fails
  pub leading-append_all : (xs ys : List A) → Each p xs → FirstFails p ys → leading p (xs ++ ys) ≡ xs
  leading-append_all [] [] h k = refl
  leading-append_all [] (y ∷ ys) h k = rw k refl
  leading-append_all (x ∷ xs) ys h k = rw (h.0, leading-append_all xs ys h.1 k) refl

  -- the elements after the leading ones are then the second list
  pub after_leading-append_all : (xs ys : List A) → Each p xs → FirstFails p ys → after_leading p (xs ++ ys) ≡ ys
  after_leading-append_all [] [] h k = refl
  after_leading-append_all [] (y ∷ ys) h k = rw k refl
  after_leading-append_all (x ∷ xs) ys h k = rw (h.0, after_leading-append_all xs ys h.1 k) refl

  -- what follows a list changes none of its leading elements, if the first element that follows fails
  pub leading-append : (xs ys : List A) → FirstFails p ys → leading p (xs ++ ys) ≡ leading p xs
  leading-append [] [] k = refl
  leading-append [] (y ∷ ys) k = rw k refl
  leading-append (x ∷ xs) ys k = rw (leading-append xs ys k) refl

  pub after_leading-append : (xs ys : List A) → FirstFails p ys → after_leading p (xs ++ ys) ≡ after_leading p xs ++ ys
  after_leading-append [] [] k = refl
  after_leading-append [] (y ∷ ys) k = rw k refl
  after_leading-append (x ∷ xs) ys k = rw (after_leading-append xs ys k) (go (p x))
    where
      go : (c : Bool) → cond c (after_leading p xs ++ ys) (x ∷ (xs ++ ys)) ≡ cond c (after_leading p xs) (x ∷ xs) ++ ys
      go true = refl
      go false = refl

  -- each element of two lists passes if each element of both does
  pub Each-append : (xs ys : List A) → Each p xs → Each p ys → Each p (xs ++ ys)
  Each-append [] ys h k = k
  Each-append (x ∷ xs) ys h k = (h.0, Each-append xs ys h.1 k)

  pub Each-left : (xs ys : List A) → Each p (xs ++ ys) → Each p xs
  Each-left [] ys h = tt
  Each-left (x ∷ xs) ys h = (h.0, Each-left xs ys h.1)

  pub Each-right : (xs ys : List A) → Each p (xs ++ ys) → Each p ys
  Each-right [] ys h = h
  Each-right (x ∷ xs) ys h = Each-right xs ys h.1

  -- ---- trimming the end

  -- a list trimmed and its trailing elements are the list
  pub trim_end-trailing : (xs : List A) → trim_end p xs ++ trailing p xs ≡ xs
  trim_end-trailing [] = refl
  trim_end-trailing (x ∷ xs) = go (p x) (trim_end p xs) (trailing p xs) (trim_end-trailing xs)
    where
      go : (c : Bool) (t r : List A) → t ++ r ≡ xs → trim_end_before c x t ++ trailing_before c x t r ≡ x ∷ xs
      go true [] r e = ap (λ l. x ∷ l) e
      go true (y ∷ t) r e = ap (λ l. x ∷ l) e
      go false t r e = ap (λ l. x ∷ l) e

  -- each trailing element passes the test
  pub trailing-each : (xs : List A) → Each p (trailing p xs)
  trailing-each [] = tt
  trailing-each (x ∷ xs) = go (p x) refl (trim_end p xs) (trailing-each xs)
    where
      go : (c : Bool) → p x ≡ c → (t : List A) → Each p (trailing p xs) → Each p (trailing_before c x t (trailing p xs))
      go true e [] h = (e, h)
      go true e (y ∷ t) h = h
      go false e t h = h

  trim_end-all : (xs : List A) → Each p xs → trim_end p xs ≡ []
  trim_end-all [] h = refl
  trim_end-all (x ∷ xs) h = rw (h.0, trim_end-all xs h.1) refl

  trailing-all : (xs : List A) → Each p xs → trailing p xs ≡ xs
  trailing-all [] h = refl
  trailing-all (x ∷ xs) h = rw (h.0, trim_end-all xs h.1, trailing-all xs h.1) refl

  -- what is trimmed of a list whose last element fails before elements that pass
  pub trim_end-append : (xs ys : List A) → LastFails p xs → Each p ys → trim_end p (xs ++ ys) ≡ xs
  trim_end-append [] ys h k = trim_end-all ys k
  trim_end-append (x ∷ []) ys h k = rw (h, trim_end-all ys k) refl
  trim_end-append (x ∷ y ∷ xs) ys h k = rw (trim_end-append (y ∷ xs) ys h k) (go (p x))
    where
      go : (c : Bool) → trim_end_before c x (y ∷ xs) ≡ x ∷ y ∷ xs
      go true = refl
      go false = refl

  pub trailing-append : (xs ys : List A) → LastFails p xs → Each p ys → trailing p (xs ++ ys) ≡ ys
  trailing-append [] ys h k = trailing-all ys k
  trailing-append (x ∷ []) ys h k = rw (h, trailing-all ys k) refl
  trailing-append (x ∷ y ∷ xs) ys h k = rw (trim_end-append (y ∷ xs) ys h k, trailing-append (y ∷ xs) ys h k) (go (p x))
    where
      go : (c : Bool) → trailing_before c x (y ∷ xs) ys ≡ ys
      go true = refl
      go false = refl

  -- the last element of a trimmed list fails the test
  pub trim_end-last_fails : (xs : List A) → LastFails p (trim_end p xs)
  trim_end-last_fails [] = tt
  trim_end-last_fails (x ∷ xs) = go (p x) refl (trim_end p xs) (trim_end-last_fails xs)
    where
      go : (c : Bool) → p x ≡ c → (t : List A) → LastFails p t → LastFails p (trim_end_before c x t)
      go true e [] h = tt
      go true e (y ∷ t) h = h
      go false e [] h = e
      go false e (y ∷ t) h = h
