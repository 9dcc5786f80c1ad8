-- The words on lists over an image: what they keep of the image is the image of what they keep of the list.
use Rattle.std.proofs.Common.{◌≡◌, refl, List, [], ◌∷◌, map, Bool, true, false, cond}
use Rattle.std.specs.List.{list_any}
use Rattle.mk_lines.specs.Lists.{leading, after_leading, trim_end, trailing, trim_end_before, trailing_before}
use Rattle.mk_class.specs.ListTests.{is_empty, first_passes, last_passes, until, from}

module _ {A B : Type 0} (f : A → B) where
  -- an image is empty if the list is empty
  pub is_empty-map : (xs : List A) → is_empty (map f xs) ≡ is_empty xs
  is_empty-map [] = refl
  is_empty-map (x ∷ xs) = refl

-- a test of elements of the image that says the same as one of the elements
module _ {A B : Type 0} (f : A → B) (p : A → Bool) (q : B → Bool) (same : (x : A) → q (f x) ≡ p x) where
  -- some element of the image passes if some element of the list does
  pub any-map : (xs : List A) → list_any q (map f xs) ≡ list_any p xs
  any-map [] = refl
  any-map (x ∷ xs) = rw (same x, any-map xs) refl

  -- the first element of the image passes if the first of the list does
  pub first_passes-map : (xs : List A) → first_passes q (map f xs) ≡ first_passes p xs
  first_passes-map [] = refl
  first_passes-map (x ∷ xs) = same x

  -- the last element of the image passes if the last of the list does
  pub last_passes-map : (xs : List A) → last_passes q (map f xs) ≡ last_passes p xs
  last_passes-map [] = refl
  last_passes-map (x ∷ []) = same x
  last_passes-map (x ∷ y ∷ xs) = last_passes-map (y ∷ xs)

  -- the leading elements of the image
  pub leading-map : (xs : List A) → leading q (map f xs) ≡ map f (leading p xs)
  leading-map [] = refl
  leading-map (x ∷ xs) = rw (same x, leading-map xs) (go (p x))
    where
      go : (c : Bool) → cond c (f x ∷ map f (leading p xs)) [] ≡ map f (cond c (x ∷ leading p xs) [])
      go true = refl
      go false = refl

  -- the elements of the image after these
  pub after_leading-map : (xs : List A) → after_leading q (map f xs) ≡ map f (after_leading p xs)
  after_leading-map [] = refl
  after_leading-map (x ∷ xs) = rw (same x, after_leading-map xs) (go (p x))
    where
      go : (c : Bool) → cond c (map f (after_leading p xs)) (f x ∷ map f xs) ≡ map f (cond c (after_leading p xs) (x ∷ xs))
      go true = refl
      go false = refl

  trim_end_before-map : (c : Bool) (x : A) (xs : List A) → trim_end_before c (f x) (map f xs) ≡ map f (trim_end_before c x xs)
  trim_end_before-map true x [] = refl
  trim_end_before-map true x (y ∷ xs) = refl
  trim_end_before-map false x xs = refl

  -- the image trimmed
  pub trim_end-map : (xs : List A) → trim_end q (map f xs) ≡ map f (trim_end p xs)
  trim_end-map [] = refl
  trim_end-map (x ∷ xs) = rw (same x, trim_end-map xs) (trim_end_before-map (p x) x (trim_end p xs))

  trailing_before-map : (c : Bool) (x : A) (kept xs : List A) → trailing_before c (f x) (map f kept) (map f xs) ≡ map f (trailing_before c x kept xs)
  trailing_before-map true x [] xs = refl
  trailing_before-map true x (y ∷ kept) xs = refl
  trailing_before-map false x kept xs = refl

  -- the trailing elements of the image
  pub trailing-map : (xs : List A) → trailing q (map f xs) ≡ map f (trailing p xs)
  trailing-map [] = refl
  trailing-map (x ∷ xs) = rw (same x, trim_end-map xs, trailing-map xs) (trailing_before-map (p x) x (trim_end p xs) (trailing p xs))

-- a test of indices in the image that says the same as one of the indices in the list
module _ {A B : Type 0} (f : A → B) (p : List A → Bool) (q : List B → Bool) (same : (xs : List A) → q (map f xs) ≡ p xs) where
  -- the image up to the first index that passes
  pub until-map : (xs : List A) → until q (map f xs) ≡ map f (until p xs)
  until-map [] = refl
  until-map (x ∷ xs) = rw (same (x ∷ xs), until-map xs) (go (p (x ∷ xs)))
    where
      go : (c : Bool) → cond c [] (f x ∷ map f (until p xs)) ≡ map f (cond c [] (x ∷ until p xs))
      go true = refl
      go false = refl

  -- the image from there on
  pub from-map : (xs : List A) → from q (map f xs) ≡ map f (from p xs)
  from-map [] = refl
  from-map (x ∷ xs) = rw (same (x ∷ xs), from-map xs) (go (p (x ∷ xs)))
    where
      go : (c : Bool) → cond c (f x ∷ map f xs) (map f (from p xs)) ≡ map f (cond c (x ∷ xs) (from p xs))
      go true = refl
      go false = refl
