-- The offsets of images: assignments and the parts of headers keep them, and the recipe prefix that an assignment sets.
use Rattle.std.proofs.Common.{◌≡◌, refl, ap, ◌∙◌, List, length, ℕ, ◌+◌, map, Bool}
use Rattle.std.proofs.lemmas.List.{length-map}
use Rattle.mk_lines.specs.Lists.{concat}
use Rattle.mk_lines.proofs.on_units.TokenLemmas.{concat-map}
use Rattle.mk_class.proofs.on_symbols.ListMaps.{is_empty-map}
use Rattle.mk_class.proofs.on_symbols.SymbolMaps.{unit_text-map}
use Rattle.mk_class.specs.Assignments.{Assignment}
use Rattle.mk_class.proofs.on_assignments.AssignmentMaps.{map_assignment}
use Rattle.mk_class.specs.Headers.{Header, TargetAssignment}
use Rattle.mk_class.proofs.on_headers.HeaderMaps.{map_header, has_recipe-map}
use Rattle.mk_class.specs.RecipePrefix.{prefix_set_by}
use Rattle.mk_class.specs.LocatedClasses.{width, located_assignment, located_target_assignment, located_header}

-- the image of an assignment for targets
abbrev map_target : {A B : Type 0} → (A → B) → TargetAssignment A → TargetAssignment B
map_target f t = record { separator = t.separator; targets = map (map f) t.targets; colons = map (map f) t.colons; assigned = map_assignment f t.assigned }

module _ {A B : Type 0} (f : A → B) where
  -- images of units are as wide as the units
  width-map : (us : List (List A)) → width (map (map f) us) ≡ width us
  width-map us = ap length (concat-map f us) ∙ length-map (concat us) f

  -- the image of an assignment has its offsets
  pub located_assignment-map : (at : ℕ) (a : Assignment A) → located_assignment at (map_assignment f a) ≡ located_assignment at a
  located_assignment-map at a = rw (width-map a.before, width-map a.name, width-map a.operator, width-map a.value, width-map a.after) refl

  -- the image of an assignment for targets has its offsets
  pub located_target_assignment-map : (t : TargetAssignment A) → located_target_assignment (map_target f t) ≡ located_target_assignment t
  located_target_assignment-map t = rw (width-map t.targets, width-map t.colons, located_assignment-map (width t.targets + width t.colons) t.assigned) refl

module _ {A B : Type 0} (f : A → B) (byte : B → ℕ) where
  -- the image of the parts of a header's line has their offsets
  pub located_header-map : (h : Header A) → located_header byte (map_header f h) ≡ located_header (λ x. byte (f x)) h
  located_header-map h =
      rw (
        width-map f h.targets,
        width-map f h.colons,
        width-map f h.pattern,
        width-map f h.second_colon,
        width-map f h.normal,
        width-map f h.bar,
        width-map f h.order_only,
        is_empty-map (map f) h.second_colon,
        is_empty-map (map f) h.bar,
        has_recipe-map f byte h,
      ) refl

  -- the image of an assignment sets the same recipe prefix
  pub prefix_set_by-map : (c : Bool) (a : Assignment A) → prefix_set_by byte c (map_assignment f a) ≡ prefix_set_by (λ x. byte (f x)) c a
  prefix_set_by-map c a = rw (unit_text-map f byte a.name, unit_text-map f byte a.value) refl
