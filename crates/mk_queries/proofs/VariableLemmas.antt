-- What is said of an assignment, and of lines where they stand.
use Rattle.std.proofs.Common.{◌≡◌, refl, sym, ap, ◌∙◌, ℕ, if◌then◌else◌, Bool, true, List, [], ◌∷◌, ◌++◌, append_assoc}
use Rattle.std.specs.List.{flat_map}
use Rattle.std.specs.Prelude.{Option, Some, None, MatchOption, codes}
use Rattle.mk_lines.specs.Spacing.{after_space, each_after_space}
use Rattle.mk_class.specs.OperatorTexts.{operator_text}
use Rattle.mk_tree.specs.LocatedLines.{LocatedLine}
use Rattle.mk_tree.specs.Views.{AssignmentView, TargetAssignmentView, assignment_of, target_assignment_of}
use Rattle.mk_queries.specs.Listings.{Standing, Walk, is_of, position_below, standing, standing_below}
use Rattle.mk_queries.specs.declared.listing.position.Position.{Position}
use Rattle.mk_queries.specs.Queries.{said_if, variable_line}
use Rattle.mk_queries.specs.Texts.{assigned_text, position_text, target_assigned_text}

-- the parts of an assignment, joined
pub assigned-joined : (a : AssignmentView) (m : List (List ℕ)) (n o s v : List ℕ) → m ≡ a.modifiers → n ≡ a.name → o ≡ operator_text a.flavor → v ≡ a.value → s ++ v ≡ after_space v
    → each_after_space m ++ (codes " " ++ (n ++ (codes " " ++ (o ++ (s ++ (v ++ codes "\n")))))) ≡ assigned_text a
assigned-joined a m n o s v modifiers name operator value space =
    let end : s ++ (v ++ codes "\n") ≡ after_space a.value ++ codes "\n" = sym (append_assoc s v (codes "\n")) ∙ ap (λ z. z ++ codes "\n") (space ∙ ap after_space value) in
    rw (modifiers, name, operator, end) refl

-- what is seen passes the test
said-passing : {V : Type 0} (passes : V → Bool) (say : V → List ℕ) (o : Option V) (v : V) (b : Bool) → o ≡ Some v → b ≡ passes v → b ≡ true → say v ≡ said_if passes say o
said-passing passes say o v b seen is holds = ap (λ q. if q then say v else []) (sym holds ∙ is) ∙ ap (said_if passes say) (sym seen)

pub assignment-said : (n : Option (List ℕ)) (p : Position) (o : Option AssignmentView) (a : AssignmentView) (b : Bool) → o ≡ Some a → b ≡ is_of n a → b ≡ true → position_text p ++ assigned_text a ≡ said_if (is_of n) (λ v. position_text p ++ assigned_text v) o
assignment-said n p = said-passing (is_of n) (λ v. position_text p ++ assigned_text v)

pub target-said : (n : Option (List ℕ)) (p : Position) (o : Option TargetAssignmentView) (a : TargetAssignmentView) (b : Bool) → o ≡ Some a → b ≡ is_of n a.assignment → b ≡ true
    → position_text p ++ target_assigned_text a ≡ said_if (λ v. is_of n v.assignment) (λ v. position_text p ++ target_assigned_text v) o
target-said n p = said-passing (λ v. is_of n v.assignment) (λ v. position_text p ++ target_assigned_text v)

-- a view that was looked at
seen-is : {V : Type 0} (o seen : Option V) → MatchOption o (seen ≡ None) (λ v. seen ≡ Some v) → o ≡ seen
seen-is None seen h = sym h
seen-is (Some v) seen h = sym h

module _ (n : Option (List ℕ)) (p : Position) (l : LocatedLine) where
  -- what is said of a line as an assignment for targets
  abbrev as_target : Option TargetAssignmentView → List ℕ
  as_target o = said_if (λ v. is_of n v.assignment) (λ v. position_text p ++ target_assigned_text v) o

  pub assignment-seen : (o : Option AssignmentView) → MatchOption o (assignment_of l ≡ None) (λ v. assignment_of l ≡ Some v) → said_if (is_of n) (λ v. position_text p ++ assigned_text v) o ++ as_target (target_assignment_of l) ≡ variable_line n p l
  assignment-seen o h = ap (λ z. said_if (is_of n) (λ v. position_text p ++ assigned_text v) z ++ as_target (target_assignment_of l)) (seen-is o (assignment_of l) h)

  pub variable-seen : (o : Option AssignmentView) (t : Option TargetAssignmentView) → MatchOption o (assignment_of l ≡ None) (λ v. assignment_of l ≡ Some v) → MatchOption t (target_assignment_of l ≡ None) (λ v. target_assignment_of l ≡ Some v)
      → said_if (is_of n) (λ v. position_text p ++ assigned_text v) o ++ as_target t ≡ variable_line n p l
  variable-seen o t h k = ap (λ z. said_if (is_of n) (λ v. position_text p ++ assigned_text v) o ++ as_target z) (seen-is t (target_assignment_of l) k) ∙ assignment-seen o h

-- what is said of the first of the lines that a walk has ahead, and of those below it
pub said-standing : (say : Standing → List ℕ) (walk left : Walk) (p : Position) (l : LocatedLine) → (p ≡ position_below walk.above) × (walk.ahead ≡ l ∷ left.ahead) × (left.above ≡ walk.above ++ l ∷ [])
    → say (record { position = p; line = l; below = left }) ++ flat_map say (standing left) ≡ flat_map say (standing walk)
said-standing say walk left p l (here, ahead, above) =
    ap (λ q. say (record { position = q; line = l; below = left }) ++ flat_map say (standing left)) here
    ∙ (ap (λ ls. say (record { position = position_below walk.above; line = l; below = record { above = ls; ahead = left.ahead } }) ++ flat_map say (standing_below ls left.ahead)) above
    ∙ ap (λ ls. flat_map say (standing_below walk.above ls)) (sym ahead))
