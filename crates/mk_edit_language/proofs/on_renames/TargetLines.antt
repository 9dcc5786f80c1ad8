-- Lines of class TargetAssign: what the class says of a line, its parts, and which targets make a line of that class again.
use Rattle.std.proofs.Common.{◌≡◌, refl, sym, ap, ◌∙◌, subst, ℕ, zero, suc, List, [], ◌∷◌, ◌++◌, map, Bool, true, false, not, ◌&&◌, ◌||◌, cond, drop, Some, None, append_assoc}
use Rattle.std.proofs.lemmas.Bool.{not-true}
use Rattle.mk_lines.specs.Lists.{Each, FirstFails}
use Rattle.mk_lines.proofs.on_lists.ListLemmas.{Each-left, Each-right, leading-each, leading-append_all, leading-after_leading, after_leading-first_fails}
use Rattle.mk_lines.specs.Cells.{Cell, joined_byte}
use Rattle.mk_class.specs.ListTests.{first_passes, last_passes, until, from}
use Rattle.mk_class.proofs.on_symbols.ListLemmas.{until-from}
use Rattle.mk_class.specs.Texts.{word_texts}
use Rattle.mk_class.specs.Symbols.{Symbol, symbol, is_colon, is_ampersand, is_colon_symbol, is_ampersand_symbol}
use Rattle.mk_class.specs.Symbols.Symbol.{Hash, Colon, Semicolon, Equals, Plus, Question, Exclamation, Bar, Ampersand, NoSymbol}
use Rattle.mk_class.specs.CutTexts.{cut_text, comment, head, is_in_head, is_no_hash, is_head_end_symbol}
use Rattle.mk_class.specs.Assignments.{Assignment, assignment}
use Rattle.mk_class.specs.Separators.{Separated, separated, separator_at, separator_length, begins_separator, has_colon, takes_assignment}
use Rattle.mk_class.specs.Headers
use Rattle.mk_class.specs.Headers.{is_no_colon}
use Rattle.mk_class.specs.Classes.{Class}
use Rattle.mk_class.specs.Classes.Class.{TargetAssign}
use Rattle.mk_class.specs.Keywords.{first_keyword}
use Rattle.mk_class.proofs.on_classes.ClassHolds.{Holds, plain_class-holds, said-no_parts}
use Rattle.mk_class.specs.ClassTable.{class_at, define_class, directive, header_class, target_class, separated_class, rule_class, is_all_blanks, is_unreadable, plain_class}
use Rattle.mk_class.specs.declared.context.RuleFlag.{RuleFlag}
use Rattle.mk_class.specs.declared.context.RuleFlag.TheVariants.{Off, Rule, Unknown}
use Rattle.mk_edit_language.proofs.on_lines.HeaderLines.{any-after, leading-all, colon-filled}
use Rattle.mk_edit_language.proofs.on_renames.TargetUnits.{Free, until-free, free-no_colon, separated-targets}

-- ---- what the class says

-- a text taken apart at its separator, before an assignment
abbrev with_assigned : Separated Cell → Assignment Cell → Headers.TargetAssignment Cell
with_assigned s b = record { separator = s.separator; targets = s.targets; colons = s.colons; assigned = b }

-- a line of class TargetAssign outside defines and recipes
pub record IsTargetLine (led c : Bool) (cs : List Cell) (us : List (List Cell)) (a : Headers.TargetAssignment Cell) : Type 0 where
  pub not_led : led ≡ false
  pub readable : is_unreadable cs ≡ false
  pub unassigned : assignment joined_byte (cut_text joined_byte us) ≡ None
  pub undirected : directive c (word_texts joined_byte (cut_text joined_byte us)) ≡ None
  pub colon : has_colon joined_byte (head joined_byte us) ≡ true
  pub takes : takes_assignment (separated joined_byte (cut_text joined_byte us)).separator ≡ true
  pub assigned : assignment joined_byte (separated joined_byte (cut_text joined_byte us)).rest ≡ Some a.assigned
  pub is : with_assigned (separated joined_byte (cut_text joined_byte us)) a.assigned ≡ a

-- each line of class TargetAssign outside defines and recipes is such a line
plain_class-target : (led c : Bool) (cs : List Cell) (us : List (List Cell)) (a : Headers.TargetAssignment Cell) → plain_class joined_byte led c (is_unreadable cs) us ≡ TargetAssign a → IsTargetLine led c cs us a
plain_class-target led c cs us a k =
    let H = subst (Holds joined_byte us led c (is_unreadable cs)) k (plain_class-holds joined_byte us led c (is_unreadable cs)) in
    record {
      not_led = H.rule.not_led;
      readable = H.rule.readable;
      unassigned = H.rule.unassigned;
      undirected = H.rule.undirected;
      colon = H.rule.colon;
      takes = H.takes;
      assigned = H.assigned;
      is = H.is;
    }

-- an assignment for targets stands outside defines and recipes, and so does each line in its place that begins with the same byte
pub record IsTargetRead (led : Bool) (defines : ℕ) (f : RuleFlag) (c : Bool) (cs : List Cell) (us : List (List Cell)) (a : Headers.TargetAssignment Cell) : Type 0 where
  pub here : IsTargetLine led c cs us a
  pub also : (cs' : List Cell) (us' : List (List Cell)) → class_at joined_byte led defines f c (is_unreadable cs') us' ≡ plain_class joined_byte led c (is_unreadable cs') us'

-- each line of class TargetAssign stands there
pub class_at-target : (led : Bool) (n : ℕ) (f : RuleFlag) (c : Bool) (cs : List Cell) (us : List (List Cell)) (a : Headers.TargetAssignment Cell) → class_at joined_byte led n f c (is_unreadable cs) us ≡ TargetAssign a → IsTargetRead led n f c cs us a
class_at-target true (suc n) f c cs us a k = absurd (cc)
class_at-target false (suc n) f c cs us a k = absurd (said-no_parts (define_class (first_keyword (word_texts joined_byte us)) (suc n)) (TargetAssign a) k refl)
class_at-target true zero Rule c cs us a k = absurd (cc)
class_at-target true zero Unknown c cs us a k = absurd (cc)
class_at-target true zero Off c cs us a k = record { here = plain_class-target true c cs us a k; also = λ x y. refl }
class_at-target false zero Off c cs us a k = record { here = plain_class-target false c cs us a k; also = λ x y. refl }
class_at-target false zero Rule c cs us a k = record { here = plain_class-target false c cs us a k; also = λ x y. refl }
class_at-target false zero Unknown c cs us a k = record { here = plain_class-target false c cs us a k; also = λ x y. refl }

-- ---- the parts of such a line

-- the parts of the units of a target assignment: the targets, what follows them in the cut text, which begins with a `:`, and
-- the comment; other targets in their place are taken apart there again
pub record TargetParts (c : Bool) (us : List (List Cell)) (a : Headers.TargetAssignment Cell) : Type 0 where
  pub first : List Cell
  pub rest : List (List Cell)
  pub after : List (List Cell)
  pub tail : List (List Cell)
  pub colon : symbol joined_byte first ≡ Colon
  pub units_are : us ≡ a.targets ++ (first ∷ (rest ++ tail))
  pub in_head : Each (is_in_head joined_byte) a.targets
  pub targets_no_hash : Each (is_no_hash joined_byte) a.targets
  pub no_hash : Each (is_no_hash joined_byte) (first ∷ rest)
  pub stops : FirstFails (is_no_hash joined_byte) tail
  pub free : Free (begins_separator joined_byte) a.targets (first ∷ rest)
  pub unassigned : assignment joined_byte (a.targets ++ (first ∷ rest)) ≡ None
  pub undirected : directive c (word_texts joined_byte (a.targets ++ (first ∷ rest))) ≡ None
  pub again : (T : List (List Cell)) → Each (is_no_colon joined_byte) T → (last_passes (is_ampersand joined_byte) T && is_colon joined_byte first) ≡ false
      → separated joined_byte (T ++ (first ∷ rest)) ≡ record { separator = a.separator; targets = T; colons = a.colons; rest = after }
  pub takes : takes_assignment a.separator ≡ true
  pub assigned : assignment joined_byte after ≡ Some a.assigned

from-passes : {A : Type 0} (p : List A → Bool) (us : List A) (x : A) (xs : List A) → from p us ≡ x ∷ xs → p (x ∷ xs) ≡ true
from-passes p [] x xs h = cc
from-passes p (u ∷ us) x xs h = go (p (u ∷ us)) refl h (λ k. from-passes p us x xs k)
  where
    go : (c : Bool) → p (u ∷ us) ≡ c → cond c (u ∷ us) (from p us) ≡ x ∷ xs → (from p us ≡ x ∷ xs → p (x ∷ xs) ≡ true) → p (x ∷ xs) ≡ true
    go true e k i = subst (λ z. p z ≡ true) k e
    go false e k i = i k

-- no assignment stands after a separator with a `&`
grouped-takes_none : (s : List Symbol) → takes_assignment (separator_at (Ampersand ∷ s)) ≡ true → ⊥
grouped-takes_none [] h = cc
grouped-takes_none (Hash ∷ s) h = cc
grouped-takes_none (Colon ∷ []) h = cc
grouped-takes_none (Colon ∷ Hash ∷ s) h = cc
grouped-takes_none (Colon ∷ Colon ∷ s) h = cc
grouped-takes_none (Colon ∷ Semicolon ∷ s) h = cc
grouped-takes_none (Colon ∷ Equals ∷ s) h = cc
grouped-takes_none (Colon ∷ Plus ∷ s) h = cc
grouped-takes_none (Colon ∷ Question ∷ s) h = cc
grouped-takes_none (Colon ∷ Exclamation ∷ s) h = cc
grouped-takes_none (Colon ∷ Bar ∷ s) h = cc
grouped-takes_none (Colon ∷ Ampersand ∷ s) h = cc
grouped-takes_none (Colon ∷ NoSymbol ∷ s) h = cc
grouped-takes_none (Semicolon ∷ s) h = cc
grouped-takes_none (Equals ∷ s) h = cc
grouped-takes_none (Plus ∷ s) h = cc
grouped-takes_none (Question ∷ s) h = cc
grouped-takes_none (Exclamation ∷ s) h = cc
grouped-takes_none (Bar ∷ s) h = cc
grouped-takes_none (Ampersand ∷ s) h = cc
grouped-takes_none (NoSymbol ∷ s) h = cc

first-colon : (x : Symbol) (s : List Symbol) (b : Bool) → (is_colon_symbol x || (is_ampersand_symbol x && b)) ≡ true → takes_assignment (separator_at (x ∷ s)) ≡ true → x ≡ Colon
first-colon Hash s b h k = cc
first-colon Colon s b h k = refl
first-colon Semicolon s b h k = cc
first-colon Equals s b h k = cc
first-colon Plus s b h k = cc
first-colon Question s b h k = cc
first-colon Exclamation s b h k = cc
first-colon Bar s b h k = cc
first-colon Ampersand s b h k = absurd (grouped-takes_none s k)
first-colon NoSymbol s b h k = cc

-- units without a `:` stand in the head, where it has one
before-colon : (T Y : List (List Cell)) → Each (is_no_colon joined_byte) T → has_colon joined_byte (head joined_byte (T ++ Y)) ≡ true → Each (is_in_head joined_byte) T
before-colon [] Y n h = tt
before-colon (u ∷ T) Y n h = go (is_in_head joined_byte u) refl h (λ k. before-colon T Y n.1 k)
  where
    more : (b : Bool) → b ≡ false → (b || has_colon joined_byte (head joined_byte (T ++ Y))) ≡ true → has_colon joined_byte (head joined_byte (T ++ Y)) ≡ true
    more true e k = cc
    more false e k = k

    go : (c : Bool) → is_in_head joined_byte u ≡ c → has_colon joined_byte (cond c (u ∷ head joined_byte (T ++ Y)) []) ≡ true
        → (has_colon joined_byte (head joined_byte (T ++ Y)) ≡ true → Each (is_in_head joined_byte) T) → (is_in_head joined_byte u ≡ true) × Each (is_in_head joined_byte) T
    go true e k i = (e, i (more (is_colon joined_byte u) (not-true (is_colon joined_byte u) n.0) k))
    go false e k i = cc

parts-assigned : (c : Bool) (us : List (List Cell)) (b : Assignment Cell) → assignment joined_byte (cut_text joined_byte us) ≡ None → directive c (word_texts joined_byte (cut_text joined_byte us)) ≡ None
    → has_colon joined_byte (head joined_byte us) ≡ true → takes_assignment (separated joined_byte (cut_text joined_byte us)).separator ≡ true
    → assignment joined_byte (separated joined_byte (cut_text joined_byte us)).rest ≡ Some b → TargetParts c us (with_assigned (separated joined_byte (cut_text joined_byte us)) b)
parts-assigned c us b m d h t e = go (from (begins_separator joined_byte) (cut_text joined_byte us)) refl
  where
    go : (F : List (List Cell)) → from (begins_separator joined_byte) (cut_text joined_byte us) ≡ F → TargetParts c us (with_assigned (separated joined_byte (cut_text joined_byte us)) b)
    go [] q =
        let none : assignment joined_byte (separated joined_byte (cut_text joined_byte us)).rest ≡ None =
        ap (λ z. assignment joined_byte (drop (separator_length (separator_at (map (symbol joined_byte) z))) z)) q in
        absurd (let k : None ≡ Some b = sym none ∙ e in cc)
    go (x ∷ r) q =
        let p : List (List Cell) → Bool = begins_separator joined_byte in
        let C = cut_text joined_byte us in
        let T = until p C in
        let K = comment joined_byte us in
        let begins : p (x ∷ r) ≡ true = from-passes p C x r q in
        let whole : T ++ (x ∷ r) ≡ C = ap (λ z. T ++ z) (sym q) ∙ until-from p C in
        let all : us ≡ T ++ (x ∷ (r ++ K)) = sym (leading-after_leading (is_no_hash joined_byte) us) ∙ (ap (λ z. z ++ K) (sym whole) ∙ append_assoc T (x ∷ r) K) in
        let no_hash : Each (is_no_hash joined_byte) (T ++ (x ∷ r)) = subst (Each (is_no_hash joined_byte)) (sym whole) (leading-each (is_no_hash joined_byte) us) in
        let free : Free p T (x ∷ r) = subst (Free p T) q (until-free p C) in
        record {
          first = x;
          rest = r;
          after = (separated joined_byte C).rest;
          tail = K;
          colon = first-colon (symbol joined_byte x) (map (symbol joined_byte) r) (first_passes (is_colon joined_byte) r) begins (subst (λ z. takes_assignment (separator_at (map (symbol joined_byte) z)) ≡ true) q t);
          units_are = all;
          in_head = before-colon T (x ∷ (r ++ K)) (free-no_colon T (x ∷ r) free) (ap (λ z. has_colon joined_byte (head joined_byte z)) (sym all) ∙ h);
          targets_no_hash = Each-left (is_no_hash joined_byte) T (x ∷ r) no_hash;
          no_hash = Each-right (is_no_hash joined_byte) T (x ∷ r) no_hash;
          stops = after_leading-first_fails (is_no_hash joined_byte) us;
          free = free;
          unassigned = ap (assignment joined_byte) whole ∙ m;
          undirected = ap (λ z. directive c (word_texts joined_byte z)) whole ∙ d;
          again = λ T' n w. ap (λ z. separated joined_byte (T' ++ z)) (sym q)
              ∙ separated-targets C T' (subst (λ z. p z ≡ true) (sym q) begins) n (ap (λ z. last_passes (is_ampersand joined_byte) T' && first_passes (is_colon joined_byte) z) q ∙ w);
          takes = t;
          assigned = e;
        }

-- the parts of each such line
pub target-parts : (led c : Bool) (cs : List Cell) (us : List (List Cell)) (a : Headers.TargetAssignment Cell) → IsTargetLine led c cs us a → TargetParts c us a
target-parts led c cs us a l = subst (TargetParts c us) l.is (parts-assigned c us a.assigned l.unassigned l.undirected l.colon l.takes l.assigned)

-- ---- other targets

-- targets that may stand in the place of those of a target assignment
pub record FitAsTargets (c : Bool) (us : List (List Cell)) (a : Headers.TargetAssignment Cell) (p : TargetParts c us a) (T : List (List Cell)) : Type 0 where
  pub in_head : Each (is_in_head joined_byte) T
  pub no_hash : Each (is_no_hash joined_byte) T
  pub no_colon : Each (is_no_colon joined_byte) T
  pub apart : (last_passes (is_ampersand joined_byte) T && is_colon joined_byte p.first) ≡ false
  pub unassigned : assignment joined_byte (T ++ (p.first ∷ p.rest)) ≡ None
  pub undirected : directive c (word_texts joined_byte (T ++ (p.first ∷ p.rest))) ≡ None

made-class : (c : Bool) (cs : List Cell) (us : List (List Cell)) (k : Class Cell) → is_all_blanks joined_byte (cut_text joined_byte us) ≡ false → is_unreadable cs ≡ false
    → assignment joined_byte (cut_text joined_byte us) ≡ None → directive c (word_texts joined_byte (cut_text joined_byte us)) ≡ None → has_colon joined_byte (head joined_byte us) ≡ true
    → rule_class joined_byte us ≡ k → plain_class joined_byte false c (is_unreadable cs) us ≡ k
made-class c cs us k b r n d h e = rw (b, r, n, d, h) e

head-colon : (x : List Cell) (Y : List (List Cell)) → symbol joined_byte x ≡ Colon → has_colon joined_byte (head joined_byte (x ∷ Y)) ≡ true
head-colon x Y k =
    ap (λ s. has_colon joined_byte (cond (not (is_head_end_symbol s)) (x ∷ head joined_byte Y) [])) k ∙ ap (λ s. is_colon_symbol s || has_colon joined_byte (head joined_byte Y)) k

-- The line with such targets is a target assignment with these.
pub target-again : (c : Bool) (us : List (List Cell)) (a : Headers.TargetAssignment Cell) (p : TargetParts c us a) (T : List (List Cell)) (cs : List Cell) → FitAsTargets c us a p T → is_unreadable cs ≡ false
    → plain_class joined_byte false c (is_unreadable cs) (T ++ (p.first ∷ (p.rest ++ p.tail))) ≡ TargetAssign (record a { targets = T })
target-again c us a p T cs f r =
    let F = p.first ∷ p.rest in
    let Y = p.first ∷ (p.rest ++ p.tail) in
    let new = T ++ Y in
    let cut : cut_text joined_byte new ≡ T ++ F =
    leading-all (is_no_hash joined_byte) T Y f.no_hash ∙ ap (λ z. T ++ z) (leading-append_all (is_no_hash joined_byte) F p.tail p.no_hash p.stops) in
    let colon : has_colon joined_byte (T ++ F) ≡ true = any-after (is_colon joined_byte) T F (ap (λ s. is_colon_symbol s || has_colon joined_byte p.rest) p.colon) in
    let front : has_colon joined_byte (head joined_byte new) ≡ true =
    ap (has_colon joined_byte) (leading-all (is_in_head joined_byte) T Y f.in_head) ∙ any-after (is_colon joined_byte) T (head joined_byte Y) (head-colon p.first (p.rest ++ p.tail) p.colon) in
    let S : Separated Cell = record { separator = a.separator; targets = T; colons = a.colons; rest = p.after } in
    let rule : rule_class joined_byte new ≡ TargetAssign (record a { targets = T }) =
    ap (λ z. separated_class joined_byte (separated joined_byte z) new) cut
    ∙ (ap (λ z. separated_class joined_byte z new) (p.again T f.no_colon f.apart)
    ∙ (ap (λ b. cond b (target_class S (assignment joined_byte p.after) (header_class joined_byte new)) (header_class joined_byte new)) p.takes
    ∙ ap (λ z. target_class S z (header_class joined_byte new)) p.assigned)) in
    made-class c cs new (TargetAssign (record a { targets = T })) (ap (is_all_blanks joined_byte) cut ∙ colon-filled (T ++ F) colon) r (ap (assignment joined_byte) cut ∙ f.unassigned)
    (ap (λ z. directive c (word_texts joined_byte z)) cut ∙ f.undirected) front rule
