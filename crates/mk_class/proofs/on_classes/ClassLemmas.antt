-- Which lines have which class: what a class says of the context that the line stands in, and of the line.
use Rattle.std.proofs.Common.{subst, ◌≡◌, refl, sym, ap, ◌∙◌, ℕ, List, [], ◌∷◌, ◌++◌, Bool, true, false, not, ◌||◌, cond, Option, Some, None, zero, suc}
use Rattle.std.specs.List.{list_any}
use Rattle.std.specs.Prelude.{nat_lt}
use Rattle.std.proofs.lemmas.Bool.{or_from}
use Rattle.mk_lines.specs.Lists.{after_leading, Each}
use Rattle.mk_lines.specs.Cells.{Cell, Byte, Fold, LfEnd, CrLfEnd, joined_byte, line_cells, NoLineEnds}
use Rattle.mk_lines.specs.CellFaults.{has_stray, is_stray, has_bad_fold}
use Rattle.mk_lines.proofs.on_cells.LineOfCells.{IsClean}
use Rattle.mk_lines.proofs.on_cells.LineCells.{AreLineCells, cells-are_line_cells}
use Rattle.mk_lines.specs.PhysicalLines.{without_line_end}
use Rattle.mk_lines.specs.Units.{units}
use Rattle.mk_lines.specs.Words.{is_gap}
use Rattle.mk_lines.proofs.on_lists.BoolLemmas.{or-left_false, or-right_false}
use Rattle.mk_class.specs.ListTests.{is_empty}
use Rattle.mk_class.specs.Texts.{word_texts}
use Rattle.mk_class.specs.Symbols.{is_hash, is_equals, is_equals_symbol}
use Rattle.mk_class.proofs.on_symbols.SymbolLemmas.{gap-no_symbol}
use Rattle.mk_class.specs.CutTexts.{cut_text, head}
use Rattle.mk_class.specs.Assignments.{Assignment, assignment}
use Rattle.mk_class.specs.AssignmentsAtEquals.{is_no_equals}
use Rattle.mk_class.proofs.on_assignments.AssignmentEqualsLemmas.{no_assignment}
use Rattle.mk_class.specs.Separators.{Separated, separated, has_colon, takes_assignment}
use Rattle.mk_class.specs.Headers.{header, is_rough}
use Rattle.mk_class.specs.Keywords.{Keyword, DefineWord, EndefWord, IfWord, ElseWord, EndifWord, DirectiveWord, UndefineWord, NoKeyword, first_keyword, after_modifiers}
use Rattle.mk_class.specs.Classes.{Class, class_said}
use Rattle.mk_class.specs.Classes.Class.{Endef, Body, Recipe, Opaque, Blank, Comment, Assign, DefineHead, If, Else, Endif, Directive, TargetAssign, Rough, Header}
use Rattle.mk_class.specs.RecipePrefix.{is_prefix_led, prefix_set_by}
use Rattle.mk_class.specs.Contexts.{Context}
use Rattle.mk_class.proofs.on_classes.ClassHolds.{Holds, plain_class-holds, said-no_parts}
use Rattle.mk_class.specs.ClassTable.{class_of, class_at, define_class, directive_by, header_class, target_class, rule_class, assign_class, or_class, is_all_blanks, is_unreadable, plain_class, undefined_class}
use Rattle.mk_class.specs.declared.context.RuleFlag.{RuleFlag}
use Rattle.mk_class.specs.declared.context.RuleFlag.TheVariants.{Off, Rule, Unknown}
use Rattle.mk_class.specs.declared.context.Nesting.TheVariants.{Opens, Closes, Keeps}
use Rattle.mk_class.specs.CountsOfClasses.{FitsCounts}

-- ---- the context that a line of a class stands in

-- a class that a line outside defines may have
abbrev FitsOutside : (in_conditional : Bool) → Class Cell → Type 0
FitsOutside c Endef = ⊥
FitsOutside c (Body n) = ⊥
FitsOutside c Else = c ≡ true
FitsOutside c Endif = c ≡ true
FitsOutside c k = Unit {0}

fits-cond : (c b : Bool) (x y : Class Cell) → FitsOutside c x → FitsOutside c y → FitsOutside c (cond b x y)
fits-cond c true x y h k = h
fits-cond c false x y h k = k

fits-assign : (c : Bool) (a : Option (Assignment Cell)) (k : Class Cell) → FitsOutside c k → FitsOutside c (assign_class joined_byte c a k)
fits-assign c None k h = h
fits-assign c (Some a) k h = tt

fits-target : (c : Bool) (s : Separated Cell) (a : Option (Assignment Cell)) (k : Class Cell) → FitsOutside c k → FitsOutside c (target_class s a k)
fits-target c s None k h = h
fits-target c s (Some a) k h = tt

fits-rule : (c : Bool) (us : List (List Cell)) → FitsOutside c (rule_class joined_byte us)
fits-rule c us =
    let h : FitsOutside c (header_class joined_byte us) = fits-cond c (is_rough joined_byte (head joined_byte us) (header joined_byte us)) Rough (Header (header joined_byte us)) tt tt in
    let s = separated joined_byte (cut_text joined_byte us) in
    fits-cond c (takes_assignment s.separator) (target_class s (assignment joined_byte s.rest) (header_class joined_byte us)) (header_class joined_byte us) (fits-target c s (assignment joined_byte s.rest) (header_class joined_byte us) h) h

fits-directive : (k b : Keyword) (c : Bool) (ws : List (List ℕ)) (x : Class Cell) → FitsOutside c x → FitsOutside c (or_class (directive_by k b c ws) x)
fits-directive DefineWord DefineWord c ws x h = tt
fits-directive DefineWord EndefWord c ws x h = h
fits-directive DefineWord IfWord c ws x h = h
fits-directive DefineWord ElseWord c ws x h = h
fits-directive DefineWord EndifWord c ws x h = h
fits-directive DefineWord DirectiveWord c ws x h = h
fits-directive DefineWord UndefineWord c ws x h = tt
fits-directive DefineWord NoKeyword c ws x h = h
fits-directive EndefWord DefineWord c ws x h = tt
fits-directive EndefWord EndefWord c ws x h = h
fits-directive EndefWord IfWord c ws x h = h
fits-directive EndefWord ElseWord c ws x h = h
fits-directive EndefWord EndifWord c ws x h = h
fits-directive EndefWord DirectiveWord c ws x h = h
fits-directive EndefWord UndefineWord c ws x h = tt
fits-directive EndefWord NoKeyword c ws x h = h
fits-directive IfWord DefineWord c ws x h = tt
fits-directive IfWord EndefWord c ws x h = tt
fits-directive IfWord IfWord c ws x h = tt
fits-directive IfWord ElseWord c ws x h = tt
fits-directive IfWord EndifWord c ws x h = tt
fits-directive IfWord DirectiveWord c ws x h = tt
fits-directive IfWord UndefineWord c ws x h = tt
fits-directive IfWord NoKeyword c ws x h = tt
fits-directive ElseWord DefineWord c ws x h = tt
fits-directive ElseWord EndefWord true ws x h = refl
fits-directive ElseWord EndefWord false ws x h = h
fits-directive ElseWord IfWord true ws x h = refl
fits-directive ElseWord IfWord false ws x h = h
fits-directive ElseWord ElseWord true ws x h = refl
fits-directive ElseWord ElseWord false ws x h = h
fits-directive ElseWord EndifWord true ws x h = refl
fits-directive ElseWord EndifWord false ws x h = h
fits-directive ElseWord DirectiveWord true ws x h = refl
fits-directive ElseWord DirectiveWord false ws x h = h
fits-directive ElseWord UndefineWord true ws x h = refl
fits-directive ElseWord UndefineWord false ws x h = tt
fits-directive ElseWord NoKeyword true ws x h = refl
fits-directive ElseWord NoKeyword false ws x h = h
fits-directive EndifWord DefineWord c ws x h = tt
fits-directive EndifWord EndefWord true ws x h = refl
fits-directive EndifWord EndefWord false ws x h = h
fits-directive EndifWord IfWord true ws x h = refl
fits-directive EndifWord IfWord false ws x h = h
fits-directive EndifWord ElseWord true ws x h = refl
fits-directive EndifWord ElseWord false ws x h = h
fits-directive EndifWord EndifWord true ws x h = refl
fits-directive EndifWord EndifWord false ws x h = h
fits-directive EndifWord DirectiveWord true ws x h = refl
fits-directive EndifWord DirectiveWord false ws x h = h
fits-directive EndifWord UndefineWord true ws x h = refl
fits-directive EndifWord UndefineWord false ws x h = tt
fits-directive EndifWord NoKeyword true ws x h = refl
fits-directive EndifWord NoKeyword false ws x h = h
fits-directive DirectiveWord DefineWord c ws x h = tt
fits-directive DirectiveWord EndefWord c ws x h = tt
fits-directive DirectiveWord IfWord c ws x h = tt
fits-directive DirectiveWord ElseWord c ws x h = tt
fits-directive DirectiveWord EndifWord c ws x h = tt
fits-directive DirectiveWord DirectiveWord c ws x h = tt
fits-directive DirectiveWord UndefineWord c ws x h = tt
fits-directive DirectiveWord NoKeyword c ws x h = tt
fits-directive UndefineWord DefineWord c ws x h = tt
fits-directive UndefineWord EndefWord c ws x h = h
fits-directive UndefineWord IfWord c ws x h = h
fits-directive UndefineWord ElseWord c ws x h = h
fits-directive UndefineWord EndifWord c ws x h = h
fits-directive UndefineWord DirectiveWord c ws x h = h
fits-directive UndefineWord UndefineWord c ws x h = tt
fits-directive UndefineWord NoKeyword c ws x h = h
fits-directive NoKeyword DefineWord c ws x h = tt
fits-directive NoKeyword EndefWord c ws x h = h
fits-directive NoKeyword IfWord c ws x h = h
fits-directive NoKeyword ElseWord c ws x h = h
fits-directive NoKeyword EndifWord c ws x h = h
fits-directive NoKeyword DirectiveWord c ws x h = h
fits-directive NoKeyword UndefineWord c ws x h = tt
fits-directive NoKeyword NoKeyword c ws x h = h

fits-plain : (led c : Bool) (cs : List Cell) (us : List (List Cell)) → FitsOutside c (plain_class joined_byte led c (is_unreadable cs) us)
fits-plain led c cs us =
    let ws = word_texts joined_byte (cut_text joined_byte us) in
    fits-cond c (is_all_blanks joined_byte (cut_text joined_byte us)) _ _ (fits-cond c (list_any (is_hash joined_byte) us) Comment Blank tt tt) (
    fits-cond c (is_unreadable cs) Opaque _ tt (
    fits-assign c (assignment joined_byte (cut_text joined_byte us)) _ (
    fits-directive (first_keyword ws) (first_keyword (after_modifiers ws)) c (after_modifiers ws) _ (
    fits-cond c (led || not (has_colon joined_byte (head joined_byte us))) Opaque (rule_class joined_byte us) tt (fits-rule c us)))))

fits-undefined : (led : Bool) (f : RuleFlag) (c : Bool) (cs : List Cell) (us : List (List Cell)) → FitsOutside c (undefined_class joined_byte led f c (is_unreadable cs) us)
fits-undefined true Rule c cs us = tt
fits-undefined true Unknown c cs us = tt
fits-undefined true Off c cs us = fits-plain true c cs us
fits-undefined false Off c cs us = fits-plain false c cs us
fits-undefined false Rule c cs us = fits-plain false c cs us
fits-undefined false Unknown c cs us = fits-plain false c cs us

some-open : (c : ℕ) → nat_lt 0 c ≡ true → (m : ℕ) × (c ≡ suc m)
some-open zero h = cc
some-open (suc m) h = (m, refl)

counts-outside : (c : ℕ) (k : Class Cell) → FitsOutside (nat_lt 0 c) k → FitsCounts 0 c k
counts-outside c Endef h = absurd h
counts-outside c (Body Opens) h = absurd h
counts-outside c (Body Closes) h = absurd h
counts-outside c (Body Keeps) h = absurd h
counts-outside c Recipe h = refl
counts-outside c Opaque h = refl
counts-outside c Blank h = refl
counts-outside c Comment h = refl
counts-outside c (Assign a p) h = refl
counts-outside c (DefineHead p) h = refl
counts-outside c If h = refl
counts-outside c Else h = (refl, some-open c h)
counts-outside c Endif h = (refl, some-open c h)
counts-outside c Directive h = refl
counts-outside c (TargetAssign t) h = refl
counts-outside c Rough h = refl
counts-outside c (Header x) h = refl

counts-define : (n c : ℕ) (k : Keyword) → FitsCounts (suc n) c (class_said (define_class k (suc n)))
counts-define n c DefineWord = (n, refl)
counts-define zero c EndefWord = refl
counts-define (suc n) c EndefWord = (n, refl)
counts-define n c IfWord = (n, refl)
counts-define n c ElseWord = (n, refl)
counts-define n c EndifWord = (n, refl)
counts-define n c DirectiveWord = (n, refl)
counts-define n c UndefineWord = (n, refl)
counts-define n c NoKeyword = (n, refl)

counts-at : (led : Bool) (n : ℕ) (f : RuleFlag) (c : ℕ) (cs : List Cell) (us : List (List Cell)) → FitsCounts n c (class_at joined_byte led n f (nat_lt 0 c) (is_unreadable cs) us)
counts-at led zero f c cs us = counts-outside c (undefined_class joined_byte led f (nat_lt 0 c) (is_unreadable cs) us) (fits-undefined led f (nat_lt 0 c) cs us)
counts-at true (suc n) f c cs us = (n, refl)
counts-at false (suc n) f c cs us = counts-define n c (first_keyword (word_texts joined_byte us))

-- the class of a line fits the open defines and conditionals
pub class_of-counts : (c : Context) (l : List ℕ) → FitsCounts c.defines c.conditionals (class_of c l)
class_of-counts c l = counts-at (is_prefix_led c.prefix l) c.defines c.flag c.conditionals (line_cells l) (units joined_byte (line_cells l))

-- ---- what it takes to be an assignment

-- a line that is an assignment: there is something in it, its bytes can be read, and its cut text is one
pub record IsAssignLine (cs : List Cell) (us : List (List Cell)) (a : Assignment Cell) : Type 0 where
  pub filled : is_all_blanks joined_byte (cut_text joined_byte us) ≡ false
  pub readable : is_unreadable cs ≡ false
  pub assigned : assignment joined_byte (cut_text joined_byte us) ≡ Some a

-- a line outside defines and recipes that is of class Assign
pub plain_class-assign : (led c : Bool) (cs : List Cell) (us : List (List Cell)) (a : Assignment Cell) (p : Option ℕ) → plain_class joined_byte led c (is_unreadable cs) us ≡ Assign a p → IsAssignLine cs us a
plain_class-assign led c cs us a p h =
    let H = subst (Holds joined_byte us led c (is_unreadable cs)) h (plain_class-holds joined_byte us led c (is_unreadable cs)) in
    record { filled = H.filled; readable = H.readable; assigned = H.assigned }

-- such a line is of class Assign
pub assign-plain_class : (led c : Bool) (cs : List Cell) (us : List (List Cell)) (a : Assignment Cell) → IsAssignLine cs us a → plain_class joined_byte led c (is_unreadable cs) us ≡ Assign a (prefix_set_by joined_byte c a)
assign-plain_class led c cs us a h = rw (h.filled, h.readable, h.assigned) refl

-- an assignment's line stands outside defines and recipes, and so does each line in its place that begins with the same byte
pub record IsReadOutside (led : Bool) (defines : ℕ) (f : RuleFlag) (c : Bool) (cs : List Cell) (us : List (List Cell)) (a : Assignment Cell) (p : Option ℕ) : Type 0 where
  pub here : plain_class joined_byte led c (is_unreadable cs) us ≡ Assign a p
  pub also : (cs' : List Cell) (us' : List (List Cell)) → class_at joined_byte led defines f c (is_unreadable cs') us' ≡ plain_class joined_byte led c (is_unreadable cs') us'
  pub no_define : defines ≡ 0

-- each line of class Assign stands there
pub class_at-assign : (led : Bool) (n : ℕ) (f : RuleFlag) (c : Bool) (cs : List Cell) (us : List (List Cell)) (a : Assignment Cell) (p : Option ℕ)
    → class_at joined_byte led n f c (is_unreadable cs) us ≡ Assign a p → IsReadOutside led n f c cs us a p
class_at-assign true (suc n) f c cs us a p h = absurd (cc)
class_at-assign false (suc n) f c cs us a p h = absurd (said-no_parts (define_class (first_keyword (word_texts joined_byte us)) (suc n)) (Assign a p) h refl)
class_at-assign true zero Rule c cs us a p h = absurd (cc)
class_at-assign true zero Unknown c cs us a p h = absurd (cc)
class_at-assign true zero Off c cs us a p h = record { here = h; also = λ x y. refl; no_define = refl }
class_at-assign false zero Off c cs us a p h = record { here = h; also = λ x y. refl; no_define = refl }
class_at-assign false zero Rule c cs us a p h = record { here = h; also = λ x y. refl; no_define = refl }
class_at-assign false zero Unknown c cs us a p h = record { here = h; also = λ x y. refl; no_define = refl }

-- ---- cells that can be read

no_stray-no_line_ends : (cs : List Cell) → has_stray cs ≡ false → NoLineEnds cs
no_stray-no_line_ends [] h = tt
no_stray-no_line_ends (Byte b ∷ cs) h = (refl, no_stray-no_line_ends cs (or-right_false (is_stray (Byte b)) (has_stray cs) h))
no_stray-no_line_ends (Fold r ∷ cs) h = (refl, no_stray-no_line_ends cs h)
no_stray-no_line_ends (LfEnd r ∷ cs) h = absurd (cc)
no_stray-no_line_ends (CrLfEnd r ∷ cs) h = absurd (cc)

-- cells that can be read have no line end and no bad fold
readable-clean : (cs : List Cell) → is_unreadable cs ≡ false → IsClean cs
readable-clean cs h = (no_stray-no_line_ends cs (or-left_false (has_stray cs) (has_bad_fold cs) h), or-right_false (has_stray cs) (has_bad_fold cs) h)

-- the cells of a line that can be read are cells that a line may have
pub readable-are_line_cells : (l : List ℕ) → is_unreadable (line_cells l) ≡ false → AreLineCells (line_cells l)
readable-are_line_cells l h = cells-are_line_cells (without_line_end l) (readable-clean (line_cells l) h)

-- stray bytes of two lists of cells
pub has_stray-append : (a b : List Cell) → has_stray a ≡ false → has_stray b ≡ false → has_stray (a ++ b) ≡ false
has_stray-append [] b h k = k
has_stray-append (c ∷ a) b h k =
    or_from (is_stray c) (has_stray (a ++ b)) (or-left_false (is_stray c) (has_stray a) h) (has_stray-append a b (or-right_false (is_stray c) (has_stray a) h) k)

-- the first of cells without stray bytes have none
pub has_stray-left : (a b : List Cell) → has_stray (a ++ b) ≡ false → has_stray a ≡ false
has_stray-left [] b h = refl
has_stray-left (c ∷ a) b h = or_from (is_stray c) (has_stray a) (or-left_false (is_stray c) (has_stray (a ++ b)) h) (has_stray-left a b (or-right_false (is_stray c) (has_stray (a ++ b)) h))

-- the last of such cells have none
pub has_stray-right : (a b : List Cell) → has_stray (a ++ b) ≡ false → has_stray b ≡ false
has_stray-right [] b h = h
has_stray-right (c ∷ a) b h = has_stray-right a b (or-right_false (is_stray c) (has_stray (a ++ b)) h)

-- cells of which some are replaced by cells without stray bytes can be read, if a line may have them
pub readable-replaced : (P W V Q : List Cell) → is_unreadable (P ++ (W ++ Q)) ≡ false → has_stray V ≡ false → AreLineCells (P ++ (V ++ Q)) → is_unreadable (P ++ (V ++ Q)) ≡ false
readable-replaced P W V Q h v g =
    let s = or-left_false (has_stray (P ++ (W ++ Q))) (has_bad_fold (P ++ (W ++ Q))) h in
    or_from (has_stray (P ++ (V ++ Q))) (has_bad_fold (P ++ (V ++ Q)))
    (has_stray-append P (V ++ Q) (has_stray-left P (W ++ Q) s) (has_stray-append V Q v (has_stray-right W Q (has_stray-right P (W ++ Q) s)))) g.clean.1

-- ---- an assignment has something in it

blanks-no_equals : (us : List (List Cell)) → after_leading (is_gap joined_byte) us ≡ [] → Each (is_no_equals joined_byte) us
blanks-no_equals [] h = tt
blanks-no_equals (u ∷ us) h = go (is_gap joined_byte u) refl h (λ k. blanks-no_equals us k)
  where
    go : (g : Bool) → is_gap joined_byte u ≡ g → cond g (after_leading (is_gap joined_byte) us) (u ∷ us) ≡ []
        → (after_leading (is_gap joined_byte) us ≡ [] → Each (is_no_equals joined_byte) us)
        → (not (is_equals joined_byte u) ≡ true) × Each (is_no_equals joined_byte) us
    go true e h k = (ap (λ s. not (is_equals_symbol s)) (gap-no_symbol joined_byte u e), k h)
    go false e h k = absurd (cc)

-- an assignment is not all blanks
pub assignment-filled : (us : List (List Cell)) (a : Assignment Cell) → assignment joined_byte us ≡ Some a → is_all_blanks joined_byte us ≡ false
assignment-filled us a h = go (after_leading (is_gap joined_byte) us) refl
  where
    go : (r : List (List Cell)) → after_leading (is_gap joined_byte) us ≡ r → is_empty r ≡ false
    go [] e = absurd (let k : None ≡ Some a = sym (no_assignment joined_byte us (blanks-no_equals us e)) ∙ h in cc)
    go (x ∷ r) e = refl
