-- Lines of class Header: what the class says of a line, and which parts make a line of that class.
use Rattle.std.proofs.Common.{◌≡◌, refl, sym, ap, ◌∙◌, subst, ℕ, zero, suc, List, [], ◌∷◌, ◌++◌, map, Bool, true, false, not, ◌||◌, cond, Option, Some, None, append_assoc}
use Rattle.std.specs.List.{list_any}
use Rattle.std.proofs.lemmas.Bool.{or_parts}
use Rattle.mk_lines.specs.Lists.{leading, after_leading, Each, FirstFails}
use Rattle.mk_lines.proofs.on_lists.ListLemmas.{Each-right, leading-append_all}
use Rattle.mk_lines.specs.Cells.{Cell, joined_byte}
use Rattle.mk_lines.specs.Words.{is_gap}
use Rattle.mk_class.specs.ListTests.{is_empty, first_passes}
use Rattle.mk_class.specs.Texts.{word_texts}
use Rattle.mk_class.specs.Symbols.{Symbol, symbol, is_colon, is_equals, is_unreadable_unit, is_colon_symbol, is_hash_symbol, is_semicolon_symbol}
use Rattle.mk_class.specs.Symbols.Symbol.{Hash, Colon, Semicolon, Equals, Plus, Question, Exclamation, Bar, Ampersand, NoSymbol}
use Rattle.mk_class.proofs.on_symbols.SymbolLemmas.{gap-no_symbol}
use Rattle.mk_class.specs.CutTexts.{cut_text, head, is_in_head, is_no_hash, is_head_end_symbol, FollowsHead}
use Rattle.mk_class.specs.Assignments.{Assignment, assignment}
use Rattle.mk_class.specs.AssignmentsAtEquals.{is_no_equals}
use Rattle.mk_class.proofs.on_assignments.NoAssignmentLemmas.{no_assignment-head}
use Rattle.mk_class.specs.Separators.{Separated, separated, has_colon, takes_assignment}
use Rattle.mk_class.specs.Headers
use Rattle.mk_class.specs.Headers.{header, has_unreadable, has_colon_after_other, has_third_separator, has_bad_bar, has_second_bar, has_bad_pattern, is_rough, header_units}
use Rattle.mk_class.specs.HeaderFits.{FitsHeader, head_units, after_separator, separator_symbols}
use Rattle.mk_class.proofs.on_headers.HeadersAgain.{header-again, separated-again}
use Rattle.mk_class.specs.Classes.Class.{Rough, Header}
use Rattle.mk_class.specs.Keywords.{first_keyword}
use Rattle.mk_class.proofs.on_classes.ClassHolds.{Holds, plain_class-holds, said-no_parts}
use Rattle.mk_class.specs.ClassTable.{class_at, define_class, directive, header_class, target_class, rule_class, is_all_blanks, is_unreadable, plain_class}
use Rattle.mk_class.specs.declared.context.RuleFlag.{RuleFlag}
use Rattle.mk_class.specs.declared.context.RuleFlag.TheVariants.{Off, Rule, Unknown}
use Rattle.mk_class.specs.declared.rule.Separator.{Separator}
use Rattle.mk_class.specs.declared.rule.Separator.TheVariants.{SingleColon, DoubleColon, GroupedColon, GroupedDoubleColon}

-- ---- what the class says

-- a line of class Header outside defines and recipes
pub record IsHeaderLine (led c : Bool) (cs : List Cell) (us : List (List Cell)) (h : Headers.Header Cell) : Type 0 where
  pub not_led : led ≡ false
  pub readable : is_unreadable cs ≡ false
  pub undirected : directive c (word_texts joined_byte (cut_text joined_byte us)) ≡ None
  pub colon : has_colon joined_byte (head joined_byte us) ≡ true
  pub not_rough : is_rough joined_byte (head joined_byte us) (header joined_byte us) ≡ false
  pub is : header joined_byte us ≡ h

-- a line outside defines and recipes that is of class Header
plain_class-header : (led c : Bool) (cs : List Cell) (us : List (List Cell)) (h : Headers.Header Cell) → plain_class joined_byte led c (is_unreadable cs) us ≡ Header h → IsHeaderLine led c cs us h
plain_class-header led c cs us h k =
    let H = subst (Holds joined_byte us led c (is_unreadable cs)) k (plain_class-holds joined_byte us led c (is_unreadable cs)) in
    record { not_led = H.rule.not_led; readable = H.rule.readable; undirected = H.rule.undirected; colon = H.rule.colon; not_rough = H.not_rough; is = H.is }

-- a line that is a Header stands outside defines and recipes, and so does each line in its place that begins with the same byte
pub record IsHeaderRead (led : Bool) (defines : ℕ) (f : RuleFlag) (c : Bool) (cs : List Cell) (us : List (List Cell)) (h : Headers.Header Cell) : Type 0 where
  pub here : IsHeaderLine led c cs us h
  pub also : (cs' : List Cell) (us' : List (List Cell)) → class_at joined_byte led defines f c (is_unreadable cs') us' ≡ plain_class joined_byte led c (is_unreadable cs') us'
  pub no_define : defines ≡ 0

-- each line of class Header stands there
pub class_at-header : (led : Bool) (n : ℕ) (f : RuleFlag) (c : Bool) (cs : List Cell) (us : List (List Cell)) (h : Headers.Header Cell) → class_at joined_byte led n f c (is_unreadable cs) us ≡ Header h → IsHeaderRead led n f c cs us h
class_at-header true (suc n) f c cs us h k = absurd (cc)
class_at-header false (suc n) f c cs us h k = absurd (said-no_parts (define_class (first_keyword (word_texts joined_byte us)) (suc n)) (Header h) k refl)
class_at-header true zero Rule c cs us h k = absurd (cc)
class_at-header true zero Unknown c cs us h k = absurd (cc)
class_at-header true zero Off c cs us h k = record { here = plain_class-header true c cs us h k; also = λ x y. refl; no_define = refl }
class_at-header false zero Off c cs us h k = record { here = plain_class-header false c cs us h k; also = λ x y. refl; no_define = refl }
class_at-header false zero Rule c cs us h k = record { here = plain_class-header false c cs us h k; also = λ x y. refl; no_define = refl }
class_at-header false zero Unknown c cs us h k = record { here = plain_class-header false c cs us h k; also = λ x y. refl; no_define = refl }

-- ---- parts that make such a line

-- if one of the last units passes, one of all units does
pub any-after : {A : Type 0} (p : A → Bool) (a b : List A) → list_any p b ≡ true → list_any p (a ++ b) ≡ true
any-after p [] b h = h
any-after p (x ∷ a) b h = ap (λ z. p x || z) (any-after p a b h) ∙ go (p x)
  where
    go : (c : Bool) → (c || true) ≡ true
    go true = refl
    go false = refl

any-before : {A : Type 0} (p : A → Bool) (a b : List A) → list_any p a ≡ true → list_any p (a ++ b) ≡ true
any-before p [] b h = cc
any-before p (x ∷ a) b h = go (p x) h (λ k. any-before p a b k)
  where
    go : (c : Bool) → (c || list_any p a) ≡ true → (list_any p a ≡ true → list_any p (a ++ b) ≡ true) → (c || list_any p (a ++ b)) ≡ true
    go true e i = refl
    go false e i = i e

-- the leading elements where all of the first list pass
pub leading-all : {A : Type 0} (p : A → Bool) (xs ys : List A) → Each p xs → leading p (xs ++ ys) ≡ xs ++ leading p ys
leading-all p [] ys h = refl
leading-all p (x ∷ xs) ys h = rw (h.0, leading-all p xs ys h.1) refl

colon-symbols : (us : List (List Cell)) → list_any is_colon_symbol (map (symbol joined_byte) us) ≡ has_colon joined_byte us
colon-symbols [] = refl
colon-symbols (u ∷ us) = ap (λ z. is_colon joined_byte u || z) (colon-symbols us)

separator-colon : (s : Separator) → list_any is_colon_symbol (separator_symbols s) ≡ true
separator-colon SingleColon = refl
separator-colon DoubleColon = refl
separator-colon GroupedColon = refl
separator-colon GroupedDoubleColon = refl

-- a separator has a `:`
separator-has_colon : (us : List (List Cell)) (s : Separator) → map (symbol joined_byte) us ≡ separator_symbols s → has_colon joined_byte us ≡ true
separator-has_colon us s h = sym (colon-symbols us) ∙ (ap (list_any is_colon_symbol) h ∙ separator-colon s)

-- units with a `:` are not all blanks
pub colon-filled : (us : List (List Cell)) → has_colon joined_byte us ≡ true → is_all_blanks joined_byte us ≡ false
colon-filled [] h = cc
colon-filled (u ∷ us) h = go (is_gap joined_byte u) refl (λ k. colon-filled us k)
  where
    rest : (b : Bool) → b ≡ false → (b || has_colon joined_byte us) ≡ true → has_colon joined_byte us ≡ true
    rest true e k = cc
    rest false e k = k

    go : (g : Bool) → is_gap joined_byte u ≡ g → (has_colon joined_byte us ≡ true → is_all_blanks joined_byte us ≡ false) → is_empty (cond g (after_leading (is_gap joined_byte) us) (u ∷ us)) ≡ false
    go true e k = k (rest (is_colon joined_byte u) (ap is_colon_symbol (gap-no_symbol joined_byte u e)) h)
    go false e k = refl

head-no_hash : (s : Symbol) → not (is_head_end_symbol s) ≡ true → not (is_hash_symbol s) ≡ true
head-no_hash Hash h = cc
head-no_hash Colon h = refl
head-no_hash Semicolon h = refl
head-no_hash Equals h = refl
head-no_hash Plus h = refl
head-no_hash Question h = refl
head-no_hash Exclamation h = refl
head-no_hash Bar h = refl
head-no_hash Ampersand h = refl
head-no_hash NoSymbol h = refl

no_hash-each : (us : List (List Cell)) → Each (is_in_head joined_byte) us → Each (is_no_hash joined_byte) us
no_hash-each [] h = tt
no_hash-each (u ∷ us) h = (head-no_hash (symbol joined_byte u) h.0, no_hash-each us h.1)

semicolon-ends : (s : Symbol) → not (is_head_end_symbol s) ≡ false → not (is_hash_symbol s) ≡ true → is_semicolon_symbol s ≡ true
semicolon-ends Hash h k = cc
semicolon-ends Colon h k = cc
semicolon-ends Semicolon h k = refl
semicolon-ends Equals h k = cc
semicolon-ends Plus h k = cc
semicolon-ends Question h k = cc
semicolon-ends Exclamation h k = cc
semicolon-ends Bar h k = cc
semicolon-ends Ampersand h k = cc
semicolon-ends NoSymbol h k = cc

semicolon-no_colon : (s : Symbol) → is_semicolon_symbol s ≡ true → is_colon_symbol s ≡ false
semicolon-no_colon Hash h = refl
semicolon-no_colon Colon h = cc
semicolon-no_colon Semicolon h = refl
semicolon-no_colon Equals h = refl
semicolon-no_colon Plus h = refl
semicolon-no_colon Question h = refl
semicolon-no_colon Exclamation h = refl
semicolon-no_colon Bar h = refl
semicolon-no_colon Ampersand h = refl
semicolon-no_colon NoSymbol h = refl

-- what follows a head, up to a comment: nothing, or a `;` and any units
cut-tail : (us : List (List Cell)) → FirstFails (is_in_head joined_byte) us → FollowsHead joined_byte (cut_text joined_byte us)
cut-tail [] h = tt
cut-tail (u ∷ us) h = go (is_no_hash joined_byte u) refl
  where
    go : (b : Bool) → is_no_hash joined_byte u ≡ b → FollowsHead joined_byte (cond b (u ∷ cut_text joined_byte us) [])
    go true e = semicolon-ends (symbol joined_byte u) h e
    go false e = tt

no_equals-each : (us : List (List Cell)) → has_unreadable joined_byte us ≡ false → Each (is_no_equals joined_byte) us
no_equals-each [] h = tt
no_equals-each (u ∷ us) h =
    let p = or_parts (is_equals joined_byte u || is_unreadable_unit joined_byte u) (has_unreadable joined_byte us) h in
    (ap not ((or_parts (is_equals joined_byte u) (is_unreadable_unit joined_byte u) p.0).0), no_equals-each us p.1)

first-follows : (a k : List (List Cell)) → first_passes (is_colon joined_byte) a ≡ false → FollowsHead joined_byte k → first_passes (is_colon joined_byte) (a ++ k) ≡ false
first-follows [] [] h f = refl
first-follows [] (u ∷ k) h f = semicolon-no_colon (symbol joined_byte u) f
first-follows (u ∷ a) k h f = h

-- what else than a unit makes a line Rough
abbrev pub is_rough_made : Headers.Header Cell → Bool
is_rough_made h =
    has_colon_after_other joined_byte h || (has_third_separator joined_byte h || (has_bad_bar joined_byte h || (has_second_bar joined_byte h || has_bad_pattern joined_byte h)))

-- parts that make a line of class Header
pub record MakeHeader (c : Bool) (cs : List Cell) (h : Headers.Header Cell) : Type 0 where
  pub fits : FitsHeader joined_byte h
  pub readable : is_unreadable cs ≡ false
  pub units_readable : has_unreadable joined_byte (head_units h) ≡ false
  pub not_rough : is_rough_made h ≡ false
  pub undirected : directive c (word_texts joined_byte (cut_text joined_byte (header_units h))) ≡ None

-- the units of a header are its head and what follows it
pub header_units-head : (h : Headers.Header Cell) → header_units h ≡ head_units h ++ h.tail
header_units-head h =
    let e : h.targets ++ (h.colons ++ (h.pattern ++ (h.second_colon ++ (h.normal ++ (h.bar ++ (h.order_only ++ h.tail))))))
    ≡ (h.targets ++ (h.colons ++ (h.pattern ++ (h.second_colon ++ (h.normal ++ (h.bar ++ h.order_only)))))) ++ h.tail = simp append_assoc in e

-- the cut text of a header's line
pub header-cut : (h : Headers.Header Cell) → Each (is_in_head joined_byte) (head_units h) → cut_text joined_byte (header_units h) ≡ head_units h ++ cut_text joined_byte h.tail
header-cut h i = ap (cut_text joined_byte) (header_units-head h) ∙ leading-all (is_no_hash joined_byte) (head_units h) h.tail (no_hash-each (head_units h) i)

made-class : (led c : Bool) (cs : List Cell) (us : List (List Cell)) (h : Headers.Header Cell) → led ≡ false → is_all_blanks joined_byte (cut_text joined_byte us) ≡ false → is_unreadable cs ≡ false
    → assignment joined_byte (cut_text joined_byte us) ≡ None → directive c (word_texts joined_byte (cut_text joined_byte us)) ≡ None → has_colon joined_byte (head joined_byte us) ≡ true
    → rule_class joined_byte us ≡ Header h → plain_class joined_byte led c (is_unreadable cs) us ≡ Header h
made-class led c cs us h a b r n d k e = rw (b, r, n, d, a, k) e

made-rule : (us : List (List Cell)) (h : Headers.Header Cell) → assignment joined_byte (separated joined_byte (cut_text joined_byte us)).rest ≡ None
    → is_rough joined_byte (head joined_byte us) (header joined_byte us) ≡ false → header joined_byte us ≡ h → rule_class joined_byte us ≡ Header h
made-rule us h n r e = let s = separated joined_byte (cut_text joined_byte us) in go (takes_assignment s.separator) s (assignment joined_byte s.rest) n
  where
    own : cond (is_rough joined_byte (head joined_byte us) (header joined_byte us)) Rough (Header (header joined_byte us)) ≡ Header h
    own = ap (λ b. cond b Rough (Header (header joined_byte us))) r ∙ ap (λ z. Header z) e

    go : (b : Bool) (s : Separated Cell) (o : Option (Assignment Cell)) → o ≡ None → cond b (target_class s o (header_class joined_byte us)) (header_class joined_byte us) ≡ Header h
    go true s None q = own
    go true s (Some a) q = absurd (cc)
    go false s o q = own

-- such a line is of class Header
pub made-header : (c : Bool) (cs : List Cell) (h : Headers.Header Cell) → MakeHeader c cs h → plain_class joined_byte false c (is_unreadable cs) (header_units h) ≡ Header h
made-header c cs h m =
    let f = m.fits in
    let us = header_units h in
    let H = head_units h in
    let K = cut_text joined_byte h.tail in
    let whole : head joined_byte us ≡ H = ap (head joined_byte) (header_units-head h) ∙ leading-append_all (is_in_head joined_byte) H h.tail f.in_head f.tail_ends in
    let cut : cut_text joined_byte us ≡ H ++ K = header-cut h f.in_head in
    let colons : has_colon joined_byte h.colons ≡ true = separator-has_colon h.colons h.separator f.colons_are in
    let colon : has_colon joined_byte H ≡ true = any-after (is_colon joined_byte) h.targets (h.colons ++ after_separator h) (any-before (is_colon joined_byte) h.colons (after_separator h) colons) in
    let follows : FollowsHead joined_byte K = cut-tail h.tail f.tail_ends in
    let equals : Each (is_no_equals joined_byte) H = no_equals-each H m.units_readable in
    let S = after_separator h in
    let rest : Each (is_no_equals joined_byte) S = Each-right (is_no_equals joined_byte) h.colons S (Each-right (is_no_equals joined_byte) h.targets (h.colons ++ S) equals) in
    let split : H ++ K ≡ h.targets ++ (h.colons ++ (S ++ K)) = append_assoc h.targets (h.colons ++ S) K ∙ ap (λ z. h.targets ++ z) (append_assoc h.colons S K) in
    let apart = separated-again joined_byte h.separator h.targets h.colons (S ++ K) f.no_colon f.targets_apart f.colons_are (first-follows S K f.rest_apart follows) in
    let target : assignment joined_byte (separated joined_byte (cut_text joined_byte us)).rest ≡ None =
    ap (λ z. assignment joined_byte (separated joined_byte z).rest) (cut ∙ split) ∙ (ap (λ (z : Separated Cell). assignment joined_byte z.rest) apart ∙ no_assignment-head joined_byte S K rest follows) in
    let again : header joined_byte us ≡ h = header-again joined_byte h f in
    let rough : is_rough joined_byte (head joined_byte us) (header joined_byte us) ≡ false =
    ap (λ z. is_rough joined_byte z (header joined_byte us)) whole ∙ (ap (λ z. is_rough joined_byte H z) again ∙ (ap (λ z. z || is_rough_made h) m.units_readable ∙ m.not_rough)) in
    made-class false c cs us h refl
    (ap (is_all_blanks joined_byte) cut ∙ colon-filled (H ++ K) (any-before (is_colon joined_byte) H K colon)) m.readable
    (ap (assignment joined_byte) cut ∙ no_assignment-head joined_byte H K equals follows)
    m.undirected (ap (has_colon joined_byte) whole ∙ colon)
    (made-rule us h target rough again)
