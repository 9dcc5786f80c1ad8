-- What is mentioned, the keys of lines, and what a line is not whose keys lack a word.
use Rattle.std.proofs.Common.{◌≡◌, refl, sym, ap, ◌∙◌, subst, ℕ, Bool, true, false, List, [], ◌∷◌, ◌++◌, map, append_assoc, arith, Option, Some, None, inl, inr, ◌&&◌, ◌||◌, get_or, length}
use Rattle.std.specs.Prelude.{◌⊎◌, nat_lt}
use Rattle.std.proofs.lemmas.List.{map-append}
use Rattle.std.specs.Str.{bytes_eq}
use Rattle.std.proofs.lemmas.Bool.{false≢true, or_parts}
use Rattle.std.proofs.lemmas.List.Folds.{list_any-append}
use Rattle.std.proofs.lemmas.Slice.Eq.{bytes_eq-Decides}
use Rattle.mk_lines.specs.Ranges.{text_at}
use Rattle.mk_lines.specs.Words.{words_in}
use Rattle.mk_lines.specs.declared.split.Span.{Span}
use Rattle.mk_lines.specs.Cells.{Cell, joined_text, line_cells}
use Rattle.mk_class.specs.declared.assignment.Assignment as assignment
use Rattle.mk_class.specs.declared.class.Class as class
use Rattle.mk_class.specs.declared.class.Class.TheVariants as variants
use Rattle.mk_class.specs.Texts.{is_one_of}
use Rattle.mk_tree.specs.LocatedLines.{LocatedLine, text_of_line}
use Rattle.mk_edit_language.specs.Addresses.{Address, Variable, LastVariable, Valued, Commented, Rule, place_address}
use Rattle.mk_edit_language.specs.Edits.{Site, AtPlace, BeforeRun, AfterRun, OfRun, OfRuleRun}
use Rattle.mk_edit_parts.specs.RenamedRanges.{has_parts, span, word_parts, ArePartsWithin, part_ranges, parts_ranges, renamed_ranges}
use Rattle.mk_edit_parts.specs.declared.word_parts.WordParts.{WordParts}
use Rattle.mk_edit_parts.specs.LocatedParts.{IsClassed, assigns_in, assigns_located, has_value_located, is_rule_for_in, is_target_in, is_target_located, is_unread_located}
use Rattle.mk_edit_parts.specs.Seeking.{may_mean}
use Rattle.mk_edit_parts.specs.Windows.{concerns, concerns_rename, concerns_site, first_text, says_first}
use Rattle.mk_edit_parts.proofs.on_finding.PartLemmas.{seen-header, seen-target_assign}
use Rattle.mk_edit_parts.proofs.on_renaming.AbsentWords.{part-lacks}
use Rattle.mk_edit_parts.proofs.on_renaming.RangeLemmas.{part-within}
use Rattle.mk_index.specs.Chains.{AreMentioned, IsMentioned, Mention, hash_of}
use Rattle.mk_index.specs.Keys.{IsListed, IsOneOf, IsSiteKey, IsSiteListed, keys_in, listed, words_of_parts, IsKeyOf, hashes_of, keys_of, text_key, unread_key}
use Rattle.mk_index.specs.declared.keys.Scope.{Scope}

-- ---- mentions

pub is_mentioned-more : (added ms : List Mention) (h b : ℕ) → IsMentioned ms h b → IsMentioned (added ++ ms) h b
is_mentioned-more [] ms h b k = k
is_mentioned-more (m ∷ added) ms h b k = inr (is_mentioned-more added ms h b k)

pub mentioned-more : (added ms : List Mention) (b : ℕ) (hs : List ℕ) → AreMentioned ms b hs → AreMentioned (added ++ ms) b hs
mentioned-more added ms b [] k = tt
mentioned-more added ms b (h ∷ hs) k = (is_mentioned-more added ms h b k.0, mentioned-more added ms b hs k.1)

pub mentioned-one : (ms : List Mention) (b h : ℕ) (hs : List ℕ) → AreMentioned ms b hs → IsOneOf h hs → IsMentioned ms h b
mentioned-one ms b h [] k is = absurd is
mentioned-one ms b h (x ∷ hs) k is = elim is [
  | inl e ↦ subst (λ n. IsMentioned ms n b) e k.0
  | inr r ↦ mentioned-one ms b h hs k.1 r
]

pub mentioned-both : (ms : List Mention) (b : ℕ) (hs ks : List ℕ) → AreMentioned ms b hs → AreMentioned ms b ks → AreMentioned ms b (hs ++ ks)
mentioned-both ms b [] ks h k = k
mentioned-both ms b (x ∷ hs) ks h k = (h.0, mentioned-both ms b hs ks h.1 k)

-- ---- the keys of a line

-- the keys of a line that is no assignment
pub keys-other : (s : Scope) (t : List ℕ) (k : class.Class) → ((a : assignment.Assignment) (p : Option ℕ) → k ≡ variants.Assign a p → ⊥) → keys_in s t k ≡ words_of_parts s t (word_parts k)
keys-other s t (variants.Assign a p) h = absurd (h a p refl)
keys-other s t variants.Endef h = refl
keys-other s t (variants.Body d) h = refl
keys-other s t variants.Recipe h = refl
keys-other s t variants.Opaque h = refl
keys-other s t variants.Blank h = refl
keys-other s t variants.Comment h = refl
keys-other s t (variants.DefineHead p) h = refl
keys-other s t variants.If h = refl
keys-other s t variants.Else h = refl
keys-other s t variants.Endif h = refl
keys-other s t variants.Directive h = refl
keys-other s t (variants.TargetAssign a) h = refl
keys-other s t variants.Rough h = refl
keys-other s t (variants.Header x) h = refl

hashes-three : (a b c : List (List ℕ)) → (map hash_of a ++ map hash_of b) ++ map hash_of c ≡ map hash_of (a ++ (b ++ c))
hashes-three a b c =
    append_assoc (map hash_of a) (map hash_of b) (map hash_of c)
    ∙ (ap (λ z. map hash_of a ++ z) (sym (map-append hash_of b c)) ∙ sym (map-append hash_of a (b ++ c)))

-- the hashes of the words of three parts that are asked for
pub hashes-parts : (s : Scope) (t u : List ℕ) (p q : WordParts) (x y z : List ℕ) → t ≡ u → p ≡ q → x ≡ text_at t p.targets → y ≡ text_at t p.normal → z ≡ text_at t p.order_only
    → (map hash_of (listed s.targets (words_in x)) ++ map hash_of (listed s.prerequisites (words_in y))) ++ map hash_of (listed s.prerequisites (words_in z)) ≡ map hash_of (words_of_parts s u q)
hashes-parts s t u p q x y z h i j k l =
    let T : List ℕ → List ℕ = λ w. map hash_of (listed s.targets (words_in w)) in
    let P : List ℕ → List ℕ = λ w. map hash_of (listed s.prerequisites (words_in w)) in
    ap (λ w. (T w ++ P y) ++ P z) j
    ∙ (ap (λ w. (T (text_at t p.targets) ++ P w) ++ P z) k
    ∙ (ap (λ w. (T (text_at t p.targets) ++ P (text_at t p.normal)) ++ P w) l
    ∙ (hashes-three (listed s.targets (words_in (text_at t p.targets))) (listed s.prerequisites (words_in (text_at t p.normal))) (listed s.prerequisites (words_in (text_at t p.order_only)))
    ∙ (ap (λ v. map hash_of (words_of_parts s v p)) h ∙ ap (λ v. map hash_of (words_of_parts s u v)) i))))

-- words that are not asked for
pub listed-none : (b : Bool) (ws : List (List ℕ)) → b ≡ false → listed b ws ≡ []
listed-none true ws h = absurd (false≢true (sym h))
listed-none false ws h = refl

-- words that are asked for
pub listed-all : (b : Bool) (ws : List (List ℕ)) → b ≡ true → listed b ws ≡ ws
listed-all true ws h = refl
listed-all false ws h = absurd (false≢true h)

listed-empty : (b : Bool) → listed b [] ≡ []
listed-empty true = refl
listed-empty false = refl

none-of-none : (s : Scope) (t : List ℕ) → words_of_parts s t (record { targets = span 0 0; normal = span 0 0; order_only = span 0 0 }) ≡ []
none-of-none s t =
    ap (λ (x : List (List ℕ)). x ++ (listed s.prerequisites [] ++ listed s.prerequisites [])) (listed-empty s.targets)
    ∙ ap (λ (x : List (List ℕ)). x ++ x) (listed-empty s.prerequisites)

-- a line of a class without parts has no words there
pub no-words : (s : Scope) (t : List ℕ) (k : class.Class) → has_parts k ≡ false → words_of_parts s t (word_parts k) ≡ []
no-words s t (variants.Header x) e = absurd (false≢true (sym e))
no-words s t (variants.TargetAssign a) e = absurd (false≢true (sym e))
no-words s t (variants.Assign a p) e = none-of-none s t
no-words s t variants.Endef e = none-of-none s t
no-words s t (variants.Body d) e = none-of-none s t
no-words s t variants.Recipe e = none-of-none s t
no-words s t variants.Opaque e = none-of-none s t
no-words s t variants.Blank e = none-of-none s t
no-words s t variants.Comment e = none-of-none s t
no-words s t (variants.DefineHead p) e = none-of-none s t
no-words s t variants.If e = none-of-none s t
no-words s t variants.Else e = none-of-none s t
no-words s t variants.Endif e = none-of-none s t
no-words s t variants.Directive e = none-of-none s t
no-words s t variants.Rough e = none-of-none s t

-- ---- words and their hashes

-- the hash of one of some words is one of their hashes
hash-one : (w : List ℕ) (ws : List (List ℕ)) → is_one_of w ws ≡ true → IsOneOf (hash_of w) (map hash_of ws)
hash-one w [] h = absurd (false≢true h)
hash-one w (v ∷ ws) h = go (bytes_eq w v) refl h (hash-one w ws)
  where
    go : (b : Bool) → bytes_eq w v ≡ b → (b || is_one_of w ws) ≡ true → (is_one_of w ws ≡ true → IsOneOf (hash_of w) (map hash_of ws)) → (hash_of v ≡ hash_of w) ⊎ IsOneOf (hash_of w) (map hash_of ws)
    go true is e ahead = inl (ap hash_of (sym ((bytes_eq-Decides w v).0 is)))
    go false is e ahead = inr (ahead e)

-- a word whose hash is none of some words' hashes is none of them
not-one : (w : List ℕ) (ws : List (List ℕ)) → (IsOneOf (hash_of w) (map hash_of ws) → ⊥) → is_one_of w ws ≡ false
not-one w ws h = go (is_one_of w ws) refl
  where
    go : (b : Bool) → is_one_of w ws ≡ b → b ≡ false
    go true is = absurd (h (hash-one w ws is))
    go false is = refl

-- a word that is none of the words of two lists
not-both : (w : List ℕ) (xs ys : List (List ℕ)) → is_one_of w (xs ++ ys) ≡ false → (is_one_of w xs ≡ false) × (is_one_of w ys ≡ false)
not-both w xs ys h = or_parts (is_one_of w xs) (is_one_of w ys) (sym (list_any-append (bytes_eq w) xs ys) ∙ h)

not-same : (v w : List ℕ) → bytes_eq w v ≡ false → bytes_eq v w ≡ false
not-same v w h = go (bytes_eq v w) refl
  where
    go : (b : Bool) → bytes_eq v w ≡ b → b ≡ false
    go true is = absurd (false≢true (sym h ∙ (bytes_eq-Decides w v).1 (sym ((bytes_eq-Decides v w).0 is))))
    go false is = refl

-- ---- a line whose keys lack a word

-- a word that is no key of a line
no-key : (s : Scope) (w : List ℕ) (l : LocatedLine) → (IsOneOf (hash_of w) (hashes_of s l) → ⊥) → (is_one_of w (unread_key (is_unread_located l)) ≡ false) × (is_one_of w (keys_in s (text_of_line l) l.class) ≡ false)
no-key s w l h =
    let words = unread_key (is_unread_located l) ++ keys_in s (text_of_line l) l.class in
    not-both w (unread_key (is_unread_located l)) (keys_in s (text_of_line l) l.class)
    (not-both w (listed s.lines (text_key (first_text l.bytes) ∷ [])) words (not-one w (keys_of s l) h)).1

not-unread : (u : Bool) → is_one_of [] (unread_key u) ≡ false → u ≡ false
not-unread true h = absurd (false≢true (sym h))
not-unread false h = refl

not-assigned : (s : Scope) (t w : List ℕ) (k : class.Class) → s.names ≡ true → is_one_of w (keys_in s t k) ≡ false → assigns_in t w k ≡ false
not-assigned s t w (variants.Assign a p) asked h =
    let lack : is_one_of w (text_at t a.name ∷ []) ≡ false = ap (is_one_of w) (sym (listed-all s.names (text_at t a.name ∷ []) asked)) ∙ h in
    not-same (text_at t a.name) w (or_parts (bytes_eq w (text_at t a.name)) false lack).0
not-assigned s t w variants.Endef asked h = refl
not-assigned s t w (variants.Body d) asked h = refl
not-assigned s t w variants.Recipe asked h = refl
not-assigned s t w variants.Opaque asked h = refl
not-assigned s t w variants.Blank asked h = refl
not-assigned s t w variants.Comment asked h = refl
not-assigned s t w (variants.DefineHead p) asked h = refl
not-assigned s t w variants.If asked h = refl
not-assigned s t w variants.Else asked h = refl
not-assigned s t w variants.Endif asked h = refl
not-assigned s t w variants.Directive asked h = refl
not-assigned s t w (variants.TargetAssign a) asked h = refl
not-assigned s t w variants.Rough asked h = refl
not-assigned s t w (variants.Header x) asked h = refl

-- what a word is not that is no word of some parts
record PartsLack (t w : List ℕ) (p : WordParts) : Type 0 where
  targets : is_one_of w (words_in (text_at t p.targets)) ≡ false
  normal : is_one_of w (words_in (text_at t p.normal)) ≡ false
  order_only : is_one_of w (words_in (text_at t p.order_only)) ≡ false

parts-lack : (s : Scope) (t w : List ℕ) (p : WordParts) → s.targets ≡ true → s.prerequisites ≡ true → is_one_of w (words_of_parts s t p) ≡ false → PartsLack t w p
parts-lack s t w p targets prerequisites h =
    let T = words_in (text_at t p.targets) in
    let N = words_in (text_at t p.normal) in
    let O = words_in (text_at t p.order_only) in
    let first = not-both w (listed s.targets T) (listed s.prerequisites N ++ listed s.prerequisites O) h in
    let others = not-both w (listed s.prerequisites N) (listed s.prerequisites O) first.1 in
    record {
      targets = ap (is_one_of w) (sym (listed-all s.targets T targets)) ∙ first.0;
      normal = ap (is_one_of w) (sym (listed-all s.prerequisites N prerequisites)) ∙ others.0;
      order_only = ap (is_one_of w) (sym (listed-all s.prerequisites O prerequisites)) ∙ others.1;
    }

targets-lack : (s : Scope) (t w : List ℕ) (p : WordParts) → s.targets ≡ true → is_one_of w (words_of_parts s t p) ≡ false → is_one_of w (words_in (text_at t p.targets)) ≡ false
targets-lack s t w p asked h =
    let T = words_in (text_at t p.targets) in
    let first = not-both w (listed s.targets T) (listed s.prerequisites (words_in (text_at t p.normal)) ++ listed s.prerequisites (words_in (text_at t p.order_only))) h in
    ap (is_one_of w) (sym (listed-all s.targets T asked)) ∙ first.0

not-target : (s : Scope) (t w : List ℕ) (k : class.Class) → s.targets ≡ true → is_one_of w (keys_in s t k) ≡ false → is_target_in t w k ≡ false
not-target s t w (variants.Header x) asked h = targets-lack s t w (word_parts (variants.Header x)) asked h
not-target s t w (variants.TargetAssign a) asked h = targets-lack s t w (word_parts (variants.TargetAssign a)) asked h
not-target s t w (variants.Assign a p) asked h = refl
not-target s t w variants.Endef asked h = refl
not-target s t w (variants.Body d) asked h = refl
not-target s t w variants.Recipe asked h = refl
not-target s t w variants.Opaque asked h = refl
not-target s t w variants.Blank asked h = refl
not-target s t w variants.Comment asked h = refl
not-target s t w (variants.DefineHead p) asked h = refl
not-target s t w variants.If asked h = refl
not-target s t w variants.Else asked h = refl
not-target s t w variants.Endif asked h = refl
not-target s t w variants.Directive asked h = refl
not-target s t w variants.Rough asked h = refl

-- a line of which a word is no target is no header of a rule for it
not-rule : (t w : List ℕ) (k : class.Class) → is_target_in t w k ≡ false → is_rule_for_in t w k ≡ false
not-rule t w (variants.Header x) h = h
not-rule t w (variants.TargetAssign a) h = refl
not-rule t w (variants.Assign a p) h = refl
not-rule t w variants.Endef h = refl
not-rule t w (variants.Body d) h = refl
not-rule t w variants.Recipe h = refl
not-rule t w variants.Opaque h = refl
not-rule t w variants.Blank h = refl
not-rule t w variants.Comment h = refl
not-rule t w (variants.DefineHead p) h = refl
not-rule t w variants.If h = refl
not-rule t w variants.Else h = refl
not-rule t w variants.Endif h = refl
not-rule t w variants.Directive h = refl
not-rule t w variants.Rough h = refl

-- a word that is no key of a line is no target of it
untargeted : (s : Scope) (word : List ℕ) (l : LocatedLine) → s.targets ≡ true → (IsOneOf (hash_of word) (hashes_of s l) → ⊥) → is_target_located word l ≡ false
untargeted s word l asked h = not-target s (text_of_line l) word l.class asked (no-key s word l h).1

-- a name that is no key of a line is not assigned by it
not-named : (s : Scope) (n : List ℕ) (l : LocatedLine) (h : ℕ) → s.names ≡ true → h ≡ hash_of n → (IsOneOf h (hashes_of s l) → ⊥) → assigns_located n l ≡ false
not-named s n l h asked key none = not-assigned s (text_of_line l) n l.class asked (no-key s n l (λ m. none (subst (λ i. IsOneOf i (hashes_of s l)) (sym key) m))).1

-- an address whose key is no key of a line does not mean it
not-meant : (s : Scope) (a : Option Address) (l : LocatedLine) (h : ℕ) → IsListed s a → IsKeyOf a h → (IsOneOf h (hashes_of s l) → ⊥) → may_mean a l ≡ false
not-meant s None l h asked key none = refl
not-meant s (Some (Variable nth n)) l h asked key none = not-named s n l h asked key none
not-meant s (Some (LastVariable n)) l h asked key none = not-named s n l h asked key none
not-meant s (Some (Valued nth n v)) l h asked key none = ap (λ q. q && has_value_located v l) (not-named s n l h asked key none)
not-meant s (Some (Commented nth n)) l h asked key none = absurd asked
not-meant s (Some (Rule nth t)) l h asked key none = not-rule (text_of_line l) t l.class (untargeted s t l asked (λ m. none (subst (λ i. IsOneOf i (hashes_of s l)) (sym key) m)))

-- a line decides nothing for an address if neither the address's key nor the empty word is a key of
-- the line
pub unconcerned : (s : Scope) (a : Option Address) (l : LocatedLine) (h : ℕ) → IsListed s a → IsKeyOf a h → (IsOneOf h (hashes_of s l) → ⊥) → (IsOneOf 0 (hashes_of s l) → ⊥) → concerns a l ≡ false
unconcerned s a l h asked key none read =
    ap (λ b. b || is_unread_located l) (not-meant s a l h asked key none) ∙ not-unread (is_unread_located l) (no-key s [] l read).0

-- a line that does not begin as a block does
untexted : (s : Scope) (b : List (List ℕ)) (l : LocatedLine) → s.lines ≡ true → (IsOneOf (hash_of (text_key (get_or b 0 []))) (hashes_of s l) → ⊥) → says_first b l ≡ false
untexted s b l asked h = go (says_first b l) refl
  where
    go : (q : Bool) → says_first b l ≡ q → q ≡ false
    go false is = refl
    go true is =
        let same : first_text l.bytes ≡ get_or b 0 [] = (bytes_eq-Decides (first_text l.bytes) (get_or b 0 [])).0 is in
        let key = text_key (get_or b 0 []) in
        let rest = unread_key (is_unread_located l) ++ keys_in s (text_of_line l) l.class in
        absurd (h (subst (λ a. IsOneOf (hash_of key) (map hash_of (listed a (text_key (first_text l.bytes) ∷ []) ++ rest))) (sym asked) (inl (ap (λ t. hash_of (text_key t)) same))))

-- a line decides nothing for a site if neither that by which the site's lines are found nor the empty
-- word is a key of the line
pub unsited : (s : Scope) (t : Site) (l : LocatedLine) (h : ℕ) → IsSiteListed s t → IsSiteKey t h → (IsOneOf h (hashes_of s l) → ⊥) → (IsOneOf 0 (hashes_of s l) → ⊥) → concerns_site t l ≡ false
unsited s t l h asked key none read = go t asked key
  where
    run : (b : List (List ℕ)) → s.lines ≡ true → h ≡ hash_of (text_key (get_or b 0 [])) → (concerns None l || says_first b l) ≡ false
    run b a k =
        ap (λ q. q || says_first b l) (unconcerned s None l 0 tt tt read read)
        ∙ untexted s b l a (λ m. none (subst (λ i. IsOneOf i (hashes_of s l)) (sym k) m))

    other : (a : Option Address) → IsListed s a → IsKeyOf a h → (concerns a l || false) ≡ false
    other a i k = ap (λ q. q || false) (unconcerned s a l h i k none read)

    go : (t : Site) → IsSiteListed s t → IsSiteKey t h → concerns_site t l ≡ false
    go (AtPlace p) a k = other (place_address p) a k
    go (BeforeRun nth o) a k = run o a k
    go (AfterRun nth o) a k = run o a k
    go (OfRun nth o) a k = run o a k
    go (OfRuleRun nth g) a k = other (Some (Rule nth g)) a k

-- a line of which a word is no key has no range in which a rename replaces the word
unrenamed : (s : Scope) (old : List ℕ) (l : LocatedLine) → s.targets ≡ true → s.prerequisites ≡ true → IsClassed l → (IsOneOf (hash_of old) (hashes_of s l) → ⊥) → renamed_ranges old l ≡ []
unrenamed s old l targets prerequisites c h = go l.class refl (no-key s old l h).1
  where
    cs : List Cell
    cs = line_cells l.bytes

    none : (p : WordParts) → ArePartsWithin (length cs) p → PartsLack (joined_text cs) old p → parts_ranges cs old p ≡ []
    none p within lack =
        ap (λ z. z ++ (part_ranges cs old p.normal ++ part_ranges cs old p.order_only)) (part-lacks cs p.targets old within.0 lack.targets)
        ∙ (ap (λ z. z ++ part_ranges cs old p.order_only) (part-lacks cs p.normal old within.1 lack.normal) ∙ part-lacks cs p.order_only old within.2 lack.order_only)

    go : (k : class.Class) → l.class ≡ k → is_one_of old (keys_in s (text_of_line l) k) ≡ false → parts_ranges cs old (word_parts k) ≡ []
    go (variants.Header x) is lack =
        let seen = seen-header l c x is in
        none (word_parts (variants.Header x)) (part-within _ _ _ _ _ seen.2.targets, part-within _ _ _ _ _ seen.2.normal, part-within _ _ _ _ _ seen.2.order_only) (parts-lack s (text_of_line l) old (word_parts (variants.Header x)) targets prerequisites lack)
    go (variants.TargetAssign a) is lack =
        let seen = seen-target_assign l c a is in
        none (word_parts (variants.TargetAssign a)) (part-within _ _ _ _ _ seen.2.targets, (omega arith, omega arith), (omega arith, omega arith)) (parts-lack s (text_of_line l) old (word_parts (variants.TargetAssign a)) targets prerequisites lack)
    go (variants.Assign a p) is lack = refl
    go variants.Endef is lack = refl
    go (variants.Body d) is lack = refl
    go variants.Recipe is lack = refl
    go variants.Opaque is lack = refl
    go variants.Blank is lack = refl
    go variants.Comment is lack = refl
    go (variants.DefineHead p) is lack = refl
    go variants.If is lack = refl
    go variants.Else is lack = refl
    go variants.Endif is lack = refl
    go variants.Directive is lack = refl
    go variants.Rough is lack = refl

-- a line without the words of a rename does not concern it
pub unrenaming : (s : Scope) (old new : List ℕ) (l : LocatedLine) → s.targets ≡ true → s.prerequisites ≡ true → IsClassed l → (IsOneOf (hash_of old) (hashes_of s l) → ⊥) → (IsOneOf (hash_of new) (hashes_of s l) → ⊥) → (IsOneOf 0 (hashes_of s l) → ⊥) → concerns_rename old new l ≡ false
unrenaming s old new l targets prerequisites classed none_old none_new read =
    let unread : is_unread_located l ≡ false = unconcerned s None l 0 tt tt read read in
    let ranges : nat_lt 0 (length (renamed_ranges old l)) ≡ false = ap (λ (xs : List Span). nat_lt 0 (length xs)) (unrenamed s old l targets prerequisites classed none_old) in
    let target : is_target_located new l ≡ false = untargeted s new l targets none_new in
    rw (unread, ranges, target) refl
