-- The keys of a line: the words and the text by which edits find it.
-- Told in docs/ARCHITECTURE.md, "The index of a session".
use Rattle.std.specs.Prelude.{◌≡◌, ◌⊎◌, ℕ, Bool, true, false, List, [], ◌∷◌, ◌++◌, map, get_or, Option, Some, None}
use Rattle.mk_lines.specs.Ranges.{text_at}
use Rattle.mk_lines.specs.Words.{words_in}
use Rattle.mk_class.specs.declared.class.Class as class
use Rattle.mk_class.specs.declared.class.Class.TheVariants as variants
use Rattle.mk_tree.specs.LocatedLines.{LocatedLine, text_of_line}
use Rattle.mk_edit_language.specs.Addresses.{Address, Variable, LastVariable, Valued, Commented, Rule}
use Rattle.mk_edit_language.specs.Edits.{Site, BeforeRun, AfterRun, OfRun}
use Rattle.mk_edit_language.specs.LineRuns.{site_address}
use Rattle.mk_edit_parts.specs.LocatedParts.{is_unread_located}
use Rattle.mk_edit_parts.specs.RenamedRanges.{word_parts}
use Rattle.mk_edit_parts.specs.Windows.{first_text}
use Rattle.mk_edit_parts.specs.declared.word_parts.WordParts.{WordParts}
use Rattle.mk_index.specs.Chains.{hash_of}
use Rattle.mk_index.specs.declared.keys.Scope.{Scope}

-- some words, if they are asked for
abbrev pub listed : (is_asked : Bool) → (words : List (List ℕ)) → List (List ℕ)
listed true ws = ws
listed false ws = []

-- the words of some parts of a text that an index lists: targets and prerequisites
abbrev pub words_of_parts : Scope → (text : List ℕ) → WordParts → List (List ℕ)
words_of_parts s t p =
    listed s.targets (words_in (text_at t p.targets))
    ++ (listed s.prerequisites (words_in (text_at t p.normal))
    ++ listed s.prerequisites (words_in (text_at t p.order_only)))

-- the words of a line of this joined text and class that an index lists: the name that it assigns, or
-- its targets and its prerequisites
abbrev pub keys_in : Scope → (text : List ℕ) → class.Class → List (List ℕ)
keys_in s t (variants.Assign a p) = listed s.names (text_at t a.name ∷ [])
keys_in s t k = words_of_parts s t (word_parts k)

-- the empty word, by which a line is found that sets the recipe prefix in a way that is not read
abbrev pub unread_key : (is_unread : Bool) → List (List ℕ)
unread_key true = [] ∷ []
unread_key false = []

-- the text by which a whole line is found: a line feed, which no word has, and what its first physical
-- line says
abbrev pub text_key : (first_text : List ℕ) → List ℕ
text_key t = 10 ∷ t

abbrev pub keys_of : Scope → LocatedLine → List (List ℕ)
keys_of s l =
    listed s.lines (text_key (first_text l.bytes) ∷ [])
    ++ (unread_key (is_unread_located l) ++ keys_in s (text_of_line l) l.class)

-- the hashes of a line's keys
abbrev pub hashes_of : Scope → LocatedLine → List ℕ
hashes_of s l = map hash_of (keys_of s l)

-- an index lists the name or the target by which an address finds its line; it lists none for comments
abbrev pub IsListed : Scope → Option Address → Type 0
IsListed s None = Unit {0}
IsListed s (Some (Variable nth n)) = s.names ≡ true
IsListed s (Some (LastVariable n)) = s.names ≡ true
IsListed s (Some (Valued nth n v)) = s.names ≡ true
IsListed s (Some (Commented nth n)) = ⊥
IsListed s (Some (Rule nth t)) = s.targets ≡ true

-- an index lists that by which the lines of a site are found
abbrev pub IsSiteListed : Scope → Site → Type 0
IsSiteListed s (BeforeRun nth o) = s.lines ≡ true
IsSiteListed s (AfterRun nth o) = s.lines ≡ true
IsSiteListed s (OfRun nth o) = s.lines ≡ true
IsSiteListed s t = IsListed s (site_address t)

-- a number is one of some numbers
abbrev pub IsOneOf : ℕ → List ℕ → Type 0
IsOneOf n [] = ⊥
IsOneOf n (m ∷ ms) = (m ≡ n) ⊎ IsOneOf n ms

-- a number is the hash of the name or of the target by which an address finds its line
abbrev pub IsKeyOf : Option Address → (hash : ℕ) → Type 0
IsKeyOf None h = Unit {0}
IsKeyOf (Some (Variable nth n)) h = h ≡ hash_of n
IsKeyOf (Some (LastVariable n)) h = h ≡ hash_of n
IsKeyOf (Some (Valued nth n v)) h = h ≡ hash_of n
IsKeyOf (Some (Commented nth n)) h = Unit {0}
IsKeyOf (Some (Rule nth t)) h = h ≡ hash_of t

-- a number is the hash of that by which the lines of a site are found
abbrev pub IsSiteKey : Site → (hash : ℕ) → Type 0
IsSiteKey (BeforeRun nth o) h = h ≡ hash_of (text_key (get_or o 0 []))
IsSiteKey (AfterRun nth o) h = h ≡ hash_of (text_key (get_or o 0 []))
IsSiteKey (OfRun nth o) h = h ≡ hash_of (text_key (get_or o 0 []))
IsSiteKey t h = IsKeyOf (site_address t) h
