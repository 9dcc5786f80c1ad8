-- What a line asks for that is no command of a script.
-- Told in docs/PROTOCOL.md, "Requests".
use Rattle.std.specs.Prelude.{ℕ, Bool, not, ◌==◌, ◌||◌, ◌&&◌, nat_lt, if◌then◌else◌, List, [], ◌∷◌, length, take, drop, Option, Some, None, option_map, option_and_then, codes}
use Rattle.std.specs.List.{list_all, prefix_len}
use Rattle.std.specs.Str.{bytes_eq}
use Rattle.std.specs.Str.Parse.{digits_value}
use Rattle.std.specs.Char.{is_ascii_digit}
use Rattle.mk_script.specs.WordReading.{named}
use Rattle.mk_repl.specs.declared.request.RequestWord.{RequestWord}
use Rattle.mk_repl.specs.declared.request.RequestWord.TheVariants as word
use Rattle.mk_repl.specs.declared.request.RequestOf.{RequestOf}
use Rattle.mk_repl.specs.declared.request.RequestOf.TheVariants as of
use Rattle.mk_repl.specs.declared.request.Request as r
use Rattle.mk_repl.specs.declared.request.Request.TheVariants as request

-- ---- words

-- what may stand between words: a space, a tab, a carriage return or a line feed
abbrev pub is_gap : ℕ → Bool
is_gap b = b == 32 || b == 9 || b == 13 || b == 10

-- how many bytes stand before the first word of a text, and the text without them
abbrev pub gap_length : List ℕ → ℕ
gap_length text = prefix_len is_gap text

abbrev pub before_word : List ℕ → List ℕ
before_word text = drop (gap_length text) text

-- how many bytes a text has before its first gap
abbrev pub word_length : List ℕ → ℕ
word_length text = prefix_len (λ b. not (is_gap b)) text

-- the first word of a text, which is empty where there is none, and what follows it
abbrev pub first_word : List ℕ → List ℕ
first_word text = take (word_length (before_word text)) (before_word text)

abbrev pub after_word : List ℕ → List ℕ
after_word text = drop (word_length (before_word text)) (before_word text)

-- whether a word is one to nine decimal digits
abbrev is_number : List ℕ → Bool
is_number word = not (nat_lt 9 (length word)) && nat_lt 0 (length word) && list_all is_ascii_digit word

-- the number that they write
abbrev pub number : List ℕ → Option ℕ
number word = if is_number word then Some (digits_value 10 word) else None

-- ---- requests

-- What is asked for: the lines from one number to another; the value of one of several assignments, by
-- its number and its name; what two words ask for; or what one word asks for.
pub data Asked : Type 0 where
  Print : (from to : ℕ) → Asked
  GetNth : (nth : ℕ) → (name : List ℕ) → Asked
  Of : RequestOf → (word : List ℕ) → Asked
  Word : RequestWord → Asked

-- a request that was read
abbrev pub asked_of : r.Request → Asked
asked_of (request.Print from to) = Print from to
asked_of (request.GetNth nth name) = GetNth nth name.now
asked_of (request.Of first second) = Of first second.now
asked_of (request.Word one) = Word one

-- the requests of one word
abbrev words : List (RequestWord × List ℕ)
words =
    (word.Diff, codes "diff") ∷ (word.Vars, codes "vars") ∷ (word.Rules, codes "rules")
    ∷ (word.Recipes, codes "recipes") ∷ (word.Check, codes "check") ∷ (word.Caveats, codes "caveats")
    ∷ (word.Write, codes "write") ∷ (word.WriteAnyway, codes "write!")
    ∷ (word.History, codes "history") ∷ (word.Script, codes "script") ∷ (word.Help, codes "help")
    ∷ (word.Revert, codes "revert") ∷ (word.Quit, codes "quit") ∷ (word.QuitAnyway, codes "quit!") ∷ []

abbrev pub request_named : List ℕ → Option RequestWord
request_named text = named words text

-- the first words of the requests of two words
abbrev first_words : List (RequestOf × List ℕ)
first_words =
    (of.Explain, codes "explain") ∷ (of.Help, codes "help") ∷ (of.Get, codes "get")
    ∷ (of.Vars, codes "vars") ∷ (of.Rules, codes "rules") ∷ (of.Recipes, codes "recipes")
    ∷ (of.Write, codes "write") ∷ []

abbrev pub request_of_named : List ℕ → Option RequestOf
request_of_named text = named first_words text

-- the greatest number of a line, which no line has
abbrev last_number : ℕ
last_number = 18446744073709551615

-- a request of one word: `print` asks for all lines
abbrev pub request_alone : List ℕ → Option Asked
request_alone first =
    if bytes_eq first (codes "print") then Some (Print 1 last_number)
    else option_map (λ one. Word one) (request_named first)

-- a request of two words: `print FROM`, or one of those above
abbrev pub request_with : (first second : List ℕ) → Option Asked
request_with first second =
    if bytes_eq first (codes "print") then option_map (λ from. Print from last_number) (number second)
    else option_map (λ one. Of one second) (request_of_named first)

-- `print FROM TO`
abbrev pub print_between : (from to : List ℕ) → Option Asked
print_between from to =
    option_and_then (λ first. option_map (λ last. Print first last) (number to)) (number from)

-- `nth N get NAME`
abbrev pub get_nth : (nth name : List ℕ) → Option Asked
get_nth nth name = option_map (λ n. GetNth n name) (number nth)

-- whether four words are `nth N get NAME`
abbrev is_get_nth : (first third fourth : List ℕ) → Bool
is_get_nth first third fourth =
    bytes_eq first (codes "nth") && bytes_eq third (codes "get") && not (length fourth == 0)

-- a request by the first four words of a line, of which an empty one is none, and what follows them
abbrev pub request_by : (first second third fourth rest : List ℕ) → Option Asked
request_by first second third fourth rest =
    if length second == 0 then request_alone first
    else if length third == 0 then request_with first second
    else if (length fourth == 0) && bytes_eq first (codes "print") then print_between second third
    else if (length rest == 0) && is_get_nth first third fourth then get_nth second fourth
    else None

-- what a line asks for, if it is a request
abbrev pub request_in : List ℕ → Option Asked
request_in line =
    let second = after_word line in
    let third = after_word second in
    let fourth = after_word third in
    request_by (first_word line) (first_word second) (first_word third) (first_word fourth)
    (before_word (after_word fourth))
