-- First words that say what a line is.
-- Told in docs/LANGUAGE.md, chapter 4, and docs/EDITS.md, "Refusals".
use Rattle.std.specs.Prelude.{ℕ, if◌then◌else◌, Bool, ◌==◌, ◌||◌, List, [], ◌∷◌, codes}
use Rattle.std.specs.Str.{bytes_eq}
use Rattle.mk_lines.specs.Bytes.{is_blank_byte}
use Rattle.mk_lines.specs.Lists.{after_leading}
use Rattle.mk_class.specs.Texts.{is_one_of}

-- what a first word says
pub data Keyword : Type 0 where
  DefineWord : Keyword
  EndefWord : Keyword
  IfWord : Keyword
  ElseWord : Keyword
  EndifWord : Keyword
  DirectiveWord : Keyword
  UndefineWord : Keyword
  NoKeyword : Keyword

-- the words that open a conditional
abbrev pub if_words : List (List ℕ)
if_words = codes "ifeq" ∷ codes "ifneq" ∷ codes "ifdef" ∷ codes "ifndef" ∷ []

-- the words of the other directives, except `undefine`, before which modifiers may stand
abbrev pub directive_words : List (List ℕ)
directive_words =
    codes "include" ∷ codes "-include" ∷ codes "sinclude" ∷ codes "export" ∷ codes "unexport"
    ∷ codes "vpath" ∷ codes "load" ∷ codes "-load" ∷ []

-- the modifiers
abbrev pub modifier_words : List (List ℕ)
modifier_words = codes "override" ∷ codes "export" ∷ codes "private" ∷ []

-- what a word says as the first of a line
abbrev pub keyword : List ℕ → Keyword
keyword w =
    if bytes_eq w (codes "define") then DefineWord else
    if bytes_eq w (codes "endef") then EndefWord else
    if is_one_of w if_words then IfWord else
    if bytes_eq w (codes "else") then ElseWord else
    if bytes_eq w (codes "endif") then EndifWord else
    if is_one_of w directive_words then DirectiveWord else
    if bytes_eq w (codes "undefine") then UndefineWord else
    NoKeyword

-- what the first of some words says
abbrev pub first_keyword : List (List ℕ) → Keyword
first_keyword [] = NoKeyword
first_keyword (w ∷ ws) = keyword w

-- the words after the modifiers at the front
abbrev pub after_modifiers : List (List ℕ) → List (List ℕ)
after_modifiers ws = after_leading (λ w. is_one_of w modifier_words) ws

-- the words that no target may be: the words of directives and of conditionals, and the modifiers
abbrev pub reserved_words : List (List ℕ)
reserved_words =
    codes "ifeq" ∷ codes "ifneq" ∷ codes "ifdef" ∷ codes "ifndef" ∷ codes "else" ∷ codes "endif"
    ∷ codes "define" ∷ codes "endef" ∷ codes "undefine"
    ∷ codes "include" ∷ codes "-include" ∷ codes "sinclude" ∷ codes "load" ∷ codes "-load"
    ∷ codes "export" ∷ codes "unexport" ∷ codes "override" ∷ codes "private"
    ∷ codes "vpath" ∷ []

-- whether a reserved word begins with a byte: it is one of - d e i l o p s u v
abbrev pub begins_reserved : ℕ → Bool
begins_reserved b =
    b == 45 || b == 100 || b == 101 || b == 105 || b == 108 || b == 111 || b == 112 || b == 115
    || b == 117 || b == 118

-- whether the first word of a text that begins with a byte may be a reserved word
abbrev pub may_begin_reserved : ℕ → Bool
may_begin_reserved b = is_blank_byte b || begins_reserved b

-- whether a word is one of these reserved words
abbrev pub is_reserved_word : List ℕ → Bool
is_reserved_word w = is_one_of w reserved_words
