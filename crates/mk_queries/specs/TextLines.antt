-- The object on a line of any text, by its tokens. Told in docs/LIBRARY.md, "Lines of JSON".
use Rattle.std.specs.Prelude.{ℕ, if◌then◌else◌, Bool, true, List, [], ◌∷◌, ◌++◌, codes}
use Rattle.std.specs.Str.{is_utf8}
use Rattle.base64.specs.Engines.{standard}
use Rattle.base64.specs.GeneralPurpose.{encode_of}
use Rattle.json.specs.Token.{Token, begin_object, end_object, key, string, boolean}

-- a text: a string, if it is UTF-8; otherwise its bytes in base64 (RFC 4648, section 4), in an object
abbrev pub base64_tokens : List ℕ → List Token
base64_tokens t = begin_object ∷ key (codes "base64") ∷ string (encode_of standard t) ∷ end_object ∷ []

abbrev pub text_tokens : List ℕ → List Token
text_tokens t = if is_utf8 t then string t ∷ [] else base64_tokens t

-- the object on a line with this text, which is open if it has no line feed
abbrev pub line_tokens : (text : List ℕ) → (is_open : Bool) → List Token
line_tokens t is_open = begin_object ∷ key (codes "text") ∷ text_tokens t
    ++ (if is_open then key (codes "is_open") ∷ boolean true ∷ [] else []) ++ end_object ∷ []
