-- The name of a file in a diff.
-- Told in docs/EDITS.md, "Running a script".
use Rattle.std.specs.Prelude.{ℕ, ◌+◌, ◌==◌, if◌then◌else◌, Bool, true, false, ◌||◌, ◌&&◌, not, nat_lt, List, [], ◌∷◌, ◌++◌, codes}
use Rattle.std.specs.Io.BufRead.{ends_with_byte}
use Rattle.mk_escape.specs.Escapes.{octal}

-- whether a byte stands between quotes alone, and is written there by its number: a control
-- character, a quote or a backslash
abbrev pub is_special : ℕ → Bool
is_special b = nat_lt b 32 || ((b == 34) || ((b == 92) || (b == 127)))

-- whether a name has such a byte
abbrev pub has_special : List ℕ → Bool
has_special [] = false
has_special (b ∷ t) = is_special b || has_special t

-- whether a name has a space
abbrev pub has_blank : List ℕ → Bool
has_blank [] = false
has_blank (b ∷ t) = (b == 32) || has_blank t

-- a name, each special byte by its number
abbrev pub escaped : List ℕ → List ℕ
escaped [] = []
escaped (b ∷ t) = (if is_special b then octal b else b ∷ []) ++ escaped t

-- a name behind `a/` or `b/`: between quotes if it has a special byte or ends in a space, and with a tab
-- behind it if it has another space
abbrev pub name_text : (side name : List ℕ) → List ℕ
name_text side name =
    if has_special name || ends_with_byte 32 name then codes "\"" ++ (side ++ (escaped name ++ codes "\"")) else
    if has_blank name then side ++ (name ++ codes "\t") else
    side ++ name

-- how many dots the name of a folder has so far and nothing else, where it has a byte more; 3 for any other name
abbrev pub dots_after : (dots b : ℕ) → ℕ
dots_after dots b = if (b == 46) && nat_lt dots 3 then dots + 1 else 3

-- a name behind the last `..` of its folders; `kept` is what that is so far
abbrev pub after_ups : (dots : ℕ) → (kept name : List ℕ) → List ℕ
after_ups dots kept [] = kept
after_ups dots kept (b ∷ name) =
    if b == 47
    then after_ups 0 (if dots == 2 then name else kept) name
    else after_ups (dots_after dots b) kept name

-- a name without the `/` and `./` before it; `is_dot` says that a dot stands alone so far
abbrev pub below : (is_dot : Bool) → (kept name : List ℕ) → List ℕ
below is_dot kept [] = kept
below is_dot kept (b ∷ name) =
    if b == 47 then below false name name else
    if (b == 46) && not is_dot then below true kept name else
    kept

-- a name as `patch` takes it in the folder that stands before it
abbrev pub patch_name : List ℕ → List ℕ
patch_name name = below false (after_ups 0 name name) (after_ups 0 name name)
