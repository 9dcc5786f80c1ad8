-- When a `quit` is done, and what a session keeps for it: the text that the makefile was left with, and
-- whether the line before was a `quit` that was not done.
-- Told in docs/PROTOCOL.md, "Requests".
use Rattle.std.specs.Prelude.{◌≡◌, ◌⊎◌, ℕ, Bool, true, false, ◌&&◌, if◌then◌else◌, List, [], Option, Some, None, Vec}
use Rattle.std.specs.Str.{bytes_eq}
use Rattle.mk_repl.specs.Requests.{Asked, Of, Word}
use Rattle.mk_repl.specs.declared.request.RequestOf.TheVariants as of
use Rattle.mk_repl.specs.declared.request.RequestWord.TheVariants as word
use Rattle.mk_repl.specs.declared.server.Opened.{Opened}

-- the text that the makefile was left with: the one that was written last, or the one that was opened
abbrev pub left_with : {A : Type 0} → Opened → (written : Option (Vec ℕ A)) → List ℕ
left_with opened None = opened.text.items
left_with opened (Some text) = text.items

-- whether a request writes the makefile
abbrev writes : Opened → Asked → Bool
writes opened (Word word.Write) = true
writes opened (Word word.WriteAnyway) = true
writes opened (Of of.Write file) = bytes_eq file opened.name.now
writes opened other = false

-- A request was done or not. Where it writes the makefile and is done, the makefile is left with the text
-- that is shown, and else with what it was left with before.
abbrev pub IsLeft : {A : Type 0} → Opened → Asked → (is_done : Bool) → (text : List ℕ)
    → (old new : Option (Vec ℕ A)) → Type 0
IsLeft opened asked is_done text old new =
    left_with opened new ≡ (if writes opened asked && is_done then text else left_with opened old)

-- A `quit` may be done: right after one that was not, or where the makefile was left with the text.
abbrev pub MayQuit : (is_warned : Bool) → (left text : List ℕ) → Type 0
MayQuit is_warned left text = (is_warned ≡ true) ⊎ (text ≡ left)

-- A line with this reply leaves the session warned that was or was not: a `quit`, or one without a reply.
abbrev pub IsWarned : Option Asked → (reply : List ℕ) → (old new : Bool) → Type 0
IsWarned asked reply old new =
    (new ≡ true) → (asked ≡ Some (Word word.Quit)) ⊎ ((reply ≡ []) × (old ≡ true))
