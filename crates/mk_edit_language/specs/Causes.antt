-- A cause of a refusal: the refusal if the cause holds, and None if it does not.
use Rattle.std.specs.Prelude.{Bool, true, false, Option, Some, None}
use Rattle.mk_edit_language.specs.declared.refusal.Refusal.{Refusal}

-- the refusal if the cause holds
abbrev pub where_holds : Bool → Refusal → Option Refusal
where_holds true r = Some r
where_holds false r = None

-- the first of two causes that holds
abbrev pub or_else : Option Refusal → Option Refusal → Option Refusal
or_else (Some r) c = Some r
or_else None c = c
