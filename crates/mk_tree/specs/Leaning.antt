-- Whether lines lean on the flag: whether another flag before them could change what they are.
-- Told in docs/EDITS.md, "Refusals".
use Rattle.std.specs.Prelude.{◌≡◌, ℕ, Bool, true, false, not, ◌&&◌, List}
use Rattle.mk_class.specs.Contexts.{Context}
use Rattle.mk_class.specs.ClassedLines.{ClassedLine, is_led_first}
use Rattle.mk_class.specs.declared.context.RuleFlag.{RuleFlag}
use Rattle.mk_class.specs.declared.context.RuleFlag.TheVariants.{Off, Rule, Unknown}

-- whether two flags are the same
abbrev pub is_same_flag : RuleFlag → RuleFlag → Bool
is_same_flag Off Off = true
is_same_flag Rule Rule = true
is_same_flag Unknown Unknown = true
is_same_flag f g = false

-- Whether lines lean on two flags: the flags differ, and the first of the lines that begins with
-- the prefix, or has a class that sets the flag, begins with the prefix.
abbrev pub leans : (prefix : ℕ) → (before after : RuleFlag) → (rest : List ClassedLine) → Bool
leans p f g ls = not (is_same_flag f g) && is_led_first p ls

-- Contexts that agree in all except perhaps the flag.
pub record AgreeButForFlag (c d : Context) : Type 0 where
  pub defines : c.defines ≡ d.defines
  pub conditionals : c.conditionals ≡ d.conditionals
  pub prefix : c.prefix ≡ d.prefix
