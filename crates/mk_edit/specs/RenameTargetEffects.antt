-- What a rename finds among the lines of a document, what it does to them as a whole, and the first
-- cause of refusal that this decides.
-- Told in docs/ARCHITECTURE.md, "An edit's way, from Edit to moved lines".
use Rattle.std.specs.Prelude.{◌≡◌, ℕ, ◌+◌, ◌*◌, ◌&&◌, ◌||◌, not, nat_lt, if◌then◌else◌, Bool, false, List, [], ◌∷◌, length, drop, Option}
use Rattle.std.specs.List.{list_any}
use Rattle.mk_lines.specs.Limits.{max_text}
use Rattle.mk_class.specs.Contexts.{Context, start, context_after_located}
use Rattle.mk_class.specs.RecipePrefix.{is_prefix_led}
use Rattle.mk_tree.specs.LocatedLines.{LocatedLine}
use Rattle.mk_edit_language.specs.Causes.{where_holds}
use Rattle.mk_edit_language.specs.Refusals.{first_cause}
use Rattle.mk_edit_language.specs.declared.refusal.Refusal.{Refusal}
use Rattle.mk_edit_language.specs.declared.refusal.Refusal.TheVariants.{NoSuch, RecipePrefix, Taken, TooLong}
use Rattle.mk_edit.specs.declared.rename_target_effect.Effect.{Effect}
use Rattle.mk_edit.specs.declared.rename_target_effect.Turn.TheVariants as turn
use Rattle.mk_edit.specs.RenameTargetPatches.{exchanged_count, is_exchanged}
use Rattle.mk_edit_parts.specs.declared.seek.Found.{Found}
use Rattle.mk_edit_parts.specs.LocatedParts.{is_target_located, is_unread_located}
use Rattle.mk_edit_parts.specs.RenamedRanges.{bytes_in, is_at_front, renamed_ranges}

-- how many words of some lines are replaced
abbrev pub replaced_words : (old : List ℕ) → List LocatedLine → ℕ
replaced_words o [] = 0
replaced_words o (l ∷ ls) = length (renamed_ranges o l) + replaced_words o ls

-- how many bytes the words that are replaced have in the lines as they stand
abbrev pub replaced_bytes : (old : List ℕ) → List LocatedLine → ℕ
replaced_bytes o [] = 0
replaced_bytes o (l ∷ ls) = bytes_in (renamed_ranges o l) + replaced_bytes o ls

-- whether a word at the very front of a line is replaced by a word that begins with the prefix in
-- force there; the first line stands in this context
abbrev pub begins_some_line : (old new : List ℕ) → Context → List LocatedLine → Bool
begins_some_line o n c [] = false
begins_some_line o n c (l ∷ ls) =
    (list_any is_at_front (renamed_ranges o l) && is_prefix_led c.prefix n)
    || begins_some_line o n (context_after_located c l.class) ls

-- the effect of a rename on lines, the first of which stands in this context
abbrev pub effect_on : (old new : List ℕ) → Context → List LocatedLine → Effect
effect_on o n c ls =
    record {
      has_unread_prefix = list_any is_unread_located ls;
      is_there = list_any (is_target_located o) ls;
      begins_line = begins_some_line o n c ls;
      is_taken = list_any (is_target_located n) ls;
      words = replaced_words o ls;
      bytes = replaced_bytes o ls;
      no_longer = exchanged_count turn.NoLonger o n ls;
      longer = exchanged_count turn.Longer o n ls;
    }

-- the effect on one line, which stands in this context
abbrev pub effect_of_line : (old new : List ℕ) → Context → LocatedLine → Effect
effect_of_line o n c l =
    record {
      has_unread_prefix = is_unread_located l;
      is_there = is_target_located o l;
      begins_line = list_any is_at_front (renamed_ranges o l) && is_prefix_led c.prefix n;
      is_taken = is_target_located n l;
      words = length (renamed_ranges o l);
      bytes = bytes_in (renamed_ranges o l);
      no_longer = if is_exchanged turn.NoLonger o n l then 1 else 0;
      longer = if is_exchanged turn.Longer o n l then 1 else 0;
    }

-- the effect on some lines and on other lines together
abbrev pub joined : Effect → Effect → Effect
joined e f =
    record {
      has_unread_prefix = e.has_unread_prefix || f.has_unread_prefix;
      is_there = e.is_there || f.is_there;
      begins_line = e.begins_line || f.begins_line;
      is_taken = e.is_taken || f.is_taken;
      words = e.words + f.words;
      bytes = e.bytes + f.bytes;
      no_longer = e.no_longer + f.no_longer;
      longer = e.longer + f.longer;
    }

-- the effect on no lines
abbrev pub no_effect : Effect
no_effect =
    record {
      has_unread_prefix = false;
      is_there = false;
      begins_line = false;
      is_taken = false;
      words = 0;
      bytes = 0;
      no_longer = 0;
      longer = 0;
    }

-- A walk over a document has come to a place. This is the effect on the lines above it: with the
-- effect on the lines from the place on, it is the effect on all lines.
abbrev pub IsEffectTo : (old new : List ℕ) → List LocatedLine → Found → Effect → Type 0
IsEffectTo o n ls f e =
    joined e (effect_on o n f.context (drop f.at ls)) ≡ effect_on o n start ls

-- the first cause of refusal that holds, by what lines tell: whether the recipe prefix is set
-- unread, whether the old word is there, whether the new word begins a line with the prefix, whether
-- it is taken, and whether the text would be too long
abbrev pub first_told : (is_unread is_there is_led is_taken is_long : Bool) → Option Refusal
first_told u f l k g =
    first_cause (
    where_holds u RecipePrefix
    ∷ where_holds (not f) NoSuch
    ∷ where_holds l RecipePrefix
    ∷ where_holds k Taken
    ∷ where_holds g TooLong
    ∷ [])

-- the first cause of refusal that lies in the lines of a text of this size, by the effect on them
abbrev pub first_of_lines : Effect → (size new_length : ℕ) → Option Refusal
first_of_lines e s n =
    first_told e.has_unread_prefix e.is_there e.begins_line e.is_taken
    (nat_lt (max_text + e.bytes) (s + e.words * n))
