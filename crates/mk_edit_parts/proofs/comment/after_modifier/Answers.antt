use Rattle.std.proofs.Common.{◌≡◌, refl, sym, ap, ◌∙◌, true, not, ◌&&◌, length, ◌-◌}
use Rattle.mk_lines.specs.Bytes.{is_blank_byte}
use Rattle.mk_lines.specs.Lists.{after_leading}
use Rattle.mk_class.specs.Keywords.{modifier_words}
use Rattle.mk_class.specs.ListTests.{is_empty}
use Rattle.mk_class.specs.Texts.{is_one_of}
use Rattle.mk_edit_language.specs.Comments.{blanks_after, first_word}
use Rattle.mk_edit_parts.proofs.CommentLemmas.{behind-word, word-before, blanks-passed, no_blanks-passed}
use Rattle.mk_edit_parts.proofs.comment.after_modifier.Goals as goal
use Rattle.mk_edit_parts.proofs.comment.after_modifier.Goals.{else-rest-behind-via-then-rest-behind+else-is_modifier, else-rest-behind-via-else-rest-behind}

pub returns-then-is_modifier : goal.returns-then-is_modifier
returns-then-is_modifier c =
    let t = c.args.text.now in
    let behind = c.after_word-behind.result.now in
    let rest = c.after_blanks-rest.result.now in
    let h = c.after_word-behind.ensures.rest in
    let k = c.after_blanks-rest.ensures.rest in
    let word = word-before t behind (length t - length behind) h refl in
    let is : is_one_of (first_word t) modifier_words ≡ true = ap (λ w. is_one_of w modifier_words) (sym word) ∙ (sym c.is_modifier.ensures ∙ c.if-is_modifier.true) in
    (ap (λ b. b && not (is_empty (blanks_after t))) is ∙ blanks-passed t behind rest h k c.if-rest-behind.true, behind-word t rest (k ∙ ap (after_leading is_blank_byte) h))

pub returns-else-rest-behind : goal.returns-else-rest-behind
returns-else-rest-behind c =
    let t = c.args.text.now in
    let behind = c.after_word-behind.result.now in
    let rest = c.after_blanks-rest.result.now in
    let h = c.after_word-behind.ensures.rest in
    let k = c.after_blanks-rest.ensures.rest in
    let word = word-before t behind (length t - length behind) h refl in
    elim c.else-rest-behind.branch [
      | else-rest-behind-via-then-rest-behind+else-is_modifier w ↦ ap (λ b. b && not (is_empty (blanks_after t))) (ap (λ w. is_one_of w modifier_words) (sym word) ∙ (sym w.is_modifier.ensures ∙ w.if-is_modifier.false))
      | else-rest-behind-via-else-rest-behind w ↦ no_blanks-passed t behind rest h k w.if-rest-behind.false
    ]
