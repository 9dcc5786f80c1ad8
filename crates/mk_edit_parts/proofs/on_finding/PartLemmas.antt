-- The parts of a document's line by their offsets, and the tests of lines that look at them.
use Rattle.std.proofs.Common.{◌≡◌, refl, sym, ap, ◌∙◌, ℕ, List, [], length, not, ◌&&◌, Option, Some, None}
use Rattle.std.specs.Str.{bytes_eq}
use Rattle.std.proofs.lemmas.List.{length-map}
use Rattle.mk_lines.specs.Cells.{Cell, joined_byte, joined_text, line_cells}
use Rattle.mk_lines.specs.Bytes.{is_blank_byte}
use Rattle.mk_lines.specs.Lists.{after_leading}
use Rattle.mk_lines.specs.Ranges.{text_at}
use Rattle.mk_class.specs.Texts.{is_one_of, word_texts}
use Rattle.mk_class.specs.RecipePrefix.{is_prefix_name}
use Rattle.mk_class.specs.Assignments.{Assignment}
use Rattle.mk_class.specs.Classes.{Class}
use Rattle.mk_class.specs.Classes.Class.{Endef, Body, Recipe, Opaque, Blank, Comment, Assign, DefineHead, If, Else, Endif, Directive, TargetAssign, Rough, Header}
use Rattle.mk_class.specs.LocatedClasses.{located_class}
use Rattle.mk_class.specs.ClassTable.{class_of}
use Rattle.mk_class.specs.Contexts.{Context}
use Rattle.mk_class.specs.PartOffsets.{IsPart}
use Rattle.mk_class.specs.LineParts.{ArePartsLocated}
use Rattle.mk_class.proofs.on_classes.FirstWordLemmas.{text_words-words}
use Rattle.mk_class.proofs.on_classes.LinePartLemmas.{line-parts_located}
use Rattle.mk_class.specs.declared.assignment.Assignment as assignment
use Rattle.mk_class.specs.declared.assignment.TargetAssignment as target_assignment
use Rattle.mk_class.specs.declared.rule.Header as header
use Rattle.mk_class.specs.declared.class.Class.TheVariants as variants
use Rattle.mk_class.specs.ClassedLines.{ClassedLine}
use Rattle.mk_tree.specs.LocatedLines.{LocatedLine, located_line, text_of_line}
use Rattle.mk_edit_language.specs.Comments.{is_comment, says_after_mark, says_name}
use Rattle.mk_edit_language.specs.Addresses.{assigns, has_value, is_rule_for, targets_of}
use Rattle.mk_edit_language.specs.AddressCauses.{is_unread_prefix}
use Rattle.mk_edit_language.specs.EachLine.{assigns_other}
use Rattle.mk_edit_parts.specs.EachLineWalks.{assigns_other_in, assigns_other_located}
use Rattle.mk_edit_parts.specs.LocatedParts.{IsClassed, words_before, assigns_in, assigns_located, has_value_in, has_value_located, is_comment_located, says_name_located, is_rule_for_in, is_rule_for_located, is_target_in, is_target_located, is_unread_in, is_unread_located}

-- the joined text of a line is as long as its cells
pub text-length : (l : LocatedLine) → length (text_of_line l) ≡ length (line_cells l.bytes)
text-length l = length-map (line_cells l.bytes) joined_byte

-- the parts of an assignment, of a header and of an assignment for targets, as the code sees them
pub seen-assign : (l : LocatedLine) → (h : IsClassed l) → (at : assignment.Assignment) (p : Option ℕ) → l.class ≡ variants.Assign at p → ArePartsLocated (line_cells l.bytes) (class_of h.context l.bytes) (variants.Assign at p)
seen-assign l h at p e = line-parts_located h.context l.bytes (variants.Assign at p) (sym e ∙ h.class_is)

pub seen-header : (l : LocatedLine) → (h : IsClassed l) → (at : header.Header) → l.class ≡ variants.Header at → ArePartsLocated (line_cells l.bytes) (class_of h.context l.bytes) (variants.Header at)
seen-header l h at e = line-parts_located h.context l.bytes (variants.Header at) (sym e ∙ h.class_is)

pub seen-target_assign : (l : LocatedLine) → (h : IsClassed l) → (at : target_assignment.TargetAssignment) → l.class ≡ variants.TargetAssign at
    → ArePartsLocated (line_cells l.bytes) (class_of h.context l.bytes) (variants.TargetAssign at)
seen-target_assign l h at e = line-parts_located h.context l.bytes (variants.TargetAssign at) (sym e ∙ h.class_is)

-- ---- the tests of lines, as they are defined

-- the words of a part
pub words-part : (cs : List Cell) (end : ℕ) (before part : List (List Cell)) → IsPart cs 0 end before part → words_before end (joined_text cs) ≡ word_texts joined_byte part
words-part cs end before part h = sym (text_words-words (text_at (joined_text cs) (record { start = 0; end = end }))) ∙ h.words_are

-- the parts of a line of the definitions
parts : (c : Context) (l : ClassedLine) → class_of c l.bytes ≡ l.class → ArePartsLocated (line_cells l.bytes) (class_of c l.bytes) (located_class joined_byte l.class)
parts c l h = line-parts_located c l.bytes (located_class joined_byte l.class) (ap (located_class joined_byte) (sym h))

-- what the tests say of a line of this class, as a document shows it
record Tested (text : List ℕ) (k : Class Cell) : Type 0 where
  assigns_is : (n : List ℕ) → assigns_in text n (located_class joined_byte k) ≡ assigns n k
  rule_is : (g : List ℕ) → is_rule_for_in text g (located_class joined_byte k) ≡ is_rule_for g k
  target_is : (w : List ℕ) → is_target_in text w (located_class joined_byte k) ≡ is_one_of w (targets_of k)
  unread_is : is_unread_in text (located_class joined_byte k) ≡ is_unread_prefix k
  other_is : assigns_other_in text (located_class joined_byte k) ≡ assigns_other k
  value_is : (v : List ℕ) → has_value_in text v (located_class joined_byte k) ≡ has_value v k
  comment_is : is_comment_located (located_class joined_byte k) ≡ is_comment k

tested : (c : Context) (l : ClassedLine) → class_of c l.bytes ≡ l.class → Tested (joined_text (line_cells l.bytes)) l.class
tested c l h = go l.class h (parts c l h)
  where
    cs : List Cell
    cs = line_cells l.bytes

    unread-is : (a : Assignment Cell) (p : Option ℕ) → class_of c l.bytes ≡ Assign a p → ArePartsLocated cs (class_of c l.bytes) (located_class joined_byte (Assign a p)) → is_unread_in (joined_text cs) (located_class joined_byte (Assign a p)) ≡ is_unread_prefix (Assign a p)
    unread-is a None e s = ap is_prefix_name s.2.name.text_is ∙ ap is_unread_prefix (sym s.1 ∙ e)
    unread-is a (Some b) e s = refl

    go : (k : Class Cell) → class_of c l.bytes ≡ k → ArePartsLocated cs (class_of c l.bytes) (located_class joined_byte k) → Tested (joined_text cs) k
    go (Assign a p) e s = record {
      assigns_is = λ n. ap (λ z. bytes_eq z n) s.2.name.text_is ∙ ap (λ k. assigns n k) (sym s.1 ∙ e);
      rule_is = λ g. refl;
      target_is = λ w. refl;
      unread_is = unread-is a p e s;
      other_is = ap (λ z. not (is_prefix_name z)) s.2.name.text_is ∙ ap assigns_other (sym s.1 ∙ e);
      value_is = λ v. ap (λ z. bytes_eq z v) s.2.value.text_is ∙ ap (has_value v) (sym s.1 ∙ e);
      comment_is = refl;
    }
    go (Header x) e s =
        let words = words-part cs _ [] s.0.targets s.2.targets in
        record {
          assigns_is = λ n. refl;
          rule_is = λ g. ap (is_one_of g) words ∙ ap (λ k. is_rule_for g k) (sym s.1 ∙ e);
          target_is = λ w. ap (is_one_of w) words ∙ ap (λ k. is_one_of w (targets_of k)) (sym s.1 ∙ e);
          unread_is = refl;
          other_is = refl;
          value_is = λ v. refl;
          comment_is = refl;
        }
    go (TargetAssign t) e s = record {
      assigns_is = λ n. refl;
      rule_is = λ g. refl;
      target_is = λ w. ap (is_one_of w) (words-part cs _ [] s.0.targets s.2.targets) ∙ ap (λ k. is_one_of w (targets_of k)) (sym s.1 ∙ e);
      unread_is = refl;
      other_is = refl;
      value_is = λ v. refl;
      comment_is = refl;
    }
    go Endef e s = record { assigns_is = λ n. refl; rule_is = λ g. refl; target_is = λ w. refl; unread_is = refl; other_is = refl; value_is = λ v. refl; comment_is = refl }
    go (Body d) e s = record { assigns_is = λ n. refl; rule_is = λ g. refl; target_is = λ w. refl; unread_is = refl; other_is = refl; value_is = λ v. refl; comment_is = refl }
    go Recipe e s = record { assigns_is = λ n. refl; rule_is = λ g. refl; target_is = λ w. refl; unread_is = refl; other_is = refl; value_is = λ v. refl; comment_is = refl }
    go Opaque e s = record { assigns_is = λ n. refl; rule_is = λ g. refl; target_is = λ w. refl; unread_is = refl; other_is = refl; value_is = λ v. refl; comment_is = refl }
    go Blank e s = record { assigns_is = λ n. refl; rule_is = λ g. refl; target_is = λ w. refl; unread_is = refl; other_is = refl; value_is = λ v. refl; comment_is = refl }
    go Comment e s = record { assigns_is = λ n. refl; rule_is = λ g. refl; target_is = λ w. refl; unread_is = refl; other_is = refl; value_is = λ v. refl; comment_is = refl }
    go (DefineHead q) e s = record { assigns_is = λ n. refl; rule_is = λ g. refl; target_is = λ w. refl; unread_is = refl; other_is = refl; value_is = λ v. refl; comment_is = refl }
    go If e s = record { assigns_is = λ n. refl; rule_is = λ g. refl; target_is = λ w. refl; unread_is = refl; other_is = refl; value_is = λ v. refl; comment_is = refl }
    go Else e s = record { assigns_is = λ n. refl; rule_is = λ g. refl; target_is = λ w. refl; unread_is = refl; other_is = refl; value_is = λ v. refl; comment_is = refl }
    go Endif e s = record { assigns_is = λ n. refl; rule_is = λ g. refl; target_is = λ w. refl; unread_is = refl; other_is = refl; value_is = λ v. refl; comment_is = refl }
    go Directive e s = record { assigns_is = λ n. refl; rule_is = λ g. refl; target_is = λ w. refl; unread_is = refl; other_is = refl; value_is = λ v. refl; comment_is = refl }
    go Rough e s = record { assigns_is = λ n. refl; rule_is = λ g. refl; target_is = λ w. refl; unread_is = refl; other_is = refl; value_is = λ v. refl; comment_is = refl }

pub assigns-located : (n : List ℕ) (c : Context) (l : ClassedLine) → class_of c l.bytes ≡ l.class → assigns_located n (located_line l) ≡ assigns n l.class
assigns-located n c l h = (tested c l h).assigns_is n

pub rule_for-located : (g : List ℕ) (c : Context) (l : ClassedLine) → class_of c l.bytes ≡ l.class → is_rule_for_located g (located_line l) ≡ is_rule_for g l.class
rule_for-located g c l h = (tested c l h).rule_is g

pub target-located : (w : List ℕ) (c : Context) (l : ClassedLine) → class_of c l.bytes ≡ l.class → is_target_located w (located_line l) ≡ is_one_of w (targets_of l.class)
target-located w c l h = (tested c l h).target_is w

pub unread-located : (c : Context) (l : ClassedLine) → class_of c l.bytes ≡ l.class → is_unread_located (located_line l) ≡ is_unread_prefix l.class
unread-located c l h = (tested c l h).unread_is

pub assigns_other-located : (c : Context) (l : ClassedLine) → class_of c l.bytes ≡ l.class → assigns_other_located (located_line l) ≡ assigns_other l.class
assigns_other-located c l h = (tested c l h).other_is

pub has_value-located : (v : List ℕ) (c : Context) (l : ClassedLine) → class_of c l.bytes ≡ l.class → has_value_located v (located_line l) ≡ has_value v l.class
has_value-located v c l h = (tested c l h).value_is v

pub says_name-located : (n : List ℕ) (c : Context) (l : ClassedLine) → class_of c l.bytes ≡ l.class → says_name_located n (located_line l) ≡ says_name n l
says_name-located n c l h = ap (λ b. b && says_after_mark n (after_leading is_blank_byte l.bytes)) (tested c l h).comment_is
