-- Laws of documents: a text is that of its lines, and the lines of a rule told by the flag.
use Rattle.std.proofs.Common.{◌≡◌, refl, ap, ◌∙◌, if◌then◌else◌, sym, ℕ, not, List, [], ◌∷◌, ◌++◌}
use Rattle.mk_lines.specs.Lists.{concat, leading}
use Rattle.mk_lines.specs.LogicalLines.{logical_lines}
use Rattle.mk_lines.proofs.on_lines.LineLemmas.{concat-logical_lines}
use Rattle.mk_lines.specs.Cells.{Cell}
use Rattle.mk_class.specs.Classes.{Class}
use Rattle.mk_class.specs.Classes.Class.{Endef, Body, Recipe, Opaque, Blank, Comment, Assign, DefineHead, If, Else, Endif, Directive, TargetAssign, Rough, Header}
use Rattle.mk_class.specs.Contexts.{Context, start, context_after}
use Rattle.mk_class.specs.ClassTable.{class_of}
use Rattle.mk_class.specs.ClassedLines.{ClassedLine, classed, classed_lines}
use Rattle.mk_tree.specs.LocatedLines.{LocatedLine, located_lines, located_text}
use Rattle.mk_tree.specs.Documents.{text_of, document_lines, IsFaithful, IsFaithfulTo}
use Rattle.mk_tree.specs.RecipeLines.{stays_in_rule, ends_rule, rule_lines}

-- the text of lines is that of their bytes
text_of-classed : (c : Context) (ls : List (List ℕ)) → text_of (classed c ls) ≡ concat ls
text_of-classed c [] = refl
text_of-classed c (l ∷ ls) = ap (λ z. l ++ z) (text_of-classed (context_after c (class_of c l)) ls)

-- the text of a text's lines is that text
pub text_of-classed_lines : (t : List ℕ) → text_of (classed_lines t) ≡ t
text_of-classed_lines t = text_of-classed start (logical_lines t) ∙ concat-logical_lines t

-- the text of lines as a document shows them is theirs
located_text-located_lines : (ls : List ClassedLine) → located_text (located_lines ls) ≡ text_of ls
located_text-located_lines [] = refl
located_text-located_lines (l ∷ ls) = ap (λ z. l.bytes ++ z) (located_text-located_lines ls)

-- the text of a document that is faithful to a text is that text
pub faithful-text : (ls : List LocatedLine) (t : List ℕ) → IsFaithfulTo ls t → located_text ls ≡ t
faithful-text ls t h = ap located_text h ∙ (located_text-located_lines (classed_lines t) ∙ text_of-classed_lines t)

-- such a document is faithful to its own text
pub faithful-own : (ls : List LocatedLine) (t : List ℕ) → IsFaithfulTo ls t → IsFaithful ls
faithful-own ls t h = h ∙ ap document_lines (sym (faithful-text ls t h))

-- a line stays in a rule exactly where it does not end it
stays-not_ends : (k : Class Cell) → stays_in_rule k ≡ not (ends_rule k)
stays-not_ends Endef = refl
stays-not_ends (Body n) = refl
stays-not_ends Recipe = refl
stays-not_ends Opaque = refl
stays-not_ends Blank = refl
stays-not_ends Comment = refl
stays-not_ends (Assign a p) = refl
stays-not_ends (DefineHead p) = refl
stays-not_ends If = refl
stays-not_ends Else = refl
stays-not_ends Endif = refl
stays-not_ends Directive = refl
stays-not_ends (TargetAssign t) = refl
stays-not_ends Rough = refl
stays-not_ends (Header h) = refl

-- the lines of a rule, told by the flag
pub rule_lines-by_flag : (ls : List ClassedLine) → rule_lines ls ≡ leading (λ l. not (ends_rule l.class)) ls
rule_lines-by_flag [] = refl
rule_lines-by_flag (l ∷ ls) =
    ap (λ b. if b then l ∷ rule_lines ls else []) (stays-not_ends l.class) ∙ ap (λ z. if not (ends_rule l.class) then l ∷ z else []) (rule_lines-by_flag ls)
