-- What lines leave below them: the context, and whether one of them says something of the recipe prefix.
use Rattle.std.proofs.Common.{◌≡◌, refl, sym, ap, ◌∙◌, subst, arith, ℕ, zero, suc, ◌+◌, ◌≤◌, ◌||◌, Bool, false, suc-add, List, [], ◌∷◌, length, take, drop}
use Rattle.std.specs.Prelude.{codes}
use Rattle.std.specs.List.{list_any}
use Rattle.std.proofs.Math.Bool.{or-false, or_assoc}
use Rattle.mk_lines.specs.Cells.{Cell, joined_byte}
use Rattle.mk_class.specs.Texts.{unit_text}
use Rattle.mk_class.specs.RecipePrefix.{is_prefix_name}
use Rattle.mk_class.specs.Classes.{Class}
use Rattle.mk_class.specs.Classes.Class.{Endef, Body, Recipe, Opaque, Blank, Comment, Assign, DefineHead, If, Else, Endif, Directive, TargetAssign, Rough, Header}
use Rattle.mk_class.specs.Contexts.{Admits, Context, context_after}
use Rattle.mk_class.specs.LocatedClasses.{located_class}
use Rattle.mk_class.specs.ClassTable.{class_of}
use Rattle.mk_class.specs.ClassedLines.{ClassedLine, context_after_lines}
use Rattle.mk_tree.specs.Admissions.{AreAdmitted}
use Rattle.mk_tree.specs.Documents.{IsFaithful}
use Rattle.mk_tree.specs.LocatedLines.{LocatedLine, located_line, located_lines, size_of}
use Rattle.mk_tree.specs.Origins.{lines_between}
use Rattle.mk_tree.proofs.AdmissionLemmas.{drop-step}
use Rattle.mk_tree.proofs.OriginLemmas.{size-step, size_of-between}
use Rattle.mk_tree.proofs.on_documents.LinesInText.{AreClassed, AreClassed-class, AreClassed-tail}
use Rattle.mk_edit_language.specs.Addresses.{assigns}
use Rattle.mk_edit_parts.specs.LocatedParts.{AreEachClassed, IsClassed}
use Rattle.mk_edit_parts.proofs.on_finding.PartLemmas.{assigns-located}
use Rattle.mk_edit_parts.proofs.on_finding.SeekLemmas.{faithful-each}
use Rattle.mk_edit_parts.proofs.on_finding.Walks.{each-from}
use Rattle.mk_edit.specs.ExchangePlans.{defines_prefix, is_of_prefix_located, end_before, end_after, end_after_all}
use Rattle.mk_edit.specs.declared.lines_end.LinesEnd.{LinesEnd}

-- ---- by the classes of the definition

-- whether a line of this class assigns `.RECIPEPREFIX` or opens a define for it
abbrev pub is_of_prefix : Class Cell → Bool
is_of_prefix (DefineHead p) = p
is_of_prefix (Assign a p) = is_prefix_name (unit_text joined_byte a.name)
is_of_prefix k = false

prefix-told : (k : Class Cell) → (assigns (codes ".RECIPEPREFIX") k || defines_prefix (located_class joined_byte k)) ≡ is_of_prefix k
prefix-told (Assign a p) = or-false (is_prefix_name (unit_text joined_byte a.name))
prefix-told (DefineHead p) = refl
prefix-told Endef = refl
prefix-told (Body d) = refl
prefix-told Recipe = refl
prefix-told Opaque = refl
prefix-told Blank = refl
prefix-told Comment = refl
prefix-told If = refl
prefix-told Else = refl
prefix-told Endif = refl
prefix-told Directive = refl
prefix-told (TargetAssign t) = refl
prefix-told Rough = refl
prefix-told (Header x) = refl

prefix-located : (c : Context) (l : ClassedLine) → class_of c l.bytes ≡ l.class → is_of_prefix_located (located_line l) ≡ is_of_prefix l.class
prefix-located c l h = ap (λ b. b || defines_prefix (located_class joined_byte l.class)) (assigns-located (codes ".RECIPEPREFIX") c l h) ∙ prefix-told l.class

-- what lines leave, by their text
pub end-told : (e : LinesEnd) (ls : List ClassedLine) → AreClassed e.context ls
    → end_after_all e (located_lines ls) ≡ record { context = context_after_lines e.context ls; is_of_prefix = e.is_of_prefix || list_any (λ l. is_of_prefix l.class) ls }
end-told e [] h = ap (λ (b : Bool). record { context = e.context; is_of_prefix = b }) (sym (or-false e.is_of_prefix))
end-told e (l ∷ ls) h =
    let below = list_any (λ l. is_of_prefix l.class) ls in
    let told : ((e.is_of_prefix || is_of_prefix_located (located_line l)) || below) ≡ (e.is_of_prefix || (is_of_prefix l.class || below)) =
    ap (λ b. (e.is_of_prefix || b) || below) (prefix-located e.context l (AreClassed-class e.context l ls h)) ∙ or_assoc e.is_of_prefix (is_of_prefix l.class) below in
    end-told (end_after e (located_line l)) ls (AreClassed-tail e.context l ls h)
    ∙ ap (λ (b : Bool). record { context = context_after_lines (context_after e.context l.class) ls; is_of_prefix = b }) told

pub end-same : (c d : Context) (p q : Bool) → c ≡ d → p ≡ q → record { context = c; is_of_prefix = p } ≡ (let e : LinesEnd = record { context = d; is_of_prefix = q } in e)
end-same c d p q h k = ap (λ (z : Context). record { context = z; is_of_prefix = p }) h ∙ ap (λ (z : Bool). record { context = d; is_of_prefix = z }) k

-- ---- a walk over lines that go

-- one more line
end-step : (e : LinesEnd) (ls left : List LocatedLine) (x : LocatedLine) (n : ℕ) → drop n ls ≡ x ∷ left → end_after_all e (take (n + 1) ls) ≡ end_after (end_after_all e (take n ls)) x
end-step e [] left x zero h = cc
end-step e [] left x (suc n) h = cc
end-step e (l ∷ ls) left x zero h = let same : l ≡ x = cc in ap (λ (z : LocatedLine). end_after e z) same
end-step e (l ∷ ls) left x (suc n) h = rw (suc-add n 1) (end-step (end_after e l) ls left x n h)

-- A walk over the lines from an index on has passed some of them: how many bytes they have, and what they leave.
pub record AreGoing (d : List LocatedLine) (from : ℕ) (first : Context) (passed : ℕ) (ahead : List LocatedLine) (bytes : ℕ) (end : LinesEnd) : Type 0 where
  pub ahead_is : drop passed (drop from d) ≡ ahead
  pub bytes_are : bytes ≡ size_of (lines_between from passed d)
  pub end_is : end ≡ end_after_all (end_before first) (lines_between from passed d)
  pub admitted : AreAdmitted end.context ahead
  pub classed : AreEachClassed ahead

pub going-first : (d : List LocatedLine) (from : ℕ) (first : Context) (ahead : List LocatedLine) → ahead ≡ drop from d → IsFaithful d → AreAdmitted first (drop from d) → AreGoing d from first 0 ahead 0 (end_before first)
going-first d from first ahead s f a = record {
  ahead_is = sym s;
  bytes_are = refl;
  end_is = refl;
  admitted = subst (AreAdmitted first) (sym s) a;
  classed = subst AreEachClassed (sym s) (each-from from d (faithful-each d f));
}

-- a line that is handed out, and the walk after it
pub record IsGoing (d : List LocatedLine) (from : ℕ) (first : Context) (passed : ℕ) (left : List LocatedLine) (bytes : ℕ) (end : LinesEnd) (l : LocatedLine) : Type 0 where
  pub line_classed : IsClassed l
  pub admits : Admits end.context l.class
  pub few : bytes + length l.bytes ≤ size_of d
  pub next : (more : ℕ) (after : LinesEnd) → more ≡ bytes + length l.bytes → after ≡ end_after end l → AreGoing d from first (passed + 1) left more after

pub going-next : (d : List LocatedLine) (from : ℕ) (first : Context) (passed : ℕ) (ahead left : List LocatedLine) (bytes : ℕ) (end : LinesEnd) (l : LocatedLine) → ahead ≡ l ∷ left
    → AreGoing d from first passed ahead bytes end → IsGoing d from first passed left bytes end l
going-next d from first passed ahead left bytes end l s G =
    let here : drop passed (drop from d) ≡ l ∷ left = G.ahead_is ∙ s in
    let classed : AreEachClassed (l ∷ left) = subst AreEachClassed s G.classed in
    let admitted : AreAdmitted end.context (l ∷ left) = subst (AreAdmitted end.context) s G.admitted in
    let size = size-step (drop from d) ahead left l passed G.ahead_is s in
    let total : bytes + length l.bytes ≡ size_of (lines_between from (passed + 1) d) = omega (arith, size, G.bytes_are) in
    record {
      line_classed = classed.0;
      admits = admitted.0;
      few = omega (arith, total, size_of-between from (passed + 1) d);
      next = λ more after m e. record {
        ahead_is = drop-step (drop from d) left l passed here;
        bytes_are = m ∙ total;
        end_is = e ∙ (ap (λ (z : LinesEnd). end_after z l) G.end_is ∙ sym (end-step (end_before first) (drop from d) left l passed here));
        admitted = subst (λ (z : LinesEnd). AreAdmitted z.context left) (sym e) admitted.1;
        classed = classed.1;
      };
    }
