-- `all` begins the edits of every assignment of a name, and no other command.
use Rattle.std.proofs.Common.{◌≡◌, ℕ, List, [], ◌∷◌, ◌++◌, map, refl, sym, ap, ◌∙◌, subst, codes}
use Rattle.std.specs.Prelude.{Some, option_map, option_and_then}
use Rattle.mk_edit_language.specs.Edits.{Every, ValueChange, Set, SetIf, Append, Add, Remove, LineChange, Prepend, ReplaceWord, InsertWord, Substitute, SetOperator, ChangeEach, Edit, ChangeValue, EachLine}
use Rattle.mk_history.specs.Machine.{Command, Apply}
use Rattle.mk_script.specs.Lines.{Plain}
use Rattle.mk_script.specs.Fields.{Field, text}
use Rattle.mk_script.specs.CommandTable.{command_fields, IsCommand}
use Rattle.mk_script.specs.BlockReading.{plain_behind_try, plain_fields}
use Rattle.mk_script.proofs.on_commands.TextContents.{AreCommand}
use Rattle.mk_script.specs.ScriptLaws.{IsOfEveryLine, BeginWith, AllBeginsItsEdits}
use Rattle.mk_script.specs.CommandReading.{Texts, front, two, three, worded, line_change, change_each, edit_with, edit_by}
use Rattle.mk_script.specs.declared.table.Word.{Word}
use Rattle.mk_script.specs.declared.table.Word.TheVariants as word
use Rattle.mk_script.proofs.on_commands.TableLemmas.{mapped, chained}
use Rattle.mk_script.proofs.on_commands.BlockLemmas.{never-said}
use Rattle.mk_script.proofs.on_commands.ReadLemmas.{command-read}
use Rattle.mk_script.proofs.on_commands.FilledLemmas.{contents-plain, has-filled, more-filled, taken-plain}
use Rattle.mk_script.proofs.on_commands.PlainLemmas.{command-fit, with-some}

-- an edit of the values of every line
change-every : (make : List ℕ → ValueChange) (fs : Texts) (e : Edit) → option_map (λ (p : List ℕ × List ℕ). ChangeValue Every p.0 (make p.1)) (two fs) ≡ Some e → IsOfEveryLine (Apply e)
change-every make fs e h = subst (λ x. IsOfEveryLine (Apply x)) (mapped (λ (p : List ℕ × List ℕ). ChangeValue Every p.0 (make p.1)) (two fs) e h).2 tt

-- and one of every line
each-every : (w : Word) (fs : Texts) (e : Edit)
    → option_and_then (λ (p : List ℕ × Texts). option_map (λ c. EachLine (ChangeEach p.0 c)) (line_change w p.1)) (front fs) ≡ Some e → IsOfEveryLine (Apply e)
each-every w [] e h = absurd (cc)
each-every w (name ∷ ts) e h = subst (λ x. IsOfEveryLine (Apply x)) (mapped (λ (c : LineChange). EachLine (ChangeEach name c)) (line_change w ts) e h).2 tt

change_each-every : (w : Word) (fs : Texts) (e : Edit) → change_each w fs ≡ Some e → IsOfEveryLine (Apply e)
change_each-every word.AddBefore fs e h = absurd (cc)
change_each-every word.AddAfter fs e h = absurd (cc)
change_each-every w fs e h = each-every w fs e h

with-every : (w : Word) (fs : Texts) (e : Edit) → edit_with Every w fs ≡ Some e → IsOfEveryLine (Apply e)
with-every word.Set fs e h = change-every Set fs e h
with-every word.SetIf fs e h =
    subst (λ x. IsOfEveryLine (Apply x)) (mapped (λ (p : List ℕ × List ℕ × List ℕ). ChangeValue Every p.0 (SetIf p.1 p.2)) (three fs) e h).2 tt
with-every word.Append fs e h = change-every Append fs e h
with-every word.Add fs e h = change-every Add fs e h
with-every word.Drop fs e h = change-every Remove fs e h
with-every w fs e h = change_each-every w fs e h

begun-every : (fs : Texts) (c : Command Edit) → AreCommand (codes "all" ∷ fs) c → IsOfEveryLine c
begun-every fs c is =
    let said = mapped Plain (option_map Apply (edit_by Every fs)) (Plain c) (command-read (codes "all" ∷ fs) c is) in
    let same : said.0 ≡ c = cc (said.2) in
    let applied = mapped Apply (edit_by Every fs) said.0 said.1 in
    let w = chained (λ (p : Word × Texts). edit_with Every p.0 p.1) (worded fs) applied.0 applied.1 in
    subst IsOfEveryLine same (subst IsOfEveryLine applied.2 (with-every w.0.0 w.0.1 applied.0 w.2))

all-begun : (fields : List Field) (block : List (List ℕ)) (c : Command Edit) → IsCommand fields block c → BeginWith (codes "all") fields → IsOfEveryLine c
all-begun [] block c is h = absurd h
all-begun (f ∷ fs) block c is h =
    let ts = map text (f ∷ fs) in
    let n = plain_fields ts in
    let filled = has-filled n (f ∷ fs) block [] (command_fields c) is (command-fit c ts (contents-plain (f ∷ fs) block (command_fields c) is)) in
    let m = more-filled n f fs (block ++ []) [] filled.0 filled.1 in
    let plain = taken-plain n f fs (block ++ []) [] filled.0 m (with-some plain_behind_try (worded ts)) in
    begun-every m.others c (subst (λ us. AreCommand us c) (m.texts_are ∙ ap (λ t. t ∷ m.others) (sym plain.0 ∙ h)) filled.2)

none-every : (name : List ℕ) (change : LineChange) (block : List (List ℕ)) → IsCommand [] block (Apply (EachLine (ChangeEach name change))) → ⊥
none-every name (Prepend value) block is = is
none-every name (ReplaceWord x value) block is = is
none-every name (InsertWord side x new) block is = is
none-every name (Substitute from to) block is = is
none-every name (SetOperator flavor) block is = is

each-begun : (name : List ℕ) (change : LineChange) (f : Field) (fs : List Field) (block : List (List ℕ)) → IsCommand (f ∷ fs) block (Apply (EachLine (ChangeEach name change))) → text f ≡ codes "all"
each-begun name (Prepend value) f fs block (first, others, whole, here, have) = here.1
each-begun name (ReplaceWord x value) f fs block (first, others, whole, here, have) = here.1
each-begun name (InsertWord side x new) f fs block is = absurd (never-said (EachLine (ChangeEach name (InsertWord side x new))) refl (f ∷ fs) block is)
each-begun name (Substitute from to) f fs block (first, others, whole, here, have) = here.1
each-begun name (SetOperator flavor) f fs block (first, others, whole, here, have) = here.1

every-begun : (fields : List Field) (block : List (List ℕ)) (c : Command Edit) → IsCommand fields block c → IsOfEveryLine c → BeginWith (codes "all") fields
every-begun [] block (Apply (ChangeValue Every name change)) is h = absurd is
every-begun (f ∷ fs) block (Apply (ChangeValue Every name change)) (first, others, whole, here, have) h = here.1
every-begun [] block (Apply (EachLine (ChangeEach name change))) is h = absurd (none-every name change block is)
every-begun (f ∷ fs) block (Apply (EachLine (ChangeEach name change))) is h = each-begun name change f fs block is
every-begun fields block c is h = absurd h

pub all-begins : AllBeginsItsEdits
all-begins fields block c is = (all-begun fields block c is, every-begun fields block c is)
