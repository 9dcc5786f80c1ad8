-- What a session does to a makefile, said of its bytes and its lines alone: which lines an edit
-- that is accepted changes, puts in or takes out; that a call that is not done changes nothing; and
-- where undoing leads. To read it one needs no definition of classes, causes or spans.
-- Told in docs/BELIEVED.md.
use Rattle.std.specs.Prelude.{◌≡◌, ◌⊎◌, ℕ, ◌<◌, ◌≤◌, Bool, true, false, List, [], ◌∷◌, ◌++◌, length, map, filter, take, codes, Some, None, All, Contains}
use Rattle.std.specs.List.{AllZip, Any, join_by, flat_map}
use Rattle.mk_lines.specs.PhysicalLines.{physical_lines, without_line_end}
use Rattle.mk_lines.specs.LogicalLines.{logical_lines}
use Rattle.mk_class.specs.OperatorTexts.{operator_text}
use Rattle.mk_history.specs.Shown.{Shown, shown_opened, shown_edited, shown_ended}
use Rattle.mk_edit_language.specs.declared.edit.LineChange.{LineChange}
use Rattle.mk_edit_language.specs.declared.edit.LineChange.TheVariants.{Prepend, ReplaceWord, InsertWord, Substitute, SetOperator}
use Rattle.mk_edit_language.specs.declared.edit.Site.TheVariants.{OfLines, OfRule}
use Rattle.mk_edit_language.specs.declared.edit.EachEdit.TheVariants.{ChangeEach, SubstValues, SubstRecipe, SubstRecipes}
use Rattle.mk_edit_language.specs.declared.edit.Edit.{Edit}
use Rattle.mk_edit_language.specs.declared.edit.Edit.TheVariants.{SetValue, SetValueIf, AppendValue, AddWord, RemoveWord, ChangeValues, ChangeLine, AddAssign, RemoveAssign, CommentOut, Uncomment, AddRule, RemoveRule, AddPrereq, RemovePrereq, ReplacePrereq, AddRecipe, SetRecipe, RemoveRecipe, InsertRecipe, SetRecipeByText, RemoveRecipeByText, RenameTarget, ExchangeLines, EachLine}
use Rattle.mk_edit_language.specs.declared.command.Command.{Command}
use Rattle.mk_edit_language.specs.declared.command.Command.TheVariants.{Apply, Undo, Redo, Begin, End, Cancel}

-- ---- a line

-- a text stands somewhere in another
abbrev pub Has : (part whole : List ℕ) → Type 0
Has p t = (a b : List ℕ) × (t ≡ a ++ (p ++ b))

-- A line names a word: directly before the word comes a blank or a line end, which may be that of
-- the line above; behind it comes a tab, a backslash, a blank or one of `!&+:=?`; and somewhere
-- behind it comes a sign, the `=` of an assignment or the `:` of a rule. Nothing is said of a word
-- with a blank in it, such as `$(a b)`, which a line may fold there.
abbrev pub Names : (word : List ℕ) → (sign : ℕ) → (line : List ℕ) → Type 0
Names w s l = All (λ b. 32 < b) w → (a b : List ℕ) × (y x : ℕ) × (10 ∷ l ≡ a ++ y ∷ (w ++ x ∷ b))
    × (y < 33) × Contains (9 ∷ 92 ∷ codes " !&+:=?") x × Has (s ∷ []) (x ∷ b)

-- ---- lines at a place, below those above them

-- lines of a makefile
abbrev pub Lines : Type 0
Lines = List (List ℕ)

-- a recipe line: it begins with a tab, or with another byte if a line above sets `.RECIPEPREFIX`
abbrev pub IsRecipe : (above : Lines) → (line : List ℕ) → Type 0
IsRecipe up l = (take 1 l ≡ 9 ∷ []) ⊎ ((0 < length l) × Any (Has (codes ".RECIPEPREFIX")) up)

-- one line with a word before a sign, and with a text
abbrev pub Line : (word : List ℕ) → (sign : ℕ) → (text : List ℕ) → (above lines : Lines) → Type 0
Line w s t up ls = (l : List ℕ) × (ls ≡ l ∷ []) × Names w s l × Has t l

-- one recipe line with a text, somewhere below the line of a rule for the target
abbrev pub Recipe : (target text : List ℕ) → (above lines : Lines) → Type 0
Recipe g t up ls = (l : List ℕ) × (ls ≡ l ∷ []) × IsRecipe up l × Has t l × Any (Names g 58) up

-- one line with a word behind a `#`; nothing is said of a word with a blank in it
abbrev pub Comment : (word : List ℕ) → (above lines : Lines) → Type 0
Comment w up ls = (a b : List ℕ) × (ls ≡ (a ++ 35 ∷ b) ∷ []) × (All (λ b. 32 < b) w → Has w b)

-- the line of a rule for the target, and lines below it
abbrev pub Headed : (target : List ℕ) → (above lines : Lines) → Type 0
Headed g up ls = (l : List ℕ) × (rs : Lines) × (ls ≡ l ∷ rs) × Names g 58 l

-- the line of a rule for the target, and below it recipe lines, lines with a comment, and lines of
-- blanks and backslashes
abbrev pub Rule : (target : List ℕ) → (above lines : Lines) → Type 0
Rule g up ls = (l : List ℕ) × (rs : Lines) × (ls ≡ l ∷ rs) × Names g 58 l
    × All (λ r. IsRecipe up r ⊎ (Has (35 ∷ []) r ⊎ All (λ b. (b < 33) ⊎ (b ≡ 92)) r)) rs

-- Lines of any kind that say a block: with a line feed in the place of each line end, and after a last
-- line that has none, they are the block and a line feed.
abbrev pub Say : (block : List ℕ) → (above lines : Lines) → Type 0
Say b up ls = flat_map (λ l. without_line_end l ++ 10 ∷ []) (flat_map physical_lines ls) ≡ b ++ 10 ∷ []

-- ---- an edit

-- Lines at one place, or no line, become others. All lines above and below stay. A last line that
-- has no line end gets one, where a new line comes behind it: `top` are the lines above then.
abbrev pub Become : (Old New : (above lines : Lines) → Type 0) → (before after : Lines) → Type 0
Become P Q ls ms = (up old new down top : Lines) × (ls ≡ up ++ (old ++ down)) × P up old × Q up new
    × (ms ≡ top ++ (new ++ down)) × AllZip (λ l m. (m ≡ l) ⊎ (without_line_end m ≡ l)) up top

-- a line with a text in the place of another one, wherever that stood or at some of these places:
-- the same parts, with the one text or the other between each two
abbrev pub Replaces : (text other : List ℕ) → (old new : List ℕ) → Type 0
Replaces w v l m = (ps : List (List ℕ)) × (l ≡ join_by (λ p. p) w ps) × (m ≡ join_by (λ p. p) v ps)

-- each line stays in its place, and is as before or becomes another
abbrev pub Each : (Becomes : (old new : List ℕ) → Type 0) → (before after : Lines) → Type 0
Each P = AllZip (λ l m. (m ≡ l) ⊎ P l m)

-- in some recipe lines a text becomes another
abbrev pub Recipes : (text other : List ℕ) → (before after : Lines) → Type 0
Recipes f t ls = Each (λ l m. IsRecipe ls l × Replaces f t l m) ls

-- the text that a change puts into the line of an assignment
abbrev put_in : {A : _} → LineChange A → List ℕ
put_in (Prepend v) = v.items
put_in (ReplaceWord w v) = v.items
put_in (InsertWord s w n) = n.items
put_in (Substitute f t) = t.items
put_in (SetOperator f) = operator_text f

-- what an edit that is accepted does to the lines of a makefile
abbrev pub Does : {A : _} → Edit A → (before after : Lines) → Type 0
Does (SetValue k n v) = Become (Line n.items 61 []) (Line n.items 61 v.items)
Does (SetValueIf k n o v) = Become (Line n.items 61 []) (Line n.items 61 v.items)
Does (AppendValue k n v) = Become (Line n.items 61 []) (Line n.items 61 v.items)
Does (AddWord k n w) = Become (Line n.items 61 []) (Line n.items 61 w.items)
Does (RemoveWord k n w) = Become (Line n.items 61 []) (Line n.items 61 [])
Does (ChangeLine k n c) = Become (Line n.items 61 []) (Line n.items 61 (put_in c))
Does (ChangeValues n c) = Each (λ l m. Names n.items 61 l × Names n.items 61 m)
Does (EachLine (ChangeEach n c)) =
    Each (λ l m. Names n.items 61 l × Names n.items 61 m × Has (put_in c) m)
Does (EachLine (SubstValues f t)) = Each (λ l m. Has (61 ∷ []) l × Has (61 ∷ []) m × Has t.items m)
Does (EachLine (SubstRecipe k g f t)) = λ ls ms. Any (Names g.items 58) ls × Recipes f.items t.items ls ms
Does (EachLine (SubstRecipes f t)) = Recipes f.items t.items
Does (AddAssign p n f v) = Become (λ up ls. ls ≡ []) (Line n.items 61 v.items)
Does (CommentOut k n) = Become (Line n.items 61 []) (Comment n.items)
Does (Uncomment k n) = Become (Comment n.items) (Line n.items 61 [])
Does (RemoveAssign k n) = Become (Line n.items 61 []) (λ up ls. ls ≡ [])
Does (AddRule p gs s ws) = Become (λ up ls. ls ≡ []) (Line gs.items 58 [])
Does (RemoveRule k g) = Become (Rule g.items) (λ up ls. ls ≡ [])
Does (AddPrereq o k g w) = Become (Line g.items 58 []) (Line g.items 58 w.items)
Does (RemovePrereq k g w) = Become (Line g.items 58 []) (Line g.items 58 [])
Does (ReplacePrereq k g o w) = Become (Line g.items 58 []) (Line g.items 58 w.items)
Does (AddRecipe k g c) = Become (λ up ls. ls ≡ []) (Recipe g.items c.items)
Does (SetRecipe k g i c) = Become (Recipe g.items []) (Recipe g.items c.items)
Does (RemoveRecipe k g i) = Become (Recipe g.items []) (λ up ls. ls ≡ [])
Does (InsertRecipe k g i c) = Become (λ up ls. ls ≡ []) (Recipe g.items c.items)
Does (SetRecipeByText k g o c) = Become (Recipe g.items o.items) (Recipe g.items c.items)
Does (RemoveRecipeByText k g o) = Become (Recipe g.items o.items) (λ up ls. ls ≡ [])
Does (RenameTarget o n) = λ ls ms. All (λ b. 32 < b) o.items → AllZip (Replaces o.items n.items) ls ms
Does (ExchangeLines (OfLines k o) (Some n)) = Become (Say o.items) (Say n.items)
Does (ExchangeLines (OfLines k o) None) = Become (Say o.items) (λ up ls. ls ≡ [])
Does (ExchangeLines (OfRule k g) (Some n)) = Become (Headed g.items) (Say n.items)
Does (ExchangeLines (OfRule k g) None) = Become (Headed g.items) (λ up ls. ls ≡ [])
Does (ExchangeLines s (Some n)) = Become (λ up ls. ls ≡ []) (Say n.items)
Does (ExchangeLines s None) = λ ls ms. ⊥

-- ---- the calls of a session

-- A call, which is done or not. One that is not done changes nothing. An undo goes to the nearest
-- of the texts that undoing leads back through, and a redo to the nearest of those that redoing
-- leads through. An undo outside a group is not done only if nothing can be undone.
abbrev pub IsCall : {A : _} → Command A → (done : Bool) → (before after : Shown (List ℕ)) → Type 0
IsCall (Apply e) true s t =
    Does e (logical_lines s.text) (logical_lines t.text) × (t ≡ shown_edited t.text s)
IsCall Undo true s t = (s.begun ≡ None) × (s.back ≡ t.text ∷ t.back)
    × (t ≡ record s { text = t.text; back = t.back; forward = s.text ∷ s.forward })
IsCall Redo true s t = (s.begun ≡ None) × (s.forward ≡ t.text ∷ t.forward)
    × (t ≡ record s { text = t.text; back = s.text ∷ s.back; forward = t.forward })
IsCall Begin true s t = (s.begun ≡ None) × (t ≡ record s { begun = Some s.text; pending = 0 })
IsCall End true s t = (b : List ℕ) × (s.begun ≡ Some b) × (t ≡ shown_ended b s.pending s)
IsCall Cancel true s t =
    (b : List ℕ) × (s.begun ≡ Some b) × (t ≡ record s { text = b; begun = None; pending = 0 })
IsCall Undo false s t = (t ≡ s) × (s.begun ≡ None → s.back ≡ [])
IsCall c false s t = t ≡ s

-- calls one after the other
abbrev pub AreCalls : {A : _} → List (Command A × Bool) → (before after : Shown (List ℕ)) → Type 0
AreCalls [] s u = u ≡ s
AreCalls ((c, done) ∷ cs) s u = (t : Shown (List ℕ)) × IsCall c done s t × AreCalls cs t u

-- After calls of which no more are done than the depth, outside a group: as many undos, of which
-- some may be refused, give back the first bytes.
abbrev pub AreTakenBack : {A : _} → (depth : ℕ) → (text : List ℕ) → List (Command A × Bool) → Type 0
AreTakenBack {A} depth text calls = (s t : Shown (List ℕ)) (dones : List Bool)
    → AreCalls calls (shown_opened depth text) s → s.begun ≡ None
    → length (filter (λ c. c.1) calls) ≤ depth → length (filter (λ c. c.1) calls) ≤ length dones
    → AreCalls {A = A} (map (λ done. (Undo, done)) dones) s t → t.text ≡ text
