-- Whether each of some lines may stand in the context that the lines before it leave.
use Rattle.std.specs.Prelude.{List, [], ◌∷◌}
use Rattle.mk_class.specs.Contexts.{Context}
use Rattle.mk_class.specs.Contexts.{context_after_located, Admits}
use Rattle.mk_tree.specs.LocatedLines.{LocatedLine}

-- each of some lines, the first of which stands in this context, is admitted where it stands
abbrev pub AreAdmitted : Context → List LocatedLine → Type 0
AreAdmitted c [] = Unit {0}
AreAdmitted c (l ∷ ls) = Admits c l.class × AreAdmitted (context_after_located c l.class) ls
