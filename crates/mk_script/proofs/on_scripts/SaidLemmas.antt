-- Lines that say something, one after the other.
use Rattle.std.proofs.Common.{◌≡◌, ℕ, ◌+◌, List, [], ◌∷◌, ◌++◌, refl, sym, ap, ◌∙◌, subst, length, arith, append_assoc, append-nil, length-append}
use Rattle.std.specs.List.{AllByRecursion}
use Rattle.std.proofs.lemmas.List.{append_cancel_left}
use Rattle.mk_script.specs.Lines.{IsSkipped, Says}
use Rattle.mk_script.specs.Scripts.{SayingAt, BeginWith, AreSaid}
use Rattle.mk_script.proofs.on_scripts.LineLemmas.{skipped-says_nothing, one_saying}

abbrev First : (n : ℕ) → (lines : List (List ℕ)) → SayingAt → Type 0
First n lines x = BeginWith (λ line block (y : SayingAt). Says line block y.saying) (λ (y : SayingAt). y.line) n lines x

-- ---- lines that are skipped

all-append : (xs ys : List (List ℕ)) → AllByRecursion IsSkipped xs → AllByRecursion IsSkipped ys → AllByRecursion IsSkipped (xs ++ ys)
all-append [] ys h k = k
all-append (x ∷ xs) ys h k = (h.0, all-append xs ys h.1 k)

-- a line among them is one
all-among : (xs : List (List ℕ)) (x : List ℕ) (ys : List (List ℕ)) → AllByRecursion IsSkipped (xs ++ x ∷ ys) → IsSkipped x
all-among [] x ys h = h.0
all-among (z ∷ xs) x ys h = all-among xs x ys h.1

-- ---- lines behind

-- some lines are the first lines of more
abbrev longer : (n : ℕ) (lines more : List (List ℕ)) (x : SayingAt) → First n lines x → First n (lines ++ more) x
longer n lines more x h = record {
  skipped = h.skipped;
  line = h.line;
  block = h.block;
  rest = h.rest ++ more;
  lines_are = ap (λ ls. ls ++ more) h.lines_are ∙ (append_assoc h.skipped (h.line ∷ (h.block ++ h.rest)) more ∙ ap (λ ls. h.skipped ++ h.line ∷ ls) (append_assoc h.block h.rest more));
  are_skipped = h.are_skipped;
  number_is = h.number_is;
  says = h.says;
}

-- the number of the line behind
first-length : (n : ℕ) (lines : List (List ℕ)) (x : SayingAt) (h : First n lines x) → n + length lines ≡ (x.line + 1 + length h.block) + length h.rest
first-length n lines x h =
    let all = ap length h.lines_are in
    let front = length-append h.skipped (h.line ∷ (h.block ++ h.rest)) in
    let back = length-append h.block h.rest in
    let at = h.number_is in
    omega (arith, all, front, back, at)

pub said-skipped : (n : ℕ) (before : List (List ℕ)) (line : List ℕ) (said : List SayingAt) → IsSkipped line → AreSaid n before said → AreSaid n (before ++ line ∷ []) said
said-skipped n before line [] s h = all-append before (line ∷ []) h (s, tt)
said-skipped n before line (x ∷ said) s (first, others) = (longer n before (line ∷ []) x first, said-skipped (x.line + 1 + length first.block) first.rest line said s others)

pub said-more : (n : ℕ) (before : List (List ℕ)) (line : List ℕ) (block : List (List ℕ)) (said : List SayingAt) (x : SayingAt) → x.line ≡ n + length before → Says line block x.saying
    → AreSaid n before said → AreSaid n (before ++ line ∷ block) (said ++ x ∷ [])
said-more n before line block [] x at says h = (
  record {
    skipped = before;
    line = line;
    block = block;
    rest = [];
    lines_are = ap (λ ls. before ++ line ∷ ls) (sym (append-nil block));
    are_skipped = h;
    number_is = at;
    says = says;
  },
  tt,
)
said-more n before line block (y ∷ said) x at says (first, others) =
    let number = at ∙ first-length n before y first in
    (longer n before (line ∷ block) y first, said-more (y.line + 1 + length first.block) first.rest line block said x number says others)

-- ---- the first line that is not skipped

-- the first lines that are not skipped are the same, with what is before and behind them
record AreOne (skipped others : List (List ℕ)) (line other : List ℕ) (rest more : List (List ℕ)) : Type 0 where
  fronts : skipped ≡ others
  lines : line ≡ other
  rests : rest ≡ more

front-one : (skipped others : List (List ℕ)) (line other : List ℕ) (rest more : List (List ℕ)) → skipped ++ line ∷ rest ≡ others ++ other ∷ more
    → AllByRecursion IsSkipped skipped → AllByRecursion IsSkipped others → (IsSkipped line → ⊥) → (IsSkipped other → ⊥) → AreOne skipped others line other rest more
front-one [] [] line other rest more e s t unskipped other_unskipped = record { fronts = refl; lines = cc; rests = cc }
front-one [] (z ∷ others) line other rest more e s t unskipped other_unskipped = let same : z ≡ line = cc in absurd (unskipped (subst IsSkipped same t.0))
front-one (z ∷ skipped) [] line other rest more e s t unskipped other_unskipped = let same : z ≡ other = cc in absurd (other_unskipped (subst IsSkipped same s.0))
front-one (y ∷ skipped) (z ∷ others) line other rest more e s t unskipped other_unskipped =
    let same : y ≡ z = cc in
    let tails : skipped ++ line ∷ rest ≡ others ++ other ∷ more = cc in
    let one = front-one skipped others line other rest more tails s.1 t.1 unskipped other_unskipped in
    record { fronts = ap (λ x. x ∷ skipped) same ∙ ap (λ xs. z ∷ xs) one.fronts; lines = one.lines; rests = one.rests }

same_at : (x y : SayingAt) → x.line ≡ y.line → x.saying ≡ y.saying → x ≡ y
same_at x y p q =
    let first : ◌≡◌ {A = SayingAt} (record { line = x.line; saying = x.saying }) (record { line = y.line; saying = x.saying }) =
    ap (λ l. record { line = l; saying = x.saying }) p in
    let second : ◌≡◌ {A = SayingAt} (record { line = y.line; saying = x.saying }) (record { line = y.line; saying = y.saying }) =
    ap (λ s. record { line = y.line; saying = s }) q in
    first ∙ second

-- what lines say first, and longer ones
record IsSame (before tail : List (List ℕ)) (n : ℕ) (x y : SayingAt) (h : First n before x) (k : First n (before ++ tail) y) : Type 0 where
  things : x ≡ y
  blocks : h.block ≡ k.block
  rests : h.rest ++ tail ≡ k.rest

first-one : (before tail : List (List ℕ)) (n : ℕ) (x y : SayingAt) (h : First n before x) (k : First n (before ++ tail) y) → IsSame before tail n x y h k
first-one before tail n x y h k =
    let here = longer n before tail x h in
    let one = front-one h.skipped k.skipped h.line k.line (h.block ++ (h.rest ++ tail)) (k.block ++ k.rest) (sym here.lines_are ∙ k.lines_are) h.are_skipped k.are_skipped
    (λ s. skipped-says_nothing h.line h.block x.saying s h.says) (λ s. skipped-says_nothing k.line k.block y.saying s k.says) in
    let said = one_saying k.line h.block (h.rest ++ tail) k.block k.rest x.saying y.saying (subst (λ l. Says l h.block x.saying) one.lines h.says) k.says one.rests in
    record {
      things = same_at x y (h.number_is ∙ (ap (λ ls. n + length ls) one.fronts ∙ sym k.number_is)) said.0;
      blocks = said.1;
      rests = append_cancel_left k.block (h.rest ++ tail) k.rest (ap (λ b. b ++ (h.rest ++ tail)) (sym said.1) ∙ one.rests);
    }

-- ---- lines behind others

-- what lines say is what their first lines say, and then something
pub record IsAfter (n : ℕ) (before tail : List (List ℕ)) (said all : List SayingAt) : Type 0 where
  pub later : List SayingAt
  pub all_are : all ≡ said ++ later
  pub are : AreSaid (n + length before) tail later

-- without the first line, which is skipped
first-less : (n : ℕ) (l : List ℕ) (lines skipped : List (List ℕ)) (line : List ℕ) (block rest : List (List ℕ)) (x : SayingAt) (all : List SayingAt) → l ∷ lines ≡ skipped ++ line ∷ (block ++ rest)
    → AllByRecursion IsSkipped skipped → x.line ≡ n + length skipped → Says line block x.saying → AreSaid (x.line + 1 + length block) rest all → IsSkipped l → AreSaid (n + 1) lines (x ∷ all)
first-less n l lines [] line block rest x all e s at says others skip = let same : l ≡ line = cc in absurd (skipped-says_nothing line block x.saying (subst IsSkipped same skip) says)
first-less n l lines (z ∷ skipped) line block rest x all e s at says others skip = (
  record {
    skipped = skipped;
    line = line;
    block = block;
    rest = rest;
    lines_are = cc;
    are_skipped = s.1;
    number_is = omega (arith, at);
    says = says;
  },
  others,
)

said-less : (n : ℕ) (l : List ℕ) (lines : List (List ℕ)) (all : List SayingAt) → IsSkipped l → AreSaid n (l ∷ lines) all → AreSaid (n + 1) lines all
said-less n l lines [] s h = h.1
said-less n l lines (x ∷ all) s (first, others) =
    first-less n l lines first.skipped first.line first.block first.rest x all first.lines_are first.are_skipped first.number_is first.says others s

said-behind : (n : ℕ) (before tail : List (List ℕ)) (all : List SayingAt) → AllByRecursion IsSkipped before → AreSaid n (before ++ tail) all → AreSaid (n + length before) tail all
said-behind n [] tail all h k =
    let same : n ≡ n + 0 = omega arith in
    subst (λ m. AreSaid m tail all) same k
said-behind n (l ∷ before) tail all h k =
    let same : (n + 1) + length before ≡ n + length (l ∷ before) = omega arith in
    subst (λ m. AreSaid m tail all) same (said-behind (n + 1) before tail all h.1 (said-less n l (before ++ tail) all h.0 k))

pub said-after : (n : ℕ) (before tail : List (List ℕ)) (said all : List SayingAt) → AreSaid n before said → AreSaid n (before ++ tail) all → IsAfter n before tail said all
said-after n before tail [] all h k = record { later = all; all_are = refl; are = said-behind n before tail all h k }
said-after n before tail (x ∷ said) [] (first, others) k =
    let here = longer n before tail x first in
    absurd (skipped-says_nothing first.line first.block x.saying (all-among first.skipped first.line (first.block ++ (first.rest ++ tail)) (subst (λ ls. AllByRecursion IsSkipped ls) here.lines_are k)) first.says)
said-after n before tail (x ∷ said) (y ∷ all) (first, others) (second, more) =
    let same = first-one before tail n x y first second in
    let m = x.line + 1 + length first.block in
    let number : y.line + 1 + length second.block ≡ m = ap (λ (z : SayingAt). z.line + 1 + length second.block) (sym same.things) ∙ ap (λ (b : List (List ℕ)). x.line + 1 + length b) (sym same.blocks) in
    let on = said-after m first.rest tail said all others (subst (λ ls. AreSaid m ls all) (sym same.rests) (subst (λ k. AreSaid k second.rest all) number more)) in
    record {
      later = on.later;
      all_are = ap (λ z. z ∷ all) (sym same.things) ∙ ap (λ xs. x ∷ xs) on.all_are;
      are = subst (λ k. AreSaid k tail on.later) (sym (first-length n before x first)) on.are;
    }

-- ---- one list

no_line : (skipped : List (List ℕ)) (line : List ℕ) (rest : List (List ℕ)) → [] ≡ skipped ++ line ∷ rest → ⊥
no_line [] line rest e = absurd (cc)
no_line (s ∷ skipped) line rest e = absurd (cc)

none-said : (n : ℕ) (said : List SayingAt) → AreSaid n [] said → said ≡ []
none-said n [] h = refl
none-said n (x ∷ said) (first, others) = absurd (no_line first.skipped first.line (first.block ++ first.rest) first.lines_are)

-- lines say at most one list of things
pub said-one : (n : ℕ) (lines : List (List ℕ)) (xs ys : List SayingAt) → AreSaid n lines xs → AreSaid n lines ys → xs ≡ ys
said-one n lines xs ys h k =
    let a = said-after n lines [] xs ys h (subst (λ ls. AreSaid n ls ys) (sym (append-nil lines)) k) in
    sym (a.all_are ∙ (ap (λ zs. xs ++ zs) (none-said (n + length lines) a.later a.are) ∙ append-nil xs))

-- ---- a line that is not skipped

-- What is said first is said by the first line, with some of the lines below it.
pub record IsNext (n : ℕ) (line : List ℕ) (after : List (List ℕ)) (said : List SayingAt) : Type 0 where
  pub thing : SayingAt
  pub others : List SayingAt
  pub block : List (List ℕ)
  pub rest : List (List ℕ)
  pub said_are : said ≡ thing ∷ others
  pub whole : after ≡ block ++ rest
  pub at : thing.line ≡ n
  pub says : Says line block thing.saying

next-by : (n : ℕ) (line : List ℕ) (after skipped : List (List ℕ)) (l : List ℕ) (block rest : List (List ℕ)) (x : SayingAt) (said : List SayingAt) → (IsSkipped line → ⊥)
    → line ∷ after ≡ skipped ++ l ∷ (block ++ rest) → AllByRecursion IsSkipped skipped → x.line ≡ n + length skipped → Says l block x.saying → IsNext n line after (x ∷ said)
next-by n line after [] l block rest x said unskipped e s at says =
    let same : l ≡ line = cc in
    record { thing = x; others = said; block = block; rest = rest; said_are = refl; whole = cc; at = omega (arith, at); says = subst (λ z. Says z block x.saying) same says }
next-by n line after (z ∷ skipped) l block rest x said unskipped e s at says = let same : z ≡ line = cc in absurd (unskipped (subst IsSkipped same s.0))

pub next-said : (n : ℕ) (line : List ℕ) (after : List (List ℕ)) (said : List SayingAt) → (IsSkipped line → ⊥) → AreSaid n (line ∷ after) said → IsNext n line after said
next-said n line after [] unskipped h = absurd (unskipped h.0)
next-said n line after (x ∷ said) unskipped (first, others) =
    next-by n line after first.skipped first.line first.block first.rest x said unskipped first.lines_are first.are_skipped first.number_is first.says
