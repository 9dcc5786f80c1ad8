-- A text that goes out in parts, the end of what there is of it so far being held back.
use Rattle.std.proofs.Common.{◌≡◌, ℕ, Bool, false, List, [], ◌∷◌, ◌++◌, ◌+◌, ◌<◌, length, take, drop, refl, sym, ap, ◌∙◌, subst, arith, append_assoc, append-nil}
use Rattle.std.specs.Prelude.{Option, Result, Ok, Err, IsErrAnd}
use Rattle.std.specs.Io.KnownBytes.{Appends}
use Rattle.std.proofs.KnownBytes.{Appends-nil, Appends-trans}
use Rattle.std.proofs.Math.Seq.{take-append_seam}
use Rattle.std.proofs.lemmas.List.{take-take}
use Rattle.std.proofs.lemmas.Result.{on_ok_weaker}
use Rattle.mk_lines.specs.declared.fault.Fault.{Fault}
use Rattle.mk_lines.specs.Device.{AppendsPrefix, Writes}
use Rattle.mk_lines.proofs.PrefixLemmas.{AppendsPrefix-front, AppendsPrefix-more}
use Rattle.mk_tree.specs.LocatedLines.{LocatedLine, located_text}
use Rattle.mk_tree.specs.Printing.{AppendsSoFar, Gathers}
use Rattle.mk_tree.proofs.OriginLemmas.{located_text-cut, text-step}

-- the whole is a prefix
pub AppendsPrefix-whole : (a b : Option (List ℕ)) (x : List ℕ) → Appends a b x → AppendsPrefix a b x
AppendsPrefix-whole a b x out =
    let e : take (length x) x ≡ x = ap (λ z. take (length x) z) (sym (append-nil x)) ∙ take-append_seam x [] in
    (length x, omega arith, subst (Appends a b) (sym e) out)

-- ---- texts that are put behind bytes that are held back

-- more goes out, and other bytes are held back
so_far-more : (a b c : Option (List ℕ)) (held x held' y held'' : List ℕ) → AppendsSoFar a b (held ++ x) held' → AppendsSoFar b c (held' ++ y) held'' → AppendsSoFar a c (held ++ (x ++ y)) held''
so_far-more a b c held x held' y held'' (w, e, out) (w', e', out') =
    (w ++ w', append_assoc w w' held'' ∙ (ap (λ z. w ++ z) e' ∙ (sym (append_assoc w held' y) ∙ (ap (λ z. z ++ y) e ∙ append_assoc held x y))), Appends-trans a b c w w' out out')

-- a prefix of what was held back, and of what follows it, goes out
so_far-prefix : (a b c : Option (List ℕ)) (held x held' y : List ℕ) → AppendsSoFar a b (held ++ x) held' → AppendsPrefix b c (held' ++ y) → AppendsPrefix a c (held ++ (x ++ y))
so_far-prefix a b c held x held' y (w, e, out) rest =
    subst (AppendsPrefix a c) (sym (append_assoc w held' y) ∙ (ap (λ z. z ++ y) e ∙ append_assoc held x y)) (AppendsPrefix-more a b c w (held' ++ y) out rest)

-- no text is put, and the bytes that are held back stay
pub gathers-nothing : {S A : Type 0} {contents : S → Option (List ℕ)} {failed : S → Bool} {flushes : S → Option ℕ} {sink : S} {a : A} {held held' x : List ℕ} → failed sink ≡ false → held' ≡ held → x ≡ []
    → Gathers contents failed flushes sink sink held held' (Ok a) x
gathers-nothing {contents = contents} {sink = sink} {held = held} {held' = held'} {x = x} works kept none =
    let all : held ++ x ≡ held = ap (λ z. held ++ z) none ∙ append-nil held in record {
      whole = ([], kept ∙ sym all, Appends-nil (contents sink));
      prefix = (0, omega arith, Appends-nil (contents sink));
      works = works;
      fault = tt;
      unflushed = refl;
    }

-- a text was put, and then another
pub gathers-then : {S A B : Type 0} {contents : S → Option (List ℕ)} {failed : S → Bool} {flushes : S → Option ℕ} {old between new : S} {a : A} {result : Result B Fault} {held held' held'' x y : List ℕ}
    → Gathers contents failed flushes old between held held' (Ok a) x → Gathers contents failed flushes between new held' held'' result y → Gathers contents failed flushes old new held held'' result (x ++ y)
gathers-then {contents = contents} {old = old} {between = between} {new = new} {result = result} {held = held} {held' = held'} {held'' = held''} {x = x} {y = y} first next = record {
  whole = on_ok_weaker result (λ (h : AppendsSoFar (contents between) (contents new) (held' ++ y) held''). so_far-more (contents old) (contents between) (contents new) held x held' y held'' first.whole h) next.whole;
  prefix = so_far-prefix (contents old) (contents between) (contents new) held x held' y first.whole next.prefix;
  works = next.works;
  fault = next.fault;
  unflushed = next.unflushed ∙ first.unflushed;
}

-- a text was not put, and so neither is what follows it
pub gathers-front : {S A : Type 0} {contents : S → Option (List ℕ)} {failed : S → Bool} {flushes : S → Option ℕ} {old new : S} {e : Fault} {held held' x : List ℕ} (y : List ℕ)
    → Gathers {A = A} contents failed flushes old new held held' (Err e) x → Gathers {A = A} contents failed flushes old new held held' (Err e) (x ++ y)
gathers-front {contents = contents} {old = old} {new = new} {held = held} {x = x} y first = record {
  whole = tt;
  prefix = subst (AppendsPrefix (contents old) (contents new)) (append_assoc held x y) (AppendsPrefix-front (contents old) (contents new) (held ++ x) y first.prefix);
  works = tt;
  fault = first.fault;
  unflushed = first.unflushed;
}

-- the fault is handed on
pub gathers-fails : {S A B : Type 0} {contents : S → Option (List ℕ)} {failed : S → Bool} {flushes : S → Option ℕ} {old new : S} {e : Fault} {result : Result B Fault} {held held' x : List ℕ} → IsErrAnd result (λ d. d ≡ e)
    → Gathers {A = A} contents failed flushes old new held held' (Err e) x → Gathers contents failed flushes old new held held' result x
gathers-fails {result = Ok a} is first = absurd is
gathers-fails {result = Err d} is first = record {
  whole = tt;
  prefix = first.prefix;
  works = tt;
  fault = (is ∙ first.fault.0, first.fault.1);
  unflushed = first.unflushed;
}

-- another value is answered
pub gathers-answers : {S A B : Type 0} {contents : S → Option (List ℕ)} {failed : S → Bool} {flushes : S → Option ℕ} {old new : S} {a : A} {b : B} {held held' x : List ℕ}
    → Gathers contents failed flushes old new held held' (Ok a) x → Gathers contents failed flushes old new held held' (Ok b) x
gathers-answers first = record { whole = first.whole; prefix = first.prefix; works = first.works; fault = tt; unflushed = first.unflushed }

-- what is held back goes out, and then a text that finds no room behind it
pub gathers-written : {S : Type 0} {contents : S → Option (List ℕ)} {failed : S → Bool} {flushes : S → Option ℕ} {old between new : S} {result : Result Unit Fault} {held held' out x : List ℕ} → out ≡ held → held' ≡ []
    → Writes contents failed flushes old between (Ok tt) out → Writes contents failed flushes between new result x → Gathers contents failed flushes old new held held' result x
gathers-written {contents = contents} {old = old} {between = between} {new = new} {result = result} {held = held} {held' = held'} {x = x} same none first next =
    let out = subst (Appends (contents old) (contents between)) same first.whole in record {
      whole = on_ok_weaker result (λ (h : Appends (contents between) (contents new) x).
          (held ++ x, ap (λ z. (held ++ x) ++ z) none ∙ append-nil (held ++ x), Appends-trans (contents old) (contents between) (contents new) held x out h)) next.whole;
      prefix = AppendsPrefix-more (contents old) (contents between) (contents new) held x out next.prefix;
      works = next.works;
      fault = next.fault;
      unflushed = next.unflushed ∙ first.unflushed;
    }

-- ---- nothing was held back at the start

-- what is held back at the end goes out
pub writes-gathered : {S A : Type 0} {contents : S → Option (List ℕ)} {failed : S → Bool} {flushes : S → Option ℕ} {old between new : S} {a : A} {result : Result Unit Fault} {none held last x : List ℕ} → none ≡ [] → last ≡ held
    → Gathers contents failed flushes old between none held (Ok a) x → Writes contents failed flushes between new result last → Writes contents failed flushes old new result x
writes-gathered {contents = contents} {old = old} {between = between} {new = new} {result = result} {last = last} {x = x} start same first next =
    let (w, e, out) = first.whole in
    let all : w ++ last ≡ x = ap (λ z. w ++ z) same ∙ (e ∙ ap (λ z. z ++ x) start) in record {
      whole = on_ok_weaker result (λ (h : Appends (contents between) (contents new) last). subst (Appends (contents old) (contents new)) all (Appends-trans (contents old) (contents between) (contents new) w last out h)) next.whole;
      prefix = subst (AppendsPrefix (contents old) (contents new)) all (AppendsPrefix-more (contents old) (contents between) (contents new) w last out next.prefix);
      works = next.works;
      fault = next.fault;
      unflushed = next.unflushed ∙ first.unflushed;
    }

-- a text was not put, and the fault is handed on
pub writes-fails : {S A : Type 0} {contents : S → Option (List ℕ)} {failed : S → Bool} {flushes : S → Option ℕ} {old new : S} {e : Fault} {result : Result Unit Fault} {none held x : List ℕ} → none ≡ [] → IsErrAnd result (λ d. d ≡ e)
    → Gathers {A = A} contents failed flushes old new none held (Err e) x → Writes contents failed flushes old new result x
writes-fails {contents = contents} {old = old} {new = new} {result = Ok a} {x = x} start is first = absurd is
writes-fails {contents = contents} {old = old} {new = new} {result = Err d} {x = x} start is first = record {
  whole = tt;
  prefix = subst (λ z. AppendsPrefix (contents old) (contents new) (z ++ x)) start first.prefix;
  works = tt;
  fault = (is ∙ first.fault.0, first.fault.1);
  unflushed = first.unflushed;
}

-- ---- lines of a document, put one by one

-- one line more
pub line-joined : (bytes : List ℕ) (ls ahead left : List LocatedLine) (x : LocatedLine) (n : ℕ) → drop n ls ≡ ahead → ahead ≡ x ∷ left → bytes ≡ x.bytes → located_text (take n ls) ++ bytes ≡ located_text (take (n + 1) ls)
line-joined bytes ls ahead left x n at e f = ap (λ z. located_text (take n ls) ++ z) f ∙ sym (text-step ls ahead left x n at e)

-- and further lines that follow it
pub lines-joined : (bytes : List ℕ) (ls ahead left : List LocatedLine) (x : LocatedLine) (n count : ℕ) → drop n ls ≡ ahead → ahead ≡ x ∷ left → bytes ≡ x.bytes → n < count
    → (located_text (take n ls) ++ bytes) ++ located_text (drop (n + 1) (take count ls)) ≡ located_text (take count ls)
lines-joined bytes ls ahead left x n count at e f few =
    let rest = located_text (drop (n + 1) (take count ls)) in
    ap (λ z. z ++ rest) (line-joined bytes ls ahead left x n at e f) ∙ (ap (λ z. located_text z ++ rest) (sym (take-take (n + 1) count ls (omega arith))) ∙ sym (located_text-cut (n + 1) (take count ls)))
