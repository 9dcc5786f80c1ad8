-- A text that is put piece by piece: `front` was put, and the rest is to come.
use Rattle.std.proofs.Common.{◌≡◌, refl, sym, ap, ◌∙◌, subst, ℕ, Bool, false, List, [], ◌++◌, append-nil, append_assoc}
use Rattle.std.specs.Prelude.{Option, Result, Ok, Err, IsErrAnd}
use Rattle.mk_lines.specs.declared.fault.Fault.{Fault}
use Rattle.mk_lines.specs.Device.{Writes}
use Rattle.mk_tree.specs.Printing.{Gathers}
use Rattle.mk_tree.proofs.Prefixes.{gathers-answers, gathers-fails, gathers-front, gathers-nothing, gathers-then, writes-fails}

-- the text is written in another way
pub gathers-as : {S A : Type 0} {contents : S → Option (List ℕ)} {failed : S → Bool} {flushes : S → Option ℕ} {old new : S} {result : Result A Fault} {held held' x y : List ℕ} → x ≡ y → Gathers contents failed flushes old new held held' result x → Gathers contents failed flushes old new held held' result y
gathers-as {contents = contents} {failed = failed} {flushes = flushes} {old = old} {new = new} {result = result} {held = held} {held' = held'} e h = subst (Gathers contents failed flushes old new held held' result) e h

-- of the whole text some was put, and the rest is to come
pub record PutSoFar {S : Type 0} (contents : S → Option (List ℕ)) (failed : S → Bool) (flushes : S → Option ℕ) (old new : S) (held_old held_new rest whole : List ℕ) : Type 0 where
  pub front : List ℕ
  pub joined : front ++ rest ≡ whole
  pub so_far : Gathers contents failed flushes old new held_old held_new (Ok (tt {0})) front

-- nothing was put
pub put-nothing : {S : Type 0} {contents : S → Option (List ℕ)} {failed : S → Bool} {flushes : S → Option ℕ} {sink : S} {held held' rest whole : List ℕ} → rest ≡ whole → failed sink ≡ false → held' ≡ held
    → PutSoFar contents failed flushes sink sink held held' rest whole
put-nothing e works kept = record { front = []; joined = e; so_far = gathers-nothing works kept refl }

-- a piece more was put
pub put-more : {S A : Type 0} {contents : S → Option (List ℕ)} {failed : S → Bool} {flushes : S → Option ℕ} {old between new : S} {a : A} {held held' held'' x ahead rest whole : List ℕ} → x ++ rest ≡ ahead
    → PutSoFar contents failed flushes old between held held' ahead whole → Gathers contents failed flushes between new held' held'' (Ok a) x → PutSoFar contents failed flushes old new held held'' rest whole
put-more {x = x} {rest = rest} e done more =
    record { front = done.front ++ x; joined = append_assoc done.front x rest ∙ (ap (λ z. done.front ++ z) e ∙ done.joined); so_far = gathers-answers (gathers-then done.so_far more) }

-- nothing is to come
pub put-done : {S : Type 0} {contents : S → Option (List ℕ)} {failed : S → Bool} {flushes : S → Option ℕ} {old new : S} {held held' rest whole : List ℕ} → rest ≡ [] → PutSoFar contents failed flushes old new held held' rest whole
    → Gathers contents failed flushes old new held held' (Ok (tt {0})) whole
put-done e done = gathers-as (sym (append-nil done.front) ∙ (ap (λ z. done.front ++ z) (sym e) ∙ done.joined)) done.so_far

-- a piece was not put
pub put-fails : {S A B : Type 0} {contents : S → Option (List ℕ)} {failed : S → Bool} {flushes : S → Option ℕ} {old between new : S} {e : Fault} {result : Result B Fault} {held held' held'' x ahead whole : List ℕ} (rest : List ℕ) → x ++ rest ≡ ahead
    → PutSoFar contents failed flushes old between held held' ahead whole → IsErrAnd result (λ d. d ≡ e) → Gathers {A = A} contents failed flushes between new held' held'' (Err e) x → Gathers contents failed flushes old new held held'' result whole
put-fails {x = x} rest e done is more = gathers-as (append_assoc done.front x rest ∙ (ap (λ z. done.front ++ z) e ∙ done.joined)) (gathers-fails is (gathers-front rest (gathers-then done.so_far more)))

-- a piece was not put, and nothing was held back at the start
pub put-unwritten : {S A : Type 0} {contents : S → Option (List ℕ)} {failed : S → Bool} {flushes : S → Option ℕ} {old between new : S} {e : Fault} {result : Result Unit Fault} {none held' held'' x ahead whole : List ℕ} (rest : List ℕ) → x ++ rest ≡ ahead
    → PutSoFar contents failed flushes old between none held' ahead whole → none ≡ [] → IsErrAnd result (λ d. d ≡ e) → Gathers {A = A} contents failed flushes between new held' held'' (Err e) x → Writes contents failed flushes old new result whole
put-unwritten {A = A} {e = e} rest joined done start is more = writes-fails {A = A} start is (put-fails {B = A} {result = Err e} rest joined done refl more)
