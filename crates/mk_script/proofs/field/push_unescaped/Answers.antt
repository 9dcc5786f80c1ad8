use Rattle.std.proofs.Common.{◌≡◌, ◌++◌, ◌+◌, [], ◌∷◌, ℕ, List, Bool, true, false, drop, ap, ◌∙◌, add-one, drop-cons, append_assoc, ne_eqb, slice_index_or}
use Rattle.std.specs.Prelude.{◌==◌}
use Rattle.mk_script.specs.FieldReading.{unescaped}
use Rattle.mk_script.proofs.field.push_unescaped.Goals as goal
use Rattle.mk_script.proofs.field.push_unescaped.Goals.{then-is_escaped+in_ok-push, else-is_escaped+then-byte-eq92, else-is_escaped+else-byte-eq92+in_ok-push-2}

-- a byte after a backslash
escaped-step : (done pushed now text rest whole : List ℕ) (b : ℕ) (s t : Bool) → text ≡ b ∷ rest → s ≡ true → t ≡ false → now ≡ pushed → pushed ≡ done ++ b ∷ []
    → done ++ unescaped s text ≡ whole → now ++ unescaped t rest ≡ whole
escaped-step done pushed now text rest whole b s t e f g h p k =
    let before : done ++ (b ∷ unescaped false rest) ≡ whole = rw (e, f) at k in
    rw (g, h, p) (append_assoc done (b ∷ []) (unescaped false rest) ∙ before)

-- a backslash, and any other byte

backslash-step : (done now text rest whole : List ℕ) (b : ℕ) (s t : Bool) → text ≡ b ∷ rest → s ≡ false → t ≡ true → b ≡ 92 → now ≡ done
    → done ++ unescaped s text ≡ whole → now ++ unescaped t rest ≡ whole
backslash-step done now text rest whole b s t e f g i h k = rw (g, h) (rw (e, f, i) at k)

plain-step : (done pushed now text rest whole : List ℕ) (b : ℕ) (s t : Bool) → text ≡ b ∷ rest → s ≡ false → t ≡ s → (b == 92) ≡ false → now ≡ pushed
    → pushed ≡ done ++ b ∷ []
    → done ++ unescaped s text ≡ whole → now ++ unescaped t rest ≡ whole
plain-step done pushed now text rest whole b s t e f g i h p k =
    let before : done ++ (b ∷ unescaped false rest) ≡ whole = rw (e, f, i) at k in
    rw (g, f, h, p) (append_assoc done (b ∷ []) (unescaped false rest) ∙ before)

pub loop-byte-preserved : goal.loop-byte-preserved
loop-byte-preserved g c =
    let text = c.args.written.now in
    let i = c.loop-byte.byte-index in
    let b = slice_index_or text i 0 in
    let left : drop i text ≡ b ∷ drop (i + 1) text = rw add-one (drop-cons text i 0 c.loop-byte-test.true) in
    let done = c.loop-byte.text.items in
    let whole = c.args.text.now.items ++ unescaped false text in
    elim c.if-is_escaped.branch [
      | then-is_escaped+in_ok-push w ↦
          escaped-step done w.push.new.self.items c.if-is_escaped.text.items (drop i text) (drop (i + 1) text) whole b c.loop-byte.is_escaped c.if-is_escaped.is_escaped left w.if-is_escaped.true w.is_escaped-is
          (ap (λ v. v.items) w.text-is) w.in_ok-push.ensures.items c.loop-byte.invariant
      | else-is_escaped+then-byte-eq92 w ↦
          backslash-step done c.if-is_escaped.text.items (drop i text) (drop (i + 1) text) whole b c.loop-byte.is_escaped c.if-is_escaped.is_escaped left w.if-is_escaped.false w.is_escaped-is
          w.if-byte-eq92.true (ap (λ v. v.items) w.text-is) c.loop-byte.invariant
      | else-is_escaped+else-byte-eq92+in_ok-push-2 w ↦
          plain-step done w.push-else-byte-eq92.new.self.items c.if-is_escaped.text.items (drop i text) (drop (i + 1) text) whole b c.loop-byte.is_escaped c.if-is_escaped.is_escaped left w.if-is_escaped.false w.is_escaped-is
          (ne_eqb b 92 w.if-byte-eq92.false) (ap (λ v. v.items) w.text-is) w.in_ok-push-2.ensures.items c.loop-byte.invariant
    ]
