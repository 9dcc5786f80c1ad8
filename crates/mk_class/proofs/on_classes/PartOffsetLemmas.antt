-- Where the parts of a line stand: the code's class has offsets into the joined text, and the definition's class has the units of
-- each part. In a range of offsets stand the text, the units and the words of the part, and its raw bytes stand in the raw range.
use Rattle.std.proofs.Common.{◌≡◌, sym, ap, ◌∙◌, arith, ℕ, ◌+◌, ◌-◌, List, ◌++◌, map, length, length-append, take, drop, append_assoc}
use Rattle.std.specs.Prelude.{slice_range}
use Rattle.std.proofs.lemmas.List.{map-append, length-map}
use Rattle.std.proofs.Math.Seq.{take-append_seam, drop-append_seam}
use Rattle.mk_lines.specs.Lists.{concat}
use Rattle.mk_lines.proofs.on_lists.ListLemmas.{concat-append}
use Rattle.mk_lines.specs.Cells.{Cell, joined_byte, joined_text, raw_text}
use Rattle.mk_lines.proofs.on_cells.CellLemmas.{raw_text-append}
use Rattle.mk_lines.specs.Units.{units}
use Rattle.mk_lines.proofs.on_units.UnitLemmas.{units-first, units-last, units-map, concat-units}
use Rattle.mk_lines.specs.Ranges.{raw_offset, text_at}
use Rattle.mk_lines.proofs.on_lists.RangeLemmas.{raw_offset-append}
use Rattle.mk_class.specs.Texts.{unit_text, word_texts}
use Rattle.mk_class.proofs.on_symbols.SymbolMaps.{word_texts-map}
use Rattle.mk_class.specs.LocatedClasses.{width}
use Rattle.mk_class.specs.TextClasses.{itself}
use Rattle.mk_class.specs.PartOffsets.{IsPart}

pub width-append : {A : Type 0} (us vs : List (List A)) → width (us ++ vs) ≡ width us + width vs
width-append us vs = ap length (concat-append us vs) ∙ length-append (concat us) (concat vs)

-- what stands between two others
slice-between : {A : Type 0} (s e : ℕ) (p w q : List A) → s ≡ length p → e ≡ s + length w → slice_range (p ++ (w ++ q)) s e ≡ w
slice-between s e p w q h k =
    let n : e - s ≡ length w = omega (arith, k) in
    ap (λ m. take m (drop s (p ++ (w ++ q)))) n
    ∙ (ap (λ m. take (length w) (drop m (p ++ (w ++ q)))) h ∙ (ap (take (length w)) (drop-append_seam p (w ++ q)) ∙ take-append_seam w q))

pub offset-after : (cs p q : List Cell) (n : ℕ) → cs ≡ p ++ q → n ≡ length p → raw_offset cs n ≡ length (raw_text p)
offset-after cs p q n h k = ap (λ z. raw_offset z n) h ∙ (ap (raw_offset (p ++ q)) k ∙ raw_offset-append p q)

-- the range of some of a line's units is as wide as those before it and these
pub part-is : (cs : List Cell) (s e : ℕ) (b p a : List (List Cell)) → units joined_byte cs ≡ b ++ (p ++ a) → s ≡ width b → e ≡ s + width p → IsPart cs s e b p
part-is cs s e b p a h i j =
    let B = concat b in
    let P = concat p in
    let A = concat a in
    let J = map joined_byte in
    let whole : cs ≡ B ++ (P ++ A) = sym (concat-units joined_byte cs) ∙ (ap concat h ∙ (concat-append b (p ++ a) ∙ ap (λ z. B ++ z) (concat-append p a))) in
    let split : cs ≡ (B ++ P) ++ A = whole ∙ simp append_assoc in
    let joined : joined_text cs ≡ J B ++ (J P ++ J A) = ap J whole ∙ (map-append joined_byte B (P ++ A) ∙ ap (λ z. J B ++ z) (map-append joined_byte P A)) in
    let text : text_at (joined_text cs) (record { start = s; end = e }) ≡ unit_text joined_byte p =
    ap (λ t. slice_range t s e) joined ∙ slice-between s e (J B) (J P) (J A) (i ∙ sym (length-map B joined_byte)) (j ∙ ap (λ n. s + n) (sym (length-map P joined_byte))) in
    let own : units joined_byte P ≡ p = units-first joined_byte (concat (p ++ a)) p a (units-last joined_byte cs b (p ++ a) h) in
    let same : units itself (text_at (joined_text cs) (record { start = s; end = e })) ≡ map (map joined_byte) p = ap (units itself) text ∙ (units-map joined_byte itself P ∙ ap (map (map joined_byte)) own) in
    let n : length cs ≡ length B + (length P + length A) = ap length whole ∙ (length-append B (P ++ A) ∙ ap (λ n. length B + n) (length-append P A)) in
    let m : e ≡ length (B ++ P) = j ∙ (ap (λ n. n + width p) i ∙ sym (length-append B P)) in
    record {
      text_is = text;
      units_are = same;
      words_are = ap (word_texts itself) same ∙ word_texts-map joined_byte itself p;
      rises = omega (arith, j);
      within = omega (arith, i, j, n);
      raw_start = offset-after cs B (P ++ A) s whole i;
      raw_end = offset-after cs (B ++ P) A e split m ∙ (ap length (raw_text-append B P) ∙ length-append (raw_text B) (raw_text P));
    }
