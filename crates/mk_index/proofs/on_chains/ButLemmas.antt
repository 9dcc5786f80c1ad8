-- Words that chains list, but for those that are there.
use Rattle.std.proofs.Common.{◌≡◌, refl, sym, ap, ◌∙◌, subst, ℕ, Bool, false, List, [], ◌∷◌, ◌++◌, append_assoc, map, inl, inr}
use Rattle.std.specs.Prelude.{◌⊎◌}
use Rattle.std.proofs.lemmas.List.{map-append}
use Rattle.mk_tree.specs.LocatedLines.{LocatedLine, text_of_line}
use Rattle.mk_edit_parts.specs.LocatedParts.{is_unread_located}
use Rattle.mk_edit_parts.specs.RenamedRanges.{word_parts}
use Rattle.mk_edit_parts.specs.Windows.{first_text}
use Rattle.mk_index.specs.Chains.{AreChainsOf, AreMentioned, HaveListed, IsMentioned, Mention, Stored, hash_of}
use Rattle.mk_index.specs.Exchanges.{AreAlike, HaveExchanged, HaveListedBut}
use Rattle.mk_index.specs.Keys.{IsOneOf, hashes_of, keys_in, listed, text_key, unread_key, words_of_parts}
use Rattle.mk_index.specs.declared.keys.Scope.{Scope}
use Rattle.mk_index.proofs.on_chains.KeyLemmas.{is_mentioned-more, mentioned-one}
use Rattle.mk_index.proofs.on_chains.ListedLemmas.{Lists}

-- some chains come from others by the listing of these hashes, but for those that are there
abbrev pub ListsBut : (there hashes : List ℕ) → (block : ℕ) → (before after : Stored) → Type 0
ListsBut there hs b c d = (ms : List Mention) → AreChainsOf ms c → HaveListedBut there hs b ms d

-- these hashes are all listed, but for those that are there, once those ahead are
abbrev pub IsLeftBut : (all_there all there ahead : List ℕ) → (block : ℕ) → (before now : Stored) → Type 0
IsLeftBut all_there all there ahead b c d = (e : Stored) → ListsBut there ahead b d e → ListsBut all_there all b c e

-- nothing is listed
pub but-none : (there : List ℕ) (b : ℕ) (c : Stored) → ListsBut there [] b c c
but-none there b c = λ ms h. record { added = []; chains_are = h; mentioned = λ x is. absurd is }

-- a hash that is there
pub but-there : (h : ℕ) (there hs : List ℕ) (b : ℕ) (c e : Stored) → ListsBut there hs b c e → ListsBut (h ∷ there) (h ∷ hs) b c e
but-there h there hs b c e f = λ ms k.
    let s = f ms k in
    record {
      added = s.added;
      chains_are = s.chains_are;
      mentioned = λ x is. elim is [
        | inl same ↦ inl (inl same)
        | inr more ↦ elim (s.mentioned x more) [ inl old ↦ inl (inr old) | inr new ↦ inr new ]
      ];
    }

-- a hash that is listed; some of those that are there may be passed
pub but-listed : (h : ℕ) (all there hs : List ℕ) (b : ℕ) (c d e : Stored) → ((x : ℕ) → IsOneOf x there → IsOneOf x all) → Lists (h ∷ []) b c d → ListsBut there hs b d e → ListsBut all (h ∷ hs) b c e
but-listed h all there hs b c d e into l f = λ ms k.
    let one = l ms k in
    let s = f (one.added ++ ms) one.chains_are in
    let joined : s.added ++ (one.added ++ ms) ≡ (s.added ++ one.added) ++ ms = sym (append_assoc s.added one.added ms) in
    record {
      added = s.added ++ one.added;
      chains_are = subst (λ (xs : List Mention). AreChainsOf xs e) joined s.chains_are;
      mentioned = λ x is. elim is [
        | inl same ↦ inr (subst (λ (xs : List Mention). IsMentioned xs x b) joined (is_mentioned-more s.added (one.added ++ ms) x b (subst (λ y. IsMentioned (one.added ++ ms) y b) same one.mentioned.0)))
        | inr more ↦ elim (s.mentioned x more) [
          | inl old ↦ inl (into x old)
          | inr new ↦ inr (subst (λ (xs : List Mention). IsMentioned xs x b) joined new)
        ]
      ];
    }

-- ---- one of two lists

one-of-append : (x : ℕ) (xs ys : List ℕ) → IsOneOf x (xs ++ ys) → IsOneOf x xs ⊎ IsOneOf x ys
one-of-append x [] ys is = inr is
one-of-append x (k ∷ xs) ys is = elim is [
  | inl same ↦ inl (inl same)
  | inr more ↦ elim (one-of-append x xs ys more) [ inl left ↦ inl (inr left) | inr right ↦ inr right ]
]

one-of-left : (x : ℕ) (xs ys : List ℕ) → IsOneOf x xs → IsOneOf x (xs ++ ys)
one-of-left x [] ys is = absurd is
one-of-left x (k ∷ xs) ys is = elim is [ inl same ↦ inl same | inr more ↦ inr (one-of-left x xs ys more) ]

one-of-right : (x : ℕ) (xs ys : List ℕ) → IsOneOf x ys → IsOneOf x (xs ++ ys)
one-of-right x [] ys is = is
one-of-right x (k ∷ xs) ys is = inr (one-of-right x xs ys is)

-- first the hashes of one list, and then those of another
pub but-after : (t hs u ks : List ℕ) (b : ℕ) (ms : List Mention) (d e : Stored) (one : HaveListedBut t hs b ms d) → HaveListedBut u ks b (one.added ++ ms) e → HaveListedBut (t ++ u) (hs ++ ks) b ms e
but-after t hs u ks b ms d e one two =
    let joined : two.added ++ (one.added ++ ms) ≡ (two.added ++ one.added) ++ ms = sym (append_assoc two.added one.added ms) in
    record {
      added = two.added ++ one.added;
      chains_are = subst (λ (xs : List Mention). AreChainsOf xs e) joined two.chains_are;
      mentioned = λ x is. elim (one-of-append x hs ks is) [
        | inl first ↦ elim (one.mentioned x first) [
          | inl old ↦ inl (one-of-left x t u old)
          | inr new ↦ inr (subst (λ (xs : List Mention). IsMentioned xs x b) joined (is_mentioned-more two.added (one.added ++ ms) x b new))
        ]
        | inr second ↦ elim (two.mentioned x second) [
          | inl old ↦ inl (one-of-right x t u old)
          | inr new ↦ inr (subst (λ (xs : List Mention). IsMentioned xs x b) joined new)
        ]
      ];
    }

-- ---- lines that are alike

all-mentioned : (ms : List Mention) (b : ℕ) (hs : List ℕ) → ((h : ℕ) → IsOneOf h hs → IsMentioned ms h b) → AreMentioned ms b hs
all-mentioned ms b [] f = tt
all-mentioned ms b (h ∷ hs) f = (f h (inl refl), all-mentioned ms b hs (λ x is. f x (inr is)))

-- the hashes of a line whose keys are the words of its parts
abbrev pub words_hashed : Scope → LocatedLine → List ℕ
words_hashed s l = map hash_of (words_of_parts s (text_of_line l) (word_parts l.class))

-- the hash of what a line says, if that is listed
abbrev pub text_hashed : Scope → LocatedLine → List ℕ
text_hashed s l = map hash_of (listed s.lines (text_key (first_text l.bytes) ∷ []))

only-words : (s : Scope) (l : LocatedLine) → is_unread_located l ≡ false → keys_in s (text_of_line l) l.class ≡ words_of_parts s (text_of_line l) (word_parts l.class) → hashes_of s l ≡ text_hashed s l ++ words_hashed s l
only-words s l read keys =
    let text = listed s.lines (text_key (first_text l.bytes) ∷ []) in
    ap (λ (u : Bool). map hash_of (text ++ (unread_key u ++ keys_in s (text_of_line l) l.class))) read
    ∙ (ap (λ (ks : List (List ℕ)). map hash_of (text ++ ks)) keys ∙ map-append hash_of text (words_of_parts s (text_of_line l) (word_parts l.class)))

-- hashes that are listed whatever is there
abbrev pub but-all : (hs : List ℕ) (b : ℕ) (ms : List Mention) (c : Stored) → HaveListed hs b ms c → HaveListedBut [] hs b ms c
but-all hs b ms c h = record { added = h.added; chains_are = h.chains_are; mentioned = λ x is. inr (mentioned-one (h.added ++ ms) b x hs h.mentioned is) }

-- a line takes the place of one that is alike, once what it says and its words are listed
pub alike-exchanged : (s : Scope) (k l : LocatedLine) (b : ℕ) (kept : Bool) (ms : List Mention) (c : Stored) → AreAlike k.class l.class → HaveListedBut (words_hashed s k) (text_hashed s l ++ words_hashed s l) b ms c → HaveExchanged s k l b kept ms c
alike-exchanged s k l b kept ms c alike h = record {
  added = h.added;
  chains_are = h.chains_are;
  takes_place = λ is. record {
    mentioned = λ there.
        let old = subst (AreMentioned (h.added ++ ms) b) (only-words s k (alike.old_read (text_of_line k)) (alike.old_keys s (text_of_line k))) there in
        subst (AreMentioned (h.added ++ ms) b) (sym (only-words s l (alike.new_read (text_of_line l)) (alike.new_keys s (text_of_line l))))
        (all-mentioned (h.added ++ ms) b (text_hashed s l ++ words_hashed s l) (λ x is. elim (h.mentioned x is) [
          | inl was ↦ mentioned-one (h.added ++ ms) b x (text_hashed s k ++ words_hashed s k) old (one-of-right x (text_hashed s k) (words_hashed s k) was)
          | inr new ↦ new
        ]));
    unread_is = alike.old_read (text_of_line k) ∙ sym (alike.new_read (text_of_line l));
    context_is = alike.context_is;
  };
}
