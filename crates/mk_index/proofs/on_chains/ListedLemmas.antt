-- What chains have listed.
use Rattle.std.proofs.Common.{◌≡◌, refl, sym, subst, ℕ, List, [], ◌∷◌, ◌++◌, append_assoc, inl}
use Rattle.mk_index.specs.Chains.{AreChainsOf, AreMentioned, HaveListed, Mention, Stored}
use Rattle.mk_index.proofs.on_chains.KeyLemmas.{mentioned-both, mentioned-more}

-- ---- chains that get more

-- some chains come from others by the listing of these hashes
abbrev pub Lists : (hashes : List ℕ) → (block : ℕ) → (before after : Stored) → Type 0
Lists hs b c d = (ms : List Mention) → AreChainsOf ms c → HaveListed hs b ms d

pub listed-new : (ms : List Mention) (c : Stored) (h b : ℕ) → AreChainsOf (record { hash = h; block = b } ∷ ms) c → HaveListed (h ∷ []) b ms c
listed-new ms c h b k = record { added = record { hash = h; block = b } ∷ []; chains_are = k; mentioned = (inl (refl, refl), tt) }

-- first some hashes, and then others
pub listed-after : (hs ks : List ℕ) (b : ℕ) (ms : List Mention) (d e : Stored) (s : HaveListed hs b ms d) → HaveListed ks b (s.added ++ ms) e → HaveListed (hs ++ ks) b ms e
listed-after hs ks b ms d e s t =
    let all : t.added ++ (s.added ++ ms) ≡ (t.added ++ s.added) ++ ms = sym (append_assoc t.added s.added ms) in
    record {
      added = t.added ++ s.added;
      chains_are = subst (λ xs. AreChainsOf xs e) all t.chains_are;
      mentioned = subst (λ xs. AreMentioned xs b (hs ++ ks)) all
          (mentioned-both (t.added ++ (s.added ++ ms)) b hs ks (mentioned-more t.added (s.added ++ ms) b hs s.mentioned) t.mentioned);
    }

pub lists-both : (hs ks : List ℕ) (b : ℕ) (c d e : Stored) → Lists hs b c d → Lists ks b d e → Lists (hs ++ ks) b c e
lists-both hs ks b c d e f g = λ ms h. let s = f ms h in listed-after hs ks b ms d e s (g (s.added ++ ms) s.chains_are)

-- these hashes are all listed once those ahead are
abbrev pub IsLeft : (all ahead : List ℕ) → (block : ℕ) → (before now : Stored) → Type 0
IsLeft all ahead b c d = (e : Stored) → Lists ahead b d e → Lists all b c e
