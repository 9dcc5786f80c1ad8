-- An index that is kept over lines that are exchanged.
use Rattle.std.proofs.Common.{◌≡◌, refl, sym, subst, arith, ℕ, List, ◌++◌, Bool, true, false, Option, Some, None, Result, Ok, Err, if◌then◌else◌}
use Rattle.std.specs.Prelude.{IfSome, OnOk, slice_get}
use Rattle.std.specs.Result.{result_ok}
use Rattle.mk_class.specs.Contexts.{Context, start}
use Rattle.mk_tree.specs.LocatedLines.{LocatedLine}
use Rattle.mk_tree.specs.UnreadPrefixes.{IsEndOf}
use Rattle.mk_tree.specs.declared.end.DocEnd.{DocEnd}
use Rattle.mk_patch.specs.Moves.{exchanged}
use Rattle.mk_index.specs.Blocks.{AreBlocks}
use Rattle.mk_index.specs.Chains.{AreChainsOf, Mention, Stored}
use Rattle.mk_index.specs.Effects.{IsKnownFor}
use Rattle.mk_index.specs.Exchanges.{HaveExchanged, IsHeld, IsKept, TakesPlace}
use Rattle.mk_index.specs.Indexes as indexes
use Rattle.mk_index.specs.Indexes.{IsIndexOf}
use Rattle.mk_index.specs.declared.blocks.Block.{Block}
use Rattle.mk_index.specs.declared.keys.Scope.{Scope}
use Rattle.mk_index.proofs.on_blocks.RefreshLemmas.{blocks-more}
use Rattle.mk_index.proofs.on_blocks.RisingLemmas.{one-holder}
use Rattle.mk_index.proofs.on_effects.SameLemmas.{blocks-same, end-same-of}

-- Chains and blocks are an index of some lines, and also of others, which end alike.
pub record Keeping (s : Scope) (doc now : List LocatedLine) (chains : Stored) (bs : List Block) (end : Context) : Type 0 where
  pub mentions : List Mention
  pub chains_are : AreChainsOf mentions chains
  pub before_is : AreBlocks s mentions 0 (Some start) doc bs end
  pub now_is : AreBlocks s mentions 0 (Some start) now bs end
  pub end_is : (e : DocEnd) → IsEndOf doc e → IsEndOf now e

-- one line more is exchanged
pub keeping-next : (s : Scope) (doc now : List LocatedLine) (chains new : Stored) (bs : List Block) (end : Context) (at n : ℕ) (k l : LocatedLine) → Keeping s doc now chains bs end → Some k ≡ slice_get now at → IsHeld bs at n → ((ms : List Mention) → AreChainsOf ms chains → HaveExchanged s k l n true ms new) → Keeping s doc (exchanged at l now) new bs end
keeping-next s doc now chains new bs end at n k l w there held listed =
    let x = listed w.mentions w.chains_are in
    let place = x.takes_place refl in
    record {
      mentions = x.added ++ w.mentions;
      chains_are = x.chains_are;
      before_is = blocks-more s x.added w.mentions 0 (Some start) doc bs end w.before_is;
      now_is = blocks-same s (x.added ++ w.mentions) 0 (Some start) now bs end at k l there
          (λ m number e other. let same = one-holder bs at m n other held in let here : n ≡ number = omega (arith, e, same) in subst (λ (i : ℕ). TakesPlace s (x.added ++ w.mentions) i k l) here place)
          (blocks-more s x.added w.mentions 0 (Some start) now bs end w.now_is);
      end_is = λ e is. end-same-of now at k l e there place.context_is place.unread_is (w.end_is e is);
    }

-- all lines are exchanged
pub kept-all : (s : Scope) (doc now after : List LocatedLine) (chains : Stored) (bs : List Block) (end : Context) → now ≡ after → Keeping s doc now chains bs end → IsKept doc after true (record { scope = s; chains = chains; blocks = bs; end = end })
kept-all s doc now after chains bs end same w = rw (sym same) (record {
  index_is = record { mentions = w.mentions; chains_are = w.chains_are; blocks_are = w.now_is };
  end_is = λ is. w.end_is;
})

-- it is given up, and the index is one of the lines as they are
pub kept-none : (s : Scope) (doc now after : List LocatedLine) (chains : Stored) (bs : List Block) (end : Context) → Keeping s doc now chains bs end → IsKept doc after false (record { scope = s; chains = chains; blocks = bs; end = end })
kept-none s doc now after chains bs end w = record {
  index_is = record { mentions = w.mentions; chains_are = w.chains_are; blocks_are = w.before_is };
  end_is = λ is. absurd (cc);
}

-- the same after more was listed
pub keeping-more : (s : Scope) (doc now : List LocatedLine) (chains new : Stored) (bs : List Block) (end : Context) (n : ℕ) (k l : LocatedLine) (kept : Bool) → Keeping s doc now chains bs end → ((ms : List Mention) → AreChainsOf ms chains → HaveExchanged s k l n kept ms new) → Keeping s doc now new bs end
keeping-more s doc now chains new bs end n k l kept w listed =
    let x = listed w.mentions w.chains_are in
    record {
      mentions = x.added ++ w.mentions;
      chains_are = x.chains_are;
      before_is = blocks-more s x.added w.mentions 0 (Some start) doc bs end w.before_is;
      now_is = blocks-more s x.added w.mentions 0 (Some start) now bs end w.now_is;
      end_is = w.end_is;
    }

-- where the lines end stays known, if it was
end-kept : (before after : List LocatedLine) (o : Option DocEnd) → ((e : DocEnd) → IsEndOf before e → IsEndOf after e) → IfSome o (IsEndOf before) → IfSome o (IsEndOf after)
end-kept before after None f h = tt
end-kept before after (Some e) f h = f e h

-- what is known, by an index that is kept
pub kept-known : (before after : List LocatedLine) (kept : Bool) (index : indexes.Stored) (end : Option DocEnd) → kept ≡ true → IsKept before after kept index → IfSome end (IsEndOf before) → IsKnownFor after (record { index = Some index; end = end })
kept-known before after kept index end is h e = record {
  index_is = subst (λ (k : Bool). IsIndexOf (if k then after else before) index) is h.index_is;
  end_is = end-kept before after end (h.end_is is) e;
}

-- what holds of a call that answers a value
pub value-ok : {X E : Type 0} (P : Type 0) (r : Result X E) (x : X) → OnOk r P → result_ok r ≡ Some x → P
value-ok P (Ok y) x h e = h
value-ok P (Err y) x h e = absurd (cc)
