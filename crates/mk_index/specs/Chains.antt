-- The chains of an index: which words stand in which block of the document's lines. Each word has a
-- hash, and each hash a bucket. The entries of one bucket are a chain: each entry says which entry
-- before it is the last of the same bucket.
-- Told in docs/ARCHITECTURE.md, "The index of a session".
use Rattle.std.specs.Prelude.{◌≡◌, ◌<◌, ◌⊎◌, ℕ, suc, ◌+◌, ◌*◌, ◌/◌, ◌%◌, ◌==◌, if◌then◌else◌, List, [], ◌∷◌, ◌++◌, length, map, reverse, get_or}
use Rattle.mk_index.specs.declared.chains.Entry.{Entry}

-- ---- hashes

-- the hash of some bytes that stand after others with this hash
abbrev pub hash_from : ℕ → List ℕ → ℕ
hash_from h [] = h
hash_from h (b ∷ bs) = hash_from ((h * 16777619 + b) % 4294967296) bs

-- the hash of a word
abbrev pub hash_of : (word : List ℕ) → ℕ
hash_of word = hash_from 0 word

-- ---- mentions

-- a word of this hash stands in the block of this number
pub record Mention : Type 0 where
  pub hash : ℕ
  pub block : ℕ

-- one of some mentions is that of this hash and of this block
abbrev pub IsMentioned : List Mention → (hash block : ℕ) → Type 0
IsMentioned [] h b = ⊥
IsMentioned (m ∷ ms) h b = ((m.hash ≡ h) × (m.block ≡ b)) ⊎ IsMentioned ms h b

-- each of some hashes is mentioned, with this block
abbrev pub AreMentioned : List Mention → (block : ℕ) → (hashes : List ℕ) → Type 0
AreMentioned ms b [] = Unit {0}
AreMentioned ms b (h ∷ hs) = IsMentioned ms h b × AreMentioned ms b hs

-- ---- chains

-- the bucket of a hash, among this number of buckets
abbrev pub bucket_of : (count hash : ℕ) → ℕ
bucket_of count h = h * 2654435769 % 4294967296 * count / 4294967296

-- the buckets of some mentions, among this number of buckets
abbrev pub buckets_of : (count : ℕ) → List Mention → List ℕ
buckets_of count ms = map (λ m. bucket_of count m.hash) ms

-- Which of some buckets, given last first, is the last that is this one: its number from 1; 0 if
-- none is.
abbrev pub last_in : (bucket : ℕ) → (last_first : List ℕ) → ℕ
last_in b [] = 0
last_in b (k ∷ ks) = if k == b then suc (length ks) else last_in b ks

-- the entry of a mention, after those before it, which are given last first
abbrev pub entry_after : (count : ℕ) → Mention → (last_first : List Mention) → Entry
entry_after count m rest = record {
  hash = m.hash;
  block = m.block;
  before = last_in (bucket_of count m.hash) (buckets_of count rest);
}

-- the entries of some mentions; both are given last first
abbrev pub entries_of : (count : ℕ) → (last_first : List Mention) → List Entry
entries_of count [] = []
entries_of count (m ∷ rest) = entry_after count m rest ∷ entries_of count rest

-- what chains store: the last entry of each bucket, by its number from 1, and the entries
pub record Stored : Type 0 where
  pub heads : List ℕ
  pub entries : List Entry

-- the chains of some mentions, given last first
pub record AreChainsOf (last_first : List Mention) (chains : Stored) : Type 0 where
  pub heads_are : (b : ℕ) → b < length chains.heads
      → get_or chains.heads b 0 ≡ last_in b (buckets_of (length chains.heads) last_first)
  pub entries_are : chains.entries ≡ reverse (entries_of (length chains.heads) last_first)

-- Chains that had some mentions, and got more: each of these hashes is mentioned now, with this
-- block.
pub record HaveListed (hashes : List ℕ) (block : ℕ) (before : List Mention) (chains : Stored)
    : Type 0 where
  pub added : List Mention
  pub chains_are : AreChainsOf (added ++ before) chains
  pub mentioned : AreMentioned (added ++ before) block hashes
