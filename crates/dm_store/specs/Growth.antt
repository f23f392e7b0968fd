-- How much longer a journal has become since its last checkpoint.
use Rattle.std.specs.Prelude.{◌≡◌, ◌⊎◌, ◌<◌, ◌^◌, ◌-◌, ◌*◌, ℕ, List, [], ◌∷◌, length, min}
use Rattle.std.specs.List.{sum_by}
use Rattle.dm_store.specs.Entries.{whole_entry, counted_entry}
use Rattle.dm_store.specs.declared.growth.Growth.{Growth}

-- the entry is that of a whole repository
abbrev pub IsWhole : List ℕ → Type 0
IsWhole entry = ((text : List ℕ) × (entry ≡ whole_entry text)) ⊎ ((base : ℕ) × (text : List ℕ) × (base < 2 ^ 64) × (entry ≡ counted_entry base text))

-- the first of the entries is that of a whole repository, with so many bytes, and these are behind it; or it isn't, and these are all of them
abbrev pub StandBehind : List (List ℕ) → ℕ → List (List ℕ) → Type 0
StandBehind [] whole since = (whole ≡ 0) × (since ≡ [])
StandBehind (entry ∷ entries) whole since =
    (IsWhole entry × (whole ≡ length entry) × (since ≡ entries)) ⊎ ((IsWhole entry → ⊥) × (whole ≡ 0) × (since ≡ entry ∷ entries))

-- how many bytes these entries have
abbrev pub bytes_of : List (List ℕ) → ℕ
bytes_of entries = sum_by length entries

-- a number, or the greatest of 64 bits
abbrev pub capped : ℕ → ℕ
capped n = min n (2 ^ 64 - 1)

-- these are the bytes of the entry of a whole repository that the entries begin with, or 0, and the bytes and the number of those behind it
pub record IsGrowthOf (entries : List (List ℕ)) (growth : Growth) : Type 0 where
  pub since : List (List ℕ)
  pub behind : StandBehind entries growth.whole since
  pub few : growth.whole < 2 ^ 63
  pub bytes : growth.since ≡ capped (bytes_of since)
  pub number : growth.entries ≡ capped (length since)

-- behind the entry of a whole repository that they begin with, if they do, are more entries than so many, and than one for each so many of its bytes,
-- or more bytes than it has, and than 1 MiB
pub record AreMany (most each : ℕ) (entries : List (List ℕ)) : Type 0 where
  pub whole : ℕ
  pub since : List (List ℕ)
  pub behind : StandBehind entries whole since
  pub many : ((most < length since) × (whole < length since * each)) ⊎ ((whole < bytes_of since) × (2 ^ 20 < bytes_of since))
