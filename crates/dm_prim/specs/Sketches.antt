-- Sketches of paths: bits that are drawn by a hash of a path's names (a Bloom filter with one hash).
use Rattle.std.specs.Prelude.{◌≡◌, ◌≢◌, ℕ, ◌%◌, List, [], Contains}
use Rattle.std.specs.List.{fold}
use Rattle.std.specs.Int.{bit_at}
use Rattle.std.specs.Hash.DefaultHasher.{initial, write, finish}
use Rattle.dm_tree.specs.Paths.{Path, Under}
use Rattle.dm_prim.specs.declared.sketch.Sketch.{Sketch}

-- the bit of a path: its names hashed one after the other
abbrev pub bit_of : Path → ℕ
bit_of names = finish (fold write initial names) % 128

-- each bit that is set stays set
abbrev pub Keeps : ℕ → ℕ → Type 0
Keeps old new = (i : ℕ) → bit_at old i ≡ 1 → bit_at new i ≡ 1

-- the bits of the path and of each directory above it are set
abbrev pub HasLeading : Path → ℕ → Type 0
HasLeading f bits = (a : Path) → a ≢ [] → Under f a → bit_at bits (bit_of a) ≡ 1

-- the sketch has the bits of these paths, none of which is the root
pub record Covers (paths : List Path) (s : Sketch) : Type 0 where
  pub below_root : (f : Path) → Contains paths f → f ≢ []
  pub whole : (f : Path) → Contains paths f → bit_at s.whole (bit_of f) ≡ 1
  pub leading : (f : Path) → Contains paths f → HasLeading f s.leading

-- the sketch has this path's bits more
pub record GrowsBy (f : Path) (s t : Sketch) : Type 0 where
  pub below_root : f ≢ []
  pub keeps_whole : Keeps s.whole t.whole
  pub keeps_leading : Keeps s.leading t.leading
  pub whole : bit_at t.whole (bit_of f) ≡ 1
  pub leading : HasLeading f t.leading
