-- That the checksum by lanes tells what has changed.
use Rattle.std.specs.Prelude.{◌≡◌, ◌≢◌, ◌<◌, ◌*◌, ℕ, List, length, slice_index}
use Rattle.dm_journal.specs.Lanes.{word_at, lanes}

-- each is a byte
abbrev pub AreBytes : List ℕ → Type 0
AreBytes bytes = (i : ℕ) → slice_index bytes i < 256

-- two texts of one length that differ in one word of 8 bytes, and nowhere else
pub record DifferInOneWord (a b : List ℕ) : Type 0 where
  pub long : length a ≡ length b
  pub word : ℕ
  pub differs : word_at a (8 * word) ≢ word_at b (8 * word)
  pub elsewhere : (i : ℕ) → i ≢ word → word_at a (8 * i) ≡ word_at b (8 * i)

-- texts that differ in one word have different lanes, whatever they follow on
abbrev pub ChangedWordsAreTold : Type 0
ChangedWordsAreTold = (link a b : List ℕ) → AreBytes a → AreBytes b → DifferInOneWord a b → lanes link a ≢ lanes link b

-- a text that follows on another link has other lanes
abbrev pub OtherLinksAreTold : Type 0
OtherLinksAreTold = (a b text : List ℕ) → AreBytes a → AreBytes b → length a ≡ 32 → length b ≡ 32 → a ≢ b → lanes a text ≢ lanes b text
