-- How two patch infos compare, and what one feeds a hasher: all four parts in order.
use Rattle.std.specs.Prelude.{ℕ, Bool, ◌≡◌, ◌==◌, ◌↔◌, List, ◌++◌, IsTrue}
use Rattle.std.specs.Ordering.{nat_cmp, on, then_cmp, eq_of_both}
use Rattle.std.specs.declared.cmp.Ordering.{Ordering}
use Rattle.std.specs.declared.cmp.Ordering.TheVariants.{Equal}
use Rattle.std.specs.Cmp.Lexicographic.{slice_cmp, pointwise}
use Rattle.std.specs.Hash.{HashWrites, slice, u8}
use Rattle.dm_info.specs.PatchInfo.{PatchInfo}

-- whether two texts have the same bytes
abbrev pub text_eq : List ℕ → List ℕ → Bool
text_eq = pointwise ◌==◌

-- the order of two texts: by their bytes, and a text before one that goes on
abbrev pub text_cmp : List ℕ → List ℕ → Ordering
text_cmp = slice_cmp nat_cmp

-- whether the name, the author, the date and each line of the log are the same
abbrev pub info_eq : PatchInfo → PatchInfo → Bool
info_eq = eq_of_both (eq_of_both (eq_of_both (on (λ i. i.name) text_eq) (on (λ i. i.author) text_eq)) (on (λ i. i.date) text_eq)) (on (λ i. i.log) (pointwise text_eq))

-- by name, then author, then date, then the log line by line
abbrev pub info_cmp : PatchInfo → PatchInfo → Ordering
info_cmp = then_cmp (then_cmp (then_cmp (on (λ i. i.name) text_cmp) (on (λ i. i.author) text_cmp)) (on (λ i. i.date) text_cmp)) (on (λ i. i.log) (slice_cmp text_cmp))

-- what a hasher is fed: the parts in the same order, each as a slice feeds it
abbrev pub info_writes : PatchInfo → HashWrites
info_writes i = slice u8 i.name ++ slice u8 i.author ++ slice u8 i.date ++ slice (slice u8) i.log

-- Two patch infos are equal, and rank the same, exactly where all four parts are the same.
abbrev pub ComparesAllParts : Type 0
ComparesAllParts = (x y : PatchInfo) → (IsTrue (info_eq x y) ↔ (x ≡ y)) × ((info_cmp x y ≡ Equal) ↔ (x ≡ y))
