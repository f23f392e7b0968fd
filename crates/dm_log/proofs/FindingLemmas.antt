-- What a word names among the patches so far.
use Rattle.std.proofs.Common.{◌≡◌, ◌↔◌, ◌<◌, ◌≤◌, ◌+◌, ℕ, zero, suc, Bool, true, false, List, [], ◌∷◌, length, slice_get, Some, inl, inr, refl, arith}
use Rattle.std.proofs.lemmas.Bool.{cases_lt}
use Rattle.dm_info.specs.PatchInfo.{PatchInfo}
use Rattle.dm_named.specs.Patches.{Patch}
use Rattle.dm_bundle.specs.Patches.{infos_of}
use Rattle.dm_log.specs.Finding.{Finds, NamesAt, NamesHere, found_with}
use Rattle.dm_log.specs.declared.finding.Found.{Found}
use Rattle.dm_log.specs.declared.finding.Found.TheVariants.{Nothing, One, Several}

-- this was found among the first k
abbrev pub FindsSoFar : List PatchInfo → List ℕ → ℕ → Found → Type 0
FindsSoFar infos word k Nothing = (h : ℕ) → h < k → NamesAt infos word h → ⊥
FindsSoFar infos word k (One j) = NamesAt infos word j × (j < k) × ((h : ℕ) → h < k → NamesAt infos word h → h ≡ j)
FindsSoFar infos word k (Several i j) = NamesAt infos word i × NamesAt infos word j × (i < j) × (j < k) × ((h : ℕ) → h < j → NamesAt infos word h → h ≡ i)

pub info_there : (xs : List Patch) (k : ℕ) (x : Patch) → slice_get xs k ≡ Some x → slice_get (infos_of xs) k ≡ Some x.info
info_there [] k x e = absurd (cc)
info_there (y ∷ ys) zero x e = let f : y ≡ x = cc in rw f refl
info_there (y ∷ ys) (suc k) x e = info_there ys k x e

below : {X : Type 0} (xs : List X) (k : ℕ) (x : X) → slice_get xs k ≡ Some x → k < length xs
below [] k x e = absurd (cc)
below (y ∷ ys) zero x e = omega arith
below (y ∷ ys) (suc k) x e = let i = below ys k x e in omega (arith, i)

one_there : {X : Type 0} (xs : List X) (k : ℕ) (x y : X) → slice_get xs k ≡ Some x → slice_get xs k ≡ Some y → x ≡ y
one_there xs k x y e f = cc

module _ (infos : List PatchInfo) (word : List ℕ) (k : ℕ) (i : PatchInfo) (at : slice_get infos k ≡ Some i) where
  -- the next place isn't named, or is the one
  module _ (unnamed : NamesHere word (k + 1) i → ⊥) where
    not_here : NamesAt infos word k → ⊥
    not_here n = unnamed (rw (one_there infos k n.0 i n.1 at) at n.2)

    only_before : (h : ℕ) → h < k + 1 → NamesAt infos word h → h < k
    only_before h b n = elim (cases_lt h k) [ inl l ↦ l | inr l ↦ let e : h ≡ k = omega (arith, b, l) in absurd (not_here (rw e at n)) ]

  step : (found : Found) (b : Bool) → (b ≡ true) ↔ NamesHere word (k + 1) i → FindsSoFar infos word k found → FindsSoFar infos word (k + 1) (found_with found k b)
  step Nothing false n f = λ h b m. f h (only_before (λ x. absurd (false_true (n.1 x))) h b m) m
    where
      false_true : false ≡ true → ⊥
      false_true e = absurd (cc)
  step (One j) false n (a, l, f) = (a, omega (arith, l), λ h b m. f h (only_before (λ x. absurd (false_true (n.1 x))) h b m) m)
    where
      false_true : false ≡ true → ⊥
      false_true e = absurd (cc)
  step (Several p j) false n (a, d, o, l, f) = (a, d, o, omega (arith, l), f)
  step Nothing true n f = ((i, at, n.0 refl), omega arith, λ h b m. elim (cases_lt h k) [ inl l ↦ absurd (f h l m) | inr l ↦ omega (arith, b, l) ])
  step (One j) true n (a, l, f) = (a, (i, at, n.0 refl), l, omega arith, f)
  step (Several p j) true n (a, d, o, l, f) = (a, d, o, omega (arith, l), f)

pub found_next : (patches : List Patch) (word : List ℕ) (k : ℕ) (x : Patch) (found : Found) (b : Bool) → slice_get patches k ≡ Some x → (b ≡ true) ↔ NamesHere word (k + 1) x.info → FindsSoFar (infos_of patches) word k found →
    FindsSoFar (infos_of patches) word (k + 1) (found_with found k b)
found_next patches word k x found b e n f = step (infos_of patches) word k x.info (info_there patches k x e) found b n f

pub found_all : (infos : List PatchInfo) (word : List ℕ) (k : ℕ) (found : Found) → length infos ≤ k → FindsSoFar infos word k found → Finds infos word found
found_all infos word k Nothing l f = λ h n. let b = below infos h n.0 n.1 in f h (omega (arith, l, b)) n
found_all infos word k (One j) l (a, m, f) = (a, λ h n. let b = below infos h n.0 n.1 in f h (omega (arith, l, b)) n)
found_all infos word k (Several i j) l (a, d, o, m, f) = (a, d, o, f)

pub found_nothing : (infos : List PatchInfo) (word : List ℕ) → FindsSoFar infos word 0 Nothing
found_nothing infos word h b n = absurd (omega (arith, b))
