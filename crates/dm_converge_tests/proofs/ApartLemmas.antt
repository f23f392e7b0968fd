-- Repositories of the same names with different trees.
use Rattle.std.proofs.Common.{◌≡◌, ◌+◌, ◌<◌, ◌≢◌, ◌⊎◌, inl, inr, rules, ℕ, zero, suc, List, [], ◌∷◌, Some, slice_get, length, refl, ap, ap₂, sym, ◌∙◌, arith}
use Rattle.dm_tree.specs.Trees as trees
use Rattle.dm_named.specs.Patches.{Patch}
use Rattle.dm_bundle.specs.Patches.{SameMembers, infos_of}
use Rattle.dm_repo.specs.Repositories.{IsTreeOf}
use Rattle.dm_converge.specs.Pools.{NamesDecideTree}
use Rattle.dm_converge.proofs.Converging.{same_trees}

-- the name at a place is that of the patch there
pub name_at : (xs : List Patch) (i : ℕ) (x : Patch) → slice_get xs i ≡ Some x → slice_get (infos_of xs) i ≡ Some x.info
name_at [] i x e = absurd (cc e)
name_at (y ∷ ys) zero x e = let same : y ≡ x = cc in ap (λ (z : Patch). Some z.info) same
name_at (y ∷ ys) (suc i) x e = name_at ys i x e

-- below this place the two have the same names
abbrev pub AgreeBelow : ℕ → List Patch → List Patch → Type 0
AgreeBelow n xs ys = (i : ℕ) → i < n → slice_get (infos_of xs) i ≡ slice_get (infos_of ys) i

pub agree_more : (n : ℕ) (xs ys : List Patch) (x y : Patch) → AgreeBelow n xs ys → slice_get xs n ≡ Some x → slice_get ys n ≡ Some y → x.info ≡ y.info → AgreeBelow (n + 1) xs ys
agree_more n xs ys x y so_far a b e = λ i l. elim (below_or i n l) [
  | inl k ↦ so_far i k
  | inr k ↦ rw k (name_at xs n x a ∙ (ap (λ z. Some z) e ∙ sym (name_at ys n y b)))
]
  where
    below_or : (i n : ℕ) → i < n + 1 → (i < n) ⊎ (i ≡ n)
    below_or i n l = search rules

pub agree_all : (xs ys : List Patch) → length xs ≡ length ys → AgreeBelow (length xs) xs ys → infos_of xs ≡ infos_of ys
agree_all [] [] l a = refl
agree_all [] (y ∷ ys) l a = absurd (omega (arith, l))
agree_all (x ∷ xs) [] l a = absurd (omega (arith, l))
agree_all (x ∷ xs) (y ∷ ys) l a =
    let first : Some x.info ≡ Some y.info = a 0 (omega arith) in
    let head : x.info ≡ y.info = cc (first) in
    ap₂ (λ i is. i ∷ is) head (agree_all xs ys (omega (arith, l)) (λ i k. a (suc i) (omega (arith, k))))

pub same_members : (xs ys : List Patch) → infos_of xs ≡ infos_of ys → SameMembers (infos_of xs) (infos_of ys)
same_members xs ys e = rw e (λ i. ((λ c. c), (λ c. c)))

-- their names don't decide the tree
pub undecided : (xs ys : List Patch) (s t : trees.Tree) → infos_of xs ≡ infos_of ys → IsTreeOf xs s → IsTreeOf ys t → s ≢ t → NamesDecideTree xs ys → ⊥
undecided xs ys s t e is_s is_t apart law = apart (same_trees xs ys (law (same_members xs ys e)) s t is_s is_t)
