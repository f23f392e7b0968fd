-- Patches with their places.
use Rattle.std.proofs.Common.{◌≡◌, ℕ, ◌+◌, List, [], ◌∷◌, refl, sym, ap, ◌∙◌}
use Rattle.dm_prim.specs.InTurn.{InTurn, done, step}
use Rattle.dm_prim.specs.Primitives.{LawfulMap}
use Rattle.dm_named.specs.Patches.{Patch}
use Rattle.dm_repo.specs.Squares.{Placed, placed_from, patches, PlacedCommutes, PlacedMerges}
use Rattle.dm_repo.specs.Folds.{PatchLeads}
use Rattle.dm_repo.proofs.Squares.{same_placed, named_back, named_runs, named_one, merges_one, merges_runs}

pub placed_back : (x y y' x' : Placed) → PlacedCommutes x y y' x' → PlacedCommutes y' x' x y
placed_back x y y' x' c = record { x_place = sym c.y_place; y_place = sym c.x_place; commutes = named_back x.1 y.1 y'.1 x'.1 c.commutes }

abbrev pub PlacedLeads : Placed → LawfulMap → LawfulMap → Type 0
PlacedLeads x s t = PatchLeads x.1 s t

pub placed_runs : (x y y' x' : Placed) → PlacedCommutes x y y' x' → (s u z : LawfulMap) → PlacedLeads x s u → PlacedLeads y u z → (m : LawfulMap) × PlacedLeads y' s m × PlacedLeads x' m z
placed_runs x y y' x' c s u z h k = named_runs x.1 y.1 y'.1 x'.1 c.commutes s u z h k

pub placed_one : (x y y1 x1 y2 x2 : Placed) → PlacedCommutes x y y1 x1 → PlacedCommutes x y y2 x2 → (y1 ≡ y2) × (x1 ≡ x2)
placed_one x y y1 x1 y2 x2 c d =
    let e = named_one x.1 y.1 y1.1 x1.1 y2.1 x2.1 c.commutes d.commutes in
    (same_placed y1 y2 (c.y_place ∙ sym d.y_place) e.0, same_placed x1 x2 (c.x_place ∙ sym d.x_place) e.1)

pub merged_one : (r n n1 r1 n2 r2 : Placed) → PlacedMerges r n n1 r1 → PlacedMerges r n n2 r2 → (n1 ≡ n2) × (r1 ≡ r2)
merged_one r n n1 r1 n2 r2 c d =
    let e = merges_one r.1 n.1 n1.1 r1.1 n2.1 r2.1 c.merges d.merges in
    (same_placed n1 n2 (c.n_place ∙ sym d.n_place) e.0, same_placed r1 r2 (c.r_place ∙ sym d.r_place) e.1)

pub merged_runs : (r n n' r' : Placed) → PlacedMerges r n n' r' → (s b a : LawfulMap) → PlacedLeads r s b → PlacedLeads n s a → (z : LawfulMap) × PlacedLeads n' b z × PlacedLeads r' a z
merged_runs r n n' r' m s b a h k = merges_runs r.1 n.1 n'.1 r'.1 m.merges s b a h k

pub patches_placed : (n : ℕ) (xs : List Patch) → patches (placed_from n xs) ≡ xs
patches_placed n [] = refl
patches_placed n (x ∷ xs) = ap (λ l. x ∷ l) (patches_placed (n + 1) xs)

-- with and without places
pub without : {xs : List Placed} {s t : LawfulMap} → InTurn PlacedLeads xs s t → InTurn PatchLeads (patches xs) s t
without done = done
without (step h r) = step h (without r)

pub within : (xs : List Placed) {s t : LawfulMap} → InTurn PatchLeads (patches xs) s t → InTurn PlacedLeads xs s t
within [] done = done
within (x ∷ xs) (step h r) = step h (within xs r)
