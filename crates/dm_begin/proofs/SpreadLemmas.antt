-- What holds of primitives that are spread over names.
use Rattle.std.proofs.Common.{◌≡◌, ◌≢◌, ◌⊎◌, inl, ◌<◌, ◌≤◌, ◌-◌, ◌*◌, ℕ, zero, suc, List, [], ◌∷◌, ◌++◌, length, take, drop, refl, ap, ◌∙◌, arith}
use Rattle.std.proofs.lemmas.List.{length-drop, length-take-le, take-append-drop}
use Rattle.std.specs.List.{AllByRecursion, Contains}
use Rattle.std.proofs.lemmas.List.Elements.{Contains-append_right}
use Rattle.dm_info.specs.PatchInfo.{PatchInfo}
use Rattle.dm_prim.specs.InTurn.{InTurn, done, step}
use Rattle.dm_prim.specs.Primitives.{Prim, LawfulMap}
use Rattle.dm_named.specs.Kinds.{IsOf}
use Rattle.dm_named.specs.Patches.{Patch}
use Rattle.dm_named.specs.declared.limits.Kinds.TheVariants as these
use Rattle.dm_bundle.specs.Patches.{infos_of, AreAllOf}
use Rattle.dm_repo.specs.Folds.{LeadsShallowly, PatchLeadsShallowly}
use Rattle.dm_repo.specs.Repositories.{NamesEarlier}
use Rattle.dm_repo.proofs.Staircases.{runs_part}
use Rattle.dm_begin.specs.Beginnings.{IsChain, IsFilled, IsPacked, most_prims, prims_in}
use Rattle.dm_begin.specs.Spreading.{first_count, spread}

-- so many primitives fit into patches of so many names
abbrev pub Fit : List Prim → List PatchInfo → Type 0
Fit ps is = length ps ≤ length is * most_prims

-- the first patch takes what the later ones don't
pub fits_later : (i : PatchInfo) (is : List PatchInfo) (ps : List Prim) → Fit (drop (first_count (length ps) (length is)) ps) is
fits_later i is ps = let n = length-drop (first_count (length ps) (length is)) ps in omega (arith, n)

first_fits : (i : PatchInfo) (is : List PatchInfo) (ps : List Prim) → Fit ps (i ∷ is) → length (take (first_count (length ps) (length is)) ps) ≤ most_prims
first_fits i is ps fit =
    let n = length-take-le (first_count (length ps) (length is)) ps (omega arith) in
    omega (arith, n, fit)

pub spread_names : (deps is : List PatchInfo) (ps : List Prim) → infos_of (spread deps is ps) ≡ is
spread_names deps [] ps = refl
spread_names deps (i ∷ is) ps = ap (λ l. i ∷ l) (spread_names (i ∷ []) is (drop (first_count (length ps) (length is)) ps))

pub spread_chain : (deps is : List PatchInfo) (ps : List Prim) → IsChain deps (spread deps is ps)
spread_chain deps [] ps = tt
spread_chain deps (i ∷ is) ps = (refl, spread_chain (i ∷ []) is (drop (first_count (length ps) (length is)) ps))

pub spread_prims : (deps is : List PatchInfo) (ps : List Prim) → Fit ps is → prims_in (spread deps is ps) ≡ ps
spread_prims deps [] [] fit = refl
spread_prims deps [] (p ∷ ps) fit = absurd (omega (arith, fit))
spread_prims deps (i ∷ is) ps fit =
    let n = first_count (length ps) (length is) in
    ap (λ l. take n ps ++ l) (spread_prims (i ∷ []) is (drop n ps) (fits_later i is ps)) ∙ take-append-drop n ps

pub spread_few : (deps is : List PatchInfo) (ps : List Prim) → Fit ps is → AllByRecursion (λ x. length x.prims ≤ most_prims) (spread deps is ps)
spread_few deps [] ps fit = tt
spread_few deps (i ∷ is) ps fit = (first_fits i is ps fit, spread_few (i ∷ []) is (drop (first_count (length ps) (length is)) ps) (fits_later i is ps))

pub spread_length : (deps is : List PatchInfo) (ps : List Prim) → length (spread deps is ps) ≡ length is
spread_length deps [] ps = refl
spread_length deps (i ∷ is) ps = ap suc (spread_length (i ∷ []) is (drop (first_count (length ps) (length is)) ps))

-- where the primitives are as many as there may be, each patch is filled
filled_all : (deps is : List PatchInfo) (ps : List Prim) → length ps ≡ length is * most_prims → AllByRecursion IsFilled (spread deps is ps)
filled_all deps [] ps e = tt
filled_all deps (i ∷ is) ps e =
    let n : ℕ = first_count (length ps) (length is) in
    let l : length (take n ps) ≡ n = length-take-le n ps (omega arith) in
    let r : length (drop n ps) ≡ length ps - n = length-drop n ps in
    (inl (omega (arith, l, e)), filled_all (i ∷ []) is (drop n ps) (omega (arith, r, e)))

taken_some : (n : ℕ) (ps : List Prim) → take n ps ≢ [] → 0 < n
taken_some zero ps some = absurd (some refl)
taken_some (suc n) ps some = omega arith

pub spread_packed : (deps is : List PatchInfo) (ps : List Prim) → Fit ps is → IsPacked (spread deps is ps)
spread_packed deps [] ps fit = tt
spread_packed deps (i ∷ is) ps fit =
    let n : ℕ = first_count (length ps) (length is) in
    let r : length (drop n ps) ≡ length ps - n = length-drop n ps in
    (λ some. let l = taken_some n ps some in filled_all (i ∷ []) is (drop n ps) (omega (arith, r, l)), spread_packed (i ∷ []) is (drop n ps) (fits_later i is ps))

-- each dependency stands before the patch that names it
pub spread_earlier : (known deps is : List PatchInfo) (ps : List Prim) → ((d : PatchInfo) → Contains deps d → Contains known d) → NamesEarlier known (spread deps is ps)
spread_earlier known deps [] ps f = tt
spread_earlier known deps (i ∷ is) ps f = (
  f,
  spread_earlier (known ++ i ∷ []) (i ∷ []) is (drop (first_count (length ps) (length is)) ps)
      (λ d c. Contains-append_right known (i ∷ []) d c),
)

-- the patches lead where the primitives do
pub spread_leads : (deps is : List PatchInfo) (ps : List Prim) {s t : LawfulMap} → Fit ps is → InTurn LeadsShallowly ps s t → InTurn PatchLeadsShallowly (spread deps is ps) s t
spread_leads deps [] [] fit done = done
spread_leads deps [] (p ∷ ps) fit r = absurd (omega (arith, fit))
spread_leads deps (i ∷ is) ps fit r =
    go (runs_part (take (first_count (length ps) (length is)) ps) (rw (← take-append-drop (first_count (length ps) (length is)) ps) at r))
    (λ v q. spread_leads (i ∷ []) is (drop (first_count (length ps) (length is)) ps) {s = v} (fits_later i is ps) q)
  where
    go : {qs : List Prim} {xs : List Patch} {s t : LawfulMap} {x : Patch} → (u : LawfulMap) × InTurn LeadsShallowly x.prims s u × InTurn LeadsShallowly qs u t →
        ((v : LawfulMap) → InTurn LeadsShallowly qs v t → InTurn PatchLeadsShallowly xs v t) → InTurn PatchLeadsShallowly (x ∷ xs) s t
    go (u, h, q) f = step h (f u q)

-- the kinds of what is taken and of what is left
six_take : (n : ℕ) (ps : List Prim) → AllByRecursion (IsOf these.Six) ps → AllByRecursion (IsOf these.Six) (take n ps)
six_take zero ps a = tt
six_take (suc n) [] a = tt
six_take (suc n) (p ∷ ps) a = (a.0, six_take n ps a.1)

six_drop : (n : ℕ) (ps : List Prim) → AllByRecursion (IsOf these.Six) ps → AllByRecursion (IsOf these.Six) (drop n ps)
six_drop zero ps a = a
six_drop (suc n) [] a = tt
six_drop (suc n) (p ∷ ps) a = six_drop n ps a.1

pub spread_six : (deps is : List PatchInfo) (ps : List Prim) → AllByRecursion (IsOf these.Six) ps → AreAllOf these.Six (spread deps is ps)
spread_six deps [] ps a = tt
spread_six deps (i ∷ is) ps a =
    let n = first_count (length ps) (length is) in
    (six_take n ps a, spread_six (i ∷ []) is (drop n ps) (six_drop n ps a))
