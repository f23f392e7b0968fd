-- Patches that are undone one after the other, the last one first.
use Rattle.std.proofs.Common.{inl, inr, ◌≡◌, ◌++◌, ℕ, ◌+◌, ◌-◌, ◌<◌, ◌≤◌, length, drop, get_or, List, [], ◌∷◌, sym, ap, ◌∙◌, arith}
use Rattle.std.proofs.lemmas.List.{drop_more, map-append}
use Rattle.dm_tree.specs.Trees.{Map, Deep}
use Rattle.dm_prim.specs.InTurn.{InTurn, done, step}
use Rattle.dm_prim.specs.Primitives.{AddFile, RmFile, AddDir, RmDir, Hunk, Binary, Replace, Prim, At, Move, ChangePref, LawfulMap, inv, inv_all}
use Rattle.dm_prim.specs.Limits.{TurnsLarge}
use Rattle.dm_prim.proofs.LawProofs.{inverses_lead_back}
use Rattle.dm_named.specs.Patches.{Patch}
use Rattle.dm_repo.specs.Folds.{IsRoot, LeadsShallowly, PatchLeadsShallowly}
use Rattle.dm_repo.specs.Squares.{Placed, patches}
use Rattle.dm_repo.specs.Trials.{undo, undo_all, UndoingLeadsBack}
use Rattle.dm_repo.proofs.Staircases.{runs_on}

-- the root alone is not too deep
pub root_shallow : (s : LawfulMap) → IsRoot s → Deep s.map → ⊥
root_shallow s r ([], l, some) = absurd (omega (arith, l))
root_shallow s r (n ∷ p, l, some) = some (r.alone n p)

-- what leads shallowly on ends at what isn't too deep
pub prims_shallow : (ps : List Prim) (s t : LawfulMap) → (Deep s.map → ⊥) → InTurn LeadsShallowly ps s t → Deep t.map → ⊥
prims_shallow [] s t d done = d
prims_shallow (p ∷ ps) s t d (step {u = u} h r) = prims_shallow ps u t h.shallow r

pub patches_shallow : (xs : List Patch) (s t : LawfulMap) → (Deep s.map → ⊥) → InTurn PatchLeadsShallowly xs s t → Deep t.map → ⊥
patches_shallow [] s t d done = d
patches_shallow (x ∷ xs) s t d (step {u = u} h r) = patches_shallow xs u t (prims_shallow x.prims s u d h) r

-- a replace's file is as large on the way back
large_back : (p : Prim) (s t : Map) → TurnsLarge (inv p) t s → TurnsLarge p s t
large_back (At f (Replace set old new)) s t h = elim h [ inl l ↦ inr l | inr l ↦ inl l ]
large_back (At f AddFile) s t h = absurd h
large_back (At f RmFile) s t h = absurd h
large_back (At f AddDir) s t h = absurd h
large_back (At f RmDir) s t h = absurd h
large_back (At f (Hunk l old new)) s t h = absurd h
large_back (At f (Binary old new)) s t h = absurd h
large_back (Move a b) s t h = absurd h
large_back (ChangePref name old new) s t h = absurd h

prims_back : (ps : List Prim) (s t : LawfulMap) → (Deep s.map → ⊥) → InTurn LeadsShallowly ps s t → InTurn LeadsShallowly (inv_all ps) t s
prims_back [] s t d done = done
prims_back (p ∷ ps) s t d (step {u = u} h r) = runs_on (prims_back ps u t h.shallow r) (step (record { leads = (inverses_lead_back p s u).0 h.leads; shallow = d; small = λ l. h.small (large_back p s.map u.map l) }) done)

pub undoing : UndoingLeadsBack
undoing [] s t d done = done
undoing (x ∷ xs) s t d (step {u = u} h r) = runs_on (undoing xs u t (prims_shallow x.prims s u d h) r) (step (prims_back x.prims s u d h) done)

-- one more patch of a list is undone, from the end
pub undo_more : (xs : List Patch) (k place : ℕ) (x : Patch) (ys : List Placed) → k < length xs → place + k + 1 ≡ length xs → x ≡ get_or xs place x → patches ys ≡ undo_all (drop (length xs - k) xs) →
    patches (ys ++ (place, undo x) ∷ []) ≡ undo_all (drop (length xs - (k + 1)) xs)
undo_more xs k place x ys l at is so_far =
    let here : length xs - (k + 1) ≡ place = omega (arith, at) in
    let behind : length xs - k ≡ place + 1 = omega (arith, at, l) in
    let there : drop place xs ≡ x ∷ drop (place + 1) xs = drop_more xs place x (omega (arith, at)) ∙ ap (λ z. z ∷ drop (place + 1) xs) (sym is) in
    map-append (λ (y : Placed). y.1) ys ((place, undo x) ∷ []) ∙ ap (λ z. z ++ undo x ∷ []) (so_far ∙ ap (λ n. undo_all (drop n xs)) behind) ∙ ap undo_all (sym there) ∙ ap (λ n. undo_all (drop n xs)) (sym here)

-- all are undone
pub undo_each : (xs : List Patch) (k : ℕ) → length xs ≤ k → undo_all (drop (length xs - k) xs) ≡ undo_all xs
undo_each xs k l = let e : length xs - k ≡ 0 = omega (arith, l) in ap (λ n. undo_all (drop n xs)) e
