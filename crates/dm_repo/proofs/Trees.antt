-- Trees with one map are one.
use Rattle.std.proofs.Common.{◌≡◌, List, [], ◌∷◌, ◌++◌, Some, None, refl, sym, ◌∙◌}
use Rattle.std.proofs.Math.Nat.{ℕ_set}
use mathlib.Core.List.{is_set as list_set}
use mathlib.Core.Sum.{⊎_set}
use mathlib.Core.HLevel.{is_prop→PathP}
use Rattle.dm_tree.specs.Paths.{Name, Path}
use Rattle.dm_tree.specs.Trees.{Map, Lines, Entry, Dir, File, IsLawful}
use Rattle.dm_prim.specs.Primitives.{Prim}
use Rattle.dm_prim.specs.InTurn.{InTurn, done, step}
use Rattle.dm_prim.specs.Primitives.{LawfulMap, Leads}
use Rattle.dm_named.specs.Patches.{Patch}
use Rattle.dm_repo.specs.Folds.{PatchLeads, IsRoot, Fold, LeadsShallowly, PatchLeadsShallowly, ShallowFold}
use Rattle.dm_repo.specs.Repositories.{IsRepo}
use Rattle.dm_prim.proofs.Single.{applies_one, same_map}

entry_set : IsSet Entry
entry_set = hlevel (list_set, ℕ_set, ⊎_set)

lawful_prop : (t : Map) → IsProp (IsLawful t)
lawful_prop t = hlevel (entry_set, ⊎_set)

pub tree_same : (s t : LawfulMap) → s.map ≡ t.map → s ≡ t
tree_same s t e = let l = is_prop→PathP (λ i. IsLawful (e i)) (λ i. lawful_prop (e i)) s.lawful t.lawful in λ i. record { map = e i; lawful = l i }

pub root_one : (s t : LawfulMap) → IsRoot s → IsRoot t → s ≡ t
root_one s t r q = tree_same s t (same_map s.map t.map at)
  where
    at : (p : _) → s.map p ≡ t.map p
    at [] = r.root ∙ sym q.root
    at (n ∷ p) = r.alone n p ∙ sym (q.alone n p)

pub does_one : (p : Prim) (s t u : LawfulMap) → Leads p s t → Leads p s u → t ≡ u
does_one p s t u h k = tree_same t u (same_map t.map u.map (applies_one p s.map t.map u.map s.lawful h.applies k.applies))

-- one end, where each step has one
module _ {P S : Type 0} {Step : P → S → S → Type 0} (step_one : (p : P) (s t u : S) → Step p s t → Step p s u → t ≡ u) where
  pub runs_one : {xs : List P} {s t u : S} → InTurn Step xs s t → InTurn Step xs s u → t ≡ u
  runs_one done done = refl
  runs_one (step {p} {s} {u = v} h r) (step {u = w} k q) = let e : v ≡ w = step_one p s v w h k in runs_one r (rw (← e) at q)

pub leads_one : (x : Patch) (s t u : LawfulMap) → PatchLeads x s t → PatchLeads x s u → t ≡ u
leads_one x s t u h k = runs_one does_one h k

pub fold_one : (xs : List Patch) (s t : LawfulMap) → Fold xs s → Fold xs t → s ≡ t
fold_one xs s t f g = let e = root_one f.start g.start f.is_root g.is_root in runs_one leads_one (rw e at f.runs) g.runs

pub goes_one : (p : Prim) (s t u : LawfulMap) → LeadsShallowly p s t → LeadsShallowly p s u → t ≡ u
goes_one p s t u h k = does_one p s t u h.leads k.leads

pub goes_all_one : (x : Patch) (s t u : LawfulMap) → PatchLeadsShallowly x s t → PatchLeadsShallowly x s u → t ≡ u
goes_all_one x s t u h k = runs_one goes_one h k

-- what leads shallowly, leads
pub runs_go : {ps : List Prim} {s t : LawfulMap} → InTurn LeadsShallowly ps s t → InTurn Leads ps s t
runs_go done = done
runs_go (step h r) = step h.leads (runs_go r)

pub runs_lead : {xs : List Patch} {s t : LawfulMap} → InTurn PatchLeadsShallowly xs s t → InTurn PatchLeads xs s t
runs_lead done = done
runs_lead (step h r) = step (runs_go h) (runs_lead r)

pub grows_fold : (xs : List Patch) (t : LawfulMap) → ShallowFold xs t → Fold xs t
grows_fold xs t g = record { start = g.start; is_root = g.is_root; runs = runs_lead g.runs }

-- the map of the root alone is lawful
abbrev root_map : Map
root_map [] = Some Dir
root_map (n ∷ p) = None

under_none : (p : Path) (n : Name) → root_map (p ++ n ∷ []) ≡ None
under_none [] n = refl
under_none (m ∷ p) n = refl

file_none : (p : Path) (ls : Lines) → root_map p ≡ Some (File ls) → ⊥
file_none [] ls e = absurd (cc)
file_none (n ∷ p) ls e = absurd (cc)

abbrev root : LawfulMap
root = record {
  map = root_map;
  lawful = record {
    root = refl;
    parents = λ p n h. absurd (h (under_none p n));
    lines = λ p ls e. absurd (file_none p ls e);
  };
}

-- the repository without patches
pub empty_repo : IsRepo []
empty_repo = record { distinct = tt; earlier = tt; tree = root; folds = record { start = root; is_root = record { root = refl; alone = λ n p. refl }; runs = done } }
