-- A patch that undoes others, and the bundle that brings it (`darcs rollback`).
use Rattle.std.specs.Prelude.{◌≡◌, ◌≢◌, ◌↔◌, ℕ, List, [], ◌∷◌, ◌++◌}
use Rattle.std.specs.List.{flat_map}
use Rattle.dm_prim.specs.Primitives.{Prim, LawfulMap, inv_all}
use Rattle.dm_info.specs.PatchInfo.{PatchInfo}
use Rattle.dm_named.specs.Patches.{Patch}
use Rattle.dm_named.specs.Commuting.{NamedCommutes}
use Rattle.dm_bundle.specs.Bundles.{Contents}
use Rattle.dm_repo.specs.declared.refusal.Refusal.{Refusal}
use Rattle.dm_repo.specs.declared.refusal.Refusal.TheVariants as refusals
use Rattle.dm_repo.specs.Folds.{Fold}
use Rattle.dm_repo.specs.Repositories.{Holds}
use Rattle.dm_send.specs.declared.undoing.UndoFault.{UndoFault}
use Rattle.dm_send.specs.declared.undoing.UndoFault.TheVariants.{Held, Bound, ChangesNothing, Refused}
use Rattle.dm_send.specs.Leaving.{Leaves}
use Rattle.dm_send.specs.Minimizing.{MinimizesBehind}
use Rattle.dm_send.specs.Sending.{IsRefused, TakesAs, behind}

-- what patches do, one after the other
abbrev pub prims_in : List Patch → List Prim
prims_in list = flat_map (λ p. p.prims) list

-- a patch of this name undoes those of chosen names: no other is bound to them, and it has the inverses of what they do behind all the others
pub record Undoes (repo : List Patch) (chosen : List PatchInfo) (name : PatchInfo) (undo : Patch) : Type 0 where
  pub stay : List Patch
  pub go : List Patch
  pub leaves : Leaves chosen repo stay go []
  pub is_undo : undo ≡ record { info = name; deps = []; prims = inv_all (prims_in go) }
  -- with it the tree is that of the patches that stay, as they stand alone
  pub same_tree : (t : LawfulMap) → Fold (repo ++ undo ∷ []) t ↔ Fold stay t

-- a bundle of it that names of the repository's patches the first `base`, and of the others only those that can't pass it, and each other
pub record RollsBack (repo : List Patch) (base : ℕ) (chosen : List PatchInfo) (name : PatchInfo) (b : Contents) : Type 0 where
  pub undo : Patch
  pub undoes : Undoes repo chosen name undo
  pub kept : List Patch
  pub sent : List Patch
  pub passed : List Patch
  pub minimizes : MinimizesBehind NamedCommutes base repo (undo ∷ []) kept sent passed
  pub is_bundle : b ≡ behind kept sent
  -- the repository takes it, and has then that patch behind its own
  pub is_taken : TakesAs repo b (undo ∷ [])

-- the repository refuses the bundle of a patch that undoes the chosen ones; memory may run out at any time
abbrev pub RefusesUndoing : List Patch → ℕ → List PatchInfo → PatchInfo → Refusal → Type 0
RefusesUndoing repo base chosen name refusals.Full = (undo : Patch) × (kept : List Patch) × (sent : List Patch) × (passed : List Patch) × Undoes repo chosen name undo ×
    MinimizesBehind NamedCommutes base repo (undo ∷ []) kept sent passed × IsRefused repo (behind kept sent)
RefusesUndoing repo base chosen name refusals.NoMemory = Unit {0}
RefusesUndoing repo base chosen name other = ⊥

-- why there is no such patch: a held patch has the new name; patches that weren't chosen are bound to those that were; those that were do nothing; or the
-- repository refuses the bundle
abbrev pub IsUndoFault : {Z : Type 0} → List Patch → ℕ → List PatchInfo → PatchInfo → UndoFault Z → Type 0
IsUndoFault repo base chosen name Held = Holds repo name
IsUndoFault repo base chosen name (Bound bound) = (stay : List Patch) × (go : List Patch) × Leaves chosen repo stay go bound.items × (bound.items ≢ [])
IsUndoFault repo base chosen name ChangesNothing = (stay : List Patch) × (go : List Patch) × Leaves chosen repo stay go [] × (prims_in go ≡ [])
IsUndoFault repo base chosen name (Refused why) = RefusesUndoing repo base chosen name why
