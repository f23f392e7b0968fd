-- What stays of a repository and what goes keeps its kinds of primitives.
use Rattle.std.proofs.Common.{List, [], ◌∷◌, ◌++◌}
use Rattle.std.specs.List.{AllByRecursion}
use Rattle.dm_named.specs.Commuting.{NamedCommutes}
use Rattle.dm_named.specs.Kinds.{IsOf, AreOf}
use Rattle.dm_named.specs.declared.limits.Kinds.{Kinds}
use Rattle.dm_named.specs.Patches.{Patch}
use Rattle.dm_repo.proofs.KindLemmas.{rectangle_across, rectangle_along, prims_across, prims_along}
use Rattle.dm_send.specs.Laws.{LeavingKeepsKinds}
use Rattle.dm_send.specs.Leaving.{nothing, goes, stays, follows}

all_append : {X : Type 0} (Q : X → Type 0) (xs ys : List X) → AllByRecursion Q xs → AllByRecursion Q ys → AllByRecursion Q (xs ++ ys)
all_append Q [] ys a b = b
all_append Q (x ∷ xs) ys a b = (a.0, all_append Q xs ys a.1 b)

all_parts : {X : Type 0} (Q : X → Type 0) (xs ys : List X) → AllByRecursion Q (xs ++ ys) → AllByRecursion Q xs × AllByRecursion Q ys
all_parts Q [] ys a = (tt, a)
all_parts Q (x ∷ xs) ys a = let r = all_parts Q xs ys a.1 in ((a.0, r.0), r.1)

module _ (kinds : Kinds) where
  abbrev HasKinds : Patch → Type 0
  HasKinds x = AreOf kinds x.prims

  named_across : (x y y' x' : Patch) → NamedCommutes x y y' x' → HasKinds y → HasKinds y'
  named_across x y y' x' c = rectangle_across (IsOf kinds) (prims_across kinds) c.prims

  named_along : (x y y' x' : Patch) → NamedCommutes x y y' x' → HasKinds x → HasKinds x'
  named_along x y y' x' c = rectangle_along (IsOf kinds) (prims_across kinds) (prims_along kinds) c.prims

pub leaving_keeps_kinds : LeavingKeepsKinds
leaving_keeps_kinds kinds chosen repo stay go bound k nothing = (tt, tt)
leaving_keeps_kinds kinds chosen repo stay go bound k (goes x xs stay1 go1 bound1 l named) =
    let a = all_parts (HasKinds kinds) xs (x ∷ []) k in
    let r = leaving_keeps_kinds kinds chosen xs stay1 go1 bound1 a.0 l in
    (r.0, all_append (HasKinds kinds) go1 (x ∷ []) r.1 a.1)
leaving_keeps_kinds kinds chosen repo stay go bound k (stays x x' xs stay1 go1 go' bound1 l unnamed p) =
    let a = all_parts (HasKinds kinds) xs (x ∷ []) k in
    let r = leaving_keeps_kinds kinds chosen xs stay1 go1 bound1 a.0 l in (
      all_append (HasKinds kinds) stay1 (x' ∷ []) r.0 (rectangle_across (HasKinds kinds) (named_across kinds) p a.1),
      rectangle_along (HasKinds kinds) (named_across kinds) (named_along kinds) p r.1,
    )
leaving_keeps_kinds kinds chosen repo stay go bound k (follows x y xs stay1 go1 bound1 l unnamed s) =
    let a = all_parts (HasKinds kinds) xs (x ∷ []) k in
    let r = leaving_keeps_kinds kinds chosen xs stay1 go1 bound1 a.0 l in
    (r.0, all_append (HasKinds kinds) go1 (x ∷ []) r.1 a.1)
