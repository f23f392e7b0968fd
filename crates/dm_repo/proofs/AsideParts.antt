-- Patches that stand aside leave a part of a tree as it is, so that the others alone are undone there.
use Rattle.std.proofs.Common.{◌≡◌, ◌≢◌, List, [], ◌∷◌, ◌++◌, refl, sym, ap, ◌∙◌, subst}
use Rattle.std.specs.List.{All}
use Rattle.std.proofs.lemmas.List.Elements.{All-nil, All-cons, All-head, All-tail}
use Rattle.dm_tree.specs.Paths.{Path, Apart}
use Rattle.dm_tree.specs.Trees.{Map, Deep}
use Rattle.dm_tree.specs.Validity.{IsValidPath}
use Rattle.dm_tree.specs.Reach.{IsReached, IsPart, root, above, under}
use Rattle.dm_tree.proofs.Paths.{under_refl}
use Rattle.dm_prim.specs.InTurn.{InTurn, done, step}
use Rattle.dm_prim.specs.Primitives.{Prim, At, Move, ChangePref, Applies, LawfulMap}
use Rattle.dm_prim.specs.Commuting.{IsValidPrim}
use Rattle.dm_prim.proofs.TouchLemmas.{holds_of}
use Rattle.dm_named.specs.Patches.{Patch}
use Rattle.dm_repo.specs.Folds.{LeadsShallowly, PatchLeadsShallowly}
use Rattle.dm_repo.specs.Squares.{Placed, patches}
use Rattle.dm_repo.specs.Trials.{PatchNamesUnder, IsTrialOf, undo, undo_all}
use Rattle.dm_repo.specs.Aside.{IsAside, StandsAside, StandsNear, LeavesAside, none, near, aside}
use Rattle.dm_repo.proofs.Staircases.{runs_on}
use Rattle.dm_repo.proofs.TrialLemmas.{part_follows}
use Rattle.dm_repo.proofs.Tries.{under_undo}
use Rattle.dm_repo.proofs.UndoLemmas.{prims_shallow, undoing}

-- t is s where these paths reach
pub record IsSameWithin (ps : List Path) (s t : Map) : Type 0 where
  pub within : (q : Path) → IsReached ps q → t q ≡ s q

no_root : (f : Path) → IsValidPath f → f ≢ []
no_root [] v e = cc
no_root (n ∷ f) v e = cc

-- a path that is apart from all of these isn't reached
not_reached : (ps : List Path) (f : Path) → IsValidPath f → All (Apart f) ps → IsReached ps f → ⊥
not_reached ps f v a (root e) = no_root f v e
not_reached ps f v a (above g c u) = (holds_of (Apart f) ps a c).right u
not_reached ps f v a (under g c u) = (holds_of (Apart f) ps a c).left u

prim_same : (ps : List Path) (p : Prim) (s t : Map) → IsValidPrim p → IsAside ps p → Applies p s t → IsSameWithin ps s t
prim_same ps (At f w) s t v a h = record { within = λ q r. h.elsewhere q (λ e. not_reached ps f v.0 a.each (subst (IsReached ps) e r)) }
prim_same ps (Move x y) s t v a h = absurd a
prim_same ps (ChangePref name old new) s t v a h = record { within = λ q r. ap (λ z. z q) h }

prims_same : (ps : List Path) (xs : List Prim) (s t : LawfulMap) → All IsValidPrim xs → All (IsAside ps) xs → InTurn LeadsShallowly xs s t → IsSameWithin ps s.map t.map
prims_same ps [] s t v a done = record { within = λ q r. refl }
prims_same ps (p ∷ xs) s t v a (step {u = u} h k) =
    let one = prim_same ps p s.map u.map (All-head IsValidPrim p xs v) (All-head (IsAside ps) p xs a) h.leads.applies in
    let more = prims_same ps xs u t (All-tail IsValidPrim p xs v) (All-tail (IsAside ps) p xs a) k in
    record { within = λ q r. more.within q r ∙ one.within q r }

-- what stands aside changes nothing that the paths reach
pub aside_same : (ps : List Path) (x : Patch) (s t : LawfulMap) → StandsAside ps x → PatchLeadsShallowly x s t → IsSameWithin ps s.map t.map
aside_same ps x s t a h = prims_same ps x.prims s t a.valid a.each h

part_same : (ps : List Path) (s t u : Map) → IsSameWithin ps s t → IsPart ps s u → IsPart ps t u
part_same ps s t u e i = record { within = λ q r. i.within q r ∙ sym (e.within q r); outside = i.outside }

turned : (ps : List Path) (s t : Map) → IsSameWithin ps s t → IsSameWithin ps t s
turned ps s t e = record { within = λ q r. sym (e.within q r) }

-- the part before it is the part after it
pub aside_before : (ps : List Path) (x : Patch) (s t u : LawfulMap) → (Deep s.map → ⊥) → StandsAside ps x → PatchLeadsShallowly x s t → IsTrialOf ps t u → IsTrialOf ps s u
aside_before ps x s t u d a h i = record { part = part_same ps t.map s.map u.map (turned ps s.map t.map (aside_same ps x s t a h)) i.part; shallow = d }

pub aside_after : (ps : List Path) (x : Patch) (s t u : LawfulMap) → (Deep s.map → ⊥) → StandsAside ps x → PatchLeadsShallowly x s t → IsTrialOf ps s u → IsTrialOf ps t u
aside_after ps x s t u d a h i = record { part = part_same ps s.map t.map u.map (aside_same ps x s t a h) i.part; shallow = prims_shallow x.prims s t d h }

-- what undoes those that stand near leads from the part of what all made back to the part of what they were applied to
pub near_undone : (ps : List Path) {all some : List Placed} → LeavesAside ps all some → (s t u : LawfulMap) → (Deep s.map → ⊥) →
    InTurn PatchLeadsShallowly (patches all) s t → IsTrialOf ps t u → (v : LawfulMap) × IsTrialOf ps s v × InTurn PatchLeadsShallowly (undo_all (patches some)) u v
near_undone ps none s t u d done i = (u, i, done)
near_undone ps (near {x = x} {some = some} n l) s t u d (step {u = m} h k) i =
    let w = near_undone ps l m t u (prims_shallow x.1.prims s m d h) k i in
    let back = undoing (x.1 ∷ []) s m d (step h done) in
    let names : All (PatchNamesUnder ps) (x.1 ∷ []) = All-cons (PatchNamesUnder ps) x.1 [] (record { each = n.names }) (All-nil (PatchNamesUnder ps)) in
    let v = part_follows ps (undo_all (x.1 ∷ [])) m s w.0 (under_undo ps (x.1 ∷ []) names) w.1 back in
    (v.0, v.1, runs_on w.2 v.3)
near_undone ps (aside {x = x} a l) s t u d (step {u = m} h k) i =
    let w = near_undone ps l m t u (prims_shallow x.1.prims s m d h) k i in
    (w.0, aside_before ps x.1 s m w.0 d a h w.1, w.2)
