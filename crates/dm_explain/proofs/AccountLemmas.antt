-- What is told of a refusal, and why nothing is.
use Rattle.std.proofs.Common.{◌≡◌, ◌≢◌, ◌<◌, inl, inr, subst, ℕ, List, length, get_or, slice_get, Some, refl, sym, ap, ◌∙◌}
use Rattle.std.specs.Prelude.{Err}
use Rattle.std.specs.FinMap as map
use Rattle.std.specs.Option.{option_map}
use Rattle.std.proofs.lemmas.Option.{slice_get-map, slice_get_read}
use Rattle.dm_tree.specs.declared.fault.TreeFault.TheVariants.{TooDeep, TooLarge}
use Rattle.dm_tree.specs.Paths.{Path}
use Rattle.dm_prim.specs.Applying.{FaultsAs}
use Rattle.dm_prim.specs.Primitives.{LawfulMap, Prim, At, Move, ChangePref, AddFile, RmFile, AddDir, RmDir, Hunk, Binary, Replace}
use Rattle.dm_prim.specs.Prims.{prim_of, prims_of}
use Rattle.dm_prim.specs.Replaces.{ReplaceParts}
use Rattle.dm_prim.specs.declared.primitive.Primitive.{Primitive}
use Rattle.dm_prim.specs.declared.primitive.Primitive.TheVariants as code
use Rattle.dm_named.specs.Patches.{Patch}
use Rattle.dm_bundle.specs.Bundles.{Contents}
use Rattle.dm_repo.specs.declared.misfit.Misfit.{Misfit}
use Rattle.dm_repo.specs.declared.overflow.Overflow.{Overflow}
use Rattle.dm_repo.specs.declared.overflow.Overflow.TheVariants.{Front, Merged}
use Rattle.dm_repo.specs.declared.policy.Policy.{Policy}
use Rattle.dm_repo.specs.declared.refusal.Refusal.{Refusal}
use Rattle.dm_repo.specs.declared.refusal.Refusal.TheVariants.{DoesNotFit, NoMemory}
use Rattle.dm_repo.specs.Laws.{Refused}
use Rattle.dm_repo.specs.Overflows.{IsOverflow, OverflowsWith}
use Rattle.dm_repo.specs.Squares.{Placed}
use Rattle.dm_repo.specs.Weighing.{RefusesBundle}
use Rattle.dm_repo.proofs.OneAnswer.{weighing_one}
use Rattle.dm_explain.specs.Accounts.{IsMoveTooDeep, IsReplaceTooLarge, IsPast, misfit_of}

refused_same : {why other : Refusal} → Refused why ≡ Refused other → why ≡ other
refused_same e = cc

-- a bundle that is refused for one reason isn't for another
pub excluded : (repo : List Patch) (b : Contents) (policy : Policy) (why other : Refusal) → why ≢ NoMemory → other ≢ NoMemory → why ≢ other → RefusesBundle repo b policy why → RefusesBundle repo b policy other → ⊥
excluded repo b policy why other m n d x y = d (refused_same (weighing_one repo b policy (Refused why) (Refused other) (λ e. m (refused_same e)) (λ e. n (refused_same e)) x y))

-- only a move makes a path too deep
move_faults : {Z : Type 0} (m : Misfit Z) (p : Prim) → slice_get m.patch.prims m.prim ≡ Some p → FaultsAs {T = Unit {0}} p (map.get m.tree) (Err TooDeep) → IsMoveTooDeep m
move_faults m (Move from to) e r = (from, to, e, r)
move_faults m (At p AddFile) e r = absurd r
move_faults m (At p RmFile) e r = absurd r
move_faults m (At p AddDir) e r = absurd r
move_faults m (At p RmDir) e r = absurd r
move_faults m (At p (Hunk n old new)) e r = absurd r
move_faults m (At p (Binary old new)) e r = absurd r
move_faults m (At p (Replace set old new)) e r = absurd r
move_faults m (ChangePref name old new) e r = absurd r

-- only a replace has a file that is too large
replace_faults : {Z : Type 0} (m : Misfit Z) (p : Prim) → slice_get m.patch.prims m.prim ≡ Some p → FaultsAs {T = Unit {0}} p (map.get m.tree) (Err TooLarge) → (path : Path) × IsReplaceTooLarge m path
replace_faults m (At p (Replace set old new)) e r = (p, (set, old, new, e, r))
replace_faults m (Move from to) e r = absurd r
replace_faults m (At p AddFile) e r = absurd r
replace_faults m (At p RmFile) e r = absurd r
replace_faults m (At p AddDir) e r = absurd r
replace_faults m (At p RmDir) e r = absurd r
replace_faults m (At p (Hunk n old new)) e r = absurd r
replace_faults m (At p (Binary old new)) e r = absurd r
replace_faults m (ChangePref name old new) e r = absurd r

goes_past : {Z : Type 0} {s : LawfulMap} {xs : List Placed} (m : Misfit Z) → OverflowsWith s xs m → IsPast m
goes_past m w =
    let f = w.stops.faults in
    elim w.is_past [
      | inl e ↦ inl (e, move_faults m f.prim f.prim_at (subst (λ x. FaultsAs {T = Unit {0}} f.prim (map.get m.tree) (Err x)) e f.answers))
      | inr e ↦ inr (e, replace_faults m f.prim f.prim_at (subst (λ x. FaultsAs {T = Unit {0}} f.prim (map.get m.tree) (Err x)) e f.answers))
    ]

pub overflow_past : {Z : Type 0} (repo : List Patch) (b : Contents) (policy : Policy) (o : Overflow Z) → IsOverflow repo b policy o → IsPast (misfit_of o)
overflow_past repo b policy (Front m) i = goes_past m i.overflows
overflow_past repo b policy (Merged m) i = goes_past m i.overflows

-- the replace that was read is the one that stands there
pub same_replace : {Z : Type 0} (ps : List (Primitive Z)) {xs : List Prim} (k : ℕ) (p : Primitive Z) (r : ReplaceParts) {path : Path} {set old new : List ℕ} → prims_of ps ≡ xs → k < length ps → p ≡ get_or ps k p → p ≡ code.Replace r →
    slice_get xs k ≡ Some (At path (Replace set old new)) → path ≡ r.path
same_replace ps k p r {path} {set} {old} {new} e l at is there =
    let s : Some (At path (Replace set old new)) ≡ Some (At r.path (Replace r.words.set r.words.old r.words.new)) = sym there ∙ sym (ap (λ l. slice_get l k) e) ∙ slice_get-map prim_of ps k ∙ ap (option_map prim_of) (slice_get_read ps (length ps) k p refl l at ∙ ap Some is) in
    let f : path ≡ r.path = cc in
    f

-- the move that was read is the one that stands there
pub same_move : {Z : Type 0} (ps : List (Primitive Z)) {xs : List Prim} (k : ℕ) (p : Primitive Z) (a b : Path) {from to : Path} → prims_of ps ≡ xs → k < length ps → p ≡ get_or ps k p → p ≡ code.Move a b →
    slice_get xs k ≡ Some (Move from to) → (from ≡ a) × (to ≡ b)
same_move ps k p a b {from} {to} e l at is there =
    let s : Some (Move from to) ≡ Some (Move a b) = sym there ∙ sym (ap (λ l. slice_get l k) e) ∙ slice_get-map prim_of ps k ∙ ap (option_map prim_of) (slice_get_read ps (length ps) k p refl l at ∙ ap Some is) in
    let f : from ≡ a = cc in
    let g : to ≡ b = cc in
    (f, g)

-- nor is it for a misfit of another place
pub other_misfit : (repo : List Patch) (b : Contents) (policy : Policy) {n m : ℕ} → m ≢ n → RefusesBundle repo b policy (DoesNotFit m) → RefusesBundle repo b policy (DoesNotFit n) → ⊥
other_misfit repo b policy {n} {m} d x y = excluded repo b policy (DoesNotFit m) (DoesNotFit n) (λ e. cc) (λ e. cc) (λ e. d (cc)) x y

-- one patch stands at a place
pub same_patch : (xs : List Patch) (n : ℕ) {place : ℕ} {x y : Patch} → slice_get xs n ≡ Some x → slice_get xs n ≡ Some y → place < length x.prims → place < length y.prims
same_patch xs n {x} {y} e f l = let s : x ≡ y = cc in rw s at l
