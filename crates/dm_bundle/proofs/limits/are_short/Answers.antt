use Rattle.std.proofs.Common.{◌≡◌, ◌≤◌, ◌<◌, ◌∙◌, ℕ, zero, suc, List, [], ◌∷◌, length, get_or, arith, sym, subst, ap}
use Rattle.std.proofs.lemmas.List.{length-map, take_all}
use Rattle.std.specs.List.{AllByRecursion}
use Rattle.dm_prim.specs.Prims.{prim_of}
use Rattle.dm_named.specs.Patches.{Patch}
use Rattle.dm_named.proofs.NamedLemmas.{all_more}
use Rattle.dm_bundle.proofs.limits.are_short.Goals as goal

all_at : {V : Type 0} (P : V → Type 0) (vs : List V) (i : ℕ) (d : V) → i < length vs → AllByRecursion P vs → P (get_or vs i d)
all_at P [] i d lt all = absurd (omega (arith, lt))
all_at P (v ∷ vs) zero d lt all = all.0
all_at P (v ∷ vs) (suc i) d lt all = all_at P vs i d (omega (arith, lt)) all.1

-- one that isn't so says that not all are
not_all : {V : Type 0} (P : V → Type 0) (vs : List V) (i : ℕ) (v : V) → i < length vs → v ≡ get_or vs i v → (P v → ⊥) → AllByRecursion P vs → ⊥
not_all P vs i v lt is other all = other (subst P (sym is) (all_at P vs i v lt all))

pub returns-then-prims-limits : goal.returns-then-prims-limits
returns-then-prims-limits g c =
    let count = sym (length-map c.prims.result.now prim_of) ∙ ap length c.prims.ensures in
    not_all (λ (p : Patch). length p.prims ≤ c.args.limits.prims) c.args.patches.now c.loop-patch.patch-index c.patch-item.result c.loop-patch-test.true c.patch-item.is
    (λ few. omega (arith, few, count, c.if-prims-limits.true))

pub loop-patch-preserved : goal.loop-patch-preserved
loop-patch-preserved g c =
    let count = sym (length-map c.prims.result.now prim_of) ∙ ap length c.prims.ensures in
    all_more (λ (p : Patch). length p.prims ≤ c.args.limits.prims) c.args.patches.now c.loop-patch.patch-index c.patch-item.result c.loop-patch-test.true c.patch-item.is
    (omega (arith, count, c.if-prims-limits.false)) c.loop-patch.invariant

pub returns : goal.returns
returns g c = rw (take_all c.loop-patch.patch-index c.args.patches.now c.loop-patch-test.false) at c.loop-patch.invariant
