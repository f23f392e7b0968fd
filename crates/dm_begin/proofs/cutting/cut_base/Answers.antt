use Rattle.std.proofs.Common.{◌≡◌, true, false, length, min, take, List, refl, sym, subst, ◌∙◌, arith}
use Rattle.std.proofs.lemmas.List.{take_min}
use Rattle.std.proofs.Math.Nat.{min-le_right}
use Rattle.dm_named.specs.Patches.{Patch}
use Rattle.dm_bundle.specs.Patches.{infos_of}
use Rattle.dm_bundle.specs.Bundles.{Contents, HasNoDoubles}
use Rattle.dm_begin.specs.Bases.{CutsNames}
use Rattle.dm_begin.proofs.CutLemmas.{cut_names, keep_all, keep_names, no_doubles_left}
use Rattle.dm_begin.proofs.cutting.cut_base.Goals as goal

pub returns-then-base-eq0 : goal.returns-then-base-eq0
returns-then-base-eq0 g c =
    let repo = c.args.repo.now.patches in
    record {
      patches = refl;
      context = subst (λ (l : List Patch). CutsNames (infos_of l) c.args.bundle.context c.args.bundle.context) (take_min c.args.base repo)
          (keep_all repo (min c.args.base (length repo)) c.args.bundle.context (rw (c.min-base.ensures, c.len.ensures.value) at c.if-base-eq0.true));
    }

pub returns-then-not-is_among : goal.returns-then-not-is_among
returns-then-not-is_among g c =
    let repo = c.args.repo.now.patches in
    record {
      patches = refl;
      context = subst (λ (l : List Patch). CutsNames (infos_of l) c.args.bundle.context c.args.bundle.context) (take_min c.args.base repo)
          (keep_names repo (min c.args.base (length repo)) c.patch.result.now c.args.bundle.context (let n = rw (c.min-base.ensures, c.len.ensures.value) at c.if-base-eq0.false in omega (arith, n)) (min-le_right c.args.base (length repo)) (rw (c.min-base.ensures, c.len.ensures.value) at c.patch.ensures)
          (λ h. let f : false ≡ true = sym c.if-not-is_among.true ∙ c.is_among.ensures.1 (rw (c.context.ensures, c.info-tag.ensures) h) in absurd (cc)));
    }

pub without_doubles-requires : goal.without_doubles-requires
without_doubles-requires g c =
    let doubles = subst (λ (b : Contents). HasNoDoubles b.patches b.context) c.bundle.view_is c.bundle.invariant in
    no_doubles_left c.into_new_patches-patches.result.items (rw c.into_new_patches-patches.ensures doubles) (rw c.context-2.ensures at c.in_ok-left.ensures)

pub returns : goal.returns
returns g c =
    let repo = c.args.repo.now.patches in
    let tag = rw (c.context.ensures, c.info-tag.ensures) at (c.is_among.ensures.0 c.if-not-is_among.false) in
    rw c.without_doubles.ensures (record {
      patches = c.into_new_patches-patches.ensures;
      context = subst (λ (l : List Patch). CutsNames (infos_of l) c.args.bundle.context c.in_ok-left.left.items) (take_min c.args.base repo)
          (cut_names repo (min c.args.base (length repo)) c.patch.result.now c.args.bundle.context c.in_ok-left.left.items (let n = rw (c.min-base.ensures, c.len.ensures.value) at c.if-base-eq0.false in omega (arith, n)) (min-le_right c.args.base (length repo)) (rw (c.min-base.ensures, c.len.ensures.value) at c.patch.ensures) tag
          (rw (c.context-2.ensures, c.min-base.ensures, c.len.ensures.value) at c.in_ok-left.ensures));
    })
