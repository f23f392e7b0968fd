use Rattle.std.proofs.Common.{◌∙◌, [], ◌∷◌, refl, sym, subst}
use Rattle.dm_store.specs.Growth.{IsWhole}
use Rattle.dm_store.specs.Keeping.{kept_as}
use Rattle.dm_store.proofs.StoredLemmas.{weakened}
use Rattle.dm_store.proofs.GrowthLemmas.{counted_whole, whole_grown}
use Rattle.dm_store.proofs.WholeLemmas.{fold_whole, nothing_kept, old_or_whole, old_or_none}
use Rattle.dm_store.proofs.keeping.begin.Goals as goal
use Rattle.dm_store.proofs.keeping.begin.Goals.{in-Ok, in-Err}

pub returns-then-base-eq0-clause-any_moment : goal.returns-then-base-eq0-clause-any_moment
returns-then-base-eq0-clause-any_moment g c =
    let d = g.D.Device in
    let kept = kept_as c.args.base c.args.repo.now.patches in
    let none = nothing_kept c.args.base c.args.repo.now.patches c.if-base-eq0.true (c.if-is_empty.ensures.0 refl) in
    elim c.match-create.branch [
      | in-Ok w ↦ rw w.result-is (weakened d.moment d.left_since _ _ _ _ (old_or_none c.args.kinds (d.seen c.args.device) kept none) (rw c.format_of-format.ensures at w.in-Ok.ensures.any_moment))
      | in-Err w ↦ rw w.result-is tt
    ]

pub returns-in-Ok-create_of-clause-stored : goal.returns-in-Ok-create_of-clause-stored
returns-in-Ok-create_of-clause-stored g c =
    let kept = kept_as c.args.base c.args.repo.now.patches in
    let entry = c.in-Ok-Some.entry.items in
    let takes = rw c.in-Ok-Some.field-0-is at c.in-Ok-Some.ensures.takes in
    let is = rw c.in-Ok-Some.field-0-is at c.in-Ok-Some.ensures.entry in
    let made = c.of_whole-in-Ok-create_of.ensures in (
      entry ∷ [],
      c.in-Ok-create_of.ensures.ok,
      fold_whole c.args.kinds entry kept takes,
      whole_grown entry c.of_whole-in-Ok-create_of.result (subst IsWhole (sym is) (counted_whole c.args.base _ c.ranges.base.fits)) (made.whole ∙ c.len-bytes.ensures ∙ c.in-Ok-Some.entry.ok.0) made.few made.since made.entries,
    )

pub returns-in-Ok-create_of-clause-any_moment : goal.returns-in-Ok-create_of-clause-any_moment
returns-in-Ok-create_of-clause-any_moment g c =
    let d = g.D.Device in
    let kept = kept_as c.args.base c.args.repo.now.patches in
    let takes = rw c.in-Ok-Some.field-0-is at c.in-Ok-Some.ensures.takes in
    weakened d.moment d.left_since _ _ _ _ (old_or_whole c.args.kinds (d.seen c.args.device) c.in-Ok-Some.entry.items kept takes) (rw c.format_of-format.ensures at c.in-Ok-create_of.ensures.any_moment)

pub returns-in-Err-create_of-clause-any_moment_err : goal.returns-in-Err-create_of-clause-any_moment_err
returns-in-Err-create_of-clause-any_moment_err g c =
    let d = g.D.Device in
    let kept = kept_as c.args.base c.args.repo.now.patches in
    let takes = rw c.in-Ok-Some.field-0-is at c.in-Ok-Some.ensures.takes in
    weakened d.moment d.left_since _ _ _ _ (old_or_whole c.args.kinds (d.seen c.args.device) c.in-Ok-Some.entry.items kept takes) (rw c.format_of-format.ensures at c.in-Err-create_of.ensures.any_moment_err)
