use Rattle.std.proofs.Common.{◌++◌, take, subst, sym}
use Rattle.std.specs.List.{All}
use Rattle.std.proofs.lemmas.Result.{err_from_is_err_and}
use Rattle.dm_repo.specs.Aside.{StandsNear}
use Rattle.dm_repo.specs.Squares.{placed}
use Rattle.dm_repo.specs.declared.policy.Policy.{Policy}
use Rattle.dm_repo.specs.declared.policy.Policy.TheVariants.{Refuse}
use Rattle.dm_repo.proofs.NearSides.{placed_near, split_keeps}
use Rattle.dm_repo.proofs.RefusalLemmas.{before_fit, split_before}
use Rattle.dm_repo.proofs.Steps.{split_to_weigh}
use Rattle.dm_repo.proofs.basis.split_nearby.Goals as goal

pub returns-in_err-parted-clause-split : goal.returns-in_err-parted-clause-split
returns-in_err-parted-clause-split g c = λ b e found.
    let p = err_from_is_err_and c.from_residual.result c.from_residual.ensures.1 in
    let repo = c.args.repo.now.patches in
    let stops = c.in_err-parted.ensures b c.args.new.items c.args.nearby.now.paths.items found.marked (rw c.deref.ensures.value c.requires.nearby) in
    rw (p.1, p.2) (before_fit repo b _ (split_before repo b _ stops), λ policy. split_to_weigh repo b policy _ found.prerequisites stops)

pub returns-in_err-new-clause-split : goal.returns-in_err-new-clause-split
returns-in_err-new-clause-split g c = λ b e found.
    let repo = c.args.repo.now.patches in
    let s = c.in_ok-parted.ensures b c.args.new.items c.args.nearby.now.paths.items found.marked (rw c.deref.ensures.value c.requires.nearby) in
    let front = placed (take c.args.kept repo) ++ c.in_ok-parted.parted.front.items in
    let p = err_from_is_err_and c.from_residual-in_err-new.result c.from_residual-in_err-new.ensures.1 in
    let refuses = λ (policy : Policy). c.in_err-new.ensures repo b policy front s.0 e found (record { prerequisites = found.prerequisites; split = s.1 }) in
    rw (p.1, p.2) (before_fit repo b _ (refuses Refuse).0, λ policy. (refuses policy).1)

pub returns-clause-split : goal.returns-clause-split
returns-clause-split g c = λ b e found.
    let repo = c.args.repo.now.patches in
    let ps = c.args.nearby.now.paths.items in
    let s = c.in_ok-parted.ensures b c.args.new.items ps found.marked (rw c.deref.ensures.value c.requires.nearby) in
    let front = placed (take c.args.kept repo) ++ c.in_ok-parted.parted.front.items in
    let bundle = c.in_ok-new.ensures repo b Refuse front s.0 e found (record { prerequisites = found.prerequisites; split = s.1 }) in
    record {
      full = s.0;
      split = bundle;
      leaves = s.2;
      front_near = s.3;
      new_near = (split_keeps ps bundle.split (placed_near ps 0 b.patches (subst (All (StandsNear ps)) (sym e) c.requires.nearby.new_near))).1;
    }

pub split_near-requires-clause-near : goal.split_near-requires-clause-near
split_near-requires-clause-near g c = rw c.deref.ensures.value c.requires.marks
