use Rattle.std.proofs.Common.{◌≡◌, true, false, take, sym, ◌∙◌}
use Rattle.std.proofs.lemmas.List.{take_all}
use Rattle.dm_bundle.specs.Patches.{infos_of}
use Rattle.dm_begin.specs.Bases.{no_names}
use Rattle.dm_begin.proofs.CutLemmas.{without_none, without_one}
use Rattle.dm_begin.proofs.cutting.later_names.Goals as goal
use Rattle.dm_begin.proofs.cutting.later_names.Goals.{then-not-branch+in_ok-copy_into+in_ok-push, else-not-branch}

pub loop-name-init : goal.loop-name-init
loop-name-init g c = rw c.new-left.ensures.items no_names

pub loop-name-preserved : goal.loop-name-preserved
loop-name-preserved g c =
    let gone = take c.args.count (infos_of c.args.repo.now.patches) in
    elim c.if-not-branch.branch [
      | then-not-branch+in_ok-copy_into+in_ok-push w ↦ rw w.left-is
          (without_one gone c.args.names.now c.loop-name.left.items w.push.new.self.items c.loop-name.name-index c.name-item.result w.in_ok-copy_into.field-0 c.loop-name-test.true c.name-item.is w.in_ok-copy_into.ensures w.in_ok-push.ensures.items
          (λ h. let f : false ≡ true = sym w.if-not-branch.true ∙ c.in_ok-is_of_first.ensures.1 h in absurd (cc)) c.loop-name.invariant)
      | else-not-branch w ↦ rw w.left-is
          (without_none gone c.args.names.now c.loop-name.left.items c.loop-name.name-index c.name-item.result c.loop-name-test.true c.name-item.is (c.in_ok-is_of_first.ensures.0 w.if-not-branch.false) c.loop-name.invariant)
    ]

pub returns : goal.returns
returns g c = rw (take_all c.loop-name.name-index c.args.names.now c.loop-name-test.false) at c.loop-name.invariant
