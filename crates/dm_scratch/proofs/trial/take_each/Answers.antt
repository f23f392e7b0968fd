use Rattle.std.proofs.Common.{arith, refl, ◌≡◌, take}
use Rattle.std.proofs.lemmas.List.{take_all}
use Rattle.dm_scratch.proofs.EachLemmas.{each_step}
use Rattle.dm_scratch.proofs.trial.take_each.Goals as goal

pub loop-i-init : goal.loop-i-init
loop-i-init g c = refl

pub loop-i-preserved : goal.loop-i-preserved
loop-i-preserved g c =
    each_step (λ text. text.now) c.args.repo.now.patches c.args.texts.now c.args.policy c.loop-i.verdicts c.loop-i.i _ c.loop-i.repo.patches c.take.result c.take.new.repo.patches
    c.loop-i-test.true (omega (arith, c.loop-i-test.true, c.loop-i.auto.verdicts, c.requires)) c.loop-i.invariant c.take.ensures

pub returns : goal.returns
returns g c =
    let texts : take c.loop-i.i c.args.texts.now ≡ c.args.texts.now = take_all c.loop-i.i c.args.texts.now c.loop-i-test.false in
    let verdicts : take c.loop-i.i c.loop-i.verdicts ≡ c.loop-i.verdicts = take_all c.loop-i.i c.loop-i.verdicts (omega (arith, c.loop-i-test.false, c.loop-i.auto.verdicts, c.requires)) in
    rw (texts, verdicts) at c.loop-i.invariant
