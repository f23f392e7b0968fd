use Rattle.std.proofs.Common.{arith, refl, sym, ◌∙◌}
use Rattle.dm_converge_tests.proofs.ApartLemmas.{agree_more, agree_all}
use Rattle.dm_converge_tests.proofs.asking.have_same_names.Goals as goal

pub loop-i-preserved : goal.loop-i-preserved
loop-i-preserved c =
    agree_more c.loop-i.i c.args.one.now.patches c.args.other.now.patches c.patch.result.now c.patch-in-loop-i.result.now c.loop-i.invariant c.patch.ensures c.patch-in-loop-i.ensures
    (sym c.info.ensures ∙ (c.if-not-same.ensures.0 refl ∙ c.info-in-loop-i.ensures))

pub returns : goal.returns
returns c = λ yes.
    agree_all c.args.one.now.patches c.args.other.now.patches (omega (arith, c.len-count.ensures.value, c.len.ensures.value, c.if-count-len.false))
    (λ i l. c.loop-i.invariant i (omega (arith, l, c.loop-i-test.false, c.len-count.ensures.value)))
