use Rattle.dm_converge_tests.proofs.ApartLemmas.{AgreeBelow}
use Rattle.dm_converge_tests.proofs.asking.have_same_names.Given as goal

abbrev pub invariant-loop-i : goal.invariant-loop-i
invariant-loop-i l = AgreeBelow l.i l.one.patches l.other.patches
