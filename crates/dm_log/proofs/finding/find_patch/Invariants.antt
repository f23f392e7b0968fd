use Rattle.dm_bundle.specs.Patches.{infos_of}
use Rattle.dm_log.proofs.FindingLemmas.{FindsSoFar}
use Rattle.dm_log.proofs.finding.find_patch.Given as goal

abbrev pub invariant-loop-k : goal.invariant-loop-k
invariant-loop-k g l = FindsSoFar (infos_of l.repo.patches) l.word l.k l.found
