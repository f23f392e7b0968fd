use Rattle.std.proofs.Common.{◌≤◌, length, arith}
use Rattle.std.proofs.lemmas.List.{length-map}
use Rattle.dm_named.specs.Patches.{Patch}
use Rattle.dm_bundle.specs.Patches.{infos_of}
use Rattle.dm_log.proofs.FindingLemmas.{found_all, found_next, found_nothing}
use Rattle.dm_log.proofs.finding.find_patch.Goals as goal

pub loop-k-init : goal.loop-k-init
loop-k-init g c = found_nothing (infos_of c.args.repo.now.patches) c.args.word.now

pub loop-k-preserved : goal.loop-k-preserved
loop-k-preserved g c =
    let named = rw c.info.ensures at c.in_ok-is_named.ensures in
    rw c.with_next-found.ensures (found_next c.args.repo.now.patches c.args.word.now c.loop-k.k c.patch.result.now c.loop-k.found c.in_ok-is_named.is_named c.patch.ensures named c.loop-k.invariant)

pub returns : goal.returns
returns g c =
    let many = length-map c.args.repo.now.patches (λ (p : Patch). p.info) in
    let all : length (infos_of c.args.repo.now.patches) ≤ c.loop-k.k = omega (arith, many, c.len-k-end.ensures.value, c.loop-k-test.false) in
    found_all (infos_of c.args.repo.now.patches) c.args.word.now c.loop-k.k c.loop-k.found all c.loop-k.invariant
