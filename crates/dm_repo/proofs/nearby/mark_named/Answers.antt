use Rattle.std.proofs.Common.{◌≡◌, length, arith}
use Rattle.std.proofs.lemmas.List.{length-map}
use Rattle.dm_bundle.specs.Patches.{infos_of}
use Rattle.dm_repo.proofs.MarksLemmas.{within}
use Rattle.dm_repo.proofs.nearby.mark_named.Goals as goal

pub bounds-marks-k : goal.bounds-marks-k
bounds-marks-k g c =
    let repo = c.args.repo.now.patches in
    let n : length (infos_of repo) ≡ length repo = length-map repo (λ p. p.info) in
    let l = within (infos_of repo) c.in-Some.k c.in-Some.ensures in
    omega (arith, l, n, c.requires, c.loop-info.invariant)
