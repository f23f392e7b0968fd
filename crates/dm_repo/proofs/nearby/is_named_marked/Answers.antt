use Rattle.std.proofs.Common.{◌≡◌, length, arith, true, false}
use Rattle.std.proofs.lemmas.List.{length-map}
use Rattle.dm_bundle.specs.Patches.{infos_of}
use Rattle.dm_repo.proofs.MarksLemmas.{within}
use Rattle.dm_repo.proofs.Splits.{mark_at}
use Rattle.dm_repo.proofs.Telling.{named_here, named_nowhere}
use Rattle.dm_repo.proofs.nearby.is_named_marked.Goals as goal

pub returns-in-None : goal.returns-in-None
returns-in-None g c = λ t. named_nowhere c.args.repo.now.patches c.args.marks.now c.args.info.now c.in-None.ensures

pub returns-in-Some : goal.returns-in-Some
returns-in-Some g c = λ t.
    let repo = c.args.repo.now.patches in
    let n : length (infos_of repo) ≡ length repo = length-map repo (λ p. p.info) in
    let l = within (infos_of repo) c.in-Some.k c.in-Some.ensures in
    named_here repo c.args.marks.now c.args.info.now c.in-Some.k c.lawful.ensures.distinct c.in-Some.ensures
    (mark_at c.args.marks.now c.in-Some.k true false (omega (arith, l, n, c.requires)) t)

pub bounds-marks-k : goal.bounds-marks-k
bounds-marks-k g c =
    let repo = c.args.repo.now.patches in
    let n : length (infos_of repo) ≡ length repo = length-map repo (λ p. p.info) in
    let l = within (infos_of repo) c.in-Some.k c.in-Some.ensures in
    omega (arith, l, n, c.requires)
