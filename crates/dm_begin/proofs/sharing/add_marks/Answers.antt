use Rattle.std.proofs.Common.{◌≡◌, ◌∙◌, length, sym, arith}
use Rattle.std.proofs.lemmas.List.{length-map, take_all}
use Rattle.dm_bundle.specs.Patches.{infos_of}
use Rattle.dm_repo.proofs.MarksLemmas.{also_none, also_more, within}
use Rattle.dm_begin.proofs.SharedLemmas.{also_less}
use Rattle.dm_begin.proofs.sharing.add_marks.Goals as goal
use Rattle.dm_begin.proofs.sharing.add_marks.Goals.{in-None, in-Some}

pub loop-name-init : goal.loop-name-init
loop-name-init g c = also_none (infos_of c.args.repo.now.patches) c.args.marks.now

pub bounds-marks-k : goal.bounds-marks-k
bounds-marks-k g c =
    let repo = c.args.repo.now.patches in
    let n : length (infos_of repo) ≡ length repo = length-map repo (λ p. p.info) in
    let l = within (infos_of repo) c.in-Some.k c.in-Some.ensures in
    omega (arith, l, n, c.requires.marks, c.loop-name.invariant.length_is)

pub loop-name-preserved : goal.loop-name-preserved
loop-name-preserved g c =
    let repo = c.args.repo.now.patches in
    let infos = infos_of repo in
    elim c.match-position.branch [
      | in-None w ↦ rw w.marks-is
          (also_less infos c.args.marks.now c.loop-name.marks c.args.names.now c.loop-name.name-index c.name-item.result c.loop-name-test.true c.name-item.is (rw w.in-None.is at c.position.ensures) c.loop-name.invariant)
      | in-Some w ↦ rw w.marks-is
          (also_more infos c.args.marks.now c.loop-name.marks c.args.names.now c.loop-name.name-index w.in-Some.k c.name-item.result c.requires.distinct (c.requires.marks ∙ sym (length-map repo (λ p. p.info)))
          c.loop-name-test.true c.name-item.is (rw w.in-Some.is at c.position.ensures) c.loop-name.invariant)
    ]

pub returns : goal.returns
returns g c = rw (take_all c.loop-name.name-index c.args.names.now c.loop-name-test.false) at c.loop-name.invariant
