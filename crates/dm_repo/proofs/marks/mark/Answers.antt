use Rattle.std.proofs.Common.{◌≡◌, ◌∙◌, length, sym, arith}
use Rattle.std.proofs.lemmas.List.{length-map, take_all}
use Rattle.dm_bundle.specs.Patches.{infos_of}
use Rattle.dm_repo.proofs.Members.{none_of}
use Rattle.dm_repo.proofs.MarksLemmas.{also_none, also_more, held_more, first_lack, within}
use Rattle.dm_repo.proofs.marks.mark.Goals as goal

pub loop-c-init : goal.loop-c-init
loop-c-init g c = record { marked = also_none (infos_of c.args.repo.now.patches) c.args.marks.now; held = λ i m. absurd (none_of m) }

pub returns-in-None : goal.returns-in-None
returns-in-None g c = first_lack c.args.repo.now.patches c.args.infos.now c.loop-c.c c.index-infos-c.result c.loop-c-test.true c.index-infos-c.is c.in-None.ensures c.loop-c.invariant.held

pub loop-c-preserved : goal.loop-c-preserved
loop-c-preserved g c = record {
  marked = also_more (infos_of c.args.repo.now.patches) c.args.marks.now c.loop-c.marks c.args.infos.now c.loop-c.c c.in-Some.k c.index-infos-c.result c.requires.distinct
      (c.requires.marks ∙ sym (length-map c.args.repo.now.patches (λ p. p.info))) c.loop-c-test.true c.index-infos-c.is c.in-Some.ensures c.loop-c.invariant.marked;
  held = held_more c.args.repo.now.patches c.args.infos.now c.loop-c.c c.in-Some.k c.index-infos-c.result c.loop-c-test.true c.index-infos-c.is c.in-Some.ensures c.loop-c.invariant.held;
}

pub bounds-marks-k : goal.bounds-marks-k
bounds-marks-k g c =
    let repo = c.args.repo.now.patches in
    let n : length (infos_of repo) ≡ length repo = length-map repo (λ p. p.info) in
    let l = within (infos_of repo) c.in-Some.k c.in-Some.ensures in
    omega (arith, l, n, c.requires.marks, c.loop-c.invariant.marked.length_is)

pub returns : goal.returns
returns g c = let all = take_all c.loop-c.c c.args.infos.now c.loop-c-test.false in (rw all at c.loop-c.invariant.marked, rw all at c.loop-c.invariant.held)
