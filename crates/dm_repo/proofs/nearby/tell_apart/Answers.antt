use Rattle.std.proofs.Common.{◌≡◌, ◌<◌, length, get_or, set, true, false, IsTrue, arith, refl, sym, ◌∙◌}
use Rattle.dm_repo.proofs.MarksLemmas.{at_place, length_set}
use Rattle.dm_repo.proofs.Telling.{told_none, told_more, told_all, told_marked, tell_near, tell_aside}
use Rattle.dm_repo.proofs.nearby.tell_apart.Goals.{in-Aside, in-Near, in-Neither+in_ok-add_names-in-Neither}
use Rattle.dm_repo.proofs.nearby.tell_apart.Goals as goal

pub loop-k-init : goal.loop-k-init
loop-k-init g c = record { marks = refl; told = λ t. told_none c.args.repo.now.patches c.args.kept c.args.common.now c.args.marks.now c.args.paths.now }

pub standing_of-requires-clause-glance : goal.standing_of-requires-clause-glance
standing_of-requires-clause-glance g c =
    let repo = c.args.repo.now.patches in
    let l : c.loop-k.k < length repo = rw c.patches-patches.ensures.value at c.loop-k-test.true in
    let x = c.index-patches-k.result in
    c.glance-glance.ensures x (at_place repo c.loop-k.k x l (rw c.patches-patches.ensures.value at c.index-patches-k.is))

pub loop-k-preserved : goal.loop-k-preserved
loop-k-preserved g c =
    let repo = c.args.repo.now.patches in
    let common = c.args.common.now in
    let near = c.loop-k.marks in
    let ps = c.args.paths.now in
    let k = c.loop-k.k in
    let x = c.index-patches-k.result in
    let l : k < length repo = rw c.patches-patches.ensures.value at c.loop-k-test.true in
    let here : x ≡ get_or repo k x = rw c.patches-patches.ensures.value at c.index-patches-k.is in
    let lc : k < length common = omega (arith, l, c.requires.common) in
    let ln : k < length near = omega (arith, l, c.requires.marks, c.loop-k.invariant.marks) in
    elim c.match-standing_of.branch [
      | in-Aside w ↦
          let a = w.in-Aside.ensures.aside refl in
          rw (w.marks-is, w.all_told-is) (record {
            marks = c.loop-k.invariant.marks;
            told = λ t. told_more repo c.args.kept common near ps k x l here (tell_aside common near ps k x false false lc ln a.1 a.2 a.0) (c.loop-k.invariant.told t);
          })
      | in-Near w ↦
          rw (w.marks-is, w.all_told-is) (record {
            marks = length_set near k ∙ c.loop-k.invariant.marks;
            told = λ t. told_more repo c.args.kept common (set near k true) ps k x l here (tell_near common near ps k x ln (w.in-Near.ensures.near refl))
                (told_marked repo c.args.kept common near ps k (c.loop-k.invariant.told t));
          })
      | in-Neither+in_ok-add_names-in-Neither w ↦
          rw (w.marks-is, w.all_told-is) (record {
            marks = length_set near k ∙ c.loop-k.invariant.marks;
            told = λ t. absurd (cc t);
          })
    ]

pub returns-then-all_told-clause-told : goal.returns-then-all_told-clause-told
returns-then-all_told-clause-told g c =
    told_all c.args.repo.now.patches c.args.kept c.args.common.now c.loop-k.marks c.args.paths.now c.loop-k.k (rw c.patches-patches.ensures.value at c.loop-k-test.false)
    (c.loop-k.invariant.told c.if-all_told.true)
