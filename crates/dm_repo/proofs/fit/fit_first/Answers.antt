use Rattle.std.proofs.Common.{rules, ◌≡◌, true, false, refl}
use Rattle.std.proofs.lemmas.List.{take_all}
use Rattle.dm_prim.specs.InTurn.{done}
use Rattle.dm_repo.proofs.FrontLemmas.{leads_more, stops_there}
use Rattle.dm_repo.proofs.fit.fit_first.Goals as goal

pub loop-k-init : goal.loop-k-init
loop-k-init g c = λ s e. (s, e, done)

pub returns-then-not-branch : goal.returns-then-not-branch
returns-then-not-branch g c = λ s e.
    let none : c.in_ok-apply_patch.field-0 ≡ false = search rules in
    let r = c.loop-k.invariant s e in
    let x = c.index-list-k.result in
    ((c.loop-k.k, x), refl, stops_there c.args.list.now c.loop-k.k x c.loop-k-test.true c.index-list-k.is r.2 (rw none at (c.in_ok-apply_patch.ensures r.0 r.1)))

pub loop-k-preserved : goal.loop-k-preserved
loop-k-preserved g c = λ s e.
    let all : c.in_ok-apply_patch.field-0 ≡ true = search rules in
    let r = c.loop-k.invariant s e in
    let t = rw all at (c.in_ok-apply_patch.ensures r.0 r.1) in
    (t.0, t.1, leads_more c.args.list.now c.loop-k.k c.index-list-k.result c.loop-k-test.true c.index-list-k.is r.2 t.2)

pub returns : goal.returns
returns g c = λ s e.
    let r = c.loop-k.invariant s e in
    (r.0, r.1, rw (take_all c.loop-k.k c.args.list.now c.loop-k-test.false) at r.2)
