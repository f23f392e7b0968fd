use Rattle.std.proofs.Common.{rules, ◌≤◌, refl, length, arith}
use Rattle.std.proofs.lemmas.Result.{err_from_is_err_and}
use borrow.Author.Rules.{scaled_Fits}
use Rattle.std.proofs.lemmas.List.{take_all}
use Rattle.dm_prim.specs.Commuting.{Commutes}
use Rattle.dm_prim.specs.Prims.{prim_of}
use Rattle.dm_prim.specs.Rectangles.{none}
use Rattle.dm_repo.proofs.ClashLemmas.{row_step, row_stop}
use Rattle.dm_repo.proofs.clash.row_stop.Goals as goal

pub loop-k-init : goal.loop-k-init
loop-k-init g c = record { passed = rw c.in_ok-first.ensures.value none; ahead = refl }

pub returns-in_default : goal.returns-in_default
returns-in_default g c = row_stop prim_of Commutes c.args.row.now c.loop-k.row c.loop-k.k c.index-row-k.result c.loop-k-test.true c.loop-k.auto.row c.loop-k.invariant.ahead c.index-row-k.is c.loop-k.invariant.passed
    (rw (← c.index-row-k.is) at (rw c.in_default.is at c.in_ok-passed.ensures.answer))

pub loop-k-preserved : goal.loop-k-preserved
loop-k-preserved g c =
    let s = row_step prim_of Commutes c.args.row.now c.loop-k.row c.loop-k.k c.index-row-k.result c.in-Some.passed c.loop-k-test.true c.loop-k.auto.row c.loop-k.invariant.ahead c.loop-k.invariant.passed
    (rw c.in-Some.is at c.in_ok-passed.ensures.answer) in
    record { passed = s.0; ahead = s.1 }

pub returns : goal.returns
returns g c =
    let l : length c.loop-k.row ≤ c.loop-k.k = omega (arith, c.loop-k-test.false, c.loop-k.auto.row) in
    (prim_of c.loop-k.first, rw (take_all c.loop-k.k c.args.row.now c.loop-k-test.false, take_all c.loop-k.k c.loop-k.row l) at c.loop-k.invariant.passed)

pub offset_bounds-row-k : goal.offset_bounds-row-k
offset_bounds-row-k g c = scaled_Fits _ _ _ c.loop-k-test.true (search rules)

pub commute-requires : goal.commute-requires
commute-requires g c κs = λ h. h

pub returns-in_err-first : goal.returns-in_err-first
returns-in_err-first g c = let p = err_from_is_err_and c.from_residual.result c.from_residual.ensures.1 in rw p.1 tt
