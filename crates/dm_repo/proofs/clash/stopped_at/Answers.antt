use Rattle.std.proofs.Common.{rules, ◌≡◌, ◌+◌, ◌-◌, ◌<◌, ◌≤◌, [], ◌∷◌, length, drop, ap, ◌∙◌, arith}
use Rattle.std.proofs.lemmas.List.{drop_all}
use Rattle.dm_prim.specs.Commuting.{Commutes}
use Rattle.dm_prim.specs.Prims.{prim_of, prims_of}
use Rattle.dm_prim.specs.Rectangles.{empty}
use Rattle.dm_named.specs.Patches.{Patch}
use Rattle.dm_repo.proofs.ClashLemmas.{rectangle_step, rectangle_stop}
use Rattle.dm_repo.proofs.Splits.{whole}
use Rattle.dm_repo.proofs.clash.stopped_at.Goals as goal

pub loop-k-init : goal.loop-k-init
loop-k-init g c =
    let prims = c.prims-prims.result.now in
    let e = c.replace_prims-row.ensures.taken ∙ ap (λ (x : Patch). x.prims) c.in_ok-copy.ensures in
    ([], rw (drop_all (length prims) prims (omega arith), e) empty)

pub returns-in-Some : goal.returns-in-Some
returns-in-Some g c =
    let prims = c.prims-prims.result.now in
    let j = c.loop-k.k in
    let o : 0 < j = search rules in
    let i : j ≤ length prims = search rules in
    let n : ((length prims - 1) - (j - 1)) + j ≡ length prims = omega (arith, o, i) in
    rw (← c.prims-prims.ensures)
    (rectangle_stop prim_of Commutes prims j c.index-prims-k.result o i c.index-prims-k.is n c.loop-k.invariant.1
    (rw c.as_mut_slice.ensures.value at (rw c.in-Some.is at c.in_ok-at.ensures)))

pub loop-k-preserved : goal.loop-k-preserved
loop-k-preserved g c =
    let kept = whole c.row_stop.new.row (drop (length c.row_stop.new.row) c.loop-k.row.items) c.loop-k.row.len (search rules) in
    let s = rw c.as_mut_slice.ensures.value at (rw c.in_default.is at c.in_ok-at.ensures) in (
      s.0 ∷ c.loop-k.invariant.0,
      rw kept
          (rectangle_step prim_of Commutes c.prims-prims.result.now c.loop-k.k c.index-prims-k.result (search rules) (search rules) c.index-prims-k.is c.loop-k.invariant.1 s.1),
    )

pub returns : goal.returns
returns g c =
    let z : c.loop-k.k ≡ 0 = search rules in
    let whole_row = rw z at c.loop-k.invariant.1 in
    (prims_of c.loop-k.row.items, c.loop-k.invariant.0, rw c.prims-prims.ensures at whole_row)
