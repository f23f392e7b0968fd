use Rattle.std.proofs.Common.{◌≡◌, ◌+◌, ◌∙◌, ap, take}
use Rattle.serde_json.specs.Data.{object}
use Rattle.dm_prim.specs.Prims.{prim_of, prims_of}
use Rattle.dm_prim.proofs.ListLemmas.{count_of, prims_more}
use Rattle.dm_log.specs.Json.{change_data}
use Rattle.dm_log.proofs.JsonLemmas.{values_end, values_more}
use Rattle.dm_log.proofs.json_lines.change.changes_value.Goals as goal

pub loop-prim-preserved : goal.loop-prim-preserved
loop-prim-preserved g c =
    let prims = c.args.prims.now in
    let i = c.loop-prim.prim-index in
    let p = c.prim-item.result in
    values_more change_data (take i (prims_of prims)) (take (i + 1) (prims_of prims)) (prim_of p) c.loop-prim.list.items c.push.new.self.items c.into_value.result
    (prims_more prims i p c.loop-prim-test.true c.prim-item.is) c.loop-prim.invariant c.in_ok-push.ensures.items
    (c.into_value.ensures ∙ ap object c.in_ok-change_object.ensures)

pub returns : goal.returns
returns g c =
    let prims = c.args.prims.now in
    values_end change_data (prims_of prims) c.loop-prim.prim-index c.loop-prim.list (rw (count_of prims) c.loop-prim-test.false) c.loop-prim.invariant
