use Rattle.std.proofs.Common.{◌∙◌, ap, sym, subst, take}
use Rattle.std.specs.List.{flat_map}
use Rattle.std.proofs.lemmas.List.{take_all}
use Rattle.dm_prim.specs.Prims.{prim_of, prims_of}
use Rattle.dm_prim.specs.Touch.{paths_of}
use Rattle.dm_prim.proofs.ListLemmas.{count_of, prims_more}
use Rattle.dm_log.specs.Collecting.{AddsPaths}
use Rattle.dm_log.proofs.TouchedLemmas.{adds_both, paths_more}
use Rattle.dm_log.proofs.paths.PathLines.add_prims.Goals as goal

pub loop-prim-preserved : goal.loop-prim-preserved
loop-prim-preserved g c =
    let prims = c.args.prims.now in
    let i = c.loop-prim.prim-index in
    let p = c.prim-item.result in
    let turn = ap (λ xs. flat_map paths_of xs) (prims_more prims i p c.loop-prim-test.true c.prim-item.is) ∙ paths_more (take i (prims_of prims)) (prim_of p) in
    subst (λ xs. AddsPaths xs c.args.self.now c.add_prim.new.self) (sym turn)
    (adds_both (flat_map paths_of (take i (prims_of prims))) (paths_of (prim_of p)) c.args.self.now c.loop-prim.self c.add_prim.new.self c.loop-prim.invariant c.in_ok-add_prim.ensures)

pub returns : goal.returns
returns g c =
    let prims = c.args.prims.now in
    subst (λ xs. AddsPaths (flat_map paths_of xs) c.args.self.now c.loop-prim.self) (take_all c.loop-prim.prim-index (prims_of prims) (rw (count_of prims) c.loop-prim-test.false)) c.loop-prim.invariant
