use Rattle.std.proofs.Common.{◌<◌, ◌≤◌, ◌∙◌, ◌++◌, ap, sym, subst, length, take, arith}
use Rattle.std.specs.List.{flat_map}
use Rattle.dm_prim.specs.Touch.{paths_of}
use Rattle.dm_log.specs.Touched.{prims_in}
use Rattle.dm_log.specs.Collecting.{Collects}
use Rattle.dm_log.proofs.TouchedLemmas.{patch_turn, tells}
use Rattle.dm_log.proofs.paths.write_paths.Goals as goal

pub loop-k-preserved : goal.loop-k-preserved
loop-k-preserved g c =
    let ps = g.P.Patches.patches c.args.patches.now in
    let k = c.loop-k.k in
    let within : k < length ps = omega (arith, c.loop-k-test.true, c.count-all.ensures) in
    let turn = patch_turn ps k c.at.result.now within c.at.ensures ∙ ap (λ xs. flat_map paths_of (prims_in (take k ps)) ++ flat_map paths_of xs) (sym c.prims.ensures) in
    subst (λ xs. Collects xs c.add_prims.new.self) (sym turn) (c.in_ok-add_prims.ensures (flat_map paths_of (prims_in (take k ps))) c.loop-k.invariant)

pub returns : goal.returns
returns g c =
    let ps = g.P.Patches.patches c.args.patches.now in
    let all : length ps ≤ c.loop-k.k = omega (arith, c.loop-k-test.false, c.count-all.ensures) in
    rw (← c.lines-2.view_is) at (tells ps c.loop-k.k c.loop-k.lines all c.loop-k.invariant)
