use Rattle.std.proofs.Common.{◌≡◌, ◌-◌, length, sym, ap, ◌∙◌, arith}
use Rattle.dm_prim.specs.Prims.{prim_of}
use Rattle.dm_named.specs.Canonical.{body_text}
use Rattle.dm_named.proofs.PrimLemmas.{count_map}
use Rattle.dm_hash.proofs.KeptLemmas.{braced_room, inside}
use Rattle.dm_hash.proofs.kept.without_braces.Goals as goal

pub overflow_sub-result : goal.overflow_sub-result
overflow_sub-result g c =
    let ps = c.args.patch.now.prims in
    let same : length ps ≡ length c.prims.result.now = ap length (sym c.prims.ensures) ∙ count_map prim_of c.prims.result.now in
    let room = braced_room ps (λ e. c.if-prims-eq1.false (sym same ∙ e)) in
    omega (arith, room, ap length c.requires)

pub slice_bounds-result-count : goal.slice_bounds-result-count
slice_bounds-result-count g c =
    let ps = c.args.patch.now.prims in
    let same : length ps ≡ length c.prims.result.now = ap length (sym c.prims.ensures) ∙ count_map prim_of c.prims.result.now in
    let room = braced_room ps (λ e. c.if-prims-eq1.false (sym same ∙ e)) in
    omega (arith, room, ap length c.requires)

pub slice_bounds-result-start : goal.slice_bounds-result-start
slice_bounds-result-start g c = omega (arith, slice_bounds-result-count g c)

pub returns : goal.returns
returns g c =
    let ps = c.args.patch.now.prims in
    let same : length ps ≡ length c.prims.result.now = ap length (sym c.prims.ensures) ∙ count_map prim_of c.prims.result.now in
    let other : length ps ≡ 1 → ⊥ = λ e. c.if-prims-eq1.false (sym same ∙ e) in
    rw c.requires (inside ps (length (body_text ps) - 2 - 2) other (omega (arith, braced_room ps other)))
