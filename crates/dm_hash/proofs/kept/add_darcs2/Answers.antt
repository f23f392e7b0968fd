use Rattle.std.proofs.Common.{◌≡◌, ◌++◌, List, ℕ, length, sym, ap, subst, ◌∙◌}
use Rattle.std.specs.Prelude.{codes}
use Rattle.std.specs.List.{flat_map}
use Rattle.sha1.specs.Sha1.{Holds}
use Rattle.dm_prim.specs.Prims.{prim_of}
use Rattle.dm_named.specs.Canonical.{prim_text}
use Rattle.dm_named.proofs.PrimLemmas.{count_map}
use Rattle.dm_hash.specs.Kept.{kept_front, gap, darcs2_body}
use Rattle.dm_hash.proofs.KeptLemmas.{two_pieces, three_pieces, no_prims, some_prims}
use Rattle.dm_hash.proofs.kept.add_darcs2.Goals as goal

pub returns-then-prims-eq0 : goal.returns-then-prims-eq0
returns-then-prims-eq0 g c = λ m h.
    let p = c.args.patch.now in
    let same : length p.prims ≡ length c.prims.result.now = ap length (sym c.prims.ensures) ∙ count_map prim_of c.prims.result.now in
    let none : darcs2_body p.deps p.prims ≡ codes "\n" = no_prims p.deps p.prims (same ∙ c.if-prims-eq0.true) in
    let first : Holds c.update.new.self (m ++ kept_front p) = rw c.requires.front at (c.update.ensures m h) in
    subst (λ (b : List ℕ). Holds c.update-then-prims-eq0.new.self (m ++ (kept_front p ++ b))) (sym none)
    (two_pieces c.update-then-prims-eq0.new.self m (kept_front p) (codes "\n") (c.update-then-prims-eq0.ensures (m ++ kept_front p) first))

pub returns : goal.returns
returns g c = λ m h.
    let p = c.args.patch.now in
    let same : length p.prims ≡ length c.prims.result.now = ap length (sym c.prims.ensures) ∙ count_map prim_of c.prims.result.now in
    let some : darcs2_body p.deps p.prims ≡ gap p.deps ++ flat_map prim_text p.prims = some_prims p.deps p.prims (λ e. c.if-prims-eq0.false (sym same ∙ e)) in
    let first : Holds c.update.new.self (m ++ kept_front p) = rw c.requires.front at (c.update.ensures m h) in
    let second : Holds c.update-2.new.self ((m ++ kept_front p) ++ gap p.deps) = rw (c.gap_after.ensures, c.deps.ensures) at (c.update-2.ensures (m ++ kept_front p) first) in
    let third : Holds c.update-3.new.self (((m ++ kept_front p) ++ gap p.deps) ++ flat_map prim_text p.prims) = rw c.without_braces.ensures at (c.update-3.ensures ((m ++ kept_front p) ++ gap p.deps) second) in
    subst (λ (b : List ℕ). Holds c.update-3.new.self (m ++ (kept_front p ++ b))) (sym some)
    (three_pieces c.update-3.new.self m (kept_front p) (gap p.deps) (flat_map prim_text p.prims) third)
