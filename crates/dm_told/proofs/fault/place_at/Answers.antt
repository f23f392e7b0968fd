use Rattle.std.proofs.Common.{◌+◌, ◌-◌, List, ℕ, ap, length, refl}
use Rattle.dm_told.proofs.PatchLemmas.{place_told}
use Rattle.dm_told.proofs.fault.place_at.Goals as goal

pub returns : goal.returns
returns c =
    let before = c.before-before.result.now in
    let start = c.place_of-place.result.start in
    let told = place_told c.args.text.now before c.args.at (length before) c.place_of-place.result.line start c.before-before.ensures refl c.place_of-place.ensures.line c.place_of-place.ensures.start in
    (start, told.0, told.1, ap (λ (t : List ℕ). length t - start + 1) c.before-before.ensures)
