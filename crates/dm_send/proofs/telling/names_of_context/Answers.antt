use Rattle.std.proofs.Common.{◌≡◌, [], length, refl}
use Rattle.dm_repo.proofs.Following.{nothing_left}
use Rattle.dm_send.proofs.Contexts.{alone, some_left}
use Rattle.dm_send.proofs.telling.names_of_context.Goals as goal

pub returns-in-Err-read_bundle_within-clause-fault : goal.returns-in-Err-read_bundle_within-clause-fault
returns-in-Err-read_bundle_within-clause-fault g c = λ n. (c.in-Err-read_bundle_within.fault.at, c.saturating_sub.ensures, rw (c.deref.ensures.value, c.in-Ok.ensures) at (c.in-Err-read_bundle_within.ensures.err n))

pub returns-in-Ok-names_in-clause-found : goal.returns-in-Ok-names_in-clause-found
returns-in-Ok-names_in-clause-found g c =
    let stands = rw (c.deref.ensures.value, c.in-Ok.ensures) at c.in-Ok-read_bundle_within.ensures.ok in
    let none : c.in-Ok-read_bundle_within.bundle.patches ≡ [] = rw c.new_patches.ensures.value at (nothing_left c.new_patches.result.now (length c.new_patches.result.now) refl c.if-not-is_empty.ensures) in
    alone c.in-Ok-read_bundle_within.bundle none c.in-Ok-names_in.ensures stands

pub returns-then-not-is_empty-clause-found : goal.returns-then-not-is_empty-clause-found
returns-then-not-is_empty-clause-found g c =
    let stands = rw (c.deref.ensures.value, c.in-Ok.ensures) at c.in-Ok-read_bundle_within.ensures.ok in
    (c.in-Ok-read_bundle_within.bundle, stands, rw c.new_patches.ensures.value at (some_left c.new_patches.result.now c.if-not-is_empty.ensures))
