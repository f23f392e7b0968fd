use Rattle.std.proofs.Common.{refl}
use Rattle.dm_bundle.proofs.writing.write_bundle.Goals as goal

pub returns-clause-text : goal.returns-clause-text
returns-clause-text g c = rw (c.in_ok-push_bundle.ensures.text, c.new-text.ensures.items, c.new_patches.ensures.value, c.context.ensures) refl

pub returns-clause-valid : goal.returns-clause-valid
returns-clause-valid g c =
    let parts = rw (c.new_patches.ensures.value, c.context.ensures) at c.in_ok-push_bundle.ensures.valid in
    record { patches = parts.0; context = parts.1; no_doubles = c.new_patches.ensures.no_doubles }

pub returns-clause-bytes : goal.returns-clause-bytes
returns-clause-bytes g c = rw (← c.new_patches.ensures.value) c.in_ok-push_bundle.ensures.bytes

pub returns-clause-stands : goal.returns-clause-stands
returns-clause-stands g c =
    let stands = rw (c.new_patches.ensures.value, c.context.ensures) at c.in_ok-push_bundle.ensures.stands in
    λ kinds of_kinds. rw (returns-clause-text g c) (stands c.new_patches.ensures.no_doubles kinds of_kinds)
