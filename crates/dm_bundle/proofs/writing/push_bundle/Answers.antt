use Rattle.std.proofs.Common.{◌≡◌, ◌++◌, List, ℕ, append_assoc, refl}
use Rattle.std.specs.Prelude.{codes}
use Rattle.std.specs.List.{flat_map}
use Rattle.dm_named.specs.Canonical.{info_line, patch_text}
use Rattle.dm_bundle.proofs.ChosenKinds.{all_writable}
use Rattle.dm_bundle.proofs.RoundTrips.{round_trip}
use Rattle.dm_bundle.proofs.writing.push_bundle.Goals as goal

joined : (old a b c d s e f g : List ℕ) → s ≡ old ++ a → e ≡ s ++ b → f ≡ e ++ c → g ≡ f ++ d → g ≡ old ++ (a ++ (b ++ (c ++ d)))
joined old a b c d s e f g v w x y = rw (y, x, w, v) (simp append_assoc refl)

pub returns-clause-text : goal.returns-clause-text
returns-clause-text g c =
    joined c.args.out.now.items (codes "New patches:\n\n") (flat_map patch_text c.args.patches.now) (codes "\nContext:\n\n") (flat_map info_line c.args.context.now) c.extend_from_slice.new.self.items c.push_patches.new.out.items c.extend_from_slice-2.new.self.items c.push_context.new.out.items
    c.in_ok-extend_from_slice.ensures.items c.in_ok-push_patches.ensures.text c.in_ok-extend_from_slice-2.ensures.items c.in_ok-push_context.ensures.text

pub returns-clause-valid : goal.returns-clause-valid
returns-clause-valid g c = (c.in_ok-push_patches.ensures.valid, c.in_ok-push_context.ensures.valid)

pub returns-clause-bytes : goal.returns-clause-bytes
returns-clause-bytes g c = c.in_ok-push_patches.ensures.bytes

pub returns-clause-stands : goal.returns-clause-stands
returns-clause-stands g c = λ no_doubles kinds of_kinds.
    round_trip kinds (record { patches = c.args.patches.now; context = c.args.context.now })
    (record { patches = c.in_ok-push_patches.ensures.valid; context = c.in_ok-push_context.ensures.valid; no_doubles = no_doubles })
    (all_writable kinds c.args.patches.now c.in_ok-push_patches.ensures.bytes of_kinds)
