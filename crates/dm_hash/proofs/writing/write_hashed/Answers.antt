use Rattle.std.proofs.Common.{List, ℕ, subst, sym}
use Rattle.dm_bundle.specs.Bundles.{EndsAtIn}
use Rattle.dm_bundle.proofs.ChosenKinds.{all_writable}
use Rattle.dm_hash.specs.Trailers.{trailer_text}
use Rattle.dm_hash.proofs.TrailerLemmas.{written_right, written_ends}
use Rattle.dm_hash.proofs.writing.write_hashed.Goals as goal

pub returns-clause-text : goal.returns-clause-text
returns-clause-text g c = rw (c.in_ok-text.ensures.text, c.new_patches.ensures.value) at c.in_ok-push_trailer.ensures

pub returns-clause-ends : goal.returns-clause-ends
returns-clause-ends g c = λ kinds of_kinds.
    let b = c.args.bundle.now in
    subst (λ (t : List ℕ). EndsAtIn kinds t b (trailer_text b.patches)) (sym (returns-clause-text g c))
    (written_ends kinds b c.in_ok-text.ensures.valid (all_writable kinds b.patches c.in_ok-text.ensures.bytes of_kinds))

pub returns-clause-stands : goal.returns-clause-stands
returns-clause-stands g c = λ kinds of_kinds. (returns-clause-ends g c kinds of_kinds).stands

pub returns-clause-right : goal.returns-clause-right
returns-clause-right g c = written_right c.args.bundle.now.patches
