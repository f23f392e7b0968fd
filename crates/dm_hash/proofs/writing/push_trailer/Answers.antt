use Rattle.std.proofs.Common.{◌≡◌, ◌++◌, ◌∷◌, [], List, ℕ, append_assoc, refl}
use Rattle.std.specs.Prelude.{codes}
use Rattle.dm_hash.specs.Kept.{darcs1_text}
use Rattle.dm_hash.specs.Trailers.{hash_text}
use Rattle.dm_hash.proofs.writing.push_trailer.Goals as goal

joined : (s a b c t u v : List ℕ) → t ≡ s ++ a → u ≡ t ++ b → v ≡ u ++ c → v ≡ s ++ (a ++ (b ++ c))
joined s a b c t u v x y z = rw (z, y, x) (simp append_assoc refl)

pub returns : goal.returns
returns g c =
    joined c.args.out.now.items (codes "Patch bundle hash:\n") (hash_text (darcs1_text c.args.patches.now)) (10 ∷ [])
    c.extend_from_slice.new.self.items c.extend_from_slice-2.new.self.items c.push.new.self.items
    c.in_ok-extend_from_slice.ensures.items
    (rw (c.as_bytes.ensures.value, c.in_ok-digits.ensures, c.as_slice.ensures, c.in_ok-hashes.ensures.darcs1) at c.in_ok-extend_from_slice-2.ensures.items)
    c.in_ok-push.ensures.items
