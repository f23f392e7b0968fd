-- Laws of trailers.
use Rattle.std.specs.Prelude.{◌≡◌, ℕ, List, ◌++◌}
use Rattle.dm_named.specs.Patches.{Patch}
use Rattle.dm_named.specs.declared.limits.Kinds.{Kinds}
use Rattle.dm_bundle.specs.Patches.{AreAllWritable}
use Rattle.dm_bundle.specs.Bundles.{Contents, IsValidBundle, EndsAtIn}
use Rattle.dm_bundle.specs.Canonical.{bundle_text}
use Rattle.dm_hash.specs.Trailers.{TrailerSays, trailer_text}
use Rattle.dm_hash.specs.declared.trailer.Trailer.{Trailer}
use Rattle.dm_hash.specs.declared.trailer.Trailer.TheVariants.{Right}

-- a text says at most one thing of the same patches
abbrev pub OneTrailer : Type 0
OneTrailer = (patches : List Patch) (rest : List ℕ) (one other : Trailer) → TrailerSays patches rest one → TrailerSays patches rest other →
    one ≡ other

-- The canonical text of a valid bundle, whose primitives are of these kinds and can be written, and its trailer stand for the bundle; the trailer is where
-- the bundle ends, and it is right.
abbrev pub WrittenHashIsRight : Type 0
WrittenHashIsRight = (kinds : Kinds) (b : Contents) → IsValidBundle b → AreAllWritable kinds b.patches →
    EndsAtIn kinds (bundle_text b ++ trailer_text b.patches) b (trailer_text b.patches) × TrailerSays b.patches (trailer_text b.patches) Right
