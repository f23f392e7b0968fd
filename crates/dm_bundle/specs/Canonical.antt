-- The canonical text of a bundle.
use Rattle.std.specs.Prelude.{ℕ, List, ◌++◌, codes}
use Rattle.std.specs.List.{flat_map}
use Rattle.dm_named.specs.Canonical.{info_line, patch_text}
use Rattle.dm_bundle.specs.Bundles.{Contents}

-- the heading and an empty line, the new patches, an empty line, `Context:` and an empty line, and the context in its order
abbrev pub bundle_text : Contents → List ℕ
bundle_text b = codes "New patches:\n\n" ++ (flat_map patch_text b.patches ++ (codes "\nContext:\n\n" ++ flat_map info_line b.context))
