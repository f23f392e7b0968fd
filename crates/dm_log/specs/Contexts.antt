-- The context of a repository.
use Rattle.std.specs.Prelude.{ℕ, List, ◌∷◌, ◌++◌, codes, reverse}
use Rattle.std.specs.List.{flat_map}
use Rattle.dm_info.specs.PatchInfo.{PatchInfo}
use Rattle.dm_named.specs.Canonical.{info_line}

-- an empty line, the heading, an empty line, and each patch info behind an empty line, the newest first
abbrev pub context_text : List PatchInfo → List ℕ
context_text infos = codes "\nContext:\n\n" ++ flat_map (λ i. 10 ∷ info_line i) (reverse infos)
