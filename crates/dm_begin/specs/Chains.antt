-- What a patch of a base rests on. Clauses of private functions cite it.
use Rattle.std.specs.Prelude.{List, [], ◌∷◌}
use Rattle.dm_info.specs.PatchInfo.{PatchInfo}
use Rattle.dm_named.specs.Patches.{Patch}

-- what the next patch of a chain rests on: the name of the last one, or these if there is none
abbrev pub last_name : List PatchInfo → List Patch → List PatchInfo
last_name deps [] = deps
last_name deps (x ∷ xs) = last_name (x.info ∷ []) xs
