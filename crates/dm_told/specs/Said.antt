-- The printed texts of what commands say in a line that answers no text.
use Rattle.std.specs.Prelude.{ℕ, List, [], ◌∷◌, ◌++◌, codes, nat_eq, if◌then◌else◌}
use Rattle.std.specs.Fmt.{decimal}
use Rattle.dm_told.specs.declared.said.Said.{Said}
use Rattle.dm_told.specs.declared.said.Said.TheVariants.{Obliterated, Depends, Began, ReadsAllKinds}

-- so many patches
abbrev pub counted : ℕ → List ℕ
counted count = if nat_eq count 1 then codes "1 patch" else decimal count ++ codes " patches"

-- the mirror of this file began with so many patches
abbrev pub begun_text : List ℕ → ℕ → List ℕ
begun_text path count = codes "mirror " ++ (path ++ (codes ": " ++ counted count))

-- what is said
abbrev pub said_text : Said → List ℕ
said_text (Obliterated count) = codes "obliterated " ++ decimal count
said_text (Depends count) = codes "refused depends " ++ decimal count
said_text (Began path count) = begun_text path.now count
said_text (ReadsAllKinds path) = codes "mirror " ++ (path.now ++ codes ": all kinds")

-- in a line
abbrev pub said_line : Said → List ℕ
said_line said = said_text said ++ 10 ∷ []
