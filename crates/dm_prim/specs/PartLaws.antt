-- What holds of a part, of all maps and primitives.
use Rattle.std.specs.Prelude.{◌≡◌, ◌↔◌, List}
use Rattle.dm_tree.specs.Paths.{Path}
use Rattle.dm_tree.specs.Trees.{Map, IsLawful, Deep}
use Rattle.dm_tree.specs.Reach.{IsPart, Puts}
use Rattle.dm_prim.specs.Primitives.{Prim, Applies}
use Rattle.dm_prim.specs.Limits.{TurnsLarge}
use Rattle.dm_prim.specs.Parts.{NamesUnder, IsSameOutside, IsSameBut}

-- the part of a lawful map is lawful
abbrev pub PartIsLawful : Type 0
PartIsLawful = (ps : List Path) (s u : Map) → IsLawful s → IsPart ps s u → IsLawful u

-- a primitive that names nothing but what is at or under these paths leads from one map to another exactly where it leads from the part of the one
-- to the part of the other, and the two are the same elsewhere
abbrev pub AppliesToPart : Type 0
AppliesToPart = (ps : List Path) (p : Prim) (s t u v : Map) → NamesUnder ps p → IsPart ps s u → IsPart ps t v →
    Applies p s t ↔ (Applies p u v × IsSameOutside ps s t)

-- it leaves a map as it is but at and under these paths
abbrev pub ChangesUnderPaths : Type 0
ChangesUnderPaths = (ps : List Path) (p : Prim) (s t : Map) → NamesUnder ps p → Applies p s t → IsSameBut ps s t

-- then the one is too deep exactly where its part is, if what it was made from wasn't
abbrev pub PartIsAsDeep : Type 0
PartIsAsDeep = (ps : List Path) (s t v : Map) → (Deep s → ⊥) → IsSameOutside ps s t → IsPart ps t v → Deep t ↔ Deep v

-- a replace's file is too large exactly where it is in the part
abbrev pub PartIsAsLarge : Type 0
PartIsAsLarge = (ps : List Path) (p : Prim) (s t u v : Map) → NamesUnder ps p → IsPart ps s u → IsPart ps t v → TurnsLarge p s t ↔ TurnsLarge p u v

-- the whole after is the whole before with what the part after has at and under these paths
abbrev pub PartIsPutBack : Type 0
PartIsPutBack = (ps : List Path) (s t v : Map) → IsSameBut ps s t → IsPart ps t v → Puts ps s v t

-- and there is one such whole
abbrev pub PutIsOne : Type 0
PutIsOne = (ps : List Path) (s v t t' : Map) → Puts ps s v t → Puts ps s v t' → t ≡ t'
