-- Which lists of primitives values of the code are, and what passing them returns.
use Rattle.std.specs.Prelude.{List, Vec, map, Option, Some, None}
use Rattle.dm_prim.specs.Primitives as primitives
use Rattle.dm_prim.specs.Prims.{prims_of}
use Rattle.dm_prim.specs.declared.primitive.Primitive.{Primitive}
use Rattle.dm_element.specs.Elements.{EachPasses}

-- the lists of primitives that values are
abbrev pub lists_of : {Z Y : Type 0} → List (Vec (Primitive Z) Y) → List (List primitives.Prim)
lists_of ls = map (λ l. prims_of l.items) ls

-- all these lists pass xs, and become those that are returned; where none are, not all do
abbrev pub EachPassesTo : {Z Y : Type 0} → List primitives.Prim → List (List primitives.Prim) → Option (Vec (Vec (Primitive Z) Y) Y) → Type 0
EachPassesTo xs ms None = (ms' : List (List primitives.Prim)) → EachPasses xs ms ms' → ⊥
EachPassesTo xs ms (Some r) = EachPasses xs ms (lists_of r.items)
