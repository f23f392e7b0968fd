-- Which item of a patch's body a value of the code is.
use Rattle.std.specs.Prelude.{List, map}
use Rattle.dm_prim.specs.Prims.{prim_of}
use Rattle.dm_named.specs.MergedPatches as merged
use Rattle.dm_named.specs.declared.item.Item.{Item}
use Rattle.dm_named.specs.declared.item.Item.TheVariants.{Plain, Conflicted}

-- the item that a value is
abbrev pub item_of : {Z : Type 0} → Item Z → merged.Item
item_of (Plain p) = merged.Plain (prim_of p)
item_of (Conflicted c) = merged.Conflicted c

abbrev pub items_of : {Z : Type 0} → List (Item Z) → List merged.Item
items_of is = map item_of is
