use Rattle.std.proofs.Common.{◌≡◌, ◌++◌, take}
use Rattle.std.specs.List.{flat_map}
use Rattle.dm_prim.specs.Commuting.{IsValidPrim}
use Rattle.dm_named.specs.Kinds.{HasBytes}
use Rattle.dm_named.specs.MergedPatches.{EachOfItems}
use Rattle.dm_named.specs.Items.{items_of}
use Rattle.dm_named.specs.CanonicalMerged.{item_text}
use Rattle.dm_named.proofs.writing.merged.push_items.Given as goal

abbrev pub invariant-loop-item : goal.invariant-loop-item
invariant-loop-item g l =
    record {
      text : l.out.items ≡ l.fn.out.items ++ flat_map item_text (items_of (take l.item-index l.items));
      valid : EachOfItems IsValidPrim (items_of (take l.item-index l.items));
      bytes : EachOfItems HasBytes (items_of (take l.item-index l.items));
    }
