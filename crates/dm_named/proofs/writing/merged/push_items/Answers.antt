use Rattle.std.proofs.Common.{ap, ◌∙◌, ◌++◌}
use Rattle.std.specs.List.{flat_map}
use Rattle.std.proofs.lemmas.List.{take_all}
use Rattle.dm_prim.specs.Commuting.{IsValidPrim}
use Rattle.dm_named.specs.Kinds.{HasBytes}
use Rattle.dm_named.specs.MergedPatches.{EachOfItem}
use Rattle.dm_named.specs.Items.{item_of, items_of}
use Rattle.dm_named.specs.CanonicalMerged.{item_text}
use Rattle.dm_named.proofs.NamedLemmas.{all_more_of, text_more}
use Rattle.dm_named.proofs.writing.merged.push_items.Goals as goal

pub loop-item-preserved : goal.loop-item-preserved
loop-item-preserved g c =
    let items = c.args.items.now in
    let i = c.loop-item.item-index in
    let so = c.loop-item.invariant in
    record {
      text = text_more item_text item_of items i c.item-item.result c.args.out.now.items c.loop-item.out.items c.push_item.new.out.items c.loop-item-test.true c.item-item.is so.text c.in_ok-push_item.ensures.text;
      valid = all_more_of (EachOfItem IsValidPrim) item_of items i c.item-item.result c.loop-item-test.true c.item-item.is c.in_ok-push_item.ensures.valid so.valid;
      bytes = all_more_of (EachOfItem HasBytes) item_of items i c.item-item.result c.loop-item-test.true c.item-item.is c.in_ok-push_item.ensures.bytes so.bytes;
    }

pub returns-clause-text : goal.returns-clause-text
returns-clause-text g c = c.loop-item.invariant.text ∙ ap (λ is. c.args.out.now.items ++ flat_map item_text (items_of is)) (take_all c.loop-item.item-index c.args.items.now c.loop-item-test.false)

pub returns-clause-valid : goal.returns-clause-valid
returns-clause-valid g c = rw (take_all c.loop-item.item-index c.args.items.now c.loop-item-test.false) at c.loop-item.invariant.valid

pub returns-clause-bytes : goal.returns-clause-bytes
returns-clause-bytes g c = rw (take_all c.loop-item.item-index c.args.items.now c.loop-item-test.false) at c.loop-item.invariant.bytes
