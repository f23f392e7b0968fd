use Rattle.std.proofs.Common.{[]}
use Rattle.dm_tree.specs.Trees.{Dir}
use Rattle.dm_checkout.specs.Made.{made_of, rows}
use Rattle.dm_checkout.specs.Faults.{made_item}
use Rattle.dm_checkout.proofs.MadeLemmas.{item_made, on_err, part_begun, row_more, rows_begun, rows_long}
use Rattle.dm_checkout.proofs.writing.write_rows.Goals as goal

pub returns-in_err-item-clause-err : goal.returns-in_err-item-clause-err
returns-in_err-item-clause-err g c =
    on_err c.from_residual.result _ (rows_begun (made_of c.args.folder.now) (rows c.args.tree.now) c.loop-i.i (g.D.Disk.made c.args.disk.now) (g.D.Disk.made c.loop-i.disk) c.loop-i.invariant)

pub returns-in_err-make_item-clause-err : goal.returns-in_err-make_item-clause-err
returns-in_err-make_item-clause-err g c =
    let t = c.args.tree.now in
    let one = item_made c.args.folder.now t c.loop-i.i ([], Dir) c.args.listing.now c.index-listing-i.result c.in_ok-item.item c.requires c.loop-i-test.true c.in_ok-item.ensures.place c.in_ok-item.ensures.content in
    on_err c.from_residual-in_err-make_item.result _ (part_begun (made_of c.args.folder.now) (rows t) c.loop-i.i ([], Dir) (g.D.Disk.made c.args.disk.now) (g.D.Disk.made c.loop-i.disk) (g.D.Disk.made c.make_item.new.disk) c.in_ok-item.item (rows_long (rows t) c.args.listing.now c.loop-i.i c.requires c.loop-i-test.true) c.loop-i.invariant one c.in_err-make_item.ensures.err)

pub loop-i-preserved : goal.loop-i-preserved
loop-i-preserved g c =
    let t = c.args.tree.now in
    let one = item_made c.args.folder.now t c.loop-i.i ([], Dir) c.args.listing.now c.index-listing-i.result c.in_ok-item.item c.requires c.loop-i-test.true c.in_ok-item.ensures.place c.in_ok-item.ensures.content in
    row_more (made_of c.args.folder.now) (rows t) c.loop-i.i ([], Dir) (g.D.Disk.made c.args.disk.now) (g.D.Disk.made c.loop-i.disk) (g.D.Disk.made c.make_item.new.disk) (made_item c.in_ok-item.item) (rows_long (rows t) c.args.listing.now c.loop-i.i c.requires c.loop-i-test.true) c.loop-i.invariant one c.in_ok-make_item.ensures.ok
