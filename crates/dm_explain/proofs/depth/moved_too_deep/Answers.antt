use Rattle.std.proofs.Common.{◌∙◌}
use Rattle.dm_explain.proofs.AccountLemmas.{same_move}
use Rattle.dm_explain.proofs.RowLemmas.{first_there, first_before, none_shallow}
use Rattle.dm_explain.proofs.depth.moved_too_deep.Goals as goal

pub unreachable-requires-in_default-2 : goal.unreachable-requires-in_default-2
unreachable-requires-in_default-2 c =
    let tree = c.args.misfit.now.tree in
    let move = c.in-Some-Move in
    let is = c.deref.ensures.value ∙ c.in_ok-listing.ensures in
    let same = same_move c.prims.result.now c.args.misfit.now.prim move.field-0.now move.from move.to c.prims.ensures move.ensures.lookup.3.0 move.ensures.lookup.1 move.field-0-is c.requires.2 in
    none_shallow tree move.from move.to c.deref.result.now is c.tree_is_lawful.ensures.lawful (rw (same.0, same.1) at c.requires.3) (rw c.in_default-2.is at c.in_ok-path.ensures)

pub returns : goal.returns
returns c =
    let tree = c.args.misfit.now.tree in
    let move = c.in-Some-Move in
    let rows = c.deref.result.now in
    let is = c.deref.ensures.value ∙ c.in_ok-listing.ensures in
    let lawful = c.tree_is_lawful.ensures.lawful in
    let same = same_move c.prims.result.now c.args.misfit.now.prim move.field-0.now move.from move.to c.prims.ensures move.ensures.lookup.3.0 move.ensures.lookup.1 move.field-0-is c.requires.2 in
    let refused = rw (same.0, same.1) at c.requires.3 in
    let first = rw c.in-Some.is at c.in_ok-path.ensures in
    record {
      from = move.from;
      to = move.to;
      is_move = rw (same.0, same.1) at c.requires.2;
      is_there = first_there tree move.from move.to rows is lawful refused c.in-Some.path first;
      is_too_deep = first.is_too_deep;
      is_first = first_before tree move.from move.to rows is lawful refused c.in-Some.path first;
    }
