use Rattle.std.proofs.Common.{refl, sym, subst, IsSome}
use Rattle.dm_tree.specs.Children.{look}
use Rattle.dm_tree.specs.Walks.{part_of}
use Rattle.dm_tree.proofs.MoveLemmas.{may_apart, still_there, placed, shifted}
use Rattle.dm_tree.proofs.Steps.{some_of}
use Rattle.dm_tree.proofs.rename.move_node.Goals as goal

pub cut-body-requires-clause-there : goal.cut-body-requires-clause-there
cut-body-requires-clause-there g c =
    let m0 = look c.args.children.now.items in
    let m1 = look c.add.new.children.items in
    let a = c.args.from.now in
    let b = c.args.to.now in
    still_there m0 m1 m1 m1 m1 a b (may_apart m0 c.requires.lawful a b c.requires.may) c.in_ok-add.ensures.ok (some_of (m0 a) c.requires.may.present)

pub put-requires-clause-there : goal.put-requires-clause-there
put-requires-clause-there g c =
    let m0 = look c.args.children.now.items in
    let m1 = look c.add.new.children.items in
    let m2 = look c.cut-body.new.children.items in
    let a = c.args.from.now in
    let b = c.args.to.now in
    let at = placed m0 m1 m2 m2 (part_of c.cut-body.result) a b (may_apart m0 c.requires.lawful a b c.requires.may) c.in_ok-add.ensures.ok c.cut-body.ensures.cut in
    subst IsSome (sym at) refl

pub returns-clause-ok : goal.returns-clause-ok
returns-clause-ok g c =
    let m0 = look c.args.children.now.items in
    let m1 = look c.add.new.children.items in
    let m2 = look c.cut-body.new.children.items in
    let m3 = look c.put.new.children.items in
    let a = c.args.from.now in
    let b = c.args.to.now in
    shifted m0 m1 m2 m3 (part_of c.cut-body.result) a b (may_apart m0 c.requires.lawful a b c.requires.may) c.in_ok-add.ensures.ok c.cut-body.ensures.cut c.cut-body.ensures.part c.put.ensures.put
