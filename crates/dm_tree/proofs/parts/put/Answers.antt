use Rattle.std.proofs.Common.{◌≡◌, ◌++◌, ◌∙◌, take, drop, length, map, sym, ap, arith, length-append}
use Rattle.std.specs.List.{splice}
use Rattle.std.proofs.lemmas.List.{map-id}
use Rattle.std.proofs.lemmas.Iterator.{items_from_drains}
use Rattle.std.proofs.lemmas.Iterator.Adapters.{YieldsList-from_vec}
use Rattle.dm_tree.proofs.parts.put.Goals as goal

spliced : (g : _) (c : goal.After-drop-branch g) → c.splice.new.self.items ≡ splice c.args.parts.now.items c.args.start c.args.end c.args.made.items
spliced g c =
    let e = c.in_ok-splice.ensures.items in
    let d = e.3 in
    let all : map (λ x. x) e.1 ≡ c.args.made.items = items_from_drains e.1 (d.1.0, d.1.1, λ _. (d.0, d.1.2)) (YieldsList-from_vec {s = e.0} c.args.made.items e.2.0 (e.2.1 ∙ c.args.made.ok.0)) in
    e.4 ∙ ap (splice c.args.parts.now.items c.args.start c.args.end) (sym (map-id e.1) ∙ all)

pub returns-clause-ok : goal.returns-clause-ok
returns-clause-ok g c = spliced g c

pub returns-clause-some : goal.returns-clause-some
returns-clause-some g c =
    omega (
      arith,
      c.requires.made,
      ap length (spliced g c),
      length-append (take c.args.start c.args.parts.now.items) (c.args.made.items ++ drop c.args.end c.args.parts.now.items),
      length-append c.args.made.items (drop c.args.end c.args.parts.now.items),
    )
