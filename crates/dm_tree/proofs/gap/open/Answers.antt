use Rattle.std.proofs.Common.{◌≡◌, ◌+◌, ◌-◌, ◌∙◌, length, arith, ap, take}
use Rattle.std.specs.List.{copy_within}
use Rattle.std.proofs.lemmas.List.{length-replicate}
use Rattle.dm_tree.proofs.Places.{open_already, opened}
use Rattle.dm_tree.proofs.gap.open.Goals as goal

pub returns : goal.returns
returns g c =
    let xs = c.args.values.now.items in
    let len : c.len-len.result ≡ length xs = c.len-len.ensures ∙ c.args.values.now.ok.0 in
    let dest = c.args.start + c.args.count in
    opened xs c.resize.new.self.items c.copy_within.new.self.items c.truncate.new.self.items _ c.args.start c.args.end c.args.count c.max.result c.requires.order c.requires.within
    (omega (arith, len, c.max.ensures)) (omega (arith, len, c.max.ensures)) (length-replicate _ c.args.blank ∙ ap (λ k. c.max.result - k) c.args.values.now.ok.0)
    c.in-Ok.ensures.items (c.copy_within.ensures.items ∙ ap (λ k. copy_within c.resize.new.self.items c.args.end k dest) len)
    (c.truncate.ensures.items ∙ ap (λ k. take (dest + (k - c.args.end)) c.copy_within.new.self.items) len)

pub returns-then-count-end : goal.returns-then-count-end
returns-then-count-end g c = open_already _ c.args.start c.args.end c.args.count c.requires.order c.requires.within c.if-count-end.true
