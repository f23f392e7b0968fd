use Rattle.std.proofs.Common.{◌≡◌, ◌<◌, ◌∙◌, ◌+◌, ◌&&◌, sym, ap, arith, get_or, drop}
use Rattle.dm_tree.specs.Children.{Child, flatten}
use Rattle.dm_tree.specs.Nested.{under_of}
use Rattle.dm_tree.specs.Walks.{are_short}
use Rattle.dm_tree.proofs.Renames.{fits_more, none_fits, all_fit}
use Rattle.dm_tree.proofs.rename.+short.Goals as goal

pub are_short-returns-then-not-is_short : goal.are_short-returns-then-not-is_short
are_short-returns-then-not-is_short g t c =
    let ks = c.args.children.now in
    let i = c.loop-child.child-index in
    let some : 0 < c.args.room = omega (arith, c.if-room-eq0.false) in
    let under : under_of c.child.inside.body ≡ (get_or ks i c.child-item.result).under = ap (λ (k : Child). k.under) (c.child.view_is ∙ c.child-item.is) in
    sym (fits_more ks i c.child-item.result c.args.room (under_of c.child.inside.body) c.is_short.result some c.loop-child-test.true under c.is_short.ensures c.loop-child.invariant ∙ ap (λ b. b && are_short c.args.room (flatten (drop (i + 1) ks))) c.if-not-is_short.true)

pub are_short-loop-child-preserved : goal.are_short-loop-child-preserved
are_short-loop-child-preserved g t c =
    let ks = c.args.children.now in
    let i = c.loop-child.child-index in
    let some : 0 < c.args.room = omega (arith, c.if-room-eq0.false) in
    let under : under_of c.child.inside.body ≡ (get_or ks i c.child-item.result).under = ap (λ (k : Child). k.under) (c.child.view_is ∙ c.child-item.is) in
    fits_more ks i c.child-item.result c.args.room (under_of c.child.inside.body) c.is_short.result some c.loop-child-test.true under c.is_short.ensures c.loop-child.invariant ∙ ap (λ b. b && are_short c.args.room (flatten (drop (i + 1) ks))) c.if-not-is_short.false

pub are_short-returns-then-room-eq0 : goal.are_short-returns-then-room-eq0
are_short-returns-then-room-eq0 g t c = none_fits c.args.children.now c.loop-child.child-index c.child-item.result c.args.room c.loop-child-test.true c.if-room-eq0.true c.loop-child.invariant

pub are_short-returns : goal.are_short-returns
are_short-returns g t c = all_fit c.args.children.now c.loop-child.child-index c.args.room c.loop-child-test.false c.loop-child.invariant

pub is_short-returns-in-Text : goal.is_short-returns-in-Text
is_short-returns-in-Text g t c = sym (ap (λ b. are_short c.args.room (under_of b)) c.in-Text.is)

pub is_short-returns-in-Children : goal.is_short-returns-in-Children
is_short-returns-in-Children g t c = c.are_short.ensures ∙ ap (λ l. are_short c.args.room (flatten l)) c.deref.ensures.value ∙ sym (ap (λ b. are_short c.args.room (under_of b)) c.in-Children.is)
