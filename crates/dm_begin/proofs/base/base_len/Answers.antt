use Rattle.std.proofs.Common.{◌≡◌, ◌≢◌, ◌↔◌, ◌⊎◌, true, false, IsTrue, [], sym, ◌∙◌}
use Rattle.dm_begin.proofs.BaseLemmas.{some_else, some_then, walked_all, walked_none, walked_on, walked_stop, walked_tag}
use Rattle.dm_begin.proofs.base.base_len.Goals as goal
use Rattle.dm_begin.proofs.base.base_len.Goals.{then-some, else-some, then-is_tag_with_tree, else-is_tag_with_tree}

pub loop-i-init : goal.loop-i-init
loop-i-init g c = walked_none c.args.patches.now

pub returns-then-not-follows : goal.returns-then-not-follows
returns-then-not-follows g c =
    walked_stop c.args.patches.now c.loop-i.i c.loop-i.base c.loop-i.some c.index-patches-i.result c.loop-i-test.true c.index-patches-i.is c.loop-i.invariant
    (λ h. let f : false ≡ true = sym c.if-not-follows.true ∙ c.follows.ensures.1 h in absurd (cc))

pub loop-i-preserved : goal.loop-i-preserved
loop-i-preserved g c =
    let x = c.index-patches-i.result in
    let ok = c.follows.ensures.0 c.if-not-follows.false in
    let has : IsTrue c.if-some.some ↔ (IsTrue c.loop-i.some ⊎ (x.prims ≢ [])) = elim c.if-some.branch [
      | then-some w ↦ some_then c.loop-i.some c.if-some.some w.if-some.true (w.some-is ∙ w.if-some.true)
      | else-some w ↦ some_else c.loop-i.some c.if-some.some w.has_prims-some.result w.if-some.false w.some-is w.has_prims-some.ensures
    ] in
    elim c.if-is_tag_with_tree.branch [
      | then-is_tag_with_tree w ↦ rw w.base-is
          (walked_tag c.args.patches.now c.loop-i.i c.loop-i.base c.loop-i.some x c.loop-i-test.true c.index-patches-i.is c.loop-i.invariant ok.0 ok.1 c.if-some.some has (c.is_tag_with_tree.ensures.0 w.if-is_tag_with_tree.true))
      | else-is_tag_with_tree w ↦ rw w.base-is
          (walked_on c.args.patches.now c.loop-i.i c.loop-i.base c.loop-i.some x c.loop-i-test.true c.index-patches-i.is c.loop-i.invariant ok.0 ok.1 c.if-some.some has
          (λ t. let f : false ≡ true = sym w.if-is_tag_with_tree.false ∙ c.is_tag_with_tree.ensures.1 t in absurd (cc)))
    ]

pub returns : goal.returns
returns g c = walked_all c.args.patches.now c.loop-i.i c.loop-i.base c.loop-i.some c.loop-i-test.false c.loop-i.auto.i-end c.loop-i.invariant
