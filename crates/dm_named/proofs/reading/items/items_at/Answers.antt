use Rattle.std.proofs.Common.{◌≡◌, ◌++◌, ◌∷◌, [], drop, List, ap, refl, ◌∙◌, ℕ, arith}
use Rattle.std.proofs.lemmas.List.{map_push}
use Rattle.dm_named.specs.MergedPatches.{Item, body_size}
use Rattle.dm_named.specs.ConflictorFaults.{less}
use Rattle.dm_named.specs.Items.{item_of, items_of}
use Rattle.dm_named.proofs.ItemParts.{left_word, items_more, few_more, left_more}
use Rattle.dm_named.proofs.reading.items.items_at.Goals as goal

pub item_at-requires-clause-of_kinds : goal.item_at-requires-clause-of_kinds
item_at-requires-clause-of_kinds g c = left_word c.args.limits c.loop-word.left (body_size (items_of c.loop-word.items.items)) c.in-Some.word c.loop-word.invariant.left c.in-Some.ensures.of_kinds

pub loop-word-preserved : goal.loop-word-preserved
loop-word-preserved g c =
    let text = c.args.text.now in
    let so = c.loop-word.invariant in
    let left = c.loop-word.left in
    let is : List Item = items_of c.loop-word.items.items in
    let i : Item = item_of c.in_ok-item.item in
    let items : c.push.new.self.items ≡ c.loop-word.items.items ++ c.in_ok-item.item ∷ [] = c.in_default-push.ensures.items in
    let pushed : items_of c.push.new.self.items ≡ is ++ i ∷ [] = rw (items, map_push item_of c.loop-word.items.items c.in_ok-item.item) refl in
    record {
      forward = omega (arith, so.forward, c.in-Some.ensures.forward, c.in_ok-item.ensures.forward);
      within = c.in_ok-item.ensures.within;
      few = rw pushed (few_more c.args.limits left is i so.left so.few c.in_ok-item.ensures.few);
      left = rw pushed (c.less-left.ensures ∙ ap (λ (n : ℕ). less left n) c.size.ensures ∙ left_more c.args.limits left is i so.left);
      read = rw pushed (items_more c.args.limits left (drop c.args.start text) (drop c.loop-word.end text) (drop c.in-Some.here text) (drop c.in_ok-item.after text) is i so.read so.left c.in-Some.ensures.here c.in_ok-item.ensures.ok);
    }
