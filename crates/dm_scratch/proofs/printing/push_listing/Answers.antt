use Rattle.std.proofs.Common.{◌≡◌, ◌++◌, ℕ, List, drop, map, ap, ◌∙◌}
use Rattle.std.specs.List.{flat_map}
use Rattle.std.specs.FinMap.{entries}
use Rattle.std.proofs.lemmas.List.{take_all}
use Rattle.dm_tree.specs.Listings.{listed_entry}
use Rattle.dm_scratch.proofs.PrintLemmas.{row_line, rows_text}
use Rattle.dm_scratch.proofs.printing.push_listing.Goals as goal

pub returns : goal.returns
returns c =
    let before = c.args.out.now.items in
    let items = c.deref-entry-items.result.now in
    let rows : items ≡ map listed_entry (drop 1 (entries c.args.tree.now)) = c.deref-entry-items.ensures.value ∙ c.in_ok-entries.ensures in
    c.loop-entry.invariant ∙ ap (λ rs. before ++ flat_map row_line rs) (take_all c.loop-entry.entry-index items c.loop-entry-test.false ∙ rows) ∙ ap (λ (t : List ℕ). before ++ t) (rows_text _ (drop 1 (entries c.args.tree.now)))
