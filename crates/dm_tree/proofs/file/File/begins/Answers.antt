use Rattle.std.proofs.Common.{List, ◌∙◌, ◌≤◌, drop, length, ap, sym, subst, refl}
use Rattle.std.proofs.lemmas.List.{take_rest}
use Rattle.dm_tree.specs.Trees.{Lines}
use Rattle.dm_tree.specs.Files.{joined, lines_of}
use Rattle.dm_tree.proofs.Blank.{no_part, some_part}
use Rattle.dm_tree.proofs.Fronts.{under_at}
use Rattle.dm_tree.proofs.Joined.{drop_parts, line_within}
use Rattle.dm_tree.proofs.Plain.{lt_le, some_items}
use Rattle.dm_tree.proofs.file.File.begins.Goals as goal

pub returns-then-is_empty : goal.returns-then-is_empty
returns-then-is_empty g c =
    let none = no_part c.as_slice-parts.result.now (sym c.is_empty.ensures ∙ c.if-is_empty.true) in
    under_at _ _ _ _ (ap (drop c.args.start) (sym none ∙ ap lines_of c.as_slice-parts.ensures.value ∙ c.self.view_is)) refl c.blank_begins.ensures

pub returns : goal.returns
returns g c =
    let ps = c.as_slice-parts.result.now in
    let k = c.seek-place.result.part in
    let line = c.seek-place.result.line in
    let some = some_part ps (sym c.is_empty.ensures ∙ c.if-is_empty.false) in
    under_at _ _ _ _ (ap (λ (z : List Lines). drop line (joined z)) (take_rest ps k) ∙ drop_parts ps c.args.start k line c.seek-place.ensures
    ∙ ap (drop c.args.start) (sym some ∙ ap lines_of c.as_slice-parts.ensures.value ∙ c.self.view_is)) c.all.ensures c.stands.ensures

pub blank_begins-requires : goal.blank_begins-requires
blank_begins-requires g c =
    let none = no_part c.as_slice-parts.result.now (sym c.is_empty.ensures ∙ c.if-is_empty.true) in
    subst (λ (l : Lines). c.args.start ≤ length l) (sym (sym none ∙ ap lines_of c.as_slice-parts.ensures.value ∙ c.self.view_is)) c.requires

pub seek-place-requires-clause-some : goal.seek-place-requires-clause-some
seek-place-requires-clause-some g c = some_items c.as_slice-parts.result.now (sym c.is_empty.ensures ∙ c.if-is_empty.false)

pub seek-place-requires-clause-within : goal.seek-place-requires-clause-within
seek-place-requires-clause-within g c =
    let some = some_part c.as_slice-parts.result.now (sym c.is_empty.ensures ∙ c.if-is_empty.false) in
    subst (λ (l : Lines). c.args.start ≤ length l) (sym (sym some ∙ ap lines_of c.as_slice-parts.ensures.value ∙ c.self.view_is)) c.requires

pub offset_bounds-parts-place : goal.offset_bounds-parts-place
offset_bounds-parts-place g c = lt_le _ _ c.seek-place.ensures.0

pub slice_bounds-stands-count : goal.slice_bounds-stands-count
slice_bounds-stands-count g c = lt_le _ _ c.seek-place.ensures.0

pub stands-requires : goal.stands-requires
stands-requires g c = line_within c.as_slice-parts.result.now c.args.start c.seek-place.result.part c.seek-place.result.line c.seek-place.ensures
