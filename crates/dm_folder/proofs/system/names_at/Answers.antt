use Rattle.std.proofs.Common.{List, ap, ◌∙◌, subst, map}
use Rattle.std.proofs.lemmas.List.Sorted.{IsPermutation-map}
use Rattle.std.specs.List.Sorted.{IsPermutation}
use Rattle.dm_tree.specs.Paths.{Name}
use Rattle.dm_folder.specs.Listed.{names_in}
use Rattle.dm_folder.proofs.system.names_at.Goals as goal

pub returns-clause-ok : goal.returns-clause-ok
returns-clause-ok c =
    let read = c.in_ok-bytes.ensures.ok in
    let sorted = map (λ name. name.items) c.sort.new.self.items in
    let P : List Name → Type 0 = λ names. IsPermutation names sorted in
    (read.0, c.in_ok-bytes.bytes.items, read.1, read.2, subst P (c.in_ok-names.ensures ∙ ap names_in c.deref.ensures.value) (IsPermutation-map (λ name. name.items) c.in_ok-names.names.items c.sort.new.self.items c.sort.ensures.permutation))
