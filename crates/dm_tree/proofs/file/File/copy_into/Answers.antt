use Rattle.std.proofs.Common.{◌∙◌, length, ap, sym, subst}
use Rattle.dm_tree.specs.Validity.{ArePlain}
use Rattle.dm_tree.specs.Files.{lines_of}
use Rattle.dm_tree.proofs.file.File.copy_into.Goals as goal

pub invariant_of-result : goal.invariant_of-result
invariant_of-result g c =
    let same = ap lines_of (sym (c.in_ok-parts.ensures ∙ c.deref.ensures.value)) in
    (c.self.invariant.0 ∙ ap length same, subst ArePlain same c.self.invariant.1)

pub returns : goal.returns
returns g c = ap lines_of (c.in_ok-parts.ensures ∙ c.deref.ensures.value) ∙ c.self.view_is
