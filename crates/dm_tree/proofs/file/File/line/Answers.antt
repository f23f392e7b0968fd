use Rattle.std.proofs.Common.{List, ◌∙◌, ap, sym, subst, get_or, [], arith}
use Rattle.std.proofs.lemmas.List.{get_or_default}
use Rattle.dm_tree.specs.Trees.{Lines}
use Rattle.dm_tree.specs.Files.{HasLine}
use Rattle.dm_tree.proofs.Joined.{line_there, lines_of-joined}
use Rattle.dm_tree.proofs.file.File.line.Goals as goal

pub returns : goal.returns
returns g c =
    let ps = c.self.inside.parts.items in
    let there = subst (λ (z : List Lines). HasLine z c.args.i c.in-Some.place.part c.in-Some.place.line) c.deref.ensures.value c.in-Some.ensures in
    c.line.ensures ∙ ap (λ (z : Lines). get_or z c.in-Some.place.line []) (c.index.ensures ∙ get_or_default ps c.in-Some.place.part c.index.result.now [] there.0)
    ∙ sym (line_there ps c.args.i c.in-Some.place.part c.in-Some.place.line [] there)
    ∙ ap (λ (z : Lines). get_or z c.args.i []) (sym (lines_of-joined ps (omega (arith, there.0))) ∙ c.self.view_is)
