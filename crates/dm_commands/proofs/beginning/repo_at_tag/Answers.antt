use Rattle.std.proofs.Common.{◌≡◌, ◌≢◌, ◌∙◌, [], true, false, length, sym}
use Rattle.dm_begin.specs.Making.{rows}
use Rattle.dm_commands.specs.Beginning.{EndsInTagName}
use Rattle.dm_begin.proofs.FormLemmas.{beginning_is_base, form_may}
use Rattle.dm_commands.proofs.beginning.repo_at_tag.Goals as goal

pub returns-clause-begun : goal.returns-clause-begun
returns-clause-begun c =
    let names = c.args.names.items in
    let tag : EndsInTagName names = rw c.deref.ensures.value at (c.ends_in_tag.ensures.0 c.if-not-ends_in_tag.false) in
    let some : rows c.args.tree ≢ [] = λ e. let f : false ≡ true = sym c.if-branch.false ∙ c.in_ok-is_empty_tree.ensures.1 e in absurd (cc) in
    rw c.in_ok-repo.ensures (record {
      tag = tag;
      some = some;
      is_beginning = c.in_ok-patches.ensures.beginning;
      may = form_may c.in_ok-patches.patches.items (length names) (beginning_is_base names c.args.tree c.in_ok-patches.patches.items tag.0 c.in_ok-patches.ensures.beginning tag.1 tag.2 some);
    })
