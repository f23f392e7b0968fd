use Rattle.std.proofs.Common.{◌≡◌, ◌∙◌, sym, subst, map, List, ℕ, Some, None}
use Rattle.dm_tree.specs.Validity.{IsValidPath, path_fault}
use Rattle.dm_named.proofs.PathLemmas.{same_dot_path}
use Rattle.dm_named.proofs.reading.paths.path_of.Goals as goal

pub returns-in-Err-clause-none : goal.returns-in-Err-clause-none
returns-in-Err-clause-none g c = λ is p spelled.
    let names : List (List ℕ) = map (λ v. v.items) c.in_ok-names.names.items in
    let same : p ≡ names = same_dot_path c.args.word.now c.in-Some.text.now names c.in-Some.ensures c.in_ok-names.ensures.found p spelled in
    let valid : path_fault names ≡ None = subst IsValidPath same spelled.valid in
    let none : None ≡ Some c.in-Err.fault = sym valid ∙ (c.in-Err.ensures.fault ∙ c.from.ensures is) in
    cc
