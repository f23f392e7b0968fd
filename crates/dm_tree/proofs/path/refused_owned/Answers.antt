use Rattle.std.proofs.Common.{refl, ◌∙◌, sym, ap, ◌∷◌, []}
use Rattle.dm_tree.specs.Validity.{names_fault}
use Rattle.dm_tree.proofs.ValidityLemmas.{path_names, name_refused, name_valid, names_end}
use Rattle.dm_tree.proofs.path.refused_owned.Goals as goal

pub loop-name-init : goal.loop-name-init
loop-name-init g c = refl

pub returns-in-Some-clause-fault : goal.returns-in-Some-clause-fault
returns-in-Some-clause-fault g c =
    let here = sym (c.as_slice.ensures.value ∙ ap (λ v. v.items) c.name-item.is) in
    let fault = ap (λ n. names_fault (n ∷ [])) here ∙ sym c.in-Some.ensures.fault in
    sym (path_names (λ v. v.items) c.args.names.now c.if-is_empty.ensures c.if-names-gt-MOST_NAMES.false ∙ name_refused (λ v. v.items) c.args.names.now c.loop-name.name-index c.name-item.result c.loop-name-test.true c.loop-name.invariant c.in-Some.fault fault)

pub loop-name-preserved : goal.loop-name-preserved
loop-name-preserved g c =
    let here = sym (c.as_slice.ensures.value ∙ ap (λ v. v.items) c.name-item.is) in
    let valid = ap (λ n. names_fault (n ∷ [])) here ∙ sym c.in_default.ensures.fault in
    name_valid (λ v. v.items) c.args.names.now c.loop-name.name-index c.name-item.result c.loop-name-test.true c.loop-name.invariant valid

pub returns-clause-fault : goal.returns-clause-fault
returns-clause-fault g c = sym (path_names (λ v. v.items) c.args.names.now c.if-is_empty.ensures c.if-names-gt-MOST_NAMES.false ∙ names_end (λ v. v.items) c.args.names.now c.loop-name.name-index c.loop-name-test.false c.loop-name.invariant)
