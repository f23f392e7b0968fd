use Rattle.std.proofs.Common.{◌≡◌, ◌∷◌, ◌++◌, [], List, ℕ, map, refl, sym, ◌∙◌, arith}
use Rattle.std.proofs.lemmas.Bool.{eqb-true, eq-eqb, false≢true}
use Rattle.std.proofs.lemmas.List.{map_push, length-map}
use Rattle.std.proofs.lemmas.Result.{err_from_is_err_and}
use Rattle.dm_tree.proofs.ValidityLemmas.{valid_parts}
use Rattle.dm_named.specs.Paths.{SlashName}
use Rattle.dm_named.proofs.ManyLemmas.{many_more}
use Rattle.dm_named.proofs.PathLemmas.{more_names, no_names, names_done}
use Rattle.dm_named.proofs.reading.paths.names_of.Goals as goal

pub returns-in_err-name-clause-none : goal.returns-in_err-name-clause-none
returns-in_err-name-clause-none g c =
    let p = err_from_is_err_and c.from_residual.result c.from_residual.ensures.1 in
    rw (p.1, p.2) (λ is ms s valid. no_names c.args.text.now (map (λ v. v.items) c.loop-rest.names.items) c.loop-rest.rest.now c.loop-rest.invariant (λ none. false≢true (c.loop-rest-test.ensures ∙ eq-eqb _ 0 none)) (c.in_err-name.ensures.none is) ms s valid)

pub returns-then-len-ge-MOST_NAMES-clause-none : goal.returns-then-len-ge-MOST_NAMES-clause-none
returns-then-len-ge-MOST_NAMES-clause-none g c = λ is ms s valid.
    let more = more_names c.args.text.now (map (λ v. v.items) c.loop-rest.names.items) c.loop-rest.rest.now c.loop-rest.invariant (λ none. false≢true (c.loop-rest-test.ensures ∙ eq-eqb _ 0 none)) ms s in
    let few = (valid_parts ms valid).not_deep in
    omega (arith, few, more, length-map c.loop-rest.names.items (λ v. v.items), c.if-len-ge-MOST_NAMES.true, c.len.ensures, c.loop-rest.names.ok)

pub loop-rest-preserved : goal.loop-rest-preserved
loop-rest-preserved g c =
    let names : List (List ℕ) = map (λ v. v.items) c.loop-rest.names.items in
    let pushed : map (λ v. v.items) c.push.new.self.items ≡ names ++ c.in_ok-name.name.items ∷ [] =
    rw (c.in_ok-push.ensures.items, map_push (λ v. v.items) c.loop-rest.names.items c.in_ok-name.name) refl in
    rw pushed (many_more SlashName c.args.text.now names c.loop-rest.rest.now c.in_ok-name.name.items c.in_ok-name.next.now c.loop-rest.invariant c.in_ok-name.ensures.found)

pub returns-clause-found : goal.returns-clause-found
returns-clause-found g c = names_done c.args.text.now (map (λ v. v.items) c.loop-rest.names.items) c.loop-rest.rest.now c.loop-rest.invariant (eqb-true _ 0 (sym c.loop-rest-test.ensures))
