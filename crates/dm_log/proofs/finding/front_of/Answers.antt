use Rattle.std.proofs.Common.{◌++◌, ◌∷◌, [], None, Some, sym, ◌∙◌, append_assoc}
use Rattle.std.proofs.lemmas.Bool.Decides.{Decides-eqb}
use Rattle.std.proofs.lemmas.Slice.Eq.{strip_suffix_is}
use Rattle.dm_log.proofs.SplitLemmas.{front_none, front_some, none_so}
use Rattle.dm_log.proofs.finding.front_of.Goals as goal

pub returns-in_err-before-clause-none : goal.returns-in_err-before-clause-none
returns-in_err-before-clause-none c =
    let word = c.args.word.now in
    let name = c.args.name.now in
    let never = strip_suffix_is Decides-eqb word name None c.in_err-before.ensures.cases in
    none_so c.from_residual.result _ (λ front e. never (front ++ 32 ∷ []) (e ∙ sym (append_assoc front (32 ∷ []) name)))

pub returns-clause-some : goal.returns-clause-some
returns-clause-some c =
    let before = c.in_ok-before.before in
    let whole = strip_suffix_is Decides-eqb c.args.word.now c.args.name.now (Some before) c.in_ok-before.ensures.cases in
    front_some c.args.word.now before.now c.args.name.now c.strip_suffix-2.result whole (strip_suffix_is Decides-eqb before.now (32 ∷ []) c.strip_suffix-2.result c.strip_suffix-2.ensures.cases)

pub returns-clause-none : goal.returns-clause-none
returns-clause-none c =
    let before = c.in_ok-before.before in
    let whole = strip_suffix_is Decides-eqb c.args.word.now c.args.name.now (Some before) c.in_ok-before.ensures.cases in
    front_none c.args.word.now before.now c.args.name.now c.strip_suffix-2.result whole (strip_suffix_is Decides-eqb before.now (32 ∷ []) c.strip_suffix-2.result c.strip_suffix-2.ensures.cases)
