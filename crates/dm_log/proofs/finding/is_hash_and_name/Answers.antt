use Rattle.std.proofs.Common.{◌≡◌, ◌++◌, ◌∷◌, ap, subst, ◌∙◌}
use Rattle.std.proofs.lemmas.Result.{IfOk-weaker}
use Rattle.dm_log.specs.Finding.{BeginsHash}
use Rattle.dm_log.proofs.SplitLemmas.{one_front}
use Rattle.dm_log.proofs.finding.is_hash_and_name.Goals as goal

pub returns : goal.returns
returns g c =
    let word = c.args.word.now in
    let front = c.in-Some.front.now in
    let name = c.args.info.now.name in
    let is : word ≡ front ++ 32 ∷ name = c.in-Some.ensures.some ∙ ap (λ n. front ++ 32 ∷ n) c.name.ensures in
    IfOk-weaker c.begins_hash.result _ _
    (λ yes i. (λ t. (front, i.0 t, is), λ both. i.1 (subst (λ f. BeginsHash f c.args.info.now) (one_front word both.0 front name both.2 is) both.1))) c.begins_hash.ensures
