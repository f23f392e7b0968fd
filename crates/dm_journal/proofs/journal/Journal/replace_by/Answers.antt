use Rattle.std.proofs.Common.{List, ℕ, [], ◌∷◌, inl, inr, ⊎_elim, sym, subst}
use Rattle.dm_journal.specs.Journal.{StandsIn}
use Rattle.dm_journal.specs.declared.format.Format.{Format}
use Rattle.dm_journal.proofs.Moments.{weakened}
use Rattle.std.proofs.lemmas.Result.{err_from_is_err_and}
use Rattle.dm_journal.proofs.Untouched.{still_has}
use Rattle.dm_journal.proofs.journal.Journal.replace_by.Goals as goal

pub returns-in_err-self-clause-any_moment : goal.returns-in_err-self-clause-any_moment
returns-in_err-self-clause-any_moment g c format old stands =
    let d = g.D.Device in
    let new = c.args.text.items ∷ [] in
    weakened d.moment d.left_since _ _ _ _ (λ file. ⊎_elim (λ same. inl (subst (λ (l : List ℕ). StandsIn format l old) (sym same) stands)) (λ made. inr (subst (λ (f : Format). StandsIn f file new) c.renewed-format.ensures made))) c.put_text.ensures.any_moment

pub returns-in_err-self-clause-untouched : goal.returns-in_err-self-clause-untouched
returns-in_err-self-clause-untouched g c =
    let d = g.D.Device in
    let q = err_from_is_err_and c.from_residual.result c.from_residual.ensures.1 in
    rw (q.1, q.2) (λ beside old has. still_has d.seen d.may_leave d.file_may_leave d.moment d.left_since c.args.self.now c.put_text.new.device old (c.in_err-self.ensures.untouched beside) has)

pub returns-clause-any_moment : goal.returns-clause-any_moment
returns-clause-any_moment g c format old stands =
    let d = g.D.Device in
    let new = c.args.text.items ∷ [] in
    weakened d.moment d.left_since _ _ _ _ (λ file. ⊎_elim (λ same. inl (subst (λ (l : List ℕ). StandsIn format l old) (sym same) stands)) (λ made. inr (subst (λ (f : Format). StandsIn f file new) c.renewed-format.ensures made))) c.put_text.ensures.any_moment
