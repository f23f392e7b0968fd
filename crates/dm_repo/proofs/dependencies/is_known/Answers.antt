use Rattle.std.proofs.Common.{inl, inr, sym, ◌∙◌}
use Rattle.std.proofs.lemmas.Bool.{false≢true}
use Rattle.std.proofs.lemmas.List.{take-map}
use Rattle.dm_repo.proofs.dependencies.is_known.Goals as goal

pub returns : goal.returns
returns g c =
    let h = rw (c.requires.names, take-map (λ p. p.info) c.args.n c.args.bundle.now.patches) at c.is_among.ensures in
    ((λ e. inr (h.0 e)), λ k. elim k [ inl a ↦ absurd (false≢true (sym c.if-branch.false ∙ c.in_ok-is_common.ensures.1 a)) | inr a ↦ h.1 a ])
