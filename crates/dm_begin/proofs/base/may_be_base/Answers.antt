use Rattle.std.proofs.Common.{inl, arith, refl, eq-eqb, eqb-true}
use Rattle.dm_begin.proofs.FormLemmas.{may_be}
use Rattle.dm_begin.proofs.base.may_be_base.Goals as goal

pub returns-then-base-eq0 : goal.returns-then-base-eq0
returns-then-base-eq0 g c = (λ t. record { within = omega (arith, c.if-base-eq0.true); is_base = inl c.if-base-eq0.true }, λ m. refl)

pub returns-then-base-patches : goal.returns-then-base-patches
returns-then-base-patches g c = (λ t. absurd (cc), λ m. let l = m.within in absurd (omega (arith, l, c.if-base-patches.true)))

pub returns : goal.returns
returns g c =
    let m = may_be c.args.patches.now c.args.base c.base_len.result c.if-base-eq0.false c.if-base-patches.false c.base_len.ensures in
    (λ t. m.0 (eqb-true c.base_len.result c.args.base t), λ h. eq-eqb c.base_len.result c.args.base (m.1 h))
