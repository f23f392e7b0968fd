-- Numbers tell their values apart.
use Rattle.std.proofs.Common.{◌≡◌, refl, arith}
use Rattle.dm_named.specs.declared.limits.Kinds.{Kinds}
use Rattle.dm_named.specs.declared.limits.Kinds.TheVariants.{Six, All}
use Rattle.dm_named.specs.declared.limits.Limits.{Limits}
use Rattle.dm_repo.specs.declared.policy.Policy.{Policy}
use Rattle.dm_repo.specs.declared.policy.Policy.TheVariants.{Refuse, Skip}
use Rattle.dm_c.specs.Numbers.{kinds_number, limit_numbers, policy_number}

pub policies_apart : (p q : Policy) → policy_number p ≡ policy_number q → p ≡ q
policies_apart Refuse Refuse e = refl
policies_apart Skip Skip e = refl
policies_apart Refuse Skip e = absurd (let no : ⊥ = omega (arith, e) in no)
policies_apart Skip Refuse e = absurd (let no : ⊥ = omega (arith, e) in no)

kinds_apart : (k j : Kinds) → kinds_number k ≡ kinds_number j → k ≡ j
kinds_apart Six Six e = refl
kinds_apart All All e = refl
kinds_apart Six All e = absurd (let no : ⊥ = omega (arith, e) in no)
kinds_apart All Six e = absurd (let no : ⊥ = omega (arith, e) in no)

pub limits_apart : (l m : Limits) → limit_numbers l ≡ limit_numbers m → l ≡ m
limits_apart l m e = λ i. record { bytes = (e i).bytes; patches = (e i).patches; prims = (e i).prims; replaces = (e i).replaces; kinds = kinds_apart l.kinds m.kinds (λ j. (e j).kinds) i }
