-- The verdict on a merge, by how many patches it has and how many are skipped.
use Rattle.std.proofs.Common.{◌≡◌, ◌≢◌, ◌<◌, ◌⊎◌, ℕ, zero, suc, List, [], ◌∷◌, ◌++◌, length, inl, inr, refl, arith}
use Rattle.dm_named.specs.Patches.{Patch}
use Rattle.dm_bundle.specs.Bundles.{Contents}
use Rattle.dm_repo.specs.declared.policy.Policy.{Policy}
use Rattle.dm_repo.specs.declared.policy.Policy.TheVariants.{Refuse, Skip}
use Rattle.dm_repo.specs.Sifting.{MergesUnder}
use Rattle.dm_repo.specs.Squares.{Placed, patches}
use Rattle.dm_repo.specs.Weighing.{IsMergeOf}
use Rattle.dm_scratch.specs.declared.verdict.Verdict.{Verdict}
use Rattle.dm_scratch.specs.declared.verdict.Verdict.TheVariants.{Taken, TakenSome}
use Rattle.dm_scratch.specs.Taking.{TakesBundle}

-- where patches are skipped, some are merged
some_merged : (policy : Policy) (rest new merged : List Placed) (skipped : ℕ) → MergesUnder policy rest new merged skipped → skipped ≢ 0 → merged ≢ []
some_merged Refuse rest new merged skipped m some = absurd (some m.1)
some_merged Skip rest new merged skipped m some = m.0

counted : (xs : List Placed) → xs ≢ [] → 0 < length (patches xs)
counted [] some = absurd (some refl)
counted (x ∷ xs) some = omega arith

positive : (n : ℕ) → n ≢ 0 → 0 < n
positive zero some = absurd (some refl)
positive (suc n) some = omega arith

pub taken_by_counts : (repo : List Patch) (b : Contents) (policy : Policy) (merged : List Patch) (skipped count : ℕ) (v : Verdict) (after : List Patch) →
    IsMergeOf repo b policy merged skipped → count ≡ length merged → after ≡ repo ++ merged →
    ((skipped ≡ 0) × (v ≡ Taken count)) ⊎ ((skipped ≢ 0) × (v ≡ TakenSome count skipped)) → TakesBundle repo b policy v after
taken_by_counts repo b policy merged skipped count v after m c a (inl x) =
    rw x.1 (record { merged = merged; is_merge = rw x.0 at m; counted = c; appended = a })
taken_by_counts repo b policy merged skipped count v after m c a (inr x) =
    rw x.1 (
      record { merged = merged; is_merge = m; counted = c; appended = a },
      rw (c, m.is_merged) (counted m.new' (some_merged policy m.rest m.new m.new' skipped m.merge x.0)),
      positive skipped x.0,
    )
