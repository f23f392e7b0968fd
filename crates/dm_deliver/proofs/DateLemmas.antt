-- Patches up to a place.
use Rattle.std.proofs.Common.{◌≡◌, ◌<◌, ◌≤◌, ℕ, zero, suc, ◌+◌, List, [], ◌∷◌, length, slice_get, get_or, Some, true, inl, inr, subst, ◌∙◌, arith}
use Rattle.std.proofs.lemmas.Bool.{cases_lt}
use Rattle.std.proofs.lemmas.Option.{get_or_from_slice_get}
use Rattle.dm_date.specs.Readable.{is_readable}
use Rattle.dm_named.specs.Patches.{Patch}
use Rattle.dm_deliver.specs.Dates.{AllReadable}

-- Darcs can read the dates of the first so many
abbrev pub ReadableTo : List Patch → ℕ → Type 0
ReadableTo patches k = (j : ℕ) (p : Patch) → j < k → slice_get patches j ≡ Some p → is_readable p.info.date ≡ true

below : (ps : List Patch) (k : ℕ) (p : Patch) → slice_get ps k ≡ Some p → k < length ps
below [] k p e = absurd (cc)
below (q ∷ ps) zero p e = omega arith
below (q ∷ ps) (suc k) p e = let i = below ps k p e in omega (arith, i)

pub readable_next : (ps : List Patch) (k : ℕ) (q : Patch) → q ≡ get_or ps k q → is_readable q.info.date ≡ true → ReadableTo ps k → ReadableTo ps (k + 1)
readable_next ps k q is good so j p lt at =
    elim (cases_lt j k) [
      | inl before ↦ so j p before at
      | inr behind ↦
          let here : j ≡ k = omega (arith, lt, behind) in
          let same : q ≡ p = is ∙ get_or_from_slice_get ps k p q (subst (λ n. slice_get ps n ≡ Some p) here at) in
          subst (λ (r : Patch). is_readable r.info.date ≡ true) same good
    ]

pub readable_all : (ps : List Patch) (k : ℕ) → length ps ≤ k → ReadableTo ps k → AllReadable ps
readable_all ps k le so j p at = let i = below ps j p at in so j p (omega (arith, i, le)) at
