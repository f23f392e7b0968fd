-- Whether two bundles have the same context and the same first patches.
use Rattle.std.proofs.Common.{◌≡◌, ◌<◌, ◌≤◌, ℕ, Bool, true, false, List, Result, Ok, Err, IfOk, length, take, sym, ap, ◌∙◌, arith}
use Rattle.std.specs.Prelude.{MatchBool}
use Rattle.std.specs.List.{Contains}
use Rattle.std.proofs.lemmas.List.{length-take-le, take_all}
use Rattle.dm_info.specs.PatchInfo.{PatchInfo}
use Rattle.dm_bundle.specs.Patches.{SameMembers}
use Rattle.dm_bundle.specs.Bundles.{Contents}
use Rattle.dm_agree.specs.Owners.{AgreeUpTo}

module _ {E : Type 0} where
  -- where the first are all among the second, the other way round decides
  pub both_ways : (xs ys : List PatchInfo) (r : Result Bool E) → ((i : PatchInfo) → Contains xs i → Contains ys i) →
      IfOk r (λ all. MatchBool all ((i : PatchInfo) → Contains ys i → Contains xs i) (((i : PatchInfo) → Contains ys i → Contains xs i) → ⊥)) →
      IfOk r (λ same. MatchBool same (SameMembers xs ys) (SameMembers xs ys → ⊥))
  both_ways xs ys (Ok true) f h = λ i. (f i, h i)
  both_ways xs ys (Ok false) f h = λ s. h (λ i. (s i).1)
  both_ways xs ys (Err e) f h = tt

  -- where the first patches are the same, the contexts decide
  pub by_context : (b c : Contents) (n : ℕ) (r : Result Bool E) → take n b.patches ≡ take n c.patches →
      IfOk r (λ same. MatchBool same (SameMembers b.context c.context) (SameMembers b.context c.context → ⊥)) → IfOk r (λ agree. MatchBool agree (AgreeUpTo b c n) (AgreeUpTo b c n → ⊥))
  by_context b c n (Ok true) e h = (h, e)
  by_context b c n (Ok false) e h = λ a. h a.0
  by_context b c n (Err x) e h = tt

pub too_short : (b c : Contents) (n : ℕ) → length b.patches < n → n ≤ length c.patches → AgreeUpTo b c n → ⊥
too_short b c n l m a =
    let e : length b.patches ≡ n = ap length (sym (take_all n b.patches (omega (arith, l)))) ∙ ap length a.1 ∙ length-take-le n c.patches m in
    absurd (omega (arith, l, e))
