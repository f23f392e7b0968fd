-- Texts that are taken in turn, and one more.
use Rattle.std.proofs.Common.{◌+◌, ◌<◌, ℕ, List, [], ◌∷◌, ◌++◌, length, map, take, slice_index_or, slice_set, refl}
use Rattle.std.proofs.lemmas.List.{map_more, take_more_set}
use Rattle.dm_named.specs.Patches.{Patch}
use Rattle.dm_repo.specs.declared.policy.Policy.{Policy}
use Rattle.dm_scratch.specs.declared.verdict.Verdict.{Verdict}
use Rattle.dm_scratch.specs.Taking.{Takes, TakesEach}

pub each_more : (repo : List Patch) (texts : List (List ℕ)) (policy : Policy) (verdicts : List Verdict) (mid : List Patch) (text : List ℕ) (verdict : Verdict) (after : List Patch) →
    TakesEach repo texts policy verdicts mid → Takes mid text policy verdict after → TakesEach repo (texts ++ text ∷ []) policy (verdicts ++ verdict ∷ []) after
each_more repo [] policy [] mid text verdict after so_far last = (after, rw so_far at last, refl)
each_more repo [] policy (v ∷ vs) mid text verdict after so_far last = absurd so_far
each_more repo (t ∷ ts) policy [] mid text verdict after so_far last = absurd so_far
each_more repo (t ∷ ts) policy (v ∷ vs) mid text verdict after so_far last = (so_far.0, so_far.1, each_more so_far.0 ts policy vs mid text verdict after so_far.2 last)

-- one turn of a loop over texts
pub each_step : {X : Type 0} (bytes : X → List ℕ) (repo : List Patch) (texts : List X) (policy : Policy) (verdicts : List Verdict) (i : ℕ) (d : X) (mid : List Patch) (verdict : Verdict) (after : List Patch) →
    i < length texts → i < length verdicts → TakesEach repo (map bytes (take i texts)) policy (take i verdicts) mid → Takes mid (bytes (slice_index_or texts i d)) policy verdict after →
    TakesEach repo (map bytes (take (i + 1) texts)) policy (take (i + 1) (slice_set verdicts i verdict)) after
each_step bytes repo texts policy verdicts i d mid verdict after in_texts in_verdicts so_far next =
    rw (map_more bytes texts i d in_texts, take_more_set verdicts i verdict in_verdicts)
    (each_more repo (map bytes (take i texts)) policy (take i verdicts) mid (bytes (slice_index_or texts i d)) verdict after so_far next)
