-- Taking two bundles in both orders has one answer.
use Rattle.std.proofs.Common.{◌≡◌, ◌≢◌, List, ◌++◌, Some, None, ◌⊎◌, inl, inr, refl, sym, ap, ap₂, ◌∙◌}
use Rattle.dm_named.specs.Patches.{Patch}
use Rattle.dm_bundle.specs.Bundles.{Contents}
use Rattle.dm_repo.specs.declared.policy.Policy.TheVariants.{Refuse}
use Rattle.dm_repo.specs.declared.refusal.Refusal.{Refusal}
use Rattle.dm_repo.specs.declared.refusal.Refusal.TheVariants.{NoMemory}
use Rattle.dm_repo.specs.Laws.{Refused, NothingNew, Merged, BothOrdersHaveOneAnswer}
use Rattle.dm_repo.specs.Orders.{IsTaken, IsNotTaken, TakesInTurn, StopsInTurn}
use Rattle.dm_repo.proofs.OneAnswer.{weighing_one}

merged_is_answer : (m : List Patch) → Merged m 0 ≢ Refused NoMemory
merged_is_answer m e = cc

taken_one : (repo : List Patch) (b : Contents) {x y : List Patch} → IsTaken repo b x → IsTaken repo b y → x ≡ y
taken_one repo b p q = p.appended ∙ ap (λ l. repo ++ l) (inj (weighing_one repo b Refuse (Merged p.merged 0) (Merged q.merged 0) (merged_is_answer p.merged) (merged_is_answer q.merged) p.is_merge q.is_merge)) ∙ sym q.appended
  where
    inj : {m n : List Patch} → Merged m 0 ≡ Merged n 0 → m ≡ n
    inj e = cc

not_both : (repo : List Patch) (b : Contents) {x : List Patch} → IsTaken repo b x → IsNotTaken repo b → ⊥
not_both repo b p (inl n) = let e : Merged p.merged 0 ≡ NothingNew = weighing_one repo b Refuse (Merged p.merged 0) NothingNew (merged_is_answer p.merged) (λ e. cc) p.is_merge n in cc
not_both repo b p (inr (why, n, r)) =
    let e : Merged p.merged 0 ≡ Refused why = weighing_one repo b Refuse (Merged p.merged 0) (Refused why) (merged_is_answer p.merged) (λ e. n (inj e)) p.is_merge r in cc
  where
    inj : {v w : Refusal} → Refused v ≡ Refused w → v ≡ w
    inj e = cc

in_turn_one : (repo : List Patch) (b c : Contents) {x y : List Patch} → TakesInTurn repo b c x → TakesInTurn repo b c y → x ≡ y
in_turn_one repo b c p q = let e : p.between ≡ q.between = taken_one repo b p.first q.first in taken_one q.between c (rw e at p.second) q.second

takes_or_stops : (repo : List Patch) (b c : Contents) {x : List Patch} → TakesInTurn repo b c x → StopsInTurn repo b c → ⊥
takes_or_stops repo b c p (inl n) = not_both repo b p.first n
takes_or_stops repo b c p (inr (between, t, n)) = let e : p.between ≡ between = taken_one repo b p.first t in not_both between c (rw e at p.second) n

neither : (repo : List Patch) (b c : Contents) {x y : List Patch} → TakesInTurn repo b c x → TakesInTurn repo c b y → StopsInTurn repo b c ⊎ StopsInTurn repo c b → ⊥
neither repo b c p q (inl s) = takes_or_stops repo b c p s
neither repo b c p q (inr s) = takes_or_stops repo c b q s

pub both_orders_one : BothOrdersHaveOneAnswer
both_orders_one repo b c None None h k = refl
both_orders_one repo b c None (Some y) h k = absurd (neither repo b c k.0 k.1 h)
both_orders_one repo b c (Some x) None h k = absurd (neither repo b c h.0 h.1 k)
both_orders_one repo b c (Some x) (Some y) h k = ap₂ (λ xs ys. Some (xs, ys)) (in_turn_one repo b c h.0 k.0) (in_turn_one repo c b h.1 k.1)
