-- A split by one set is a split by another that has the same members of the list.
use Rattle.std.proofs.Common.{List, [], ◌∷◌}
use Rattle.dm_repo.specs.Staircases.{Split, nothing, stays, yields}

-- the set's members, another way
pub data Alike {P : Type 0} (In Out : P → Type 0) : List P → Type 0 where
  no_more : Alike In Out []
  and : {x : P} {xs : List P} → (In x → Out x) → (Out x → In x) → Alike In Out xs → Alike In Out (x ∷ xs)

pub split_alike : {P : Type 0} (Square : P → P → P → P → Type 0) (In Out : P → Type 0) {xs front rest : List P} → Alike In Out xs → Split Square In xs front rest → Split Square Out xs front rest
split_alike Square In Out e nothing = nothing
split_alike Square In Out (and f b e) (stays i s) = stays (f i) (split_alike Square In Out e s)
split_alike Square In Out (and f b e) (yields o s t) = yields (λ h. o (b h)) (split_alike Square In Out e s) t
