-- What holds of all primitives that commute, and of all lists of them, whether or not they ever apply to a tree; and that each question has one answer.
use Rattle.std.specs.Prelude.{◌≡◌, ◌≢◌, ◌↔◌, ℕ, List, Result, Ok, Err}
use Rattle.std.specs.FinMap as map
use Rattle.dm_tree.specs.declared.fault.TreeFault.{TreeFault}
use Rattle.dm_tree.specs.declared.fault.TreeFault.TheVariants.{NoMemory}
use Rattle.dm_tree.specs.Trees.{Map, Tree, IsLawful}
use Rattle.dm_tree.specs.Laws.{fault_of_change}
use Rattle.dm_prim.specs.Primitives.{Prim, inv, inv_all, Applies, LawfulMap, Leads, LeadsAll}
use Rattle.dm_prim.specs.Commuting.{Commutes, ListsCommute}
use Rattle.dm_prim.specs.Applying.{FaultsAs, AppliedAll}
use Rattle.dm_prim.specs.Hunks.{HunkParts, MakesHunk}
use Rattle.dm_prim.specs.declared.hunk.HunkFault.{HunkFault}
use Rattle.dm_prim.specs.Binaries.{BinaryParts, MakesBinary}
use Rattle.dm_prim.specs.declared.binary.NoContent.{NoContent}
use Rattle.dm_prim.specs.Preferences.{PreferenceParts, MakesPreference}
use Rattle.dm_prim.specs.declared.preference.BadPreference.{BadPreference}

-- the three laws, of one pair
pub record PairLaws (p q q' p' : Prim) : Type 0 where
  -- a lawful map on which p then q apply has the same end by q' then p'
  pub ends_alike : (s u z : LawfulMap) → Leads p s u → Leads q u z → (m : LawfulMap) × Leads q' s m × Leads p' m z
  -- what commuted commutes back
  pub back : Commutes q' p' p q
  -- q' commutes past the inverse of p
  pub past_inverse : Commutes (inv p) q' q (inv p')

-- the same, of two lists
pub record ListLaws (xs ys ys' xs' : List Prim) : Type 0 where
  pub ends_alike : (s u z : LawfulMap) → LeadsAll xs s u → LeadsAll ys u z → (m : LawfulMap) × LeadsAll ys' s m × LeadsAll xs' m z
  pub back : ListsCommute ys' xs' xs ys
  pub past_inverse : ListsCommute (inv_all xs) ys' ys (inv_all xs')

-- each law, of all pairs that commute
abbrev pub CommutedPairsEndAlike : Type 0
CommutedPairsEndAlike = (p q q' p' : Prim) → Commutes p q q' p' → (s u z : LawfulMap) → Leads p s u → Leads q u z →
    (m : LawfulMap) × Leads q' s m × Leads p' m z

abbrev pub PairsCommuteBack : Type 0
PairsCommuteBack = (p q q' p' : Prim) → Commutes p q q' p' → Commutes q' p' p q

abbrev pub PairsCommutePastAnInverse : Type 0
PairsCommutePastAnInverse = (p q q' p' : Prim) → Commutes p q q' p' → Commutes (inv p) q' q (inv p')

-- each law, of all lists that commute
abbrev pub CommutedListsEndAlike : Type 0
CommutedListsEndAlike = (xs ys ys' xs' : List Prim) → ListsCommute xs ys ys' xs' → (s u z : LawfulMap) → LeadsAll xs s u → LeadsAll ys u z →
    (m : LawfulMap) × LeadsAll ys' s m × LeadsAll xs' m z

abbrev pub ListsCommuteBack : Type 0
ListsCommuteBack = (xs ys ys' xs' : List Prim) → ListsCommute xs ys ys' xs' → ListsCommute ys' xs' xs ys

abbrev pub ListsCommutePastAnInverse : Type 0
ListsCommutePastAnInverse = (xs ys ys' xs' : List Prim) → ListsCommute xs ys ys' xs' → ListsCommute (inv_all xs) ys' ys (inv_all xs')

-- two lists that start at one state, turned round: where the inverse of r then n commute to n' then the inverse of r', the inverse of n then r
-- commute to r' then the inverse of n'
abbrev pub RectanglesTurn : Type 0
RectanglesTurn = (r n n' r' : List Prim) → ListsCommute (inv_all r) n n' (inv_all r') → ListsCommute (inv_all n) r r' (inv_all n')

-- a primitive leads from one lawful map to another exactly where its inverse leads back; so does a list
abbrev pub InversesLeadBack : Type 0
InversesLeadBack = (p : Prim) (s t : LawfulMap) → Leads p s t ↔ Leads (inv p) t s

abbrev pub ListInversesLeadBack : Type 0
ListInversesLeadBack = (ps : List Prim) (s t : LawfulMap) → LeadsAll ps s t ↔ LeadsAll (inv_all ps) t s

-- a primitive makes at most one map of a lawful map
abbrev pub OneWayToApply : Type 0
OneWayToApply = (p : Prim) (t u v : Map) → IsLawful t → Applies p t u → Applies p t v → u ≡ v

-- two primitives commute to at most one pair
abbrev pub OneWayToCommute : Type 0
OneWayToCommute = (p q q1 p1 q2 p2 : Prim) → Commutes p q q1 p1 → Commutes p q q2 p2 → (q1 ≡ q2) × (p1 ≡ p2)

-- two lists commute to at most one pair of lists
abbrev pub OneWayToCommuteLists : Type 0
OneWayToCommuteLists = (xs ys ys1 xs1 ys2 xs2 : List Prim) → ListsCommute xs ys ys1 xs1 → ListsCommute xs ys ys2 xs2 → (ys1 ≡ ys2) × (xs1 ≡ xs2)

-- two answers to applying a primitive to the same map report the same fault, or both none
abbrev pub ApplyingHasOneAnswer : Type 0
ApplyingHasOneAnswer = (p : Prim) (m : Map) (r s : Result (Unit {0}) TreeFault) → FaultsAs p m r → FaultsAs p m s → fault_of_change r ≡ fault_of_change s

-- the answer is not that memory ran out
abbrev pub IsNotOutOfMemory : Result (Unit {0}) (ℕ × TreeFault) → Type 0
IsNotOutOfMemory (Ok x) = Unit {0}
IsNotOutOfMemory (Err r) = r.1 ≢ NoMemory

-- two answers to applying a list to the same lawful tree, neither of them out of memory, are the same, and so are the trees that are left
abbrev pub ApplyingAListHasOneAnswer : Type 0
ApplyingAListHasOneAnswer = (ps : List Prim) (t u v : Tree) (r s : Result (Unit {0}) (ℕ × TreeFault)) → IsLawful (map.get t) → IsNotOutOfMemory r → IsNotOutOfMemory s →
    AppliedAll ps t u r → AppliedAll ps t v s → (r ≡ s) × (u ≡ v)

-- two answers to the same parts of a hunk are the same
abbrev pub HunkHasOneAnswer : Type 0
HunkHasOneAnswer = (h : HunkParts) (r s : Result HunkParts HunkFault) → MakesHunk h r → MakesHunk h s → r ≡ s

-- so are two answers to the same parts of a binary
abbrev pub BinaryHasOneAnswer : Type 0
BinaryHasOneAnswer = (b : BinaryParts) (r s : Result BinaryParts NoContent) → MakesBinary b r → MakesBinary b s → r ≡ s

-- and of a change of a preference
abbrev pub PreferenceHasOneAnswer : Type 0
PreferenceHasOneAnswer = (c : PreferenceParts) (r s : Result PreferenceParts BadPreference) → MakesPreference c r → MakesPreference c s → r ≡ s
