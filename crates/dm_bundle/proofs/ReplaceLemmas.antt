-- How many replaces there are among new patches.
use Rattle.std.proofs.Common.{Option, Some, None, ◌≡◌, ◌≤◌, ◌<◌, ◌+◌, ◌*◌, ℕ, List, [], ◌∷◌, ◌++◌, length, get_or, take, drop, map, refl, sym, ap, subst, ◌∙◌, arith}
use Rattle.std.specs.Prelude.{MatchOption}
use Rattle.std.proofs.lemmas.List.{take_more, map_push, map-append, take-append-drop}
use Rattle.std.specs.List.{AllByRecursion}
use Rattle.dm_prim.specs.Primitives.{Prim, AddFile, RmFile, AddDir, RmDir, Hunk, Binary, Replace, At, Move, ChangePref}
use Rattle.dm_named.specs.Kinds.{IsOf, AreOf}
use Rattle.dm_named.specs.Limits.{own}
use Rattle.dm_named.specs.Laws.{with_kinds}
use Rattle.dm_named.specs.Patches.{Patch}
use Rattle.dm_named.specs.declared.limits.Limits.{Limits}
use Rattle.dm_named.specs.declared.limits.Kinds.{Kinds}
use Rattle.dm_named.specs.declared.limits.Kinds.TheVariants as these
use Rattle.dm_bundle.specs.Patches.{replaces_in, replaces_among, replaces_of, IsFewReplaces, HasFewReplaces, AreFewWithin, AreAllOf}
use Rattle.dm_bundle.specs.Room.{IsRoom, LeavesRoom}

-- ---- counts

pub among_append : (ps qs : List Prim) → replaces_among (ps ++ qs) ≡ replaces_among ps + replaces_among qs
among_append [] qs = omega arith
among_append (p ∷ ps) qs = omega (arith, among_append ps qs)

pub of_append : (ps qs : List Patch) → replaces_of (ps ++ qs) ≡ replaces_of ps + replaces_of qs
of_append [] qs = omega arith
of_append (p ∷ ps) qs = omega (arith, of_append ps qs)

pub of_one_more : (ps : List Patch) (p : Patch) → replaces_of (ps ++ p ∷ []) ≡ replaces_of ps + replaces_among p.prims
of_one_more ps p = omega (arith, of_append ps (p ∷ []))

-- one more primitive is counted
pub among_step : {X : Type 0} (f : X → Prim) (xs : List X) (i : ℕ) (x : X) → i < length xs → x ≡ get_or xs i x → replaces_among (map f (take (i + 1) xs)) ≡ replaces_among (map f (take i xs)) + replaces_in (f x)
among_step f xs i x lt is =
    let next : take (i + 1) xs ≡ take i xs ++ x ∷ [] = take_more xs i x lt ∙ ap (λ z. take i xs ++ z ∷ []) (sym is) in
    rw (next, map_push f (take i xs) x) (omega (arith, among_append (map f (take i xs)) (f x ∷ [])))

-- the first ones have no more than all
pub among_front : {X : Type 0} (f : X → Prim) (xs : List X) (i : ℕ) → replaces_among (map f (take i xs)) ≤ replaces_among (map f xs)
among_front f xs i =
    let whole : map f xs ≡ map f (take i xs) ++ map f (drop i xs) = ap (map f) (sym (take-append-drop i xs)) ∙ map-append f (take i xs) (drop i xs) in
    omega (arith, ap replaces_among whole, among_append (map f (take i xs)) (map f (drop i xs)))

one_at_most : (p : Prim) → replaces_in p ≤ 1
one_at_most (At p AddFile) = omega arith
one_at_most (At p RmFile) = omega arith
one_at_most (At p AddDir) = omega arith
one_at_most (At p RmDir) = omega arith
one_at_most (At p (Hunk l old new)) = omega arith
one_at_most (At p (Binary old new)) = omega arith
one_at_most (At p (Replace set old new)) = omega arith
one_at_most (Move a b) = omega arith
one_at_most (ChangePref name old new) = omega arith

among_at_most : (ps : List Prim) → replaces_among ps ≤ length ps
among_at_most [] = omega arith
among_at_most (p ∷ ps) = omega (arith, one_at_most p, among_at_most ps)

-- patches of so many primitives at most have no more replaces than as many times their number
pub of_at_most : (most : ℕ) (ps : List Patch) → AllByRecursion (λ p. length p.prims ≤ most) ps → replaces_of ps ≤ length ps * most
of_at_most most [] short = omega arith
of_at_most most (p ∷ ps) short = omega (arith, among_at_most p.prims, short.0, of_at_most most ps short.1)

-- ---- the six kinds have none

none_in : (p : Prim) → IsOf these.Six p → replaces_in p ≡ 0
none_in (At p AddFile) six = refl
none_in (At p RmFile) six = refl
none_in (At p AddDir) six = refl
none_in (At p RmDir) six = refl
none_in (At p (Hunk l old new)) six = refl
none_in (At p (Binary old new)) six = absurd six
none_in (At p (Replace set old new)) six = absurd six
none_in (Move a b) six = refl
none_in (ChangePref name old new) six = absurd six

none_among : (ps : List Prim) → AreOf these.Six ps → replaces_among ps ≡ 0
none_among [] six = refl
none_among (p ∷ ps) six = omega (arith, none_in p six.0, none_among ps six.1)

pub none_of_six : (ps : List Patch) → AreAllOf these.Six ps → replaces_of ps ≡ 0
none_of_six [] six = refl
none_of_six (p ∷ ps) six = omega (arith, none_among p.prims six.0, none_of_six ps six.1)

-- ---- fewer are few

few_less : (kinds : Kinds) (most m n : ℕ) → m ≤ n → IsFewReplaces kinds most n → IsFewReplaces kinds most m
few_less these.Six most m n le few = tt
few_less these.All most m n le few = omega (arith, le, few)

few_if : (kinds : Kinds) (most n : ℕ) → n ≤ most → IsFewReplaces kinds most n
few_if these.Six most n le = tt
few_if these.All most n le = le

-- patches of the six kinds have few
pub few_of_six : (limits : Limits) (ps : List Patch) → AreAllOf these.Six ps → HasFewReplaces limits ps
few_of_six limits ps six = few_if limits.kinds limits.replaces (replaces_of ps) (omega (arith, none_of_six ps six))

-- those in front of others have no more
pub few_front : (limits : Limits) (ps qs : List Patch) → HasFewReplaces limits (ps ++ qs) → HasFewReplaces limits ps
few_front limits ps qs few = few_less limits.kinds limits.replaces (replaces_of ps) (replaces_of (ps ++ qs)) (omega (arith, of_append ps qs)) few

-- those behind others have no more
pub few_behind : (limits : Limits) (ps qs : List Patch) → HasFewReplaces limits (ps ++ qs) → HasFewReplaces limits qs
few_behind limits ps qs few = few_less limits.kinds limits.replaces (replaces_of qs) (replaces_of (ps ++ qs)) (omega (arith, of_append ps qs)) few

-- those up to a patch have no more
pub few_up_to : (limits : Limits) (ps : List Patch) (p : Patch) (more : List Patch) → HasFewReplaces limits (ps ++ p ∷ more) → HasFewReplaces limits (ps ++ p ∷ [])
few_up_to limits ps p more few =
    few_less limits.kinds limits.replaces (replaces_of (ps ++ p ∷ [])) (replaces_of (ps ++ p ∷ more)) (omega (arith, of_append ps (p ∷ more), of_append ps (p ∷ []))) few

-- those up to the next of them have no more
pub few_next : (limits : Limits) (ps : List Patch) (k : ℕ) (p : Patch) → k < length ps → p ≡ get_or ps k p → HasFewReplaces limits ps → HasFewReplaces limits (take k ps ++ p ∷ [])
few_next limits ps k p lt is few =
    let next : take (k + 1) ps ≡ take k ps ++ p ∷ [] = take_more ps k p lt ∙ ap (λ (q : Patch). take k ps ++ q ∷ []) (sym is) in
    subst (HasFewReplaces limits) next (few_front limits (take (k + 1) ps) (drop (k + 1) ps) (subst (HasFewReplaces limits) (sym (take-append-drop (k + 1) ps)) few))

-- where each primitive may be a replace, whatever kinds are read, no more is asked than of the six kinds
pub few_for_own : (kinds : Kinds) (ps : List Patch) → AreFewWithin own ps → AreFewWithin (with_kinds own kinds) ps
few_for_own kinds ps few =
    let count = few.count in
    let most = of_at_most own.prims ps few.prims in
    record { count = few.count; prims = few.prims; replaces = few_if kinds own.replaces (replaces_of ps) (omega (arith, count, most)) }

-- ---- how many more may follow

start_of : (kinds : Kinds) (most : ℕ) → IsRoom kinds most 0 most
start_of these.Six most = tt
start_of these.All most = omega arith

-- before the first patch, as many as the limits allow
pub room_at_first : (limits : Limits) → LeavesRoom limits [] limits.replaces
room_at_first limits = start_of limits.kinds limits.replaces

few_of_room : (kinds : Kinds) (most n left : ℕ) → IsRoom kinds most n left → IsFewReplaces kinds most n
few_of_room these.Six most n left room = tt
few_of_room these.All most n left room = omega (arith, room)

-- where some may follow, those before are few
pub room_few : (limits : Limits) (ps : List Patch) (left : ℕ) → LeavesRoom limits ps left → HasFewReplaces limits ps
room_few limits ps left room = few_of_room limits.kinds limits.replaces (replaces_of ps) left room

less_of : (kinds : Kinds) (most n m room left : ℕ) → left + m ≡ room → IsRoom kinds most n room → IsRoom kinds most (n + m) left
less_of these.Six most n m room left e at = tt
less_of these.All most n m room left e at = omega (arith, e, at)

none_of : (kinds : Kinds) (most n m room : ℕ) → kinds ≡ these.All → room < m → IsRoom kinds most n room → IsFewReplaces kinds most (n + m) → ⊥
none_of these.Six most n m room e lt at few = cc e
none_of these.All most n m room e lt at few = omega (arith, lt, at, few)

-- what is known of the primitives of a patch tells how many more may follow the patch
pub room_past : (limits : Limits) (p : Patch) (room : ℕ) (r : Option ℕ) → limits.kinds ≡ these.All → MatchOption r (room < replaces_among p.prims) (λ left. left + replaces_among p.prims ≡ room)
    → MatchOption r ((ps : List Patch) → LeavesRoom limits ps room → HasFewReplaces limits (ps ++ p ∷ []) → ⊥) (λ left. (ps : List Patch) → LeavesRoom limits ps room → LeavesRoom limits (ps ++ p ∷ []) left)
room_past limits p room None e lt =
    λ ps at few. none_of limits.kinds limits.replaces (replaces_of ps) (replaces_among p.prims) room e lt at (subst (IsFewReplaces limits.kinds limits.replaces) (of_one_more ps p) few)
room_past limits p room (Some left) e is =
    λ ps at. subst (λ (n : ℕ). IsRoom limits.kinds limits.replaces n left) (sym (of_one_more ps p)) (less_of limits.kinds limits.replaces (replaces_of ps) (replaces_among p.prims) room left is at)
