-- From marks, stops and blocks to what weighing answers.
use Rattle.std.proofs.Common.{◌≡◌, ◌↔◌, ℕ, zero, suc, ◌+◌, ◌<◌, Bool, true, false, List, [], ◌∷◌, ◌++◌, length, map, slice_get, Some, Result, Ok, Err, MatchResult, refl, sym, ap, ap₂, subst, arith, add-zero}
use Rattle.std.specs.Prelude.{IfErr, IfOk}
use Rattle.std.specs.List.{All, Contains}
use Rattle.dm_info.specs.PatchInfo.{PatchInfo}
use Rattle.dm_named.specs.Patches.{Patch}
use Rattle.dm_bundle.specs.Patches.{infos_of}
use Rattle.dm_bundle.specs.Bundles.{Contents}
use Rattle.dm_repo.specs.declared.policy.Policy.{Policy}
use Rattle.dm_repo.specs.declared.refusal.Refusal.{Refusal}
use Rattle.dm_repo.specs.declared.refusal.Refusal.TheVariants.{MissingContext, MissingDependency, ContextDepends, HeldDepends, DoesNotFit, Conflicts, Full, NoMemory}
use Rattle.dm_repo.specs.declared.stop.Stop.{Stop}
use Rattle.dm_repo.specs.declared.stop.Stop.TheVariants as stops
use Rattle.dm_repo.specs.declared.stop.Blocked.{Blocked}
use Rattle.dm_repo.specs.declared.stop.Blocked.TheVariants as blocks
use Rattle.dm_repo.specs.Staircases.{SplitStops}
use Rattle.dm_repo.specs.Squares.{Placed, placed, placed_from, undone}
use Rattle.dm_repo.specs.Stops.{AtPlaces, StopsAt, BlockedBy, IsMarked, refusal_of, refusal_between}
use Rattle.dm_repo.specs.Repositories.{Holds}
use Rattle.dm_repo.specs.CommonSets.{HoldsAll}
use Rattle.dm_repo.specs.MarkLists.{AreMarksOf}
use Rattle.dm_repo.specs.Marking.{RefusesContext}
use Rattle.dm_repo.specs.Weighing.{HasPrerequisites, RefusesBundle}
use Rattle.dm_prim.specs.Primitives.{Prim}
use Rattle.dm_repo.proofs.Inverses.{inv_all-inv_all}
use Rattle.dm_repo.specs.Splitting.{RefusesToSplit}
use Rattle.dm_repo.proofs.Splits.{mark_at}
use Rattle.dm_repo.proofs.MarksLemmas.{at_place, some_at, within, read_at, read_true}
use Rattle.dm_repo.proofs.Alike.{Alike, no_more, and, split_alike}

-- an answer, seen another way
pub match_map : {X E : Type 0} {P P' : X → Type 0} {Q Q' : E → Type 0} (r : Result X E) → MatchResult r P Q → ((x : X) → P x → P' x) → ((e : E) → Q e → Q' e) → MatchResult r P' Q'
match_map (Ok x) h f g = f x h
match_map (Err e) h f g = g e h

-- an answer of two facts, told clause by clause
pub clauses : {X E : Type 0} (P P' : X → Type 0) (Q : E → Type 0) (r : Result X E) → MatchResult r (λ x. P x × P' x) Q → IfOk r P × IfErr r Q × IfOk r P'
clauses P P' Q (Ok x) h = (h.0, tt, h.1)
clauses P P' Q (Err e) h = (tt, h, tt)

-- a missing context, as splitting and as weighing tell it
pub context_to_split : (repo : List Patch) (b : Contents) (why : Refusal) → RefusesContext repo b why → RefusesToSplit repo b why
context_to_split repo b (MissingContext c) h = h
context_to_split repo b NoMemory h = tt
context_to_split repo b (MissingDependency n d) h = absurd h
context_to_split repo b (ContextDepends n d) h = absurd h
context_to_split repo b (HeldDepends n d) h = absurd h
context_to_split repo b (DoesNotFit n) h = absurd h
context_to_split repo b (Conflicts n d) h = absurd h
context_to_split repo b Full h = absurd h

pub context_to_weigh : (repo : List Patch) (b : Contents) (policy : Policy) (why : Refusal) → RefusesContext repo b why → RefusesBundle repo b policy why
context_to_weigh repo b policy (MissingContext c) h = h
context_to_weigh repo b policy NoMemory h = tt
context_to_weigh repo b policy (MissingDependency n d) h = absurd h
context_to_weigh repo b policy (ContextDepends n d) h = absurd h
context_to_weigh repo b policy (HeldDepends n d) h = absurd h
context_to_weigh repo b policy (DoesNotFit n) h = absurd h
context_to_weigh repo b policy (Conflicts n d) h = absurd h
context_to_weigh repo b policy Full h = absurd h

-- a repository that can't be split, as splitting and as weighing tell it
pub split_to_weigh : (repo : List Patch) (b : Contents) (policy : Policy) (why : Refusal) → HasPrerequisites repo b → RefusesToSplit repo b why → RefusesBundle repo b policy why
split_to_weigh repo b policy (MissingContext c) p h = h
split_to_weigh repo b policy (ContextDepends n d) p h = (p, h.1)
split_to_weigh repo b policy NoMemory p h = tt
split_to_weigh repo b policy (MissingDependency n d) p h = absurd h
split_to_weigh repo b policy (HeldDepends n d) p h = absurd h
split_to_weigh repo b policy (DoesNotFit n) p h = absurd h
split_to_weigh repo b policy (Conflicts n d) p h = absurd h
split_to_weigh repo b policy Full p h = absurd h

-- a block and a stop become the refusal that Q tells of
pub between_places : (Q : Refusal → Type 0) (why : ℕ → ℕ → Refusal) (S : ℕ → ℕ → Type 0) (blocked : Blocked) → Q NoMemory → ((j k : ℕ) → S j k → Q (why j k)) → BlockedBy blocked S → Q (refusal_between why blocked)
between_places Q why S (blocks.By j k) n f s = f j k s
between_places Q why S blocks.NoMemory n f s = n

pub of_place : (Q : Refusal → Type 0) (why : ℕ → Refusal) (S : Placed → Type 0) (stop : Stop) → Q NoMemory → ((x : Placed) → S x → Q (why x.0)) → StopsAt stop S → Q (refusal_of why stop)
of_place Q why S (stops.At k) n f (x, e, s) = subst (λ (j : ℕ). Q (why j)) (sym e) (f x s)
of_place Q why S stops.NoMemory n f s = n

-- marks tell of each patch of a list whether it is in the set
alike_from : (marks : List Bool) (Q : PatchInfo → Type 0) (n : ℕ) (xs : List Patch) → ((k : ℕ) (x : Patch) → slice_get xs k ≡ Some x → (slice_get marks (n + k) ≡ Some true) ↔ Q x.info) →
    Alike (IsMarked marks) (λ x. Q x.1.info) (placed_from n xs)
alike_from marks Q n [] f = no_more
alike_from marks Q n (x ∷ xs) f =
    let z : n + 0 ≡ n = add-zero n in
    let h : (slice_get marks n ≡ Some true) ↔ Q x.info = rw z at (f 0 x refl) in
    and h.0 h.1 (alike_from marks Q (n + 1) xs (λ k y e. let w : (n + 1) + k ≡ n + suc k = omega arith in rw w (f (suc k) y e)))

pub info_from : (xs : List Patch) (k : ℕ) {x : Patch} → slice_get xs k ≡ Some x → slice_get (infos_of xs) k ≡ Some x.info
info_from [] k e = absurd (cc)
info_from (y ∷ ys) zero e = ap (λ z. Some z.info) (some_is e)
  where
    some_is : {a b : Patch} → Some a ≡ Some b → a ≡ b
    some_is e = cc
info_from (y ∷ ys) (suc k) e = info_from ys k e

pub alike_placed : (marks : List Bool) (Q : PatchInfo → Type 0) (xs : List Patch) → AreMarksOf marks (infos_of xs) Q → Alike (IsMarked marks) (λ x. Q x.1.info) (placed xs)
alike_placed marks Q xs m = alike_from marks Q 0 xs (λ k x e. let z : 0 + k ≡ k = omega arith in rw z (m.at k x.info (info_from xs k e)))

-- the same of where a split stops
module _ {P : Type 0} (Square : P → P → P → P → Type 0) {In Out : P → Type 0} where
  alike_part : (xs : List P) (h : P) (ys : List P) → Alike In Out (xs ++ h ∷ ys) → Alike In Out xs × (In h → Out h)
  alike_part [] h ys (and f b e) = (no_more, f)
  alike_part (x ∷ xs) h ys (and f b e) = let a = alike_part xs h ys e in (and f b a.0, a.1)

  pub stops_alike : {xs : List P} {h r : P} → Alike In Out xs → SplitStops Square In xs h r → SplitStops Square Out xs h r
  stops_alike {h} a s =
      let p = alike_part s.before h s.after (rw s.at at a) in
      record {
        before = s.before;
        after = s.after;
        front = s.front;
        rest = s.rest;
        at = s.at;
        so_far = split_alike Square In Out p.0 s.so_far;
        in_set = p.1 s.in_set;
        stops = s.stops;
      }

pub blocked_map : {S S' : Placed → Placed → Type 0} (blocked : Blocked) → ((x y : Placed) → S x y → S' x y) → BlockedBy blocked (AtPlaces S) → BlockedBy blocked (AtPlaces S')
blocked_map (blocks.By j k) f (x, y, e, g, s) = (x, y, e, g, f x y s)
blocked_map blocks.NoMemory f s = tt

-- where all marks are set, Q holds of all
pub all_marked : (infos : List PatchInfo) (Q : PatchInfo → Type 0) (marks : List Bool) → AreMarksOf marks infos Q → All (λ mark. mark ≡ true) marks → (i : PatchInfo) → Contains infos i → Q i
all_marked infos Q marks m a i (k, l, e) =
    let n : k < length marks = omega (arith, l, m.length_is) in
    (m.at k i (at_place infos k i l (sym e))).0 (mark_at marks k true false n (a k false n))

pub not_all_held : (repo new : List Patch) (held : List Bool) → AreMarksOf held (infos_of new) (Holds repo) → HoldsAll repo (infos_of new) → All (λ mark. mark ≡ true) held
not_all_held repo new held m h k d l =
    let x = some_at (infos_of new) k (omega (arith, l, m.length_is)) in
    let n = within (infos_of new) k x.1 in
    sym (read_true held k d ((m.at k x.0 x.1).1 (h x.0 (k, n, sym (read_at (infos_of new) k x.0 x.1)))))

-- what is undone twice
pub undone_twice : (xs : List Placed) → map undone (map undone xs) ≡ xs
undone_twice [] = refl
undone_twice (x ∷ xs) = ap₂ (λ a b. a ∷ b) (same x) (undone_twice xs)
  where
    same : (x : Placed) → undone (undone x) ≡ x
    same x = ap (λ (ps : List Prim). (x.0, record { info = x.1.info; deps = x.1.deps; prims = ps })) (inv_all-inv_all x.1.prims)
