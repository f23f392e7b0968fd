-- Held names and what they name as dependencies: names that aren't held add nothing to what both hold.
use Rattle.std.proofs.Common.{◌≡◌, ◌↔◌, ℕ, ◌+◌, List, [], ◌∷◌, ◌++◌, ◌⊎◌, Result, Ok, Err, inl, inr}
use Rattle.std.specs.List.{Contains}
use Rattle.std.specs.Prelude.{IfErr, IfOk, MatchResult}
use Rattle.std.proofs.lemmas.List.Elements.{Contains-append_left, Contains-append_right, Contains-append_cases}
use Rattle.dm_info.specs.PatchInfo.{PatchInfo}
use Rattle.dm_named.specs.Patches.{Patch}
use Rattle.dm_bundle.specs.Bundles.{Contents}
use Rattle.dm_repo.specs.CommonSets.{Closed, given, needed}
use Rattle.dm_repo.specs.Repositories.{Holds}
use Rattle.dm_repo.specs.Splitting.{RefusesToSplit, SplitsInto}
use Rattle.dm_repo.specs.Squares.{Placed, placed, placed_from}
use Rattle.dm_repo.specs.Staircases.{Split, nothing, stays, yields, SplitStops}
use Rattle.dm_repo.specs.Weighing.{IsCommon}
use Rattle.dm_repo.specs.declared.parted.Parted.{Parted}
use Rattle.dm_repo.specs.declared.refusal.Refusal.{Refusal}
use Rattle.dm_repo.specs.declared.refusal.Refusal.TheVariants.{MissingContext, MissingDependency, ContextDepends, HeldDepends, DoesNotFit, Conflicts, Full, NoMemory}
use Rattle.dm_repo.proofs.Members.{here, more, one_of, none_of, from_at, in_infos}
use Rattle.dm_send.specs.Sending.{IsShared, IsSplitFor, MakesSameTree, RefusesToSplitFor}

-- a list is split in the same way by a set with the same members of it
module _ {P : Type 0} {Square : P → P → P → P → Type 0} {In Out : P → Type 0} where
  split_same : {xs front rest : List P} → ((x : P) → Contains xs x → In x ↔ Out x) → Split Square In xs front rest → Split Square Out xs front rest
  split_same f nothing = nothing
  split_same f (stays {h} {xs} i s) = stays ((f h (here h xs)).0 i) (split_same (λ x c. f x (more h xs c)) s)
  split_same f (yields {r} {xs} o s t) = yields (λ i. o ((f r (here r xs)).1 i)) (split_same (λ x c. f x (more r xs c)) s) t

  stops_same : {xs : List P} {h r : P} → ((x : P) → Contains xs x → In x ↔ Out x) → SplitStops Square In xs h r → SplitStops Square Out xs h r
  stops_same {h} f s = record {
    before = s.before;
    after = s.after;
    front = s.front;
    rest = s.rest;
    at = s.at;
    so_far = split_same (λ x c. f x (rw s.at (Contains-append_left s.before (h ∷ s.after) x c))) s.so_far;
    in_set = (f h (rw s.at (Contains-append_right s.before (h ∷ s.after) h (here h s.after)))).0 s.in_set;
    stops = s.stops;
  }

-- a patch of a list with its place
of_placed : (n : ℕ) (xs : List Patch) {x : Placed} → Contains (placed_from n xs) x → Contains xs x.1
of_placed n [] c = absurd (none_of c)
of_placed n (y ∷ ys) c = elim (one_of (n, y) (placed_from (n + 1) ys) c) [ inl e ↦ rw (← e) (here y ys) | inr d ↦ more y ys (of_placed (n + 1) ys d) ]

pub name_held : (repo : List Patch) {x : Placed} → Contains (placed repo) x → Holds repo x.1.info
name_held repo c = in_infos repo (of_placed 0 repo c)

-- those of names that are held
abbrev pub AreHeld : List Patch → List PatchInfo → List PatchInfo → Type 0
AreHeld repo names held = (i : PatchInfo) → Contains held i ↔ (Contains names i × Holds repo i)

-- one more name
at_end : (is : List PatchInfo) (j : PatchInfo) {i : PatchInfo} → Contains (is ++ j ∷ []) i → Contains is i ⊎ (j ≡ i)
at_end is j {i} c = elim (Contains-append_cases is (j ∷ []) i c) [ inl d ↦ inl d | inr d ↦ elim (one_of j [] d) [ inl e ↦ inr e | inr n ↦ absurd (none_of n) ] ]

pub held_more : (repo : List Patch) (names held : List PatchInfo) (j : PatchInfo) → AreHeld repo names held → Holds repo j → AreHeld repo (names ++ j ∷ []) (held ++ j ∷ [])
held_more repo names held j f h = λ i. (
  λ c. elim (at_end held j c) [
    | inl d ↦ let q = (f i).0 d in (Contains-append_left names (j ∷ []) i q.0, q.1)
    | inr e ↦ rw (← e) (Contains-append_right names (j ∷ []) j (here j []), h)
  ],
  λ p. elim (at_end names j p.0) [
    | inl d ↦ Contains-append_left held (j ∷ []) i ((f i).1 (d, p.1))
    | inr e ↦ rw (← e) (Contains-append_right held (j ∷ []) j (here j []))
  ],
)

pub held_less : (repo : List Patch) (names held : List PatchInfo) (j : PatchInfo) → AreHeld repo names held → (Holds repo j → ⊥) → AreHeld repo (names ++ j ∷ []) held
held_less repo names held j f n = λ i. (
  λ c. let q = (f i).0 c in (Contains-append_left names (j ∷ []) i q.0, q.1),
  λ p. elim (at_end names j p.0) [ inl d ↦ (f i).1 (d, p.1) | inr e ↦ absurd (n (rw e p.1)) ],
)

module _ (repo : List Patch) (theirs held : List PatchInfo) (are_held : AreHeld repo theirs held) where
  -- the bundle whose context they are
  abbrev pub resting : Contents
  resting = record { patches = []; context = held }

  there : {i : PatchInfo} → Closed repo held i → Closed repo theirs i
  there (given {i} h) = given ((are_held i).0 h).0
  there (needed m c d) = needed m (there c) d

  back : {i : PatchInfo} → Closed repo theirs i → Holds repo i → Closed repo held i
  back (given {i} h) k = given ((are_held i).1 (h, k))
  back (needed m c d) k = needed m (back c (in_infos repo m)) d

  same : (x : Placed) → Contains (placed repo) x → IsCommon repo resting x ↔ IsShared repo theirs x
  same x m = (λ c. elim c [ inl d ↦ there d | inr h ↦ absurd (none_of h.0) ], λ c. inl (back c (name_held repo m)))

  pub split_shared : {front rest : List Placed} → SplitsInto repo resting front rest → IsSplitFor repo theirs front rest
  split_shared s = split_same same s.split

  pub refuses_shared : (why : Refusal) → RefusesToSplit repo resting why → RefusesToSplitFor repo theirs why
  refuses_shared (MissingContext c) r = let w = r.0 in w.2 ((are_held w.0).0 (from_at held c w.1)).1
  refuses_shared (ContextDepends h k) r = let s = r.1 in (s.0, s.1, s.2, s.3, stops_same same s.4)
  refuses_shared NoMemory r = tt
  refuses_shared (MissingDependency n d) r = r
  refuses_shared (HeldDepends h n) r = r
  refuses_shared (DoesNotFit n) r = r
  refuses_shared (Conflicts n h) r = r
  refuses_shared Full r = r

  pub split_answer : {Z : Type 0} (r : Result (Parted Z) Refusal) → IfOk r (λ p. SplitsInto repo resting p.front.items p.rest.items) → IfOk r (λ p. MakesSameTree repo p.front.items p.rest.items) → IfErr r (RefusesToSplit repo resting) →
      MatchResult r (λ p. IsSplitFor repo theirs p.front.items p.rest.items × MakesSameTree repo p.front.items p.rest.items) (RefusesToSplitFor repo theirs)
  split_answer (Ok p) s t n = (split_shared s, t)
  split_answer (Err why) s t r = refuses_shared why r
