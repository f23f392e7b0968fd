-- What stays of a repository and what goes: their names, and the trees that they make.
use Rattle.std.specs.Prelude.{MatchBool, MatchOption}
use Rattle.std.proofs.Common.{◌≡◌, ◌≢◌, ◌↔◌, ◌⊎◌, Bool, true, false, List, [], ◌∷◌, ◌++◌, length, take, reverse, inl, inr, refl, ap, ap₂, ◌∙◌, arith, ℕ, zero, suc, ◌+◌, ◌<◌, slice_get, Option, Some, None}
use Rattle.std.specs.List.{Contains}
use Rattle.std.proofs.lemmas.List.{take_all, take_more}
use Rattle.std.proofs.lemmas.Option.{get_or_from_slice_get}
use Rattle.std.proofs.lemmas.List.Elements.{Contains-append_left, Contains-append_right, Contains-append_cases}
use Rattle.dm_info.specs.PatchInfo.{PatchInfo}
use Rattle.dm_prim.specs.Primitives.{LawfulMap}
use Rattle.dm_prim.specs.Rectangles.{Rectangle, empty, row}
use Rattle.dm_named.specs.Patches.{Patch}
use Rattle.dm_named.specs.Commuting.{NamedCommutes}
use Rattle.dm_bundle.specs.Bundles.{HasNoDoubles}
use Rattle.dm_bundle.specs.Patches.{infos_of, Distinct}
use Rattle.dm_repo.specs.Folds.{Fold, PatchLeads}
use Rattle.dm_repo.specs.Repositories.{IsRepo}
use Rattle.dm_repo.specs.Staircases.{Passes, Split}
use Rattle.dm_repo.specs.Staircases as staircases
use Rattle.dm_repo.specs.declared.refusal.Refusal.{Refusal}
use Rattle.dm_repo.specs.declared.refusal.Refusal.TheVariants.{MissingContext, MissingDependency, ContextDepends, HeldDepends, DoesNotFit, Conflicts, Full, NoMemory}
use Rattle.dm_repo.proofs.Members.{here, one_of, none_of, infos_of-append}
use Rattle.dm_repo.proofs.Squares.{named_back, named_runs}
use Rattle.dm_repo.proofs.Staircases.{runs_on, runs_part, split_back, split_in, split_out, split_runs}
use Rattle.dm_send.specs.Leaving.{Leaves, nothing, goes, stays, follows}
use Rattle.dm_send.specs.Minimizing.{MinimizesBehind}
use Rattle.dm_send.specs.Obliterating.{Obliterates, RefusesToObliterate}
use Rattle.dm_send.specs.Sending.{Accepts, IsRefusedAs, Parts, RefusesThere, behind, just, no_names, inside, outside}
use Rattle.dm_send.proofs.Minimal as minimal
use Rattle.dm_send.proofs.Parting.{front_distinct, no_doubles}
use Rattle.dm_send.proofs.Sent.{is_memory}
use Rattle.dm_send.proofs.Stairs.{rect_infos, row_infos}

-- names stay where patches pass others
rect_names : {xs xs' ys ys' : List Patch} → Rectangle NamedCommutes xs ys ys' xs' → infos_of xs' ≡ infos_of xs
rect_names empty = refl
rect_names (row g s) = ap₂ (λ i is. i ∷ is) (row_infos s).1 (rect_names g)

first_name : (x y : Patch) → infos_of (x ∷ []) ≡ infos_of (y ∷ []) → x.info ≡ y.info
first_name x y e = cc

pass_name : {x x' : Patch} {go go' : List Patch} → Passes NamedCommutes go x x' go' → x'.info ≡ x.info
pass_name {x} {x'} p = first_name x' x (rect_infos p)

-- the names of a list with one patch more
at_end : (xs : List Patch) (x : Patch) {i : PatchInfo} → Contains (infos_of (xs ++ x ∷ [])) i → Contains (infos_of xs) i ⊎ (x.info ≡ i)
at_end xs x {i} c = elim (Contains-append_cases (infos_of xs) (x.info ∷ []) i (rw (infos_of-append xs (x ∷ [])) at c)) [
  | inl d ↦ inl d
  | inr d ↦ elim (one_of x.info [] d) [ inl e ↦ inr e | inr n ↦ absurd (none_of n) ]
]

before_end : (xs : List Patch) (x : Patch) {i : PatchInfo} → Contains (infos_of xs) i → Contains (infos_of (xs ++ x ∷ [])) i
before_end xs x {i} c = rw (infos_of-append xs (x ∷ [])) (Contains-append_left (infos_of xs) (x.info ∷ []) i c)

the_end : (xs : List Patch) (x : Patch) → Contains (infos_of (xs ++ x ∷ [])) x.info
the_end xs x = rw (infos_of-append xs (x ∷ [])) (Contains-append_right (infos_of xs) (x.info ∷ []) x.info (here x.info []))

distinct_before : (is js : List PatchInfo) → Distinct (is ++ js) → Distinct is
distinct_before [] js d = tt
distinct_before (i ∷ is) js d = (λ c. d.0 (Contains-append_left is js i c), distinct_before is js d.1)

distinct_last : (is : List PatchInfo) (j : PatchInfo) → Distinct (is ++ j ∷ []) → Contains is j → ⊥
distinct_last [] j d c = none_of c
distinct_last (i ∷ is) j d c = elim (one_of i is c) [
  | inl e ↦ d.0 (rw e (Contains-append_right is (j ∷ []) j (here j [])))
  | inr k ↦ distinct_last is j d.1 k
]

distinct_end : (xs : List Patch) (x : Patch) → Distinct (infos_of (xs ++ x ∷ [])) → Distinct (infos_of xs) × (Contains (infos_of xs) x.info → ⊥)
distinct_end xs x d =
    let e = rw (infos_of-append xs (x ∷ [])) at d in
    (distinct_before (infos_of xs) (x.info ∷ []) e, distinct_last (infos_of xs) x.info e)

module _ {chosen : List PatchInfo} where
  in_stay : {xs stay go : List Patch} {bound : List (PatchInfo × PatchInfo)} {i : PatchInfo} → Leaves chosen xs stay go bound → Contains (infos_of stay) i → Contains (infos_of xs) i
  in_stay nothing c = c
  in_stay (goes x xs stay go bound l h) c = before_end xs x (in_stay l c)
  in_stay (stays x x' xs stay go go' bound l n p) c = elim (at_end stay x' c) [ inl d ↦ before_end xs x (in_stay l d) | inr e ↦ rw (← e, pass_name p) (the_end xs x) ]
  in_stay (follows x r xs stay go bound l n p) c = before_end xs x (in_stay l c)

  in_go : {xs stay go : List Patch} {bound : List (PatchInfo × PatchInfo)} {i : PatchInfo} → Leaves chosen xs stay go bound → Contains (infos_of go) i → Contains (infos_of xs) i
  in_go nothing c = c
  in_go (goes x xs stay go bound l h) c = elim (at_end go x c) [ inl d ↦ before_end xs x (in_go l d) | inr e ↦ rw (← e) (the_end xs x) ]
  in_go (stays x x' xs stay go go' bound l n p) c = before_end xs x (in_go l (rw (rect_names p) at c))
  in_go (follows x r xs stay go bound l n p) c = elim (at_end go x c) [ inl d ↦ before_end xs x (in_go l d) | inr e ↦ rw (← e) (the_end xs x) ]

  -- none stays and goes
  apart : {xs stay go : List Patch} {bound : List (PatchInfo × PatchInfo)} {i : PatchInfo} → Leaves chosen xs stay go bound → Distinct (infos_of xs) →
      Contains (infos_of stay) i → Contains (infos_of go) i → ⊥
  apart nothing d c k = none_of c
  apart (goes x xs stay go bound l h) d c k =
      let e = distinct_end xs x d in
      elim (at_end go x k) [ inl m ↦ apart l e.0 c m | inr q ↦ e.1 (rw q (in_stay l c)) ]
  apart (stays x x' xs stay go go' bound l n p) d c k =
      let e = distinct_end xs x d in
      let m = rw (rect_names p) at k in
      elim (at_end stay x' c) [ inl h ↦ apart l e.0 h m | inr q ↦ e.1 (rw (← pass_name p, q) (in_go l m)) ]
  apart (follows x r xs stay go bound l n p) d c k =
      let e = distinct_end xs x d in
      elim (at_end go x k) [ inl m ↦ apart l e.0 c m | inr q ↦ e.1 (rw q (in_stay l c)) ]

  -- a set that has the names of those that stay, and none of those that go, splits so
  left_split : (In : PatchInfo → Type 0) {xs stay go : List Patch} {bound : List (PatchInfo × PatchInfo)} → Leaves chosen xs stay go bound →
      ((i : PatchInfo) → Contains (infos_of stay) i → In i) → ((i : PatchInfo) → Contains (infos_of go) i → In i → ⊥) → Split NamedCommutes (λ x. In x.info) xs stay go
  left_split In nothing f g = staircases.nothing
  left_split In (goes x xs stay go bound l h) f g =
      split_out Patch NamedCommutes (λ x. In x.info) (left_split In l f (λ i c. g i (before_end go x c))) (g x.info (the_end go x))
  left_split In (stays x x' xs stay go go' bound l n p) f g =
      split_in Patch NamedCommutes (λ x. In x.info) (left_split In l (λ i c. f i (before_end stay x' c)) (λ i c. g i (rw (rect_names p) c)))
      (rw (pass_name p) at (f x'.info (the_end stay x'))) p
  left_split In (follows x r xs stay go bound l n p) f g =
      split_out Patch NamedCommutes (λ x. In x.info) (left_split In l f (λ i c. g i (before_end go x c))) (g x.info (the_end go x))

split_names : (In : PatchInfo → Type 0) {xs front rest : List Patch} → Split NamedCommutes (λ x. In x.info) xs front rest → Parts In (infos_of xs) (infos_of front) (infos_of rest)
split_names In staircases.nothing = no_names
split_names In (staircases.stays i s) = inside i (split_names In s)
split_names In (staircases.yields o s t) = let e = row_infos t in rw (e.0, e.1) (outside o (split_names In s))

module _ (repo : List Patch) (chosen : List PatchInfo) (stay go : List Patch) (bound : List (PatchInfo × PatchInfo)) (distinct : Distinct (infos_of repo)) (l : Leaves chosen repo stay go bound) where
  split : Split NamedCommutes (λ x. Contains (infos_of stay) x.info) repo stay go
  split = left_split (Contains (infos_of stay)) l (λ i c. c) (λ i c h. apart l distinct h c)

  parts : Parts (Contains (infos_of stay)) (infos_of repo) (infos_of stay) (infos_of go)
  parts = split_names (Contains (infos_of stay)) split

  pub stay_alone : HasNoDoubles stay []
  stay_alone = front_distinct (Contains (infos_of stay)) stay go (length go) parts distinct

  go_apart : HasNoDoubles go (reverse (infos_of stay))
  go_apart = rw (take_all (length go) go (omega arith)) at (no_doubles (Contains (infos_of stay)) stay go (length go) parts distinct)

  pub same_tree : (t : LawfulMap) → Fold repo t ↔ Fold (stay ++ go) t
  same_tree t = (there, back)
    where
      there : Fold repo t → Fold (stay ++ go) t
      there f =
          let a = split_runs Patch LawfulMap NamedCommutes PatchLeads named_runs _ split f.runs in
          record { start = f.start; is_root = f.is_root; runs = runs_on a.1 a.2 }

      back : Fold (stay ++ go) t → Fold repo t
      back f =
          let a = runs_part stay f.runs in
          record { start = f.start; is_root = f.is_root; runs = split_back Patch LawfulMap NamedCommutes PatchLeads named_runs named_back _ split a.1 a.2 }

  go_new : (i : PatchInfo) → Contains (infos_of go) i → Contains (infos_of stay) i → ⊥
  go_new i c h = apart l distinct h c

  -- what stays, or the bundle, is refused
  pub refuses_stay : (why told : Refusal) → (why ≡ NoMemory → told ≡ NoMemory) → (why ≢ NoMemory → told ≡ Full) → IsRefusedAs [] (just stay) why → (base : ℕ) → RefusesToObliterate repo base chosen told
  refuses_stay why told memory full r base = elim (is_memory why) [ inl e ↦ rw (memory e) tt | inr n ↦ rw (full n) (stay, go, bound, l, inl (why, n, r)) ]

  module _ (kept sent passed : List Patch) {base : ℕ} (m : MinimizesBehind NamedCommutes base stay go kept sent passed) where
    pub sent_apart : IsRepo stay → HasNoDoubles sent (reverse (infos_of kept))
    sent_apart ok = minimal.sent_apart stay go ok go_new kept sent passed m go_apart

    pub obliterates : IsRepo stay → Accepts stay (behind kept sent) → Obliterates repo base chosen stay (behind kept sent) bound
    obliterates ok a = record {
      go = go;
      leaves = l;
      names = parts;
      is_repo = ok;
      kept = kept;
      sent = sent;
      passed = passed;
      minimizes = m;
      is_bundle = refl;
      is_taken = minimal.takes stay go ok go_new kept sent passed m a;
      same_tree = same_tree;
    }

    pub refuses_bundle : (why : Refusal) → RefusesThere stay (behind kept sent) why → RefusesToObliterate repo base chosen why
    refuses_bundle Full r = (stay, go, bound, l, inr (kept, sent, passed, m, r))
    refuses_bundle NoMemory r = tt
    refuses_bundle (MissingContext c) r = absurd r
    refuses_bundle (MissingDependency n d) r = absurd r
    refuses_bundle (ContextDepends h k) r = absurd r
    refuses_bundle (HeldDepends h n) r = absurd r
    refuses_bundle (DoesNotFit n) r = absurd r
    refuses_bundle (Conflicts n h) r = absurd r

-- a square that was tried with a copy of what stands before
pub tried_before : (comes : Bool) (x y t y' x' : Patch) → t ≡ x → MatchBool comes (NamedCommutes t y y' x') ((q p : Patch) → NamedCommutes t y q p → ⊥) →
    MatchBool comes ((left : Patch) × NamedCommutes x y y' left) ((over left : Patch) → NamedCommutes x y over left → ⊥)
tried_before true x y t y' x' e c = (x', rw e at c)
tried_before false x y t y' x' e f = rw e at f

pub none_of_option : {X : Type 0} (A : Type 0) (B : X → Type 0) (o : Option X) → ((x : X) → o ≡ Some x → ⊥) → MatchOption o A B → A
none_of_option A B None n a = a
none_of_option A B (Some x) n b = absurd (n x refl)

-- what stands at a place
module _ {X : Type 0} where
  pub some_below : (xs : List X) (k : ℕ) (x : X) → slice_get xs k ≡ Some x → k < length xs
  some_below [] k x e = absurd (cc)
  some_below (y ∷ ys) zero x e = omega arith
  some_below (y ∷ ys) (suc k) x e = let i = some_below ys k x e in omega (arith, i)

  pub take_next : (xs : List X) (k : ℕ) (x : X) → slice_get xs k ≡ Some x → take (k + 1) xs ≡ take k xs ++ x ∷ []
  take_next xs k x e = take_more xs k x (some_below xs k x e) ∙ ap (λ y. take k xs ++ y ∷ []) (get_or_from_slice_get xs k x x e)

  pub empty_of : (xs : List X) → length xs ≡ 0 → xs ≡ []
  empty_of [] e = refl
  empty_of (x ∷ xs) e = absurd (omega (arith, e))
