-- The patches of a repository that are marked, and the others, which stand aside: a repository that is split by its common patches.
use Rattle.std.proofs.Common.{◌≡◌, ℕ, zero, suc, ◌+◌, ◌<◌, ◌≤◌, Bool, true, false, List, [], ◌∷◌, ◌++◌, length, take, drop, get_or, slice_get, cond, filter, Some, inl, inr, refl, sym, ap, subst, ◌∙◌, arith, add-zero, append_assoc, append-nil}
use Rattle.std.specs.List.{All, Contains}
use Rattle.std.proofs.lemmas.List.{take-append-drop, drop_more, drop_all, length-drop}
use Rattle.dm_tree.specs.Paths.{Path}
use Rattle.dm_info.specs.PatchInfo.{PatchInfo}
use Rattle.dm_named.specs.Patches.{Patch}
use Rattle.dm_bundle.specs.Patches.{infos_of, Distinct}
use Rattle.dm_repo.specs.Aside.{LeavesAside}
use Rattle.dm_repo.specs.Nearby.{IsSet, behind, marked, StandsAt, IsToldApart, IsNearby}
use Rattle.dm_repo.specs.Repositories.{NamesEarlier, IsRepo}
use Rattle.dm_repo.specs.Staircases.{Split, SplitStops}
use Rattle.dm_repo.specs.Stops.{AreMarkedUpTo, IsMarked}
use Rattle.dm_repo.specs.Squares.{Placed, placed, placed_from, PlacedCommutes}
use Rattle.dm_repo.proofs.Members.{here, more, one_of, none_of, in_infos, infos_of-append}
use Rattle.dm_repo.proofs.Splits.{kept_stay, kept_stop, places_within}
use Rattle.dm_repo.proofs.NearSquares.{Near}
use Rattle.dm_repo.proofs.AsideSquares.{AreStrangers}
use Rattle.dm_repo.proofs.AsideSplits.{Leaves, ended, kept, left, IsFree, to_aside, split_all, split_stops_all, fronts_near}

-- a mark that is read
set_of : (marks : List Bool) (k : ℕ) → get_or marks k false ≡ true → IsSet marks k
set_of [] k e = absurd (cc)
set_of (m ∷ marks) zero e = ap Some e
set_of (m ∷ marks) (suc k) e = set_of marks k e

not_set : (marks : List Bool) (k : ℕ) → get_or marks k false ≡ false → IsSet marks k → ⊥
not_set [] k e s = cc
not_set (m ∷ marks) zero e s = cc
not_set (m ∷ marks) (suc k) e s = not_set marks k e s

-- what stands in a part of a list
at_drop : {X : Type 0} (n : ℕ) (xs : List X) (k : ℕ) → slice_get (drop n xs) k ≡ slice_get xs (n + k)
at_drop zero xs k = let e : 0 + k ≡ k = omega arith in rw e refl
at_drop (suc n) [] k = refl
at_drop (suc n) (x ∷ xs) k = let e : suc n + k ≡ suc (n + k) = omega arith in rw e (at_drop n xs k)

in_kept : (test : Placed → Bool) (xs : List Placed) {x : Placed} → Contains (filter test xs) x → Contains xs x
in_kept test [] c = c
in_kept test (y ∷ ys) {x} c = go (test y) (in_kept test ys) c
  where
    go : (b : Bool) → (Contains (filter test ys) x → Contains ys x) → Contains (cond b (y ∷ filter test ys) (filter test ys)) x → Contains (y ∷ ys) x
    go true f c = elim (one_of y (filter test ys) c) [ inl e ↦ rw (← e) (here y ys) | inr d ↦ more y ys (f d) ]
    go false f c = more y ys (f c)

of_placed : (n : ℕ) (xs : List Patch) {h : Placed} → Contains (placed_from n xs) h → Contains xs h.1
of_placed n [] c = absurd (none_of c)
of_placed n (x ∷ xs) {h} c = elim (one_of (n, x) (placed_from (n + 1) xs) c) [ inl e ↦ rw (← e) (here x xs) | inr d ↦ more x xs (of_placed (n + 1) xs d) ]

-- each patch names what stands earlier, so none names one that stands behind it
distinct_apart : (ks ms : List PatchInfo) {i : PatchInfo} → Distinct (ks ++ ms) → Contains ks i → Contains ms i → ⊥
distinct_apart [] ms d c h = none_of c
distinct_apart (k ∷ ks) ms {i} d c h = elim (one_of k ks c) [ inl e ↦ d.0 (rw e (behind_them ks)) | inr m ↦ distinct_apart ks ms d.1 m h ]
  where
    behind_them : (js : List PatchInfo) → Contains (js ++ ms) i
    behind_them [] = h
    behind_them (j ∷ js) = more j (js ++ ms) (behind_them js)

earlier_off : (known : List PatchInfo) (xs ys : List Patch) → NamesEarlier known (xs ++ ys) → NamesEarlier (known ++ infos_of xs) ys
earlier_off known [] ys n = rw (append-nil known) n
earlier_off known (x ∷ xs) ys n = rw (append_assoc known (x.info ∷ []) (infos_of xs)) at (earlier_off (known ++ x.info ∷ []) xs ys n.1)

module _ (repo : List Patch) (first : ℕ) (common : List Bool) (new : List Patch) (ps : List Path) (near : List Bool) (told : IsNearby repo first common new ps near) where
  abbrev Free : Placed → List Placed → Type 0
  Free = IsFree (IsMarked common) (λ y. Unit {0})

  abbrev Standing : List Placed → Type 0
  Standing xs = (h : Placed) → Contains xs h → StandsAt repo first h.0 h.1

  strangers : (x : Placed) → (IsSet near x.0 → ⊥) → StandsAt repo first x.0 x.1 → (h : Placed) → StandsAt repo first h.0 h.1 → IsMarked common h → (Contains x.1.deps h.1.info → ⊥) → AreStrangers x.1 h.1
  strangers x out a h b i n = record { x_named = λ c. out ((told.needed.each h.0 h.1 b i).each x.0 x.1 a.at c); y_named = n }

  leaves_from : (n : ℕ) (xs : List Patch) (known : List PatchInfo) → NamesEarlier known xs → Distinct (known ++ infos_of xs) → Standing (placed_from n xs) → Leaves ps Free (placed_from n xs) (marked near (placed_from n xs))
  leaves_from n [] known e d at = ended
  leaves_from n (x ∷ xs) known e d at =
      let below = leaves_from (n + 1) xs (known ++ x.info ∷ []) e.1 (rw (append_assoc known (x.info ∷ []) (infos_of xs)) d) (λ h c. at h (more (n, x) (placed_from (n + 1) xs) c)) in
      go below (get_or near n false) refl
    where
      tail : List Placed
      tail = placed_from (n + 1) xs

      stands : StandsAt repo first n x
      stands = at (n, x) (here (n, x) tail)

      apart : IsToldApart common near ps n x
      apart = told.told.each n x stands

      unnamed : (h : Placed) → Contains tail h → Contains x.deps h.1.info → ⊥
      unnamed h c k = distinct_apart known (x.info ∷ infos_of xs) d (e.0 h.1.info k) (more x.info (infos_of xs) (in_infos xs (of_placed (n + 1) xs c)))

      away : (IsSet near n → ⊥) → (h : Placed) → Contains (marked near tail) h → IsMarked common h → AreStrangers x h.1
      away out h c i =
          let d = in_kept (λ y. get_or near y.0 false) tail c in
          strangers (n, x) out stands h (at h (more (n, x) tail d)) i (unnamed h d)

      go : Leaves ps Free tail (marked near tail) → (b : Bool) → get_or near n false ≡ b → Leaves ps Free ((n, x) ∷ tail) (cond (get_or near n false) ((n, x) ∷ marked near tail) (marked near tail))
      go below true s = rw s (kept (apart.stays (set_of near n s)) below)
      go below false s = let out = not_set near n s in rw s (left (apart.aside out) (apart.uncommon out, away out, tt) below)

  standing : (n : ℕ) (xs : List Patch) → ((k : ℕ) (x : Patch) → slice_get xs k ≡ Some x → StandsAt repo first (n + k) x) → Standing (placed_from n xs)
  standing n [] f h c = absurd (none_of c)
  standing n (x ∷ xs) f h c = elim (one_of (n, x) (placed_from (n + 1) xs) c) [
    | inl e ↦ let s : StandsAt repo first n x = rw (add-zero n) at (f 0 x refl) in subst (λ (y : Placed). StandsAt repo first y.0 y.1) e s
    | inr d ↦ standing (n + 1) xs (λ k y g. let a : n + suc k ≡ n + 1 + k = omega arith in rw a at (f (suc k) y g)) h d
  ]

  pub near_leaves : IsRepo repo → Leaves ps Free (behind first repo) (marked near (behind first repo))
  near_leaves valid = leaves_from first (drop first repo) (infos_of (take first repo)) earlier distinct all
    where
      earlier : NamesEarlier (infos_of (take first repo)) (drop first repo)
      earlier = earlier_off [] (take first repo) (drop first repo) (rw (take-append-drop first repo) valid.earlier)

      distinct : Distinct (infos_of (take first repo) ++ infos_of (drop first repo))
      distinct = rw (← infos_of-append (take first repo) (drop first repo), take-append-drop first repo) valid.distinct

      all : Standing (placed_from first (drop first repo))
      all = standing first (drop first repo) (λ k x e. record { behind = omega arith; at = sym (at_drop first repo k) ∙ e })

  -- the whole repository is split where the marked ones behind the first are
  pub near_split : IsRepo repo → first ≤ length repo → AreMarkedUpTo common first → {front rest : List Placed} → Split PlacedCommutes (IsMarked common) (marked near (behind first repo)) front rest →
      (full : List Placed) × Split PlacedCommutes (IsMarked common) (placed repo) (placed (take first repo) ++ front) full × LeavesAside ps full rest × All (Near ps) front
  near_split valid l m {front} s =
      let a = split_all ps (IsMarked common) (λ y. Unit {0}) (near_leaves valid) s in
      (a.full, kept_stay common repo first l m a.split, to_aside a.leaves, fronts_near ps (IsMarked common) (λ y. Unit {0}) (marked near (behind first repo)) front a.fronts)

  pub near_stop : IsRepo repo → first ≤ length repo → AreMarkedUpTo common first → {h r : Placed} → SplitStops PlacedCommutes (IsMarked common) (marked near (behind first repo)) h r →
      SplitStops PlacedCommutes (IsMarked common) (placed repo) h r
  near_stop valid l m s = kept_stop common repo first l m (split_stops_all ps (near_leaves valid) s)

-- copies that are made of the patches of a list from a place on
module _ (xs : List Patch) (k : ℕ) (x : Patch) (l : k < length xs) (e : x ≡ get_or xs k x) where
  next_is : behind k xs ≡ (k, x) ∷ behind (k + 1) xs
  next_is = ap (placed_from k) (drop_more xs k x l ∙ ap (λ y. y ∷ drop (k + 1) xs) (sym e))

  pub behind_more : (copies all : List Placed) (y : Patch) {copies' : List Placed} → copies ++ behind k xs ≡ all → y ≡ x → copies' ≡ copies ++ (k, y) ∷ [] → copies' ++ behind (k + 1) xs ≡ all
  behind_more copies all y so_far s c =
      ap (λ z. z ++ behind (k + 1) xs) (c ∙ ap (λ z. copies ++ (k, z) ∷ []) s) ∙ append_assoc copies ((k, x) ∷ []) (behind (k + 1) xs) ∙ ap (λ z. copies ++ z) (sym next_is) ∙ so_far

  marked_next : (near : List Bool) (b : Bool) → get_or near k false ≡ b → marked near (behind k xs) ≡ cond b ((k, x) ∷ marked near (behind (k + 1) xs)) (marked near (behind (k + 1) xs))
  marked_next near b m = ap (marked near) next_is ∙ ap (λ z. cond z ((k, x) ∷ marked near (behind (k + 1) xs)) (marked near (behind (k + 1) xs))) m

  pub marked_in : (near : List Bool) (copies all : List Placed) (y : Patch) {copies' : List Placed} → copies ++ marked near (behind k xs) ≡ all → get_or near k false ≡ true → y ≡ x → copies' ≡ copies ++ (k, y) ∷ [] →
      copies' ++ marked near (behind (k + 1) xs) ≡ all
  marked_in near copies all y so_far m s c =
      ap (λ z. z ++ marked near (behind (k + 1) xs)) (c ∙ ap (λ z. copies ++ (k, z) ∷ []) s) ∙ append_assoc copies ((k, x) ∷ []) (marked near (behind (k + 1) xs)) ∙ ap (λ z. copies ++ z) (sym (marked_next near true m)) ∙ so_far

pub marked_out : (xs : List Patch) (k : ℕ) (near : List Bool) (copies all : List Placed) → k < length xs → copies ++ marked near (behind k xs) ≡ all → get_or near k false ≡ false → copies ++ marked near (behind (k + 1) xs) ≡ all
marked_out [] k near copies all l so_far m = absurd (omega (arith, l))
marked_out (y ∷ ys) k near copies all l so_far m =
    ap (λ z. copies ++ z) (sym (marked_next (y ∷ ys) k (get_or (y ∷ ys) k y) l (same_get (y ∷ ys) k y l) near false m)) ∙ so_far
  where
    same_get : {X : Type 0} (zs : List X) (k : ℕ) (d : X) → k < length zs → get_or zs k d ≡ get_or zs k (get_or zs k d)
    same_get [] k d l = absurd (omega (arith, l))
    same_get (z ∷ zs) zero d l = refl
    same_get (z ∷ zs) (suc k) d l = same_get zs k d (omega (arith, l))

pub none_behind : (xs : List Patch) (k : ℕ) → length xs ≤ k → behind k xs ≡ []
none_behind xs k l = ap (placed_from k) (drop_all k xs l)

-- the places of those
pub behind_within : (xs : List Patch) (k n : ℕ) → k ≤ length xs → n ≡ length xs → (x : Placed) → Contains (behind k xs) x → x.0 < n
behind_within xs k n l e x c = let p = places_within k (drop k xs) x c in omega (arith, l, e, p, length-drop k xs)

pub marked_within : (near : List Bool) (xs : List Patch) (k n : ℕ) → k ≤ length xs → n ≡ length xs → (x : Placed) → Contains (marked near (behind k xs)) x → x.0 < n
marked_within near xs k n l e x c = behind_within xs k n l e x (in_kept (λ y. get_or near y.0 false) (behind k xs) c)
