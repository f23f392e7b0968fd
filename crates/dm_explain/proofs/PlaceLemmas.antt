-- What is told of a bundle stands at its places: a patch that passes others keeps its place, and the number of its primitives.
use Rattle.std.proofs.Common.{◌≡◌, ℕ, suc, ◌+◌, ◌<◌, List, [], ◌∷◌, ◌++◌, length, slice_get, Some, None, refl, sym, ap, ◌∙◌, add-zero, arith, length-append}
use Rattle.std.specs.List.{AllByRecursion}
use Rattle.std.specs.Option.{option_map}
use Rattle.std.proofs.lemmas.Option.{slice_get-map}
use Rattle.dm_prim.specs.Primitives.{Prim, inv, inv_all}
use Rattle.dm_prim.specs.Rectangles.{CellRow, none, next, Rectangle, empty, row}
use Rattle.dm_prim.specs.Commuting.{Commutes}
use Rattle.dm_named.specs.Patches.{Patch}
use Rattle.dm_bundle.specs.Bundles.{Contents}
use Rattle.dm_bundle.specs.Patches.{infos_of}
use Rattle.dm_repo.specs.declared.clash.Clash.{Clash}
use Rattle.dm_repo.specs.declared.overflow.Overflow.{Overflow}
use Rattle.dm_repo.specs.declared.overflow.Overflow.TheVariants.{Front, Merged}
use Rattle.dm_repo.specs.declared.policy.Policy.{Policy}
use Rattle.dm_repo.specs.declared.policy.Policy.TheVariants.{Refuse, Skip}
use Rattle.dm_repo.specs.Clashes.{ClashesPast, IsClash, PrimsClash}
use Rattle.dm_repo.specs.Merging.{MergeRectangle, bare, over}
use Rattle.dm_repo.specs.Overflows.{IsOverflow}
use Rattle.dm_repo.specs.Sifting.{MergesUnder, Sifts, ends, merges, skips}
use Rattle.dm_repo.specs.Squares.{Placed, placed, placed_from, PlacedCommutes, PlacedMerges}
use Rattle.dm_repo.specs.Staircases.{Split, nothing, stays, yields}
use Rattle.dm_repo.specs.Weighing.{IsBundleSplit}
use Rattle.dm_explain.specs.Accounts.{overflowing}

-- rows and rectangles keep their sizes
module _ {P : Type 0} (Cell : P → P → P → P → Type 0) where
  row_size : {x x' : P} {ys ys' : List P} → CellRow Cell x ys ys' x' → length ys' ≡ length ys
  row_size none = refl
  row_size (next c s) = ap suc (row_size s)

  sizes : {xs ys ys' xs' : List P} → Rectangle Cell xs ys ys' xs' → (length ys' ≡ length ys) × (length xs' ≡ length xs)
  sizes empty = (refl, refl)
  sizes (row g s) = let e = sizes g in (row_size s ∙ e.0, ap suc e.1)

count_inv : (ps : List Prim) → length (inv_all ps) ≡ length ps
count_inv [] = refl
count_inv (p ∷ ps) = omega (arith, length-append (inv_all ps) (inv p ∷ []), count_inv ps)

-- what cells keep on both sides, rows and rectangles do
module _ {P : Type 0} (Cell : P → P → P → P → Type 0) (Q R : P → Type 0) (keeps : (x y y' x' : P) → Cell x y y' x' → (Q x → Q x') × (R y → R y')) where
  row_keeps : {x x' : P} {ys ys' : List P} → CellRow Cell x ys ys' x' → Q x → AllByRecursion R ys → Q x' × AllByRecursion R ys'
  row_keeps none q r = (q, r)
  row_keeps (next {x} {y} {y'} {x1} c s) q r = let k = keeps x y y' x1 c in let m = row_keeps s (k.0 q) r.1 in (m.0, (k.1 r.0, m.1))

  rectangle_keeps : {xs ys ys' xs' : List P} → Rectangle Cell xs ys ys' xs' → AllByRecursion Q xs → AllByRecursion R ys → AllByRecursion Q xs' × AllByRecursion R ys'
  rectangle_keeps empty q r = (tt, r)
  rectangle_keeps (row g s) q r = let m = rectangle_keeps g q.1 r in let n = row_keeps s q.0 m.1 in ((n.0, m.0), n.1)

  merge_keeps : {rest new new' rest' : List P} → MergeRectangle Cell rest new new' rest' → AllByRecursion Q rest → AllByRecursion R new → AllByRecursion Q rest' × AllByRecursion R new'
  merge_keeps bare q r = (tt, r)
  merge_keeps (over s g) q r = let m = row_keeps s q.0 r in let n = merge_keeps g q.1 m.1 in ((m.0, n.0), n.1)

-- parts of a list
module _ {P : Type 0} (Q : P → Type 0) where
  front_all : (xs ys : List P) → AllByRecursion Q (xs ++ ys) → AllByRecursion Q xs
  front_all [] ys a = tt
  front_all (x ∷ xs) ys a = (a.0, front_all xs ys a.1)

  middle : (xs : List P) (y : P) (zs : List P) → AllByRecursion Q (xs ++ y ∷ zs) → Q y
  middle [] y zs a = a.0
  middle (x ∷ xs) y zs a = middle xs y zs a.1

  all_push : (xs : List P) (y : P) → AllByRecursion Q xs → Q y → AllByRecursion Q (xs ++ y ∷ [])
  all_push [] y a q = (q, tt)
  all_push (x ∷ xs) y a q = (a.0, all_push xs y a.1 q)

-- y has this place, and the patch of xs at the place has as many primitives
record StandsAt (xs : List Patch) (place : ℕ) (y : Placed) : Type 0 where
  is_place : y.0 ≡ place
  patch : Patch
  at : slice_get xs place ≡ Some patch
  count : length patch.prims ≡ length y.1.prims

abbrev Stands : List Patch → Placed → Type 0
Stands xs y = StandsAt xs y.0 y

stands_on : (xs : List Patch) (place : ℕ) {y y' : Placed} → y'.0 ≡ y.0 → length y'.1.prims ≡ length y.1.prims → StandsAt xs place y → StandsAt xs place y'
stands_on xs place e n s = record { is_place = e ∙ s.is_place; patch = s.patch; at = s.at; count = s.count ∙ sym n }

here : (xs : List Patch) (place : ℕ) {y : Placed} → StandsAt xs place y → Stands xs y
here xs place s = record { is_place = refl; patch = s.patch; at = ap (slice_get xs) s.is_place ∙ s.at; count = s.count }

commute_keeps : (xs : List Patch) (x y y' x' : Placed) → PlacedCommutes x y y' x' → (Stands xs x → Stands xs x') × (Stands xs y → Stands xs y')
commute_keeps xs x y y' x' c = let e = sizes Commutes c.commutes.prims in (λ s. here xs x.0 (stands_on xs x.0 c.x_place e.1 s), λ s. here xs y.0 (stands_on xs y.0 c.y_place e.0 s))

merged_sizes : {r n n' r' : Placed} → PlacedMerges r n n' r' → (length n'.1.prims ≡ length n.1.prims) × (length r'.1.prims ≡ length r.1.prims)
merged_sizes {r} {r'} c = let e = sizes Commutes c.merges.prims in (e.0, sym (count_inv r'.1.prims) ∙ e.1 ∙ count_inv r.1.prims)

merged_keeps : (xs ys : List Patch) (r n n' r' : Placed) → PlacedMerges r n n' r' → (Stands xs r → Stands xs r') × (Stands ys n → Stands ys n')
merged_keeps xs ys r n n' r' c = let e = merged_sizes c in (λ s. here xs r.0 (stands_on xs r.0 c.r_place e.1 s), λ s. here ys n.0 (stands_on ys n.0 c.n_place e.0 s))

merged_keeps_at : (xs ys : List Patch) (place : ℕ) (r n n' r' : Placed) → PlacedMerges r n n' r' → (Stands xs r → Stands xs r') × (StandsAt ys place n → StandsAt ys place n')
merged_keeps_at xs ys place r n n' r' c = let e = merged_sizes c in (λ s. here xs r.0 (stands_on xs r.0 c.r_place e.1 s), λ s. stands_on ys place c.n_place e.0 s)

placed_from_stand : (xs : List Patch) (k : ℕ) (ys : List Patch) → ((j : ℕ) → slice_get xs (k + j) ≡ slice_get ys j) → AllByRecursion (Stands xs) (placed_from k ys)
placed_from_stand xs k [] h = tt
placed_from_stand xs k (y ∷ ys) h = (
  record { is_place = refl; patch = y; at = sym (ap (slice_get xs) (add-zero k)) ∙ h 0; count = refl },
  placed_from_stand xs (k + 1) ys (λ j. let e : k + 1 + j ≡ k + suc j = omega arith in ap (slice_get xs) e ∙ h (suc j)),
)

placed_stand : (xs : List Patch) → AllByRecursion (Stands xs) (placed xs)
placed_stand xs = placed_from_stand xs 0 xs (λ j. let e : 0 + j ≡ j = omega arith in ap (slice_get xs) e)

split_stands : (xs : List Patch) {In : Placed → Type 0} {ys front rest : List Placed} → Split PlacedCommutes In ys front rest → AllByRecursion (Stands xs) ys → AllByRecursion (Stands xs) front × AllByRecursion (Stands xs) rest
split_stands xs nothing a = (tt, tt)
split_stands xs (stays i s) a = let m = split_stands xs s a.1 in ((a.0, m.0), m.1)
split_stands xs (yields o s t) a =
    let m = split_stands xs s a.1 in
    let n = row_keeps PlacedCommutes (Stands xs) (Stands xs) (commute_keeps xs) t a.0 m.0 in (n.1, (n.0, m.1))

module _ (repo : List Patch) (b : Contents) where
  split_all : {front rest new : List Placed} → IsBundleSplit repo b front rest new → AllByRecursion (Stands repo) front × AllByRecursion (Stands repo) rest × AllByRecursion (Stands b.patches) new
  split_all s =
      let r = split_stands repo s.repo_split.split (placed_stand repo) in
      let n = split_stands b.patches s.split (placed_stand b.patches) in (r.0, r.1, n.1)

  -- what is merged where others are skipped
  sifted : {skipped rest new merged left : List Placed} → Sifts skipped rest new merged left → AllByRecursion (Stands b.patches) skipped → AllByRecursion (Stands repo) rest → AllByRecursion (Stands b.patches) new →
      AllByRecursion (Stands b.patches) merged
  sifted ends k r n = tt
  sifted (merges o g) k r n =
      let p = rectangle_keeps PlacedCommutes (Stands b.patches) (Stands b.patches) (commute_keeps b.patches) o.passes_skipped k (n.0, tt) in
      let m = merge_keeps PlacedMerges (Stands repo) (Stands b.patches) (merged_keeps repo b.patches) o.merges_past r p.1 in
      (m.1.0, sifted g p.0 m.0 n.1)
  sifted (skips {n = x} {skipped} stuck g) k r n = sifted g (all_push (Stands b.patches) skipped x k n.0) r n.1

  merged_all : (policy : Policy) (rest new merged : List Placed) (count : ℕ) → MergesUnder policy rest new merged count → AllByRecursion (Stands repo) rest → AllByRecursion (Stands b.patches) new → AllByRecursion (Stands b.patches) merged
  merged_all Refuse rest new merged count (m, e) r n = (merge_keeps PlacedMerges (Stands repo) (Stands b.patches) (merged_keeps repo b.patches) m.1 r n).1
  merged_all Skip rest new merged count (some, (left, g, e)) r n = sifted g tt r n

  -- a patch of the list has a name
  named : (xs : List Patch) (y : Placed) → Stands xs y → slice_get (infos_of xs) y.0 ≡ None → ⊥
  named xs y s e = let f = slice_get-map (λ (x : Patch). x.info) xs y.0 in let a : slice_get (infos_of xs) y.0 ≡ Some s.patch.info = f ∙ ap (option_map (λ (x : Patch). x.info)) s.at in cc

  -- who makes a path too deep
  pub overflow_named : {Z : Type 0} (policy : Policy) (o : Overflow Z) → IsOverflow repo b policy o → overflowing repo b o ≡ None → ⊥
  overflow_named policy (Front m) i =
      let a = split_all i.bundle_split in
      named repo (m.place, m.patch) (middle (Stands repo) i.overflows.stops.before (m.place, m.patch) i.overflows.stops.after (rw i.overflows.stops.at at a.0))
  overflow_named policy (Merged m) i =
      let a = split_all i.fits.bundle_split in
      let all = merged_all policy i.rest i.new i.merged i.skipped i.merges a.1 a.2 in
      named b.patches (m.place, m.patch) (middle (Stands b.patches) i.overflows.stops.before (m.place, m.patch) i.overflows.stops.after (rw i.overflows.stops.at at all))

  -- a primitive of the patch at this place
  abbrev pub HasPrim : List Patch → ℕ → ℕ → Type 0
  HasPrim xs n place = (patch : Patch) × (slice_get xs n ≡ Some patch) × (place < length patch.prims)

  held_within : {r n : Patch} {held new : ℕ} → PrimsClash r n held new → held < length r.prims
  held_within s = omega (arith, ap length s.at, s.is_place, length-append s.first (s.prim ∷ s.others))

  new_within : {r n : Patch} {held new : ℕ} → PrimsClash r n held new → new < length n.prims
  new_within s = let t = s.stops in omega (arith, ap length t.at, t.is_place, length-append t.before (t.y ∷ t.after), (sizes Commutes s.passed).0)

  clash_past : {rest : List Placed} {n : Placed} {c : Clash} → ClashesPast rest n c → AllByRecursion (Stands repo) rest → StandsAt b.patches c.place n → HasPrim b.patches c.place c.prim × HasPrim repo c.held c.held_prim
  clash_past {c} s a n =
      let all = rw s.at at a in
      let r = middle (Stands repo) s.near s.r s.far all in
      let m = merge_keeps PlacedMerges (Stands repo) (StandsAt b.patches c.place) (merged_keeps_at repo b.patches c.place) s.joined (front_all (Stands repo) s.near (s.r ∷ s.far) all) (n, tt) in
      let n1 = m.1.0 in
      let new_in = new_within s.prims in
      let held_in = held_within s.prims in (
        (n1.patch, n1.at, omega (arith, n1.count, new_in)),
        (r.patch, ap (slice_get repo) s.is_held ∙ r.at, omega (arith, r.count, held_in)),
      )

  -- the primitives of a clash are there
  pub clash_there : (c : Clash) → IsClash repo b c → HasPrim b.patches c.place c.prim × HasPrim repo c.held c.held_prim
  clash_there c i =
      let a = split_all i.fits.bundle_split in
      let s = i.clash in
      let new = rw s.at at a.2 in
      let k = merge_keeps PlacedMerges (Stands repo) (Stands b.patches) (merged_keeps repo b.patches) s.so_far a.1 (front_all (Stands b.patches) s.before (s.n ∷ s.after) new) in
      let n = middle (Stands b.patches) s.before s.n s.after new in
      clash_past s.clash k.0 (record { is_place = sym s.clash.is_place; patch = n.patch; at = ap (slice_get b.patches) s.clash.is_place ∙ n.at; count = n.count })
