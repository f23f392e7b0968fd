-- What a split does to names: those in the set go to the front, the others behind them, each in their order.
use Rattle.std.proofs.Common.{◌≡◌, ◌<◌, ◌-◌, ◌+◌, get_or, ℕ, zero, suc, List, [], ◌∷◌, ◌++◌, length, take, reverse, inl, inr, refl, ap, ap₂, sym, ◌∙◌, arith}
use Rattle.std.specs.List.{Contains}
use Rattle.std.proofs.lemmas.List.{get_or-reverse, length-reverse, reverse-reverse, take-map, take_more}
use Rattle.dm_info.specs.PatchInfo.{PatchInfo}
use Rattle.dm_prim.specs.Rectangles.{CellRow, none, next}
use Rattle.dm_named.specs.Patches.{Patch}
use Rattle.dm_bundle.specs.Bundles.{HasNoDoubles}
use Rattle.dm_bundle.specs.Patches.{infos_of, Distinct}
use Rattle.dm_repo.specs.Squares.{Placed, patches, PlacedCommutes}
use Rattle.dm_repo.specs.Staircases.{Split, nothing, stays, yields}
use Rattle.dm_repo.proofs.Members.{here, more, one_of, none_of}
use Rattle.dm_send.specs.Sending.{Parts, no_names, inside, outside}

-- patches that another passes keep their names, and so does this one
strip_names : {x x' : Placed} {ys ys' : List Placed} → CellRow PlacedCommutes x ys ys' x' → (infos_of (patches ys') ≡ infos_of (patches ys)) × (x'.1.info ≡ x.1.info)
strip_names none = (refl, refl)
strip_names (next c s) = let t = strip_names s in (ap₂ (λ i is. i ∷ is) c.commutes.y_stays.info t.0, t.1 ∙ c.commutes.x_stays.info)

module _ (In : PatchInfo → Type 0) where
  pub split_parts : {xs front rest : List Placed} → Split PlacedCommutes (λ x. In x.1.info) xs front rest → Parts In (infos_of (patches xs)) (infos_of (patches front)) (infos_of (patches rest))
  split_parts nothing = no_names
  split_parts (stays i s) = inside i (split_parts s)
  split_parts (yields o s t) = let e = strip_names t in rw (e.0, e.1) (outside o (split_parts s))

  those_in : {all those others : List PatchInfo} {i : PatchInfo} → Parts In all those others → Contains those i → Contains all i × In i
  those_in no_names c = absurd (none_of c)
  those_in (inside {i = j} {all} {those} h p) c = elim (one_of j those c) [ inl e ↦ rw (← e) (here j all, h) | inr d ↦ let q = those_in p d in (more j all q.0, q.1) ]
  those_in (outside {i = j} {all} h p) c = let q = those_in p c in (more j all q.0, q.1)

  others_out : {all those others : List PatchInfo} {i : PatchInfo} → Parts In all those others → Contains others i → Contains all i × (In i → ⊥)
  others_out no_names c = absurd (none_of c)
  others_out (inside {i = j} {all} h p) c = let q = others_out p c in (more j all q.0, q.1)
  others_out (outside {i = j} {all} {others = is} h p) c = elim (one_of j is c) [ inl e ↦ rw (← e) (here j all, h) | inr d ↦ let q = others_out p d in (more j all q.0, q.1) ]

  parts_distinct : {all those others : List PatchInfo} → Parts In all those others → Distinct all → Distinct those × Distinct others
  parts_distinct no_names d = (tt, tt)
  parts_distinct (inside h p) d = let q = parts_distinct p d.1 in ((λ c. d.0 (those_in p c).0, q.0), q.1)
  parts_distinct (outside h p) d = let q = parts_distinct p d.1 in (q.0, (λ c. d.0 (others_out p c).0, q.1))

-- one more name of a list
pub names_more : (is : List PatchInfo) (k : ℕ) (i : PatchInfo) → k < length is → i ≡ get_or is k i → take (k + 1) is ≡ take k is ++ i ∷ []
names_more is k i l e = take_more is k i l ∙ ap (λ j. take k is ++ j ∷ []) (sym e)

-- the first names of a list, and the same names the other way round
in_front : (is : List PatchInfo) (n : ℕ) {i : PatchInfo} → Contains (take n is) i → Contains is i
in_front [] zero c = absurd (none_of c)
in_front [] (suc n) c = absurd (none_of c)
in_front (j ∷ is) zero c = absurd (none_of c)
in_front (j ∷ is) (suc n) c = elim (one_of j (take n is) c) [ inl e ↦ rw (← e) (here j is) | inr d ↦ more j is (in_front is n d) ]

distinct_front : (is : List PatchInfo) (n : ℕ) → Distinct is → Distinct (take n is)
distinct_front [] zero d = tt
distinct_front [] (suc n) d = tt
distinct_front (j ∷ is) zero d = tt
distinct_front (j ∷ is) (suc n) d = (λ c. d.0 (in_front is n c), distinct_front is n d.1)

pub in_reverse : (is : List PatchInfo) {i : PatchInfo} → Contains (reverse is) i → Contains is i
in_reverse is {i} (k, l, e) = let b : k < length is = omega (arith, l, length-reverse is) in (length is - 1 - k, omega (arith, b), sym (get_or-reverse is k i b) ∙ e)

pub to_reverse : (is : List PatchInfo) {i : PatchInfo} → Contains is i → Contains (reverse is) i
to_reverse is c = in_reverse (reverse is) (rw (reverse-reverse is) c)

-- no name is among those and among the first of the others
module _ (In : PatchInfo → Type 0) {all : List PatchInfo} (front rest : List Patch) (most : ℕ) (p : Parts In all (infos_of front) (infos_of rest)) (d : Distinct all) where
  first_is : infos_of (take most rest) ≡ take most (infos_of rest)
  first_is = sym (take-map (λ (x : Patch). x.info) most rest)

  pub are_apart : (i : PatchInfo) → Contains (infos_of (take most rest)) i → Contains (infos_of front) i → ⊥
  are_apart i c h = (others_out In p (in_front (infos_of rest) most (rw first_is at c))).1 (those_in In p h).1

  pub no_doubles : HasNoDoubles (take most rest) (reverse (infos_of front))
  no_doubles = record {
    distinct = rw first_is (distinct_front (infos_of rest) most (parts_distinct In p d).1);
    apart = λ i c h. are_apart i c (in_reverse (infos_of front) h);
  }

  pub front_distinct : HasNoDoubles front []
  front_distinct = record { distinct = (parts_distinct In p d).0; apart = λ i c h. absurd (none_of h) }
