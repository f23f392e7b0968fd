-- The faults of a path's names, from one name on.
use Rattle.std.proofs.Common.{◌≡◌, ℕ, ◌<◌, ◌≤◌, Bool, true, false, nat_lt, cond, List, [], ◌∷◌, ◌++◌, length, ◌+◌, Option, Some, None, refl, sym, ap, ◌∙◌, arith, length-append, get_or, drop, map, drop-cons, add-one, nat_eq}
use Rattle.dm_tree.specs.Paths.{Name, Path}
use Rattle.dm_tree.specs.Validity.{path_fault, names_fault, is_bad_name}
use Rattle.dm_tree.specs.declared.fault.PathFault.{PathFault}
use Rattle.dm_tree.specs.declared.fault.PathFault.TheVariants.{Empty, BadName, TooDeep, TooLong}
use Rattle.std.proofs.lemmas.Bool.Decides.{nat_tests}
use Rattle.std.proofs.lemmas.List.{drop_all, length-map}

pub few : (n : ℕ) → n ≤ 32 → nat_lt 32 n ≡ false
few n le = grind (arith, nat_tests)

-- the first name has a fault, or the others decide
cond_none : {T : Type 0} (b c : Bool) (x y : T) (f : Option T) → cond b (Some x) (cond c (Some y) None) ≡ None → cond b (Some x) (cond c (Some y) f) ≡ f
cond_none true c x y f h = cc
cond_none false true x y f h = cc
cond_none false false x y f h = refl

cond_some : {T : Type 0} (b c : Bool) (x y e : T) (f : Option T) → cond b (Some x) (cond c (Some y) None) ≡ Some e → cond b (Some x) (cond c (Some y) f) ≡ Some e
cond_some true c x y e f h = h
cond_some false true x y e f h = h
cond_some false false x y e f h = cc

-- the names are those of the items of a list
module _ {T : Type 0} (name : T → Name) (xs : List T) where
  pub path_names : false ≡ nat_eq (length xs) 0 → length xs ≤ 32 → path_fault (map name xs) ≡ names_fault (map name xs)
  path_names e le =
      ap (λ n. cond (nat_eq n 0) (Some Empty) (cond (nat_lt 32 n) (Some TooDeep) (names_fault (map name xs)))) (length-map xs name)
      ∙ ap (λ b. cond b (Some Empty) (cond (nat_lt 32 (length xs)) (Some TooDeep) (names_fault (map name xs)))) (sym e)
      ∙ ap (λ b. cond b (Some TooDeep) (names_fault (map name xs))) (few (length xs) le)

  module _ (i : ℕ) (d : T) (lt : i < length xs) (so_far : names_fault (map name xs) ≡ names_fault (map name (drop i xs))) where
    step : names_fault (map name xs) ≡ names_fault (name (get_or xs i d) ∷ map name (drop (i + 1) xs))
    step = so_far ∙ (rw (add-one, drop-cons xs i d) refl)

    pub name_refused : (e : PathFault) → names_fault (name (get_or xs i d) ∷ []) ≡ Some e → names_fault (map name xs) ≡ Some e
    name_refused e h = step ∙ cond_some (is_bad_name (name (get_or xs i d))) (nat_lt 255 (length (name (get_or xs i d)))) BadName TooLong e (names_fault (map name (drop (i + 1) xs))) h

    pub name_valid : names_fault (name (get_or xs i d) ∷ []) ≡ None → names_fault (map name xs) ≡ names_fault (map name (drop (i + 1) xs))
    name_valid h = step ∙ cond_none (is_bad_name (name (get_or xs i d))) (nat_lt 255 (length (name (get_or xs i d)))) BadName TooLong (names_fault (map name (drop (i + 1) xs))) h

  pub names_end : (i : ℕ) → length xs ≤ i → names_fault (map name xs) ≡ names_fault (map name (drop i xs)) → names_fault (map name xs) ≡ None
  names_end i le e = e ∙ ap (λ ys. names_fault (map name ys)) (drop_all i xs le)

-- a valid path, in its three parts
pub record Valid (p : Path) : Type 0 where
  pub not_root : 0 < length p
  pub not_deep : length p ≤ 32
  pub named : names_fault p ≡ None

two_tests : (a b : Bool) (f : Option PathFault) → cond a (Some Empty) (cond b (Some TooDeep) f) ≡ None → (a ≡ false) × (b ≡ false) × (f ≡ None)
two_tests true b f h = cc
two_tests false true f h = cc
two_tests false false f h = (refl, refl, h)

pub valid_parts : (p : Path) → path_fault p ≡ None → Valid p
valid_parts p h =
    let t = two_tests (nat_eq (length p) 0) (nat_lt 32 (length p)) (names_fault p) h in
    record { not_root = grind (arith, nat_tests, t.0); not_deep = grind (arith, nat_tests, t.1); named = t.2 }

pub valid_whole : (p : Path) → Valid p → path_fault p ≡ None
valid_whole p g =
    let a : nat_eq (length p) 0 ≡ false = grind (arith, nat_tests, g.not_root) in
    let b : nat_lt 32 (length p) ≡ false = few (length p) g.not_deep in
    ap (λ x. cond x (Some Empty) (cond (nat_lt 32 (length p)) (Some TooDeep) (names_fault p))) a ∙ ap (λ x. cond x (Some TooDeep) (names_fault p)) b ∙ g.named

inner : (s t : Bool) (f : Option PathFault) → cond s (Some BadName) (cond t (Some TooLong) f) ≡ None → f ≡ None
inner true t f h = cc
inner false true f h = cc
inner false false f h = h

pub names_right : (a x : Path) → names_fault (a ++ x) ≡ None → names_fault x ≡ None
names_right [] x h = h
names_right (n ∷ a) x h = names_right a x (inner (is_bad_name n) (nat_lt 255 (length n)) (names_fault (a ++ x)) h)

swap_rest : (s t : Bool) (f f' : Option PathFault) → (f ≡ None → f' ≡ None) → cond s (Some BadName) (cond t (Some TooLong) f) ≡ None → cond s (Some BadName) (cond t (Some TooLong) f') ≡ None
swap_rest true t f f' k h = cc
swap_rest false true f f' k h = cc
swap_rest false false f f' k h = k h

pub names_append : (b x : Path) → names_fault b ≡ None → names_fault x ≡ None → names_fault (b ++ x) ≡ None
names_append [] x h k = k
names_append (n ∷ b) x h k = swap_rest (is_bad_name n) (nat_lt 255 (length n)) (names_fault b) (names_fault (b ++ x)) (λ e. names_append b x e k) h

-- the path stays valid under another directory, where it has at most 32 names
pub valid_moved : (a b r : Path) → path_fault (a ++ r) ≡ None → path_fault b ≡ None → length (b ++ r) ≤ 32 → path_fault (b ++ r) ≡ None
valid_moved a b r ga gb le =
    let pa = valid_parts (a ++ r) ga in
    let pb = valid_parts b gb in
    valid_whole (b ++ r) (record { not_root = omega (arith, pb.not_root, length-append b r); not_deep = le; named = names_append b r pb.named (names_right a r pa.named) })
