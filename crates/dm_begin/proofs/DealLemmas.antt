-- Primitives are dealt to one name after the other.
use Rattle.std.proofs.Common.{◌≡◌, ◌<◌, ◌≤◌, ◌*◌, ℕ, zero, suc, ◌+◌, List, [], ◌∷◌, ◌++◌, length, take, drop, map, refl, sym, ap, ap₂, subst, ◌∙◌, arith, append-nil, append_assoc}
use Rattle.std.proofs.lemmas.List.{length-drop, length-map, take-map, drop-map}
use Rattle.dm_info.specs.PatchInfo.{PatchInfo}
use Rattle.dm_prim.specs.Prims.{prim_of, prims_of}
use Rattle.dm_prim.specs.declared.primitive.Primitive.{Primitive}
use Rattle.dm_named.specs.Patches.{Patch}
use Rattle.dm_tree.specs.Trees.{Tree, IsLawful, Deep}
use Rattle.std.specs.FinMap.{get}
use Rattle.dm_bundle.specs.Patches.{Distinct}
use Rattle.dm_begin.specs.Beginnings.{IsBeginning, most_prims}
use Rattle.dm_begin.specs.Making.{tree_prims}
use Rattle.dm_begin.specs.Refusals.{AreNames}
use Rattle.dm_begin.specs.Spreading.{first_count, spread, SpreadIsBeginning}

module _ {X : Type 0} where
  -- so many are taken, and the others are left
  pub record Taken (all : List X) (k : ℕ) (taken left : List X) : Type 0 where
    pub taken_so : taken ≡ take k all
    pub left_so : left ≡ drop k all

  pub none_taken : (all taken : List X) → taken ≡ [] → Taken all 0 taken all
  none_taken all taken e = record { taken_so = e; left_so = refl }

  pub some_left : (all taken left : List X) (k count : ℕ) → Taken all k taken left → k < count → count ≤ length all → 0 < length left
  some_left all taken left k count t l few = rw t.left_so (let n = length-drop k all in omega (arith, n, l, few))

  one_on : (all : List X) (k : ℕ) (x : X) (left : List X) → drop k all ≡ x ∷ left → (take (suc k) all ≡ take k all ++ x ∷ []) × (drop (suc k) all ≡ left)
  one_on [] zero x left e = absurd (cc)
  one_on [] (suc k) x left e = absurd (cc)
  one_on (y ∷ ys) zero x left e = let s : y ≡ x = cc in let r : ys ≡ left = cc in (ap (λ z. z ∷ []) s, r)
  one_on (y ∷ ys) (suc k) x left e = let r = one_on ys k x left e in (ap (λ z. y ∷ z) r.0, r.1)

  pub one_taken : (all taken left taken' left' : List X) (k : ℕ) (x : X) → Taken all k taken left → left ≡ x ∷ left' → taken' ≡ taken ++ x ∷ [] → Taken all (k + 1) taken' left'
  one_taken all taken left taken' left' k x t at new =
      let r = one_on all k x left' (sym t.left_so ∙ at) in
      let n : k + 1 ≡ suc k = omega arith in
      record {
        taken_so = new ∙ ap (λ l. l ++ x ∷ []) t.taken_so ∙ sym r.0 ∙ ap (λ m. take m all) (sym n);
        left_so = sym r.1 ∙ ap (λ m. drop m all) (sym n);
      }

  pub all_taken : (all taken left : List X) (k count : ℕ) → Taken all k taken left → k ≤ count → count ≤ k → (taken ≡ take count all) × (left ≡ drop count all)
  all_taken all taken left k count t low high =
      let n : k ≡ count = omega (arith, low, high) in
      (t.taken_so ∙ ap (λ m. take m all) n, t.left_so ∙ ap (λ m. drop m all) n)

-- no patch so far
pub dealt_first : {Z : Type 0} (patches : List Patch) (deps names names' : List PatchInfo) (ps qs : List (Primitive Z)) → patches ≡ [] → deps ≡ [] → names' ≡ names → qs ≡ ps →
    patches ++ spread deps names' (prims_of qs) ≡ spread [] names (prims_of ps)
dealt_first patches deps names names' ps qs none no_deps same all =
    ap (λ l. l ++ spread deps names' (prims_of qs)) none ∙ ap (λ l. spread l names' (prims_of qs)) no_deps ∙ ap₂ (λ l k. spread [] l (prims_of k)) same all

-- one patch more
pub dealt_more : {Z : Type 0} (all patches patches' : List Patch) (deps deps' : List PatchInfo) (i : PatchInfo) (names names' : List PatchInfo) (ps own left : List (Primitive Z)) (n : ℕ) (x : Patch) →
    names ≡ i ∷ names' → n ≡ first_count (length ps) (length names') → own ≡ take n ps → left ≡ drop n ps → x ≡ record { info = i; deps = deps; prims = prims_of own } → deps' ≡ i ∷ [] → patches' ≡ patches ++ x ∷ [] →
    patches ++ spread deps names (prims_of ps) ≡ all → patches' ++ spread deps' names' (prims_of left) ≡ all
dealt_more all patches patches' deps deps' i names names' ps own left n x at count taken dropped made next new so_far =
    let m : ℕ = first_count (length (prims_of ps)) (length names') in
    let c : n ≡ m = count ∙ ap (λ k. first_count k (length names')) (sym (length-map ps prim_of)) in
    let p : prims_of own ≡ take m (prims_of ps) = ap (map prim_of) taken ∙ sym (take-map prim_of n ps) ∙ ap (λ k. take k (prims_of ps)) c in
    let q : prims_of left ≡ drop m (prims_of ps) = ap (map prim_of) dropped ∙ sym (drop-map prim_of n ps) ∙ ap (λ k. drop k (prims_of ps)) c in
    let y : x ≡ record { info = i; deps = deps; prims = take m (prims_of ps) } = made ∙ ap (λ l. record { info = i; deps = deps; prims = l }) p in
    ap₂ (λ l k. l ++ spread k names' (prims_of left)) new next ∙ append_assoc patches (x ∷ []) (spread (i ∷ []) names' (prims_of left))
    ∙ ap₂ (λ z l. patches ++ z ∷ spread (i ∷ []) names' l) y q ∙ ap (λ l. patches ++ spread deps l (prims_of ps)) (sym at) ∙ so_far

-- no name is left
pub dealt_all : {Z : Type 0} (all patches : List Patch) (deps names : List PatchInfo) (ps : List (Primitive Z)) → names ≡ [] → patches ++ spread deps names (prims_of ps) ≡ all → patches ≡ all
dealt_all all patches deps names ps none so_far = sym (append-nil patches) ∙ ap (λ l. patches ++ spread deps l (prims_of ps)) (sym none) ∙ so_far

-- the law of spreading, of what the code made
pub begins : {Z : Type 0} (t : Tree) (names : List PatchInfo) (ps : List (Primitive Z)) (patches : List Patch) → SpreadIsBeginning → IsLawful (get t) → (Deep (get t) → ⊥) → AreNames names → Distinct names →
    prims_of ps ≡ tree_prims t → length ps ≤ length names * most_prims → patches ≡ spread [] names (prims_of ps) → IsBeginning names t patches
begins t names ps patches law lawful shallow are distinct made fit so =
    let n : length ps ≡ length (tree_prims t) = sym (length-map ps prim_of) ∙ ap length made in
    let fits : length (tree_prims t) ≤ length names * most_prims = subst (λ k. k ≤ length names * most_prims) n fit in
    rw (so, made) (law t names lawful shallow distinct are.few fits)
