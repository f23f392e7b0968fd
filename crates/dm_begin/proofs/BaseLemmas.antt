-- How many patches of a repository are a base.
use Rattle.std.proofs.Common.{◌≡◌, ◌≢◌, ◌↔◌, ◌⊎◌, inl, inr, ◌<◌, ◌≤◌, ◌+◌, ◌-◌, ℕ, zero, suc, Bool, true, false, IsTrue, List, [], ◌∷◌, ◌++◌, length, take, get_or, slice_get, Some, refl, sym, ap, subst, ◌∙◌, arith}
use Rattle.std.specs.List.{AllByRecursion, Contains}
use Rattle.std.proofs.lemmas.Bool.{cases_lt}
use Rattle.std.proofs.lemmas.List.{take_more, same_from_push}
use Rattle.dm_info.specs.PatchInfo.{PatchInfo}
use Rattle.dm_named.specs.Patches.{Patch}
use Rattle.dm_repo.proofs.Members.{here, more, one_of, none_of}
use Rattle.dm_begin.specs.Beginnings.{IsChain, IsFilled, IsPacked}
use Rattle.dm_begin.specs.Bases.{BeginsWith, IsBase, IsTagWithTree}
use Rattle.dm_begin.specs.Chains.{last_name}

-- fewer of the patches
pub chain_take : (deps : List PatchInfo) (xs : List Patch) (k m : ℕ) → k ≤ m → IsChain deps (take m xs) → IsChain deps (take k xs)
chain_take deps xs zero m l c = tt
chain_take deps [] (suc k) m l c = tt
chain_take deps (x ∷ xs) (suc k) zero l c = absurd (omega (arith, l))
chain_take deps (x ∷ xs) (suc k) (suc m) l c = (c.0, chain_take (x.info ∷ []) xs k m (omega (arith, l)) c.1)

filled_take : (xs : List Patch) (k m : ℕ) → k ≤ m → AllByRecursion IsFilled (take m xs) → AllByRecursion IsFilled (take k xs)
filled_take xs zero m l a = tt
filled_take [] (suc k) m l a = tt
filled_take (x ∷ xs) (suc k) zero l a = absurd (omega (arith, l))
filled_take (x ∷ xs) (suc k) (suc m) l a = (a.0, filled_take xs k m (omega (arith, l)) a.1)

pub packed_take : (xs : List Patch) (k m : ℕ) → k ≤ m → IsPacked (take m xs) → IsPacked (take k xs)
packed_take xs zero m l p = tt
packed_take [] (suc k) m l p = tt
packed_take (x ∷ xs) (suc k) zero l p = absurd (omega (arith, l))
packed_take (x ∷ xs) (suc k) (suc m) l p = (λ some. filled_take xs k m (omega (arith, l)) (p.0 some), packed_take xs k m (omega (arith, l)) p.1)

-- one patch more
pub chain_more : (deps : List PatchInfo) (xs : List Patch) (x : Patch) → IsChain deps (xs ++ x ∷ []) ↔ (IsChain deps xs × (x.deps ≡ last_name deps xs))
chain_more deps [] x = (λ c. (tt, c.0), λ c. (c.1, tt))
chain_more deps (y ∷ ys) x = let r = chain_more (y.info ∷ []) ys x in (
  λ c. let q = r.0 c.1 in ((c.0, q.0), q.1),
  λ c. (c.0.0, r.1 (c.0.1, c.1)),
)

pub filled_more : (xs : List Patch) (x : Patch) → AllByRecursion IsFilled (xs ++ x ∷ []) ↔ (AllByRecursion IsFilled xs × IsFilled x)
filled_more [] x = (λ a. (tt, a.0), λ a. (a.1, tt))
filled_more (y ∷ ys) x = let r = filled_more ys x in (
  λ a. let q = r.0 a.1 in ((a.0, q.0), q.1),
  λ a. (a.0.0, r.1 (a.0.1, a.1)),
)

-- one of the patches has a primitive
abbrev pub HasPrims : List Patch → Type 0
HasPrims xs = (x : Patch) × Contains xs x × (x.prims ≢ [])

has_prims : {x y : Patch} → x ≡ y → (y.prims ≢ []) → x.prims ≢ []
has_prims e some = rw e some

pub packed_more : (xs : List Patch) (x : Patch) → IsPacked (xs ++ x ∷ []) ↔ (IsPacked xs × (HasPrims xs → IsFilled x))
packed_more [] x = (λ p. (tt, λ h. absurd (none_of h.1)), λ p. (λ some. tt, tt))
packed_more (y ∷ ys) x = let r = packed_more ys x in let f = filled_more ys x in (
  λ p.
      let q = r.0 p.1 in (
        (λ some. (f.0 (p.0 some)).0, q.0),
        λ h. elim (one_of y ys h.1) [ inl e ↦ (f.0 (p.0 (has_prims e h.2))).1 | inr m ↦ q.1 (h.0, m, h.2) ],
      ),
  λ p. (λ some. f.1 (p.0.0 some, p.1 (y, here y ys, some)), r.1 (p.0.1, λ h. p.1 (h.0, more y ys h.1, h.2))),
)

prims_more : (xs : List Patch) (x : Patch) → HasPrims (xs ++ x ∷ []) ↔ (HasPrims xs ⊎ (x.prims ≢ []))
prims_more [] x = (
  λ h. elim (one_of x [] h.1) [ inl e ↦ inr (has_prims e h.2) | inr m ↦ absurd (none_of m) ],
  λ h. elim h [ inl a ↦ absurd (none_of a.1) | inr s ↦ (x, here x [], s) ],
)
prims_more (y ∷ ys) x = let r = prims_more ys x in (
  λ h. elim (one_of y (ys ++ x ∷ []) h.1) [
    | inl e ↦ inl (h.0, subst (λ (z : Patch). Contains (y ∷ ys) z) e (here y ys), h.2)
    | inr m ↦ elim (r.0 (h.0, m, h.2)) [ inl a ↦ inl (a.0, more y ys a.1, a.2) | inr s ↦ inr s ]
  ],
  λ h. elim h [
    | inl a ↦ elim (one_of y ys a.1) [
      | inl e ↦ (y, here y (ys ++ x ∷ []), has_prims e a.2)
      | inr m ↦ let b = r.1 (inl (a.0, m, a.2)) in (b.0, more y (ys ++ x ∷ []) b.1, b.2)
    ]
    | inr s ↦ let b = r.1 (inr s) in (b.0, more y (ys ++ x ∷ []) b.1, b.2)
  ],
)

-- so many patches may be the first of a base, so many of which are one
pub record Walked (patches : List Patch) (k base : ℕ) (some : Bool) : Type 0 where
  pub chained : IsChain [] (take k patches)
  pub packed : IsPacked (take k patches)
  pub has : IsTrue some ↔ HasPrims (take k patches)
  pub within : base ≤ k
  pub is_base : (base ≡ 0) ⊎ IsBase (take base patches)
  pub greatest : (m : ℕ) → m ≤ k → IsBase (take m patches) → m ≤ base

pub walked_none : (patches : List Patch) → Walked patches 0 0 false
walked_none patches = record {
  chained = tt;
  packed = tt;
  has = (λ t. absurd (cc), λ h. absurd (none_of h.1));
  within = omega arith;
  is_base = inl refl;
  greatest = λ m l b. l;
}

module _ (patches : List Patch) (k base : ℕ) (some : Bool) (x : Patch) (l : k < length patches) (e : x ≡ get_or patches k x) (w : Walked patches k base some) where
  one_more : take (k + 1) patches ≡ take k patches ++ x ∷ []
  one_more = take_more patches k x l ∙ ap (λ z. take k patches ++ z ∷ []) (sym e)

  -- the next one doesn't follow
  pub walked_stop : (((x.deps ≡ last_name [] (take k patches)) × (IsTrue some → IsFilled x)) → ⊥) → BeginsWith patches base
  walked_stop never = record { within = let n = w.within in omega (arith, n, l); is_base = w.is_base; greatest = λ m n b. by m b (cases_lt k m) }
    where
      by : (m : ℕ) → IsBase (take m patches) → (k < m) ⊎ (m ≤ k) → m ≤ base
      by m b (inl n) =
          let c = (chain_more [] (take k patches) x).0 (rw one_more at (chain_take [] patches (k + 1) m (omega (arith, n)) b.chained)) in
          let p = (packed_more (take k patches) x).0 (rw one_more at (packed_take patches (k + 1) m (omega (arith, n)) b.packed)) in
          absurd (never (c.1, λ t. p.1 (w.has.0 t)))
      by m b (inr n) = w.greatest m n b

  module _ (rests : x.deps ≡ last_name [] (take k patches)) (filled : IsTrue some → IsFilled x) (some' : Bool) (has : IsTrue some' ↔ (IsTrue some ⊎ (x.prims ≢ []))) where
    chained_on : IsChain [] (take (k + 1) patches)
    chained_on = rw one_more ((chain_more [] (take k patches) x).1 (w.chained, rests))

    packed_on : IsPacked (take (k + 1) patches)
    packed_on = rw one_more ((packed_more (take k patches) x).1 (w.packed, λ h. filled (w.has.1 h)))

    has_on : IsTrue some' ↔ HasPrims (take (k + 1) patches)
    has_on = let q = prims_more (take k patches) x in (
      λ t. rw one_more (q.1 (elim (has.0 t) [ inl a ↦ inl (w.has.0 a) | inr s ↦ inr s ])),
      λ h. has.1 (elim (q.0 (rw one_more at h)) [ inl a ↦ inl (w.has.1 a) | inr s ↦ inr s ]),
    )

    -- the next one ends a longer base
    pub walked_tag : IsTagWithTree x → Walked patches (k + 1) (k + 1) some'
    walked_tag t = record {
      chained = chained_on;
      packed = packed_on;
      has = has_on;
      within = omega arith;
      is_base = inr (record { chained = chained_on; packed = packed_on; tag = record { before = take k patches; last = x; is_last = one_more; is_tag = t } });
      greatest = λ m n b. n;
    }

    -- or it ends none
    pub walked_on : (IsTagWithTree x → ⊥) → Walked patches (k + 1) base some'
    walked_on never = record {
      chained = chained_on;
      packed = packed_on;
      has = has_on;
      within = let n = w.within in omega (arith, n);
      is_base = w.is_base;
      greatest = λ m n b. by m n b (cases_lt k m);
    }
      where
        by : (m : ℕ) → m ≤ k + 1 → IsBase (take m patches) → (k < m) ⊎ (m ≤ k) → m ≤ base
        by m n b (inl o) =
            let s : m ≡ k + 1 = omega (arith, n, o) in
            let f = sym (rw s at b.tag.is_last) ∙ one_more in
            absurd (never (subst IsTagWithTree (same_from_push b.tag.before (take k patches) b.tag.last x f).1 b.tag.is_tag))
        by m n b (inr o) = w.greatest m o b

pub walked_all : (patches : List Patch) (k base : ℕ) (some : Bool) → length patches ≤ k → k ≤ length patches → Walked patches k base some → BeginsWith patches base
walked_all patches k base some l n w = record { within = let b = w.within in omega (arith, b, n); is_base = w.is_base; greatest = λ m o b. w.greatest m (omega (arith, o, l)) b }

-- a repository begins with so many patches and no other number
within_base : {repo : List Patch} {n m : ℕ} → BeginsWith repo n → BeginsWith repo m → n ≤ m
within_base {repo} {n} {m} a b = by a.is_base
  where
    by : (n ≡ 0) ⊎ IsBase (take n repo) → n ≤ m
    by (inl e) = omega (arith, e)
    by (inr c) = b.greatest n a.within c

pub base_one : {repo : List Patch} {n m : ℕ} → BeginsWith repo n → BeginsWith repo m → n ≡ m
base_one a b = let l = within_base a b in let g = within_base b a in omega (arith, l, g)

-- the last name is that of the last patch
last_name_at : (deps : List PatchInfo) (xs : List Patch) (x : Patch) → slice_get xs (length xs - 1) ≡ Some x → last_name deps xs ≡ x.info ∷ []
last_name_at deps [] x e = absurd (cc)
last_name_at deps (y ∷ []) x e = let f : slice_get (y ∷ []) 0 ≡ Some x = e in let g : y ≡ x = cc in ap (λ (z : Patch). z.info ∷ []) g
last_name_at deps (y ∷ z ∷ zs) x e =
    let n : length (y ∷ z ∷ zs) - 1 ≡ suc (length (z ∷ zs) - 1) = omega arith in
    last_name_at (y.info ∷ []) (z ∷ zs) x (rw n at e)

one_name : (ds : List PatchInfo) (d : PatchInfo) → length ds ≡ 1 → d ≡ get_or ds 0 d → ds ≡ d ∷ []
one_name [] d l e = absurd (omega (arith, l))
one_name (y ∷ []) d l e = ap (λ z. z ∷ []) (sym e)
one_name (y ∷ z ∷ zs) d l e = absurd (omega (arith, l))

-- a patch that names one dependency rests on the last patch where that is its name
same_first : {x y : PatchInfo} → x ∷ [] ≡ y ∷ [] → x ≡ y
same_first e = cc

pub rests_on : (deps ds : List PatchInfo) (before : List Patch) (last : Patch) (d : PatchInfo) (same : Bool) → ds ≡ deps → slice_get before (length before - 1) ≡ Some last → length ds ≡ 1 → d ≡ get_or ds 0 d →
    (IsTrue same ↔ (d ≡ last.info)) → IsTrue same ↔ (deps ≡ last_name [] before)
rests_on deps ds before last d same e f l g h =
    let one : deps ≡ d ∷ [] = sym e ∙ one_name ds d l g in
    let name : last_name [] before ≡ last.info ∷ [] = last_name_at [] before last f in (
      λ t. one ∙ ap (λ z. z ∷ []) (h.0 t) ∙ sym name,
      λ q. h.1 (same_first (sym one ∙ q ∙ name)),
    )

pub rests_on_more : (deps ds : List PatchInfo) (before : List Patch) (last : Patch) → ds ≡ deps → slice_get before (length before - 1) ≡ Some last → (length ds ≡ 1 → ⊥) → deps ≡ last_name [] before → ⊥
rests_on_more deps ds before last e f l q = l (ap length (e ∙ q ∙ last_name_at [] before last f))

-- whether one has a primitive so far: one before had, or the next one has
pub some_then : {P : Type 0} (s t : Bool) → s ≡ true → t ≡ true → IsTrue t ↔ (IsTrue s ⊎ P)
some_then s t e f = (λ h. inl e, λ h. f)

pub some_else : {P : Type 0} (s t r : Bool) → s ≡ false → t ≡ r → (IsTrue r ↔ P) → IsTrue t ↔ (IsTrue s ⊎ P)
some_else s t r e f h = (
  λ a. inr (h.0 (sym f ∙ a)),
  λ a. elim a [ inl b ↦ let z : false ≡ true = sym e ∙ b in absurd (cc) | inr b ↦ f ∙ h.1 b ],
)
