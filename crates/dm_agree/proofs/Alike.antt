-- Bundles that begin alike, and what the last patch tells whose name is brought elsewhere.
use Rattle.std.proofs.Common.{◌≡◌, ◌⊎◌, ◌<◌, ℕ, zero, suc, List, [], ◌∷◌, ◌++◌, Some, length, take, drop, slice_get, inl, inr, refl, sym, ap, ap₂, subst, ◌∙◌, arith, append_assoc, append-nil, take-append-drop}
use Rattle.std.specs.List.{Contains}
use Rattle.std.specs.BTreeMap.{BTreeMap}
use Rattle.std.proofs.lemmas.List.{take-append-le}
use Rattle.std.proofs.lemmas.List.Elements.{Contains-append_left, Contains-append_right, Contains-append_cases}
use Rattle.dm_info.specs.PatchInfo.{PatchInfo}
use Rattle.dm_named.specs.Patches.{Patch}
use Rattle.dm_bundle.specs.Patches.{infos_of, Distinct}
use Rattle.dm_bundle.specs.Bundles.{Contents}
use Rattle.dm_repo.specs.Repositories.{Holds}
use Rattle.dm_repo.proofs.Members.{one_of, none_of, from_at, in_infos, infos_of-append}
use Rattle.dm_converge.specs.Pools.{BeginAlike}
use Rattle.dm_agree.specs.Owners.{OwnsNone, IsLastOwned, Owns, AreAlike, AgreeUpTo, AlikeWith, ClashesAt}

-- what is held by lists one after the other
pub holds_left : (xs ys : List Patch) (i : PatchInfo) → Holds xs i → Holds (xs ++ ys) i
holds_left xs ys i h = rw (infos_of-append xs ys) (Contains-append_left (infos_of xs) (infos_of ys) i h)

pub holds_right : (xs ys : List Patch) (i : PatchInfo) → Holds ys i → Holds (xs ++ ys) i
holds_right xs ys i h = rw (infos_of-append xs ys) (Contains-append_right (infos_of xs) (infos_of ys) i h)

pub holds_cases : (xs ys : List Patch) (i : PatchInfo) → Holds (xs ++ ys) i → Holds xs i ⊎ Holds ys i
holds_cases xs ys i h = Contains-append_cases (infos_of xs) (infos_of ys) i (rw (infos_of-append xs ys) at h)

-- the same, of a list that is known to be both
in_left : (xs ys zs : List Patch) (i : PatchInfo) → zs ≡ xs ++ ys → Holds xs i → Holds zs i
in_left xs ys zs i e h = rw e (holds_left xs ys i h)

in_right : (xs ys zs : List Patch) (i : PatchInfo) → zs ≡ xs ++ ys → Holds ys i → Holds zs i
in_right xs ys zs i e h = rw e (holds_right xs ys i h)

in_one : (xs ys zs : List Patch) (i : PatchInfo) → zs ≡ xs ++ ys → Holds zs i → Holds xs i ⊎ Holds ys i
in_one xs ys zs i e h = holds_cases xs ys i (subst (λ (l : List Patch). Holds l i) e h)

pub alike_back : (b c : Contents) → BeginAlike b c → BeginAlike c b
alike_back b c a = record {
  context = λ i. ((a.context i).1, (a.context i).0);
  shared = a.shared;
  rest = a.other_rest;
  other_rest = a.rest;
  is_one = a.is_other;
  is_other = a.is_one;
  apart = λ i h k. a.apart i k h;
}

pub alike_itself : (b : Contents) → BeginAlike b b
alike_itself b = record {
  context = λ i. ((λ h. h), (λ h. h));
  shared = b.patches;
  rest = [];
  other_rest = [];
  is_one = sym (append-nil b.patches);
  is_other = sym (append-nil b.patches);
  apart = λ i h k. none_of h;
}

-- a name in both of two bundles that begin alike is among the patches with which both begin
in_shared : (b c : Contents) (a : BeginAlike b c) (i : PatchInfo) → Holds b.patches i → Holds c.patches i → Holds a.shared i
in_shared b c a i h k = elim (in_one a.shared a.rest b.patches i a.is_one h) [
  | inl s ↦ s
  | inr r ↦ elim (in_one a.shared a.other_rest c.patches i a.is_other k) [ inl s ↦ s | inr o ↦ absurd (a.apart i r o) ]
]

-- of two fronts of a list one begins with the other
abbrev Fronts : {X : Type 0} → List X → List X → List X → List X → Type 0
Fronts {X} s r p m = ((q : List X) × (p ≡ s ++ q) × (r ≡ q ++ m)) ⊎ ((q : List X) × (s ≡ p ++ q) × (m ≡ q ++ r))

fronts_on : {X : Type 0} (x y : X) (s r p m : List X) → x ≡ y → Fronts s r p m → Fronts (x ∷ s) r (y ∷ p) m
fronts_on x y s r p m e (inl (q, f, g)) = inl (q, ap₂ (λ a l. a ∷ l) (sym e) f, g)
fronts_on x y s r p m e (inr (q, f, g)) = inr (q, ap₂ (λ a l. a ∷ l) e f, g)

fronts : {X : Type 0} (s r p m : List X) → s ++ r ≡ p ++ m → Fronts s r p m
fronts [] r p m e = inl (p, refl, e)
fronts (x ∷ s) r [] m e = inr (x ∷ s, refl, sym e)
fronts (x ∷ s) r (y ∷ p) m e = let f : x ≡ y = cc in let g : s ++ r ≡ p ++ m = cc in fronts_on x y s r p m f (fronts s r p m g)

-- a bundle that begins as an earlier one does, up to the last name that is brought there, begins as each that brings one of its names
module _ (b d c : Contents) (n : ℕ) (a : BeginAlike b d) (g : AgreeUpTo d c n) (fresh : (j : PatchInfo) → Holds (drop n c.patches) j → Holds b.patches j → ⊥) where
  abbrev front : List Patch
  front = take n c.patches

  abbrev new : List Patch
  new = drop n c.patches

  is_new : c.patches ≡ front ++ new
  is_new = sym (take-append-drop n c.patches)

  is_front : d.patches ≡ front ++ drop n d.patches
  is_front = sym (take-append-drop n d.patches) ∙ ap (λ l. l ++ drop n d.patches) g.1

  by_fronts : Fronts a.shared a.other_rest front (drop n d.patches) → BeginAlike b c
  by_fronts (inl (q, f, k)) = record {
    context = λ i. ((λ h. (g.0 i).0 ((a.context i).0 h)), (λ h. (a.context i).1 ((g.0 i).1 h)));
    shared = a.shared;
    rest = a.rest;
    other_rest = q ++ new;
    is_one = a.is_one;
    is_other = is_new ∙ ap (λ l. l ++ new) f ∙ append_assoc a.shared q new;
    apart = λ i h o. elim (holds_cases q new i o) [
      | inl x ↦ a.apart i h (in_left q (drop n d.patches) a.other_rest i k x)
      | inr x ↦ fresh i x (in_right a.shared a.rest b.patches i a.is_one h)
    ];
  }
  by_fronts (inr (q, f, k)) = record {
    context = λ i. ((λ h. (g.0 i).0 ((a.context i).0 h)), (λ h. (a.context i).1 ((g.0 i).1 h)));
    shared = front;
    rest = q ++ a.rest;
    other_rest = new;
    is_one = a.is_one ∙ ap (λ l. l ++ a.rest) f ∙ append_assoc front q a.rest;
    is_other = is_new;
    apart = λ i h o. fresh i o (in_right front (q ++ a.rest) b.patches i (a.is_one ∙ ap (λ l. l ++ a.rest) f ∙ append_assoc front q a.rest) h);
  }

  alike_through : BeginAlike b c
  alike_through = by_fronts (fronts a.shared a.other_rest front (drop n d.patches) (sym a.is_other ∙ is_front))

-- where no name is brought elsewhere
pub none_owned : (bundles : List Contents) (m : BTreeMap PatchInfo ℕ) (c : Contents) → Owns m bundles → OwnsNone m c.patches → AlikeWith bundles c
none_owned bundles m c o n b i hb h k = absurd (o.all b i hb h (n i k))

-- where the last that is brought elsewhere agrees
pub last_agrees : (bundles : List Contents) (m : BTreeMap PatchInfo ℕ) (c d : Contents) (n j : ℕ) → Owns m bundles → AreAlike bundles → IsLastOwned m c.patches n j →
    slice_get bundles j ≡ Some d → AgreeUpTo d c n → AlikeWith bundles c
last_agrees bundles m c d n j o alike l e g b i hb h hc =
    let fresh = λ (x : PatchInfo) (y : Holds (drop n c.patches) x) (z : Holds b.patches x). o.all b x hb z (l.last x y) in
    elim (in_one (take n c.patches) (drop n c.patches) c.patches i (sym (take-append-drop n c.patches)) hc) [
      | inl f ↦ alike_through b d c n (alike b d i hb (from_at bundles j e) h
          (in_left (take n c.patches) (drop n d.patches) d.patches i (sym (take-append-drop n d.patches) ∙ ap (λ x. x ++ drop n d.patches) g.1) f)) g fresh
      | inr f ↦ absurd (fresh i f h)
    ]

-- a place in two lists, one after the other
abbrev Place : {X : Type 0} → List X → List X → ℕ → X → Type 0
Place s r k p = (k < length s) ⊎ Contains r p

place : {X : Type 0} (s r : List X) (k : ℕ) (p : X) → slice_get (s ++ r) k ≡ Some p → Place s r k p
place [] r k p e = inr (from_at r k e)
place (x ∷ s) r zero p e = inl (omega arith)
place (x ∷ s) r (suc k) p e = elim (place s r k p e) [ inl l ↦ inl (omega (arith, l)) | inr c ↦ inr c ]

not_twice : (xs ys : List PatchInfo) (i : PatchInfo) → Distinct (xs ++ ys) → Contains xs i → Contains ys i → ⊥
not_twice [] ys i d h k = none_of h
not_twice (x ∷ xs) ys i d h k = elim (one_of x xs h) [
  | inl e ↦ d.0 (rw e (Contains-append_right xs ys i k))
  | inr c ↦ not_twice xs ys i d.1 c k
]

-- two bundles that begin alike agree up to each name that both have
pub agree_to : (d c : Contents) (k : ℕ) (p : Patch) → Distinct (infos_of c.patches) → slice_get c.patches k ≡ Some p → Holds d.patches p.info → BeginAlike d c → AgreeUpTo d c (suc k)
agree_to d c k p distinct e h a =
    elim (place a.shared a.other_rest k p (subst (λ (l : List Patch). slice_get l k ≡ Some p) a.is_other e)) [
      | inl l ↦ (
        a.context,
        (ap (take (suc k)) a.is_one ∙ take-append-le (suc k) a.shared a.rest (omega (arith, l)))
            ∙ sym (ap (take (suc k)) a.is_other ∙ take-append-le (suc k) a.shared a.other_rest (omega (arith, l))),
      )
      | inr o ↦ absurd (elim (in_one a.shared a.rest d.patches p.info a.is_one h) [
        | inl s ↦ not_twice (infos_of a.shared) (infos_of a.other_rest) p.info (subst (λ (l : List PatchInfo). Distinct l) (ap infos_of a.is_other ∙ infos_of-append a.shared a.other_rest) distinct) s (in_infos a.other_rest o)
        | inr r ↦ a.apart p.info r (in_infos a.other_rest o)
      ])
    ]

-- where it doesn't, the name of that patch stands for two
pub last_differs : (bundles : List Contents) (m : BTreeMap PatchInfo ℕ) (c d : Contents) (n j : ℕ) → Owns m bundles → IsLastOwned m c.patches n j → Distinct (infos_of c.patches) →
    slice_get bundles j ≡ Some d → (AgreeUpTo d c n → ⊥) → ClashesAt bundles c n
last_differs bundles m c d n j o l distinct e differ =
    let f = o.found l.patch.info j l.owned in
    let same : f.0 ≡ d = cc (sym f.1 ∙ e) in
    let h = subst (λ (x : Contents). Holds x.patches l.patch.info) same f.2 in
    let next : suc l.at ≡ n = omega (arith, l.count) in
    record {
      at = l.at;
      count = l.count;
      patch = l.patch;
      is_patch = l.is_patch;
      other = d;
      there = from_at bundles j e;
      holds = h;
      differs = λ a. differ (subst (λ (x : ℕ). AgreeUpTo d c x) next (agree_to d c l.at l.patch distinct l.is_patch h a));
    }
