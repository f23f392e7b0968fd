-- The search for a name that stands for two patches, one bundle after the other.
use Rattle.std.proofs.Common.{◌≡◌, ◌<◌, ◌≤◌, ◌+◌, ◌-◌, ℕ, zero, suc, List, [], ◌∷◌, ◌++◌, None, Some, length, take, drop, get_or, slice_get, inl, inr, refl, sym, ap, ap₂, subst, ◌∙◌, arith, take-append-drop}
use Rattle.std.specs.List.{Contains}
use Rattle.std.specs.BTreeMap.{BTreeMap, IsEmpty}
use Rattle.std.proofs.lemmas.List.{take_more, take_all, drop_more, drop_all, length-take-le}
use Rattle.std.proofs.lemmas.List.Elements.{Contains-append_left}
use Rattle.std.proofs.lemmas.Option.{slice_get_within, slice_get-get_or, get_or_from_slice_get}
use Rattle.dm_info.specs.PatchInfo.{PatchInfo}
use Rattle.dm_named.specs.Patches.{Patch}
use Rattle.dm_bundle.specs.Patches.{infos_of, Distinct}
use Rattle.dm_bundle.specs.Bundles.{Contents}
use Rattle.dm_repo.specs.Repositories.{Holds}
use Rattle.dm_repo.proofs.Members.{one_of, none_of, from_at, in_infos}
use Rattle.dm_agree.specs.Names.{StandForOne, StandsForTwo, brought_twice, held_before}
use Rattle.dm_agree.specs.Owners.{owner, Notes, OwnsNone, IsLastOwned, Owns, AreAlike, AgreeUpTo, AlikeWith, ClashesAt}
use Rattle.dm_agree.proofs.Alike.{holds_cases, last_agrees, last_differs}
use Rattle.dm_agree.proofs.Owning.{Sorted, sorted_none, sorted_more, sorted_stands}

pub at_get : {X : Type 0} (xs : List X) (k : ℕ) (x : X) → k < length xs → x ≡ get_or xs k x → slice_get xs k ≡ Some x
at_get xs k x l e = slice_get-get_or xs k x l ∙ ap Some (sym e)

-- ---- none held so far

pub held_more : (ps repo : List Patch) (k : ℕ) (p : Patch) → k < length ps → p ≡ get_or ps k p → (Holds repo p.info → ⊥) →
    ((i : PatchInfo) → Holds (take k ps) i → Holds repo i → ⊥) → (i : PatchInfo) → Holds (take (k + 1) ps) i → Holds repo i → ⊥
held_more ps repo k p l e none f i h c =
    let more : take (k + 1) ps ≡ take k ps ++ p ∷ [] = take_more ps k p l ∙ ap (λ x. take k ps ++ x ∷ []) (sym e) in
    elim (holds_cases (take k ps) (p ∷ []) i (subst (λ (x : List Patch). Holds x i) more h)) [
      | inl x ↦ f i x c
      | inr x ↦ elim (one_of p.info [] x) [ inl same ↦ none (subst (λ (y : PatchInfo). Holds repo y) (sym same) c) | inr z ↦ none_of z ]
    ]

-- ---- the last that has a place

pub owns_at_end : (m : BTreeMap PatchInfo ℕ) (ps : List Patch) (k : ℕ) → length ps ≤ k → OwnsNone m (drop k ps)
owns_at_end m ps k l i h = absurd (none_of (subst (λ (x : List Patch). Holds x i) (drop_all k ps l) h))

pub owns_before : (m : BTreeMap PatchInfo ℕ) (ps : List Patch) (n : ℕ) (p : Patch) → 0 < n → n ≤ length ps → p ≡ get_or ps (n - 1) p → owner m p.info ≡ None → OwnsNone m (drop n ps) → OwnsNone m (drop (n - 1) ps)
owns_before m ps n p some l e none rest i h =
    let back : (n - 1) + 1 ≡ n = omega (arith, some) in
    let here : drop (n - 1) ps ≡ p ∷ drop n ps = drop_more ps (n - 1) p (omega (arith, some, l)) ∙ ap₂ (λ a r. a ∷ r) (sym e) (ap (λ x. drop x ps) back) in
    elim (one_of p.info (infos_of (drop n ps)) (subst (λ (x : List Patch). Holds x i) here h)) [
      | inl same ↦ subst (λ (x : PatchInfo). owner m x ≡ None) same none
      | inr c ↦ rest i c
    ]

pub owns_all : (m : BTreeMap PatchInfo ℕ) (ps : List Patch) (k : ℕ) → k ≤ 0 → OwnsNone m (drop k ps) → OwnsNone m ps
owns_all m ps zero l n = n
owns_all m ps (suc k) l n = absurd (omega (arith, l))

pub last_at : (m : BTreeMap PatchInfo ℕ) (ps : List Patch) (n place : ℕ) (p : Patch) → 0 < n → n ≤ length ps → p ≡ get_or ps (n - 1) p → owner m p.info ≡ Some place → OwnsNone m (drop n ps) → IsLastOwned m ps n place
last_at m ps n place p some l e o rest = record {
  at = n - 1;
  count = omega (arith, some);
  patch = p;
  is_patch = at_get ps (n - 1) p (omega (arith, some, l)) e;
  owned = o;
  last = rest;
}

pub last_within : (m : BTreeMap PatchInfo ℕ) (ps : List Patch) (n j : ℕ) → IsLastOwned m ps n j → n ≤ length ps
last_within m ps n j l = let h = slice_get_within ps l.at l.patch l.is_patch in omega (arith, h, l.count)

pub owner_within : (m : BTreeMap PatchInfo ℕ) (bundles : List Contents) (ps : List Patch) (n j : ℕ) → Owns m bundles → IsLastOwned m ps n j → j < length bundles
owner_within m bundles ps n j o l = let f = o.found l.patch.info j l.owned in slice_get_within bundles j f.0 f.1

-- what the bundle at that place tells
pub agrees_at : (bundles : List Contents) (m : BTreeMap PatchInfo ℕ) (c d : Contents) (ps : List Patch) (n j : ℕ) → Owns m bundles → AreAlike bundles → ps ≡ c.patches → IsLastOwned m ps n j →
    d ≡ get_or bundles j d → AgreeUpTo d c n → AlikeWith bundles c
agrees_at bundles m c d ps n j o alike same l e g =
    last_agrees bundles m c d n j o alike (subst (λ (x : List Patch). IsLastOwned m x n j) same l) (at_get bundles j d (owner_within m bundles ps n j o l) e) g

pub differs_at : (bundles : List Contents) (m : BTreeMap PatchInfo ℕ) (c d : Contents) (ps : List Patch) (n j : ℕ) → Owns m bundles → ps ≡ c.patches → IsLastOwned m ps n j →
    Distinct (infos_of c.patches) → d ≡ get_or bundles j d → (AgreeUpTo d c n → ⊥) → ClashesAt bundles c n
differs_at bundles m c d ps n j o same l distinct e g =
    last_differs bundles m c d n j o (subst (λ (x : List Patch). IsLastOwned m x n j) same l) distinct (at_get bundles j d (owner_within m bundles ps n j o l) e) g

pub clash_some : (bundles : List Contents) (c : Contents) (n : ℕ) → ClashesAt bundles c n → 0 < n
clash_some bundles c n k = omega (arith, k.count)

pub clash_within : (bundles : List Contents) (c : Contents) (ps : List Patch) (n : ℕ) → ps ≡ c.patches → ClashesAt bundles c n → n ≤ length ps
clash_within bundles c ps n same k = let h = slice_get_within c.patches k.at k.patch k.is_patch in omega (arith, h, k.count, ap length same)

-- ---- one bundle after the other

pub empty_owns : (m : BTreeMap PatchInfo ℕ) → IsEmpty m → (i : PatchInfo) → owner m i ≡ None
empty_owns m e i = rw e refl

pub sorted_first : (m : BTreeMap PatchInfo ℕ) (bundles : List Contents) (base : List Patch) → IsEmpty m → Sorted m (take 0 bundles) base
sorted_first m bundles base e = sorted_none m base (empty_owns m e)

pub sorted_next : (bundles : List Contents) (k : ℕ) (b : Contents) (ps base : List Patch) (m n : BTreeMap PatchInfo ℕ) → k < length bundles → b ≡ get_or bundles k b → ps ≡ b.patches →
    Sorted m (take k bundles) base → ((i : PatchInfo) → Holds ps i → Holds base i → ⊥) → AlikeWith (take k bundles) b → Notes m ps k n → Sorted n (take (k + 1) bundles) base
sorted_next bundles k b ps base m n l e same s f w t =
    let more : take (k + 1) bundles ≡ take k bundles ++ b ∷ [] = take_more bundles k b l ∙ ap (λ x. take k bundles ++ x ∷ []) (sym e) in
    let count : length (take k bundles) ≡ k = length-take-le k bundles (omega (arith, l)) in
    subst (λ (x : List Contents). Sorted n x base) (sym more)
    (sorted_more (take k bundles) b base m n s (subst (λ (x : List Patch). (i : PatchInfo) → Holds x i → Holds base i → ⊥) same f) w
    (subst (λ (x : ℕ). Notes m b.patches x n) (sym count) (subst (λ (x : List Patch). Notes m x k n) same t)))

pub sorted_last : (m : BTreeMap PatchInfo ℕ) (bundles : List Contents) (base : List Patch) (k : ℕ) → length bundles ≤ k → Sorted m (take k bundles) base → StandForOne (Contains bundles) base
sorted_last m bundles base k l s = sorted_stands m bundles base (subst (λ (x : List Contents). Sorted m x base) (take_all k bundles l) s)

-- the patch at a place of a bundle, by its two names
at_place : (ps : List Patch) (k : ℕ) (p q : Patch) → slice_get ps k ≡ Some p → q ≡ get_or ps k q → q ≡ p
at_place ps k p q e f = f ∙ get_or_from_slice_get ps k p q e

in_front : (bundles : List Contents) (k : ℕ) (d : Contents) → Contains (take k bundles) d → Contains bundles d
in_front bundles k d c = subst (λ (x : List Contents). Contains x d) (take-append-drop k bundles) (Contains-append_left (take k bundles) (drop k bundles) d c)

pub two_held : (bundles : List Contents) (place : ℕ) (b : Contents) (ps base : List Patch) (k : ℕ) (q : Patch) (i : PatchInfo) → place < length bundles → b ≡ get_or bundles place b → ps ≡ b.patches →
    ((p : Patch) × (slice_get ps k ≡ Some p) × Holds base p.info) → q ≡ get_or ps k q → i ≡ q.info → StandsForTwo (Contains bundles) base i
two_held bundles place b ps base k q i l e same (p, at, held) f g =
    let name : i ≡ p.info = g ∙ ap (λ z. z.info) (at_place ps k p q at f) in
    subst (λ (x : PatchInfo). StandsForTwo (Contains bundles) base x) (sym name) (held_before b (from_at bundles place (at_get bundles place b l e)) (subst (λ (x : List Patch). Holds x p.info) same (in_infos ps (from_at ps k at))) held)

pub two_brought : (bundles : List Contents) (place : ℕ) (b : Contents) (ps base : List Patch) (n : ℕ) (i : PatchInfo) → place < length bundles → b ≡ get_or bundles place b → ps ≡ b.patches →
    ClashesAt (take place bundles) b n → ((at : ℕ) → n ≡ at + 1 → (p : Patch) → slice_get ps at ≡ Some p → i ≡ p.info) → StandsForTwo (Contains bundles) base i
two_brought bundles place b ps base n i l e same k f =
    let name : i ≡ k.patch.info = f k.at k.count k.patch (subst (λ (x : List Patch). slice_get x k.at ≡ Some k.patch) (sym same) k.is_patch) in
    subst (λ (x : PatchInfo). StandsForTwo (Contains bundles) base x) (sym name)
    (brought_twice k.other b (in_front bundles place k.other k.there) (from_at bundles place (at_get bundles place b l e)) k.holds (in_infos b.patches (from_at b.patches k.at k.is_patch)) k.differs)

-- the patch with a number
pub nth_is : (ps : List Patch) (n : ℕ) (q : Patch) (i : PatchInfo) → q ≡ get_or ps (n - 1) q → i ≡ q.info → (at : ℕ) → n ≡ at + 1 → (p : Patch) → slice_get ps at ≡ Some p → i ≡ p.info
nth_is ps n q i e f at s p g =
    let k : at ≡ n - 1 = omega (arith, s) in
    f ∙ ap (λ z. z.info) (at_place ps (n - 1) p q (subst (λ (x : ℕ). slice_get ps x ≡ Some p) k g) e)
