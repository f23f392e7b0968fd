-- The names that bundles bring, noted one bundle after the other.
use Rattle.std.proofs.Common.{◌≡◌, ◌⊎◌, ◌<◌, ◌+◌, ℕ, zero, suc, Bool, true, false, cond, List, [], ◌∷◌, ◌++◌, Option, None, Some, length, take, get_or, slice_get, inl, inr, refl, sym, ap, subst, ◌∙◌}
use Rattle.std.specs.List.{Contains}
use Rattle.std.specs.BTreeMap.{BTreeMap, is_at}
use Rattle.std.proofs.lemmas.Bool.{false≢true}
use Rattle.std.proofs.lemmas.List.{take_more}
use Rattle.std.proofs.lemmas.List.Elements.{Contains-push_cases}
use Rattle.dm_info.specs.PatchInfo.{PatchInfo}
use Rattle.dm_info.specs.Compared.{info_cmp}
use Rattle.dm_info.specs.ComparedLaws.{info_ties, info_same, same_info}
use Rattle.dm_named.specs.Patches.{Patch}
use Rattle.dm_bundle.specs.Bundles.{Contents}
use Rattle.dm_repo.specs.Repositories.{Holds}
use Rattle.dm_repo.proofs.Members.{here, one_of, none_of}
use Rattle.dm_converge.specs.Pools.{BeginAlike}
use Rattle.dm_agree.specs.Names.{StandForOne, StandsForTwo, brought_twice, held_before}
use Rattle.dm_agree.specs.Owners.{owner, Notes, Owns, AreAlike, AlikeWith}
use Rattle.dm_agree.proofs.Alike.{holds_left, holds_right, holds_cases, alike_back, alike_itself}

-- ---- one name more has its place

at_same : (k : PatchInfo) → is_at (info_cmp k) k ≡ true
at_same k = sym (info_ties k k) ∙ same_info k k refl

-- nothing is noted yet
pub notes_none : (m : BTreeMap PatchInfo ℕ) (place : ℕ) → Notes m [] place m
notes_none m place i = inr ((λ h. none_of h), refl)

abbrev Noted : BTreeMap PatchInfo ℕ → List Patch → ℕ → BTreeMap PatchInfo ℕ → PatchInfo → Type 0
Noted old ps place new i = (Holds ps i × (owner new i ≡ Some place)) ⊎ ((Holds ps i → ⊥) × (owner new i ≡ owner old i))

noted_here : (old mid new : BTreeMap PatchInfo ℕ) (ps : List Patch) (p : Patch) (place : ℕ) (i : PatchInfo) (b : Bool) → is_at (info_cmp p.info) i ≡ b →
    owner new i ≡ cond b (Some place) (owner mid i) → Noted old ps place mid i → Noted old (ps ++ p ∷ []) place new i
noted_here old mid new ps p place i true a e n =
    let same : p.info ≡ i = info_same p.info i (info_ties p.info i ∙ a) in
    inl (holds_right ps (p ∷ []) i (subst (λ (j : PatchInfo). Contains (p.info ∷ []) j) same (here p.info [])), e)
noted_here old mid new ps p place i false a e (inl n) = inl (holds_left ps (p ∷ []) i n.0, e ∙ n.1)
noted_here old mid new ps p place i false a e (inr n) = inr (
  (λ h. elim (holds_cases ps (p ∷ []) i h) [
    | inl l ↦ n.0 l
    | inr r ↦ elim (one_of p.info [] r) [
      | inl s ↦ let t : is_at (info_cmp p.info) i ≡ true = subst (λ (j : PatchInfo). is_at (info_cmp p.info) j ≡ true) s (at_same p.info) in absurd (false≢true (sym a ∙ t))
      | inr z ↦ none_of z
    ]
  ]),
  e ∙ n.1,
)

pub notes_more : (old mid new : BTreeMap PatchInfo ℕ) (ps : List Patch) (k : ℕ) (p : Patch) (place : ℕ) → k < length ps → p ≡ get_or ps k p →
    ((i : PatchInfo) → owner new i ≡ cond (is_at (info_cmp p.info) i) (Some place) (owner mid i)) →
    Notes old (take k ps) place mid → Notes old (take (k + 1) ps) place new
notes_more old mid new ps k p place l e u n i =
    let more : take (k + 1) ps ≡ take k ps ++ p ∷ [] = take_more ps k p l ∙ ap (λ x. take k ps ++ x ∷ []) (sym e) in
    rw more (noted_here old mid new (take k ps) p place i (is_at (info_cmp p.info) i) refl (u i) (n i))

-- ---- one bundle more is noted

none_some : {X : Type 0} (x : X) (o : Option X) → o ≡ None → o ≡ Some x → ⊥
none_some x o e f = let h : None ≡ Some x = sym e ∙ f in absurd (cc h)

get_push : {X : Type 0} (xs : List X) (x : X) → slice_get (xs ++ x ∷ []) (length xs) ≡ Some x
get_push [] x = refl
get_push (y ∷ ys) x = get_push ys x

get_before : {X : Type 0} (xs : List X) (x y : X) (k : ℕ) → slice_get xs k ≡ Some y → slice_get (xs ++ x ∷ []) k ≡ Some y
get_before [] x y k e = absurd (cc e)
get_before (z ∷ zs) x y zero e = e
get_before (z ∷ zs) x y (suc k) e = get_before zs x y k e

pub owns_none : (m : BTreeMap PatchInfo ℕ) → ((i : PatchInfo) → owner m i ≡ None) → Owns m []
owns_none m e = record {
  found = λ i j f. absurd (none_some j (owner m i) (e i) f);
  all = λ b i h k f. none_of h;
}

pub owns_more : (bundles : List Contents) (c : Contents) (m n : BTreeMap PatchInfo ℕ) → Owns m bundles → Notes m c.patches (length bundles) n → Owns n (bundles ++ c ∷ [])
owns_more bundles c m n o t = record {
  found = λ i j e. elim (t i) [
    | inl a ↦ let s : length bundles ≡ j = cc (sym a.1 ∙ e) in (c, subst (λ (x : ℕ). slice_get (bundles ++ c ∷ []) x ≡ Some c) s (get_push bundles c), a.0)
    | inr a ↦ let f = o.found i j (sym a.1 ∙ e) in (f.0, get_before bundles c f.0 j f.1, f.2)
  ];
  all = λ b i h k e. elim (t i) [
    | inl a ↦ absurd (none_some (length bundles) (owner n i) e a.1)
    | inr a ↦ elim (Contains-push_cases bundles c b h) [
      | inl x ↦ o.all b i x k (sym a.1 ∙ e)
      | inr x ↦ a.0 (subst (λ (y : Contents). Holds y.patches i) (sym x) k)
    ]
  ];
}

alike_pair : (bundles : List Contents) (c : Contents) → AreAlike bundles → AlikeWith bundles c → (b d : Contents) (i : PatchInfo) →
    Contains bundles b ⊎ (c ≡ b) → Contains bundles d ⊎ (c ≡ d) → Holds b.patches i → Holds d.patches i → BeginAlike b d
alike_pair bundles c a w b d i (inl x) (inl y) h k = a b d i x y h k
alike_pair bundles c a w b d i (inl x) (inr e) h k = subst (λ (z : Contents). BeginAlike b z) e (w b i x h (subst (λ (z : Contents). Holds z.patches i) (sym e) k))
alike_pair bundles c a w b d i (inr e) (inl y) h k = subst (λ (z : Contents). BeginAlike z d) e (alike_back d c (w d i y k (subst (λ (z : Contents). Holds z.patches i) (sym e) h)))
alike_pair bundles c a w b d i (inr e) (inr f) h k = rw (sym e, sym f) (alike_itself c)

pub alike_more : (bundles : List Contents) (c : Contents) → AreAlike bundles → AlikeWith bundles c → AreAlike (bundles ++ c ∷ [])
alike_more bundles c a w b d i h k x y = alike_pair bundles c a w b d i (Contains-push_cases bundles c b h) (Contains-push_cases bundles c d k) x y

-- ---- the whole

-- none of these bundles brings a name of the base
abbrev pub Beside : List Contents → List Patch → Type 0
Beside bundles base = (b : Contents) (i : PatchInfo) → Contains bundles b → Holds b.patches i → Holds base i → ⊥

pub beside_more : (bundles : List Contents) (c : Contents) (base : List Patch) → Beside bundles base → ((i : PatchInfo) → Holds c.patches i → Holds base i → ⊥) → Beside (bundles ++ c ∷ []) base
beside_more bundles c base s n b i h k = elim (Contains-push_cases bundles c b h) [
  | inl x ↦ s b i x k
  | inr e ↦ n i (subst (λ (z : Contents). Holds z.patches i) (sym e) k)
]

-- all that is known of these bundles, of which the map has the names
pub record Sorted (m : BTreeMap PatchInfo ℕ) (bundles : List Contents) (base : List Patch) : Type 0 where
  pub owns : Owns m bundles
  pub alike : AreAlike bundles
  pub beside : Beside bundles base

pub sorted_none : (m : BTreeMap PatchInfo ℕ) (base : List Patch) → ((i : PatchInfo) → owner m i ≡ None) → Sorted m [] base
sorted_none m base e = record {
  owns = owns_none m e;
  alike = λ b c i h k x y. absurd (none_of h);
  beside = λ b i h k x. none_of h;
}

pub sorted_more : (bundles : List Contents) (c : Contents) (base : List Patch) (m n : BTreeMap PatchInfo ℕ) → Sorted m bundles base → ((i : PatchInfo) → Holds c.patches i → Holds base i → ⊥) → AlikeWith bundles c →
    Notes m c.patches (length bundles) n → Sorted n (bundles ++ c ∷ []) base
sorted_more bundles c base m n s f w t = record {
  owns = owns_more bundles c m n s.owns t;
  alike = alike_more bundles c s.alike w;
  beside = beside_more bundles c base s.beside f;
}

pub sorted_stands : (m : BTreeMap PatchInfo ℕ) (bundles : List Contents) (base : List Patch) → Sorted m bundles base → StandForOne (Contains bundles) base
sorted_stands m bundles base s = record { among = s.alike; beside = s.beside }

-- ---- bundles by another name

pub stand_by : (P Q : Contents → Type 0) (base : List Patch) → ((b : Contents) → Q b → P b) → StandForOne P base → StandForOne Q base
stand_by P Q base f s = record {
  among = λ b c i h k. s.among b c i (f b h) (f c k);
  beside = λ b i h. s.beside b i (f b h);
}

pub two_by : (P Q : Contents → Type 0) (base : List Patch) (i : PatchInfo) → ((b : Contents) → P b → Q b) → StandsForTwo P base i → StandsForTwo Q base i
two_by P Q base i f (brought_twice b c h k x y apart) = brought_twice b c (f b h) (f c k) x y apart
two_by P Q base i f (held_before b h x y) = held_before b (f b h) x y
