-- The bundles that texts bring, read one after the other.
use Rattle.std.proofs.Common.{◌≡◌, ◌↔◌, ◌⊎◌, ◌<◌, ◌+◌, ℕ, List, [], ◌∷◌, ◌++◌, length, take, get_or, map, inl, inr, sym, ap, subst, ◌∙◌}
use Rattle.std.specs.Prelude.{MatchOption, IfOk, Result, Ok, Err, Option, Some, None}
use Rattle.std.specs.List.{Contains}
use Rattle.std.proofs.lemmas.List.{take_more, map_push}
use Rattle.std.proofs.lemmas.List.Elements.{Contains-append_left, Contains-push, Contains-push_cases}
use Rattle.dm_named.specs.declared.limits.Limits.{Limits}
use Rattle.dm_bundle.specs.Bundles.{Contents, BundleTextIn}
use Rattle.dm_repo.proofs.Members.{none_of}
use Rattle.dm_scratch.specs.Taking.{ReadsWithin}
use Rattle.dm_agree.specs.Names.{Brings, NamesStandWithin, NameIsShared, StandForOne, StandsForTwo}
use Rattle.dm_agree.proofs.Owning.{stand_by, two_by}
use Rattle.dm_info.specs.PatchInfo.{PatchInfo}
use Rattle.dm_named.specs.Patches.{Patch}
use Rattle.dm_agree.specs.Owners.{AddsBrought}

-- these are the bundles that the texts bring
abbrev pub Are : Limits → List (List ℕ) → List Contents → Type 0
Are limits texts bundles = (b : Contents) → Contains bundles b ↔ Brings limits texts b

pub are_none : (limits : Limits) → Are limits [] []
are_none limits b = ((λ h. absurd (none_of h)), (λ h. absurd (none_of h.1)))

-- of texts with one more
from_more : (limits : Limits) (xs : List (List ℕ)) (x : List ℕ) (b : Contents) → Brings limits (xs ++ x ∷ []) b → Brings limits xs b ⊎ ReadsWithin limits x b
from_more limits xs x b (t, c, r) = elim (Contains-push_cases xs x t c) [
  | inl d ↦ inl (t, d, r)
  | inr e ↦ inr (subst (λ (y : List ℕ). ReadsWithin limits y b) (sym e) r)
]

still : (limits : Limits) (xs : List (List ℕ)) (x : List ℕ) (b : Contents) → Brings limits xs b → Brings limits (xs ++ x ∷ []) b
still limits xs x b (t, c, r) = (t, Contains-append_left xs (x ∷ []) t c, r)

pub adds_one : (limits : Limits) (x : List ℕ) (old : List Contents) (found : Contents) → ((b : Contents) → (b ≡ found) ↔ ReadsWithin limits x b) → AddsBrought limits x old (old ++ found ∷ [])
adds_one limits x old found f b = (
  λ h. elim (Contains-push_cases old found b h) [ inl c ↦ inl c | inr e ↦ inr ((f b).0 (sym e)) ],
  λ h. elim h [ inl c ↦ Contains-append_left old (found ∷ []) b c | inr r ↦ subst (λ (y : Contents). Contains (old ++ found ∷ []) y) (sym ((f b).1 r)) (Contains-push old found) ],
)

pub adds_none : (limits : Limits) (x : List ℕ) (old : List Contents) → ((b : Contents) → ReadsWithin limits x b → ⊥) → AddsBrought limits x old old
adds_none limits x old none b = (λ h. inl h, λ h. elim h [ inl c ↦ c | inr r ↦ absurd (none b r) ])

are_added : (limits : Limits) (xs : List (List ℕ)) (x : List ℕ) (old new : List Contents) → AddsBrought limits x old new → Are limits xs old → Are limits (xs ++ x ∷ []) new
are_added limits xs x old new f a b = (
  λ h. elim ((f b).0 h) [ inl c ↦ still limits xs x b ((a b).0 c) | inr r ↦ (x, Contains-push xs x, r) ],
  λ h. elim (from_more limits xs x b h) [ inl c ↦ (f b).1 (inl ((a b).1 c)) | inr r ↦ (f b).1 (inr r) ],
)

-- one text more
pub are_more : {T : Type 0} (limits : Limits) (f : T → List ℕ) (texts : List T) (k : ℕ) (d : T) (old new : List Contents) → k < length texts → Are limits (map f (take k texts)) old →
    AddsBrought limits (f (get_or texts k d)) old new → Are limits (map f (take (k + 1) texts)) new
are_more limits f texts k d old new l a add =
    let more : map f (take (k + 1) texts) ≡ map f (take k texts) ++ f (get_or texts k d) ∷ [] = ap (map f) (take_more texts k d l) ∙ map_push f (take k texts) (get_or texts k d) in
    subst (λ (z : List (List ℕ)). Are limits z new) (sym more) (are_added limits (map f (take k texts)) (f (get_or texts k d)) old new add a)

-- a text that is read stands for one bundle
pub just_one : (limits : Limits) (text : List ℕ) (found : Contents) → ReadsWithin limits text found → ((b : Contents) → BundleTextIn limits.kinds text b → found ≡ b) → (b : Contents) → (b ≡ found) ↔ ReadsWithin limits text b
just_one limits text found r only b = ((λ e. subst (λ (x : Contents). ReadsWithin limits text x) (sym e) r), (λ h. sym (only b h.stands)))

-- what is so of the bundles that texts bring is so of the texts
pub by_bundles : {E : Type 0} (limits : Limits) (pool : List (List ℕ)) (bundles : List Contents) (base : List Patch) (r : Result (Option PatchInfo) E) → Are limits pool bundles →
    IfOk r (λ found. MatchOption found (StandForOne (Contains bundles) base) (StandsForTwo (Contains bundles) base)) →
    IfOk r (λ found. MatchOption found (NamesStandWithin limits pool base) (NameIsShared limits pool base))
by_bundles limits pool bundles base (Ok None) a h = stand_by (Contains bundles) (Brings limits pool) base (λ b. (a b).1) h
by_bundles limits pool bundles base (Ok (Some i)) a h = two_by (Contains bundles) (Brings limits pool) base i (λ b. (a b).0) h
by_bundles limits pool bundles base (Err e) a h = tt
