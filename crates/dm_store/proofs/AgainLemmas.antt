-- The entries of a journal are taken again: a whole repository is read before it is taken, and those behind it are copied.
use Rattle.std.proofs.Common.{◌≡◌, ◌≢◌, ◌⊎◌, ◌<◌, ◌^◌, ◌+◌, ℕ, List, [], ◌∷◌, ◌++◌, Option, None, Some, length, map, take, drop, get_or, slice_get, Result, Ok, Err, inl, inr, arith, refl, sym, ap, subst, ◌∙◌, append_assoc, take-append-drop}
use Rattle.std.specs.Result.{IfOk, IfErr}
use Rattle.std.proofs.lemmas.List.{drop_more, map_more, map-append, length-append, length-map, length-take-le}
use Rattle.std.proofs.lemmas.Fn.{FoldsTo-push}
use Rattle.dm_named.specs.Laws.{with_kinds}
use Rattle.dm_named.specs.Limits.{own}
use Rattle.dm_named.specs.declared.limits.Kinds.{Kinds}
use Rattle.dm_named.specs.declared.fault.FaultKind.TheVariants as kind
use Rattle.dm_named.specs.declared.fault.ReadFault.{ReadFault}
use Rattle.dm_named.specs.Patches.{Patch}
use Rattle.dm_bundle.specs.Bundles.{Contents}
use Rattle.dm_bundle.specs.Faults.{FaultWithin}
use Rattle.dm_repo.specs.declared.policy.Policy.TheVariants.{Refuse}
use Rattle.dm_repo.specs.declared.refusal.Refusal.TheVariants.{NoMemory}
use Rattle.dm_scratch.specs.declared.verdict.Verdict.{Verdict}
use Rattle.dm_scratch.specs.declared.verdict.Verdict.TheVariants.{Refused}
use Rattle.dm_scratch.specs.Taking.{IsUnread, ReadsWithin, TakesBundle, bundle}
use Rattle.dm_scratch.proofs.ReadLemmas.{unread_takes}
use Rattle.dm_begin.specs.Bases.{BeginsWith, MayHaveBase}
use Rattle.dm_store.specs.Keeping.{HasTaken, Kept, TakesAll, TakesEntry, FoldTo, empty, kept_as}
use Rattle.dm_store.specs.Opening.{IsBadEntry, FoldStops, StopsFor}
use Rattle.dm_store.specs.declared.fault.StoreError.{StoreError}
use Rattle.dm_store.specs.declared.fault.StoreError.TheVariants.{NoMemory as OutOfMemory, BadEntry}
use Rattle.dm_store.specs.Entries.{counted_entry}
use Rattle.dm_store.specs.WholeEntries.{ReadsEntry}
use Rattle.dm_store.proofs.FoldLemmas.{all_not_taken, whole_bad, counted_bad, never_base}
use Rattle.dm_store.proofs.WholeLemmas.{all_taken, all_untaken, nothing_kept}

-- a text that can't be read is that of no whole repository
pub unread_never : (kinds : Kinds) (text : List ℕ) (fault : ReadFault) (v : Verdict) → (fault.kind ≢ kind.NoMemory → FaultWithin (with_kinds own kinds) text fault.kind fault.at) → IsUnread fault v → v ≢ Refused NoMemory →
    (kept : Kept) (patches : List Patch) → TakesAll kinds kept text patches → ⊥
unread_never kinds text fault v at (inl x) m kept patches t =
    all_not_taken kinds kept text v [] patches m (λ taken. absurd (subst (λ (w : Verdict). HasTaken w) x.1 taken)) (unread_takes (with_kinds own kinds) [] text fault Refuse v [] at (inl x) refl) t
unread_never kinds text fault v at (inr x) m kept patches t = absurd (m x.1)

-- a bundle that was read is taken where nothing was before it, as its text is
pub read_taken : (kinds : Kinds) (base : ℕ) (repo : List Patch) (text : List ℕ) (b : Contents) (v : Verdict) (after : List Patch) → repo ≡ [] → HasTaken v → ReadsWithin (with_kinds own kinds) text b → TakesBundle repo b Refuse v after →
    TakesAll kinds (kept_as base repo) text after
read_taken kinds base repo text b v after e taken reads takes = all_taken kinds base repo text v after e taken (bundle b reads takes)

pub read_untaken : (kinds : Kinds) (base : ℕ) (repo : List Patch) (text : List ℕ) (b : Contents) (v : Verdict) (after patches : List Patch) → repo ≡ [] → v ≢ Refused NoMemory → (HasTaken v → ⊥) → ReadsWithin (with_kinds own kinds) text b → TakesBundle repo b Refuse v after →
    TakesAll kinds (kept_as base repo) text patches → ⊥
read_untaken kinds base repo text b v after patches e m n reads takes = all_untaken kinds base repo text v after patches e m n (bundle b reads takes)

-- where its text isn't taken, or not with this base, nor is the entry
pub entry_bad : (kinds : Kinds) (kept : Kept) (entry : List ℕ) (count : Option ℕ) (b : Contents) (r : ReadsEntry kinds entry count b) → ((patches : List Patch) → TakesAll kinds kept r.text patches → ⊥) → IsBadEntry kinds kept entry
entry_bad kinds kept entry None b r never = rw r.is (whole_bad kinds kept r.text never)
entry_bad kinds kept entry (Some base) b r never = rw r.is.1 (counted_bad kinds kept base r.text r.is.0 (λ patches may. never patches))

pub entry_of_no_base : (kinds : Kinds) (kept : Kept) (entry : List ℕ) (count : Option ℕ) (base : ℕ) (b : Contents) (r : ReadsEntry kinds entry count b) (after : List Patch) → count ≡ Some base → TakesAll kinds kept r.text after → (MayHaveBase after base → ⊥) → IsBadEntry kinds kept entry
entry_of_no_base kinds kept entry None base b r after is t n = absurd (cc)
entry_of_no_base kinds kept entry (Some other) base b r after is t n =
    let same : base ≡ other = cc in
    rw r.is.1 (counted_bad kinds kept other r.text r.is.0 (never_base kinds kept r.text other after t (subst (λ (m : ℕ). MayHaveBase after m → ⊥) same n)))

pub whole_takes : (kinds : Kinds) (kept : Kept) (entry : List ℕ) (count : Option ℕ) (base : ℕ) (b : Contents) (r : ReadsEntry kinds entry count b) (after : List Patch) → count ≡ None → TakesAll kinds kept r.text after → BeginsWith after base → TakesEntry kinds kept entry (kept_as base after)
whole_takes kinds kept entry None base b r after is t begins = inr (inl (record { text = r.text; is = r.is; takes = t; begins = begins }))
whole_takes kinds kept entry (Some other) base b r after is t begins = absurd (cc)

pub counted_takes : (kinds : Kinds) (kept : Kept) (entry : List ℕ) (count : Option ℕ) (base : ℕ) (b : Contents) (r : ReadsEntry kinds entry count b) (after : List Patch) → count ≡ Some base → TakesAll kinds kept r.text after → MayHaveBase after base → TakesEntry kinds kept entry (kept_as base after)
counted_takes kinds kept entry None base b r after is t may = absurd (cc)
counted_takes kinds kept entry (Some other) base b r after is t may =
    let same : other ≡ base = cc in
    inr (inr (record {
      text = r.text;
      is = subst (λ (m : ℕ). entry ≡ counted_entry m r.text) same r.is.1;
      small = subst (λ (m : ℕ). m < 2 ^ 64) same r.is.0;
      takes = t;
      may = may;
    }))

-- one entry more behind those before
pub behind_more : {X : Type 0} (bytes : X → List ℕ) (kinds : Kinds) (texts : List X) (i : ℕ) (d : X) (before : List (List ℕ)) (mid after : Kept) → i < length texts →
    FoldTo kinds (before ++ map bytes (take i texts)) mid → TakesEntry kinds mid (bytes (get_or texts i d)) after → FoldTo kinds (before ++ map bytes (take (i + 1) texts)) after
behind_more bytes kinds texts i d before mid after le folds t =
    subst (λ (l : List (List ℕ)). FoldTo kinds l after) (append_assoc before (map bytes (take i texts)) (bytes (get_or texts i d) ∷ []) ∙ ap (λ (l : List (List ℕ)). before ++ l) (sym (map_more bytes texts i d le)))
    (FoldsTo-push (TakesEntry kinds) empty (before ++ map bytes (take i texts)) mid (bytes (get_or texts i d)) after folds t)

parts : {X : Type 0} (bytes : X → List ℕ) (texts : List X) (i : ℕ) (d : X) → i < length texts → map bytes texts ≡ map bytes (take i texts) ++ bytes (get_or texts i d) ∷ map bytes (drop (i + 1) texts)
parts bytes texts i d le =
    ap (λ l. map bytes l) (sym (take-append-drop i texts) ∙ ap (λ l. take i texts ++ l) (drop_more texts i d le)) ∙ map-append bytes (take i texts) (get_or texts i d ∷ drop (i + 1) texts)

-- or none
pub behind_stops : {X : Type 0} (bytes : X → List ℕ) (kinds : Kinds) (texts : List X) (i from : ℕ) (d : X) (before : List (List ℕ)) (kept : Kept) → i < length texts → length before ≡ from →
    FoldTo kinds (before ++ map bytes (take i texts)) kept → IsBadEntry kinds kept (bytes (get_or texts i d)) → FoldStops kinds (before ++ map bytes texts) (from + i)
behind_stops bytes kinds texts i from d before kept le many folds stuck = record {
  before = before ++ map bytes (take i texts);
  entry = bytes (get_or texts i d);
  others = map bytes (drop (i + 1) texts);
  kept = kept;
  at = ap (λ (l : List (List ℕ)). before ++ l) (parts bytes texts i d le) ∙ sym (append_assoc before (map bytes (take i texts)) (bytes (get_or texts i d) ∷ map bytes (drop (i + 1) texts)));
  is_number =
      let a = length-append before (map bytes (take i texts)) in
      let b = length-map (take i texts) bytes in
      let c = length-take-le i texts (omega (arith, le)) in
      omega (arith, a, b, c, many);
  folds = folds;
  stuck = stuck;
}

-- the first entry, if there is one
some_first : (entries : List (List ℕ)) (entry : List ℕ) → slice_get entries 0 ≡ Some entry → entries ≡ entry ∷ drop 1 entries
some_first [] entry e = absurd (cc)
some_first (x ∷ xs) entry e = let same : x ≡ entry = cc in rw same refl

pub none_folds : (kinds : Kinds) (entries : List (List ℕ)) (patches : List Patch) → slice_get entries 0 ≡ None → patches ≡ [] → FoldTo kinds entries (kept_as 0 patches)
none_folds kinds [] patches e p = nothing_kept 0 patches refl p
none_folds kinds (x ∷ xs) patches e p = absurd (cc)

pub first_stops : (kinds : Kinds) (entries : List (List ℕ)) (entry : List ℕ) (e : StoreError) → slice_get entries 0 ≡ Some entry → (e ≡ OutOfMemory) ⊎ ((e ≡ BadEntry 0) × IsBadEntry kinds empty entry) → StopsFor kinds entries e
first_stops kinds entries entry e s (inl x) = subst (λ (f : StoreError). StopsFor kinds entries f) (sym x) tt
first_stops kinds entries entry e s (inr x) =
    subst (λ (f : StoreError). StopsFor kinds entries f) (sym x.0)
    (record { before = []; entry = entry; others = drop 1 entries; kept = empty; at = some_first entries entry s; is_number = refl; folds = refl; stuck = x.1 })

-- the first one and those behind it are all
pub first_and_others : (entries texts : List (List ℕ)) (entry : List ℕ) → slice_get entries 0 ≡ Some entry → texts ≡ drop 1 entries → entry ∷ texts ≡ entries
first_and_others entries texts entry s e = ap (λ (l : List (List ℕ)). entry ∷ l) e ∙ sym (some_first entries entry s)

-- what follows from what a result tells
pub if_ok : {T E : Type 0} (r : Result T E) (P Q : T → Type 0) → ((x : T) → P x → Q x) → IfOk r P → IfOk r Q
if_ok (Ok x) P Q f h = f x h
if_ok (Err e) P Q f h = h

pub if_err : {T E : Type 0} (r : Result T E) (P Q : E → Type 0) → ((e : E) → P e → Q e) → IfErr r P → IfErr r Q
if_err (Ok x) P Q f h = h
if_err (Err e) P Q f h = f e h
