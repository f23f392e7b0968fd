-- Entries fold to one repository, or stop at one of them.
use Rattle.std.proofs.Common.{◌≡◌, ◌≢◌, arith, inl, inr, ℕ, ◌+◌, ◌<◌, ◌^◌, List, [], ◌∷◌, ◌++◌, length, get_or, take, drop, refl, sym, subst, ap, ap₂, ◌∙◌, take-append-drop}
use Rattle.std.specs.List.{FoldsTo}
use Rattle.std.proofs.lemmas.List.{take_more, drop_more, length-take-le}
use Rattle.std.proofs.lemmas.Fn.{FoldsTo-push}
use Rattle.dm_named.specs.Laws.{with_kinds}
use Rattle.dm_named.specs.Limits.{standard, own}
use Rattle.dm_named.specs.declared.limits.Kinds.{Kinds}
use Rattle.dm_named.specs.Patches.{Patch}
use Rattle.dm_repo.specs.declared.policy.Policy.{Policy}
use Rattle.dm_repo.specs.declared.policy.Policy.TheVariants.{Refuse}
use Rattle.dm_repo.specs.declared.refusal.Refusal.TheVariants.{NoMemory}
use Rattle.dm_scratch.specs.declared.verdict.Verdict.{Verdict}
use Rattle.dm_scratch.specs.declared.verdict.Verdict.TheVariants.{Refused}
use Rattle.dm_scratch.specs.Taking.{TakesIn, TakesWithin}
use Rattle.dm_scratch.proofs.OneOutcome.{taking_one}
use Rattle.dm_journal.specs.Laws.{StandsForOneList, FilesHaveOneFormat}
use Rattle.dm_begin.specs.Bases.{BeginsWith, MayHaveBase}
use Rattle.dm_begin.proofs.BaseLemmas.{base_one}
use Rattle.dm_store.specs.Entries.{entry_of, whole_entry, counted_entry}
use Rattle.dm_store.specs.Kinds.{kinds_of}
use Rattle.dm_store.specs.Keeping.{HasTaken, TakesText, TakesAll, TakesWhole, TakesCounted, TakesEntry, FoldTo, Kept, empty, kept_as}
use Rattle.dm_store.specs.Opening.{IsBadEntry, FoldStops}
use Rattle.dm_store.specs.Laws.{KeepsOneRepo, KeepsOrHasBadEntry}
use Rattle.dm_store.proofs.EntryLemmas.{one_entry, one_counted, one_whole, not_counted, other_kind, whole_or_counted}

has_memory : (v : Verdict) → HasTaken v → v ≢ Refused NoMemory
has_memory v taken e = absurd (subst (λ (w : Verdict). HasTaken w) e taken)

same_kept : (a b : Kept) → a.base ≡ b.base → a.patches ≡ b.patches → a ≡ b
same_kept a b e f = ap₂ kept_as e f

-- an entry of this policy and text is taken as the text is
same_verdict : (kinds : Kinds) (kept : Kept) (policy : Policy) (text : List ℕ) (v : Verdict) (a : List Patch) (b : Kept) → v ≢ Refused NoMemory → TakesIn kinds kept.patches text policy v a → (t : TakesText kinds kept (entry_of policy text) b) → (v ≡ t.verdict) × (a ≡ b.patches)
same_verdict kinds kept policy text v a b m s t =
    let e = one_entry t.policy policy t.text text (sym t.is) in
    let u = subst (λ (x : List ℕ). TakesIn kinds kept.patches x policy t.verdict b.patches) e.1 (subst (λ (p : Policy). TakesIn kinds kept.patches t.text p t.verdict b.patches) e.0 t.takes) in
    taking_one (with_kinds standard kinds) kept.patches text policy v t.verdict a b.patches m (has_memory t.verdict t.taken) s u

-- so is the text of a whole repository
same_all : (kinds : Kinds) (kept : Kept) (text : List ℕ) (v : Verdict) (a b : List Patch) → v ≢ Refused NoMemory → TakesWithin (with_kinds own kinds) [] text Refuse v a → (t : TakesAll kinds kept text b) → (v ≡ t.verdict) × (a ≡ b)
same_all kinds kept text v a b m s t = taking_one (with_kinds own kinds) [] text Refuse v t.verdict a b m (has_memory t.verdict t.taken) s t.takes

all_one : (kinds : Kinds) (kept : Kept) (text : List ℕ) (a b : List Patch) → TakesAll kinds kept text a → TakesAll kinds kept text b → a ≡ b
all_one kinds kept text a b s t = (same_all kinds kept text s.verdict a b (has_memory s.verdict s.taken) s.takes t).1

whole_one : (kinds : Kinds) (kept : Kept) (entry : List ℕ) (a b : Kept) → TakesWhole kinds kept entry a → TakesWhole kinds kept entry b → a ≡ b
whole_one kinds kept entry a b s t =
    let text = one_whole s.text t.text (sym s.is ∙ t.is) in
    let same = all_one kinds kept t.text a.patches b.patches (subst (λ (x : List ℕ). TakesAll kinds kept x a.patches) text s.takes) t.takes in
    same_kept a b (base_one (subst (λ (l : List Patch). BeginsWith l a.base) same s.begins) t.begins) same

counted_one : (kinds : Kinds) (kept : Kept) (entry : List ℕ) (a b : Kept) → TakesCounted kinds kept entry a → TakesCounted kinds kept entry b → a ≡ b
counted_one kinds kept entry a b s t =
    let e = one_counted a.base b.base s.text t.text s.small t.small (sym s.is ∙ t.is) in
    same_kept a b e.0 (all_one kinds kept t.text a.patches b.patches (subst (λ (x : List ℕ). TakesAll kinds kept x a.patches) e.1 s.takes) t.takes)

takes_one : (kinds : Kinds) (kept : Kept) (entry : List ℕ) (a b : Kept) → TakesEntry kinds kept entry a → TakesEntry kinds kept entry b → a ≡ b
takes_one kinds kept entry a b (inl s) (inl t) =
    same_kept a b (s.same ∙ sym t.same) (same_verdict kinds kept s.policy s.text s.verdict a.patches b (has_memory s.verdict s.taken) s.takes (subst (λ (e : List ℕ). TakesText kinds kept e b) s.is t)).1
takes_one kinds kept entry a b (inl s) (inr (inl t)) = absurd (other_kind s.policy s.text t.text (sym s.is ∙ t.is))
takes_one kinds kept entry a b (inl s) (inr (inr t)) = absurd (not_counted s.policy b.base s.text t.text (sym s.is ∙ t.is))
takes_one kinds kept entry a b (inr (inl s)) (inl t) = absurd (other_kind t.policy t.text s.text (sym t.is ∙ s.is))
takes_one kinds kept entry a b (inr (inl s)) (inr (inl t)) = whole_one kinds kept entry a b s t
takes_one kinds kept entry a b (inr (inl s)) (inr (inr t)) = absurd (whole_or_counted b.base s.text t.text (sym s.is ∙ t.is))
takes_one kinds kept entry a b (inr (inr s)) (inl t) = absurd (not_counted t.policy a.base t.text s.text (sym t.is ∙ s.is))
takes_one kinds kept entry a b (inr (inr s)) (inr (inl t)) = absurd (whole_or_counted a.base t.text s.text (sym t.is ∙ s.is))
takes_one kinds kept entry a b (inr (inr s)) (inr (inr t)) = counted_one kinds kept entry a b s t

-- a text with another verdict makes no entry that is taken
pub not_taken : (kinds : Kinds) (kept : Kept) (entry : List ℕ) (policy : Policy) (text : List ℕ) (v : Verdict) (after : List Patch) → entry ≡ entry_of policy text → v ≢ Refused NoMemory → (HasTaken v → ⊥) → TakesIn kinds kept.patches text policy v after → IsBadEntry kinds kept entry
not_taken kinds kept entry policy text v after is m n s next (inl t) =
    let t' = subst (λ (e : List ℕ). TakesText kinds kept e next) is t in
    n (subst (λ (w : Verdict). HasTaken w) (sym (same_verdict kinds kept policy text v after next m s t').0) t'.taken)
not_taken kinds kept entry policy text v after is m n s next (inr (inl t)) = absurd (other_kind policy text t.text (sym is ∙ t.is))
not_taken kinds kept entry policy text v after is m n s next (inr (inr t)) = absurd (not_counted policy next.base text t.text (sym is ∙ t.is))

-- a text with another verdict isn't that of a whole repository, nor is any where something is held
pub all_not_taken : (kinds : Kinds) (kept : Kept) (text : List ℕ) (v : Verdict) (after patches : List Patch) → v ≢ Refused NoMemory → (HasTaken v → ⊥) → TakesWithin (with_kinds own kinds) [] text Refuse v after → TakesAll kinds kept text patches → ⊥
all_not_taken kinds kept text v after patches m n s t = n (subst (λ (w : Verdict). HasTaken w) (sym (same_all kinds kept text v after patches m s t).0) t.taken)

pub whole_bad : (kinds : Kinds) (kept : Kept) (text : List ℕ) → ((patches : List Patch) → TakesAll kinds kept text patches → ⊥) → IsBadEntry kinds kept (whole_entry text)
whole_bad kinds kept text never next (inl t) = absurd (other_kind t.policy t.text text (sym t.is))
whole_bad kinds kept text never next (inr (inl t)) = never next.patches (subst (λ (x : List ℕ). TakesAll kinds kept x next.patches) (one_whole t.text text (sym t.is)) t.takes)
whole_bad kinds kept text never next (inr (inr t)) = absurd (whole_or_counted next.base text t.text t.is)

pub counted_bad : (kinds : Kinds) (kept : Kept) (base : ℕ) (text : List ℕ) → base < 2 ^ 64 → ((patches : List Patch) → MayHaveBase patches base → TakesAll kinds kept text patches → ⊥) → IsBadEntry kinds kept (counted_entry base text)
counted_bad kinds kept base text small never next (inl t) = absurd (not_counted t.policy base t.text text (sym t.is))
counted_bad kinds kept base text small never next (inr (inl t)) = absurd (whole_or_counted base t.text text (sym t.is))
counted_bad kinds kept base text small never next (inr (inr t)) =
    let e = one_counted next.base base t.text text t.small small (sym t.is) in
    never next.patches (subst (λ (n : ℕ). MayHaveBase next.patches n) e.0 t.may) (subst (λ (x : List ℕ). TakesAll kinds kept x next.patches) e.1 t.takes)

-- a whole repository that was taken, but may not have that base, is taken with no other patches
pub never_base : (kinds : Kinds) (kept : Kept) (text : List ℕ) (base : ℕ) (patches : List Patch) → TakesAll kinds kept text patches → (MayHaveBase patches base → ⊥) → (others : List Patch) → MayHaveBase others base → TakesAll kinds kept text others → ⊥
never_base kinds kept text base patches s n others may t = n (subst (λ (l : List Patch). MayHaveBase l base) (all_one kinds kept text others patches t s) may)

folds_one : (kinds : Kinds) (entries : List (List ℕ)) (p a b : Kept) → FoldsTo (TakesEntry kinds) p entries a → FoldsTo (TakesEntry kinds) p entries b → a ≡ b
folds_one kinds [] p a b s t = sym s ∙ t
folds_one kinds (x ∷ xs) p a b s t = folds_one kinds xs t.0 a b (subst (λ (q : Kept). FoldsTo (TakesEntry kinds) q xs a) (takes_one kinds p x s.0 t.0 s.1 t.1) s.2) t.2

pub keeps_one : StandsForOneList → FilesHaveOneFormat → KeepsOneRepo
keeps_one one format kinds others file a b s t =
    let formats = format file s.format t.format s.entries t.entries s.stands t.stands in
    let same : kinds ≡ others = sym s.is_for ∙ ap kinds_of formats ∙ t.is_for in
    let entries = one file s.entries t.entries (s.format, s.stands) (t.format, t.stands) in
    let folds = subst (λ (k : Kinds). FoldTo k t.entries a) same (subst (λ (l : List (List ℕ)). FoldTo kinds l a) entries s.folds) in
    (same, folds_one others t.entries empty a b folds t.folds)

-- on the way an entry is taken after those before it
reaches : (kinds : Kinds) (before : List (List ℕ)) (entry : List ℕ) (others : List (List ℕ)) (p q : Kept) → FoldsTo (TakesEntry kinds) p (before ++ entry ∷ others) q → (mid : Kept) × (next : Kept) × FoldsTo (TakesEntry kinds) p before mid × TakesEntry kinds mid entry next
reaches kinds [] entry others p q f = (p, f.0, refl, f.1)
reaches kinds (x ∷ xs) entry others p q f = let r = reaches kinds xs entry others f.0 q f.2 in (r.0, r.1, (f.0, f.1, r.2), r.3)

pub none_bad : StandsForOneList → FilesHaveOneFormat → KeepsOrHasBadEntry
none_bad one format kinds file kept number s t =
    let stop = t.3 in
    let formats = format file s.format t.0 s.entries t.1 s.stands t.2 in
    let same : kinds ≡ kinds_of t.0 = sym s.is_for ∙ ap kinds_of formats in
    let entries = one file s.entries t.1 (s.format, s.stands) (t.0, t.2) ∙ stop.at in
    let whole = subst (λ (k : Kinds). FoldTo k (stop.before ++ stop.entry ∷ stop.others) kept) same (subst (λ (l : List (List ℕ)). FoldTo kinds l kept) entries s.folds) in
    let r = reaches (kinds_of t.0) stop.before stop.entry stop.others empty kept whole in
    stop.stuck r.1 (subst (λ (m : Kept). TakesEntry (kinds_of t.0) m stop.entry r.1) (folds_one (kinds_of t.0) stop.before empty r.0 stop.kept r.2 stop.folds) r.3)

-- one entry more
pub fold_more : (kinds : Kinds) (entries : List (List ℕ)) (i : ℕ) (d : List ℕ) (mid after : Kept) → i < length entries → FoldTo kinds (take i entries) mid → TakesEntry kinds mid (get_or entries i d) after → FoldTo kinds (take (i + 1) entries) after
fold_more kinds entries i d mid after le folds t =
    subst (λ (l : List (List ℕ)). FoldTo kinds l after) (sym (take_more entries i d le)) (FoldsTo-push (TakesEntry kinds) empty (take i entries) mid (get_or entries i d) after folds t)

-- or none
pub stops_at : (kinds : Kinds) (entries : List (List ℕ)) (i : ℕ) (d : List ℕ) (kept : Kept) → i < length entries → FoldTo kinds (take i entries) kept → IsBadEntry kinds kept (get_or entries i d) → FoldStops kinds entries i
stops_at kinds entries i d kept le folds stuck = record {
  before = take i entries;
  entry = get_or entries i d;
  others = drop (i + 1) entries;
  kept = kept;
  at = sym (take-append-drop i entries) ∙ ap (λ (l : List (List ℕ)). take i entries ++ l) (drop_more entries i d le);
  is_number = sym (length-take-le i entries (omega (arith, le)));
  folds = folds;
  stuck = stuck;
}
