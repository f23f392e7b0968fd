-- A whole repository is taken again, into an empty one.
use Rattle.std.proofs.Common.{arith, ◌≡◌, ◌≢◌, ◌⊎◌, ◌≤◌, ◌<◌, ◌^◌, ◌+◌, ℕ, zero, suc, List, [], ◌∷◌, ◌++◌, length, take, slice_get, Some, inl, inr, refl, sym, ap, ap₂, subst, ◌∙◌, append_assoc, append-nil}
use Rattle.std.specs.List.{Contains}
use Rattle.std.proofs.lemmas.List.{length-map}
use Rattle.dm_info.specs.PatchInfo.{PatchInfo}
use Rattle.dm_prim.specs.InTurn.{done}
use Rattle.dm_prim.specs.Rectangles.{none}
use Rattle.dm_named.specs.Laws.{with_kinds}
use Rattle.dm_named.specs.Limits.{own}
use Rattle.dm_named.specs.declared.limits.Kinds.{Kinds}
use Rattle.dm_named.specs.declared.limits.Kinds.TheVariants.{Six, All}
use Rattle.dm_named.specs.Patches.{Patch}
use Rattle.dm_bundle.specs.Bundles.{BundleTextIn}
use Rattle.dm_bundle.specs.Faults.{IsWithinSizeOf}
use Rattle.dm_bundle.specs.Patches.{infos_of, AreFewWithin}
use Rattle.dm_bundle.proofs.ReplaceLemmas.{few_for_own}
use Rattle.dm_repo.specs.CommonSets.{HasAll, HasDependencies}
use Rattle.dm_repo.specs.Repositories.{IsRepo, NamesEarlier}
use Rattle.dm_repo.specs.Squares.{Placed, placed, placed_from, PlacedCommutes}
use Rattle.dm_repo.specs.Staircases.{Split, nothing, yields}
use Rattle.dm_repo.specs.Weighing.{Fits, IsHeld, IsMergeOf, most_patches}
use Rattle.dm_repo.specs.declared.policy.Policy.TheVariants.{Refuse}
use Rattle.dm_repo.specs.declared.refusal.Refusal.TheVariants.{NoMemory}
use Rattle.dm_repo.proofs.Following.{merges_whole}
use Rattle.dm_repo.proofs.Members.{here, none_of}
use Rattle.dm_repo.proofs.Placed.{patches_placed}
use Rattle.dm_scratch.specs.declared.verdict.Verdict.{Verdict}
use Rattle.dm_scratch.specs.declared.verdict.Verdict.TheVariants.{Taken, Refused}
use Rattle.dm_scratch.specs.Taking.{TakesWithin, bundle}
use Rattle.dm_journal.specs.Format.{renewed}
use Rattle.dm_journal.specs.Journal.{StandsIn}
use Rattle.dm_journal.specs.declared.format.Format.{Format}
use Rattle.dm_journal.specs.declared.format.Format.TheVariants.{First, Second, Third, Fields}
use Rattle.dm_journal.specs.declared.format.KindsField.TheVariants as field
use Rattle.dm_journal.specs.Ready.{StandsForEither}
use Rattle.dm_store.specs.Entries.{counted_entry, all_of}
use Rattle.dm_store.specs.Kinds.{kinds_of, format_of}
use Rattle.dm_begin.specs.Bases.{MayHaveBase}
use Rattle.dm_store.specs.Keeping.{HasTaken, TakesAll, TakesEntry, FoldTo, KeepsRepo, KeepsEither, Kept, IsOrKeeps, empty, entry_of_all, entries_of_all, kept_as}
use Rattle.dm_store.specs.Laws.{RepositoryIsTakenAgain}
use Rattle.dm_store.proofs.FoldLemmas.{all_not_taken}

-- where nothing is held nothing is in front
none_in_front : (n : ℕ) (xs : List Patch) → Split PlacedCommutes (IsHeld []) (placed_from n xs) [] (placed_from n xs)
none_in_front n [] = nothing
none_in_front n (x ∷ xs) = yields (λ h. none_of h) (none_in_front (n + 1) xs) none

-- what the patch at a place names is known, or stands before it
names_before : (known : List PatchInfo) (xs : List Patch) (n : ℕ) {x : Patch} {d : PatchInfo} → NamesEarlier known xs → slice_get xs n ≡ Some x → Contains x.deps d → Contains (known ++ infos_of (take n xs)) d
names_before known [] n e s c = absurd (cc)
names_before known (y ∷ ys) zero {x} {d} e s c = let f : x ≡ y = cc in rw (append-nil known) (e.0 d (rw f at c))
names_before known (y ∷ ys) (suc n) e s c = rw (append_assoc known (y.info ∷ []) (infos_of (take n ys))) at (names_before (known ++ y.info ∷ []) ys n e.1 s c)

has_dependencies : (repo : List Patch) → NamesEarlier [] repo → HasDependencies [] (all_of repo)
has_dependencies repo e n x d s new c = inr (names_before [] repo n e s c)

is_new : (repo : List Patch) → repo ≢ [] → HasAll [] (all_of repo) → ⊥
is_new [] some h = some refl
is_new (x ∷ xs) some h = none_of (h x.info (here x.info (infos_of xs)))

fits : (repo : List Patch) → IsRepo repo → repo ≢ [] → Fits [] (all_of repo) [] (placed repo)
fits repo r some = record {
  front = [];
  bundle_split = record {
    repo_split = record {
      prerequisites = record { knows = λ i c. absurd (none_of c); is_new = is_new repo some; has_dependencies = has_dependencies repo r.earlier };
      split = nothing;
    };
    held = [];
    split = none_in_front 0 repo;
  };
  base = r.folds.start;
  folds = record { start = r.folds.start; is_root = r.folds.is_root; runs = done };
  fitted = r.tree;
  leads = rw (patches_placed 0 repo) r.folds.runs;
}

few_placed : (repo : List Patch) → length repo ≤ most_patches → length {A = Patch} [] + length (placed repo) ≤ most_patches
few_placed repo few =
    let e : length (placed repo) ≡ length repo = sym (length-map (placed repo) (λ (x : Placed). x.1)) ∙ ap length (patches_placed 0 repo) in
    omega (arith, e, few)

merge_of_all : (repo : List Patch) → IsRepo repo → repo ≢ [] → length repo ≤ most_patches → IsMergeOf [] (all_of repo) Refuse repo 0
merge_of_all repo r some few = rw (patches_placed 0 repo) at (merges_whole [] (all_of repo) Refuse (fits repo r some) (few_placed repo few))

pub taken_again : RepositoryIsTakenAgain
taken_again kinds repo text r some reads =
    bundle (all_of repo) reads (record { merged = repo; is_merge = merge_of_all repo r some reads.few.count; counted = refl; appended = refl })

-- the entry of a text that stands for all patches leaves them
pub entry_takes : (kinds : Kinds) (base : ℕ) (repo : List Patch) (text entry : List ℕ) → entry ≡ counted_entry base text → base < 2 ^ 64 → MayHaveBase repo base → IsRepo repo → repo ≢ [] → BundleTextIn kinds text (all_of repo) → IsWithinSizeOf own text → AreFewWithin own repo →
    TakesEntry kinds empty entry (kept_as base repo)
entry_takes kinds base repo text entry is least may r some stands small few = inr (inr (record {
  text = text;
  is = is;
  small = least;
  takes = record {
    empty = refl;
    verdict = Taken (length repo);
    taken = tt;
    takes = taken_again kinds repo text r some (record { stands = stands; small = small; few = few_for_own kinds repo few });
  };
  may = may;
}))

-- a text that was taken where nothing was before it
pub all_taken : (kinds : Kinds) (base : ℕ) (repo : List Patch) (text : List ℕ) (v : Verdict) (after : List Patch) → repo ≡ [] → HasTaken v → TakesWithin (with_kinds own kinds) repo text Refuse v after → TakesAll kinds (kept_as base repo) text after
all_taken kinds base repo text v after e taken t =
    record { empty = e; verdict = v; taken = taken; takes = subst (λ (r : List Patch). TakesWithin (with_kinds own kinds) r text Refuse v after) e t }

pub all_untaken : (kinds : Kinds) (base : ℕ) (repo : List Patch) (text : List ℕ) (v : Verdict) (after patches : List Patch) → repo ≡ [] → v ≢ Refused NoMemory → (HasTaken v → ⊥) → TakesWithin (with_kinds own kinds) repo text Refuse v after → TakesAll kinds (kept_as base repo) text patches → ⊥
all_untaken kinds base repo text v after patches e m n t = all_not_taken kinds (kept_as base repo) text v after patches m n (subst (λ (r : List Patch). TakesWithin (with_kinds own kinds) r text Refuse v after) e t)

pub fold_whole : (kinds : Kinds) (entry : List ℕ) (kept : Kept) → TakesEntry kinds empty entry kept → FoldTo kinds (entry ∷ []) kept
fold_whole kinds entry kept t = (kept, t, refl)

-- a repository that has patches has one entry
pub one_of_all : (base : ℕ) (repo : List Patch) → repo ≢ [] → entries_of_all (kept_as base repo) ≡ entry_of_all (kept_as base repo) ∷ []
one_of_all base [] some = absurd (some refl)
one_of_all base (x ∷ xs) some = refl

-- and one that has none has none
pub none_of_all : (base : ℕ) (repo : List Patch) → repo ≡ [] → [] ≡ entries_of_all (kept_as base repo)
none_of_all base repo e = rw e refl

pub nothing_kept : (base : ℕ) (repo : List Patch) → base ≡ 0 → repo ≡ [] → empty ≡ kept_as base repo
nothing_kept base repo z e = ap₂ kept_as (sym z) (sym e)

-- patches without a base, where there are none
pub no_base_of_none : (base : ℕ) (repo : List Patch) → (base ≡ 0 → ⊥) → MayHaveBase repo base → repo ≢ []
no_base_of_none base repo some may e = let l = may.within in let n : length repo ≡ 0 = ap length e in some (omega (arith, l, n))

-- a file that takes the place of another is for the same kinds
pub same_kinds : (format : Format) → kinds_of (renewed format) ≡ kinds_of format
unfolding renewed
same_kinds First = refl
same_kinds Second = refl
same_kinds Third = refl
same_kinds (Fields field.Six checksum) = refl
same_kinds (Fields field.All checksum) = refl

-- a new file is for the kinds that it is made for
pub made_for : (kinds : Kinds) → kinds_of (format_of kinds) ≡ kinds
made_for Six = refl
made_for All = refl

-- whichever entries the file has, it keeps the one repository or the other
pub either_keeps : (format mine : Format) (old new : List (List ℕ)) (kept other : Kept) → kinds_of format ≡ kinds_of mine → FoldTo (kinds_of mine) old kept → FoldTo (kinds_of mine) new other →
    (c : List ℕ) → StandsForEither format old (renewed mine) new c → KeepsEither (kinds_of mine) kept other c
either_keeps format mine old new kept other same f g c (inl s) = inl (record { format = format; entries = old; is_for = same; stands = s; folds = f })
either_keeps format mine old new kept other same f g c (inr s) = inr (record { format = renewed mine; entries = new; is_for = same_kinds mine; stands = s; folds = g })

-- where they are the same, it keeps this one
pub same_keeps : (kinds : Kinds) (kept : Kept) (c : List ℕ) → KeepsEither kinds kept kept c → KeepsRepo kinds c kept
same_keeps kinds kept c (inl k) = k
same_keeps kinds kept c (inr k) = k

-- the old file, or one with the entry of the repository alone
pub old_or_whole : (kinds : Kinds) (old entry : List ℕ) (kept : Kept) → TakesEntry kinds empty entry kept → (c : List ℕ) → (c ≡ old) ⊎ StandsIn (format_of kinds) c (entry ∷ []) → IsOrKeeps kinds old kept c
old_or_whole kinds old entry kept t c (inl same) = inl same
old_or_whole kinds old entry kept t c (inr s) = inr (record { format = format_of kinds; entries = entry ∷ []; is_for = made_for kinds; stands = s; folds = fold_whole kinds entry kept t })

-- the old file, or one without entries
pub old_or_none : (kinds : Kinds) (old : List ℕ) (kept : Kept) → empty ≡ kept → (c : List ℕ) → (c ≡ old) ⊎ StandsIn (format_of kinds) c [] → IsOrKeeps kinds old kept c
old_or_none kinds old kept is c (inl same) = inl same
old_or_none kinds old kept is c (inr s) = inr (record { format = format_of kinds; entries = []; is_for = made_for kinds; stands = s; folds = is })
