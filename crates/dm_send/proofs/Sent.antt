-- What is sent, from how a repository is divided and from what a repository of the shared patches answers.
use Rattle.std.proofs.Common.{◌≡◌, ◌≢◌, ◌⊎◌, ℕ, List, [], take, reverse, inl, inr, refl}
use Rattle.dm_info.specs.PatchInfo.{PatchInfo}
use Rattle.dm_named.specs.Patches.{Patch}
use Rattle.dm_named.specs.Commuting.{NamedCommutes}
use Rattle.dm_bundle.specs.Bundles.{Contents, HasNoDoubles}
use Rattle.dm_bundle.specs.Patches.{infos_of, Distinct}
use Rattle.std.specs.List.{Contains}
use Rattle.dm_repo.specs.CommonSets.{Closed}
use Rattle.dm_repo.specs.Repositories.{IsRepo}
use Rattle.dm_repo.specs.Squares.{Placed, patches}
use Rattle.dm_repo.specs.Weighed.{Weighs}
use Rattle.dm_repo.specs.declared.policy.Policy.TheVariants.{Refuse}
use Rattle.dm_repo.specs.declared.refusal.Refusal.{Refusal}
use Rattle.dm_repo.specs.declared.refusal.Refusal.TheVariants.{MissingContext, MissingDependency, ContextDepends, HeldDepends, DoesNotFit, Conflicts, Full, NoMemory}
use Rattle.dm_repo.specs.declared.weighed.Merged.{Merged}
use Rattle.dm_repo.specs.declared.weighed.Weighed.{Weighed}
use Rattle.dm_repo.specs.declared.weighed.Weighed.TheVariants.{NothingNew, Merged as merged}
use Rattle.dm_repo.proofs.Members.{none_of}
use Rattle.dm_repo.proofs.Placed.{patches_placed}
use Rattle.dm_send.specs.Minimizing.{MinimizesBehind}
use Rattle.dm_send.specs.Sending.{Accepts, IsDivided, IsRefusedAs, IsSplitFor, MakesSameTree, Parts, RefusesThere, RefusesToDivide, RefusesToSplitFor, RefusesToSend, RefusesToSendMinimal, Sends, SendsMinimal, behind, just}
use Rattle.dm_send.proofs.Minimal.{is_context, takes}
use Rattle.dm_send.proofs.Parting.{front_distinct, no_doubles, split_parts, to_reverse}
use Rattle.dm_send.proofs.Whole.{nothing_new, taken_is, takes_whole}

-- what an empty repository takes of a bundle that rests on nothing
pub takes_nothing : {Z : Type 0} (list : List Patch) {w : Weighed Z} → w ≡ NothingNew → Weighs [] (just list) Refuse w → list ≡ []
takes_nothing list e n = nothing_new [] list (λ i c h. none_of h) (rw e at n)

pub takes_all : {Z : Type 0} (list : List Patch) {w : Weighed Z} {m : Merged Z} → w ≡ merged m → Weighs [] (just list) Refuse w → m.patches.items ≡ list
takes_all list e r = (taken_is [] list (λ i c h. none_of h) Refuse (rw e at r).0).0

-- what was weighed was accepted
pub accepts : {Z : Type 0} (repo : List Patch) (b : Contents) (w : Weighed Z) → Weighs repo b Refuse w → Accepts repo b
accepts repo b NothingNew n = inl n
accepts repo b (merged m) r = inr (m.patches.items, m.skipped, r.0)

-- a repository that is divided
module _ (repo : List Patch) (theirs : List PatchInfo) (most : ℕ) (front rest : List Placed) (distinct : Distinct (infos_of repo)) (split : IsSplitFor repo theirs front rest) where
  parts : Parts (Closed repo theirs) (infos_of repo) (infos_of (patches front)) (infos_of (patches rest))
  parts = rw (patches_placed 0 repo) at (split_parts (Closed repo theirs) split)

  pub front_alone : HasNoDoubles (patches front) []
  front_alone = front_distinct (Closed repo theirs) (patches front) (patches rest) most parts distinct

  pub new_apart : HasNoDoubles (take most (patches rest)) (reverse (infos_of (patches front)))
  new_apart = no_doubles (Closed repo theirs) (patches front) (patches rest) most parts distinct

  pub divided : MakesSameTree repo front rest → IsRepo (patches front) → IsDivided repo theirs most (patches front) (take most (patches rest))
  divided tree ok = record { front = front; rest = rest; split = split; is_shared = refl; is_new = refl; names = parts; is_repo = ok; same_tree = tree }

-- what is sent is taken
module _ (repo : List Patch) (theirs : List PatchInfo) (most : ℕ) (shared new : List Patch) (d : IsDivided repo theirs most shared new) (doubles : HasNoDoubles new (reverse (infos_of shared))) where
  pub apart : (i : PatchInfo) → Contains (infos_of new) i → Contains (infos_of shared) i → ⊥
  apart i c h = doubles.apart i c (to_reverse (infos_of shared) h)

  pub sends : Accepts shared (behind shared new) → Sends repo theirs most (behind shared new)
  sends a = record { shared = shared; new = new; divided = d; is_sent = refl; is_taken = takes_whole shared new apart a }

  pub sends_minimal : {base : ℕ} (kept sent gone : List Patch) → MinimizesBehind NamedCommutes base shared new kept sent gone → Accepts shared (behind kept sent) →
      SendsMinimal repo base theirs most (behind kept sent)
  sends_minimal kept sent gone m a = record {
    shared = shared;
    new = new;
    divided = d;
    kept = kept;
    sent = sent;
    gone = gone;
    minimizes = m;
    is_sent = refl;
    is_context = is_context shared new d.is_repo apart kept sent gone m;
    is_taken = takes shared new d.is_repo apart kept sent gone m a;
  }

-- memory ran out, or something else is wrong
pub is_memory : (why : Refusal) → (why ≡ NoMemory) ⊎ (why ≢ NoMemory)
is_memory NoMemory = inl refl
is_memory Full = inr (λ e. absurd (cc))
is_memory (MissingContext c) = inr (λ e. absurd (cc))
is_memory (MissingDependency n d) = inr (λ e. absurd (cc))
is_memory (ContextDepends h r) = inr (λ e. absurd (cc))
is_memory (HeldDepends h n) = inr (λ e. absurd (cc))
is_memory (DoesNotFit n) = inr (λ e. absurd (cc))
is_memory (Conflicts n h) = inr (λ e. absurd (cc))

-- what is told where a repository refuses a bundle
module _ (why told : Refusal) (memory : why ≡ NoMemory → told ≡ NoMemory) (full : why ≢ NoMemory → told ≡ Full) where
  pub refuses_there : (shared : List Patch) (b : Contents) → IsRefusedAs shared b why → RefusesThere shared b told
  refuses_there shared b r = elim (is_memory why) [ inl e ↦ rw (memory e) tt | inr n ↦ rw (full n) (why, n, r) ]

  pub refuses_front : (repo : List Patch) (theirs : List PatchInfo) {front rest : List Placed} → IsSplitFor repo theirs front rest → IsRefusedAs [] (just (patches front)) why → RefusesToDivide repo theirs told
  refuses_front repo theirs {front} {rest} s r = elim (is_memory why) [ inl e ↦ rw (memory e) tt | inr n ↦ rw (full n) (front, rest, s, (why, n, r)) ]

module _ (repo : List Patch) (theirs : List PatchInfo) (most : ℕ) where
  -- it can't be split
  pub undivided : (why : Refusal) → RefusesToSplitFor repo theirs why → RefusesToDivide repo theirs why
  undivided Full r = absurd r
  undivided NoMemory r = r
  undivided (MissingContext c) r = r
  undivided (MissingDependency n d) r = r
  undivided (ContextDepends h k) r = r
  undivided (HeldDepends h n) r = r
  undivided (DoesNotFit n) r = r
  undivided (Conflicts n h) r = r

  -- nor divided
  pub unsent : (why : Refusal) → RefusesToDivide repo theirs why → RefusesToSend repo theirs most why
  unsent Full r = inl r
  unsent NoMemory r = r
  unsent (MissingContext c) r = r
  unsent (MissingDependency n d) r = r
  unsent (ContextDepends h k) r = r
  unsent (HeldDepends h n) r = r
  unsent (DoesNotFit n) r = r
  unsent (Conflicts n h) r = r

  pub unsent_minimal : (base : ℕ) (why : Refusal) → RefusesToDivide repo theirs why → RefusesToSendMinimal repo base theirs most why
  unsent_minimal base Full r = inl r
  unsent_minimal base NoMemory r = r
  unsent_minimal base (MissingContext c) r = r
  unsent_minimal base (MissingDependency n d) r = r
  unsent_minimal base (ContextDepends h k) r = r
  unsent_minimal base (HeldDepends h n) r = r
  unsent_minimal base (DoesNotFit n) r = r
  unsent_minimal base (Conflicts n h) r = r

  -- nor taken
  pub untaken : (shared new : List Patch) → IsDivided repo theirs most shared new → (why : Refusal) → RefusesThere shared (behind shared new) why → RefusesToSend repo theirs most why
  untaken shared new d Full r = inr (shared, new, d, r)
  untaken shared new d NoMemory r = tt
  untaken shared new d (MissingContext c) r = absurd r
  untaken shared new d (MissingDependency n e) r = absurd r
  untaken shared new d (ContextDepends h k) r = absurd r
  untaken shared new d (HeldDepends h n) r = absurd r
  untaken shared new d (DoesNotFit n) r = absurd r
  untaken shared new d (Conflicts n h) r = absurd r

  pub untaken_minimal : {base : ℕ} (shared new kept sent gone : List Patch) → IsDivided repo theirs most shared new → MinimizesBehind NamedCommutes base shared new kept sent gone →
      (why : Refusal) → RefusesThere shared (behind kept sent) why → RefusesToSendMinimal repo base theirs most why
  untaken_minimal shared new kept sent gone d m Full r = inr (shared, new, kept, sent, gone, d, m, r)
  untaken_minimal shared new kept sent gone d m NoMemory r = tt
  untaken_minimal shared new kept sent gone d m (MissingContext c) r = absurd r
  untaken_minimal shared new kept sent gone d m (MissingDependency n e) r = absurd r
  untaken_minimal shared new kept sent gone d m (ContextDepends h k) r = absurd r
  untaken_minimal shared new kept sent gone d m (HeldDepends h n) r = absurd r
  untaken_minimal shared new kept sent gone d m (DoesNotFit n) r = absurd r
  untaken_minimal shared new kept sent gone d m (Conflicts n h) r = absurd r
