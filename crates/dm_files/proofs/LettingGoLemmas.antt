-- What a mirror's file keeps where patches go, or where they stay.
use Rattle.std.proofs.Common.{◌≡◌, ◌⊎◌, inl, ⊎_elim, ℕ, List, Option, None, Some, length, sym, subst}
use Rattle.dm_named.specs.declared.limits.Kinds.{Kinds}
use Rattle.dm_named.specs.Patches.{Patch}
use Rattle.dm_journal.specs.Device.{LeavesOnly}
use Rattle.dm_disk.specs.Events.{Event}
use Rattle.dm_disk.specs.States.{seen, may_leave, file_may_leave, left_since, left_now, left_only_now, moment}
use Rattle.dm_store.specs.declared.store.Store.{Store}
use Rattle.dm_store.specs.Keeping.{CrashesKeep, IsStored, KeepsEither, KeepsRepo, Kept, kept_as, kept_in}
use Rattle.dm_store.specs.Kinds.{kinds_in}
use Rattle.dm_store.specs.LettingGo.{LosesNothing}
use Rattle.dm_files.specs.Obliterating.{LetsGo}
use Rattle.dm_store.proofs.StoredLemmas.{at_rest, crashes_keep, weakened}

-- no call of the file
pub still_keeps : (store : Store (List Event)) (P : List ℕ → Type 0) → ((file : List ℕ) → KeepsRepo (kinds_in store) file (kept_in store) → P file) → IsStored seen may_leave file_may_leave store →
    LeavesOnly moment left_since store.journal.device store.journal.device P
still_keeps store P to stored =
    at_rest moment left_since store.journal.device P
    (λ c left. to c (crashes_keep seen may_leave file_may_leave store.journal stored.entries (kept_in store) stored.has stored.folds c (left_only_now store.journal.device c left)))

pub stays_either : (store : Store (List Event)) (other : Kept) → IsStored seen may_leave file_may_leave store → LeavesOnly moment left_since store.journal.device store.journal.device (KeepsEither (kinds_in store) (kept_in store) other)
stays_either store other stored = still_keeps store (KeepsEither (kinds_in store) (kept_in store) other) (λ file keeps. inl keeps) stored

-- the mirror wasn't touched, or it loses nothing: so it loses nothing
pub loses_nothing : (old new : Store (List Event)) (left : List Patch) (others : List ℕ → Type 0) → IsStored seen may_leave file_may_leave old →
    (new ≡ old) ⊎ LeavesOnly moment left_since old.journal.device new.journal.device (LosesNothing (kinds_in old) (kept_in old) (kept_as old.base left) others) →
    LeavesOnly moment left_since old.journal.device new.journal.device (LosesNothing (kinds_in old) (kept_in old) (kept_as old.base left) others)
loses_nothing old new left others stored changes =
    ⊎_elim (λ same. subst (λ (s : Store (List Event)). LeavesOnly moment left_since old.journal.device s.journal.device (LosesNothing (kinds_in old) (kept_in old) (kept_as old.base left) others)) (sym same)
    (still_keeps old (LosesNothing (kinds_in old) (kept_in old) (kept_as old.base left) others) (λ file keeps. inl keeps) stored))
    (λ run. run)
    changes

-- what a crash may leave now, it may have left at any moment since
pub left_keeps : (old new : List Event) (kinds : Kinds) (kept : Kept) → LeavesOnly moment left_since old new (λ file. KeepsRepo kinds file kept) → CrashesKeep kinds may_leave new kept
left_keeps old new kinds kept run c may = run.each c (left_now new (length old) c run.later.later may)

-- no call of the file, and no other file
pub lets_stay : (store : Store (List Event)) (other : Kept) (saved : Option (List Event)) → saved ≡ None → IsStored seen may_leave file_may_leave store →
    LeavesOnly moment left_since store.journal.device store.journal.device (LetsGo (kinds_in store) (kept_in store) other saved)
lets_stay store other saved none stored =
    still_keeps store (LetsGo (kinds_in store) (kept_in store) other saved) (λ file keeps. subst (λ (s : Option (List Event)). LetsGo (kinds_in store) (kept_in store) other s file) (sym none) (inl keeps)) stored

-- the mirror lets go, and no other file gets what goes
pub lets_print : (old new : Store (List Event)) (other : Kept) (saved : Option (List Event)) → saved ≡ None →
    LeavesOnly moment left_since old.journal.device new.journal.device (KeepsEither (kinds_in old) (kept_in old) other) →
    LeavesOnly moment left_since old.journal.device new.journal.device (LetsGo (kinds_in old) (kept_in old) other saved)
lets_print old new other saved none run =
    weakened moment left_since old.journal.device new.journal.device (KeepsEither (kinds_in old) (kept_in old) other) (LetsGo (kinds_in old) (kept_in old) other saved)
    (λ file either. subst (λ (s : Option (List Event)). LetsGo (kinds_in old) (kept_in old) other s file) (sym none) either) run

-- or this one does
pub lets_save : (old new : Store (List Event)) (other : Kept) (saved : Option (List Event)) (file : List Event) → saved ≡ Some file →
    LeavesOnly moment left_since old.journal.device new.journal.device (LosesNothing (kinds_in old) (kept_in old) other (may_leave file)) →
    LeavesOnly moment left_since old.journal.device new.journal.device (LetsGo (kinds_in old) (kept_in old) other saved)
lets_save old new other saved file some run =
    weakened moment left_since old.journal.device new.journal.device (LosesNothing (kinds_in old) (kept_in old) other (may_leave file)) (LetsGo (kinds_in old) (kept_in old) other saved)
    (λ f lost. subst (λ (s : Option (List Event)). LetsGo (kinds_in old) (kept_in old) other s f) (sym some) lost) run

-- what keeps the repository loses nothing, wherever the rest was to go
pub lets_keep : (kinds : Kinds) (held other : Kept) (saved : Option (List Event)) (file : List ℕ) → KeepsRepo kinds file held → LetsGo kinds held other saved file
lets_keep kinds held other None file keeps = inl keeps
lets_keep kinds held other (Some saved) file keeps = inl keeps
