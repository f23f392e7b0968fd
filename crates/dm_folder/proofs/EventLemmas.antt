-- What was noted stays noted.
use Rattle.std.proofs.Common.{◌≡◌, ℕ, List, [], ◌∷◌, ◌++◌, refl, sym, ap, ◌∙◌, append_assoc}
use Rattle.dm_folder.specs.Events.{Event, IsLater}
use Rattle.dm_folder.specs.Found.{Told}
use Rattle.dm_folder.specs.Keeps.{Keeps}
use Rattle.dm_folder.specs.Listed.{IsHeldBy, IsListed}

-- nothing was noted
pub later_same : (old : List Event) → IsLater old old
later_same old = record { since = []; new_is = refl }

-- one event was noted
pub later_one : (old new : List Event) (e : Event) → new ≡ e ∷ old → IsLater old new
later_one old new e is = record { since = e ∷ []; new_is = is }

-- one after the other
pub later_both : {a b c : List Event} → IsLater a b → IsLater b c → IsLater a c
later_both {a} x y = record {
  since = y.since ++ x.since;
  new_is = y.new_is ∙ ap (λ es. y.since ++ es) x.new_is ∙ sym (append_assoc y.since x.since a);
}

still : (old new later rest : List Event) (l : IsLater old new) → old ≡ later ++ rest → new ≡ (l.since ++ later) ++ rest
still old new later rest l is = l.new_is ∙ ap (λ es. l.since ++ es) is ∙ sym (append_assoc l.since later rest)

-- a directory that was listed
pub listed_kept : {old new : List Event} → IsLater old new → (place : List ℕ) (found : List Told) → IsListed old place found → IsListed new place found
listed_kept {old} {new} l place found is = record {
  earlier = is.earlier;
  read = is.read;
  asked = is.asked;
  later = l.since ++ is.later;
  first = is.first;
  last = is.last;
  bytes = is.bytes;
  was_dir = is.was_dir;
  is_read = is.is_read;
  is_asked = is.is_asked;
  is_dir = is.is_dir;
  events_are = still old new is.later _ l is.events_are;
  names_are = is.names_are;
}

-- a file that was read
pub held_kept : {old new : List Event} → IsLater old new → (place bytes : List ℕ) → IsHeldBy old place bytes → IsHeldBy new place bytes
held_kept {old} {new} l place bytes is = record {
  earlier = is.earlier;
  later = l.since ++ is.later;
  mode = is.mode;
  was_file = is.was_file;
  events_are = still old new is.later _ l is.events_are;
}

-- what the system told stays told
pub later_keeps : {old new : List Event} → IsLater old new → Keeps (IsListed old) (IsListed new) (IsHeldBy old) (IsHeldBy new) (λ _ _. Unit {0}) (λ _ _. Unit {0})
later_keeps l = record { lists_stay = listed_kept l; holds_stay = held_kept l; fails_stay = λ place trouble told. tt }
