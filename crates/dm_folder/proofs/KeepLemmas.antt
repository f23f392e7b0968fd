-- What was told stays told, and what was read of it stays read.
use Rattle.std.proofs.Common.{ℕ, Bool, List, [], ◌∷◌}
use Rattle.dm_tree.specs.Paths.{Path}
use Rattle.dm_tree.specs.Trees.{Dir, Entry, File, Tree}
use Rattle.dm_folder.specs.Builds.{AreHeld, IsBuilt, IsHeld}
use Rattle.dm_folder.specs.Found.{Told}
use Rattle.dm_folder.specs.Keeps.{Keeps}
use Rattle.dm_folder.specs.Walks.{AreTold, IsWalk, Listing}
use Rattle.dm_folder.specs.declared.fault.Trouble.{Trouble}
use Rattle.dm_folder.specs.declared.fault.Why.{Why}
use Rattle.dm_folder.specs.declared.walking.Special.{Special}

-- nothing was asked
pub keeps_same : (lists : List ℕ → List Told → Type 0) (holds : List ℕ → List ℕ → Type 0) (fails : List ℕ → Trouble → Type 0) → Keeps lists lists holds holds fails fails
keeps_same lists holds fails = record { lists_stay = λ place found told. told; holds_stay = λ place bytes told. told; fails_stay = λ place trouble told. told }

-- one after the other
pub keeps_both : {l1 l2 l3 : List ℕ → List Told → Type 0} {h1 h2 h3 : List ℕ → List ℕ → Type 0} {f1 f2 f3 : List ℕ → Trouble → Type 0} → Keeps l1 l2 h1 h2 f1 f2 → Keeps l2 l3 h2 h3 f2 f3 → Keeps l1 l3 h1 h3 f1 f3
keeps_both a b = record {
  lists_stay = λ place found told. b.lists_stay place found (a.lists_stay place found told);
  holds_stay = λ place bytes told. b.holds_stay place bytes (a.holds_stay place bytes told);
  fails_stay = λ place trouble told. b.fails_stay place trouble (a.fails_stay place trouble told);
}

told_kept : (lists more : List ℕ → List Told → Type 0) → ((place : List ℕ) (found : List Told) → lists place found → more place found) → (top : List ℕ) (ls : List Listing) → AreTold lists top ls → AreTold more top ls
told_kept lists more stay top [] all = tt
told_kept lists more stay top (l ∷ ls) all = (stay _ _ all.0, told_kept lists more stay top ls all.1)

-- a walk
pub walk_kept : (lists more : List ℕ → List Told → Type 0) → ((place : List ℕ) (found : List Told) → lists place found → more place found) → (s : Special) (top : List ℕ) (walked rows : List (Path × Bool)) (refused : List (List ℕ × Why)) → IsWalk lists s top walked rows refused → IsWalk more s top walked rows refused
walk_kept lists more stay s top walked rows refused w = record {
  listings = w.listings;
  are_told = told_kept lists more stay top w.listings w.are_told;
  in_turn = w.in_turn;
  rows_are = w.rows_are;
  refused_are = w.refused_are;
}

one_kept : (holds more : List ℕ → List ℕ → Type 0) → ((place bytes : List ℕ) → holds place bytes → more place bytes) → (top : List ℕ) (e : Path × Entry) → IsHeld holds top e → IsHeld more top e
one_kept holds more stay top (path, Dir) held = tt
one_kept holds more stay top (path, File lines) held = (held.0, stay _ _ held.1)

held_kept : (holds more : List ℕ → List ℕ → Type 0) → ((place bytes : List ℕ) → holds place bytes → more place bytes) → (top : List ℕ) (es : List (Path × Entry)) → AreHeld holds top es → AreHeld more top es
held_kept holds more stay top [] all = tt
held_kept holds more stay top (e ∷ es) all = (one_kept holds more stay top e all.0, held_kept holds more stay top es all.1)

-- a tree
pub built_kept : (holds more : List ℕ → List ℕ → Type 0) → ((place bytes : List ℕ) → holds place bytes → more place bytes) → (top : List ℕ) (rows : List (Path × Bool)) (t : Tree) → IsBuilt holds top rows t → IsBuilt more top rows t
built_kept holds more stay top rows t b = record {
  built = b.built;
  rows_are = b.rows_are;
  are_held = held_kept holds more stay top b.built b.are_held;
  are_new = b.are_new;
  tree_is = b.tree_is;
}
