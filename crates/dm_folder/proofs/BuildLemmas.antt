-- How a tree grows by a row.
use Rattle.std.proofs.Common.{◌≡◌, ◌≢◌, ◌+◌, ℕ, Bool, true, false, cond, List, [], ◌∷◌, ◌++◌, length, refl, sym, ap, ◌∙◌, Some, None, Err, arith}
use Rattle.std.proofs.lemmas.List.{append-nil, map_push, nil_from_length}
use Rattle.std.specs.Ordering.{eq_by_cmp}
use Rattle.std.specs.FinMap.{get, get-insert, insert, same_map}
use Rattle.dm_tree.specs.Paths.{Path}
use Rattle.dm_tree.specs.Trees.{Entry, File, Lines, Tree, empty_file, path_cmp}
use Rattle.dm_tree.specs.Changes.{EditAnswers, Edited}
use Rattle.dm_tree.specs.declared.fault.TreeFault.{TreeFault}
use Rattle.dm_tree.specs.declared.fault.TreeFault.TheVariants as tree
use Rattle.dm_tree.proofs.MoveLemmas.{self_equal}
use Rattle.dm_tree.proofs.Trees.{path_same, path_total}
use Rattle.dm_folder.specs.Builds.{AreHeld, AreNew, IsBuilt, IsHeld, bare, insert_all, is_dir}

held_push : (holds : List ℕ → List ℕ → Type 0) (top : List ℕ) (es : List (Path × Entry)) (e : Path × Entry) → AreHeld holds top es → IsHeld holds top e → AreHeld holds top (es ++ e ∷ [])
held_push holds top [] e all one = (one, tt)
held_push holds top (x ∷ es) e all one = (all.0, held_push holds top es e all.1 one)

insert_push : (es : List (Path × Entry)) (e : Path × Entry) (t : Tree) → insert_all (es ++ e ∷ []) t ≡ insert (insert_all es t) e.0 e.1
insert_push [] e t = refl
insert_push (x ∷ es) e t = insert_push es e (insert t x.0 x.1)

new_push : (es : List (Path × Entry)) (e : Path × Entry) (t : Tree) → AreNew es t → get (insert_all es t) e.0 ≡ None → AreNew (es ++ e ∷ []) t
new_push [] e t all none = (none, tt)
new_push (x ∷ es) e t all none = (all.0, new_push es e (insert t x.0 x.1) all.1 none)

-- nothing is built yet
pub built_none : (holds : List ℕ → List ℕ → Type 0) (top : List ℕ) (t : Tree) → t ≡ bare → IsBuilt holds top [] t
built_none holds top t e = record { built = []; rows_are = refl; are_held = tt; are_new = tt; tree_is = e }

-- one row more
pub built_more : (holds : List ℕ → List ℕ → Type 0) (top : List ℕ) (rows : List (Path × Bool)) (p : Path) (d : Bool) (e : Entry) (t more : Tree) → IsBuilt holds top rows t → is_dir e ≡ d → IsHeld holds top (p, e) → get t p ≡ None → more ≡ insert t p e → IsBuilt holds top (rows ++ (p, d) ∷ []) more
built_more holds top rows p d e t more b is held none m = record {
  built = b.built ++ (p, e) ∷ [];
  rows_are = map_push (λ (x : Path × Entry). (x.0, is_dir x.1)) b.built (p, e) ∙ ap (λ xs. xs ++ (p, is_dir e) ∷ []) b.rows_are ∙ ap (λ k. rows ++ (p, k) ∷ []) is;
  are_held = held_push holds top b.built (p, e) b.are_held held;
  are_new = new_push b.built (p, e) bare b.are_new (ap (λ x. get x p) (sym b.tree_is) ∙ none);
  tree_is = m ∙ ap (λ x. insert x p e) b.tree_is ∙ sym (insert_push b.built (p, e) bare);
}

twice : (k : Bool) (a b c : Entry) → cond k (Some a) (cond k (Some b) (Some c)) ≡ cond k (Some a) (Some c)
twice true a b c = refl
twice false a b c = refl

-- an entry that is put in the place of another
insert_twice : (t : Tree) (p : Path) (a b : Entry) → insert (insert t p a) p b ≡ insert t p b
insert_twice t p a b =
    same_map path_total path_same (insert (insert t p a) p b) (insert t p b)
    (λ q. get-insert path_total (insert t p a) p b q
    ∙ ap (cond (eq_by_cmp path_cmp q p) (Some b)) (get-insert path_total t p a q)
    ∙ elim (eq_by_cmp path_cmp q p) as (λ k. cond k (Some b) (cond k (Some a) (get t q)) ≡ cond k (Some b) (get t q)) [ true ↦ refl | false ↦ refl ]
    ∙ sym (get-insert path_total t p b q))

here : (t : Tree) (p : Path) (a : Entry) → get (insert t p a) p ≡ Some a
here t p a = get-insert path_total t p a p ∙ ap (λ k. cond k (Some a) (get t p)) (self_equal p)

-- all lines of an empty file are replaced
replaced : (front back new after : Lines) → length front + 1 ≡ 1 → [] ∷ [] ≡ front ++ ([] ∷ [] ++ back) → after ≡ front ++ (new ++ back) → after ≡ new
replaced front back new after at before is =
    let none : front ≡ [] = nil_from_length front (omega arith) in
    let rest : [] ∷ [] ≡ [] ∷ back = rw none at before in
    let empty_back : back ≡ [] = cc rest in
    rw (none, empty_back, append-nil new) at is

-- a new file of these lines
pub file_put : (t with_file now : Tree) (p : Path) (old new : Lines) → with_file ≡ insert t p empty_file → old ≡ [] ∷ [] → Edited p 1 old new with_file now → now ≡ insert t p (File new)
file_put t with_file now p old new added is edited =
    let r = edited.3 in
    let stood : edited.0 ≡ [] ∷ [] = cc (edited.2, ap (λ x. get x p) added, here t p empty_file) in
    let lines : edited.1 ≡ new = replaced r.front r.back new edited.1 r.at (sym stood ∙ r.before ∙ ap (λ o. r.front ++ (o ++ r.back)) is) r.after in
    edited.4 ∙ ap (λ x. insert x p (File edited.1)) added ∙ insert_twice t p empty_file (File edited.1) ∙ ap (λ ls. insert t p (File ls)) lines

-- lines in the place of the one of a new file: there is no fault but memory
pub only_memory : (T : Type 0) (t with_file : Tree) (p : Path) (old new : Lines) (fault : TreeFault) → with_file ≡ insert t p empty_file → old ≡ [] ∷ [] → new ≢ [] → EditAnswers {T = T} (get with_file) p 1 old new (Err fault) → fault ≡ tree.NoMemory
only_memory T t with_file p old new fault added is some answers =
    let stands : get with_file p ≡ Some empty_file = ap (λ x. get x p) added ∙ here t p empty_file in
    elim fault as (λ f. EditAnswers {T = T} (get with_file) p 1 old new (Err f) → f ≡ tree.NoMemory) [
      | tree.NoParent ↦ λ a. absurd a
      | tree.Occupied ↦ λ a. absurd a
      | tree.Missing ↦ λ a. absurd (cc (stands, a))
      | tree.NotFile ↦ λ a. absurd (cc (stands, a))
      | tree.NotDir ↦ λ a. absurd a
      | tree.NotEmpty ↦ λ a. absurd a
      | tree.IntoItself ↦ λ a. absurd a
      | tree.LineRange ↦ λ a. let lines : a.0 ≡ [] ∷ [] = cc (a.1, stands) in absurd (a.2 (rw (lines, is) (omega arith, omega arith)))
      | tree.OldDiffers ↦ λ a. let lines : a.0 ≡ [] ∷ [] = cc (a.1, stands) in absurd (a.3 (rw (lines, is) refl))
      | tree.NoLines ↦ λ a. absurd (some a.4)
      | tree.TooDeep ↦ λ a. absurd a
      | tree.TokenThere ↦ λ a. absurd a
      | tree.TooLarge ↦ λ a. absurd a
      | tree.NoMemory ↦ λ a. refl
    ] answers
