-- At most one answer: an answer reports the first fault of its call that holds.
use Rattle.std.proofs.Common.{◌≡◌, ◌≢◌, ℕ, ◌+◌, ◌-◌, ◌<◌, ◌≤◌, [], ◌∷◌, ◌++◌, take, drop, length, Option, Some, None, Result, Ok, Err, ◌⊎◌, inl, inr, refl, sym, ap, ap₂, subst, ◌∙◌, arith, length-append}
use Rattle.std.proofs.Math.Seq.{drop-append_seam, take-append_seam}
use Rattle.std.proofs.lemmas.List.{take_all}
use Rattle.dm_tree.specs.declared.fault.PathFault.{PathFault}
use Rattle.dm_tree.specs.declared.fault.LineFault.{LineFault}
use Rattle.dm_tree.specs.declared.fault.TreeFault.{TreeFault}
use Rattle.dm_tree.specs.declared.fault.TreeFault.TheVariants.{NoParent, Occupied, Missing, NotFile, NotDir, NotEmpty, IntoItself, LineRange, OldDiffers, NoLines, TooDeep, NoMemory}
use Rattle.dm_tree.specs.Paths.{Name, Path, Under}
use Rattle.dm_tree.specs.Trees.{Lines, Dir, File, Map, HasParent, empty_file}
use Rattle.dm_tree.specs.Validity.{AnswersPath, AnswersLine}
use Rattle.dm_tree.specs.Changes.{AddAnswers, RemoveFileAnswers, RemoveDirAnswers, MayMove, RenameAnswers, InRange, ReplacesLines, EditAnswers}
use Rattle.dm_tree.specs.Laws.{fault_of_change, fault_of_names, fault_of_line, NamesHaveOneFault, LineHasOneFault, AddingHasOneAnswer, RemovingAFileHasOneAnswer, RemovingADirectoryHasOneAnswer, RenamingHasOneAnswer, EditingHasOneAnswer}

-- names and lines
names_fault_is : (o : Option PathFault) (r : Result Path PathFault) → AnswersPath r o → o ≡ fault_of_names r
names_fault_is o (Ok x) h = h
names_fault_is o (Err e) h = h

pub names_one : NamesHaveOneFault
names_one ns r s h k = sym (names_fault_is _ r h) ∙ names_fault_is _ s k

line_fault_is : (o : Option LineFault) (r : Result (Unit {0}) LineFault) → AnswersLine r o → o ≡ fault_of_line r
line_fault_is o (Ok x) h = h
line_fault_is o (Err e) h = h

pub line_one : LineHasOneFault
line_one l r s h k = sym (line_fault_is _ r h) ∙ line_fault_is _ s k

-- the fault f where C holds, and otherwise what comes after it
abbrev Else : Type 0 → TreeFault → (Option TreeFault → Type 0) → Option TreeFault → Type 0
Else C f Rest o = (C × (o ≡ Some f)) ⊎ ((C → ⊥) × Rest o)

-- an answer to a change
abbrev Answer : Type 0
Answer = Result (Unit {0}) TreeFault

-- no fault comes after
abbrev Fine : Option TreeFault → Type 0
Fine o = o ≡ None

-- at most one fault is so
abbrev IsOne : (Option TreeFault → Type 0) → Type 0
IsOne R = (o u : Option TreeFault) → R o → R u → o ≡ u

fine_one : IsOne Fine
fine_one o u h k = h ∙ sym k

else_one : (C : Type 0) (f : TreeFault) (R : Option TreeFault → Type 0) → IsOne R → IsOne (Else C f R)
else_one C f R one o u (inl h) (inl k) = h.1 ∙ sym k.1
else_one C f R one o u (inl h) (inr k) = absurd (k.0 h.0)
else_one C f R one o u (inr h) (inl k) = absurd (h.0 k.0)
else_one C f R one o u (inr h) (inr k) = one o u h.1 k.1

-- adding
module _ (m : Map) (p : Path) where
  -- why nothing may be added at p
  abbrev Add : Option TreeFault → Type 0
  Add = Else (HasParent p m → ⊥) NoParent (Else (m p ≢ None) Occupied Fine)

  add_first : (r : Answer) → AddAnswers m p r → Add (fault_of_change r)
  add_first (Ok x) h = inr (λ n. n h.0, inr (λ n. n h.1, refl))
  add_first (Err NoParent) h = inl (h, refl)
  add_first (Err Occupied) h = inr (λ n. n h.0, inl (h.1, refl))
  add_first (Err NoMemory) h = inr (λ n. n h.0, inr (λ n. n h.1, refl))
  add_first (Err e) h = absurd h

pub adding_one : AddingHasOneAnswer
adding_one m p r s h k = else_one _ _ _ (else_one _ _ _ fine_one) _ _ (add_first m p r h) (add_first m p s k)

-- removing
module _ (m : Map) (p : Path) where
  -- why the file at p may not be removed
  abbrev RemoveFile : Option TreeFault → Type 0
  RemoveFile = Else (m p ≡ None) Missing (Else (m p ≡ Some Dir) NotFile (Else (m p ≢ Some empty_file) NotEmpty Fine))

  remove_file_first : (r : Answer) → RemoveFileAnswers m p r → RemoveFile (fault_of_change r)
  remove_file_first (Ok x) h = inr (λ k. cc, inr (λ k. cc, inr (λ n. n h, refl)))
  remove_file_first (Err Missing) h = inl (h, refl)
  remove_file_first (Err NotFile) h = inr (λ k. cc, inl (h, refl))
  remove_file_first (Err NotEmpty) (ls, e, n) = inr (λ k. cc, inr (λ k. cc, inl (λ k. n (cc), refl)))
  remove_file_first (Err e) h = absurd h

  -- why the directory at p may not be removed
  abbrev RemoveDir : Option TreeFault → Type 0
  RemoveDir = Else (m p ≡ None) Missing (Else ((ls : Lines) × (m p ≡ Some (File ls))) NotDir (Else ((n : Name) × (m (p ++ n ∷ []) ≢ None)) NotEmpty Fine))

  remove_dir_first : (r : Answer) → RemoveDirAnswers m p r → RemoveDir (fault_of_change r)
  remove_dir_first (Ok x) (e, f) = inr (λ k. cc, inr (λ (ls, k). cc, inr (λ (n, k). k (f n), refl)))
  remove_dir_first (Err Missing) h = inl (h, refl)
  remove_dir_first (Err NotDir) (ls, e) = inr (λ k. cc, inl ((ls, e), refl))
  remove_dir_first (Err NotEmpty) (e, n) = inr (λ k. cc, inr (λ (ls, k). cc, inl (n, refl)))
  remove_dir_first (Err e) h = absurd h

pub removing_a_file_one : RemovingAFileHasOneAnswer
removing_a_file_one m p r s h k = else_one _ _ _ (else_one _ _ _ (else_one _ _ _ fine_one)) _ _ (remove_file_first m p r h) (remove_file_first m p s k)

pub removing_a_directory_one : RemovingADirectoryHasOneAnswer
removing_a_directory_one m p r s h k = else_one _ _ _ (else_one _ _ _ (else_one _ _ _ fine_one)) _ _ (remove_dir_first m p r h) (remove_dir_first m p s k)

-- renaming
module _ (m : Map) (a b : Path) where
  -- a path of more than 32 names would arise
  abbrev MoveDeep : Option TreeFault → Type 0
  MoveDeep = Else ((r : Path) × (m (a ++ r) ≢ None) × (32 < length (b ++ r))) TooDeep Fine

  -- why a may not be moved to b
  abbrev Rename : Option TreeFault → Type 0
  Rename = Else (m a ≡ None) Missing (Else (Under b a) IntoItself (Else (HasParent b m → ⊥) NoParent (Else (m b ≢ None) Occupied MoveDeep)))

  may : MayMove m a b → (o : Option TreeFault) → MoveDeep o → Rename o
  may k o d = inr (k.present, inr (k.not_into, inr (λ n. n k.parent_is, inr (λ n. n k.absent, d))))

  shallow : ((r : Path) → m (a ++ r) ≢ None → length (b ++ r) ≤ 32) → MoveDeep None
  shallow f = inr (λ (r, some, long). let short = f r some in omega arith, refl)

  rename_first : (r : Answer) → RenameAnswers m a b r → Rename (fault_of_change r)
  rename_first (Ok x) h = may h.0 None (shallow h.1)
  rename_first (Err Missing) h = inl (h, refl)
  rename_first (Err IntoItself) h = inr (h.0, inl (h.1, refl))
  rename_first (Err NoParent) h = inr (h.0, inr (h.1, inl (h.2, refl)))
  rename_first (Err Occupied) h = inr (h.0, inr (h.1, inr (λ n. n h.2, inl (h.3, refl))))
  rename_first (Err TooDeep) h = may h.0 (Some TooDeep) (inl (h.1, refl))
  rename_first (Err NoMemory) h = may h.0 None (shallow h.1)
  rename_first (Err e) h = absurd h

pub renaming_one : RenamingHasOneAnswer
renaming_one m a b r s h k = else_one _ _ _ (else_one _ _ _ (else_one _ _ _ (else_one _ _ _ (else_one _ _ _ fine_one)))) _ _ (rename_first m a b r h) (rename_first m a b s k)

-- editing
module _ (n : ℕ) (old new ls ls' : Lines) (e : ReplacesLines n old new ls ls') where
  count_is : length ls ≡ length e.front + (length old + length e.back)
  count_is = simp length-append at (ap length e.before)

  pub in_range : InRange n (length old) (length ls)
  in_range = (omega (arith, e.at), omega (arith, e.at, count_is))

  pub old_there : take (length old) (drop (n - 1) ls) ≡ old
  old_there = let k : n - 1 ≡ length e.front = omega (arith, e.at) in
      ap₂ (λ i x. take (length old) (drop i x)) k e.before ∙ ap (λ x. take (length old) x) (drop-append_seam e.front (old ++ e.back)) ∙ take-append_seam old e.back

  nothing : (xs : Lines) → length xs ≡ 0 → xs ≡ []
  nothing [] h = refl
  nothing (x ∷ xs) h = absurd (omega arith)

  pub some_left : ls ≡ old → new ≡ [] → ⊥
  some_left c z =
      let k : length ls ≡ length old = ap length c in
      let f : e.front ≡ [] = nothing e.front (omega (arith, k, count_is)) in
      let g : e.back ≡ [] = nothing e.back (omega (arith, k, count_is)) in
      e.left (e.after ∙ rw (f, g, z) refl)

module _ (m : Map) (p : Path) (n : ℕ) (old new : Lines) where
  -- the entry is a file, with lines of which this holds
  abbrev FileWith : (Lines → Type 0) → Type 0
  FileWith P = (ls : Lines) × (m p ≡ Some (File ls)) × P ls

  -- the old lines reach past the end, or begin at line 0
  abbrev Outside : Lines → Type 0
  Outside ls = InRange n (length old) (length ls) → ⊥

  -- other lines stand there
  abbrev Differ : Lines → Type 0
  Differ ls = take (length old) (drop (n - 1) ls) ≢ old

  -- no line would be left
  abbrev NoneLeft : Lines → Type 0
  NoneLeft ls = (ls ≡ old) × (n ≡ 1) × (new ≡ [])

  -- why the lines may not be replaced
  abbrev Edit : Option TreeFault → Type 0
  Edit = Else (m p ≡ None) Missing (Else (m p ≡ Some Dir) NotFile (Else (FileWith Outside) LineRange (Else (FileWith Differ) OldDiffers (Else (FileWith NoneLeft) NoLines Fine))))

  -- no such file, where the lines of the file are none of these
  none_such : (P : Lines → Type 0) (ls : Lines) → m p ≡ Some (File ls) → (P ls → ⊥) → FileWith P → ⊥
  none_such P ls e not (xs, i, h) = let same : xs ≡ ls = cc in not (subst P same h)

  of_file : (ls : Lines) → m p ≡ Some (File ls) → (o : Option TreeFault) → Else (FileWith Outside) LineRange (Else (FileWith Differ) OldDiffers (Else (FileWith NoneLeft) NoLines Fine)) o → Edit o
  of_file ls e o h = inr (λ k. cc, inr (λ k. cc, h))

  fits : (ls ls' : Lines) → m p ≡ Some (File ls) → ReplacesLines n old new ls ls' → Edit None
  fits ls ls' e w = of_file ls e None (inr (
    none_such Outside ls e (λ k. k (in_range n old new ls ls' w)),
    inr (none_such Differ ls e (λ k. k (old_there n old new ls ls' w)), inr (none_such NoneLeft ls e (λ k. some_left n old new ls ls' w k.0 k.2), refl)),
  ))

  edit_first : (r : Answer) → EditAnswers m p n old new r → Edit (fault_of_change r)
  edit_first (Ok x) (ls, ls', e, w) = fits ls ls' e w
  edit_first (Err Missing) h = inl (h, refl)
  edit_first (Err NotFile) h = inr (λ k. cc, inl (h, refl))
  edit_first (Err LineRange) (ls, e, out) = of_file ls e _ (inl ((ls, e, out), refl))
  edit_first (Err OldDiffers) (ls, e, r, d) = of_file ls e _ (inr (none_such Outside ls e (λ k. k r), inl ((ls, e, d), refl)))
  edit_first (Err NoLines) (ls, e, all, one, none) = of_file ls e _ (inr (
    none_such Outside ls e (λ k. k (whole_range ls all one)),
    inr (none_such Differ ls e (λ k. k (whole_there ls all one)), inl ((ls, e, (all, one, none)), refl)),
  ))
    where
      whole_range : (ls : Lines) → ls ≡ old → n ≡ 1 → InRange n (length old) (length ls)
      whole_range ls all one = let k : length ls ≡ length old = ap length all in (omega arith, omega arith)

      whole_there : (ls : Lines) → ls ≡ old → n ≡ 1 → take (length old) (drop (n - 1) ls) ≡ old
      whole_there ls all one = rw (all, one) (take_all (length old) old (omega arith))
  edit_first (Err NoMemory) (ls, ls', e, w) = fits ls ls' e w
  edit_first (Err e) h = absurd h

pub editing_one : EditingHasOneAnswer
editing_one m p n old new r s h k = else_one _ _ _ (else_one _ _ _ (else_one _ _ _ (else_one _ _ _ (else_one _ _ _ fine_one)))) _ _ (edit_first m p n old new r h) (edit_first m p n old new s k)
