-- From what the tree's calls promise to what applying a primitive does.
use Rattle.std.proofs.Common.{◌≡◌, ◌≢◌, ℕ, ◌+◌, ◌-◌, ◌<◌, true, false, cond, List, [], ◌∷◌, ◌++◌, take, drop, length, get_or, Option, Some, None, Result, Ok, Err, OnOk, OnErr, ◌⊎◌, inl, inr, refl, sym, ap, subst, ◌∙◌, append_assoc, append-nil, length-append, arith}
use Rattle.std.proofs.lemmas.Bool.{cases_Bool}
use Rattle.std.proofs.lemmas.List.{take_all}
use Rattle.std.specs.FinMap as map
use Rattle.std.specs.Ordering.{eq_by_cmp}
use Rattle.dm_tree.specs.declared.fault.TreeFault.{TreeFault}
use Rattle.dm_tree.specs.declared.fault.TreeFault.TheVariants.{NoParent, Occupied, Missing, NotFile, NotDir, NotEmpty, IntoItself, LineRange, OldDiffers, NoLines, TokenThere, TooLarge, TooDeep, NoMemory}
use Rattle.dm_tree.specs.Paths.{Path, Apart}
use Rattle.dm_tree.specs.Trees.{Lines, Entry, Dir, File, Map, Tree, path_cmp, IsLawful, Deep, empty_file}
use Rattle.dm_tree.specs.Changes.{AddAnswers, RemoveFileAnswers, RemoveDirAnswers, MayMove, RenameAnswers, Renamed, ReplacesLines, EditAnswers, Edited}
use Rattle.dm_tree.specs.Listings.{file_size}
use Rattle.dm_tree.proofs.Paths.{swap, swap-right}
use Rattle.dm_tree.proofs.Trees.{path_total, equal_by}
use Rattle.dm_tree.proofs.MoveLemmas.{self_equal}
use Rattle.dm_tree.proofs.OneAnswer.{in_range, old_there, some_left}
use Rattle.dm_prim.specs.InTurn.{InTurn, done, step}
use Rattle.dm_prim.specs.Primitives.{AddFile, RmFile, AddDir, RmDir, Hunk, Binary, Replace, Prim, At, Move, Applies, TurnsLines}
use Rattle.dm_prim.specs.Limits.{TurnsLarge, IsPastLimits}
use Rattle.dm_prim.specs.Prims.{prim_of, prims_of}
use Rattle.dm_prim.specs.Applying.{AdmitsFault, Applied, BinaryAnswers, ReplaceAnswers, TurnsWithin, FaultsAs, AppliesToTree, AppliedAll}
use Rattle.dm_prim.specs.declared.primitive.Primitive as code
use Rattle.dm_prim.proofs.Maps.{below_absent, moves_from}
use Rattle.dm_prim.proofs.TurnedLines.{grown, no_new_token, turned_one}
use Rattle.dm_prim.proofs.ListLemmas.{prims_more, parted}
use Rattle.dm_prim.proofs.RectangleLemmas.{runs_on}

-- finite maps at one path, and elsewhere
put_here : (t : Tree) (p : Path) (x : Entry) → map.get (map.insert t p x) p ≡ Some x
put_here t p x = map.get-insert path_total t p x p ∙ ap (λ b. cond b (Some x) (map.get t p)) (self_equal p)

put_else : (t : Tree) (p : Path) (x : Entry) (q : Path) → q ≢ p → map.get (map.insert t p x) q ≡ map.get t q
put_else t p x q n = map.get-insert path_total t p x q ∙ go (cases_Bool (eq_by_cmp path_cmp q p))
  where
    go : (eq_by_cmp path_cmp q p ≡ true) ⊎ (eq_by_cmp path_cmp q p ≡ false) → cond (eq_by_cmp path_cmp q p) (Some x) (map.get t q) ≡ map.get t q
    go (inl e) = absurd (n (equal_by q p e))
    go (inr e) = ap (λ b. cond b (Some x) (map.get t q)) e

cut_here : (t : Tree) (p : Path) → map.get (map.remove t p) p ≡ None
cut_here t p = map.get-remove path_total t p p ∙ ap (λ b. cond b None (map.get t p)) (self_equal p)

cut_else : (t : Tree) (p : Path) (q : Path) → q ≢ p → map.get (map.remove t p) q ≡ map.get t q
cut_else t p q n = map.get-remove path_total t p q ∙ go (cases_Bool (eq_by_cmp path_cmp q p))
  where
    go : (eq_by_cmp path_cmp q p ≡ true) ⊎ (eq_by_cmp path_cmp q p ≡ false) → cond (eq_by_cmp path_cmp q p) None (map.get t q) ≡ map.get t q
    go (inl e) = absurd (n (equal_by q p e))
    go (inr e) = ap (λ b. cond b None (map.get t q)) e

-- adding
module _ (t t' : Tree) (p : Path) where
  pub adds_file : {T : Type 0} (r : Result T TreeFault) → AddAnswers (map.get t) p r → OnOk r (t' ≡ map.insert t p empty_file) → OnErr r (t' ≡ t) → Applied (At p AddFile) t t' r
  adds_file (Ok x) f ok err = record { around = f.0; here = (f.1, rw ok (put_here t p empty_file)); elsewhere = λ q n. rw ok (put_else t p empty_file q n) }
  adds_file (Err NoParent) f ok err = (err, λ m' a. f a.around)
  adds_file (Err Occupied) f ok err = (err, λ m' a. f.1 a.here.0)
  adds_file (Err Missing) f ok err = absurd f
  adds_file (Err NotFile) f ok err = absurd f
  adds_file (Err NotDir) f ok err = absurd f
  adds_file (Err NotEmpty) f ok err = absurd f
  adds_file (Err IntoItself) f ok err = absurd f
  adds_file (Err LineRange) f ok err = absurd f
  adds_file (Err OldDiffers) f ok err = absurd f
  adds_file (Err NoLines) f ok err = absurd f
  adds_file (Err TokenThere) f ok err = absurd f
  adds_file (Err TooLarge) f ok err = absurd f
  adds_file (Err TooDeep) f ok err = absurd f
  adds_file (Err NoMemory) f ok err = (err, tt)

  pub adds_dir : {T : Type 0} (r : Result T TreeFault) → AddAnswers (map.get t) p r → OnOk r (t' ≡ map.insert t p Dir) → OnErr r (t' ≡ t) → Applied (At p AddDir) t t' r
  adds_dir (Ok x) f ok err = record { around = f.0; here = (f.1, rw ok (put_here t p Dir)); elsewhere = λ q n. rw ok (put_else t p Dir q n) }
  adds_dir (Err NoParent) f ok err = (err, λ m' a. f a.around)
  adds_dir (Err Occupied) f ok err = (err, λ m' a. f.1 a.here.0)
  adds_dir (Err Missing) f ok err = absurd f
  adds_dir (Err NotFile) f ok err = absurd f
  adds_dir (Err NotDir) f ok err = absurd f
  adds_dir (Err NotEmpty) f ok err = absurd f
  adds_dir (Err IntoItself) f ok err = absurd f
  adds_dir (Err LineRange) f ok err = absurd f
  adds_dir (Err OldDiffers) f ok err = absurd f
  adds_dir (Err NoLines) f ok err = absurd f
  adds_dir (Err TokenThere) f ok err = absurd f
  adds_dir (Err TooLarge) f ok err = absurd f
  adds_dir (Err TooDeep) f ok err = absurd f
  adds_dir (Err NoMemory) f ok err = (err, tt)

-- removing
module _ (m m' : Map) (p : Path) where
  file_gone : m p ≡ None → Applies (At p RmFile) m m' → ⊥
  file_gone h a = let k : m p ≡ Some empty_file = a.here.0 in cc

  file_dir : m p ≡ Some Dir → Applies (At p RmFile) m m' → ⊥
  file_dir h a = let k : m p ≡ Some empty_file = a.here.0 in cc

  file_full : (ls : Lines) → m p ≡ Some (File ls) → (ls ≢ [] ∷ []) → Applies (At p RmFile) m m' → ⊥
  file_full ls h n a = let k : m p ≡ Some empty_file = a.here.0 in n (cc)

  dir_gone : m p ≡ None → Applies (At p RmDir) m m' → ⊥
  dir_gone h a = let k : m p ≡ Some Dir = a.here.0 in cc

  dir_file : (ls : Lines) → m p ≡ Some (File ls) → Applies (At p RmDir) m m' → ⊥
  dir_file ls h a = let k : m p ≡ Some Dir = a.here.0 in cc

module _ (t t' : Tree) (p : Path) where
  pub removes_file : {T : Type 0} (r : Result T TreeFault) → RemoveFileAnswers (map.get t) p r → OnOk r (t' ≡ map.remove t p) → OnErr r (t' ≡ t) → Applied (At p RmFile) t t' r
  removes_file (Ok x) f ok err = record { around = tt; here = (f, rw ok (cut_here t p)); elsewhere = λ q n. rw ok (cut_else t p q n) }
  removes_file (Err NoParent) f ok err = absurd f
  removes_file (Err Occupied) f ok err = absurd f
  removes_file (Err Missing) f ok err = (err, λ m' a. file_gone (map.get t) m' p f a)
  removes_file (Err NotFile) f ok err = (err, λ m' a. file_dir (map.get t) m' p f a)
  removes_file (Err NotDir) f ok err = absurd f
  removes_file (Err NotEmpty) f ok err = (err, λ m' a. file_full (map.get t) m' p f.0 f.1 f.2 a)
  removes_file (Err IntoItself) f ok err = absurd f
  removes_file (Err LineRange) f ok err = absurd f
  removes_file (Err OldDiffers) f ok err = absurd f
  removes_file (Err NoLines) f ok err = absurd f
  removes_file (Err TokenThere) f ok err = absurd f
  removes_file (Err TooLarge) f ok err = absurd f
  removes_file (Err TooDeep) f ok err = absurd f
  removes_file (Err NoMemory) f ok err = absurd f

  pub removes_dir : {T : Type 0} (r : Result T TreeFault) → IsLawful (map.get t) → RemoveDirAnswers (map.get t) p r → OnOk r (t' ≡ map.remove t p) → OnErr r (t' ≡ t) → Applied (At p RmDir) t t' r
  removes_dir (Ok x) l f ok err = record {
    around = λ n r. subst (λ q. map.get t q ≡ None) (append_assoc p (n ∷ []) r) (below_absent (map.get t) l r (p ++ n ∷ []) (f.1 n));
    here = (f.0, rw ok (cut_here t p));
    elsewhere = λ q n. rw ok (cut_else t p q n);
  }
  removes_dir (Err NoParent) l f ok err = absurd f
  removes_dir (Err Occupied) l f ok err = absurd f
  removes_dir (Err Missing) l f ok err = (err, λ m' a. dir_gone (map.get t) m' p f a)
  removes_dir (Err NotFile) l f ok err = absurd f
  removes_dir (Err NotDir) l f ok err = (err, λ m' a. dir_file (map.get t) m' p f.0 f.1 a)
  removes_dir (Err NotEmpty) l f ok err = (err, λ m' a. f.1.1 (a.around f.1.0 []))
  removes_dir (Err IntoItself) l f ok err = absurd f
  removes_dir (Err LineRange) l f ok err = absurd f
  removes_dir (Err OldDiffers) l f ok err = absurd f
  removes_dir (Err NoLines) l f ok err = absurd f
  removes_dir (Err TokenThere) l f ok err = absurd f
  removes_dir (Err TooLarge) l f ok err = absurd f
  removes_dir (Err TooDeep) l f ok err = absurd f
  removes_dir (Err NoMemory) l f ok err = absurd f

-- renaming
module _ (m : Map) (a b : Path) (l : IsLawful m) (k : MayMove m a b) where
  apart_of : Apart a b
  apart_of = record { left = λ u. k.present (subst (λ p. m p ≡ None) (sym u.1) (below_absent m l u.0 b k.absent)); right = k.not_into }

  abbrev pub moved_map : Map
  moved_map p = m (swap a b p)

  would_move : Applies (Move a b) m moved_map
  would_move = moves_from a b m moved_map l (record { apart = apart_of; present = k.present; absent = k.absent; parent = k.parent_is; is = λ p. refl })

  would_be_deep : (r : Path) → m (a ++ r) ≢ None → 32 < length (b ++ r) → Deep moved_map
  would_be_deep r n d = (b ++ r, d, λ e. n (ap m (sym (swap-right a b r apart_of)) ∙ e))

module _ (t t' : Tree) (a b : Path) (l : IsLawful (map.get t)) where
  pub renames : {T : Type 0} (r : Result T TreeFault) → RenameAnswers (map.get t) a b r → OnOk r (Renamed a b (map.get t) (map.get t')) → OnErr r (t' ≡ t) → Applied (Move a b) t t' r
  renames (Ok x) f ok err = (f.0, ok)
  renames (Err NoParent) f ok err = (err, λ m' h. f.2 h.0.parent_is)
  renames (Err Occupied) f ok err = (err, λ m' h. f.3 h.0.absent)
  renames (Err Missing) f ok err = (err, λ m' h. h.0.present f)
  renames (Err NotFile) f ok err = absurd f
  renames (Err NotDir) f ok err = absurd f
  renames (Err NotEmpty) f ok err = absurd f
  renames (Err IntoItself) f ok err = (err, λ m' h. h.0.not_into f.1)
  renames (Err LineRange) f ok err = absurd f
  renames (Err OldDiffers) f ok err = absurd f
  renames (Err NoLines) f ok err = absurd f
  renames (Err TokenThere) f ok err = absurd f
  renames (Err TooLarge) f ok err = absurd f
  renames (Err TooDeep) f ok err = (err, (moved_map (map.get t) a b l f.0, would_move (map.get t) a b l f.0, would_be_deep (map.get t) a b l f.0 f.1.0 f.1.1 f.1.2))
  renames (Err NoMemory) f ok err = (err, tt)

-- editing
module _ (m : Map) (p : Path) (n : ℕ) (old new : Lines) where
  same_lines : (o : Option Entry) (xs ys : Lines) → o ≡ Some (File xs) → o ≡ Some (File ys) → xs ≡ ys
  same_lines o xs ys h k = let z : Some (File xs) ≡ Some (File ys) = sym h ∙ k in cc

  edit_gone : m p ≡ None → (m' : Map) → Applies (At p (Hunk n old new)) m m' → ⊥
  edit_gone h m' a = let k = a.here.2 in cc

  edit_dir : m p ≡ Some Dir → (m' : Map) → Applies (At p (Hunk n old new)) m m' → ⊥
  edit_dir h m' a = let k = a.here.2 in cc

  edit_of : (ls : Lines) → m p ≡ Some (File ls) → (m' : Map) → Applies (At p (Hunk n old new)) m m' → (ls' : Lines) × ReplacesLines n old new ls ls'
  edit_of ls h m' a = (a.here.1, subst (λ x. ReplacesLines n old new x a.here.1) (same_lines (m p) a.here.0 ls a.here.2 h) a.here.4)

module _ (t t' : Tree) (p : Path) (n : ℕ) (old new : Lines) where
  edited : (m' : Map) (ls : Lines) → map.get t p ≡ Some (File ls) → Applies (At p (Hunk n old new)) (map.get t) m' → (ls' : Lines) × ReplacesLines n old new ls ls'
  edited m' ls h a = edit_of (map.get t) p n old new ls h m' a

  pub edits : {T : Type 0} (r : Result T TreeFault) → EditAnswers (map.get t) p n old new r → OnOk r (Edited p n old new t t') → OnErr r (t' ≡ t) → Applied (At p (Hunk n old new)) t t' r
  edits (Ok x) f ok err = record {
    around = tt;
    here = (ok.0, ok.1, ok.2, rw ok.4 (put_here t p (File ok.1)), ok.3);
    elsewhere = λ q h. rw ok.4 (put_else t p (File ok.1) q h);
  }
  edits (Err NoParent) f ok err = absurd f
  edits (Err Occupied) f ok err = absurd f
  edits (Err Missing) f ok err = (err, λ m' a. edit_gone (map.get t) p n old new f m' a)
  edits (Err NotFile) f ok err = (err, λ m' a. edit_dir (map.get t) p n old new f m' a)
  edits (Err NotDir) f ok err = absurd f
  edits (Err NotEmpty) f ok err = absurd f
  edits (Err IntoItself) f ok err = absurd f
  edits (Err LineRange) f ok err = (err, λ m' a. let e = edited m' f.0 f.1 a in f.2 (in_range n old new f.0 e.0 e.1))
  edits (Err OldDiffers) f ok err = (err, λ m' a. let e = edited m' f.0 f.1 a in f.3 (old_there n old new f.0 e.0 e.1))
  edits (Err NoLines) f ok err = (err, λ m' a. let e = edited m' f.0 f.1 a in some_left n old new f.0 e.0 e.1 f.2 f.4)
  edits (Err TokenThere) f ok err = absurd f
  edits (Err TooLarge) f ok err = absurd f
  edits (Err TooDeep) f ok err = absurd f
  edits (Err NoMemory) f ok err = (err, tt)

-- replacing all lines
nothing : (xs : Lines) → length xs ≡ 0 → xs ≡ []
nothing [] h = refl
nothing (x ∷ xs) h = absurd (omega arith)

same_count : (a b : ℕ) → (a ≢ b → ⊥) → a ≡ b
same_count a b h = grind arith

-- a file stands there that has another count of lines
abbrev pub OtherCount : Map → Path → Lines → Type 0
OtherCount m p old = (ls : Lines) × (m p ≡ Some (File ls)) × (length ls ≢ length old)

module _ (m : Map) (p : Path) (old new : Lines) where
  binary_gone : m p ≡ None → (m' : Map) → Applies (At p (Binary old new)) m m' → ⊥
  binary_gone h m' a = let k : m p ≡ Some (File old) = a.here.0 in cc

  binary_dir : m p ≡ Some Dir → (m' : Map) → Applies (At p (Binary old new)) m m' → ⊥
  binary_dir h m' a = let k : m p ≡ Some (File old) = a.here.0 in cc

  binary_differs : (ls : Lines) → m p ≡ Some (File ls) → ls ≢ old → (m' : Map) → Applies (At p (Binary old new)) m m' → ⊥
  binary_differs ls h n m' a = let k : m p ≡ Some (File old) = a.here.0 in n (cc)

  -- in a file of as many lines, an edit at the first line replaces all of them
  whole : (ls ls' : Lines) → length ls ≡ length old → ReplacesLines 1 old new ls ls' → (ls ≡ old) × (ls' ≡ new)
  whole ls ls' n e =
      let c : length ls ≡ length e.front + (length old + length e.back) = simp length-append at (ap length e.before) in
      let f : e.front ≡ [] = nothing e.front (omega (arith, e.at)) in
      let g : e.back ≡ [] = nothing e.back (omega arith) in
      (e.before ∙ rw (f, g) (append-nil old), e.after ∙ rw (f, g) (append-nil new))

  all_taken : (ls : Lines) → ls ≡ old → take (length old) (drop (1 - 1) ls) ≡ old
  all_taken ls e = rw e (take_all (length old) old (omega arith))

  module _ (some : new ≢ []) (same : OtherCount m p old → ⊥) where
    counted : (ls : Lines) → m p ≡ Some (File ls) → length ls ≡ length old
    counted ls e = same_count (length ls) (length old) (λ n. same (ls, e, n))

    there : (ls ls' : Lines) → m p ≡ Some (File ls) → ReplacesLines 1 old new ls ls' → m p ≡ Some (File old)
    there ls ls' e r = e ∙ ap (λ x. Some (File x)) (whole ls ls' (counted ls e) r).0

    -- what an edit of all lines answers, a binary answers
    pub replaces_as : {T : Type 0} (r : Result T TreeFault) → EditAnswers m p 1 old new r → BinaryAnswers m p old r
    replaces_as (Ok x) f = there f.0 f.1 f.2 f.3
    replaces_as (Err NoParent) f = absurd f
    replaces_as (Err Occupied) f = absurd f
    replaces_as (Err Missing) f = f
    replaces_as (Err NotFile) f = f
    replaces_as (Err NotDir) f = absurd f
    replaces_as (Err NotEmpty) f = absurd f
    replaces_as (Err IntoItself) f = absurd f
    replaces_as (Err LineRange) f = let n = counted f.0 f.1 in absurd (f.2 (omega arith, omega arith))
    replaces_as (Err OldDiffers) f = (f.0, f.1, λ e. f.3 (all_taken f.0 e))
    replaces_as (Err NoLines) f = absurd (some f.4)
    replaces_as (Err TokenThere) f = absurd f
    replaces_as (Err TooLarge) f = absurd f
    replaces_as (Err TooDeep) f = absurd f
    replaces_as (Err NoMemory) f = there f.0 f.1 f.2 f.3

module _ (t t' : Tree) (p : Path) (old new : Lines) where
  -- a file of another count of lines
  pub refuses_count : OtherCount (map.get t) p old → t' ≡ t → (T : Type 0) → Applied {T = T} (At p (Binary old new)) t t' (Err OldDiffers)
  refuses_count (ls, h, n) e T = (e, λ m' a. binary_differs (map.get t) p old new ls h (λ k. n (ap length k)) m' a)

  pub refuses_as : OtherCount (map.get t) p old → (T : Type 0) → FaultsAs {T = T} (At p (Binary old new)) (map.get t) (Err OldDiffers)
  refuses_as (ls, h, n) T = (ls, h, λ k. n (ap length k))

  pub replaces : {T : Type 0} (r : Result T TreeFault) → new ≢ [] → (OtherCount (map.get t) p old → ⊥) → EditAnswers (map.get t) p 1 old new r → OnOk r (Edited p 1 old new t t') → OnErr r (t' ≡ t) → Applied (At p (Binary old new)) t t' r
  replaces (Ok x) some same f ok err =
      let w = whole (map.get t) p old new ok.0 ok.1 (counted (map.get t) p old new some same ok.0 ok.2) ok.3 in record {
        around = tt;
        here = (there (map.get t) p old new some same ok.0 ok.1 ok.2 ok.3, rw ok.4 (put_here t p (File ok.1) ∙ ap (λ x. Some (File x)) w.1), some);
        elsewhere = λ q h. rw ok.4 (put_else t p (File ok.1) q h);
      }
  replaces (Err Missing) some same f ok err = (err, λ m' a. binary_gone (map.get t) p old new f m' a)
  replaces (Err NotFile) some same f ok err = (err, λ m' a. binary_dir (map.get t) p old new f m' a)
  replaces (Err OldDiffers) some same f ok err = let d = replaces_as (map.get t) p old new some same {T = Unit {0}} (Err OldDiffers) f in (err, λ m' a. binary_differs (map.get t) p old new d.0 d.1 d.2 m' a)
  replaces (Err NoMemory) some same f ok err = (err, tt)
  replaces (Err LineRange) some same f ok err = absurd (replaces_as (map.get t) p old new some same {T = Unit {0}} (Err LineRange) f)
  replaces (Err NoLines) some same f ok err = absurd (some f.4)
  replaces (Err TokenThere) some same f ok err = absurd f
  replaces (Err TooLarge) some same f ok err = absurd f
  replaces (Err NoParent) some same f ok err = absurd f
  replaces (Err Occupied) some same f ok err = absurd f
  replaces (Err NotDir) some same f ok err = absurd f
  replaces (Err NotEmpty) some same f ok err = absurd f
  replaces (Err IntoItself) some same f ok err = absurd f
  replaces (Err TooDeep) some same f ok err = absurd f

module _ (m : Map) (p : Path) (set old new : List ℕ) where
  -- why a replace is refused
  pub turn_refused : (T : Type 0) (e : TreeFault) → ReplaceAnswers {T = T} m p set old new (Err e) → AdmitsFault (At p (Replace set old new)) m e
  turn_refused T Missing f = λ m' a. let k : m p ≡ Some (File a.here.0) = a.here.2 in cc
  turn_refused T NotFile f = λ m' a. let k : m p ≡ Some (File a.here.0) = a.here.2 in cc
  turn_refused T TokenThere (ls, e, small, h) = λ m' a.
      let k : m p ≡ Some (File a.here.0) = a.here.2 in
      let same : a.here.0 ≡ ls = cc in
      no_new_token set old new ls a.here.1 h (subst (λ z. TurnsLines set old new z a.here.1) same a.here.4)
  turn_refused T TooLarge (ls, e, h) = λ m' a.
      let k : m p ≡ Some (File a.here.0) = a.here.2 in
      let same : a.here.0 ≡ ls = cc in
      let turns = subst (λ z. TurnsLines set old new z a.here.1) same a.here.4 in
      elim h [ inl large ↦ inl (ls, e, large) | inr grows ↦ inr (a.here.1, a.here.3, grown set old new ls a.here.1 grows.1 turns) ]
  turn_refused T NoMemory f = tt
  turn_refused T NoParent f = absurd f
  turn_refused T Occupied f = absurd f
  turn_refused T NotDir f = absurd f
  turn_refused T NotEmpty f = absurd f
  turn_refused T IntoItself f = absurd f
  turn_refused T LineRange f = absurd f
  turn_refused T OldDiffers f = absurd f
  turn_refused T NoLines f = absurd f
  turn_refused T TooDeep f = absurd f

  -- an edit of all lines of the file, to what they turn to
  module _ (xs ys : Lines) (file : m p ≡ Some (File xs)) (turned : TurnsWithin set old new xs ys) where
    lines_are : (ls : Lines) → m p ≡ Some (File ls) → ls ≡ xs
    lines_are ls e = cc

    pub turn_answers : {T : Type 0} (r : Result T TreeFault) → EditAnswers m p 1 xs ys r → ReplaceAnswers m p set old new r
    turn_answers (Ok x) f = (xs, ys, file, turned)
    turn_answers (Err NoMemory) f = (xs, ys, file, turned)
    turn_answers (Err Missing) f = f
    turn_answers (Err NotFile) f = f
    turn_answers (Err LineRange) f = let n : length f.0 ≡ length xs = ap length (lines_are f.0 f.1) in absurd (f.2 (omega arith, omega arith))
    turn_answers (Err OldDiffers) f = absurd (f.3 (all_taken m p xs ys f.0 (lines_are f.0 f.1)))
    turn_answers (Err NoLines) f = absurd (turned.turns.left f.4)
    turn_answers (Err TokenThere) f = absurd f
    turn_answers (Err TooLarge) f = absurd f
    turn_answers (Err NoParent) f = absurd f
    turn_answers (Err Occupied) f = absurd f
    turn_answers (Err NotDir) f = absurd f
    turn_answers (Err NotEmpty) f = absurd f
    turn_answers (Err IntoItself) f = absurd f
    turn_answers (Err TooDeep) f = absurd f

module _ (t t' : Tree) (p : Path) (set old new : List ℕ) where
  -- each line stays as it is
  pub turns_nothing : (ls : Lines) → map.get t p ≡ Some (File ls) → TurnsWithin set old new ls ls → t' ≡ t → Applies (At p (Replace set old new)) (map.get t) (map.get t')
  turns_nothing ls e h same = record { around = tt; here = (ls, ls, e, ap (λ z. map.get z p) same ∙ e, h.turns); elsewhere = λ q n. ap (λ z. map.get z q) same }

  pub turns_file : {T : Type 0} (r : Result T TreeFault) (xs ys : Lines) → map.get t p ≡ Some (File xs) → TurnsWithin set old new xs ys →
      EditAnswers (map.get t) p 1 xs ys r → OnOk r (Edited p 1 xs ys t t') → OnErr r (t' ≡ t) → Applied (At p (Replace set old new)) t t' r
  turns_file (Ok x) xs ys e h f (ls, ls', i, w, made) err =
      let same : ls ≡ xs = cc in
      let all = whole (map.get t) p xs ys ls ls' (ap length same) w in record {
        around = tt;
        here = (xs, ys, e, rw made (put_here t p (File ls') ∙ ap (λ x. Some (File x)) all.1), h.turns);
        elsewhere = λ q n. rw made (put_else t p (File ls') q n);
      }
  turns_file {T} (Err x) xs ys e h f ok err = (err, turn_refused (map.get t) p set old new T x (turn_answers (map.get t) p set old new xs ys e h {T = T} (Err x) f))

-- what was answered Ok went past no limit
turns_within : {T : Type 0} (p : Prim) (m m' : Map) (x : T) → FaultsAs p m (Ok x) → Applies p m m' → TurnsLarge p m m' → ⊥
turns_within (At p (Replace set old new)) m m' x (ls, ls', e, t) a (inl (xs, i, large)) =
    let same : xs ≡ ls = cc in
    let size : file_size xs ≡ file_size ls = ap file_size same in
    omega (arith, size, large, t.was_small)
turns_within (At p (Replace set old new)) m m' x (ls, ls', e, t) a (inr (xs, i, large)) =
    let k : m p ≡ Some (File a.here.0) = a.here.2 in
    let j : m' p ≡ Some (File a.here.1) = a.here.3 in
    let was : a.here.0 ≡ ls = cc in
    let one : a.here.1 ≡ ls' = turned_one set old new ls a.here.1 ls' (subst (λ z. TurnsLines set old new z a.here.1) was a.here.4) t.turns in
    let same : xs ≡ ls' = cc in
    let size : file_size xs ≡ file_size ls' = ap file_size same in
    omega (arith, size, large, t.is_small)
turns_within p m m' x f a h = absurd h

pub past_none : {T : Type 0} (p : Prim) (m m' : Map) (x : T) → FaultsAs p m (Ok x) → Applies p m m' → (Deep m' → ⊥) → IsPastLimits p m m' → ⊥
past_none p m m' x f a d (inl deep) = d deep
past_none p m m' x f a d (inr large) = turns_within p m m' x f a large

-- a list
module _ {Y : Type 0} (prims : List (code.Primitive Y)) (i : ℕ) (p : code.Primitive Y) (l : i < length prims) (e : p ≡ get_or prims i p) where
  pub one_more : {T : Type 0} (x : T) (r : Result T TreeFault) (t u z : Tree) → r ≡ Ok x → Applied (prim_of p) u z r → FaultsAs (prim_of p) (map.get u) r → (Deep (map.get z) → ⊥) →
      InTurn AppliesToTree (take i (prims_of prims)) t u → InTurn AppliesToTree (take (i + 1) (prims_of prims)) t z
  one_more {T} x r t u z is a h d k =
      let made = rw is at a in
      let few = past_none (prim_of p) (map.get u) (map.get z) x (subst (FaultsAs {T = T} (prim_of p) (map.get u)) is h) made d in
      rw (prims_more prims i p l e) (runs_on Prim Tree AppliesToTree k (step (made, few) done))

  pub stops_at : {T : Type 0} (f : TreeFault) (r : Result T TreeFault) (t u z : Tree) → r ≡ Err f → Applied (prim_of p) u z r → FaultsAs (prim_of p) (map.get u) r → InTurn AppliesToTree (take i (prims_of prims)) t u →
      AppliedAll {T = T} (prims_of prims) t z (Err (i, f))
  stops_at {T} f r t u z is a h k = let b = rw is at a in
      (prim_of p, drop (i + 1) (prims_of prims), parted prims i p l e, rw b.0 k, rw b.0 b.1, subst (λ x. FaultsAs {T = T} (prim_of p) (map.get x) (Err f)) (sym b.0) (subst (λ x. FaultsAs {T = T} (prim_of p) (map.get u) x) is h))
