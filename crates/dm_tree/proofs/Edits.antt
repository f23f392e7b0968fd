-- What an edit of a file's lines does to a list of children, and to the map.
use Rattle.std.proofs.Common.{◌≡◌, ◌≢◌, ℕ, ◌+◌, ◌-◌, ◌<◌, ◌≤◌, List, [], ◌∷◌, ◌++◌, length, take, drop, set, Option, Some, None, Result, Ok, Err, OnOk, OnErr, cond, refl, sym, ap, subst, ◌∙◌, arith, append-nil, append_assoc, length-append, take-append-drop}
use Rattle.std.specs.List.{splice}
use Rattle.std.specs.Ordering.{eq_by_cmp}
use Rattle.std.proofs.lemmas.List.{length-take-le, take_at}
use Rattle.std.proofs.lemmas.List.Prefix.{front_rest}
use Rattle.dm_tree.specs.Paths.{Name, Path}
use Rattle.dm_tree.specs.declared.fault.TreeFault.{TreeFault}
use Rattle.dm_tree.specs.declared.fault.TreeFault.TheVariants.{NoParent, Occupied, Missing, NotFile, NotDir, NotEmpty, IntoItself, LineRange, OldDiffers, NoLines, TokenThere, TooLarge, TooDeep, NoMemory}
use Rattle.dm_tree.specs.Trees.{Lines, Dir, File, Map, path_cmp}
use Rattle.dm_tree.specs.Changes.{ReplacesLines, EditAnswers}
use Rattle.dm_tree.specs.Children.{Child, IsRising, IsAt, IsTree, look}
use Rattle.dm_tree.specs.Walks.{SetsAt, RefusesEdit, CanSplice, spliced}
use Rattle.dm_tree.proofs.Trees.{cases_at}
use Rattle.dm_tree.proofs.Children.{child_at, look_in, find-flatten, child_at-set, rising-set, sets_at-child}
use Rattle.dm_tree.proofs.Adds.{dir_child, leaf_child, sets_dir}
use Rattle.dm_tree.proofs.Steps.{Opened, look_dir}

pub look_here : (n : Name) (ks : List Child) (m : Name) (ls : Lines) (p rest : Path) → IsRising ks → child_at n ks ≡ Some (leaf_child m (File ls)) → p ≡ n ∷ rest → rest ≡ [] → look ks p ≡ Some (File ls)
look_here n ks m ls p rest r seen is none = ap (look ks) (is ∙ ap (λ q. n ∷ q) none) ∙ find-flatten ks r n [] ∙ ap (λ x. look_in x []) seen

pub sets_text : (n : Name) (ks : List Child) (i : ℕ) (m : Name) (ls new : Lines) → IsRising ks → IsAt n ks i → m ≡ n → child_at n ks ≡ Some (leaf_child m (File ls)) → SetsAt (look ks) (look (set ks i (leaf_child m (File new)))) (n ∷ []) (Some (File new))
sets_text n ks i m ls new r at same seen =
    sets_at-child ks (set ks i (leaf_child m (File new))) n (Some (leaf_child m (File new))) [] (Some (File new)) r (rising-set n ks i (leaf_child m (File new)) r at same) (child_at-set n ks i (leaf_child m (File new)) at same) leafs
  where
    leafs : (q : Path) → look_in (Some (leaf_child m (File new))) q ≡ cond (eq_by_cmp path_cmp q []) (Some (File new)) (look_in (child_at n ks) q)
    leafs [] = refl
    leafs (x ∷ q) = ap (λ z. look_in z (x ∷ q)) (sym seen)

module _ (ks : List Child) (p : Path) (i j : ℕ) (fresh : Lines) where
  pub spliced_text : (n : Name) (at : ℕ) (m : Name) (ls new : Lines) (rest : Path) → IsRising ks → IsAt n ks at → m ≡ n → child_at n ks ≡ Some (leaf_child m (File ls)) → p ≡ n ∷ rest → rest ≡ [] → new ≡ splice ls i j fresh → SetsAt (look ks) (look (set ks at (leaf_child m (File new)))) p (spliced (look ks p) i j fresh)
  spliced_text n at m ls new rest r a same seen is none e =
      let what : Some (File new) ≡ spliced (look ks p) i j fresh = ap (λ (l : Lines). Some (File l)) e ∙ sym (ap (λ o. spliced o i j fresh) (look_here n ks m ls p rest r seen is none)) in
      subst (λ w. SetsAt (look ks) (look (set ks at (leaf_child m (File new)))) p w) what
      (subst (λ x. SetsAt (look ks) (look (set ks at (leaf_child m (File new)))) x (Some (File new))) (sym (is ∙ ap (λ q. n ∷ q) none)) (sets_text n ks at m ls new r a same seen))

  pub spliced_dir : (n : Name) (at : ℕ) (m : Name) (inner inner' : List Child) (rest : Path) → IsRising ks → Opened n ks at m inner → p ≡ n ∷ rest → SetsAt (look inner) (look inner') rest (spliced (look inner rest) i j fresh) → SetsAt (look ks) (look (set ks at (dir_child m inner'))) p (spliced (look ks p) i j fresh)
  spliced_dir n at m inner inner' rest r o is s =
      subst (λ w. SetsAt (look ks) (look (set ks at (dir_child m inner'))) p w) (sym (ap (λ x. spliced x i j fresh) (look_dir n ks at m inner p rest r o is)))
      (subst (λ x. SetsAt (look ks) (look (set ks at (dir_child m inner'))) x (spliced (look inner rest) i j fresh)) (sym is) (sets_dir ks r n at m inner inner' o.at o.same o.seen rest (spliced (look inner rest) i j fresh) s))

pub still_lines : {E : Type 0} (r : Result (Unit {0}) E) (ls new all : Lines) → OnOk r (new ≡ all) → OnErr r (new ≡ ls) → 0 < length all → 0 < length ls → 0 < length new
still_lines (Ok x) ls new all ok err some had = subst (λ (l : Lines). 0 < length l) (sym ok) some
still_lines (Err x) ls new all ok err some had = subst (λ (l : Lines). 0 < length l) (sym err) had

-- the old lines stand at line n
abbrev pub Stand : ℕ → Lines → Lines → Type 0
Stand n old ls = (r : Lines) × (drop (n - 1) ls ≡ old ++ r)

module _ (ls : Lines) (n : ℕ) (old new : Lines) (some : 0 < n) (within : n - 1 ≤ length ls) where
  front_length : length (take (n - 1) ls) ≡ n - 1
  front_length = length-take-le (n - 1) ls within

  whole : (r : Lines) → drop (n - 1) ls ≡ old ++ r → ls ≡ take (n - 1) ls ++ (old ++ r)
  whole r e = sym (take-append-drop (n - 1) ls) ∙ ap (λ x. take (n - 1) ls ++ x) e

  -- the lines can be replaced, where one is left
  pub edits_by : Stand n old ls → (length old ≡ length ls → 0 < length new) → (ls' : Lines) × ReplacesLines n old new ls ls'
  edits_by (r, e) left = (take (n - 1) ls ++ (new ++ r), record { front = take (n - 1) ls; back = r; at = omega (arith, front_length); before = whole r e; after = refl; left = not_all })
    where
      not_all : take (n - 1) ls ++ (new ++ r) ≢ []
      not_all h =
          let all : length (take (n - 1) ls) + (length new + length r) ≡ 0 = simp length-append at (ap length h) in
          let count : length ls ≡ length (take (n - 1) ls) + (length old + length r) = simp length-append at (ap length (whole r e)) in
          let same : length old ≡ length ls = omega (arith, all, count) in
          let more = left same in
          omega (arith, all, more)

  -- all lines would go
  pub none_left : Stand n old ls → length old ≡ length ls → new ≡ [] → (ls ≡ old) × (n ≡ 1) × (new ≡ [])
  none_left (r, e) same none =
      let count : length ls ≡ length (take (n - 1) ls) + length (drop (n - 1) ls) = simp length-append at (ap length (sym (take-append-drop (n - 1) ls))) in
      let rest : length (drop (n - 1) ls) ≡ length old + length r = simp length-append at (ap length e) in
      let one : n ≡ 1 = omega (arith, count, rest, same, some, front_length) in
      let no_rest : length r ≡ 0 = omega (arith, count, rest, same) in
      let zero : 0 ≡ n - 1 = omega (arith, one) in
      (ap (λ k. drop k ls) zero ∙ e ∙ ap (λ x. old ++ x) (empty r no_rest) ∙ append-nil old, one, none)
    where
      empty : (x : Lines) → length x ≡ 0 → x ≡ []
      empty [] h = refl
      empty (y ∷ x) h = absurd (omega (arith, h))

-- other lines stand there
pub differ_by : (old ls : Lines) → ((r : Lines) × (ls ≡ old ++ r) → ⊥) → take (length old) ls ≢ old
differ_by old ls h e = h (drop (length old) ls, sym (take-append-drop (length old) ls) ∙ ap (λ x. x ++ drop (length old) ls) e)

pub some_lines : (x : Lines) → x ≢ [] → 0 < length x
some_lines [] h = absurd (h refl)
some_lines (y ∷ x) h = omega arith

module _ (ls ls' : Lines) (n : ℕ) (old new : Lines) (e : ReplacesLines n old new ls ls') where
  -- a replacement is a splice
  pub edits_splice : splice ls (n - 1) (n - 1 + length old) new ≡ ls'
  edits_splice =
      let front : n - 1 ≡ length e.front = omega (arith, e.at) in
      let until : n - 1 + length old ≡ length (e.front ++ old) = omega (arith, e.at, length-append e.front old) in
      ap (λ i. splice ls i (n - 1 + length old) new) front ∙ ap (λ j. splice ls (length e.front) j new) until
      ∙ ap (λ x. x ++ (new ++ drop (length (e.front ++ old)) ls)) (take_front ls e.front (old ++ e.back) e.before)
      ∙ ap (λ x. e.front ++ (new ++ x)) (front_rest ls (e.front ++ old) e.back (e.before ∙ sym (append_assoc e.front old e.back)))
      ∙ sym e.after
    where
      take_front : (xs f r : Lines) → xs ≡ f ++ r → take (length f) xs ≡ f
      take_front xs f r is = ap (take (length f)) is ∙ take_at f r (length f) refl

  pub may_edit : CanSplice (Some (File ls)) (n - 1) (n - 1 + length old) new
  may_edit =
      let count : length ls ≡ length e.front + (length old + length e.back) = simp length-append at (ap length e.before) in
      (omega arith, (omega (arith, count, e.at), subst (λ (x : Lines). 0 < length x) (sym edits_splice) (some_lines ls' e.left)))

-- other lines in a file keep the children those of a tree
module _ (ks new : List Child) (p : Path) (ls ls' : Lines) (s : SetsAt (look ks) (look new) p (Some (File ls'))) (file : look ks p ≡ Some (File ls)) where
  no_dir : {x : Lines} → Some (File x) ≡ Some Dir → ⊥
  no_dir h = cc

  kept_dir : (q : Path) → look ks q ≡ Some Dir → look new q ≡ Some Dir
  kept_dir q h = cases_at (look ks) (look new) p (File ls') s q (λ o. o ≡ Some Dir) (λ is. absurd (no_dir (sym file ∙ ap (look ks) (sym is) ∙ h))) h

  pub edited_tree : IsTree ks → IsRising new → ls' ≢ [] → IsTree new
  edited_tree t r left = record {
    rising = r;
    lawful = record {
      root = kept_dir [] t.lawful.root;
      parents = λ q n some. kept_dir q (t.lawful.parents q n (there (q ++ n ∷ []) some));
      lines = λ q x is. cases_at (look ks) (look new) p (File ls') s q (λ o. o ≡ Some (File x) → x ≢ []) (λ _ h. subst (λ (y : Lines). y ≢ []) (some_inj x h) left) (λ h. t.lawful.lines q x h) is;
    };
    valid = λ q ne some. t.valid q ne (there q some);
  }
    where
      some_inj : (x : Lines) → Some (File ls') ≡ Some (File x) → ls' ≡ x
      some_inj x h = cc

      no_file : Some (File ls) ≡ None → ⊥
      no_file h = cc

      there : (q : Path) → look new q ≢ None → look ks q ≢ None
      there q = cases_at (look ks) (look new) p (File ls') s q (λ o. o ≢ None → look ks q ≢ None) (λ is _ gone. no_file (sym (ap (look ks) is ∙ file) ∙ gone)) (λ h. h)

module _ (m : Map) (p : Path) (n : ℕ) (old new ls : Lines) (file : m p ≡ Some (File ls)) where
  -- why the lines of the file may not be edited
  pub edit_refused : (e : TreeFault) → RefusesEdit ls n old new (Some e) → EditAnswers {T = Unit {0}} m p n old new (Err e)
  edit_refused LineRange h = (ls, file, h)
  edit_refused OldDiffers h = (ls, file, h.0, h.1)
  edit_refused NoLines h = (ls, file, h.0, h.1, h.2)
  edit_refused NoParent h = absurd h
  edit_refused Occupied h = absurd h
  edit_refused Missing h = absurd h
  edit_refused NotFile h = absurd h
  edit_refused NotDir h = absurd h
  edit_refused NotEmpty h = absurd h
  edit_refused IntoItself h = absurd h
  edit_refused TokenThere h = absurd h
  edit_refused TooLarge h = absurd h
  edit_refused TooDeep h = absurd h
  edit_refused NoMemory h = absurd h

pub refuses_edit_of : (ls ls' : Lines) (n : ℕ) (old old' new new' : Lines) (r : Option TreeFault) → ls' ≡ ls → old' ≡ old → new' ≡ new → RefusesEdit ls' n old' new' r → RefusesEdit ls n old new r
refuses_edit_of ls ls' n old old' new new' r e f g h = subst (λ x. RefusesEdit x n old new r) e (subst (λ x. RefusesEdit ls' n x new r) f (subst (λ x. RefusesEdit ls' n old' x r) g h))
