-- How deep a part of a tree is, and why a rename is refused.
use Rattle.std.proofs.Common.{◌≡◌, ◌≢◌, ℕ, suc, ◌+◌, ◌-◌, ◌<◌, ◌≤◌, Bool, true, false, ◌&&◌, cond, nat_le, List, [], ◌∷◌, ◌++◌, length, drop, get_or, Option, Some, None, IsSome, Result, Err, refl, sym, ap, subst, ◌∙◌, arith, add-one, drop-cons, length-append}
use Rattle.std.specs.Option.{is_some, option_map}
use Rattle.std.specs.Ordering.{eq_by_cmp}
use Rattle.std.specs.FinMap.{find}
use Rattle.std.proofs.lemmas.List.{drop_all, drop_more}
use Rattle.std.proofs.lemmas.Bool.Decides.{nat_tests}
use Rattle.dm_tree.specs.declared.fault.TreeFault.{TreeFault}
use Rattle.dm_tree.specs.declared.fault.TreeFault.TheVariants.{NoParent, Occupied, Missing, NotFile, NotDir, NotEmpty, IntoItself, LineRange, OldDiffers, NoLines, TokenThere, TooLarge, TooDeep, NoMemory}
use Rattle.dm_tree.specs.declared.node.Body.{Body}
use Rattle.dm_tree.specs.Paths.{Name, Path, Under}
use Rattle.dm_tree.specs.Trees.{Entry, Dir, Map, HasParent, path_cmp}
use Rattle.dm_tree.specs.Changes.{AddAnswers, RenameAnswers}
use Rattle.dm_tree.specs.Children.{PathEntries, Child, below, all, flatten, look}
use Rattle.dm_tree.specs.Nested.{under_of}
use Rattle.dm_tree.specs.Walks.{RefusesAdd, are_short, part_of}
use Rattle.dm_tree.proofs.MoveLemmas.{self_equal}
use Rattle.dm_tree.proofs.Steps.{some_of, not_none}
use Rattle.dm_tree.proofs.Trees.{equal_by, snoc_inj}

and-assoc : (a b e : Bool) → (a && (b && e)) ≡ ((a && b) && e)
and-assoc true b e = refl
and-assoc false b e = refl

short-append : (n : ℕ) (xs ys : PathEntries) → are_short n (xs ++ ys) ≡ (are_short n xs && are_short n ys)
short-append n [] ys = refl
short-append n (x ∷ xs) ys = ap (λ b. nat_le (length x.0) n && b) (short-append n xs ys) ∙ and-assoc (nat_le (length x.0) n) (are_short n xs) (are_short n ys)

one_less : (a n : ℕ) → 0 < n → nat_le (suc a) n ≡ nat_le a (n - 1)
one_less a n lt = grind (arith, nat_tests)

short-below : (n : ℕ) (m : Name) (rs : PathEntries) → 0 < n → are_short n (below m rs) ≡ are_short (n - 1) rs
short-below n m [] lt = refl
short-below n m (r ∷ rs) lt = ap (λ b. b && are_short n (below m rs)) (one_less (length r.0) n lt) ∙ ap (λ b. nat_le (length r.0) (n - 1) && b) (short-below n m rs lt)

zero_le : (n : ℕ) → nat_le 0 n ≡ true
zero_le n = grind (arith, nat_tests)

pub fits-step : (ks : List Child) (i : ℕ) (d : Child) (n : ℕ) → 0 < n → i < length ks → are_short n (flatten (drop i ks)) ≡ (are_short (n - 1) (get_or ks i d).under && are_short n (flatten (drop (i + 1) ks)))
fits-step ks i d n lt at =
    let k = get_or ks i d in
    let rest = drop (suc i) ks in
    ap (λ l. are_short n (flatten l)) (drop-cons ks i d at)
    ∙ short-append n (below k.name (all k)) (flatten rest)
    ∙ ap (λ b. b && are_short n (flatten rest)) (short-below n k.name (all k) lt ∙ ap (λ b. b && are_short (n - 1) k.under) (zero_le (n - 1)))
    ∙ ap (λ j. are_short (n - 1) k.under && are_short n (flatten (drop j ks))) (sym (add-one i))

pub fits_more : (ks : List Child) (i : ℕ) (d : Child) (n : ℕ) (u : PathEntries) (b : Bool) → 0 < n → i < length ks → u ≡ (get_or ks i d).under → b ≡ are_short (n - 1) u → are_short n (flatten ks) ≡ are_short n (flatten (drop i ks)) → are_short n (flatten ks) ≡ (b && are_short n (flatten (drop (i + 1) ks)))
fits_more ks i d n u b lt at is e so_far = so_far ∙ fits-step ks i d n lt at ∙ ap (λ t. t && are_short n (flatten (drop (i + 1) ks))) (sym (e ∙ ap (are_short (n - 1)) is))

le_of : (a n : ℕ) → nat_le a n ≡ true → a ≤ n
le_of a n h = grind (arith, nat_tests)

more_of : (a n : ℕ) → nat_le a n ≡ false → n < a
more_of a n h = grind (arith, nat_tests)

both : (a b : Bool) → (a && b) ≡ true → (a ≡ true) × (b ≡ true)
both true b h = (refl, h)
both false b h = cc

no_some : IsSome {T = Entry} None → ⊥
no_some h = cc

pub short_true : (n : ℕ) (rs : PathEntries) → are_short n rs ≡ true → (q : Path) → IsSome (find path_cmp q rs) → length q ≤ n
short_true n [] h q some = absurd (no_some some)
short_true n (r ∷ rs) h q some =
    let b = both (nat_le (length r.0) n) (are_short n rs) h in
    elim (eq_by_cmp path_cmp q r.0) as (λ t. eq_by_cmp path_cmp q r.0 ≡ t → IsSome (cond t (Some r.1) (find path_cmp q rs)) → length q ≤ n) [
      | true ↦ λ e _. subst (λ (x : Path). length x ≤ n) (sym (equal_by q r.0 e)) (le_of (length r.0) n b.0)
      | false ↦ λ e s. short_true n rs b.1 q s
    ] refl some

pub short_false : (n : ℕ) (rs : PathEntries) → are_short n rs ≡ false → (q : Path) × (IsSome (find path_cmp q rs) × (n < length q))
short_false n [] h = cc
short_false n (r ∷ rs) h =
    elim (nat_le (length r.0) n) as (λ t. nat_le (length r.0) n ≡ t → (t && are_short n rs) ≡ false → (q : Path) × (IsSome (find path_cmp q (r ∷ rs)) × (n < length q))) [
      | true ↦ λ e f. let s = short_false n rs f in (s.0, (keep s.0 s.1.0, s.1.1))
      | false ↦ λ e f. (r.0, (subst IsSome (sym (ap (λ b. cond b (Some r.1) (find path_cmp r.0 rs)) (self_equal r.0))) refl, more_of (length r.0) n e))
    ] refl h
  where
    keep : (q : Path) → IsSome (find path_cmp q rs) → IsSome (cond (eq_by_cmp path_cmp q r.0) (Some r.1) (find path_cmp q rs))
    keep q some = elim (eq_by_cmp path_cmp q r.0) as (λ t. IsSome (cond t (Some r.1) (find path_cmp q rs))) [ true ↦ refl | false ↦ some ]

module _ {A : Type 0} (b : Body A) (n : ℕ) where
  pub part_true : are_short n (under_of b) ≡ true → (x : Path) → IsSome (part_of b x) → length x ≤ n
  part_true h [] some = omega arith
  part_true h (m ∷ x) some = short_true n (under_of b) h (m ∷ x) some

  pub part_false : are_short n (under_of b) ≡ false → (x : Path) × (IsSome (part_of b x) × (n < length x))
  part_false h = let s = short_false n (under_of b) h in (s.0, (there s.0 s.1.0 s.1.1, s.1.1))
    where
      there : (x : Path) → IsSome (find path_cmp x (under_of b)) → n < length x → IsSome (part_of b x)
      there [] some lt = absurd (omega arith)
      there (m ∷ x) some lt = some

module _ (m : Map) (a b : Path) where
  pub fits_by : (part : Map) (n : ℕ) → ((q : Path) → part q ≡ m (a ++ q)) → n + length b ≤ 32 → ((x : Path) → IsSome (part x) → length x ≤ n) → (r : Path) → m (a ++ r) ≢ None → length (b ++ r) ≤ 32
  fits_by part n is le h r some = let s = h r (subst IsSome (sym (is r)) (some_of (m (a ++ r)) some)) in omega (arith, s, length-append b r)

  pub overflows_by : (part : Map) (n : ℕ) → ((q : Path) → part q ≡ m (a ++ q)) → 32 ≤ n + length b → ((x : Path) × (IsSome (part x) × (n < length x))) → (r : Path) × (m (a ++ r) ≢ None) × (32 < length (b ++ r))
  overflows_by part n is le s = let lt = s.1.1 in (s.0, not_none (m (a ++ s.0)) (subst IsSome (is s.0) s.1.0), omega (arith, lt, length-append b s.0))

  -- why nothing may be added at the new place
  pub refused_by : m a ≢ None → (Under b a → ⊥) → (e : TreeFault) → RefusesAdd m b (Some e) → RenameAnswers {T = Unit {0}} m a b (Err e)
  refused_by there off NoParent h = (there, off, h)
  refused_by there off Occupied h = (there, off, h.0, h.1)
  refused_by there off Missing h = absurd h
  refused_by there off NotFile h = absurd h
  refused_by there off NotDir h = absurd h
  refused_by there off NotEmpty h = absurd h
  refused_by there off IntoItself h = absurd h
  refused_by there off LineRange h = absurd h
  refused_by there off OldDiffers h = absurd h
  refused_by there off NoLines h = absurd h
  refused_by there off TokenThere h = absurd h
  refused_by there off TooLarge h = absurd h
  refused_by there off TooDeep h = absurd h
  refused_by there off NoMemory h = absurd h

pub adds_refused : (m : Map) (p : Path) (e : TreeFault) → RefusesAdd m p (Some e) → AddAnswers {T = Unit {0}} m p (Err e)
adds_refused m p NoParent h = h
adds_refused m p Occupied h = h
adds_refused m p Missing h = absurd h
adds_refused m p NotFile h = absurd h
adds_refused m p NotDir h = absurd h
adds_refused m p NotEmpty h = absurd h
adds_refused m p IntoItself h = absurd h
adds_refused m p LineRange h = absurd h
adds_refused m p OldDiffers h = absurd h
adds_refused m p NoLines h = absurd h
adds_refused m p TokenThere h = absurd h
adds_refused m p TooLarge h = absurd h
adds_refused m p TooDeep h = absurd h
adds_refused m p NoMemory h = absurd h

-- the parent of a path is the directory above its last name
pub parent_is : (m : Map) (p above : Path) (n : Name) → p ≡ above ++ n ∷ [] → HasParent p m → m above ≡ Some Dir
parent_is m p above n e h = ap m (snoc_inj above h.0 n h.1 (sym e ∙ h.2)).0 ∙ h.3

pub some_map : {X Y : Type 0} (f : X → Y) (r : Option X) → is_some (option_map f r) ≡ is_some r
some_map f None = refl
some_map f (Some x) = refl

pub none_at : (o : Option Entry) → is_some o ≡ false → o ≡ None
none_at None h = refl
none_at (Some x) h = cc

pub some_at : (o : Option Entry) → is_some o ≡ true → o ≢ None
some_at None h e = cc
some_at (Some x) h e = cc

pub there_by : (e : Entry) (o : Option Entry) → Some e ≡ o → o ≢ None
there_by e o is h = let f : Some e ≡ None = is ∙ h in cc

pub refuses_add_of : (m : Map) (ks ks' : List Child) (p p' : Path) (r : Option TreeFault) → look ks ≡ m → ks' ≡ ks → p' ≡ p → RefusesAdd (look ks') p' r → RefusesAdd m p r
refuses_add_of m ks ks' p p' r e f g h = subst (λ x. RefusesAdd x p r) e (subst (λ k. RefusesAdd (look k) p r) f (subst (λ q. RefusesAdd (look ks') q r) g h))

pub renames_of : (m : Map) (ks ks' : List Child) (a a' b b' : Path) (r : Result (Unit {0}) TreeFault) → look ks ≡ m → ks' ≡ ks → a' ≡ a → b' ≡ b → RenameAnswers (look ks') a' b' r → RenameAnswers m a b r
renames_of m ks ks' a a' b b' r e f g i h = subst (λ n. RenameAnswers n a b r) e (subst (λ k. RenameAnswers (look k) a b r) f (subst (λ x. RenameAnswers (look ks') x b r) g (subst (λ y. RenameAnswers (look ks') a' y r) i h)))

-- a directory that holds something, where there is no room
pub none_fits : (ks : List Child) (i : ℕ) (d : Child) (n : ℕ) → i < length ks → n ≡ 0 → are_short n (flatten ks) ≡ are_short n (flatten (drop i ks)) → false ≡ are_short n (flatten ks)
none_fits ks i d n lt e so_far = sym (so_far ∙ ap (λ (z : List Child). are_short n (flatten z)) (drop_more ks i d lt) ∙ ap (λ k. are_short k (flatten (get_or ks i d ∷ drop (i + 1) ks))) e)

pub all_fit : (ks : List Child) (i n : ℕ) → length ks ≤ i → are_short n (flatten ks) ≡ are_short n (flatten (drop i ks)) → true ≡ are_short n (flatten ks)
all_fit ks i n le so_far = sym (so_far ∙ ap (λ (z : List Child). are_short n (flatten z)) (drop_all i ks le))
