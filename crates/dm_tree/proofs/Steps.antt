-- Steps that the proofs of several walks over a path share.
use Rattle.std.proofs.Common.{arith, sym, ap, ◌∙◌, subst, ◌≡◌, ◌≢◌, ◌<◌, ◌∷◌, [], length, OnOk, OnErr, None, Ok, Err, ℕ, true, false, nat_eq, List, Result, Option, get_or, set, Some, IsSome, IsTrue, ◌↔◌, refl}
use Rattle.std.proofs.lemmas.Bool.{eqb-true}
use Rattle.std.specs.Option.{IfSome}
use Rattle.std.specs.Result.{IsErrAnd}
use Rattle.dm_tree.specs.declared.fault.TreeFault.{TreeFault}
use Rattle.dm_tree.specs.declared.fault.TreeFault.TheVariants.{NoMemory}
use Rattle.dm_tree.specs.Paths.{Name, Path}
use Rattle.dm_tree.specs.Trees.{Entry, Dir, File}
use Rattle.dm_tree.specs.Children.{Child, IsRising, IsAt, IsGap, look}
use Rattle.dm_tree.specs.Walks.{Grafts}
use Rattle.dm_tree.proofs.Children.{child_at, look_in, find-flatten, child_at-gap, child_at-set, rising-set, grafts-child}
use Rattle.dm_tree.proofs.Adds.{dir_child, leaf_child, at_name, seen, look_file}

pub no_rest : (q : Path) → nat_eq (length q) 0 ≡ true → q ≡ []
no_rest [] e = refl
no_rest (x ∷ q) e = absurd (omega (arith, eqb-true (length (x ∷ q)) 0 e))

pub some_rest : (q : Path) → nat_eq (length q) 0 ≡ false → 0 < length q
some_rest [] e = cc
some_rest (x ∷ q) e = omega arith

pub on_ok : {E : Type 0} (r : Result (Unit {0}) E) (P Q : Type 0) → (P → Q) → OnOk r P → OnOk r Q
on_ok (Ok x) P Q f h = f h
on_ok (Err e) P Q f h = h

pub on_err : {E : Type 0} (r : Result (Unit {0}) E) (P Q : Type 0) → (P → Q) → OnErr r P → OnErr r Q
on_err (Ok x) P Q f h = h
on_err (Err e) P Q f h = f h

pub at_of : (n n' : Name) (ks ks' : List Child) (i : ℕ) → n' ≡ n → ks' ≡ ks → IsAt n' ks' i → IsAt n ks i
at_of n n' ks ks' i e f a = subst (λ m. IsAt m ks i) e (subst (λ l. IsAt n' l i) f a)

pub gap_of : (n n' : Name) (ks ks' : List Child) (i : ℕ) → n' ≡ n → ks' ≡ ks → IsGap n' ks' i → IsGap n ks i
gap_of n n' ks ks' i e f a = subst (λ m. IsGap m ks i) e (subst (λ l. IsGap n' l i) f a)

-- what is known of a directory that was opened on the way down
pub record Opened (n : Name) (ks : List Child) (i : ℕ) (m : Name) (inner : List Child) : Type 0 where
  pub at : IsAt n ks i
  pub same : m ≡ n
  pub seen : child_at n ks ≡ Some (dir_child m inner)

pub opened : (n n' : Name) (ks ks' : List Child) (i : ℕ) (k : Child) (m : Name) (inner : List Child) → n' ≡ n → ks' ≡ ks → IsAt n' ks' i → k ≡ get_or ks i k → dir_child m inner ≡ k → Opened n ks i m inner
opened n n' ks ks' i k m inner e f a v w =
    let at = at_of n n' ks ks' i e f a in
    record { at = at; same = ap (λ x. x.name) (w ∙ v) ∙ at_name n ks i k at; seen = seen n ks i k (dir_child m inner) at v w }

pub look_gap : (n n' : Name) (ks ks' : List Child) (i : ℕ) (p rest : Path) → IsRising ks → n' ≡ n → ks' ≡ ks → IsGap n' ks' i → p ≡ n ∷ rest → look ks p ≡ None
look_gap n n' ks ks' i p rest r e f g is = ap (look ks) is ∙ find-flatten ks r n rest ∙ ap (λ x. look_in x rest) (child_at-gap n ks i r (gap_of n n' ks ks' i e f g))

pub not_there : (x : Option Entry) → x ≡ None → IsSome x → ⊥
not_there None e s = cc
not_there (Some x) e s = cc

pub look_dir : (n : Name) (ks : List Child) (i : ℕ) (m : Name) (inner : List Child) (p rest : Path) → IsRising ks → Opened n ks i m inner → p ≡ n ∷ rest → look ks p ≡ look inner rest
look_dir n ks i m inner p rest r o is = ap (look ks) is ∙ find-flatten ks r n rest ∙ ap (λ x. look_in x rest) o.seen

pub look_text : (n n' : Name) (ks ks' : List Child) (i : ℕ) (k : Child) (m : Name) (ls : List (List ℕ)) (p rest : Path) → IsRising ks → n' ≡ n → ks' ≡ ks → IsAt n' ks' i → k ≡ get_or ks i k → leaf_child m (File ls) ≡ k → p ≡ n ∷ rest → 0 < length rest → look ks p ≡ None
look_text n n' ks ks' i k m ls p rest r e f a v w is lt =
    ap (look ks) is ∙ find-flatten ks r n rest ∙ ap (λ x. look_in x rest) (seen n ks i k (leaf_child m (File ls)) (at_of n n' ks ks' i e f a) v w) ∙ look_file m ls rest lt

pub grafts_dir : (n : Name) (ks : List Child) (i : ℕ) (m : Name) (inner inner' : List Child) (p rest : Path) (part : Path → Option Entry) → IsRising ks → Opened n ks i m inner → p ≡ n ∷ rest → Grafts (look inner) (look inner') rest part → Grafts (look ks) (look (set ks i (dir_child m inner'))) p part
grafts_dir n ks i m inner inner' p rest part r o is s =
    subst (λ x. Grafts (look ks) (look (set ks i (dir_child m inner'))) x part) (sym is)
    (grafts-child ks (set ks i (dir_child m inner')) n (Some (dir_child m inner')) rest part r (rising-set n ks i (dir_child m inner') r o.at o.same) (child_at-set n ks i (dir_child m inner') o.at o.same)
    s.inside (λ q h. s.outside q h ∙ ap (λ z. look_in z q) (sym o.seen)))

pub if_some : {T : Type 0} (r : Option T) (P Q : T → Type 0) → ((x : T) → P x → Q x) → IfSome r P → IfSome r Q
if_some None P Q f h = h
if_some (Some x) P Q f h = f x h

pub some_of : (x : Option Entry) → x ≢ None → IsSome x
some_of None h = absurd (h refl)
some_of (Some x) h = refl

pub not_none : (x : Option Entry) → IsSome x → x ≢ None
not_none None h e = cc
not_none (Some x) h e = cc

pub is_none : (x : Option Entry) → (x ≢ None → ⊥) → x ≡ None
is_none None h = refl
is_none (Some x) h = absurd (h (λ e. cc))

-- an error that came from a refused growth
pub err_memory : (P : Result (Unit {0}) TreeFault → Type 0) (r : Result (Unit {0}) TreeFault) → IsErrAnd r (λ e. e ≡ NoMemory) → P (Err NoMemory) → P r
err_memory P (Ok x) h p = absurd h
err_memory P (Err e) h p = subst (λ (z : TreeFault). P (Err z)) (sym h) p

-- whether a directory is there, by what is there
pub not_dir : (x y : Option Entry) → y ≡ x → (y ≡ Some Dir → ⊥) → IsTrue false ↔ (x ≡ Some Dir)
not_dir x y e other = (λ t. cc, λ d. absurd (other (e ∙ d)))

pub is_dir : (x : Option Entry) → Some Dir ≡ x → IsTrue true ↔ (x ≡ Some Dir)
is_dir x e = (λ t. sym e, λ d. refl)
