-- What one entry does to a tree that lacks it.
use Rattle.std.proofs.Common.{◌≡◌, ◌≢◌, ◌≤◌, true, false, cond, [], ◌∷◌, ◌++◌, length, refl, sym, ap, ◌∙◌, Some, None, arith, append-nil}
use Rattle.std.specs.Ordering.{eq_by_cmp}
use Rattle.dm_tree.specs.Limits.{most_names}
use Rattle.dm_tree.specs.Paths.{Path}
use Rattle.dm_tree.specs.Trees.{Lines, Entry, Dir, File, Map, HasParent, IsLawful, Deep, empty_file, path_cmp}
use Rattle.dm_tree.proofs.MoveLemmas.{self_equal}
use Rattle.dm_tree.proofs.Trees.{equal_by}
use Rattle.dm_prim.specs.Primitives.{AddFile, AddDir, Hunk, Prim, WorksAt}
use Rattle.dm_prim.proofs.Undoing.{works_kept}

-- the entry is at the path, and elsewhere is what was there
abbrev pub put : Map → Path → Entry → Map
put m p e q = cond (eq_by_cmp path_cmp q p) (Some e) (m q)

pub put_here : (m : Map) (p : Path) (e : Entry) → put m p e p ≡ Some e
put_here m p e = ap (λ b. cond b (Some e) (m p)) (self_equal p)

pub put_elsewhere : (m : Map) (p : Path) (e : Entry) (q : Path) → q ≢ p → put m p e q ≡ m q
put_elsewhere m p e q off = elim (eq_by_cmp path_cmp q p) as (λ b. eq_by_cmp path_cmp q p ≡ b → cond b (Some e) (m q) ≡ m q) [ true ↦ λ t. absurd (off (equal_by q p t)) | false ↦ λ t. refl ] refl

-- an entry may be added
pub record MayAdd (m : Map) (p : Path) : Type 0 where
  pub lawful : IsLawful m
  pub shallow : Deep m → ⊥
  pub parent : HasParent p m
  pub absent : m p ≡ None
  pub short : length p ≤ most_names

-- what has a parent isn't the root
not_root : (m : Map) (p : Path) → HasParent p m → p ≢ []
not_root m p ([], n, e, d) r = let f : n ∷ [] ≡ [] = sym e ∙ r in absurd (cc)
not_root m p (k ∷ q, n, e, d) r = let f : k ∷ (q ++ n ∷ []) ≡ [] = sym e ∙ r in absurd (cc)

module _ (m : Map) (p : Path) (a : MayAdd m p) where
  pub put_shallow : (e : Entry) → Deep (put m p e) → ⊥
  put_shallow e (q, deep, some) =
      elim (eq_by_cmp path_cmp q p) as (λ b. eq_by_cmp path_cmp q p ≡ b → (cond b (Some e) (m q) ≢ None) → ⊥) [
        | true ↦ λ t _. let same : q ≡ p = equal_by q p t in let n : length q ≡ length p = ap length same in let l = a.short in omega (arith, deep, n, l)
        | false ↦ λ t h. a.shallow (q, deep, h)
      ] refl some

  pub adds_dir : WorksAt p AddDir m (put m p Dir)
  adds_dir = record { around = a.parent; here = (a.absent, put_here m p Dir); elsewhere = put_elsewhere m p Dir }

  pub adds_file : WorksAt p AddFile m (put m p empty_file)
  adds_file = record { around = a.parent; here = (a.absent, put_here m p empty_file); elsewhere = put_elsewhere m p empty_file }

  pub fills_file : (ls : Lines) → ls ≢ [] → WorksAt p (Hunk 1 ([] ∷ []) ls) (put m p empty_file) (put m p (File ls))
  fills_file ls some = record {
    around = tt;
    here = ([] ∷ [], ls, put_here m p empty_file, put_here m p (File ls), record { front = []; back = []; at = refl; before = refl; after = sym (append-nil ls); left = some });
    elsewhere = λ q off. put_elsewhere m p (File ls) q off ∙ sym (put_elsewhere m p empty_file q off);
  }

  pub dir_lawful : IsLawful (put m p Dir)
  dir_lawful = works_kept AddDir p m (put m p Dir) (not_root m p a.parent) a.lawful adds_dir

  pub file_lawful : IsLawful (put m p empty_file)
  file_lawful = works_kept AddFile p m (put m p empty_file) (not_root m p a.parent) a.lawful adds_file

  pub filled_lawful : (ls : Lines) → ls ≢ [] → IsLawful (put m p (File ls))
  filled_lawful ls some = works_kept (Hunk 1 ([] ∷ []) ls) p (put m p empty_file) (put m p (File ls)) (not_root m p a.parent) file_lawful (fills_file ls some)
