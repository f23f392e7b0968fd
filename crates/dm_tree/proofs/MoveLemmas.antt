-- A part of a tree that is moved: added as a directory at its new place, cut out, and put there.
use Rattle.std.proofs.Common.{◌≡◌, ◌≢◌, true, false, cond, [], ◌∷◌, ◌++◌, Option, Some, None, IsSome, refl, sym, ap, subst, ◌∙◌, append-nil, append_assoc}
use Rattle.std.specs.Ordering.{eq_by_cmp}
use Rattle.dm_tree.specs.Paths.{Path, Apart}
use Rattle.dm_tree.specs.Trees.{Entry, Dir, Map, IsLawful, path_cmp}
use Rattle.dm_tree.specs.Changes.{MayMove, Renamed}
use Rattle.dm_tree.specs.Walks.{SetsAt, Grafts, nothing}
use Rattle.dm_tree.proofs.Children.{name_self}
use Rattle.dm_tree.proofs.Paths.{apart_under}
use Rattle.dm_tree.proofs.Steps.{is_none}
use Rattle.dm_tree.proofs.Trees.{equal_by}

-- nothing stands under a path where nothing stands
pub under_absent : (m : Map) → IsLawful m → (p : Path) → m p ≡ None → (x : Path) → m (p ++ x) ≡ None
under_absent m l p e [] = ap m (append-nil p) ∙ e
under_absent m l p e (n ∷ r) = ap m (sym (append_assoc p (n ∷ []) r)) ∙ under_absent m l (p ++ n ∷ []) (is_none (m (p ++ n ∷ [])) (λ some. apart (sym e ∙ l.parents p n some))) r
  where
    apart : None ≡ Some Dir → ⊥
    apart h = cc

pub self_equal : (p : Path) → (eq_by_cmp path_cmp p p) ≡ true
self_equal [] = refl
self_equal (n ∷ p) = rw (name_self n) (self_equal p)

pub set_off : (m m' : Map) (p : Path) (e : Option Entry) (q : Path) → SetsAt m m' p e → q ≢ p → m' q ≡ m q
set_off m m' p e q s off = s q ∙ elim (eq_by_cmp path_cmp q p) as (λ b. eq_by_cmp path_cmp q p ≡ b → cond b e (m q) ≡ m q) [ true ↦ λ t. absurd (off (equal_by q p t)) | false ↦ λ t. refl ] refl

-- what may move and its new place are apart
pub may_apart : (m : Map) → IsLawful m → (a b : Path) → MayMove m a b → Apart a b
may_apart m l a b k = record { left = λ u. k.present (ap m u.1 ∙ under_absent m l b k.absent u.0); right = k.not_into }

module _ (m0 m1 m2 m3 part : Map) (a b : Path) (apart : Apart a b) (made : SetsAt m0 m1 b (Some Dir)) where
  pub still_there : IsSome (m0 a) → IsSome (m1 a)
  still_there h = subst IsSome (sym (set_off m0 m1 b (Some Dir) a made (λ e. apart.left ([], e ∙ sym (append-nil b))))) h

  pub placed : Grafts m1 m2 a nothing → m2 b ≡ Some Dir
  placed c = c.outside b apart.right ∙ made b ∙ ap (λ t. cond t (Some Dir) (m0 b)) (self_equal b)

  pub shifted : Grafts m1 m2 a nothing → ((q : Path) → part q ≡ m1 (a ++ q)) → Grafts m2 m3 b part → Renamed a b m0 m3
  shifted c f d = record {
    there = λ r. d.inside r ∙ f r ∙ set_off m0 m1 b (Some Dir) (a ++ r) made (λ e. apart.right (r, sym e));
    gone = λ r. d.outside (a ++ r) (apart_under a b r apart) ∙ c.inside r;
    elsewhere = λ q off_a off_b. d.outside q off_b ∙ c.outside q off_a ∙ set_off m0 m1 b (Some Dir) q made (λ e. off_b ([], e ∙ sym (append-nil b)));
  }
