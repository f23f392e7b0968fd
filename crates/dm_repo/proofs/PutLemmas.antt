-- The tree that a part leaves once it is put back.
use Rattle.std.proofs.Common.{◌≡◌, Bool, true, false, IsTrue, List, [], ◌∷◌, ◌++◌, None, ◌⊎◌, inl, inr, refl, sym, ap, subst, ◌∙◌}
use Rattle.std.specs.FinMap as map
use Rattle.dm_tree.specs.Paths.{Path}
use Rattle.dm_tree.specs.Trees.{Map, Tree, IsLawful}
use Rattle.dm_tree.specs.Reach.{IsReached, root as root_reached, Puts}
use Rattle.dm_prim.specs.InTurn.{InTurn, done}
use Rattle.dm_prim.specs.Primitives.{LawfulMap}
use Rattle.dm_prim.proofs.PartLemmas.{put_back, put_one, reached_at, reached_dec}
use Rattle.dm_prim.proofs.Single.{same_map}
use Rattle.dm_named.specs.Patches.{Patch}
use Rattle.dm_repo.specs.Folds.{IsRoot, PatchLeadsShallowly, ShallowFold}
use Rattle.dm_repo.specs.Repositories.{IsTreeOf, KeepsTree}
use Rattle.dm_repo.specs.Trials.{KeepsPart, MakesPart, ReplacesPart}
use Rattle.dm_repo.proofs.Making.{grows_one, makes_on}

module _ (repo new : List Patch) (ps : List Path) (tree part : Tree) (k : MakesPart repo new ps (map.get part)) (b : IsTreeOf repo tree) where
  same : k.before.map ≡ map.get tree
  same = let e : k.before ≡ b.0 = grows_one repo k.folds b.2 in ap (λ (z : LawfulMap). z.map) e ∙ b.1

  is_after : (t : Map) → Puts ps (map.get tree) (map.get part) t → k.makes.after.map ≡ t
  is_after t p =
      put_one ps k.before.map (map.get part) k.makes.after.map t (put_back ps k.before.map k.makes.after.map (map.get part) k.makes.rest k.makes.is_part) (subst (λ z. Puts ps z (map.get part) t) (sym same) p)

  pub put_makes_tree : (after : Tree) → Puts ps (map.get tree) (map.get part) (map.get after) → IsTreeOf (repo ++ new) after
  put_makes_tree after p = (k.makes.after, is_after (map.get after) p, makes_on repo new k.folds k.makes.leads)

  pub put_is_lawful : (t : Map) → Puts ps (map.get tree) (map.get part) t → IsLawful t
  put_is_lawful t p = subst IsLawful (is_after t p) k.makes.after.lawful

pub makes_tree : (repo new : List Patch) (ps : List Path) (tree part after : Tree) → MakesPart repo new ps (map.get part) → IsTreeOf repo tree → Puts ps (map.get tree) (map.get part) (map.get after) → IsTreeOf (repo ++ new) after
makes_tree repo new ps tree part after k b p = put_makes_tree repo new ps tree part k b after p

-- so the repository is kept
pub keeps_tree : (repo new : List Patch) (ps : List Path) (tree part after : Tree) → KeepsPart repo new ps (map.get part) → IsTreeOf repo tree → Puts ps (map.get tree) (map.get part) (map.get after) → KeepsTree (repo ++ new) after
keeps_tree repo new ps tree part after k b p = record { valid = k.valid; makes = put_makes_tree repo new ps tree part k.makes b after p }

-- the part of the tree of a repository's first patches is that tree
no_patches : {s : LawfulMap} → ShallowFold [] s → IsRoot s
no_patches f = go f.start f.is_root f.runs
  where
    go : (s : LawfulMap) → IsRoot s → {t : LawfulMap} → InTurn PatchLeadsShallowly [] s t → IsRoot t
    go s r done = r

module _ (new : List Patch) (ps : List Path) (part : Tree) (k : MakesPart [] new ps (map.get part)) where
  root : IsRoot k.before
  root = no_patches k.folds

  none_there : (q : Path) → (IsReached ps q → ⊥) → k.before.map q ≡ None
  none_there [] away = absurd (away (root_reached refl))
  none_there (n ∷ q) away = root.alone n q

  is_whole : (q : Path) → IsReached ps q ⊎ (IsReached ps q → ⊥) → k.makes.after.map q ≡ map.get part q
  is_whole q (inl r) = sym (k.makes.is_part.within q r)
  is_whole q (inr away) = k.makes.rest.kept q (λ u. away (reached_at ps q u)) ∙ none_there q away ∙ sym (k.makes.is_part.outside q away)

  pub first_tree : IsTreeOf new part
  first_tree = (k.makes.after, same_map k.makes.after.map (map.get part) (λ q. is_whole q (reached_dec ps q)), makes_on [] new k.folds k.makes.leads)

pub keeps_after : (repo new : List Patch) (ps : List Path) (tree part after : Tree) (whole : Bool) → (IsTrue whole → repo ≡ []) → KeepsPart repo new ps (map.get part) → IsTreeOf repo tree → ReplacesPart whole ps tree part after → KeepsTree (repo ++ new) after
keeps_after repo new ps tree part after true e k b r = go repo (e refl) k
  where
    go : (repo : List Patch) → repo ≡ [] → KeepsPart repo new ps (map.get part) → KeepsTree (repo ++ new) after
    go [] i k = record { valid = k.valid; makes = rw r (first_tree new ps part k.makes) }
    go (x ∷ xs) i k = absurd (cc)
keeps_after repo new ps tree part after false e k b r = keeps_tree repo new ps tree part after k b r
