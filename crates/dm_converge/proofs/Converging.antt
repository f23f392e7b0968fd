-- What comes of one base has one tree where the names are the same.
use Rattle.std.proofs.Common.{◌≡◌, ℕ, List, [], ◌∷◌, ◌++◌, sym, ap, ◌∙◌}
use Rattle.std.specs.FinMap as map
use Rattle.dm_tree.specs.Paths.{Path}
use Rattle.dm_tree.specs.Trees as trees
use Rattle.dm_tree.proofs.Trees.{path_total, path_same}
use Rattle.dm_prim.specs.InTurn.{done, step}
use Rattle.dm_prim.specs.Primitives.{Prim, Applies, LawfulMap, LeadsAll}
use Rattle.dm_prim.proofs.Single.{applies_one, same_map}
use Rattle.dm_named.specs.Patches.{Patch}
use Rattle.dm_named.specs.declared.limits.Kinds.{Kinds}
use Rattle.dm_bundle.specs.Bundles.{Contents}
use Rattle.dm_repo.specs.declared.policy.Policy.{Policy}
use Rattle.dm_repo.specs.Folds.{PatchLeads, IsRoot, Fold}
use Rattle.dm_repo.specs.Repositories.{IsRepo, IsTreeOf}
use Rattle.dm_repo.specs.Weighing.{IsMergeOf}
use Rattle.dm_prim.specs.InTurn.{InTurn}
use Rattle.dm_repo.proofs.Keeps.{merge_is_repo}
use Rattle.dm_repo.proofs.Trees.{tree_same, grows_fold}
use Rattle.dm_scratch.specs.declared.verdict.Verdict.{Verdict}
use Rattle.dm_scratch.specs.declared.verdict.Verdict.TheVariants.{Taken, TakenSome, NothingNew, Malformed, Refused}
use Rattle.dm_scratch.specs.Taking.{TakesBundle, bundle, malformed, no_memory}
use Rattle.dm_facts.specs.Nodes.{NodeMap, plain}
use Rattle.dm_facts.specs.Facts.{Effect}
use Rattle.dm_facts.proofs.LawProofs as facts
use Rattle.dm_facts.specs.Runs.{StepsAll}
use Rattle.dm_converge.specs.Meanings.{Meaning, Runs, root_of, MakesOnce, Builds, MeansSo}
use Rattle.dm_converge.specs.Pools.{HasBundleIn, NamesDecideTree, ComesOfIn, as_it_was, took}
use Rattle.dm_converge.specs.Laws as laws
use Rattle.dm_converge.proofs.Orders.{names_make_the_tree}
use Rattle.dm_converge.proofs.Taking.{taking_keeps_meaning}
use Rattle.dm_converge.proofs.Wider.{among_stands}

-- what taking does, as one of two
pub taken_or_kept : (P : List Patch → Type 0) (repo : List Patch) (b : Contents) (policy : Policy) (verdict : Verdict) (after : List Patch) →
    P repo → ((merged : List Patch) (skipped : ℕ) → IsMergeOf repo b policy merged skipped → P (repo ++ merged)) →
    TakesBundle repo b policy verdict after → P after
taken_or_kept P repo b policy (Taken count) after kept taken t = rw t.appended (taken t.merged 0 t.is_merge)
taken_or_kept P repo b policy (TakenSome count skipped) after kept taken t = rw t.0.appended (taken t.0.merged skipped t.0.is_merge)
taken_or_kept P repo b policy NothingNew after kept taken t = rw t.1 kept
taken_or_kept P repo b policy (Refused why) after kept taken t = rw t.1 kept
taken_or_kept P repo b policy (Malformed fault) after kept taken t = absurd t

-- the tree with no identities
module _ (I : Type 0) where
  plain_steps : (ps : List Prim) (es : List (Effect I)) (s t : NodeMap I) {x y : LawfulMap} → StepsAll ps es s t → LeadsAll ps x y → plain s ≡ x.map → plain t ≡ y.map
  plain_steps [] [] s t h done e = ap plain (sym h) ∙ e
  plain_steps [] (f ∷ fs) s t h r e = absurd h
  plain_steps (p ∷ ps) [] s t h r e = absurd h
  plain_steps (p ∷ ps) (f ∷ fs) s t {x} (v, h, r) (step {u = w} k q) e =
      let a : Applies p x.map (plain v) = rw e at (facts.steps_apply I p f s v h) in
      plain_steps ps fs v t r q (same_map (plain v) w.map (applies_one p x.map (plain v) w.map x.lawful a k.applies))

  pub plain_runs : (m : Meaning I) {xs : List Patch} {s t : NodeMap I} {x y : LawfulMap} → Runs m xs s t → InTurn PatchLeads xs x y → plain s ≡ x.map → plain t ≡ y.map
  plain_runs m done done e = e
  plain_runs m {s} (step {p = x} {u = v} h r) (step k q) e = plain_runs m r q (plain_steps x.prims (m.effects x.info) s v h.steps k e)

  pub plain_root : (r : I) (t : LawfulMap) → IsRoot t → plain (root_of r) ≡ t.map
  plain_root r t h = same_map (plain (root_of r)) t.map at
    where
      at : (p : Path) → plain (root_of r) p ≡ t.map p
      at [] = sym h.root
      at (n ∷ p) = sym (h.alone n p)

  pub plain_fold : (m : Meaning I) (xs : List Patch) (s : NodeMap I) (t : LawfulMap) → Builds m xs s → Fold xs t → plain s ≡ t.map
  plain_fold m xs s t h f = plain_runs m h f.runs (plain_root m.root f.start f.is_root)

  -- what comes of a base that is as m says is so too
  module _ (m : Meaning I) (once : MakesOnce m) (kinds : Kinds) (pool : List (List ℕ)) (base : List Patch) (tree : NodeMap I) (ok : IsRepo base) (builds : Builds m base tree)
      (all : (b : Contents) → HasBundleIn kinds pool b → MeansSo m b) where
    abbrev IsMeant : List Patch → Type 0
    IsMeant repo = IsRepo repo × ((t : NodeMap I) × Builds m repo t)

    pub comes_meant : {repo : List Patch} → ComesOfIn kinds pool base repo → IsMeant repo
    comes_meant as_it_was = (ok, (tree, builds))
    comes_meant (took c p few (malformed fault at e same)) = rw same (comes_meant c)
    comes_meant (took c p few (no_memory e same)) = rw same (comes_meant c)
    comes_meant (took {repo} {after} {limits} {text} {policy} {verdict} c p few (bundle b r t)) =
        let k = comes_meant c in
        let stands = among_stands limits.kinds kinds text b few r.stands in
        taken_or_kept IsMeant repo b policy verdict after k
        (λ merged skipped g. (
          merge_is_repo repo b policy merged skipped k.0 stands.sections.patches.distinct g,
          taking_keeps_meaning I m once repo b policy merged skipped k.0 (all b (text, p, stands)) g k.1.0 k.1.1,
        ))
        t

  -- two repositories that are as m says, and have the same names, make the same tree
  pub names_decide_tree : (m : Meaning I) → MakesOnce m → (one other : List Patch) → IsRepo one × ((s : NodeMap I) × Builds m one s) → IsRepo other × ((t : NodeMap I) × Builds m other t) → NamesDecideTree one other
  names_decide_tree m once one other a b same s t f g =
      let e : a.1.0 ≡ b.1.0 = names_make_the_tree I m once one other a.1.0 b.1.0 a.0.distinct b.0.distinct same a.1.1 b.1.1 in
      tree_same s t (sym (plain_fold m one a.1.0 s a.1.1 f) ∙ ap plain e ∙ plain_fold m other b.1.0 t b.1.1 g)

  pub meanings_converge : laws.MeaningsConverge I
  meanings_converge m once kinds pool base tree ok builds all one other h k =
      names_decide_tree m once one other (comes_meant m once kinds pool base tree ok builds all h) (comes_meant m once kinds pool base tree ok builds all k)

-- patches whose folds are one make one tree
pub same_trees : (xs ys : List Patch) → ((s t : LawfulMap) → Fold xs s → Fold ys t → s ≡ t) → (s t : trees.Tree) → IsTreeOf xs s → IsTreeOf ys t → s ≡ t
same_trees xs ys f s t (u, e, g) (v, d, h) = let same : u ≡ v = f u v (grows_fold xs u g) (grows_fold ys v h) in map.same_map path_total path_same s t (λ p. ap (λ m. m p) (sym e ∙ ap (λ (z : LawfulMap). z.map) same ∙ d))
