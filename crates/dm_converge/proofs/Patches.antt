-- Patches that are what their names mean, in squares of splits and of merges.
use Rattle.std.proofs.Common.{ℕ, List, [], ◌∷◌, sym, ap, ◌∙◌}
use Rattle.dm_prim.specs.InTurn.{InTurn, done, step}
use Rattle.dm_prim.proofs.RectangleLemmas.{rectangle_runs}
use Rattle.dm_named.specs.Patches.{Patch}
use Rattle.dm_named.specs.Commuting.{Stays, NamedCommutes}
use Rattle.dm_repo.specs.declared.policy.Policy.{Policy}
use Rattle.dm_repo.specs.declared.policy.Policy.TheVariants.{Refuse, Skip}
use Rattle.dm_repo.specs.Staircases.{Split}
use Rattle.dm_repo.specs.Sifting.{Sifts, ends, merges, skips, MergesUnder}
use Rattle.dm_repo.specs.Squares.{Placed, placed, patches, Merges, PlacedCommutes, PlacedMerges}
use Rattle.dm_repo.specs.Weighing.{IsCommon}
use Rattle.dm_repo.proofs.Placed.{patches_placed}
use Rattle.dm_repo.proofs.Staircases.{runs_on, split_runs, rect_runs}
use Rattle.dm_facts.proofs.LawProofs as facts
use Rattle.dm_facts.specs.Nodes.{NodeMap}
use Rattle.dm_facts.specs.Runs.{StepsAll}
use Rattle.dm_converge.specs.Meanings.{Meaning, LeadsAs, Runs}
use Rattle.dm_converge.specs.Laws as laws

module _ (I : Type 0) (m : Meaning I) where
  effects_of : {x x' : Patch} {s t : NodeMap I} → Stays x x' → LeadsAs m x s t → StepsAll x.prims (m.effects x'.info) s t
  effects_of k h = rw k.info h.steps

  leads_as : {x x' : Patch} {s t u v : NodeMap I} → Stays x x' → LeadsAs m x s t → StepsAll x'.prims (m.effects x'.info) u v → LeadsAs m x' u v
  leads_as k h r = record { deps = k.deps ∙ h.deps ∙ ap m.deps (sym k.info); steps = r }

  pub named_leads : (x y y' x' : Patch) → NamedCommutes x y y' x' → (s t u : NodeMap I) → LeadsAs m x s t → LeadsAs m y t u →
      (v : NodeMap I) × LeadsAs m y' s v × LeadsAs m x' v u
  named_leads x y y' x' c s t u h k =
      let a = facts.list_effects_stay I x.prims y.prims y'.prims x'.prims c.prims (m.effects x'.info) (m.effects y'.info) s t u (effects_of c.x_stays h) (effects_of c.y_stays k) in
      (a.0, leads_as c.y_stays k a.1, leads_as c.x_stays h a.2)

  merged_leads : (r n n' r' : Patch) → Merges r n n' r' → (s t u : NodeMap I) → LeadsAs m r s t → LeadsAs m n s u →
      (v : NodeMap I) × LeadsAs m n' t v × LeadsAs m r' u v
  merged_leads r n n' r' c s t u h k =
      let a = facts.merged_effects_stay I r.prims n.prims n'.prims r'.prims c.prims (m.effects r'.info) (m.effects n'.info) s t u (effects_of c.r_stays h) (effects_of c.n_stays k) in
      (a.0, leads_as c.n_stays k a.1, leads_as c.r_stays h a.2)

  -- the same of patches with their places
  abbrev pub PlacedAs : Placed → NodeMap I → NodeMap I → Type 0
  PlacedAs x s t = LeadsAs m x.1 s t

  placed_leads : (x y y' x' : Placed) → PlacedCommutes x y y' x' → (s t u : NodeMap I) → PlacedAs x s t → PlacedAs y t u → (v : NodeMap I) × PlacedAs y' s v × PlacedAs x' v u
  placed_leads x y y' x' c s t u h k = named_leads x.1 y.1 y'.1 x'.1 c.commutes s t u h k

  placed_merges : (r n n' r' : Placed) → PlacedMerges r n n' r' → (s t u : NodeMap I) → PlacedAs r s t → PlacedAs n s u → (v : NodeMap I) × PlacedAs n' t v × PlacedAs r' u v
  placed_merges r n n' r' c s t u h k = merged_leads r.1 n.1 n'.1 r'.1 c.merges s t u h k

  without : {xs : List Placed} {s t : NodeMap I} → InTurn PlacedAs xs s t → Runs m (patches xs) s t
  without done = done
  without (step h r) = step h (without r)

  within : (xs : List Placed) {s t : NodeMap I} → Runs m (patches xs) s t → InTurn PlacedAs xs s t
  within [] done = done
  within (x ∷ xs) (step h r) = step h (within xs r)

  pub split_runs_as : (In : Placed → Type 0) (xs : List Patch) (front rest : List Placed) → Split PlacedCommutes In (placed xs) front rest →
      (s t : NodeMap I) → Runs m xs s t → (u : NodeMap I) × Runs m (patches front) s u × Runs m (patches rest) u t
  split_runs_as In xs front rest c s t h =
      let a = split_runs Placed (NodeMap I) PlacedCommutes PlacedAs placed_leads In c (within (placed xs) (rw (patches_placed 0 xs) h)) in
      (a.0, without a.1, without a.2)

  alone : {n : Placed} {s t : NodeMap I} → InTurn PlacedAs (n ∷ []) s t → PlacedAs n s t
  alone (step h done) = h

  sift_runs : {skipped rest new merged left : List Placed} {s u a b : NodeMap I} → Sifts skipped rest new merged left →
      InTurn PlacedAs skipped s u → InTurn PlacedAs new u a → InTurn PlacedAs rest s b → (z : NodeMap I) × InTurn PlacedAs merged b z
  sift_runs ends k done r = (_, done)
  sift_runs (merges o g) k (step h t) r =
      let v = rectangle_runs Placed (NodeMap I) PlacedCommutes PlacedAs placed_leads o.passes_skipped k (step h done) in
      let w = rect_runs Placed (NodeMap I) PlacedMerges PlacedAs placed_merges o.merges_past r v.1 in
      let z = sift_runs g v.2 t w.2 in (z.0, step (alone w.1) z.1)
  sift_runs (skips stuck g) k (step h t) r = sift_runs g (runs_on k (step h done)) t r

  pub under_runs_as : (policy : Policy) (rest new merged : List Placed) (skipped : ℕ) → MergesUnder policy rest new merged skipped →
      (s t u : NodeMap I) → Runs m (patches rest) s t → Runs m (patches new) s u → (v : NodeMap I) × Runs m (patches merged) t v
  under_runs_as Refuse rest new merged skipped (g, e) s t u r n =
      let z = rect_runs Placed (NodeMap I) PlacedMerges PlacedAs placed_merges g.1 (within rest r) (within new n) in (z.0, without z.1)
  under_runs_as Skip rest new merged skipped (some, (left, g, e)) s t u r n =
      let z = sift_runs g done (within new n) (within rest r) in (z.0, without z.1)

module _ (I : Type 0) where
  pub patches_keep_meaning : laws.PatchesKeepMeaning I
  patches_keep_meaning = named_leads I

  pub split_keeps_meaning : laws.SplitKeepsMeaning I
  split_keeps_meaning m repo b front rest c s t h = split_runs_as I m (IsCommon repo b) repo front rest c s t h

  pub merge_keeps_meaning : laws.MergeKeepsMeaning I
  merge_keeps_meaning = under_runs_as I
