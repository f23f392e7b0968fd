-- The laws of steps.
use Rattle.dm_prim.specs.Primitives.{Prim, inv}
use Rattle.dm_prim.proofs.TableRows.{square_from}
use Rattle.dm_prim.proofs.Ends.{inv_inv}
use Rattle.dm_facts.specs.Facts.{inverse}
use Rattle.dm_facts.specs.Laws as laws
use Rattle.dm_facts.proofs.StepLemmas.{applies}
use Rattle.dm_facts.proofs.Determined.{facts_determine}
use Rattle.dm_facts.proofs.Kept as kept
use Rattle.dm_facts.proofs.Sums as sums
use Rattle.dm_facts.proofs.Order as order
use Rattle.dm_facts.proofs.ListSteps as lists
use Rattle.dm_facts.proofs.Undoing.{steps_back}
use Rattle.dm_facts.proofs.BothWays.{square_steps}

module _ (I : Type 0) where
  pub steps_apply : laws.StepsApply I
  steps_apply p e s t h = applies I p e s t h

  pub inverses_step_back : laws.InversesStepBack I
  inverses_step_back p e s t = (steps_back I p e s t, λ h. rw (inv_inv p) at (steps_back I (inv p) (inverse e) t s h))

  pub effects_stay : laws.EffectsStay I
  effects_stay p q q' p' c e f s t u h k = square_steps I (square_from c.row) e f s t u h k

  pub steps_keep_trees : laws.StepsKeepTrees I
  steps_keep_trees = kept.steps_keep_trees I

  pub facts_determine_the_tree : laws.FactsDetermineTheTree I
  facts_determine_the_tree = facts_determine I

  pub steps_keep_the_sum : laws.StepsKeepTheSum I
  steps_keep_the_sum = sums.steps_keep_the_sum I

  pub effects_determine_the_end : laws.EffectsDetermineTheEnd I
  effects_determine_the_end = order.effects_determine_the_end I

  pub list_effects_stay : laws.ListEffectsStay I
  list_effects_stay = lists.list_effects_stay I

  pub merged_effects_stay : laws.MergedEffectsStay I
  merged_effects_stay = lists.merged_effects_stay I

  pub what_leads_steps : laws.WhatLeadsSteps I
  what_leads_steps = lists.what_leads_steps I
