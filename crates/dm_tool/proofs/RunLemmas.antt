-- What posters send, as a run takes them.
use Rattle.std.proofs.Common.{◌≡◌, List, [], ◌∷◌, ℕ, Result, IfOk, IfErr, refl, ap, subst}
use Rattle.dm_mirror.specs.declared.plan.PlanFault.{PlanFault}
use Rattle.dm_commands.specs.Alike.{HasFaultAs, IsRanAs}
use Rattle.dm_commands.specs.Running.{NamedPoster, bytes_of, texts_in}
use Rattle.dm_commands.specs.declared.alike.Mirrors.{Mirrors}
use Rattle.dm_commands.specs.declared.fault.ToolFault.{ToolFault}
use Rattle.dm_commands.specs.declared.fault.ToolFault.TheVariants.{BadPlan}
use Rattle.dm_commands.specs.declared.running.Ran.{Ran}
use Rattle.dm_tool.specs.Posters.{texts_sent}
use Rattle.dm_tool.specs.Held.{named}

pub texts_named : (run : List NamedPoster) → texts_in run ≡ texts_sent (named run)
texts_named [] = refl
texts_named (p ∷ ps) = ap (λ (l : List (List (List ℕ))). bytes_of p.1.now ∷ l) (texts_named ps)

-- the same of equal texts
module _ (texts same : List (List (List ℕ))) (mirrors : Mirrors) (r : Result ℕ ToolFault) (e : texts ≡ same) where
  pub status_of_texts : IfOk r (λ status. (ran : Ran) × IsRanAs texts mirrors ran × (ran.status ≡ status)) → IfOk r (λ status. (ran : Ran) × IsRanAs same mirrors ran × (ran.status ≡ status))
  status_of_texts h = subst (λ (t : List (List (List ℕ))). IfOk r (λ status. (ran : Ran) × IsRanAs t mirrors ran × (ran.status ≡ status))) e h

  pub bad_plan_of_texts : IfErr r (λ x. (fault : PlanFault) → x ≡ BadPlan fault → HasFaultAs texts mirrors fault) → IfErr r (λ x. (fault : PlanFault) → x ≡ BadPlan fault → HasFaultAs same mirrors fault)
  bad_plan_of_texts h = subst (λ (t : List (List (List ℕ))). IfErr r (λ x. (fault : PlanFault) → x ≡ BadPlan fault → HasFaultAs t mirrors fault)) e h
