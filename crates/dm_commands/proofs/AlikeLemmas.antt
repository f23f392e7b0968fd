-- A run of mirrors that begin alike is one of as many copies of their base and policy.
use Rattle.std.proofs.Common.{◌≡◌, ℕ, zero, suc, List, ◌∷◌, refl, ap, subst, ◌∙◌}
use Rattle.std.proofs.Math.ListN.{replicate}
use Rattle.std.specs.Prelude.{IfErr, IfOk, Option, Result}
use Rattle.std.specs.Borrow.{Bor}
use Rattle.dm_repo.specs.declared.policy.Policy.{Policy}
use Rattle.dm_mirror.specs.declared.plan.PlanFault.{PlanFault}
use Rattle.dm_mirror.specs.Plans.{IsFirstFault}
use Rattle.dm_commands.specs.declared.fault.ToolFault.{ToolFault}
use Rattle.dm_commands.specs.declared.fault.ToolFault.TheVariants.{BadPlan, Write}
use Rattle.dm_commands.specs.declared.running.Ran.{Ran}
use Rattle.dm_commands.specs.declared.alike.Mirrors.{Mirrors}
use Rattle.dm_commands.specs.Running.{IsRan, RunsTo, bytes_of}
use Rattle.dm_commands.specs.Alike.{HasFaultAs, IsRanAs, RunsAs, made}
use Rattle.dm_commands.specs.Streams.{Writes, WritesPrefix}

-- copies of a base, and of a policy
bytes_replicate : (n : ℕ) (x : Bor (List ℕ)) → bytes_of (replicate n x) ≡ replicate n x.now
bytes_replicate zero x = refl
bytes_replicate (suc n) x = ap (λ (l : List (List ℕ)). x.now ∷ l) (bytes_replicate n x)

pub bases_are : (xs ys : List (Bor (List ℕ))) (n m : ℕ) (x : Bor (List ℕ)) → xs ≡ ys → ys ≡ replicate n x → n ≡ m → bytes_of xs ≡ replicate m x.now
bases_are xs ys n m x e f g = ap bytes_of (e ∙ f) ∙ (bytes_replicate n x ∙ ap (λ (k : ℕ). replicate k x.now) g)

pub policies_are : (xs ys : List Policy) (n m : ℕ) (x : Policy) → xs ≡ ys → ys ≡ replicate n x → n ≡ m → xs ≡ replicate m x
policies_are xs ys n m x e f g = e ∙ (f ∙ ap (λ (k : ℕ). replicate k x) g)

-- what holds of these bases and policies holds of the copies
of_copies : (Holds : List (List ℕ) → List Policy → Type 0) (m : Mirrors) (bases : List (List ℕ)) (policies : List Policy) →
    bases ≡ replicate (made m.count) m.base.text.now → policies ≡ replicate (made m.count) m.policy → Holds bases policies →
    Holds (replicate (made m.count) m.base.text.now) (replicate (made m.count) m.policy)
of_copies Holds m bases policies e f h = subst (λ (ps : List Policy). Holds (replicate (made m.count) m.base.text.now) ps) f (subst (λ (bs : List (List ℕ)). Holds bs policies) e h)

pub writes_as : {E : Type 0} (r : Result Ran E) (names : List (List ℕ)) (texts : List (List (List ℕ))) (m : Mirrors) (bases : List (List ℕ)) (policies : List Policy) (before after : Option (List ℕ)) →
    bases ≡ replicate (made m.count) m.base.text.now → policies ≡ replicate (made m.count) m.policy →
    IfOk r (λ ran. Writes (RunsTo names texts bases m.base.limits policies m.bound) before after ran.status) →
    IfOk r (λ ran. Writes (RunsAs names texts m) before after ran.status)
writes_as r names texts m bases policies before after e f h =
    of_copies (λ bs ps. IfOk r (λ ran. Writes (RunsTo names texts bs m.base.limits ps m.bound) before after ran.status)) m bases policies e f h

pub ran_as : {E : Type 0} (r : Result Ran E) (texts : List (List (List ℕ))) (m : Mirrors) (bases : List (List ℕ)) (policies : List Policy) →
    bases ≡ replicate (made m.count) m.base.text.now → policies ≡ replicate (made m.count) m.policy →
    IfOk r (IsRan texts bases m.base.limits policies m.bound) → IfOk r (IsRanAs texts m)
ran_as r texts m bases policies e f h = of_copies (λ bs ps. IfOk r (IsRan texts bs m.base.limits ps m.bound)) m bases policies e f h

pub fails_as : {T : Type 0} (r : Result T ToolFault) (texts : List (List (List ℕ))) (m : Mirrors) (bases : List (List ℕ)) (policies : List Policy) →
    bases ≡ replicate (made m.count) m.base.text.now → policies ≡ replicate (made m.count) m.policy →
    IfErr r (λ e. (fault : PlanFault) → e ≡ BadPlan fault → IsFirstFault m.base.limits texts bases policies m.bound fault) →
    IfErr r (λ e. (fault : PlanFault) → e ≡ BadPlan fault → HasFaultAs texts m fault)
fails_as r texts m bases policies e f h =
    of_copies (λ bs ps. IfErr r (λ e. (fault : PlanFault) → e ≡ BadPlan fault → IsFirstFault m.base.limits texts bs ps m.bound fault)) m bases policies e f h

pub cut_as : {T : Type 0} (r : Result T ToolFault) (names : List (List ℕ)) (texts : List (List (List ℕ))) (m : Mirrors) (bases : List (List ℕ)) (policies : List Policy) (before after : Option (List ℕ)) →
    bases ≡ replicate (made m.count) m.base.text.now → policies ≡ replicate (made m.count) m.policy →
    IfErr r (λ e. e ≡ Write → WritesPrefix (RunsTo names texts bases m.base.limits policies m.bound) before after) →
    IfErr r (λ e. e ≡ Write → WritesPrefix (RunsAs names texts m) before after)
cut_as r names texts m bases policies before after e f h =
    of_copies (λ bs ps. IfErr r (λ e. e ≡ Write → WritesPrefix (RunsTo names texts bs m.base.limits ps m.bound) before after)) m bases policies e f h
