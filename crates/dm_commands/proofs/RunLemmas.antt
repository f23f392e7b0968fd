-- What is printed of a run's posters.
use Rattle.std.proofs.Common.{◌≡◌, ℕ, suc, ◌+◌, List, [], ◌∷◌, ◌++◌, length, map, take, slice_index_or, length-take-le, ◌<◌, sym, ap, ◌∙◌, arith, subst, ◌⊎◌, inl, inr, append_assoc, append-nil}
use Rattle.std.proofs.lemmas.List.{length-map, map_more}
use Rattle.dm_named.specs.declared.limits.Limits.{Limits}
use Rattle.dm_named.specs.Patches.{Patch}
use Rattle.dm_repo.specs.declared.policy.Policy.{Policy}
use Rattle.dm_mirror.specs.declared.outcome.Outcome.{Outcome}
use Rattle.dm_mirror.specs.declared.plan.PlanFault.{PlanFault}
use Rattle.dm_mirror.specs.Plans.{IsFirstFault}
use Rattle.dm_mirror.specs.Runs.{IsRunOf}
use Rattle.dm_commands.specs.declared.fault.ToolFault.{ToolFault}
use Rattle.dm_commands.specs.declared.fault.ToolFault.TheVariants.{NoMemory, BadPlan}
use Rattle.dm_commands.specs.Running.{poster_line, posters_text}

-- one poster more
pub posters_more : (n : ℕ) (names : List (List ℕ)) (name : List ℕ) → posters_text n (names ++ name ∷ []) ≡ posters_text n names ++ poster_line (n + length names) name
posters_more n [] name = append-nil (poster_line n name) ∙ (let e : n ≡ n + 0 = omega arith in ap (λ k. poster_line k name) e)
posters_more n (x ∷ names) name =
    let e : suc n + length names ≡ n + suc (length names) = omega arith in
    ap (λ l. poster_line n x ++ l) (posters_more (suc n) names name ∙ ap (λ k. posters_text (suc n) names ++ poster_line k name) e) ∙
    sym (append_assoc (poster_line n x) (posters_text (suc n) names) (poster_line (n + length (x ∷ names)) name))

no_plan : (f : PlanFault) → NoMemory ≡ BadPlan f → ⊥
no_plan f e = cc e

one_plan : (f g : PlanFault) → BadPlan f ≡ BadPlan g → f ≡ g
one_plan f g e = cc

-- the fault of a plan that is reported is the plan's
of_plan : (P : PlanFault → Type 0) (f : PlanFault) (e : ToolFault) → P f → (e ≡ NoMemory) ⊎ (e ≡ BadPlan f) → (fault : PlanFault) → e ≡ BadPlan fault → P fault
of_plan P f e p (inl x) fault is = absurd (no_plan fault (sym x ∙ is))
of_plan P f e p (inr x) fault is = subst P (one_plan f fault (sym x ∙ is)) p

-- the same lists, of texts that are borrowed
pub same_lists : {A : Type 0} {B : Type 0} (f : A → B) (xs ys : List A) (zs : List B) → xs ≡ ys → map f ys ≡ zs → map f xs ≡ zs
same_lists f xs ys zs e is = ap (map f) e ∙ is

-- one turn of a loop over posters
pub posters_step : {X : Type 0} (name : X → List ℕ) (out before new : List ℕ) (xs : List X) (i : ℕ) (d : X) → i < length xs → before ≡ out ++ posters_text 0 (map name (take i xs)) →
    new ≡ before ++ poster_line i (name (slice_index_or xs i d)) → new ≡ out ++ posters_text 0 (map name (take (i + 1) xs))
posters_step name out before new xs i d l so_far is =
    let names = map name (take i xs) in
    let x = name (slice_index_or xs i d) in
    let n : 0 + length names ≡ i = omega (arith, length-map (take i xs) name, length-take-le i xs) in
    let line : posters_text 0 names ++ poster_line i x ≡ posters_text 0 (map name (take (i + 1) xs)) =
    ap (λ k. posters_text 0 names ++ poster_line k x) (sym n) ∙ (sym (posters_more 0 names x) ∙ ap (posters_text 0) (sym (map_more name xs i d l))) in
    is ∙ (ap (λ t. t ++ poster_line i x) so_far ∙ (append_assoc out (posters_text 0 names) (poster_line i x) ∙ ap (λ t. out ++ t) line))

-- the fault of a plan that is reported is the first of the texts that were handed in
pub bad_plan : (limits : Limits) (ts us : List (List (List ℕ))) (bases : List (List ℕ)) (policies : List Policy) (bound : ℕ) (f : PlanFault) (e : ToolFault) → ts ≡ us → IsFirstFault limits ts bases policies bound f → (e ≡ NoMemory) ⊎ (e ≡ BadPlan f) →
    (fault : PlanFault) → e ≡ BadPlan fault → IsFirstFault limits us bases policies bound fault
bad_plan limits ts us bases policies bound f e same is from = of_plan (IsFirstFault limits us bases policies bound) f e (subst (λ t. IsFirstFault limits t bases policies bound f) same is) from

-- the same run, told by other names for what it is of
pub run_of : (texts texts' : List (List (List ℕ))) (starts : List (List Patch)) (policies policies' : List Policy) (bound bound' : ℕ) (o : Outcome) →
    texts ≡ texts' → policies ≡ policies' → bound ≡ bound' → IsRunOf texts starts policies bound o → IsRunOf texts' starts policies' bound' o
run_of texts texts' starts policies policies' bound bound' o t p b run =
    subst (λ (x : ℕ). IsRunOf texts' starts policies' x o) b
    (subst (λ (x : List Policy). IsRunOf texts' starts x bound o) p (subst (λ (x : List (List (List ℕ))). IsRunOf x starts policies bound o) t run))
