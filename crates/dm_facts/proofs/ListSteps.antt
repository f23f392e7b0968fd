-- Steps of lists.
use Rattle.std.proofs.Common.{◌≡◌, ◌↔◌, inl, inr, ℕ, zero, suc, ◌≤◌, List, [], ◌∷◌, ◌++◌, length, Some, None, Contains, refl, sym, ap, subst, ◌∙◌, append-nil, append_assoc, length-append, arith}
use Rattle.std.proofs.lemmas.List.Elements.{Contains-append_left, Contains-append_right}
use Rattle.dm_prim.specs.InTurn.{done, step}
use Rattle.dm_prim.specs.Primitives.{AddFile, RmFile, AddDir, RmDir, Hunk, Binary, Replace, Prim, At, Move, ChangePref, inv, inv_all, Applies, LawfulMap, LeadsAll}
use Rattle.dm_prim.specs.Rectangles.{CellRow, none, next, empty, row}
use Rattle.dm_tree.specs.Paths.{Name, Path}
use Rattle.dm_tree.specs.Trees.{Dir, File, empty_file}
use Rattle.dm_prim.proofs.Undoing.{OffRoot}
use Rattle.dm_prim.specs.Commuting.{Commutes, ListsCommute}
use Rattle.dm_prim.proofs.LawProofs.{inv_all-inv_all}
use Rattle.dm_prim.proofs.TableRows.{square_from}
use Rattle.dm_chain.specs.Chains.{Distinct}
use Rattle.dm_chain.proofs.Members.{none_in_nil, head_is_in, next_is_in, in_cases, distinct-left, distinct-right, distinct-apart}
use Rattle.dm_facts.specs.Nodes.{NodeMap, plain, IsTree}
use Rattle.dm_facts.specs.Facts.{Effect, inverse}
use Rattle.dm_facts.specs.Steps.{Steps}
use Rattle.dm_facts.specs.Identities.{Introduces, IsIn, UsesOf, AddsNew, enough}
use Rattle.dm_facts.specs.Runs.{StepsAll, SharesNone, AllAddNew, enough_for_all}
use Rattle.dm_facts.specs.Laws.{ListEffectsStay, MergedEffectsStay, WhatLeadsSteps}
use Rattle.dm_facts.proofs.Undoing.{steps_back}
use Rattle.dm_facts.proofs.BothWays.{square_steps}
use Rattle.dm_facts.proofs.Made.{steps_off_root}
use Rattle.dm_facts.proofs.Kept.{steps_keep_trees}
use Rattle.dm_facts.proofs.Newness.{in_after, in_before}

no_name : (q : Path) (n : Name) → [] ≡ q ++ n ∷ [] → ⊥
no_name [] n e = cc
no_name (x ∷ q) n e = cc

-- what leads from one lawful map to another isn't at the root, which is a directory in both
pub off_root_between : (p : Prim) (a b : LawfulMap) → Applies p a.map b.map → OffRoot p
off_root_between (Move c d) a b h = tt
off_root_between (At p AddFile) a b h = λ e. absurd (no_name h.around.0 h.around.1 (sym e ∙ h.around.2))
off_root_between (At p AddDir) a b h = λ e. absurd (no_name h.around.0 h.around.1 (sym e ∙ h.around.2))
off_root_between (At p RmFile) a b h = λ e. let k : a.map [] ≡ Some empty_file = rw e at h.here.0 in let r : a.map [] ≡ Some Dir = a.lawful.root in absurd (cc)
off_root_between (At p RmDir) a b h = λ e. let k : b.map [] ≡ None = rw e at h.here.1 in let r : b.map [] ≡ Some Dir = b.lawful.root in absurd (cc)
off_root_between (ChangePref name old new) a b h = tt
off_root_between (At p (Binary old new)) a b h = λ e. let k : a.map [] ≡ Some (File old) = rw e at h.here.0 in let r : a.map [] ≡ Some Dir = a.lawful.root in absurd (cc)
off_root_between (At p (Hunk l old new)) a b h = λ e. let k : a.map [] ≡ Some (File h.here.0) = rw e at h.here.2 in let r : a.map [] ≡ Some Dir = a.lawful.root in absurd (cc)
off_root_between (At p (Replace set old new)) a b h = λ e. let k : a.map [] ≡ Some (File h.here.0) = rw e at h.here.2 in let r : a.map [] ≡ Some Dir = a.lawful.root in absurd (cc)

-- what undoes all of es: the inverses, in reversed order
abbrev inverse_all : {I : Type 0} → List (Effect I) → List (Effect I)
inverse_all [] = []
inverse_all (e ∷ es) = inverse_all es ++ inverse e ∷ []

module _ (I : Type 0) where
  pair : (p q q' p' : Prim) → Commutes p q q' p' → (e f : Effect I) (s t u : NodeMap I) → Steps p e s t → Steps q f t u → (m : NodeMap I) × Steps q' f s m × Steps p' e m u
  pair p q q' p' c e f s t u h k = square_steps I (square_from c.row) e f s t u h k

  cells : {x x' : Prim} {ys ys' : List Prim} → CellRow Commutes x ys ys' x' → (e : Effect I) (fs : List (Effect I)) (s t u : NodeMap I) → Steps x e s t → StepsAll ys fs t u →
      (m : NodeMap I) × StepsAll ys' fs s m × Steps x' e m u
  cells {x} none e [] s t u h k = (s, refl, subst (λ z. Steps x e s z) k h)
  cells none e (f ∷ fs) s t u h k = absurd k
  cells (next c r) e [] s t u h k = absurd k
  cells (next {x} {y} {y'} {x1} c r) e (f ∷ fs) s t u h (v, j, k) =
      let a = pair x y y' x1 c e f s t v h j in
      let b = cells r e fs a.0 v u a.2 k in
      (b.0, (a.0, a.1, b.1), b.2)

  rectangle : {xs ys ys' xs' : List Prim} → ListsCommute xs ys ys' xs' → (es fs : List (Effect I)) (s t u : NodeMap I) → StepsAll xs es s t → StepsAll ys fs t u →
      (m : NodeMap I) × StepsAll ys' fs s m × StepsAll xs' es m u
  rectangle (empty {ys}) [] fs s t u h k = (u, subst (λ z. StepsAll ys fs z u) (sym h) k, refl)
  rectangle empty (e ∷ es) fs s t u h k = absurd h
  rectangle (row g r) [] fs s t u h k = absurd h
  rectangle (row g r) (e ∷ es) fs s t u (v, i, h) k =
      let a = rectangle g es fs v t u h k in
      let b = cells r e fs s v a.0 i a.1 in
      (b.0, b.1, (a.0, b.2, a.2))

  pub list_effects_stay : ListEffectsStay I
  list_effects_stay xs ys ys' xs' g es fs s t u h k = rectangle g es fs s t u h k

  -- one list after another
  pub steps_on : (ps qs : List Prim) (es fs : List (Effect I)) (s t u : NodeMap I) → StepsAll ps es s t → StepsAll qs fs t u → StepsAll (ps ++ qs) (es ++ fs) s u
  steps_on [] qs [] fs s t u h k = subst (λ z. StepsAll qs fs z u) (sym h) k
  steps_on [] qs (e ∷ es) fs s t u h k = absurd h
  steps_on (p ∷ ps) qs [] fs s t u h k = absurd h
  steps_on (p ∷ ps) qs (e ∷ es) fs s t u (v, i, h) k = (v, i, steps_on ps qs es fs v t u h k)

  all_back : (ps : List Prim) (es : List (Effect I)) (s t : NodeMap I) → StepsAll ps es s t → StepsAll (inv_all ps) (inverse_all es) t s
  all_back [] [] s t h = sym h
  all_back [] (e ∷ es) s t h = absurd h
  all_back (p ∷ ps) [] s t h = absurd h
  all_back (p ∷ ps) (e ∷ es) s t (v, i, h) = steps_on (inv_all ps) (inv p ∷ []) (inverse_all es) (inverse e ∷ []) t v s (all_back ps es v t h) (s, steps_back I p e s v i, refl)

  inverse_all-append : (es fs : List (Effect I)) → inverse_all (es ++ fs) ≡ inverse_all fs ++ inverse_all es
  inverse_all-append [] fs = sym (append-nil (inverse_all fs))
  inverse_all-append (e ∷ es) fs = rw (inverse_all-append es fs) (append_assoc (inverse_all fs) (inverse_all es) (inverse e ∷ []))

  inverse_all-inverse_all : (es : List (Effect I)) → inverse_all (inverse_all es) ≡ es
  inverse_all-inverse_all [] = refl
  inverse_all-inverse_all (e ∷ es) = inverse_all-append (inverse_all es) (inverse e ∷ []) ∙ ap (λ z. e ∷ z) (inverse_all-inverse_all es)

  list_inverses_step_back : (ps : List Prim) (es : List (Effect I)) (s t : NodeMap I) → StepsAll ps es s t ↔ StepsAll (inv_all ps) (inverse_all es) t s
  list_inverses_step_back ps es s t = (all_back ps es s t, λ h. rw (inv_all-inv_all ps, inverse_all-inverse_all es) at (all_back (inv_all ps) (inverse_all es) t s h))

  pub merged_effects_stay : MergedEffectsStay I
  merged_effects_stay r n n' r' g es fs s t u h k =
      let a = list_effects_stay (inv_all r) n n' (inv_all r') g (inverse_all es) fs t s u (all_back r es s t h) k in
      (a.0, a.1, (list_inverses_step_back r' es u a.0).1 a.2)

  -- identities cut in two
  cut : (n : ℕ) (ids : List I) → n ≤ length ids → (xs : List I) × (ys : List I) × (ids ≡ xs ++ ys) × (length xs ≡ n)
  cut zero ids h = ([], ids, refl, refl)
  cut (suc n) [] h = absurd (omega arith)
  cut (suc n) (x ∷ ids) h = let r = cut n ids (omega arith) in (x ∷ r.0, r.1, ap (λ z. x ∷ z) r.2, ap suc r.3)

  -- what an effect introduces is of its list
  introduced : (ids : List I) (e : Effect I) → UsesOf ids e → (x : I) → Introduces e x → Contains ids x
  introduced ids e h x i = elim (h x i.0) [ inl k ↦ absurd (i.1 k) | inr k ↦ k ]

  -- effects that use identities that aren't in s add what is new to s
  new_to : (ids : List I) (s t : NodeMap I) → ((x : I) → Contains ids x → IsIn x s → ⊥) → (es : List (Effect I)) → ((e : Effect I) → Contains es e → UsesOf ids e) → AllAddNew es t → AllAddNew es s
  new_to ids s t new [] uses all = tt
  new_to ids s t new (e ∷ es) uses (here, apart, all) = (
    record { new = λ x i. new x (introduced ids e (uses e (head_is_in e es)) x i); apart = here.apart },
    apart,
    new_to ids s t new es (λ d c. uses d (next_is_in e d es c)) all,
  )

  -- what comes of a list: its effects, and the tree that it makes
  abbrev pub Made : List Prim → NodeMap I → LawfulMap → List I → Type 0
  Made ps s b ids = (es : List (Effect I)) × (t : NodeMap I) × StepsAll ps es s t × (plain t ≡ b.map) × AllAddNew es s × ((e : Effect I) → Contains es e → UsesOf ids e)

  -- identities that were not needed for a step are still new after it
  rest_new : (p : Prim) (e : Effect I) (s u : NodeMap I) (xs ys : List I) → Steps p e s u → UsesOf xs e → Distinct (xs ++ ys) → ((x : I) → Contains (xs ++ ys) x → IsIn x s → ⊥) → (x : I) → Contains ys x → IsIn x u → ⊥
  rest_new p e s u xs ys h uses apart new x c i = elim (in_after I p e s u h x i) [
    | inl j ↦ new x (Contains-append_right xs ys x c) j
    | inr j ↦ elim (uses x j) [
      | inl k ↦ new x (Contains-append_right xs ys x c) (in_before I p e s u h x k)
      | inr k ↦ distinct-apart xs ys apart x k c
    ]
  ]

  one_more : (p : Prim) (ps : List Prim) (s u : NodeMap I) (e : Effect I) (b : LawfulMap) (xs ys : List I) → Steps p e s u → AddsNew e s → UsesOf xs e → Distinct (xs ++ ys) →
      ((x : I) → Contains (xs ++ ys) x → IsIn x s → ⊥) → Made ps u b ys → Made (p ∷ ps) s b (xs ++ ys)
  one_more p ps s u e b xs ys h here uses apart new (es, t, run, is, all, their) = (
    e ∷ es,
    t,
    (u, h, run),
    is,
    (here, share, new_to ys s u (λ x c. new x (Contains-append_right xs ys x c)) es their all),
    λ d c. elim (in_cases e d es c) [
      | inl i ↦ subst (λ z. UsesOf (xs ++ ys) z) i (λ x k. elim (uses x k) [ inl j ↦ inl j | inr j ↦ inr (Contains-append_left xs ys x j) ])
      | inr i ↦ λ x k. elim (their d i x k) [ inl j ↦ inl j | inr j ↦ inr (Contains-append_right xs ys x j) ]
    ],
  )
    where
      share : SharesNone e es
      share d c x i j = distinct-apart xs ys apart x (introduced xs e uses x i) (introduced ys d (their d c) x j)

  made : {ps : List Prim} {a b : LawfulMap} → LeadsAll ps a b → (s : NodeMap I) (ids : List I) → IsTree s → plain s ≡ a.map →
      Distinct ids → enough_for_all ps ≤ length ids → ((x : I) → Contains ids x → IsIn x s → ⊥) → Made ps s b ids
  made done s ids tree is apart k new = ([], s, refl, is, tt, λ e c. absurd (none_in_nil e c))
  made (step {p} {ps} {s = a} {u = m} {z = b} h r) s ids tree is apart k new = go (λ t ys tr i ap l n. made r t ys tr i ap l n) (cut (enough p) ids (omega arith))
    where
      go : ((t : NodeMap I) (ys : List I) → IsTree t → plain t ≡ m.map → Distinct ys → enough_for_all ps ≤ length ys → ((x : I) → Contains ys x → IsIn x t → ⊥) → Made ps t b ys) →
          (xs : List I) × (ys : List I) × (ids ≡ xs ++ ys) × (length xs ≡ enough p) → Made (p ∷ ps) s b ids
      go again (xs, ys, i, n) =
          let parted : Distinct (xs ++ ys) = subst (λ z. Distinct z) i apart in
          let fresh : (x : I) → Contains (xs ++ ys) x → IsIn x s → ⊥ = subst (λ z. (x : I) → Contains z x → IsIn x s → ⊥) i new in
          let rest : enough_for_all ps ≤ length ys = omega (arith, ap length i, length-append xs ys) in
          let one = steps_off_root I p s m.map xs (off_root_between p a m h.applies) tree (subst (λ z. Applies p z m.map) (sym is) h.applies) (distinct-left xs ys parted) (omega arith)
          (λ x c. fresh x (Contains-append_left xs ys x c)) in
          let later = again one.1 ys (steps_keep_trees I p one.0 s one.1 tree one.2 one.4) one.3 (distinct-right xs ys parted) rest
          (rest_new p one.0 s one.1 xs ys one.2 one.5 parted fresh) in
          subst (λ z. Made (p ∷ ps) s b z) (sym i) (one_more p ps s one.1 one.0 b xs ys one.2 one.4 one.5 parted fresh later)

  pub what_leads_steps : WhatLeadsSteps I
  what_leads_steps ps s a b ids tree is lead apart k new = made lead s ids tree is apart k new
