-- Meanings over numbers: what patches do is found by applying them, with the next numbers as identities.
use Rattle.std.proofs.Common.{◌≡◌, ◌≢◌, ◌⊎◌, inl, inr, ℕ, zero, suc, ◌+◌, ◌<◌, ◌≤◌, List, [], ◌∷◌, length, refl, sym, ap, subst, ◌∙◌, arith}
use Rattle.std.specs.List.{Contains}
use Rattle.std.proofs.lemmas.Bool.{cases_Bool, false≢true}
use Rattle.std.proofs.lemmas.List.Elements.{Contains-append_cases}
use Rattle.dm_info.specs.PatchInfo.{PatchInfo}
use Rattle.dm_info.specs.Compared.{info_eq}
use Rattle.dm_info.specs.ComparedLaws.{info_same, same_info}
use Rattle.dm_prim.specs.InTurn.{InTurn, done, step}
use Rattle.dm_prim.specs.Primitives.{Prim, LawfulMap, LeadsAll}
use Rattle.dm_named.specs.Patches.{Patch}
use Rattle.dm_bundle.specs.Patches.{infos_of, Distinct}
use Rattle.dm_repo.specs.Repositories.{Holds}
use Rattle.dm_repo.specs.Folds.{PatchLeads}
use Rattle.dm_repo.proofs.Members.{here, more, one_of, none_of}
use Rattle.dm_chain.specs.Chains as chains
use Rattle.dm_facts.specs.Nodes.{Folder, NodeMap, plain, IsTree}
use Rattle.dm_facts.specs.Facts.{Effect}
use Rattle.dm_facts.specs.Identities.{subjects_of, Introduces, IsIn, UsesOf}
use Rattle.dm_facts.specs.Runs.{StepsAll, SharesNone, AllAddNew, enough_for_all}
use Rattle.dm_facts.proofs.LawProofs as facts
use Rattle.dm_facts.proofs.Newness.{in_after, in_before, new_after}
use Rattle.dm_converge.specs.Meanings.{Meaning, LeadsAs, Runs, root_of, MakesOnce, Builds}
use Rattle.dm_converge.proofs.Orders.{effects_of, prims_of, runs_all, all_new, root_tree}

-- whether two names are the same can be told
pub info_told : (i j : PatchInfo) → (i ≡ j) ⊎ (i ≢ j)
info_told i j = elim (cases_Bool (info_eq i j)) [ inl e ↦ inl (info_same i j e) | inr e ↦ inr (λ k. false≢true (sym e ∙ same_info i j k)) ]

-- numbers from n on
abbrev counted : ℕ → ℕ → List ℕ
counted n zero = []
counted n (suc k) = n ∷ counted (n + 1) k

counted_length : (n k : ℕ) → length (counted n k) ≡ k
counted_length n zero = refl
counted_length n (suc k) = ap suc (counted_length (n + 1) k)

counted_within : (n k x : ℕ) → Contains (counted n k) x → (n ≤ x) × (x < n + k)
counted_within n zero x c = absurd (none_of c)
counted_within n (suc k) x c = elim (one_of n (counted (n + 1) k) c) [
  | inl e ↦ (omega (arith, e), omega (arith, e))
  | inr d ↦ let r = counted_within (n + 1) k x d in (omega (arith, r.0), omega (arith, r.1))
]

counted_apart : (n k : ℕ) → chains.Distinct (counted n k)
counted_apart n zero = tt
counted_apart n (suc k) = (λ c. let r = counted_within (n + 1) k n c in absurd (omega (arith, r.0)), counted_apart (n + 1) k)

-- all identities in the tree are below n
abbrev pub IsBelow : ℕ → NodeMap ℕ → Type 0
IsBelow n s = (x : ℕ) → IsIn x s → x < n

-- so is what the effects add facts about
abbrev AddBelow : ℕ → List (Effect ℕ) → Type 0
AddBelow n es = (e : Effect ℕ) → Contains es e → (x : ℕ) → Contains (subjects_of e.added) x → x < n

pub root_below : (n r : ℕ) → r < n → IsBelow n (root_of r)
root_below n r l x ([], y, e, i) = let k : Folder r ≡ y = cc in let j : r ≡ x = rw (← k) at i in omega (arith, l, j)
root_below n r l x (m ∷ p, y, e, i) = absurd (cc)

run_below : (n : ℕ) (ps : List Prim) (es : List (Effect ℕ)) (s t : NodeMap ℕ) → StepsAll ps es s t → IsBelow n s → AddBelow n es → IsBelow n t
run_below n [] [] s t h b a = rw h at b
run_below n [] (e ∷ es) s t h b a = absurd h
run_below n (p ∷ ps) [] s t h b a = absurd h
run_below n (p ∷ ps) (e ∷ es) s t (u, h, r) b a =
    run_below n ps es u t r (λ x i. elim (in_after ℕ p e s u h x i) [ inl j ↦ b x j | inr j ↦ a e (here e es) x j ]) (λ d c. a d (more e es c))

uses_below : (n : ℕ) (ids : List ℕ) (ps : List Prim) (es : List (Effect ℕ)) (s t : NodeMap ℕ) → ((x : ℕ) → Contains ids x → x < n) → StepsAll ps es s t → IsBelow n s →
    ((e : Effect ℕ) → Contains es e → UsesOf ids e) → AddBelow n es
uses_below n ids ps [] s t f h b u = λ e c. absurd (none_of c)
uses_below n ids [] (e ∷ es) s t f h b u = absurd h
uses_below n ids (p ∷ ps) (e ∷ es) s t f (v, h, r) b u =
    all (uses_below n ids ps es v t f r (λ x i. elim (in_after ℕ p e s v h x i) [ inl j ↦ b x j | inr j ↦ first x j ]) (λ d c. u d (more e es c)))
  where
    first : (x : ℕ) → Contains (subjects_of e.added) x → x < n
    first x c = elim (u e (here e es) x c) [ inl k ↦ b x (in_before ℕ p e s v h x k) | inr k ↦ f x k ]

    all : AddBelow n es → AddBelow n (e ∷ es)
    all rest d c = elim (one_of e es c) [ inl k ↦ rw (← k) first | inr k ↦ rest d k ]

run_tree : (ps : List Prim) (es : List (Effect ℕ)) (s t : NodeMap ℕ) → StepsAll ps es s t → AllAddNew es s → IsTree s → IsTree t
run_tree [] [] s t h a tree = rw h at tree
run_tree [] (e ∷ es) s t h a tree = absurd h
run_tree (p ∷ ps) [] s t h a tree = absurd h
run_tree (p ∷ ps) (e ∷ es) s t (u, h, r) a tree = run_tree ps es u t r (new_after ℕ p e s u h es a.1 a.2) (facts.steps_keep_trees ℕ p e s u tree h a.0)

-- each identity is introduced once, and all are below n
pub record IsUpTo (m : Meaning ℕ) (n : ℕ) : Type 0 where
  pub once : MakesOnce m
  pub root : m.root < n
  pub below : (i : PatchInfo) → AddBelow n (m.effects i)

-- one of two
abbrev choose : {A X : Type 0} → X ⊎ (X → ⊥) → A → A → A
choose (inl h) a b = a
choose (inr h) a b = b

by_choice : {A X : Type 0} (P : A → Type 0) (d : X ⊎ (X → ⊥)) (a b : A) → (X → P a) → ((X → ⊥) → P b) → P (choose d a b)
by_choice P (inl h) a b f g = f h
by_choice P (inr h) a b f g = g h

-- m, but the patch x has these effects
abbrev meaning_with : Meaning ℕ → Patch → List (Effect ℕ) → Meaning ℕ
meaning_with m x es = record { root = m.root; deps = λ i. choose (info_told i x.info) x.deps (m.deps i); effects = λ i. choose (info_told i x.info) es (m.effects i) }

-- two meanings are the same but for these names
pub record AgreeBut (names : List PatchInfo) (m k : Meaning ℕ) : Type 0 where
  pub root : k.root ≡ m.root
  pub deps : (i : PatchInfo) → (Contains names i → ⊥) → k.deps i ≡ m.deps i
  pub effects : (i : PatchInfo) → (Contains names i → ⊥) → k.effects i ≡ m.effects i

with_agrees : (m : Meaning ℕ) (x : Patch) (es : List (Effect ℕ)) → AgreeBut (x.info ∷ []) m (meaning_with m x es)
with_agrees m x es = record {
  root = refl;
  deps = λ i n. by_choice (λ z. z ≡ m.deps i) (info_told i x.info) x.deps (m.deps i) (λ e. absurd (n (rw e (here x.info [])))) (λ h. refl);
  effects = λ i n. by_choice (λ z. z ≡ m.effects i) (info_told i x.info) es (m.effects i) (λ e. absurd (n (rw e (here x.info [])))) (λ h. refl);
}

leads_agree : {names : List PatchInfo} {m k : Meaning ℕ} {x : Patch} {s t : NodeMap ℕ} → AgreeBut names m k → (Contains names x.info → ⊥) → LeadsAs m x s t → LeadsAs k x s t
leads_agree {x} a n h = record { deps = h.deps ∙ sym (a.deps x.info n); steps = rw (a.effects x.info n) h.steps }

-- patches of other names mean the same by both
pub runs_agree : {names : List PatchInfo} {m k : Meaning ℕ} → AgreeBut names m k → (xs : List Patch) {s t : NodeMap ℕ} → ((i : PatchInfo) → Holds xs i → Contains names i → ⊥) → Runs m xs s t → Runs k xs s t
runs_agree a [] n done = done
runs_agree a (x ∷ xs) n (step h r) = step (leads_agree a (n x.info (here x.info (infos_of xs))) h) (runs_agree a xs (λ i c. n i (more x.info (infos_of xs) c)) r)

pub builds_agree : {names : List PatchInfo} {m k : Meaning ℕ} → AgreeBut names m k → (xs : List Patch) {t : NodeMap ℕ} → ((i : PatchInfo) → Holds xs i → Contains names i → ⊥) → Builds m xs t → Builds k xs t
builds_agree {k} a xs {t} n h = subst (λ z. Runs k xs (root_of z) t) (sym a.root) (runs_agree a xs n h)

-- effects whose new identities are from n on
module _ (m : Meaning ℕ) (n : ℕ) (up : IsUpTo m n) (x : Patch) (es : List (Effect ℕ)) (above : (e : Effect ℕ) → Contains es e → (y : ℕ) → Introduces e y → n ≤ y) where
  new_to_root : (s : NodeMap ℕ) (ds : List (Effect ℕ)) → ((e : Effect ℕ) → Contains ds e → (y : ℕ) → Introduces e y → n ≤ y) → AllAddNew ds s → AllAddNew ds (root_of m.root)
  new_to_root s [] f h = tt
  new_to_root s (e ∷ ds) f h = (
    record { new = λ y i k. let l = root_below n m.root up.root y k in let g = f e (here e ds) y i in absurd (omega (arith, l, g)); apart = h.0.apart },
    h.1,
    new_to_root s ds (λ d c. f d (more e ds c)) h.2,
  )

  -- they share nothing with those that are below n
  apart_from : (i : PatchInfo) (e : Effect ℕ) → Contains es e → SharesNone e (m.effects i)
  apart_from i e c d k y a b = let l = up.below i d k y b.0 in let g = above e c y a in absurd (omega (arith, l, g))

  apart_back : (i : PatchInfo) (e : Effect ℕ) → Contains (m.effects i) e → SharesNone e es
  apart_back i e c d k y a b = let l = up.below i e c y a.0 in let g = above d k y b in absurd (omega (arith, l, g))

  pub with_once : (s : NodeMap ℕ) → AllAddNew es s → MakesOnce (meaning_with m x es)
  with_once s h = record {
    within = λ i. by_choice (λ z. AllAddNew z (root_of m.root)) (info_told i x.info) es (m.effects i) (λ e. new_to_root s es above h) (λ e. up.once.within i);
    between = λ i j n. by_choice (λ z. (e : Effect ℕ) → Contains z e → SharesNone e (choose (info_told j x.info) es (m.effects j))) (info_told i x.info) es (m.effects i)
        (λ p e c. by_choice (λ z. SharesNone e z) (info_told j x.info) es (m.effects j) (λ q. absurd (n (p ∙ sym q))) (λ q. apart_from j e c))
        (λ p e c. by_choice (λ z. SharesNone e z) (info_told j x.info) es (m.effects j) (λ q. apart_back i e c) (λ q. up.once.between i j n e c));
  }

  pub with_below : (k : ℕ) → n ≤ k → AddBelow k es → (i : PatchInfo) → AddBelow k ((meaning_with m x es).effects i)
  with_below k l b i = by_choice (λ z. AddBelow k z) (info_told i x.info) es (m.effects i) (λ e. b) (λ h e c y a. let g = up.below i e c y a in omega (arith, l, g))

-- a patch that leads from a tree is given effects, with the next numbers
pub record Given (m : Meaning ℕ) (x : Patch) (s : NodeMap ℕ) (b : LawfulMap) : Type 0 where
  pub next : Meaning ℕ
  pub bound : ℕ
  pub up : IsUpTo next bound
  pub agrees : AgreeBut (x.info ∷ []) m next
  pub tree : NodeMap ℕ
  pub leads : LeadsAs next x s tree
  pub same : plain tree ≡ b.map
  pub is_tree : IsTree tree
  pub below : IsBelow bound tree

pub give : (m : Meaning ℕ) (n : ℕ) → IsUpTo m n → (x : Patch) (s : NodeMap ℕ) (a b : LawfulMap) → IsTree s → IsBelow n s → plain s ≡ a.map → LeadsAll x.prims a b → Given m x s b
give m n up x s a b tree low same h =
    let k = enough_for_all x.prims in
    let ids = counted n k in
    let r = facts.what_leads_steps ℕ x.prims s a b ids tree same h (counted_apart n k) (omega (arith, counted_length n k))
    (λ y c i. let l = low y i in let g = (counted_within n k y c).0 in absurd (omega (arith, l, g))) in
    let es = r.0 in
    let above : (e : Effect ℕ) → Contains es e → (y : ℕ) → Introduces e y → n ≤ y = λ e c y i. elim (r.5 e c y i.0) [ inl t ↦ absurd (i.1 t) | inr t ↦ (counted_within n k y t).0 ] in
    let start : IsBelow (n + k) s = λ y i. let l = low y i in omega (arith, l) in
    let added : AddBelow (n + k) es = uses_below (n + k) ids x.prims es s r.1 (λ y c. (counted_within n k y c).1) r.2 start r.5 in
    let rl = up.root in
    record {
      next = meaning_with m x es;
      bound = n + k;
      up = record { once = with_once m n up x es above s r.4; root = omega (arith, rl); below = with_below m n up x es above (n + k) (omega arith) added };
      agrees = with_agrees m x es;
      tree = r.1;
      leads = record {
        deps = by_choice (λ z. x.deps ≡ z) (info_told x.info x.info) x.deps (m.deps x.info) (λ e. refl) (λ f. absurd (f refl));
        steps = by_choice (λ z. StepsAll x.prims z s r.1) (info_told x.info x.info) es (m.effects x.info) (λ e. r.2) (λ f. absurd (f refl));
      };
      same = r.3;
      is_tree = run_tree x.prims es s r.1 r.2 r.4 tree;
      below = run_below (n + k) x.prims es s r.1 r.2 start added;
    }

-- so are patches of distinct names
pub record GivenAll (m : Meaning ℕ) (xs : List Patch) (s : NodeMap ℕ) (b : LawfulMap) : Type 0 where
  pub next : Meaning ℕ
  pub bound : ℕ
  pub up : IsUpTo next bound
  pub agrees : AgreeBut (infos_of xs) m next
  pub tree : NodeMap ℕ
  pub runs : Runs next xs s tree
  pub same : plain tree ≡ b.map

agree_on : (x : PatchInfo) (xs : List PatchInfo) {m k l : Meaning ℕ} → AgreeBut (x ∷ []) m k → AgreeBut xs k l → AgreeBut (x ∷ xs) m l
agree_on x xs a b = record {
  root = b.root ∙ a.root;
  deps = λ i n. b.deps i (λ c. n (more x xs c)) ∙ a.deps i (λ c. only i n c);
  effects = λ i n. b.effects i (λ c. n (more x xs c)) ∙ a.effects i (λ c. only i n c);
}
  where
    only : (i : PatchInfo) → (Contains (x ∷ xs) i → ⊥) → Contains (x ∷ []) i → ⊥
    only i n c = elim (one_of x [] c) [ inl e ↦ n (rw (← e) (here x xs)) | inr d ↦ none_of d ]

pub give_all : (xs : List Patch) (m : Meaning ℕ) (n : ℕ) → IsUpTo m n → Distinct (infos_of xs) → (s : NodeMap ℕ) {a b : LawfulMap} → IsTree s → IsBelow n s → plain s ≡ a.map → InTurn PatchLeads xs a b → GivenAll m xs s b
give_all [] m n up d s tree low same done =
    record { next = m; bound = n; up = up; agrees = record { root = refl; deps = λ i h. refl; effects = λ i h. refl }; tree = s; runs = done; same = same }
give_all (x ∷ xs) m n up d s {a} tree low same (step {u} h r) =
    let g = give m n up x s a u tree low same h in
    let k = give_all xs g.next g.bound g.up d.1 g.tree g.is_tree g.below g.same r in
    record {
      next = k.next;
      bound = k.bound;
      up = k.up;
      agrees = agree_on x.info (infos_of xs) g.agrees k.agrees;
      tree = k.tree;
      runs = step (leads_agree k.agrees d.0 g.leads) k.runs;
      same = k.same;
    }

-- what is built so far is a tree, and all in it is below n
module _ (m : Meaning ℕ) (n : ℕ) (up : IsUpTo m n) (xs : List Patch) (s : NodeMap ℕ) (d : Distinct (infos_of xs)) (h : Builds m xs s) where
  effects_below : (is : List PatchInfo) → AddBelow n (effects_of ℕ m is)
  effects_below [] e c = absurd (none_of c)
  effects_below (i ∷ is) e c = elim (Contains-append_cases (m.effects i) (effects_of ℕ m is) e c) [ inl k ↦ up.below i e k | inr k ↦ effects_below is e k ]

  pub built_tree : IsTree s
  built_tree = run_tree (prims_of ℕ m xs) (effects_of ℕ m (infos_of xs)) (root_of m.root) s (runs_all ℕ m xs h) (all_new ℕ m up.once (infos_of xs) d) (root_tree ℕ m.root)

  pub built_below : IsBelow n s
  built_below = run_below n (prims_of ℕ m xs) (effects_of ℕ m (infos_of xs)) (root_of m.root) s (runs_all ℕ m xs h) (root_below n m.root up.root) (effects_below (infos_of xs))

-- nothing has a meaning
abbrev pub nothing_meant : Meaning ℕ
nothing_meant = record { root = 0; deps = λ i. []; effects = λ i. [] }

pub nothing_up : IsUpTo nothing_meant 1
nothing_up = record { once = record { within = λ i. tt; between = λ i j n e c. absurd (none_of c) }; root = omega arith; below = λ i e c. absurd (none_of c) }
