-- What comes of texts comes of those among them that are read.
use Rattle.std.proofs.Common.{◌≡◌, ℕ, List, [], ◌∷◌, ◌++◌, inl, inr, subst}
use Rattle.std.specs.List.{Contains}
use Rattle.std.proofs.lemmas.List.Elements.{Contains-append_left, Contains-append_right, Contains-append_cases}
use Rattle.dm_named.specs.Limits.{standard}
use Rattle.dm_named.specs.declared.limits.Kinds.TheVariants as these
use Rattle.dm_named.specs.Patches.{Patch}
use Rattle.dm_bundle.specs.Bundles.{Contents}
use Rattle.dm_bundle.proofs.OneBundle.{one_bundle}
use Rattle.dm_repo.specs.declared.policy.Policy.{Policy}
use Rattle.dm_repo.specs.Repositories.{IsRepo}
use Rattle.dm_repo.proofs.Members.{here, more, one_of, none_of}
use Rattle.dm_scratch.specs.declared.verdict.Verdict.{Verdict}
use Rattle.dm_scratch.specs.Taking.{ReadsWithin, Takes, TakesEach, bundle, malformed, no_memory}
use Rattle.dm_converge.specs.Pools.{HasBundleIn, NamesStandForOne, NamesDecideTree, ComesOf, as_it_was, took}
use Rattle.dm_converge.proofs.Networks.{pools_converge}
use Rattle.dm_agree.specs.Names.{Brings, NamesStandWithin}

-- the texts among these that are read, from which the same comes
record Read (repo : List Patch) (texts : List (List ℕ)) (after : List Patch) : Type 0 where
  pool : List (List ℕ)
  sent : (text : List ℕ) → Contains pool text → Contains texts text
  reads : (text : List ℕ) → Contains pool text → (b : Contents) × ReadsWithin standard text b
  comes : (more : List (List ℕ)) (base : List Patch) → ((text : List ℕ) → Contains pool text → Contains more text) → ComesOf more base repo → ComesOf more base after

-- nothing comes of a text that isn't read
unread : (repo next after : List Patch) (x : List ℕ) (xs : List (List ℕ)) → next ≡ repo → Read next xs after → Read repo (x ∷ xs) after
unread repo next after x xs e r = record {
  pool = r.pool;
  sent = λ text c. more x xs (r.sent text c);
  reads = r.reads;
  comes = λ pool base f c. r.comes pool base f (rw e c);
}

read_one : (repo next after : List Patch) (x : List ℕ) (xs : List (List ℕ)) (policy : Policy) (v : Verdict) → Takes repo x policy v next → Read next xs after → Read repo (x ∷ xs) after
read_one repo next after x xs policy v (bundle b r t) rest = record {
  pool = x ∷ rest.pool;
  sent = λ text c. elim (one_of x rest.pool c) [ inl e ↦ rw (← e) (here x xs) | inr d ↦ more x xs (rest.sent text d) ];
  reads = λ text c. elim (one_of x rest.pool c) [ inl e ↦ (b, subst (λ (y : List ℕ). ReadsWithin standard y b) e r) | inr d ↦ rest.reads text d ];
  comes = λ pool base f c. rest.comes pool base (λ y d. f y (more x rest.pool d)) (took c (f x (here x rest.pool)) tt (bundle b r t));
}
read_one repo next after x xs policy v (malformed fault at e same) rest = unread repo next after x xs same rest
read_one repo next after x xs policy v (no_memory e same) rest = unread repo next after x xs same rest

read_each : (repo : List Patch) (texts : List (List ℕ)) (policy : Policy) (verdicts : List Verdict) (after : List Patch) → TakesEach repo texts policy verdicts after → Read repo texts after
read_each repo [] policy [] after t = record { pool = []; sent = λ text c. c; reads = λ text c. absurd (none_of c); comes = λ pool base f c. rw t c }
read_each repo [] policy (v ∷ vs) after t = absurd t
read_each repo (x ∷ xs) policy [] after t = absurd t
read_each repo (x ∷ xs) policy (v ∷ vs) after (next, t, r) = read_one repo next after x xs policy v t (read_each next xs policy vs after r)

-- a bundle of a text that is read is one that is brought
brought_of : (sent pool : List (List ℕ)) → ((text : List ℕ) → Contains pool text → Contains sent text) → ((text : List ℕ) → Contains pool text → (b : Contents) × ReadsWithin standard text b) →
    (b : Contents) → HasBundleIn these.Six pool b → Brings standard sent b
brought_of sent pool f reads b (text, c, stands) =
    let r = reads text c in
    let e : r.0 ≡ b = one_bundle these.Six text r.0 b r.1.stands stands in
    (text, f text c, subst (λ (x : Contents). ReadsWithin standard text x) e r.1)

fewer_stand : (sent pool : List (List ℕ)) (base : List Patch) → ((b : Contents) → HasBundleIn these.Six pool b → Brings standard sent b) → NamesStandWithin standard sent base → NamesStandForOne pool base
fewer_stand sent pool base f n = record {
  among = λ b c i h k. n.among b c i (f b h) (f c k);
  beside = λ b i h. n.beside b i (f b h);
}

-- two repositories that come of one base by taking texts that were sent
pub trees_agree : (sent texts others : List (List ℕ)) (base : List Patch) (policy other_policy : Policy) (vs ws : List Verdict) (one other : List Patch) →
    ((text : List ℕ) → Contains texts text → Contains sent text) → ((text : List ℕ) → Contains others text → Contains sent text) → IsRepo base → NamesStandWithin standard sent base →
    TakesEach base texts policy vs one → TakesEach base others other_policy ws other → NamesDecideTree one other
trees_agree sent texts others base policy other_policy vs ws one other f g ok stand h k =
    let a = read_each base texts policy vs one h in
    let b = read_each base others other_policy ws other k in
    let both = fewer_stand sent (a.pool ++ b.pool) base
    (brought_of sent (a.pool ++ b.pool)
    (λ x c. elim (Contains-append_cases a.pool b.pool x c) [ inl d ↦ f x (a.sent x d) | inr d ↦ g x (b.sent x d) ])
    (λ x c. elim (Contains-append_cases a.pool b.pool x c) [ inl d ↦ a.reads x d | inr d ↦ b.reads x d ])) stand in
    pools_converge these.Six (a.pool ++ b.pool) base ok both one other
    (a.comes (a.pool ++ b.pool) base (λ x c. Contains-append_left a.pool b.pool x c) as_it_was)
    (b.comes (a.pool ++ b.pool) base (λ x c. Contains-append_right a.pool b.pool x c) as_it_was)
