-- Hunks of one file, one after the other.
use Rattle.std.proofs.Common.{◌≡◌, List, [], ◌∷◌, ◌++◌, map, inl, inr, refl, sym, ap, subst, ◌∙◌, append_assoc, Contains}
use Rattle.std.specs.List.Sorted.{IsPermutation}
use Rattle.std.proofs.lemmas.List.Sorted.{IsPermutation-refl, IsPermutation-sym, IsPermutation-map, Contains-permutation}
use Rattle.std.proofs.lemmas.List.Elements.{Contains-append_left, Contains-append_right}
use Rattle.dm_prim.specs.InTurn.{done, step}
use Rattle.dm_chain.specs.Chains.{Token, IsChain, lefts, inner, Distinct, HasOnePortEach}
use Rattle.dm_chain.specs.Sums.{all_taken, all_added, ComesTo}
use Rattle.dm_chain.specs.HunksInTurn.{FileHunk, StepsBy, StepsByAll, changes_of, ports_of}
use Rattle.dm_chain.specs.Laws.{HunksInTurnAddUp, SameChangesSameFile}
use Rattle.dm_chain.proofs.Stepping.{from_of, to_of, steps_keep_chains}
use Rattle.dm_chain.proofs.Members.{in_cases, distinct-left, distinct-right, distinct-apart, distinct-append}
use Rattle.dm_chain.proofs.Determined.{lefts-around, exchanged, tokens_determine, keep_the_sum}
use Rattle.dm_chain.proofs.Permuted.{Found, permuted_found, found_permuted}
use Rattle.dm_chain.proofs.Adding.{joined, sums_forget_order}

-- the left ports, as a sum
ports_sum : (I : Type 0) (h : FileHunk I) (c d : List (Token I)) → StepsBy h c d → IsPermutation (lefts c ++ inner h.change.added) (lefts d ++ inner h.change.taken)
ports_sum I h c d k =
    let was : lefts c ≡ lefts k.front ++ ((k.from ∷ inner h.change.taken) ++ lefts k.back) = ap (λ z. lefts z) k.before ∙ lefts-around k.front h.change.taken k.back (from_of k) (to_of k) k.takes refl in
    let is : lefts d ≡ lefts k.front ++ ((k.from ∷ inner h.change.added) ++ lefts k.back) = ap (λ z. lefts z) k.after ∙ lefts-around k.front h.change.added k.back (from_of k) (to_of k) k.adds refl in
    let f = lefts k.front ++ (k.from ∷ []) in
    let e : (i : List I) → lefts k.front ++ ((k.from ∷ i) ++ lefts k.back) ≡ f ++ (i ++ lefts k.back) = λ i. sym (append_assoc (lefts k.front) (k.from ∷ []) (i ++ lefts k.back)) in
    rw (was, is, e (inner h.change.taken), e (inner h.change.added)) (exchanged f (inner h.change.taken) (inner h.change.added) (lefts k.back))

add_up : (I : Type 0) (hs : List (FileHunk I)) (c d : List (Token I)) → StepsByAll hs c d → ComesTo c (changes_of hs) d × ComesTo (lefts c) (map ports_of (changes_of hs)) (lefts d)
add_up I [] c d done = (IsPermutation-refl (c ++ []), IsPermutation-refl (lefts c ++ []))
add_up I (h ∷ hs) c d (step {u = u} k r) =
    let s = add_up I hs u d r in (
      joined c u d h.change.added h.change.taken (all_added (changes_of hs)) (all_taken (changes_of hs)) (keep_the_sum I h.line h.old h.new h.change.taken h.change.added c u k) s.0,
      joined (lefts c) (lefts u) (lefts d) (inner h.change.added) (inner h.change.taken) (all_added (map ports_of (changes_of hs))) (all_taken (map ports_of (changes_of hs))) (ports_sum I h c u k) s.1,
    )

pub hunks_add_up : (I : Type 0) → HunksInTurnAddUp I
hunks_add_up I hs c d h = add_up I hs c d h

stays_a_chain : (I : Type 0) (first last : I) (hs : List (FileHunk I)) (c d : List (Token I)) → IsChain first c last → StepsByAll hs c d → IsChain first d last
stays_a_chain I first last [] c d ch done = ch
stays_a_chain I first last (h ∷ hs) c d ch (step {u = u} k r) =
    stays_a_chain I first last hs u d (steps_keep_chains I first last h.line h.old h.new h.change.taken h.change.added c u ch k) r

-- no two are the same in any order
distinct_between : {X : Type 0} (a b : List X) (x : X) → Distinct (a ++ b) → (Contains (a ++ b) x → ⊥) → Distinct (a ++ (x ∷ b))
distinct_between a b x h n =
    distinct-append a (x ∷ b) (distinct-left a b h) (λ c. n (Contains-append_right a b x c), distinct-right a b h)
    (λ y c d. elim (in_cases x y b d) [
      | inl e ↦ n (Contains-append_left a b x (subst (λ z. Contains a z) (sym e) c))
      | inr r ↦ distinct-apart a b h y c r
    ])

distinct_found : {X : Type 0} (xs ys : List X) → Found xs ys → Distinct xs → Distinct ys
distinct_found [] ys e h = rw e tt
distinct_found (x ∷ xs) ys (a, b, e, k) h =
    rw e (distinct_between a b x (distinct_found xs (a ++ b) k h.1) (λ c. h.0 (Contains-permutation (a ++ b) xs x (IsPermutation-sym xs (a ++ b) (found_permuted xs (a ++ b) k)) c)))

pub distinct_permuted : {X : Type 0} (xs ys : List X) → IsPermutation xs ys → Distinct xs → Distinct ys
distinct_permuted xs ys p h = distinct_found xs ys (permuted_found xs ys p) h

pub same_changes : (I : Type 0) → SameChangesSameFile I
same_changes I first last hs ks c d e ch r s p n =
    let x = add_up I hs c d r in
    let y = add_up I ks c e s in
    let same : IsPermutation d e = sums_forget_order (Token I) c d e (changes_of hs) (changes_of ks) p x.0 y.0 in
    let ports : HasOnePortEach d = distinct-left (lefts d) (all_taken (map ports_of (changes_of hs)))
    (distinct_permuted (lefts c ++ all_added (map ports_of (changes_of hs))) (lefts d ++ all_taken (map ports_of (changes_of hs))) x.1 n) in
    let ports' : HasOnePortEach e = distinct_permuted (lefts d) (lefts e) (IsPermutation-map (λ z. z.left) d e same) ports in
    tokens_determine I first last last d e (stays_a_chain I first last hs c d ch r) (stays_a_chain I first last ks c e ch s) ports ports'
    (λ t. (λ k. Contains-permutation d e t same k, λ k. Contains-permutation e d t (IsPermutation-sym d e same) k))
