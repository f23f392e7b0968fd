-- Sums of changes.
use Rattle.std.proofs.Common.{◌≡◌, List, [], ◌∷◌, ◌++◌, refl, sym, ap, ◌∙◌, append_assoc}
use Rattle.std.specs.List.Sorted.{IsPermutation}
use Rattle.std.proofs.lemmas.List.Sorted.{IsPermutation-refl, IsPermutation-sym, IsPermutation-trans, IsPermutation-append_comm, IsPermutation-append_left, IsPermutation-append_right}
use Rattle.dm_chain.specs.Sums.{Change, all_taken, all_added}
use Rattle.dm_chain.specs.Laws.{SumsJoin, SumsForgetOrder}
use Rattle.dm_chain.proofs.Permuted.{Found, permuted_found, cancel_back}

all_taken-append : {X : Type 0} (cs ds : List (Change X)) → all_taken (cs ++ ds) ≡ all_taken cs ++ all_taken ds
all_taken-append [] ds = refl
all_taken-append (c ∷ cs) ds = ap (λ z. c.taken ++ z) (all_taken-append cs ds) ∙ sym (append_assoc c.taken (all_taken cs) (all_taken ds))

all_added-append : {X : Type 0} (cs ds : List (Change X)) → all_added (cs ++ ds) ≡ all_added cs ++ all_added ds
all_added-append [] ds = refl
all_added-append (c ∷ cs) ds = ap (λ z. c.added ++ z) (all_added-append cs ds) ∙ sym (append_assoc c.added (all_added cs) (all_added ds))

-- the last two of three parts, exchanged
pub last_exchanged : {X : Type 0} (xs a b : List X) → IsPermutation ((xs ++ a) ++ b) ((xs ++ b) ++ a)
last_exchanged xs a b = rw (append_assoc xs a b, append_assoc xs b a) (IsPermutation-append_right xs (a ++ b) (b ++ a) (IsPermutation-append_comm a b))

-- one change after another
pub joined : {X : Type 0} (xs ys zs a t b u : List X) → IsPermutation (xs ++ a) (ys ++ t) → IsPermutation (ys ++ b) (zs ++ u) → IsPermutation (xs ++ (a ++ b)) (zs ++ (t ++ u))
joined xs ys zs a t b u h k =
    let first : IsPermutation ((xs ++ a) ++ b) ((ys ++ t) ++ b) = IsPermutation-append_left b (xs ++ a) (ys ++ t) h in
    let second : IsPermutation ((ys ++ b) ++ t) ((zs ++ u) ++ t) = IsPermutation-append_left t (ys ++ b) (zs ++ u) k in
    let all : IsPermutation ((xs ++ a) ++ b) ((zs ++ t) ++ u) =
    IsPermutation-trans ((xs ++ a) ++ b) ((ys ++ t) ++ b) ((zs ++ t) ++ u) first
    (IsPermutation-trans ((ys ++ t) ++ b) ((ys ++ b) ++ t) ((zs ++ t) ++ u) (last_exchanged ys t b)
    (IsPermutation-trans ((ys ++ b) ++ t) ((zs ++ u) ++ t) ((zs ++ t) ++ u) second (last_exchanged zs u t))) in
    rw (append_assoc xs a b, append_assoc zs t u) at all

pub sums_join : (X : Type 0) → SumsJoin X
sums_join X xs ys zs cs ds h k = rw (all_added-append cs ds, all_taken-append cs ds) (joined xs ys zs (all_added cs) (all_taken cs) (all_added ds) (all_taken ds) h k)

-- x put in between two parts of what is a permutation
put_between : {X : Type 0} (x y a b : List X) → IsPermutation y (a ++ b) → IsPermutation (x ++ y) (a ++ (x ++ b))
put_between x y a b h =
    IsPermutation-trans (x ++ y) (x ++ (a ++ b)) (a ++ (x ++ b)) (IsPermutation-append_right x y (a ++ b) h)
    (rw (← append_assoc x a b, ← append_assoc a x b) (IsPermutation-append_left b (x ++ a) (a ++ x) (IsPermutation-append_comm x a)))

added_permuted : {X : Type 0} (cs ds : List (Change X)) → Found cs ds → IsPermutation (all_added cs) (all_added ds)
added_permuted [] ds e = rw e (IsPermutation-refl [])
added_permuted (c ∷ cs) ds (a, b, e, h) =
    let r : IsPermutation (all_added cs) (all_added a ++ all_added b) = rw (all_added-append a b) at (added_permuted cs (a ++ b) h) in
    rw (e, all_added-append a (c ∷ b)) (put_between c.added (all_added cs) (all_added a) (all_added b) r)

taken_permuted : {X : Type 0} (cs ds : List (Change X)) → Found cs ds → IsPermutation (all_taken cs) (all_taken ds)
taken_permuted [] ds e = rw e (IsPermutation-refl [])
taken_permuted (c ∷ cs) ds (a, b, e, h) =
    let r : IsPermutation (all_taken cs) (all_taken a ++ all_taken b) = rw (all_taken-append a b) at (taken_permuted cs (a ++ b) h) in
    rw (e, all_taken-append a (c ∷ b)) (put_between c.taken (all_taken cs) (all_taken a) (all_taken b) r)

pub sums_forget_order : (X : Type 0) → SumsForgetOrder X
sums_forget_order X xs ys zs cs ds p h k =
    let f = permuted_found cs ds p in
    let added : IsPermutation (xs ++ all_added cs) (xs ++ all_added ds) = IsPermutation-append_right xs (all_added cs) (all_added ds) (added_permuted cs ds f) in
    let taken : IsPermutation (zs ++ all_taken ds) (zs ++ all_taken cs) = IsPermutation-append_right zs (all_taken ds) (all_taken cs) (IsPermutation-sym (all_taken cs) (all_taken ds) (taken_permuted cs ds f)) in
    cancel_back ys zs (all_taken cs)
    (IsPermutation-trans (ys ++ all_taken cs) (xs ++ all_added cs) (zs ++ all_taken cs) (IsPermutation-sym (xs ++ all_added cs) (ys ++ all_taken cs) h)
    (IsPermutation-trans (xs ++ all_added cs) (xs ++ all_added ds) (zs ++ all_taken cs) added
    (IsPermutation-trans (xs ++ all_added ds) (zs ++ all_taken ds) (zs ++ all_taken cs) k taken)))
