-- The tokens of a file as a set, and as a sum.
use Rattle.std.proofs.Common.{◌≡◌, ◌⊎◌, List, [], ◌∷◌, ◌++◌, inl, inr, refl, sym, ap, ap₂, subst, ◌∙◌, append_assoc, Contains}
use Rattle.std.specs.List.Sorted.{IsPermutation}
use Rattle.std.proofs.lemmas.List.{map-append}
use Rattle.std.proofs.lemmas.List.Elements.{Contains-append_left, Contains-append_right, Contains-append_cases}
use Rattle.std.proofs.lemmas.List.Sorted.{IsPermutation-trans, IsPermutation-append_comm, IsPermutation-append_right}
use Rattle.dm_chain.specs.Chains.{Token, gap_next, other, Place, end_of, LeadFrom, cuts_at, lefts, inner, Distinct, HasOnePortEach}
use Rattle.dm_chain.specs.Laws.{TokensDetermineTheChain, StepsChangeTheSet, StepsKeepPortsApart, StepsKeepTheSum}
use Rattle.dm_chain.proofs.Leading.{not_other}
use Rattle.dm_chain.proofs.Members.{none_in_nil, head_is_in, it_is_in, next_is_in, in_cases, distinct-left, distinct-right, distinct-apart, distinct-append, map_is_in}

-- two tokens of one chain that have the same left port are the same
one_token : {I : Type 0} (t u : Token I) (d : List (Token I)) → HasOnePortEach (u ∷ d) → t.left ≡ u.left → Contains (u ∷ d) t → u ≡ t
one_token t u d h e c = elim (in_cases u t d c) [
  | inl s ↦ s
  | inr r ↦ absurd (h.0 (subst (λ x. Contains (lefts d) x) e (map_is_in (λ x. x.left) t d r)))
]

-- what stands behind a token stands behind the same one
behind : {I : Type 0} (t u : Token I) (c d : List (Token I)) → HasOnePortEach (t ∷ c) → t ≡ u → ((x : Token I) → Contains (t ∷ c) x → Contains (u ∷ d) x) → (x : Token I) → Contains c x → Contains d x
behind t u c d h e s x k = elim (in_cases u x d (s x (next_is_in t x c k))) [
  | inl f ↦ absurd (h.0 (rw (e ∙ f) (map_is_in (λ z. z.left) x c k)))
  | inr r ↦ r
]

same_tokens : {I : Type 0} (p q q' : Place I) (c d : List (Token I)) → LeadFrom p c q → LeadFrom p d q' → HasOnePortEach c → HasOnePortEach d →
    ((x : Token I) → Contains c x → Contains d x) → ((x : Token I) → Contains d x → Contains c x) → c ≡ d
same_tokens p q q' [] [] l k h g s r = refl
same_tokens p q q' [] (u ∷ d) l k h g s r = absurd (none_in_nil u (r u (head_is_in u d)))
same_tokens p q q' (t ∷ c) [] l k h g s r = absurd (none_in_nil t (s t (head_is_in t c)))
same_tokens p q q' (t ∷ c) (u ∷ d) l k h g s r =
    let e : u ≡ t = one_token t u d g (ap (λ z. z.port) (sym l.0 ∙ k.0)) (s t (head_is_in t c)) in
    ap₂ (λ a b. a ∷ b) (sym e) (same_tokens (end_of t) q q' c d l.1 (subst (λ z. LeadFrom (end_of z) d q') e k.1) h.1 g.1
    (behind t u c d h (sym e) s) (behind u t d c g e r))

pub tokens_determine : (I : Type 0) → TokensDetermineTheChain I
tokens_determine I first last last' c d h k p q s = same_tokens (record { port = first; next = gap_next }) _ _ c d h.leads k.leads p q (λ x. (s x).0) (λ x. (s x).1)

-- no token stands in both parts
pub once : {I : Type 0} (xs ys : List (Token I)) → HasOnePortEach (xs ++ ys) → (t : Token I) → Contains xs t → Contains ys t → ⊥
once xs ys h t l r = distinct-apart (lefts xs) (lefts ys) (rw (map-append (λ x. x.left) xs ys) at h) t.left (map_is_in (λ x. x.left) t xs l) (map_is_in (λ x. x.left) t ys r)

pub once-right : {I : Type 0} (xs ys : List (Token I)) → HasOnePortEach (xs ++ ys) → HasOnePortEach ys
once-right xs ys h = distinct-right (lefts xs) (lefts ys) (rw (map-append (λ x. x.left) xs ys) at h)

there_after : {I : Type 0} (front taken added back : List (Token I)) → HasOnePortEach (front ++ (taken ++ back)) → (t : Token I) → Contains (front ++ (added ++ back)) t →
    Contains added t ⊎ (Contains (front ++ (taken ++ back)) t × (Contains taken t → ⊥))
there_after front taken added back h t c = elim (Contains-append_cases front (added ++ back) t c) [
  | inl f ↦ inr (Contains-append_left front (taken ++ back) t f, λ k. once front (taken ++ back) h t f (Contains-append_left taken back t k))
  | inr r ↦ elim (Contains-append_cases added back t r) [
    | inl a ↦ inl a
    | inr b ↦ inr (Contains-append_right front (taken ++ back) t (Contains-append_right taken back t b), λ k. once taken back (once-right front (taken ++ back) h) t k b)
  ]
]

there_before : {I : Type 0} (front taken added back : List (Token I)) → (t : Token I) → Contains added t ⊎ (Contains (front ++ (taken ++ back)) t × (Contains taken t → ⊥)) →
    Contains (front ++ (added ++ back)) t
there_before front taken added back t (inl a) = Contains-append_right front (added ++ back) t (Contains-append_left added back t a)
there_before front taken added back t (inr k) = elim (Contains-append_cases front (taken ++ back) t k.0) [
  | inl f ↦ Contains-append_left front (added ++ back) t f
  | inr r ↦ elim (Contains-append_cases taken back t r) [
    | inl x ↦ absurd (k.1 x)
    | inr b ↦ Contains-append_right front (added ++ back) t (Contains-append_right added back t b)
  ]
]

pub change_the_set : (I : Type 0) → StepsChangeTheSet I
change_the_set I l old new taken added c d h k t =
    rw (k.before, k.after) (there_after k.front taken added k.back (rw k.before at h) t, there_before k.front taken added k.back t)

-- some tokens have the port where they begin, and then the ports between them, on their left
pub lefts-cons : {I : Type 0} (ts : List (Token I)) (p q : Place I) → LeadFrom p ts q → q.next ≡ other p.next → lefts ts ≡ p.port ∷ inner ts
lefts-cons [] p q h e = absurd (not_other p.next (ap (λ z. z.next) h ∙ e))
lefts-cons (t ∷ ts) p q h e = ap (λ z. z.port ∷ lefts ts) (sym h.0)

-- the ports i between x and b replaced by others, j, that are new
inner_new : {I : Type 0} (f i j b : List I) (x : I) → Distinct (f ++ ((x ∷ i) ++ b)) → Distinct j → ((p : I) → Contains j p → Contains (f ++ ((x ∷ i) ++ b)) p → ⊥) → Distinct (f ++ ((x ∷ j) ++ b))
inner_new {I} f i j b x h k n =
    distinct-append f ((x ∷ j) ++ b) (distinct-left f ((x ∷ i) ++ b) h)
    (distinct-append (x ∷ j) b (λ c. n x c (in_rest x (head_is_in x (i ++ b))), k) (distinct-right (x ∷ i) b rest)
    (λ p c d. elim (in_cases x p j c) [
      | inl e ↦ distinct-apart (x ∷ i) b rest p (it_is_in x p i e) d
      | inr r ↦ n p r (in_rest p (Contains-append_right (x ∷ i) b p d))
    ]))
    (λ p c d. elim (in_cases x p (j ++ b) d) [
      | inl e ↦ distinct-apart f ((x ∷ i) ++ b) h p c (it_is_in x p (i ++ b) e)
      | inr r ↦ elim (Contains-append_cases j b p r) [
        | inl u ↦ n p u (Contains-append_left f ((x ∷ i) ++ b) p c)
        | inr v ↦ distinct-apart f ((x ∷ i) ++ b) h p c (Contains-append_right (x ∷ i) b p v)
      ]
    ])
  where
    rest : Distinct ((x ∷ i) ++ b)
    rest = distinct-right f ((x ∷ i) ++ b) h

    in_rest : (p : I) → Contains ((x ∷ i) ++ b) p → Contains (f ++ ((x ∷ i) ++ b)) p
    in_rest p c = Contains-append_right f ((x ∷ i) ++ b) p c

pub lefts-around : {I : Type 0} (front mid back : List (Token I)) (p q : Place I) → LeadFrom p mid q → q.next ≡ other p.next →
    lefts (front ++ (mid ++ back)) ≡ lefts front ++ ((p.port ∷ inner mid) ++ lefts back)
lefts-around front mid back p q h e =
    map-append (λ x. x.left) front (mid ++ back) ∙ ap (λ z. lefts front ++ z) (map-append (λ x. x.left) mid back) ∙ ap (λ z. lefts front ++ (z ++ lefts back)) (lefts-cons mid p q h e)

pub keep_ports_apart : (I : Type 0) → StepsKeepPortsApart I
keep_ports_apart I l old new taken added c d h k u n =
    let p : Place I = record { port = k.from; next = cuts_at old new } in
    let q : Place I = record { port = k.to; next = other (cuts_at old new) } in
    let was : lefts c ≡ lefts k.front ++ ((k.from ∷ inner taken) ++ lefts k.back) = ap (λ z. lefts z) k.before ∙ lefts-around k.front taken k.back p q k.takes refl in
    let is : lefts d ≡ lefts k.front ++ ((k.from ∷ inner added) ++ lefts k.back) = ap (λ z. lefts z) k.after ∙ lefts-around k.front added k.back p q k.adds refl in
    rw is (inner_new (lefts k.front) (inner taken) (inner added) (lefts k.back) k.from (rw was at h) u (λ x a b. n x a (rw was b)))

-- the middle of a list and what stands behind it, exchanged
pub exchanged : {X : Type 0} (f t a b : List X) → IsPermutation ((f ++ (t ++ b)) ++ a) ((f ++ (a ++ b)) ++ t)
exchanged f t a b =
    rw (append_assoc f (t ++ b) a, append_assoc f (a ++ b) t) (IsPermutation-append_right f ((t ++ b) ++ a) ((a ++ b) ++ t)
    (IsPermutation-trans ((t ++ b) ++ a) (a ++ (t ++ b)) ((a ++ b) ++ t) (IsPermutation-append_comm (t ++ b) a)
    (rw (append_assoc a b t) (IsPermutation-append_right a (t ++ b) (b ++ t) (IsPermutation-append_comm t b)))))

pub keep_the_sum : (I : Type 0) → StepsKeepTheSum I
keep_the_sum I l old new taken added c d k = rw (k.before, k.after) (exchanged k.front taken added k.back)
