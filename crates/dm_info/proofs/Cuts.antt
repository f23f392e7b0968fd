-- A cut at the first byte that passes a test.
use Rattle.std.proofs.Common.{◌≡◌, ℕ, zero, suc, ◌+◌, ◌<◌, Bool, true, false, cond, List, [], ◌∷◌, ◌++◌, length, get_or, take, drop, ◌==◌, Result, Ok, Err, refl, ap, subst, arith, add-one, Some, None}
use Rattle.std.proofs.lemmas.Bool.{eqb-true}
use Rattle.memchr.specs.Find.{IsFirstByte}
use Rattle.dm_info.specs.declared.fault.InfoReadFault.{InfoReadFault}
use Rattle.dm_info.specs.declared.fault.InfoReadFault.TheVariants.{BadInfo}
use Rattle.dm_info.specs.PatchInfo.{Free}
use Rattle.dm_info.specs.Reading.{Cut, cut, onto}

pub false_is : (b : Bool) → (b ≡ true → ⊥) → b ≡ false
false_is true h = absurd (h refl)
false_is false h = refl

pub cut_first : (test : ℕ → Bool) (xs : List ℕ) (k : ℕ) → k < length xs → ((j : ℕ) → j < k → test (get_or xs j 0) ≡ true → ⊥) → test (get_or xs k 0) ≡ true
    → cut test xs ≡ Ok (record { front = take k xs; byte = get_or xs k 0; rest = drop (suc k) xs })
unfolding cut
cut_first test [] k lt before here = absurd (omega arith)
cut_first test (x ∷ xs) zero lt before here = rw here refl
cut_first test (x ∷ xs) (suc k) lt before here =
    let first : test x ≡ false = false_is (test x) (before 0 (omega arith)) in
    let more = cut_first test xs k (omega arith) (λ j l. before (suc j) (omega arith)) here in
    rw (first, more) refl

pub cut_none : (test : ℕ → Bool) (xs : List ℕ) → ((j : ℕ) → j < length xs → test (get_or xs j 0) ≡ true → ⊥) → cut test xs ≡ Err BadInfo
unfolding cut
cut_none test [] none = refl
cut_none test (x ∷ xs) none =
    let first : test x ≡ false = false_is (test x) (none 0 (omega arith)) in
    let more = cut_none test xs (λ j l. none (suc j) (omega arith)) in
    rw (first, more) refl

-- what a search says
pub cut_found : (test : ℕ → Bool) (xs : List ℕ) (k : ℕ) → IsFirstByte test xs (Some k) → cut test xs ≡ Ok (record { front = take k xs; byte = get_or xs k 0; rest = drop (k + 1) xs })
cut_found test xs k first = rw (add-one k) (cut_first test xs k first.0.high (λ j lt. first.0.before j (omega arith) lt) first.1)

pub cut_missed : (test : ℕ → Bool) (xs : List ℕ) → IsFirstByte test xs None → cut test xs ≡ Err BadInfo
cut_missed test xs nowhere = cut_none test xs (λ j lt. nowhere j (omega arith) lt)

pub record IsCut (test : ℕ → Bool) (xs : List ℕ) (c : Cut) : Type 0 where
  pub parts : xs ≡ c.front ++ c.byte ∷ c.rest
  pub free : Free test c.front
  pub stops : test c.byte ≡ true

onto_ok : (x : ℕ) (r : Result Cut InfoReadFault) (c : Cut) → onto x r ≡ Ok c → (d : Cut) × (r ≡ Ok d) × (record { front = x ∷ d.front; byte = d.byte; rest = d.rest } ≡ c)
onto_ok x (Ok d) c e = (d, refl, cc)
onto_ok x (Err f) c e = absurd cc

found : Cut → Result Cut InfoReadFault
found c = Ok c

cut_step : (test : ℕ → Bool) (x : ℕ) (xs : List ℕ) (c : Cut) (b : Bool) → test x ≡ b → cond b (Ok (record { front = []; byte = x; rest = xs })) (onto x (cut test xs)) ≡ Ok c
    → ((d : Cut) → cut test xs ≡ Ok d → IsCut test xs d) → IsCut test (x ∷ xs) c
cut_step test x xs c true is e more =
    let P : Cut → Type 0 = IsCut test (x ∷ xs) in
    let same : record { front = []; byte = x; rest = xs } ≡ c = cc in
    subst P same (record { parts = refl; free = tt; stops = is })
cut_step test x xs c false is e more =
    let o = onto_ok x (cut test xs) c e in
    let m = more o.0 o.1 in
    let P : Cut → Type 0 = IsCut test (x ∷ xs) in
    subst P o.2 (record { parts = ap (λ (l : List ℕ). x ∷ l) m.parts; free = (is, m.free); stops = m.stops })

pub cut_takes : (test : ℕ → Bool) (xs : List ℕ) (c : Cut) → cut test xs ≡ Ok c → IsCut test xs c
unfolding cut
cut_takes test [] c e = absurd cc
cut_takes test (x ∷ xs) c e = cut_step test x xs c (test x) refl e (cut_takes test xs)

pub cut_again : (test : ℕ → Bool) (front : List ℕ) (b : ℕ) (rest : List ℕ) → Free test front → test b ≡ true → cut test (front ++ b ∷ rest) ≡ Ok (record { front = front; byte = b; rest = rest })
unfolding cut
cut_again test [] b rest free stops = rw stops refl
cut_again test (x ∷ xs) b rest free stops = rw (free.0, cut_again test xs b rest free.1 stops) refl

-- the byte that a test for one byte found
pub byte_is : (x b : ℕ) → (x == b) ≡ true → x ≡ b
byte_is x b e = eqb-true x b e
