-- Heaps of replaces: what they spell, and that two orders make the same heap.
use Rattle.std.proofs.Common.{◌≡◌, ◌≢◌, ◌⊎◌, inl, inr, ℕ, ◌+◌, ◌<◌, max, Bool, true, false, not, cond, List, [], ◌∷◌, Option, Some, None, refl, sym, ap, ap₂, subst, ◌∙◌, arith, Contains}
use Rattle.std.specs.List.Sorted.{IsPermutation}
use Rattle.std.specs.declared.cmp.Ordering.{Ordering}
use Rattle.std.specs.declared.cmp.Ordering.TheVariants.{Less, Equal, Greater}
use Rattle.std.specs.Ordering.{is_lt, nat_cmp, ordering_then, ordering_reverse}
use Rattle.std.specs.Cmp.{IsTotalOrder, nat_cmp_is}
use Rattle.std.specs.Cmp.Lexicographic.{slice_cmp}
use Rattle.std.specs.Str.{bytes_eq}
use Rattle.std.proofs.Math.Nat.{le-max_left, le-max_right}
use Rattle.std.proofs.lemmas.Bool.{cases_Bool, cond-false, or_parts, false≢true}
use Rattle.std.proofs.lemmas.Cmp.{on_total, lists_total, nat_list_cmp_total}
use Rattle.std.proofs.lemmas.Map.Lookups.{CmpEqualImpliesEq, exact_bytes}
use Rattle.std.proofs.lemmas.Slice.Eq.{bytes_eq-Decides}
use Rattle.std.proofs.lemmas.List.Sorted.{IsPermutation-refl, IsPermutation-sym, IsPermutation-trans, IsPermutation-cons, IsPermutation-append_comm, IsPermutation-append_left, Contains-permutation}
use Rattle.dm_tokens.specs.Sets.{ByteSet, set_of}
use Rattle.dm_tokens.specs.Validity.{TokenWords, AreOfSet}
use Rattle.dm_tokens.specs.Exchanging.{exchanged}
use Rattle.dm_tokens.proofs.TurnLemmas.{same_bytes, other_bytes, differ}
use Rattle.dm_tokens.proofs.ExchangeLemmas.{exchanged_twice, exchanged_round, exchanges_pass}
use Rattle.dm_chain.proofs.Members.{none_in_nil, head_is_in, next_is_in, in_cases}
use Rattle.dm_facts.specs.Heaps.{leans, undoing, HeapEntry, height_on, key, compared, Precedes, Heap, put_in, entry_on, put_on, IsHeap, exchange_in, exchange, spelled}

-- the words are tokens of a set
abbrev pub AreGood : TokenWords → Type 0
AreGood w = AreOfSet w.set w.old w.new

-- the order of entries

total : IsTotalOrder compared
total = on_total key (lists_total nat_list_cmp_total)

exact_lists : {K : Type 0} (R : K → K → Ordering) → CmpEqualImpliesEq R → CmpEqualImpliesEq (slice_cmp R)
exact_lists R exact [] [] e = refl
exact_lists R exact [] (y ∷ ys) e = absurd (cc e)
exact_lists R exact (x ∷ xs) [] e = absurd (cc e)
exact_lists R exact (x ∷ xs) (y ∷ ys) e = go (exact_lists R exact xs ys) (R x y) refl e
  where
    go : (slice_cmp R xs ys ≡ Equal → xs ≡ ys) → (o : Ordering) → R x y ≡ o → ordering_then o (slice_cmp R xs ys) ≡ Equal → x ∷ xs ≡ y ∷ ys
    go rest Less i k = absurd (cc k)
    go rest Equal i k = ap₂ (λ a b. a ∷ b) (exact x y i) (rest k)
    go rest Greater i k = absurd (cc k)

same_entry : (e d : HeapEntry) → compared e d ≡ Equal → e ≡ d
same_entry e d i = entries (exact_lists (slice_cmp nat_cmp) exact_bytes (key e) (key d) i)
  where
    entries : key e ≡ key d → e ≡ d
    entries k =
        let a : e.height ≡ d.height = cc k in let b : e.words.set ≡ d.words.set = cc k in
        let c : e.words.old ≡ d.words.old = cc k in let f : e.words.new ≡ d.words.new = cc k in
        λ j. record { height = a j; words = record { set = b j; old = c j; new = f j } }

never_itself : (e : HeapEntry) → Precedes e e → ⊥
never_itself e h = let k : compared e e ≡ ordering_reverse (compared e e) = total.antisymm e e in let l : Less ≡ ordering_reverse Less = rw h at k in cc l

comes_first : (e d : HeapEntry) → compared e d ≡ Greater → Precedes d e
comes_first e d h = total.antisymm d e ∙ ap ordering_reverse h

not_higher : (e d : HeapEntry) → Precedes e d → d.height < e.height → ⊥
not_higher e d h l = let k : Greater ≡ nat_cmp e.height d.height = nat_cmp_is e.height d.height Greater l in let m : Greater ≡ Less = rw (← k) at h in cc m

-- an entry put in

pub put_permutes : (e : HeapEntry) (h : Heap) → IsPermutation (e ∷ h) (put_in e h)
unfolding put_in
put_permutes e [] = IsPermutation-refl (e ∷ [])
put_permutes e (d ∷ h) = go (put_permutes e h) (is_lt (compared e d))
  where
    go : IsPermutation (e ∷ h) (put_in e h) → (b : Bool) → IsPermutation (e ∷ d ∷ h) (cond b (e ∷ d ∷ h) (d ∷ put_in e h))
    go rest true = IsPermutation-refl (e ∷ d ∷ h)
    go rest false = IsPermutation-trans (e ∷ d ∷ h) (d ∷ e ∷ h) (d ∷ put_in e h)
        (IsPermutation-append_left h (e ∷ d ∷ []) (d ∷ e ∷ []) (IsPermutation-append_comm (e ∷ []) (d ∷ []))) (IsPermutation-cons d (e ∷ h) (put_in e h) rest)

-- what stands in the heap then
put_cases : (e : HeapEntry) (h : Heap) (d : HeapEntry) → Contains (put_in e h) d → (e ≡ d) ⊎ Contains h d
put_cases e h d c = in_cases e d h (Contains-permutation (put_in e h) (e ∷ h) d (IsPermutation-sym (e ∷ h) (put_in e h) (put_permutes e h)) c)

put_heap : (e : HeapEntry) (h : Heap) → IsHeap h → AreGood e.words → (Contains h e → ⊥) → IsHeap (put_in e h)
unfolding put_in
put_heap e [] heap good new = (good, (λ d c. absurd (none_in_nil d c)), tt)
put_heap e (d ∷ h) heap good new = go (put_heap e h heap.2 good (λ c. new (next_is_in d e h c))) (compared e d) refl
  where
    go : IsHeap (put_in e h) → (o : Ordering) → compared e d ≡ o → IsHeap (cond (is_lt o) (e ∷ d ∷ h) (d ∷ put_in e h))
    go rest Less i = (good, (λ x c. elim (in_cases d x h c) [ inl k ↦ subst (Precedes e) k i | inr k ↦ total.trans e d x i (heap.1 x k) ]), heap)
    go rest Equal i = absurd (new (subst (Contains (d ∷ h)) (sym (same_entry e d i)) (head_is_in d h)))
    go rest Greater i = (heap.0, (λ x c. elim (put_cases e h x c) [ inl k ↦ subst (Precedes d) k (comes_first e d i) | inr k ↦ heap.1 x k ]), rest)

-- heaps in which the same entries stand are the same
behind : (e d : HeapEntry) (h k : Heap) → ((x : HeapEntry) → Contains h x → Precedes e x) → e ≡ d → ((x : HeapEntry) → Contains (e ∷ h) x → Contains (d ∷ k) x) →
    (x : HeapEntry) → Contains h x → Contains k x
behind e d h k first same all x c = elim (in_cases d x k (all x (next_is_in e x h c))) [
  | inl i ↦ absurd (never_itself e (subst (Precedes e) (sym (same ∙ i)) (first x c)))
  | inr i ↦ i
]

pub same_heap : (h k : Heap) → IsHeap h → IsHeap k → ((x : HeapEntry) → Contains h x → Contains k x) → ((x : HeapEntry) → Contains k x → Contains h x) → h ≡ k
same_heap [] [] i j there back = refl
same_heap [] (d ∷ k) i j there back = absurd (none_in_nil d (back d (head_is_in d k)))
same_heap (e ∷ h) [] i j there back = absurd (none_in_nil e (there e (head_is_in e h)))
same_heap (e ∷ h) (d ∷ k) i j there back =
    let s : d ≡ e = first (in_cases d e k (there e (head_is_in e h))) (in_cases e d h (back d (head_is_in d k))) in
    ap₂ (λ a b. a ∷ b) (sym s) (same_heap h k i.2 j.2 (behind e d h k i.1 (sym s) there) (behind d e k h j.1 s back))
  where
    first : (d ≡ e) ⊎ Contains k e → (e ≡ d) ⊎ Contains h d → d ≡ e
    first (inl s) c = s
    first (inr a) (inl s) = sym s
    first (inr a) (inr b) = absurd (never_itself e (total.trans e d e (i.1 d b) (j.1 e a)))

-- heights

same_self : (x : List ℕ) → bytes_eq x x ≡ true
same_self x = (bytes_eq-Decides x x).1 refl

leans_itself : (w : TokenWords) → leans w w ≡ true
leans_itself w = rw (same_self w.set, same_self w.old)

higher_than : (w : TokenWords) (h : Heap) (d : HeapEntry) → Contains h d → leans d.words w ≡ true → d.height < height_on w h
higher_than w [] d c l = absurd (none_in_nil d c)
higher_than w (e ∷ h) d c l = go (λ k. higher_than w h d k l) (leans e.words w) refl (in_cases e d h c)
  where
    go : (Contains h d → d.height < height_on w h) → (b : Bool) → leans e.words w ≡ b → (e ≡ d) ⊎ Contains h d → d.height < cond b (max (e.height + 1) (height_on w h)) (height_on w h)
    go rest true i (inl k) = let m : e.height ≡ d.height = ap (λ z. z.height) k in omega (arith, m, le-max_left (e.height + 1) (height_on w h))
    go rest true i (inr k) = omega (arith, rest k, le-max_right (e.height + 1) (height_on w h))
    go rest false i (inl k) = absurd (false≢true (sym i ∙ rw k l))
    go rest false i (inr k) = rest k

not_there : (w : TokenWords) (h : Heap) → Contains h (entry_on w h) → ⊥
not_there w h c = let l = higher_than w h (entry_on w h) c (leans_itself w) in omega (arith, l)

pub put_on_heap : (w : TokenWords) (h : Heap) → IsHeap h → AreGood w → IsHeap (put_on w h)
put_on_heap w h heap good = put_heap (entry_on w h) h heap good (not_there w h)

-- exchanges

pub exchange_is : (w : TokenWords) (set : ByteSet) → set_of w.set ≡ Some set → (x : List ℕ) → exchange w x ≡ exchanged set w.old w.new x
unfolding exchange
exchange_is w set means x = ap (λ (o : Option ByteSet). exchange_in o w x) means

pub exchange_twice : (w : TokenWords) → AreGood w → (x : List ℕ) → exchange w (exchange w x) ≡ x
exchange_twice w good x =
    exchange_is w good.set good.means (exchange w x) ∙ ap (exchanged good.set w.old w.new) (exchange_is w good.set good.means x) ∙ exchanged_twice good.set w.old w.new x good.old_token good.new_token

-- what undoes a replace exchanges the same tokens
pub exchange_round : (w : TokenWords) (x : List ℕ) → exchange (undoing w) x ≡ exchange w x
unfolding exchange
exchange_round w x = go (set_of w.set)
  where
    go : (o : Option ByteSet) → exchange_in o (undoing w) x ≡ exchange_in o w x
    go None = refl
    go (Some set) = exchanged_round set w.old w.new x

-- replaces that don't lean on each other have one set and no token in common
pub record AreApart (v w : TokenWords) : Type 0 where
  pub one_set : v.set ≡ w.set
  pub oo : v.old ≢ w.old
  pub on : v.old ≢ w.new
  pub new_old : v.new ≢ w.old
  pub nn : v.new ≢ w.new

pub apart : (v w : TokenWords) → leans v w ≡ false → AreApart v w
apart v w h =
    let a = or_parts (not (bytes_eq v.set w.set)) _ h in
    let b = or_parts (bytes_eq v.old w.old) _ a.1 in
    let c = or_parts (bytes_eq v.old w.new) _ b.1 in
    let d = or_parts (bytes_eq v.new w.old) _ c.1 in
    record {
      one_set = same_bytes v.set w.set (not_not (bytes_eq v.set w.set) a.0);
      oo = other_bytes v.old w.old b.0;
      on = other_bytes v.old w.new c.0;
      new_old = other_bytes v.new w.old d.0;
      nn = other_bytes v.new w.new d.1;
    }
  where
    not_not : (b : Bool) → not b ≡ false → b ≡ true
    not_not true e = refl
    not_not false e = cc e

exchanges_pass_on : (v w : TokenWords) → leans v w ≡ false → AreGood v → AreGood w → (x : List ℕ) → exchange v (exchange w x) ≡ exchange w (exchange v x)
exchanges_pass_on v w off good_v good_w x =
    let a = apart v w off in
    let both : Some good_v.set ≡ Some good_w.set = sym good_v.means ∙ ap set_of a.one_set ∙ good_w.means in
    let one : good_v.set ≡ good_w.set = cc both in
    let means : set_of w.set ≡ Some good_v.set = good_w.means ∙ sym both in
    let is_v = exchange_is v good_v.set good_v.means in
    let is_w = exchange_is w good_v.set means in
    is_v (exchange w x)
    ∙ ap (exchanged good_v.set v.old v.new) (is_w x)
    ∙ sym (exchanges_pass good_v.set v.old v.new w.old w.new x good_v.old_token good_v.new_token (rw one good_w.old_token) (rw one good_w.new_token) a.oo a.on a.new_old a.nn)
    ∙ sym (is_w (exchange v x) ∙ ap (exchanged good_v.set w.old w.new) (is_v x))

-- what a heap spells

past : (w : TokenWords) (h : Heap) → IsHeap h → AreGood w → ((d : HeapEntry) → Contains h d → leans d.words w ≡ false) → (x : List ℕ) →
    spelled h (exchange w x) ≡ exchange w (spelled h x)
unfolding spelled
past w [] heap good off x = refl
past w (d ∷ h) heap good off x =
    ap (spelled h) (exchanges_pass_on d.words w (off d (head_is_in d h)) heap.0 good x) ∙ past w h heap.2 good (λ e c. off e (next_is_in d e h c)) (exchange d.words x)

put_spells : (e : HeapEntry) (h : Heap) → IsHeap h → AreGood e.words → ((d : HeapEntry) → Contains h d → leans d.words e.words ≡ true → d.height < e.height) → (x : List ℕ) →
    spelled (put_in e h) x ≡ exchange e.words (spelled h x)
unfolding spelled put_in
put_spells e [] heap good above x = refl
put_spells e (d ∷ h) heap good above x = go (put_spells e h heap.2 good (λ f c. above f (next_is_in d f h c)) (exchange d.words x)) (compared e d) refl
  where
    free : ((f : HeapEntry) → Contains (d ∷ h) f → Precedes e f) → (f : HeapEntry) → Contains (d ∷ h) f → leans f.words e.words ≡ false
    free first f c = elim (cases_Bool (leans f.words e.words)) [ inl l ↦ absurd (not_higher e f (first f c) (above f c l)) | inr l ↦ l ]

    go : spelled (d ∷ put_in e h) x ≡ exchange e.words (spelled (d ∷ h) x) → (o : Ordering) → compared e d ≡ o → spelled (cond (is_lt o) (e ∷ d ∷ h) (d ∷ put_in e h)) x ≡ exchange e.words (spelled (d ∷ h) x)
    go later Less i = past e.words (d ∷ h) heap good (free (λ f c. elim (in_cases d f h c) [ inl k ↦ subst (Precedes e) k i | inr k ↦ total.trans e d f i (heap.1 f k) ])) x
    go later Equal i = later
    go later Greater i = later

-- a replace put on: what the heap spelled, and then its exchange
pub put_on_spells : (w : TokenWords) (h : Heap) → IsHeap h → AreGood w → (x : List ℕ) → spelled (put_on w h) x ≡ exchange w (spelled h x)
put_on_spells w h heap good x = put_spells (entry_on w h) h heap good (higher_than w h) x

-- the symbol that a heap spells as a text
unfoldable pub symbol : Heap → List ℕ → List ℕ
symbol [] y = y
symbol (e ∷ h) y = exchange e.words (symbol h y)

pub symbol_spells : (h : Heap) → IsHeap h → (y : List ℕ) → spelled h (symbol h y) ≡ y
unfolding spelled symbol
symbol_spells [] heap y = refl
symbol_spells (e ∷ h) heap y = ap (spelled h) (exchange_twice e.words heap.0 (symbol h y)) ∙ symbol_spells h heap.2 y

-- and it is the only one
symbol_of : (h : Heap) → IsHeap h → (x : List ℕ) → symbol h (spelled h x) ≡ x
unfolding spelled symbol
symbol_of [] heap x = refl
symbol_of (e ∷ h) heap x = ap (exchange e.words) (symbol_of h heap.2 (exchange e.words x)) ∙ exchange_twice e.words heap.0 x

pub one_symbol : (h : Heap) (y : List ℕ) → IsHeap h → (x : List ℕ) × (spelled h x ≡ y) × ((z : List ℕ) → spelled h z ≡ y → z ≡ x)
one_symbol h y heap = (symbol h y, symbol_spells h heap y, λ z e. sym (symbol_of h heap z) ∙ ap (symbol h) e)

-- two orders

pub not_leaning : (v w : TokenWords) → AreApart v w → leans v w ≡ false
not_leaning v w a =
    let s : bytes_eq v.set w.set ≡ true = (bytes_eq-Decides v.set w.set).1 a.one_set in
    rw (s, differ v.old w.old a.oo, differ v.old w.new a.on, differ v.new w.old a.new_old, differ v.new w.new a.nn)

pub leans_turn : (v w : TokenWords) → leans v w ≡ false → leans w v ≡ false
leans_turn v w h =
    let a = apart v w h in
    not_leaning w v (record { one_set = sym a.one_set; oo = λ e. a.oo (sym e); on = λ e. a.new_old (sym e); new_old = λ e. a.on (sym e); nn = λ e. a.nn (sym e) })

pub height_stays : (w : TokenWords) (e : HeapEntry) (h : Heap) → leans e.words w ≡ false → height_on w (put_in e h) ≡ height_on w h
unfolding put_in
height_stays w e [] off = cond-false (leans e.words w) _ _ off
height_stays w e (d ∷ h) off = go (height_stays w e h off) (is_lt (compared e d))
  where
    go : height_on w (put_in e h) ≡ height_on w h → (b : Bool) → height_on w (cond b (e ∷ d ∷ h) (d ∷ put_in e h)) ≡ height_on w (d ∷ h)
    go rest true = cond-false (leans e.words w) _ _ off
    go rest false = ap (λ z. cond (leans d.words w) (max (d.height + 1) z) z) rest

-- two replaces that don't lean on each other make the same heap in both orders
pub orders_alike : (v w : TokenWords) (h : Heap) → leans v w ≡ false → IsHeap h → AreGood v → AreGood w → put_on v (put_on w h) ≡ put_on w (put_on v h)
orders_alike v w h off heap good_v good_w =
    same_heap (put_on v (put_on w h)) (put_on w (put_on v h)) (put_on_heap v (put_on w h) (put_on_heap w h heap good_w) good_v) (put_on_heap w (put_on v h) (put_on_heap v h heap good_v) good_w)
    (λ x c. Contains-permutation (put_on v (put_on w h)) (put_on w (put_on v h)) x both c)
    (λ x c. Contains-permutation (put_on w (put_on v h)) (put_on v (put_on w h)) x (IsPermutation-sym (put_on v (put_on w h)) (put_on w (put_on v h)) both) c)
  where
    a : HeapEntry
    a = entry_on v h

    b : HeapEntry
    b = entry_on w h

    first : put_on v (put_on w h) ≡ put_in a (put_in b h)
    first = ap (λ n. put_in (record { height = n; words = v }) (put_in b h)) (height_stays v b h (leans_turn v w off))

    second : put_on w (put_on v h) ≡ put_in b (put_in a h)
    second = ap (λ n. put_in (record { height = n; words = w }) (put_in a h)) (height_stays w a h off)

    -- both are the two entries and the heap
    two : (e d : HeapEntry) → IsPermutation (e ∷ d ∷ h) (put_in e (put_in d h))
    two e d = IsPermutation-trans (e ∷ d ∷ h) (e ∷ put_in d h) (put_in e (put_in d h)) (IsPermutation-cons e (d ∷ h) (put_in d h) (put_permutes d h)) (put_permutes e (put_in d h))

    both : IsPermutation (put_on v (put_on w h)) (put_on w (put_on v h))
    both = rw (first, second)
        (IsPermutation-trans (put_in a (put_in b h)) (a ∷ b ∷ h) (put_in b (put_in a h)) (IsPermutation-sym (a ∷ b ∷ h) (put_in a (put_in b h)) (two a b))
        (IsPermutation-trans (a ∷ b ∷ h) (b ∷ a ∷ h) (put_in b (put_in a h))
        (IsPermutation-append_left h (a ∷ b ∷ []) (b ∷ a ∷ []) (IsPermutation-append_comm (a ∷ []) (b ∷ []))) (two b a)))

-- taking off

put_first : (e : HeapEntry) (h : Heap) → ((d : HeapEntry) → Contains h d → Precedes e d) → put_in e h ≡ e ∷ h
unfolding put_in
put_first e [] first = refl
put_first e (d ∷ h) first = ap (λ o. cond (is_lt o) (e ∷ d ∷ h) (d ∷ put_in e h)) (first d (head_is_in d h))

put_later : (e d : HeapEntry) (h : Heap) → Precedes d e → put_in e (d ∷ h) ≡ d ∷ put_in e h
unfolding put_in
put_later e d h before = ap (λ o. cond (is_lt o) (e ∷ d ∷ h) (d ∷ put_in e h)) (total.antisymm e d ∙ ap ordering_reverse before)

-- a heap without one of its entries
record TakenOut (e : HeapEntry) (h : Heap) : Type 0 where
  rest : Heap
  is_heap : IsHeap rest
  put_back : h ≡ put_in e rest
  gone : Contains rest e → ⊥

put_there : (e : HeapEntry) (h : Heap) → Contains (put_in e h) e
put_there e h = Contains-permutation (e ∷ h) (put_in e h) e (put_permutes e h) (head_is_in e h)

put_kept : (e : HeapEntry) (h : Heap) (d : HeapEntry) → Contains h d → Contains (put_in e h) d
put_kept e h d c = Contains-permutation (e ∷ h) (put_in e h) d (put_permutes e h) (next_is_in e d h c)

take_out : (e : HeapEntry) (h : Heap) → IsHeap h → Contains h e → TakenOut e h
take_out e [] heap c = absurd (none_in_nil e c)
take_out e (d ∷ h) heap c = go (λ k. take_out e h heap.2 k) (in_cases d e h c)
  where
    go : (Contains h e → TakenOut e h) → (d ≡ e) ⊎ Contains h e → TakenOut e (d ∷ h)
    go later (inl i) =
        let first : (x : HeapEntry) → Contains h x → Precedes e x = λ x k. subst (λ z. Precedes z x) i (heap.1 x k) in
        record { rest = h; is_heap = heap.2; put_back = ap (λ z. z ∷ h) i ∙ sym (put_first e h first); gone = λ k. never_itself e (first e k) }
    go later (inr i) =
        let r = later i in
        let before : Precedes d e = heap.1 e i in
        record {
          rest = d ∷ r.rest;
          is_heap = (heap.0, (λ x k. heap.1 x (subst (λ z. Contains z x) (sym r.put_back) (put_kept e r.rest x k))), r.is_heap);
          put_back = ap (λ z. d ∷ z) r.put_back ∙ sym (put_later e d r.rest before);
          gone = λ k. elim (in_cases d e r.rest k) [ inl j ↦ never_itself e (subst (λ z. Precedes z e) j before) | inr j ↦ r.gone j ];
        }

-- a heap on which a replace was put last, and as well another one that it doesn't lean on: both were put on one heap
pub record Parted (v w : TokenWords) (h k : Heap) : Type 0 where
  pub rest : Heap
  pub is_heap : IsHeap rest
  pub first : h ≡ put_on w rest
  pub second : k ≡ put_on v rest

pub parted : (v w : TokenWords) (h k : Heap) → leans v w ≡ false → IsHeap h → IsHeap k → AreGood v → AreGood w → put_on v h ≡ put_on w k → Parted v w h k
parted v w h k off heap_h heap_k good_v good_w both = go (take_out b h heap_h b_there)
  where
    a : HeapEntry
    a = entry_on v h

    b : HeapEntry
    b = entry_on w k

    two : a ≢ b
    two e = false≢true (sym off ∙ rw (← ap (λ z. z.words) e) (leans_itself v))

    b_there : Contains h b
    b_there = elim (put_cases a h b (subst (λ z. Contains z b) (sym both) (put_there b k))) [ inl e ↦ absurd (two e) | inr c ↦ c ]

    go : TakenOut b h → Parted v w h k
    go r = record { rest = r.rest; is_heap = r.is_heap; first = h_is; second = k_is ∙ a_on }
      where
        a_on : put_in a r.rest ≡ put_on v r.rest
        a_on = ap (λ n. put_in (record { height = n; words = v }) r.rest) (ap (height_on v) r.put_back ∙ height_stays v b r.rest (leans_turn v w off))

        back : (x : HeapEntry) → Contains (put_in a r.rest) x → Contains k x
        back x c = elim (put_cases a r.rest x c) [
          | inl e ↦ elim (put_cases b k x (subst (λ z. Contains z x) both (subst (Contains (put_on v h)) e (put_there a h)))) [ inl f ↦ absurd (two (e ∙ sym f)) | inr f ↦ f ]
          | inr m ↦ elim (put_cases b k x (subst (λ z. Contains z x) both (put_kept a h x (subst (λ z. Contains z x) (sym r.put_back) (put_kept b r.rest x m))))) [
            | inl f ↦ absurd (r.gone (subst (Contains r.rest) (sym f) m))
            | inr f ↦ f
          ]
        ]

        there : (x : HeapEntry) → Contains k x → Contains (put_in a r.rest) x
        there x c = elim (put_cases a h x (subst (λ z. Contains z x) (sym both) (put_kept b k x c))) [
          | inl e ↦ subst (Contains (put_in a r.rest)) e (put_there a r.rest)
          | inr m ↦ elim (put_cases b r.rest x (subst (λ z. Contains z x) r.put_back m)) [
            | inl f ↦ absurd (not_there w k (subst (Contains k) (sym f) c))
            | inr f ↦ put_kept a r.rest x f
          ]
        ]

        k_is : k ≡ put_in a r.rest
        k_is = same_heap k (put_in a r.rest) heap_k (subst IsHeap (sym a_on) (put_on_heap v r.rest r.is_heap good_v)) there back

        h_is : h ≡ put_on w r.rest
        h_is = r.put_back ∙ ap (λ n. put_in (record { height = n; words = w }) r.rest) (ap (height_on w) k_is ∙ height_stays w a r.rest off)
