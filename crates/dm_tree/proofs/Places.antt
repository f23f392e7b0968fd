-- The steps of the loops over ends, and a gap that is opened among them.
use Rattle.std.proofs.Common.{◌≡◌, ℕ, ◌+◌, ◌-◌, ◌^◌, ◌<◌, ◌≤◌, List, ◌++◌, length, take, drop, get_or, map, sym, ap, ap₂, subst, ◌∙◌, arith, append_assoc, append-nil, length-append, length-drop, take-append-drop}
use Rattle.std.specs.List.{All, copy_within}
use Rattle.std.proofs.lemmas.List.{take_all, drop_all, take_at, drop_at, take-take, drop-drop, take-append-le, drop-append-le, length-take-le, ext_get_or, get_or-take, get_or-drop, get_or-map, length-map}
use Rattle.std.proofs.lemmas.List.Edits.{take-paste}

-- the places from start to before i are moved, and the others stand
pub record Shifted (start from to : ℕ) (old new : List ℕ) (i : ℕ) : Type 0 where
  pub size : length new ≡ length old
  pub front : (k : ℕ) → k < start → get_or new k 0 ≡ get_or old k 0
  pub done : (k : ℕ) → start ≤ k → k < i → get_or new k 0 ≡ get_or old k 0 - from + to
  pub rest : (k : ℕ) → i ≤ k → get_or new k 0 ≡ get_or old k 0

-- the places from start to before start + i are written, and the others stand
pub record Filled (start from : ℕ) (fresh old new : List ℕ) (i : ℕ) : Type 0 where
  pub size : length new ≡ length old
  pub front : (k : ℕ) → k < start → get_or new k 0 ≡ get_or old k 0
  pub done : (k : ℕ) → k < i → get_or new (start + k) 0 ≡ from + get_or fresh k 0
  pub rest : (k : ℕ) → start + i ≤ k → get_or new k 0 ≡ get_or old k 0

same_front : (n : ℕ) (xs ys : List ℕ) → n ≤ length xs → n ≤ length ys → ((k : ℕ) → k < n → get_or xs k 0 ≡ get_or ys k 0) → take n xs ≡ take n ys
same_front n xs ys a b same =
    let size : length (take n xs) ≡ n = length-take-le n xs a in
    ext_get_or 0 (take n xs) (take n ys) (size ∙ sym (length-take-le n ys b))
    (λ k lt. let less : k < n = omega (arith, lt, size) in get_or-take n xs k 0 less ∙ same k less ∙ sym (get_or-take n ys k 0 less))

same_rest : (n : ℕ) (xs ys : List ℕ) → length xs ≡ length ys → ((k : ℕ) → n ≤ k → get_or xs k 0 ≡ get_or ys k 0) → drop n xs ≡ drop n ys
same_rest n xs ys e same =
    ext_get_or 0 (drop n xs) (drop n ys) (omega (arith, e, length-drop n xs, length-drop n ys))
    (λ k lt. get_or-drop n xs k 0 ∙ same (n + k) (omega arith) ∙ sym (get_or-drop n ys k 0))

pub shifted_all : (start from to : ℕ) (old new : List ℕ) (i : ℕ) → start ≤ length old → length old ≤ i → Shifted start from to old new i → new ≡ take start old ++ map (λ e. e - from + to) (drop start old)
shifted_all start from to old new i within le s =
    sym (take-append-drop start new) ∙ ap₂ (λ a b. a ++ b) (same_front start new old (omega (arith, s.size)) within s.front) moved
  where
    sizes : length (drop start new) ≡ length (map (λ e. e - from + to) (drop start old))
    sizes = omega (arith, s.size, length-drop start new, length-drop start old, length-map (drop start old) (λ e. e - from + to))

    moved : drop start new ≡ map (λ e. e - from + to) (drop start old)
    moved = ext_get_or 0 (drop start new) (map (λ e. e - from + to) (drop start old)) sizes
        (λ k lt. get_or-drop start new k 0 ∙ s.done (start + k) (omega arith) (omega (arith, lt, le, s.size, length-drop start new))
        ∙ ap (λ e. e - from + to) (sym (get_or-drop start old k 0))
        ∙ sym (get_or-map (λ e. e - from + to) (drop start old) k 0 0 (omega (arith, lt, s.size, length-drop start new, length-drop start old))))

pub shift_at : (start from to : ℕ) (old new : List ℕ) (i : ℕ) → All (λ e. (from ≤ e) × (e - from + to < 2 ^ 64)) (drop start old) → start ≤ i → i < length old → Shifted start from to old new i → (from ≤ get_or new i 0) × (get_or new i 0 - from + to < 2 ^ 64)
shift_at start from to old new i all le lt s =
    let at : start + (i - start) ≡ i = omega arith in
    let same : get_or (drop start old) (i - start) 0 ≡ get_or new i 0 = get_or-drop start old (i - start) 0 ∙ ap (λ k. get_or old k 0) at ∙ sym (s.rest i (omega arith)) in
    subst (λ (e : ℕ). (from ≤ e) × (e - from + to < 2 ^ 64)) same (all (i - start) 0 (omega (arith, lt, le, length-drop start old)))

pub filled_all : (start from : ℕ) (fresh old new : List ℕ) (i : ℕ) → start + length fresh ≤ length old → length fresh ≡ i → Filled start from fresh old new i → new ≡ take start old ++ (map (λ e. from + e) fresh ++ drop (start + length fresh) old)
filled_all start from fresh old new i within le s =
    sym (take-append-drop start new)
    ∙ ap₂ (λ a b. a ++ b) (same_front start new old (omega (arith, s.size, within)) (omega (arith, within)) s.front)
    (sym (take-append-drop n (drop start new)) ∙ ap₂ (λ a b. a ++ b) written (drop-drop n start new ∙ same_rest (start + n) new old s.size (λ k h. s.rest k (omega (arith, h, le)))))
  where
    n : ℕ
    n = length fresh

    size : length (take n (drop start new)) ≡ n
    size = length-take-le n (drop start new) (omega (arith, within, s.size, length-drop start new))

    written : take n (drop start new) ≡ map (λ e. from + e) fresh
    written = ext_get_or 0 (take n (drop start new)) (map (λ e. from + e) fresh) (size ∙ sym (length-map fresh (λ e. from + e)))
        (λ k lt. let less : k < n = omega (arith, lt, size) in
        get_or-take n (drop start new) k 0 less ∙ get_or-drop start new k 0 ∙ s.done k (omega (arith, less, le)) ∙ sym (get_or-map (λ e. from + e) fresh k 0 0 less))

-- what is left where a run was replaced by as many numbers as wanted
abbrev pub Opened : {X : Type 0} → List X → ℕ → ℕ → ℕ → List X → Type 0
Opened {X} xs start end count new = (gap : List X) × (length gap ≡ count) × (new ≡ take start xs ++ (gap ++ drop end xs))

-- a run of the size that is wanted
pub open_already : {X : Type 0} (xs : List X) (start end count : ℕ) → start ≤ end → end ≤ length xs → count ≡ end - start → Opened xs start end count xs
open_already xs start end count order within e = (
  take count (drop start xs),
  length-take-le count (drop start xs) (omega (arith, e, length-drop start xs)),
  sym (take-append-drop start xs) ∙ ap (λ z. take start xs ++ z) (sym (take-append-drop count (drop start xs)) ∙ ap (λ z. take count (drop start xs) ++ z) (drop-drop count start xs ∙ ap (λ k. drop k xs) (omega arith))),
)

pub opened : {X : Type 0} (xs ys zs ws pad : List X) (start end count n : ℕ) → start ≤ end → end ≤ length xs → length xs ≤ n → start + count + (length xs - end) ≤ n → length pad ≡ n - length xs
    → ys ≡ take n xs ++ pad → zs ≡ copy_within ys end (length xs) (start + count) → ws ≡ take (start + count + (length xs - end)) zs → Opened xs start end count ws
opened xs ys zs ws pad start end count n order within le fits size e f h =
    (drop start (take (start + count) ys), gap_size, h ∙ ap (take (start + count + (length xs - end))) f ∙ moved ∙ ap₂ (λ a b. a ++ b) front behind ∙ assoc)
  where
    whole : ys ≡ xs ++ pad
    whole = e ∙ ap (λ z. z ++ pad) (take_all n xs le)

    all : length ys ≡ n
    all = omega (arith, ap length whole, length-append xs pad)

    moved : take (start + count + (length xs - end)) (copy_within ys end (length xs) (start + count)) ≡ take (start + count) ys ++ take (length xs - end) (drop end ys)
    moved = take-paste ys (start + count) (drop end ys) (length xs - end) (omega (arith, all)) (omega (arith, all, length-drop end ys))

    behind : take (length xs - end) (drop end ys) ≡ drop end xs
    behind = ap (λ z. take (length xs - end) (drop end z)) whole ∙ ap (take (length xs - end)) (drop-append-le end xs pad within) ∙ take_at (drop end xs) pad (length xs - end) (length-drop end xs)

    first : take start (take (start + count) ys) ≡ take start xs
    first = take-take start (start + count) ys (omega arith) ∙ ap (take start) whole ∙ take-append-le start xs pad (omega arith)

    front : take (start + count) ys ≡ take start xs ++ drop start (take (start + count) ys)
    front = sym (take-append-drop start (take (start + count) ys)) ∙ ap (λ z. z ++ drop start (take (start + count) ys)) first

    gap_size : length (drop start (take (start + count) ys)) ≡ count
    gap_size = omega (arith, length-drop start (take (start + count) ys), length-take-le (start + count) ys (omega (arith, all)))

    assoc : (take start xs ++ drop start (take (start + count) ys)) ++ drop end xs ≡ take start xs ++ (drop start (take (start + count) ys) ++ drop end xs)
    assoc = append_assoc (take start xs) (drop start (take (start + count) ys)) (drop end xs)

-- what a whole list is once a slice of all of it is written back
pub written_back : {X : Type 0} (new old : List X) (len : ℕ) → length new ≡ length old → len ≡ length old → take len (new ++ drop (length new) old) ≡ new
written_back new old len e f = ap (λ z. take len (new ++ z)) (drop_all (length new) old (omega (arith, e))) ∙ ap (take len) (append-nil new) ∙ take_all len new (omega (arith, e, f))

-- a shift of what is behind, a gap, and the fresh ends in it
pub replaced : (xs shifted opened filled fresh moved : List ℕ) (start end n : ℕ) → start ≤ end → end ≤ length xs → shifted ≡ take end xs ++ moved → Opened shifted start end n opened
    → filled ≡ take start opened ++ (fresh ++ drop (start + n) opened) → filled ≡ take start xs ++ (fresh ++ moved)
replaced xs shifted opened filled fresh moved start end n order within e (gap, size, o) f =
    f ∙ ap₂ (λ a b. a ++ (fresh ++ b)) (ap (take start) o ∙ take_at (take start shifted) (gap ++ drop end shifted) start front_size ∙ front) (sym (drop-drop n start opened) ∙ ap (drop n) rest ∙ drop_at gap (drop end shifted) n size ∙ behind)
  where
    end_size : length (take end xs) ≡ end
    end_size = length-take-le end xs within

    front : take start shifted ≡ take start xs
    front = ap (take start) e ∙ take-append-le start (take end xs) moved (omega (arith, end_size)) ∙ take-take start end xs order

    front_size : length (take start shifted) ≡ start
    front_size = ap length front ∙ length-take-le start xs (omega arith)

    rest : drop start opened ≡ gap ++ drop end shifted
    rest = ap (drop start) o ∙ drop_at (take start shifted) (gap ++ drop end shifted) start front_size

    behind : drop end shifted ≡ moved
    behind = ap (drop end) e ∙ drop_at (take end xs) moved end end_size
