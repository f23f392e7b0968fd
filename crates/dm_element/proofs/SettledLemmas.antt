-- Conflicts that pass what follows them, and patches at places of a list.
use Rattle.std.proofs.Common.{◌≡◌, ℕ, ◌+◌, ◌-◌, ◌<◌, ◌≤◌, inr, true, false, List, [], ◌∷◌, ◌++◌, length, take, drop, map, get_or, Contains, sym, ap, ap₂, refl, ◌∙◌, arith, append_assoc, append-nil, length-append, length-drop}
use borrow.Author.Count.{below_more}
use Rattle.std.proofs.lemmas.List.{take_more, drop_more, take-append-drop, take_all, map-append, get_or-map, length-map, length-take-le}
use Rattle.std.proofs.lemmas.Bool.{eqb-true, eq-eqb}
use Rattle.std.proofs.Math.Dec.{eqb}
use Rattle.dm_prim.specs.Rectangles.{CellRow, none, next, empty, row}
use Rattle.dm_prim.specs.Primitives.{Prim}
use Rattle.dm_prim.proofs.RectangleLemmas.{cells_on, no_cells}
use Rattle.dm_element.specs.Elements.{Element, Plain, Conflicted, Conflict, ElementCommutes, ElementListsCommute}
use Rattle.dm_element.specs.Settled.{Patch, elements_in, IsNamed, PassesAll, IsSettledPatch, IsUnsettledPatch, AreSettled, IsFirstUnsettled}
use Rattle.dm_element.specs.Values.{element_of, elements_of, patch_of, patches_of}
use Rattle.dm_element.specs.declared.element.Element as values
use Rattle.dm_element.specs.declared.settled.Patch as code
use Rattle.dm_element.proofs.ElementLemmas.{elements_one, element_lists_one}

-- one place of a list
pub same_parts : {X : Type 0} (xs ys cs ds : List X) (x y : X) → xs ++ x ∷ cs ≡ ys ++ y ∷ ds → length xs ≡ length ys → (xs ≡ ys) × (x ≡ y) × (cs ≡ ds)
same_parts [] [] cs ds x y e l = let h : x ≡ y = cc in let t : cs ≡ ds = cc in (refl, h, t)
same_parts [] (b ∷ ys) cs ds x y e l = absurd (omega (arith, l))
same_parts (a ∷ xs) [] cs ds x y e l = absurd (omega (arith, l))
same_parts (a ∷ xs) (b ∷ ys) cs ds x y e l =
    let h : a ≡ b = cc in
    let t : xs ++ x ∷ cs ≡ ys ++ y ∷ ds = cc in
    let r = same_parts xs ys cs ds x y t (omega (arith, l)) in (ap₂ (λ p q. p ∷ q) h r.0, r.1, r.2)

-- what a slice up to the end is
pub behind : {X : Type 0} (xs : List X) (n : ℕ) → take (length xs - n) (drop n xs) ≡ drop n xs
behind xs n = take_all (length xs - n) (drop n xs) (omega (arith, length-drop n xs))

module _ {X : Type 0} (xs : List X) (i : ℕ) (x : X) (below : i < length xs) (is : x ≡ get_or xs i x) where
  pub parted : xs ≡ take i xs ++ x ∷ drop (i + 1) xs
  parted = sym (take-append-drop i xs) ∙ ap (λ z. take i xs ++ z) (drop_more xs i x below ∙ ap (λ y. y ∷ drop (i + 1) xs) (sym is))

  pub before_more : take (i + 1) xs ≡ take i xs ++ x ∷ []
  before_more = take_more xs i x below ∙ ap (λ y. take i xs ++ y ∷ []) (sym is)

  -- what is read of the values
  module _ {P : Type 0} (read : X → P) where
    pub read_parted : map read xs ≡ map read (take i xs) ++ read x ∷ map read (drop (i + 1) xs)
    read_parted = ap (map read) parted ∙ map-append read (take i xs) (x ∷ drop (i + 1) xs)

    pub read_before_more : map read (take (i + 1) xs) ≡ map read (take i xs) ++ read x ∷ []
    read_before_more = ap (map read) before_more ∙ map-append read (take i xs) (x ∷ [])

-- rows of cells
cells_front : {x x' : Element} (ys : List Element) {zs ws : List Element} → CellRow ElementCommutes x (ys ++ zs) ws x' →
    (vs : List Element) × (x1 : Element) × (us : List Element) × CellRow ElementCommutes x ys vs x1 × CellRow ElementCommutes x1 zs us x'
cells_front {x} [] {zs} {ws} s = ([], x, ws, none, s)
cells_front (y ∷ ys) (next {y' = v} c s) = let r = cells_front ys s in (v ∷ r.0, r.1, r.2, next c r.3, r.4)

row_of : {e : Element} {fs ys xs : List Element} → ElementListsCommute (e ∷ []) fs ys xs → (x : Element) × CellRow ElementCommutes e fs ys x
row_of (row {x' = x} empty s) = (x, s)

one_end : {e x y : Element} {fs ys zs : List Element} → CellRow ElementCommutes e fs ys x → CellRow ElementCommutes e fs zs y → x ≡ y
one_end {e} {x} {y} {fs} {ys} {zs} s t =
    let r = element_lists_one (e ∷ []) fs ys (x ∷ []) zs (y ∷ []) (row empty s) (row empty t) in
    let l : x ∷ [] ≡ y ∷ [] = r.1 in let h : x ≡ y = cc in h

-- what passes a list
pub passes : {e x : Element} {fs ys : List Element} → CellRow ElementCommutes e fs ys x → PassesAll e fs
passes {x = x} {ys = ys} s = record { passed = ys; moved = x ∷ []; commute = row empty s }

pub passes_front : {e : Element} (fs gs : List Element) → PassesAll e (fs ++ gs) → PassesAll e fs
passes_front fs gs h = let r = row_of h.commute in let k = cells_front fs r.1 in passes k.3

-- it stops at those of a list that it can't pass
pub stops : {e x : Element} {fs ys : List Element} (gs hs : List Element) → CellRow ElementCommutes e fs ys x → ((vs : List Element) (v : Element) → CellRow ElementCommutes x gs vs v → ⊥) → PassesAll e (fs ++ (gs ++ hs)) → ⊥
stops {e} {x} {fs} gs hs s n h =
    let r = row_of h.commute in
    let a = cells_front fs r.1 in
    let b = cells_front gs a.4 in
    n b.0 b.1 (rw (one_end s a.3) b.3)

-- e is at x once it has passed fs
abbrev pub Over : Element → List Element → Element → Type 0
Over e fs x = (ys : List Element) × CellRow ElementCommutes e fs ys x

pub over_none : (e : Element) → Over e [] e
over_none e = ([], none)

pub over_on : {e x y : Element} {fs gs : List Element} → Over e fs x → Over x gs y → Over e (fs ++ gs) y
over_on h k = (h.0 ++ k.0, cells_on Element ElementCommutes h.1 k.1)

pub over_passes : {e x : Element} {fs : List Element} → Over e fs x → PassesAll e fs
over_passes h = passes h.1

-- a loop over elements: those before a place are passed
module _ {Z : Type 0} (xs : List (values.Element Z)) (i : ℕ) where
  module _ (x : values.Element Z) (below : i < length xs) (is : x ≡ get_or xs i x) (e x1 : Element) (h : Over e (elements_of (take i xs)) x1) where
    pub over_more : {x2 y : Element} → ElementCommutes x1 (element_of x) y x2 → Over e (elements_of (take (i + 1) xs)) x2
    over_more {x2} {y} c =
        let k : Over e (elements_of (take i xs) ++ element_of x ∷ []) x2 = over_on h (y ∷ [], next c none) in
        rw (read_before_more xs i x below is element_of) k

    pub over_not : ((f' e' : Element) → ElementCommutes x1 (element_of x) f' e' → ⊥) → (ys : List Element) (x' : Element) → CellRow ElementCommutes e (elements_of xs) ys x' → ⊥
    over_not n ys x' s = no_cells Element ElementCommutes elements_one (elements_of (drop (i + 1) xs)) h.1 n (rw (read_parted xs i x below is element_of) at s)

  pub over_all : (e x1 : Element) → length xs ≤ i → Over e (elements_of (take i xs)) x1 → Over e (elements_of xs) x1
  over_all e x1 l h = rw (take_all i xs l) at h

-- patches
pub elements_in-append : (ps qs : List Patch) → elements_in (ps ++ qs) ≡ elements_in ps ++ elements_in qs
elements_in-append [] qs = refl
elements_in-append (p ∷ ps) qs = ap (λ z. p.elements ++ z) (elements_in-append ps qs) ∙ sym (append_assoc p.elements (elements_in ps) (elements_in qs))

pub stops_at_once : {e : Element} (fs gs : List Element) → ((ys : List Element) (x : Element) → CellRow ElementCommutes e fs ys x → ⊥) → PassesAll e (fs ++ gs) → ⊥
stops_at_once fs gs n h = let r = row_of (passes_front fs gs h).commute in n _ r.0 r.1

-- a loop over the later patches: the rest and those before a place are passed
module _ {Z : Type 0} (e : Element) (rest : List Element) (ps : List (code.Patch Z)) (i : ℕ) where
  module _ (p : code.Patch Z) (below : i < length ps) (is : p ≡ get_or ps i p) (x1 : Element) (h : Over e (rest ++ elements_in (patches_of (take i ps))) x1) where
    pub later_more : {x2 : Element} → Over x1 (elements_of p.elements.now) x2 → Over e (rest ++ elements_in (patches_of (take (i + 1) ps))) x2
    later_more {x2} k =
        let more : elements_in (patches_of (take (i + 1) ps)) ≡ elements_in (patches_of (take i ps)) ++ elements_of p.elements.now =
        ap elements_in (read_before_more ps i p below is patch_of) ∙ elements_in-append (patches_of (take i ps)) (patch_of p ∷ []) ∙ ap (λ z. elements_in (patches_of (take i ps)) ++ z) (append-nil (elements_of p.elements.now)) in
        rw (more, ← append_assoc rest (elements_in (patches_of (take i ps))) (elements_of p.elements.now)) (over_on h k)

    pub later_not : ((ys : List Element) (x : Element) → CellRow ElementCommutes x1 (elements_of p.elements.now) ys x → ⊥) → PassesAll e (rest ++ elements_in (patches_of ps)) → ⊥
    later_not n w =
        let parts : elements_in (patches_of ps) ≡ elements_in (patches_of (take i ps)) ++ (elements_of p.elements.now ++ elements_in (patches_of (drop (i + 1) ps))) =
        ap elements_in (read_parted ps i p below is patch_of) ∙ elements_in-append (patches_of (take i ps)) (patch_of p ∷ patches_of (drop (i + 1) ps)) in
        stops (elements_of p.elements.now) (elements_in (patches_of (drop (i + 1) ps))) h.1 n
        (rw (parts, ← append_assoc rest (elements_in (patches_of (take i ps))) (elements_of p.elements.now ++ elements_in (patches_of (drop (i + 1) ps)))) at w)

  pub later_all : (x1 : Element) → length ps ≤ i → Over e (rest ++ elements_in (patches_of (take i ps))) x1 → PassesAll e (rest ++ elements_in (patches_of ps))
  later_all x1 l h = over_passes (rw (take_all i ps l) at h)

-- what `contains` says of places
pub contains_from : (names : List ℕ) (place : ℕ) → (k : ℕ) × (k < length names) × ((d : ℕ) → eqb (get_or names k d) place ≡ true) → Contains names place
contains_from names place (k, l, e) = (k, l, eqb-true (get_or names k place) place (e place))

pub contains_not : (names : List ℕ) (place : ℕ) → ((k d : ℕ) → 0 ≤ k → k < length names → eqb (get_or names k d) place ≡ false) → Contains names place → ⊥
contains_not names place n (k, l, e) = let t : eqb (get_or names k place) place ≡ true = eq-eqb (get_or names k place) place e in let f = n k place (omega arith) l in let w : ⊥ = cc in w

-- which patches are named
module _ {Z : Type 0} (place : ℕ) (ps : List (code.Patch Z)) where
  module _ (i : ℕ) (p : code.Patch Z) (below : i < length ps) (is : p ≡ get_or ps i p) where
    patch_at : (d : Patch) → get_or (patches_of ps) i d ≡ patch_of p
    patch_at d = get_or-map patch_of ps i p d below ∙ sym (ap patch_of is)

    pub named_at : Contains p.names.now place → IsNamed place (patches_of ps)
    named_at h = (i, patch_of p, rw (length-map ps patch_of) below, patch_at (patch_of p), h)

    pub not_named_more : ((k : ℕ) → k < i → (d : Patch) → Contains (get_or (patches_of ps) k d).names place → ⊥) → (Contains p.names.now place → ⊥) →
        (k : ℕ) → k < i + 1 → (d : Patch) → Contains (get_or (patches_of ps) k d).names place → ⊥
    not_named_more h n = below_more (λ k. (d : Patch) → Contains (get_or (patches_of ps) k d).names place → ⊥) i h (λ d. rw (patch_at d) n)

  pub not_named : (i : ℕ) → length ps ≤ i → ((k : ℕ) → k < i → (d : Patch) → Contains (get_or (patches_of ps) k d).names place → ⊥) → IsNamed place (patches_of ps) → ⊥
  not_named i l n (k, x, b, e, h) = n k (omega (arith, l, b, length-map ps patch_of)) x (rw e h)

-- the conflict at a place, if there is one, doesn't pass what follows it
abbrev pub IsHeldAt : List Element → List Patch → ℕ → Type 0
IsHeldAt es later k = (front rest : List Element) (c : Conflict) → es ≡ front ++ Conflicted c ∷ rest → length front ≡ k → PassesAll (Conflicted c) (rest ++ elements_in later) → ⊥

module _ {Z : Type 0} (xs : List (values.Element Z)) (i : ℕ) (x : values.Element Z) (below : i < length xs) (is : x ≡ get_or xs i x) (later : List Patch) where
  at_length : length (elements_of (take i xs)) ≡ i
  at_length = length-map (take i xs) element_of ∙ length-take-le i xs (omega (arith, below))

  pub plain_held : (p : Prim) → element_of x ≡ Plain p → IsHeldAt (elements_of xs) later i
  plain_held p e front rest c w l h =
      let r = same_parts front (elements_of (take i xs)) rest (elements_of (drop (i + 1) xs)) (Conflicted c) (element_of x) (sym w ∙ read_parted xs i x below is element_of) (l ∙ sym at_length) in
      let k : Conflicted c ≡ Plain p = r.1 ∙ e in let z : ⊥ = cc in z

  pub conflict_held : (c : Conflict) → element_of x ≡ Conflicted c → (PassesAll (Conflicted c) (elements_of (drop (i + 1) xs) ++ elements_in later) → ⊥) → IsHeldAt (elements_of xs) later i
  conflict_held c0 e n front rest c w l h =
      let r = same_parts front (elements_of (take i xs)) rest (elements_of (drop (i + 1) xs)) (Conflicted c) (element_of x) (sym w ∙ read_parted xs i x below is element_of) (l ∙ sym at_length) in
      n (rw (r.2, r.1 ∙ e) at h)

  pub conflict_unsettled : (place : ℕ) (names : List ℕ) (c : Conflict) → element_of x ≡ Conflicted c → (IsNamed place later → ⊥) → PassesAll (Conflicted c) (elements_of (drop (i + 1) xs) ++ elements_in later) →
      IsUnsettledPatch place (record { elements = elements_of xs; names = names }) later
  conflict_unsettled place names c e n h = record {
    front = elements_of (take i xs);
    conflict = c;
    rest = elements_of (drop (i + 1) xs);
    whole = read_parted xs i x below is element_of ∙ ap (λ z. elements_of (take i xs) ++ z ∷ elements_of (drop (i + 1) xs)) e;
    unnamed = n;
    passes = h;
  }

pub all_held : (es : List Element) (later : List Patch) (i : ℕ) → length es ≤ i → ((k : ℕ) → k < i → IsHeldAt es later k) → (place : ℕ) (names : List ℕ) → IsSettledPatch place (record { elements = es; names = names }) later
all_held es later i l h place names front rest c w =
    inr (h (length front) (let k : length es ≡ length front + length (Conflicted c ∷ rest) = ap length w ∙ length-append front (Conflicted c ∷ rest) in omega (arith, k, l)) front rest c w refl)

-- the patch at a place is settled
abbrev pub IsSettledAt : List Patch → ℕ → Type 0
IsSettledAt ps k = (before later : List Patch) (p : Patch) → ps ≡ before ++ p ∷ later → length before ≡ k → IsSettledPatch k p later

module _ {Z : Type 0} (ps : List (code.Patch Z)) (i : ℕ) (p : code.Patch Z) (below : i < length ps) (is : p ≡ get_or ps i p) where
  in_front : length (patches_of (take i ps)) ≡ i
  in_front = length-map (take i ps) patch_of ∙ length-take-le i ps (omega (arith, below))

  pub settled_here : IsSettledPatch i (patch_of p) (patches_of (drop (i + 1) ps)) → IsSettledAt (patches_of ps) i
  settled_here h before later q w l =
      let r = same_parts before (patches_of (take i ps)) later (patches_of (drop (i + 1) ps)) q (patch_of p) (sym w ∙ read_parted ps i p below is patch_of) (l ∙ sym in_front) in rw (r.1, r.2) h

  pub first_unsettled : ((k : ℕ) → k < i → IsSettledAt (patches_of ps) k) → IsUnsettledPatch i (patch_of p) (patches_of (drop (i + 1) ps)) → IsFirstUnsettled (patches_of ps) i
  first_unsettled h u = record {
    before = patches_of (take i ps);
    patch = patch_of p;
    later = patches_of (drop (i + 1) ps);
    whole = read_parted ps i p below is patch_of;
    at_place = in_front;
    unsettled = u;
    settled = λ front between q w.
        let size : length (patches_of (take i ps)) ≡ length front + length (q ∷ between) = ap length w ∙ length-append front (q ∷ between) in
        h (length front) (omega (arith, size, in_front)) front (between ++ patch_of p ∷ patches_of (drop (i + 1) ps)) q
        (read_parted ps i p below is patch_of ∙ ap (λ z. z ++ patch_of p ∷ patches_of (drop (i + 1) ps)) w ∙ append_assoc front (q ∷ between) (patch_of p ∷ patches_of (drop (i + 1) ps))) refl;
  }

pub all_settled : (ps : List Patch) (i : ℕ) → length ps ≤ i → ((k : ℕ) → k < i → IsSettledAt ps k) → AreSettled ps
all_settled ps i l h before later p w =
    h (length before) (let k : length ps ≡ length before + length (p ∷ later) = ap length w ∙ length-append before (p ∷ later) in omega (arith, k, l)) before later p w refl
