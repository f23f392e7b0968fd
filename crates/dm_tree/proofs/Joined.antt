-- Lines in parts: where a line is, and a change inside one part.
use Rattle.std.proofs.Common.{◌≡◌, ℕ, ◌+◌, ◌-◌, ◌<◌, ◌≤◌, List, [], ◌∷◌, ◌++◌, length, take, drop, get_or, set, zero, suc, Result, Ok, Err, OnOk, refl, sym, ap, ap₂, subst, ◌∙◌, min, ◌*◌, ◌/◌, ◌^◌, Fits, w64, nat_eq, true, arith, append_assoc, append-nil, length-append, length-take, length-drop, take-append-drop}
use Rattle.std.specs.List.{splice}
use Rattle.std.proofs.lemmas.List.{take_all, take_rest, drop_all, take_more, drop_more, take-append-le, drop-append-le, set_split, get_or_append_left, get_or-append-add, get_or_default}
use Rattle.std.specs.Prelude.{sum_by}
use Rattle.std.proofs.lemmas.Bool.{eqb-true}
use Rattle.dm_tree.specs.Listings.{file_size}
use Rattle.std.proofs.Math.Seq.{take-add, take-append-add, drop-append-add}
use Rattle.std.proofs.lemmas.List.Sums.{sum_by-append}
use Rattle.std.proofs.lemmas.List.Elements.{All-append, All-take, All-drop}
use Rattle.dm_tree.specs.Trees.{Lines}
use Rattle.dm_tree.specs.Validity.{IsPlain, ArePlain}
use Rattle.dm_tree.specs.Files.{joined, lines_of, Locates, HasLine}

pub lines_of-joined : (ps : List Lines) → 0 < length ps → lines_of ps ≡ joined ps
lines_of-joined [] l = absurd (omega (arith, l))
lines_of-joined (p ∷ ps) l = refl

pub joined-append : (ps qs : List Lines) → joined (ps ++ qs) ≡ joined ps ++ joined qs
joined-append [] qs = refl
joined-append (p ∷ ps) qs = ap (λ z. p ++ z) (joined-append ps qs) ∙ sym (append_assoc p (joined ps) (joined qs))

pub joined-split : (ps : List Lines) (k : ℕ) (d : Lines) → k < length ps → joined ps ≡ joined (take k ps) ++ (get_or ps k d ++ joined (drop (k + 1) ps))
joined-split ps k d lt = ap joined (sym (take-append-drop k ps)) ∙ joined-append (take k ps) (drop k ps) ∙ ap (λ z. joined (take k ps) ++ joined z) (drop_more ps k d lt)

-- one part further on
pub passed : (ps : List Lines) (k : ℕ) (p : Lines) → k < length ps → p ≡ get_or ps k p → length (joined (take (k + 1) ps)) ≡ length (joined (take k ps)) + length p
passed ps k p lt read =
    ap (λ z. length (joined z)) (take_more ps k p lt) ∙ ap length (joined-append (take k ps) (get_or ps k p ∷ []) ∙ ap (λ z. joined (take k ps) ++ z) (append-nil (get_or ps k p)))
    ∙ length-append (joined (take k ps)) (get_or ps k p) ∙ ap (λ z. length (joined (take k ps)) + length z) (sym read)

pub line_there : (ps : List Lines) (at k left : ℕ) (d : List ℕ) → HasLine ps at k left → get_or (joined ps) at d ≡ get_or (get_or ps k []) left d
line_there ps at k left d (lt, within, e) =
    ap₂ (λ z n. get_or z n d) (joined-split ps k [] lt) e
    ∙ get_or-append-add (joined (take k ps)) (get_or ps k [] ++ joined (drop (k + 1) ps)) left d
    ∙ get_or_append_left (get_or ps k []) (joined (drop (k + 1) ps)) d left within

-- a change inside of what stands between two lists
pub splice_inside : (xs p ys fs : Lines) (i j : ℕ) → i ≤ length p → j ≤ length p → splice (xs ++ (p ++ ys)) (length xs + i) (length xs + j) fs ≡ xs ++ (splice p i j fs ++ ys)
splice_inside xs p ys fs i j a b =
    ap₂ (λ u v. u ++ (fs ++ v)) front behind ∙ append_assoc xs (take i p) (fs ++ (drop j p ++ ys))
    ∙ ap (λ z. xs ++ z) (ap (λ z. take i p ++ z) (sym (append_assoc fs (drop j p) ys)) ∙ sym (append_assoc (take i p) (fs ++ drop j p) ys))
  where
    front_more : (zs : Lines) → take (length zs + i) (zs ++ (p ++ ys)) ≡ zs ++ take i (p ++ ys)
    front_more [] = let e : length {A = List ℕ} [] + i ≡ i = omega arith in ap (λ n. take n (p ++ ys)) e
    front_more (z ∷ zs) =
        let e : length (z ∷ zs) + i ≡ suc (length zs + i) = omega arith in
        ap (λ n. take n (z ∷ (zs ++ (p ++ ys)))) e ∙ ap (λ w. z ∷ w) (front_more zs)

    front : take (length xs + i) (xs ++ (p ++ ys)) ≡ xs ++ take i p
    front = front_more xs ∙ ap (λ z. xs ++ z) (take-append-le i p ys a)

    behind_more : (zs : Lines) → drop (length zs + j) (zs ++ (p ++ ys)) ≡ drop j (p ++ ys)
    behind_more [] = let e : length {A = List ℕ} [] + j ≡ j = omega arith in ap (λ n. drop n (p ++ ys)) e
    behind_more (z ∷ zs) =
        let e : length (z ∷ zs) + j ≡ suc (length zs + j) = omega arith in
        ap (λ n. drop n (z ∷ (zs ++ (p ++ ys)))) e ∙ behind_more zs

    behind : drop (length xs + j) (xs ++ (p ++ ys)) ≡ drop j p ++ ys
    behind = behind_more xs ∙ drop-append-le j p ys b

pub joined-set : (ps : List Lines) (k i j : ℕ) (p p' fs : Lines) → k < length ps → p ≡ get_or ps k p → i ≤ length p → j ≤ length p → p' ≡ splice p i j fs → joined (set ps k p') ≡ splice (joined ps) (length (joined (take k ps)) + i) (length (joined (take k ps)) + j) fs
joined-set ps k i j p p' fs lt read a b e =
    let next : suc k ≡ k + 1 = omega arith in
    ap joined (set_split ps k p' lt) ∙ joined-append (take k ps) (p' ∷ drop (suc k) ps)
    ∙ ap₂ (λ z n. joined (take k ps) ++ (z ++ joined (drop n ps))) e next
    ∙ sym (ap (λ z. splice z (length (joined (take k ps)) + i) (length (joined (take k ps)) + j) fs) (joined-split ps k p lt ∙ ap (λ z. joined (take k ps) ++ (z ++ joined (drop (k + 1) ps))) (sym read))
    ∙ splice_inside (joined (take k ps)) p (joined (drop (k + 1) ps)) fs i j a b)

pub on_ok : {E : Type 0} (r : Result (Unit {0}) E) (P Q : Type 0) → (P → Q) → OnOk r P → OnOk r Q
on_ok (Ok x) P Q f h = f h
on_ok (Err x) P Q f h = h

-- the last part holds what is left
pub last_part : (ps : List Lines) (k : ℕ) → k < length ps → length ps < k + 2 → length (joined ps) ≡ length (joined (take k ps)) + length (get_or ps k [])
last_part ps k lt last =
    let none : drop (k + 1) ps ≡ [] = drop_all (k + 1) ps (omega arith) in
    ap length (joined-split ps k [] lt ∙ ap (λ z. joined (take k ps) ++ (get_or ps k [] ++ joined z)) none ∙ ap (λ z. joined (take k ps) ++ z) (append-nil (get_or ps k [])))
    ∙ length-append (joined (take k ps)) (get_or ps k [])

-- the bytes of one part more
pub size_passed : (ps : List Lines) (k : ℕ) (p : Lines) → k < length ps → p ≡ get_or ps k p → sum_by length (joined (take (k + 1) ps)) ≡ sum_by length (joined (take k ps)) + sum_by length p
size_passed ps k p lt read =
    ap (λ z. sum_by length (joined z)) (take_more ps k p lt) ∙ ap (λ z. sum_by length z) (joined-append (take k ps) (get_or ps k p ∷ []) ∙ ap (λ z. joined (take k ps) ++ z) (append-nil (get_or ps k p)))
    ∙ sum_by-append length (joined (take k ps)) (get_or ps k p) ∙ ap (λ z. sum_by length (joined (take k ps)) + sum_by length z) (sym read)

-- parts that hold the first lines, and one part more
pub cut_more : (ps ps' : List Lines) (ls t : Lines) (at end : ℕ) → joined ps ≡ take at ls → at ≤ end → ps' ≡ ps ++ t ∷ [] → t ≡ take (end - at) (drop at ls) → joined ps' ≡ take end ls
cut_more ps ps' ls t at end before order e f =
    let far : at + (end - at) ≡ end = omega arith in
    ap joined e ∙ joined-append ps (t ∷ []) ∙ ap₂ (λ x y. x ++ y) before (append-nil t ∙ f) ∙ sym (take-add at (end - at) ls) ∙ ap (λ n. take n ls) far

-- the parts that were made so far, up to the line at
pub record CutTo (ps : List Lines) (ls : Lines) (at : ℕ) : Type 0 where
  pub lines : joined ps ≡ take at ls
  pub within : at ≤ length ls
  pub some : 0 < length ps

-- the first part
pub cut_first : (ps ps' : List Lines) (ls t : Lines) (n at : ℕ) → ps ≡ [] → ps' ≡ ps ++ t ∷ [] → t ≡ take (at - 0) (drop 0 ls) → n ≡ length ls → at ≡ min 256 n → CutTo ps' ls at
cut_first ps ps' ls t n at none e f size first = record {
  lines = cut_more ps ps' ls t 0 at (ap joined none) (omega arith) e f;
  within = omega arith;
  some = omega (arith, ap length e, length-append ps (t ∷ []));
}

-- the last part ends where the lines do
pub cut_all : (ps : List Lines) (ls : Lines) (n at : ℕ) → CutTo ps ls at → n ≡ length ls → n ≤ at → joined ps ≡ ls
cut_all ps ls n at h size le = h.lines ∙ take_all at ls (omega (arith, size, le))

-- the next part ends no further than the lines
pub cut_within : (n at m : ℕ) → at ≤ n → m ≡ min 256 (n - at) → n < 2 ^ 64 → Fits w64 (at + m)
cut_within n at m le step fits = omega arith

pub parts_fit : (n : ℕ) → n < 2 ^ 64 → Fits w64 (n / 256 + 1)
parts_fit n fits = omega (arith, fits)

pub cut_less : (n at m : ℕ) → at < n → m ≡ min 256 (n - at) → n - (at + m) < n - at
cut_less n at m lt step = omega arith

-- the count of lines of a file whose range was replaced
pub size_spliced : (ls fs new : Lines) (i j n m count : ℕ) → i ≤ j → j ≤ length ls → n ≡ length ls → new ≡ splice ls i j fs → m ≡ length fs → count ≡ n - (j - i) + m → count ≡ length new
size_spliced ls fs new i j n m count order within size e more is =
    omega (arith, ap length e, length-append (take i ls) (fs ++ drop j ls), length-append fs (drop j ls), length-take i ls, length-drop j ls)

-- the lines of such a file are plain
pub plain_spliced : (ls fs : Lines) (i j : ℕ) → ArePlain ls → ArePlain fs → ArePlain (splice ls i j fs)
plain_spliced ls fs i j h k = All-append IsPlain (take i ls) (fs ++ drop j ls) (All-take IsPlain i ls h) (All-append IsPlain fs (drop j ls) k (All-drop IsPlain j ls h))

pub range_within : (ls : Lines) (i j n : ℕ) → n ≡ length ls → j ≤ length ls → j - i ≤ n
range_within ls i j n size within = omega arith

pub size_fits : (ls : Lines) (i j n m count : ℕ) → n ≡ length ls → count ≡ n - (j - i) + m → count < 2 ^ 64 → length ls - (j - i) + m < 2 ^ 64
size_fits ls i j n m count size is fits = omega arith

-- the lines before a place, and from it on
module _ (ps : List Lines) (at k line : ℕ) (l : Locates ps at k line) where
  pub take_located : take at (joined ps) ≡ joined (take k ps) ++ take line (get_or ps k [])
  take_located =
      ap₂ take l.2 (joined-split ps k [] l.0)
      ∙ take-append-add (joined (take k ps)) (get_or ps k [] ++ joined (drop (k + 1) ps)) line
      ∙ ap (λ z. joined (take k ps) ++ z) (take-append-le line (get_or ps k []) (joined (drop (k + 1) ps)) l.1)

  pub drop_located : drop at (joined ps) ≡ drop line (get_or ps k []) ++ joined (drop (k + 1) ps)
  drop_located =
      ap₂ drop l.2 (joined-split ps k [] l.0)
      ∙ drop-append-add (joined (take k ps)) (get_or ps k [] ++ joined (drop (k + 1) ps)) line
      ∙ drop-append-le line (get_or ps k []) (joined (drop (k + 1) ps)) l.1

  pub located_within : at + (length (get_or ps k []) - line) ≤ length (joined ps)
  located_within =
      omega (
        arith,
        l.1,
        l.2,
        ap length (joined-split ps k [] l.0),
        length-append (joined (take k ps)) (get_or ps k [] ++ joined (drop (k + 1) ps)),
        length-append (get_or ps k []) (joined (drop (k + 1) ps)),
      )

-- a place in parts that are seen otherwise
pub within_at : (xs ps : List Lines) (i j : ℕ) → xs ≡ ps → i ≤ j → j ≤ length (joined ps) → i ≤ length (joined xs)
within_at xs ps i j e order within = subst (λ (z : List Lines). i ≤ length (joined z)) (sym e) (omega arith)

-- the first of the parts from part k on
pub line_within : (ps : List Lines) (at k line : ℕ) → Locates ps at k line → line ≤ length (get_or (take (length ps - k) (drop k ps)) 0 [])
line_within ps at k line l =
    let here : get_or (take (length ps - k) (drop k ps)) 0 [] ≡ get_or ps k [] = ap (λ (z : List Lines). get_or z 0 []) (take_rest ps k ∙ drop_more ps k [] l.0) in
    subst (λ (z : Lines). line ≤ length z) (sym here) l.1

-- new parts in place of those that a range touches
pub rebuilt : (ps : List Lines) (all fs : Lines) (start end k line m last : ℕ) → Locates ps start k line → Locates ps end m last
    → all ≡ joined (take k ps) ++ ((take line (get_or ps k []) ++ (fs ++ drop last (get_or ps m []))) ++ joined (drop (m + 1) ps)) → all ≡ splice (joined ps) start end fs
rebuilt ps all fs start end k line m last a b e =
    let front = take line (get_or ps k []) in
    let behind = drop last (get_or ps m []) in
    let rest = joined (drop (m + 1) ps) in
    e ∙ ap (λ z. joined (take k ps) ++ z) (append_assoc front (fs ++ behind) rest ∙ ap (λ z. front ++ z) (append_assoc fs behind rest))
    ∙ sym (append_assoc (joined (take k ps)) front (fs ++ (behind ++ rest)))
    ∙ ap₂ (λ x y. x ++ (fs ++ y)) (sym (take_located ps start k line a)) (sym (drop_located ps end m last b))

pub located_in : (xs ps : List Lines) (at k line : ℕ) → xs ≡ ps → Locates xs at k line → Locates ps at k line
located_in xs ps at k line e l = subst (λ (z : List Lines). Locates z at k line) e l

-- a change of a range that lies inside one part
module _ (ps : List Lines) (start end k line m last : ℕ) (same : k ≡ m) (a : Locates ps start k line) (b : Locates ps end m last) where
  pub one_part : last ≤ length (get_or ps k [])
  one_part = rw same b.1

  pub one_left : (n : ℕ) (p : Lines) → k < length ps → p ≡ get_or ps k p → n ≡ length p → last - line ≤ n
  one_left n p lt read size = omega (arith, one_part, size, ap length (read ∙ get_or_default ps k p [] lt))

  pub one_order : start ≤ end → line ≤ last
  one_order o = omega (arith, o, a.2, b.2, ap (λ n. length (joined (take n ps))) same)

  pub spliced_part : (all fs : Lines) → all ≡ splice (joined ps) (length (joined (take k ps)) + line) (length (joined (take k ps)) + last) fs → all ≡ splice (joined ps) start end fs
  spliced_part all fs e = e ∙ ap₂ (λ x y. splice (joined ps) x y fs) (sym a.2) (ap (λ n. length (joined (take n ps)) + last) same ∙ sym b.2)

pub joined-splice : (ps qs made : List Lines) (i j : ℕ) → qs ≡ splice ps i j made → joined qs ≡ joined (take i ps) ++ (joined made ++ joined (drop j ps))
joined-splice ps qs made i j e = ap joined e ∙ joined-append (take i ps) (made ++ drop j ps) ∙ ap (λ z. joined (take i ps) ++ z) (joined-append made (drop j ps))

-- the parts before a later one have no fewer lines
pub joined-mono : (ps : List Lines) (i j : ℕ) → i ≤ j → length (joined (take i ps)) ≤ length (joined (take j ps))
joined-mono [] i j le = let none : (n : ℕ) → length (joined (take n [])) ≡ 0 = λ n. ap (λ z. length (joined z)) (take_all n [] (omega arith)) in omega (arith, none i)
joined-mono (p ∷ ps) zero j le = omega arith
joined-mono (p ∷ ps) (suc i) zero le = absurd (omega arith)
joined-mono (p ∷ ps) (suc i) (suc j) le = omega (arith, joined-mono ps i j (omega arith), length-append p (joined (take i ps)), length-append p (joined (take j ps)))

-- a line behind the end of part k is in a later part
pub later : (ps : List Lines) (at k m line : ℕ) → k < length ps → length (joined (take k ps)) + length (get_or ps k []) ≤ at → HasLine ps at m line → k < m
later ps at k m line lt behind h = go (suc k - m) refl
  where
    up_to : length (joined (take (k + 1) ps)) ≡ length (joined (take k ps)) + length (get_or ps k [])
    up_to = passed ps k (get_or ps k []) lt (get_or_default ps k [] (get_or ps k []) lt)

    next : length (joined (take (m + 1) ps)) ≡ length (joined (take m ps)) + length (get_or ps m [])
    next = passed ps m (get_or ps m []) h.0 (get_or_default ps m [] (get_or ps m []) h.0)

    go : (d : ℕ) → suc k - m ≡ d → k < m
    go zero e = omega (arith, e)
    go (suc d) e = absurd (omega (arith, joined-mono ps (m + 1) (k + 1) (omega (arith, e)), up_to, next, behind, h.1, h.2))

-- the parts from the one with a place on
pub drop_parts : (ps : List Lines) (at k line : ℕ) → Locates ps at k line → drop line (joined (drop k ps)) ≡ drop at (joined ps)
drop_parts ps at k line l =
    sym (ap₂ drop l.2 (ap joined (sym (take-append-drop k ps)) ∙ joined-append (take k ps) (drop k ps)) ∙ drop-append-add (joined (take k ps)) (joined (drop k ps)) line)

-- the parts before k have fewer lines than the place, and part k has enough
pub has_line : (ps : List Lines) (at k line n : ℕ) (p : Lines) → k < length ps → p ≡ get_or ps k p → n ≡ length p → line < n → at ≡ length (joined (take k ps)) + line → HasLine ps at k line
has_line ps at k line n p lt read size less e = (lt, omega (arith, size, ap length (read ∙ get_or_default ps k p [] lt)), e)

pub has_none : (ps : List Lines) (at k line : ℕ) → length ps ≤ k → at ≡ length (joined (take k ps)) + line → length (joined ps) ≤ at
has_none ps at k line le e = omega (arith, e, ap (λ (z : List Lines). length (joined z)) (take_all k ps le))

-- where a range ends that begins at a place of part k
module _ (ps : List Lines) (start end k line : ℕ) (l : Locates ps start k line) (order : start ≤ end) where
  pub seek_fits : Fits w64 end → Fits w64 (line + (end - start))
  seek_fits fits = omega (arith, l.2)

  module _ (p : Lines) (n : ℕ) (read : p ≡ get_or ps k p) (size : n ≡ length p) where
    same_size : length (get_or ps k []) ≡ n
    same_size = sym (size ∙ ap length (read ∙ get_or_default ps k p [] l.0))

    pub seek_here : line + (end - start) ≤ n → Locates ps end k (line + (end - start))
    seek_here le = (l.0, omega (arith, same_size), omega (arith, l.2))

    pub seek_some : n < line + (end - start) → 1 ≤ end
    seek_some less = omega (arith, same_size, l.1)

pub behind_line : (ps : List Lines) (end m line : ℕ) → 1 ≤ end → HasLine ps (end - 1) m line → Locates ps end m (line + 1)
behind_line ps end m line some h = (h.0, omega (arith, h.1), omega (arith, h.2))

pub behind_fits : (ps : List Lines) (end m line : ℕ) → 1 ≤ end → HasLine ps (end - 1) m line → Fits w64 end → Fits w64 (line + 1)
behind_fits ps end m line some h fits = omega (arith, h.2)

pub not_behind : (n end : ℕ) → 1 ≤ end → end ≤ n → n ≤ end - 1 → ⊥
not_behind n end some within le = omega arith

-- the bytes of a file are those of its parts
pub file_bytes : (ps qs : List Lines) (ls : Lines) (n count : ℕ) → qs ≡ ps → n ≡ sum_by length (joined qs) → count ≡ length (lines_of ps) → lines_of ps ≡ ls → n + (count - 1) ≡ file_size ls
file_bytes ps qs ls n count same e size v = ap₂ (λ a b. a + (b - 1)) (e ∙ ap (λ (z : List Lines). sum_by length (joined z)) same ∙ of_lines ps ∙ ap (λ (z : Lines). sum_by length z) v) (size ∙ ap length v)
  where
    of_lines : (ps : List Lines) → sum_by length (joined ps) ≡ sum_by length (lines_of ps)
    of_lines [] = refl
    of_lines (p ∷ ps) = refl

pub some_count : (ls : Lines) (n : ℕ) → n ≡ length ls → 0 < length ls → 1 ≤ n
some_count ls n size some = omega arith

-- one part of one empty line in place of none
pub blank_part : (ps qs rs : List Lines) (t t' : Lines) → nat_eq (length ps) 0 ≡ true → qs ≡ ps → rs ≡ qs ++ t' ∷ [] → t' ≡ t ++ [] ∷ [] → t ≡ [] → lines_of rs ≡ lines_of ps
blank_part [] qs rs t t' none e f g h = ap lines_of (f ∙ ap₂ (λ x y. x ++ y ∷ []) e (g ∙ ap (λ (z : Lines). z ++ [] ∷ []) h))
blank_part (p ∷ ps) qs rs t t' none e f g h = absurd (omega (arith, eqb-true (length (p ∷ ps)) 0 none))

-- the bytes of all parts, and a bound of them
pub size_all : (ps : List Lines) (k total : ℕ) → length ps ≤ k → total ≡ sum_by length (joined (take k ps)) → total ≡ sum_by length (joined ps)
size_all ps k total le e = e ∙ ap (λ (z : List Lines). sum_by length (joined z)) (take_all k ps le)

pub bound_all : (n k total : ℕ) → k ≤ n → total ≤ k * 18446744073709551615 → total ≤ n * 18446744073709551615
bound_all n k total le b = omega arith

-- the lines that take the place of several parts
pub chain_fits : (xs fs ys ls : Lines) (i j : ℕ) → ls ≡ take i xs ++ (fs ++ drop j ys) → i ≤ length xs → i + (length fs + (length ys - j)) < 2 ^ 64 → length ls < 2 ^ 64
chain_fits xs fs ys ls i j e within fits =
    omega (arith, ap length e, length-append (take i xs) (fs ++ drop j ys), length-append fs (drop j ys), length-take i xs, length-drop j ys)
