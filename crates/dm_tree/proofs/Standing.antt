-- Whether the lines of parts begin with those of a text, told part by part.
use Rattle.std.proofs.Common.{◌≡◌, ℕ, ◌+◌, ◌-◌, ◌<◌, ◌≤◌, ◌↔◌, List, [], ◌++◌, length, take, drop, get_or, min, zero, suc, refl, sym, ap, ap₂, ◌∙◌, arith, IsTrue, nat_eq, append_assoc, length-append, length-drop, take-append-drop}
use Rattle.std.proofs.lemmas.List.{take_all, drop_all, drop_at, drop_more, drop-drop, take-append-le, drop-append-le, get_or_default}
use Rattle.std.proofs.lemmas.Bool.{eqb-true}
use Rattle.dm_tree.proofs.Plain.{is_equal}
use Rattle.dm_tree.specs.Trees.{Lines}
use Rattle.dm_tree.specs.Files.{joined, BeginWith}

module _ (xs rest fs : Lines) (n : ℕ) (least : n ≡ min (length xs) (length fs)) where
  on : BeginWith (xs ++ rest) fs → BeginWith rest (drop n fs)
  on (r, e) = go (length xs - length fs) refl
    where
      go : (d : ℕ) → length xs - length fs ≡ d → BeginWith rest (drop n fs)
      go zero z = (r, sym (drop_at xs rest n (omega (arith, least, z))) ∙ ap (drop n) e ∙ drop-append-le n fs r (omega (arith, least)))
      go (suc d) z = (rest, ap (λ z. z ++ rest) (sym (drop_all n fs (omega (arith, least, z)))))

  back : take n xs ≡ take n fs → BeginWith rest (drop n fs) → BeginWith (xs ++ rest) fs
  back same (r, e) = go (length xs - length fs) refl
    where
      go : (d : ℕ) → length xs - length fs ≡ d → BeginWith (xs ++ rest) fs
      go zero z = (r, ap₂ (λ x y. x ++ y) (sym (take_all n xs (omega (arith, least, z))) ∙ same) e ∙ sym (append_assoc (take n fs) (drop n fs) r) ∙ ap (λ z. z ++ r) (take-append-drop n fs))
      go (suc d) z = (drop n xs ++ rest, ap (λ z. z ++ rest) (sym (take-append-drop n xs)) ∙ append_assoc (take n xs) (drop n xs) rest ∙ ap (λ z. z ++ (drop n xs ++ rest)) (same ∙ take_all n fs (omega (arith, least, z))))

  differ : (take n xs ≡ take n fs → ⊥) → BeginWith (xs ++ rest) fs → ⊥
  differ not (r, e) = not (sym (take-append-le n xs rest (omega (arith, least))) ∙ ap (take n) e ∙ take-append-le n fs r (omega (arith, least)))

-- what is left to compare once the parts before k were as they should be
pub record Standing (ps : List Lines) (first : ℕ) (fs : Lines) (k line at : ℕ) : Type 0 where
  pub here : line ≤ length (get_or ps k [])
  pub within : at ≤ length fs
  pub same : BeginWith (drop first (joined ps)) fs ↔ BeginWith (drop line (joined (drop k ps))) (drop at fs)

module _ (ps : List Lines) (first : ℕ) (fs : Lines) (k line at : ℕ) (s : Standing ps first fs k line at) where
  pub stands_all : at ≡ length fs → BeginWith (drop first (joined ps)) fs
  stands_all e = s.same.1 (drop line (joined (drop k ps)), ap (λ z. z ++ drop line (joined (drop k ps))) (sym (drop_all at fs (omega (arith, e)))))

  module _ (p : Lines) (count : ℕ) (lt : k < length ps) (read : p ≡ get_or ps k p) (fits : line ≤ length p) (least : count ≡ min (length p - line) (length fs - at)) where
    abbrev rest : Lines
    rest = joined (drop (k + 1) ps)

    opened : drop line (joined (drop k ps)) ≡ drop line p ++ rest
    opened = ap (λ z. drop line (joined z)) (drop_more ps k p lt) ∙ ap (λ z. drop line (z ++ rest)) (sym read) ∙ drop-append-le line p rest fits

    short : count ≡ min (length (drop line p)) (length (drop at fs))
    short = omega (arith, least, length-drop line p, length-drop at fs)

    pub stands_not : (take (line + count - line) (drop line p) ≡ take (at + count - at) (drop at fs) → ⊥) → BeginWith (drop first (joined ps)) fs → ⊥
    stands_not not u =
        let v = s.same.0 u in
        let a : count ≡ line + count - line = omega arith in
        let b : at + count - at ≡ count = omega arith in
        differ (drop line p) rest (drop at fs) count short (λ e. not (ap (λ n. take n (drop line p)) (sym a) ∙ e ∙ ap (λ n. take n (drop at fs)) (sym b))) (v.0, sym opened ∙ v.1)

    pub stands_next : take (line + count - line) (drop line p) ≡ take (at + count - at) (drop at fs) → Standing ps first fs (k + 1) 0 (at + count)
    stands_next same = record { here = omega arith; within = omega (arith, least, s.within); same = (forth, home) }
      where
        equal : take count (drop line p) ≡ take count (drop at fs)
        equal =
            let a : count ≡ line + count - line = omega arith in
            let b : at + count - at ≡ count = omega arith in
            ap (λ n. take n (drop line p)) a ∙ same ∙ ap (λ n. take n (drop at fs)) b

        forth : BeginWith (drop first (joined ps)) fs → BeginWith rest (drop (at + count) fs)
        forth u =
            let v = s.same.0 u in
            let w = on (drop line p) rest (drop at fs) count short (v.0, sym opened ∙ v.1) in
            (w.0, w.1 ∙ ap (λ z. z ++ w.0) (drop-drop count at fs))

        home : BeginWith rest (drop (at + count) fs) → BeginWith (drop first (joined ps)) fs
        home u =
            let w = back (drop line p) rest (drop at fs) count short equal (u.0, u.1 ∙ ap (λ z. z ++ u.0) (sym (drop-drop count at fs))) in
            s.same.1 (w.0, opened ∙ w.1)

-- before the first part
pub stands_first : (ps : List Lines) (first : ℕ) (fs : Lines) → first ≤ length (get_or ps 0 []) → Standing ps first fs 0 first 0
stands_first ps first fs h = record { here = h; within = omega arith; same = (λ u. u, λ u. u) }

pub stands_here : (ps : List Lines) (first : ℕ) (fs : Lines) (k line at n : ℕ) (p : Lines) → Standing ps first fs k line at → k < length ps → p ≡ get_or ps k p → n ≡ length p → line ≤ n
stands_here ps first fs k line at n p s lt read size = omega (arith, s.here, size, ap length (read ∙ get_or_default ps k p [] lt))

-- behind the last part
pub stands_end : (ps : List Lines) (first : ℕ) (fs : Lines) (k line at n : ℕ) → Standing ps first fs k line at → length ps ≤ k → n ≡ length fs → IsTrue (nat_eq at n) ↔ BeginWith (drop first (joined ps)) fs
stands_end ps first fs k line at n s le size = (λ t. stands_all ps first fs k line at s (eqb-true at n t ∙ size), λ u. is_equal at n (go (s.same.0 u)))
  where
    go : BeginWith (drop line (joined (drop k ps))) (drop at fs) → at ≡ n
    go (r, e) =
        let none : drop k ps ≡ [] = drop_all k ps le in
        let empty : length (drop line (joined (drop k ps))) ≡ 0 = ap (λ (z : List Lines). length (drop line (joined z))) none ∙ ap length (drop_all line [] (omega arith)) in
        omega (arith, empty, ap length e, length-append (drop at fs) r, length-drop at fs, s.within, size)
