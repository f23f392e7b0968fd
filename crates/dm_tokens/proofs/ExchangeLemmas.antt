-- Exchanging two tokens is its own inverse, is what turning does, and passes the exchange of two others.
use Rattle.std.proofs.Common.{◌≡◌, ◌≢◌, ◌⊎◌, inl, inr, ℕ, Bool, true, not, List, [], ◌∷◌, map, refl, sym, ap, ap₂, subst, ◌∙◌}
use Rattle.std.specs.List.{AllZip, concat}
use Rattle.std.specs.Str.{bytes_eq}
use Rattle.std.proofs.lemmas.Bool.{cases_Bool, cond-true, cond-false}
use Rattle.std.proofs.lemmas.Slice.Eq.{bytes_eq-Decides}
use Rattle.dm_tokens.specs.Sets.{ByteSet}
use Rattle.dm_tokens.specs.Pieces.{AreAll, AreByTurns, IsToken}
use Rattle.dm_tokens.specs.Turning.{Turns, TurnAll, TurnsPiece}
use Rattle.dm_tokens.specs.Exchanging.{exchanged_piece, exchanged}
use Rattle.dm_tokens.specs.Walks.{pieces_of}
use Rattle.dm_tokens.proofs.PieceLemmas.{are_computed, are_pieces, whole_of}
use Rattle.dm_tokens.proofs.TurnLemmas.{same_bytes, other_bytes, differ, inside_is}

-- whether two texts are the same can be told
pub bytes_told : (xs ys : List ℕ) → (xs ≡ ys) ⊎ (xs ≢ ys)
bytes_told xs ys = elim (cases_Bool (bytes_eq xs ys)) [ inl e ↦ inl (same_bytes xs ys e) | inr e ↦ inr (other_bytes xs ys e) ]

-- the old token
old_piece : (old new p : List ℕ) → p ≡ old → exchanged_piece old new p ≡ new
old_piece old new p e = cond-true (bytes_eq old p) new _ ((bytes_eq-Decides old p).1 (sym e))

-- any other piece
other_piece : (old new p : List ℕ) → p ≢ old → p ≢ new → exchanged_piece old new p ≡ p
other_piece old new p o n =
    cond-false (bytes_eq old p) new _ (differ old p (λ e. o (sym e))) ∙ cond-false (bytes_eq new p) old p (differ new p (λ e. n (sym e)))

-- the new token
new_piece : (old new p : List ℕ) → p ≡ new → exchanged_piece old new p ≡ old
new_piece old new p e = elim (bytes_told p old) [
  | inl o ↦ old_piece old new p o ∙ sym e ∙ o
  | inr o ↦ cond-false (bytes_eq old p) new _ (differ old p (λ k. o (sym k))) ∙ cond-true (bytes_eq new p) old p ((bytes_eq-Decides new p).1 (sym e))
]

-- the three cases
by_piece : (old new p : List ℕ) → (p ≡ old) ⊎ ((p ≡ new) ⊎ ((p ≢ old) × (p ≢ new)))
by_piece old new p = elim (bytes_told p old) [
  | inl o ↦ inl o
  | inr o ↦ elim (bytes_told p new) [ inl n ↦ inr (inl n) | inr n ↦ inr (inr (o, n)) ]
]

piece_twice : (old new p : List ℕ) → exchanged_piece old new (exchanged_piece old new p) ≡ p
piece_twice old new p = elim (by_piece old new p) [
  | inl o ↦ ap (exchanged_piece old new) (old_piece old new p o) ∙ new_piece old new new refl ∙ sym o
  | inr k ↦ elim k [
    | inl n ↦ ap (exchanged_piece old new) (new_piece old new p n) ∙ old_piece old new old refl ∙ sym n
    | inr n ↦ ap (exchanged_piece old new) (other_piece old new p n.0 n.1) ∙ other_piece old new p n.0 n.1
  ]
]

piece_round : (old new p : List ℕ) → exchanged_piece new old p ≡ exchanged_piece old new p
piece_round old new p = elim (by_piece old new p) [
  | inl o ↦ new_piece new old p o ∙ sym (old_piece old new p o)
  | inr k ↦ elim k [
    | inl n ↦ old_piece new old p n ∙ sym (new_piece old new p n)
    | inr n ↦ other_piece new old p n.1 n.0 ∙ sym (other_piece old new p n.0 n.1)
  ]
]

piece_turned : (old new p q : List ℕ) → TurnsPiece old new p q → q ≡ exchanged_piece old new p
piece_turned old new p q h = elim h [
  | inl is ↦ is.1 ∙ sym (old_piece old new p is.0)
  | inr isnt ↦ isnt.2 ∙ sym (other_piece old new p isnt.0 isnt.1)
]

piece_passes : (o1 n1 o2 n2 p : List ℕ) → o1 ≢ o2 → o1 ≢ n2 → n1 ≢ o2 → n1 ≢ n2 →
    exchanged_piece o2 n2 (exchanged_piece o1 n1 p) ≡ exchanged_piece o1 n1 (exchanged_piece o2 n2 p)
piece_passes o1 n1 o2 n2 p oo on new_old nn = elim (by_piece o1 n1 p) [
  | inl o ↦ ap (exchanged_piece o2 n2) (old_piece o1 n1 p o)
      ∙ other_piece o2 n2 n1 new_old nn
      ∙ sym (old_piece o1 n1 p o)
      ∙ ap (exchanged_piece o1 n1) (sym (other_piece o2 n2 p (λ e. oo (sym o ∙ e)) (λ e. on (sym o ∙ e))))
  | inr k ↦ elim k [
    | inl n ↦ ap (exchanged_piece o2 n2) (new_piece o1 n1 p n)
        ∙ other_piece o2 n2 o1 oo on
        ∙ sym (new_piece o1 n1 p n)
        ∙ ap (exchanged_piece o1 n1) (sym (other_piece o2 n2 p (λ e. new_old (sym n ∙ e)) (λ e. nn (sym n ∙ e))))
    | inr n ↦ ap (exchanged_piece o2 n2) (other_piece o1 n1 p n.0 n.1) ∙ sym (other_piece o1 n1 (exchanged_piece o2 n2 p) (off n.0 (λ e. oo (sym e)) (λ e. on (sym e))) (off n.1 (λ e. new_old (sym e)) (λ e. nn (sym e))))
  ]
]
  where
    -- what becomes of p isn't x, as long as neither p nor one of the two others is
    off : {x : List ℕ} → p ≢ x → o2 ≢ x → n2 ≢ x → exchanged_piece o2 n2 p ≢ x
    off np new_old nn e = elim (by_piece o2 n2 p) [
      | inl o ↦ nn (sym (old_piece o2 n2 p o) ∙ e)
      | inr k ↦ elim k [ inl n ↦ new_old (sym (new_piece o2 n2 p n) ∙ e) | inr n ↦ np (sym (other_piece o2 n2 p n.0 n.1) ∙ e) ]
    ]

-- a piece stays on its side of the set
abbrev IsPart : ByteSet → Bool → List ℕ → Type 0
IsPart set inside p = (p ≢ []) × AreAll set inside p

stays_part : (set : ByteSet) (old new : List ℕ) (inside : Bool) (p : List ℕ) → IsToken set old → IsToken set new → IsPart set inside p → IsPart set inside (exchanged_piece old new p)
stays_part set old new inside p o n h = elim (by_piece old new p) [
  | inl e ↦ subst (IsPart set inside) (sym (old_piece old new p e)) (n.0, subst (λ i. AreAll set i new) (sym (side e o)) n.1)
  | inr k ↦ elim k [
    | inl e ↦ subst (IsPart set inside) (sym (new_piece old new p e)) (o.0, subst (λ i. AreAll set i old) (sym (side e n)) o.1)
    | inr e ↦ subst (IsPart set inside) (sym (other_piece old new p e.0 e.1)) h
  ]
]
  where
    side : {x : List ℕ} → p ≡ x → IsToken set x → inside ≡ true
    side e t = inside_is set inside p h.0 h.1 (subst (AreAll set true) (sym e) t.1)

by_turns : (set : ByteSet) (old new : List ℕ) (inside : Bool) (ps : List (List ℕ)) → IsToken set old → IsToken set new → AreByTurns set inside ps → AreByTurns set inside (map (exchanged_piece old new) ps)
by_turns set old new inside [] o n h = tt
by_turns set old new inside (p ∷ ps) o n h = let k = stays_part set old new inside p o n (h.0, h.1) in (k.0, k.1, by_turns set old new (not inside) ps o n h.2)

-- the pieces of an exchanged text are its pieces, exchanged
pub exchanged_pieces : (set : ByteSet) (old new x : List ℕ) → IsToken set old → IsToken set new → pieces_of set (exchanged set old new x) ≡ map (exchanged_piece old new) (pieces_of set x)
unfolding exchanged
exchanged_pieces set old new x o n =
    let are = are_pieces set x in
    are_computed set (exchanged set old new x) (map (exchanged_piece old new) (pieces_of set x)) (record { whole = refl; inside = are.inside; by_turns = by_turns set old new are.inside (pieces_of set x) o n are.by_turns })

each_twice : (old new : List ℕ) (ps : List (List ℕ)) → map (exchanged_piece old new) (map (exchanged_piece old new) ps) ≡ ps
each_twice old new [] = refl
each_twice old new (p ∷ ps) = ap₂ (λ q qs. q ∷ qs) (piece_twice old new p) (each_twice old new ps)

-- exchanging is its own inverse
pub exchanged_twice : (set : ByteSet) (old new x : List ℕ) → IsToken set old → IsToken set new → exchanged set old new (exchanged set old new x) ≡ x
unfolding exchanged
exchanged_twice set old new x o n =
    ap (λ (v : List (List ℕ)). concat (map (exchanged_piece old new) v)) (exchanged_pieces set old new x o n) ∙ ap concat (each_twice old new (pieces_of set x)) ∙ whole_of set x

each_round : (old new : List ℕ) (ps : List (List ℕ)) → map (exchanged_piece new old) ps ≡ map (exchanged_piece old new) ps
each_round old new [] = refl
each_round old new (p ∷ ps) = ap₂ (λ q qs. q ∷ qs) (piece_round old new p) (each_round old new ps)

-- whichever of the two comes first
pub exchanged_round : (set : ByteSet) (old new x : List ℕ) → exchanged set new old x ≡ exchanged set old new x
unfolding exchanged
exchanged_round set old new x = ap concat (each_round old new (pieces_of set x))

each_passes : (o1 n1 o2 n2 : List ℕ) (ps : List (List ℕ)) → o1 ≢ o2 → o1 ≢ n2 → n1 ≢ o2 → n1 ≢ n2 →
    map (exchanged_piece o2 n2) (map (exchanged_piece o1 n1) ps) ≡ map (exchanged_piece o1 n1) (map (exchanged_piece o2 n2) ps)
each_passes o1 n1 o2 n2 [] oo on new_old nn = refl
each_passes o1 n1 o2 n2 (p ∷ ps) oo on new_old nn = ap₂ (λ q qs. q ∷ qs) (piece_passes o1 n1 o2 n2 p oo on new_old nn) (each_passes o1 n1 o2 n2 ps oo on new_old nn)

-- exchanges of other tokens pass each other
pub exchanges_pass : (set : ByteSet) (o1 n1 o2 n2 x : List ℕ) → IsToken set o1 → IsToken set n1 → IsToken set o2 → IsToken set n2 → o1 ≢ o2 → o1 ≢ n2 → n1 ≢ o2 → n1 ≢ n2 →
    exchanged set o2 n2 (exchanged set o1 n1 x) ≡ exchanged set o1 n1 (exchanged set o2 n2 x)
unfolding exchanged
exchanges_pass set o1 n1 o2 n2 x is_o1 is_n1 is_o2 is_n2 oo on new_old nn =
    ap (λ (v : List (List ℕ)). concat (map (exchanged_piece o2 n2) v)) (exchanged_pieces set o1 n1 x is_o1 is_n1)
    ∙ ap concat (each_passes o1 n1 o2 n2 (pieces_of set x) oo on new_old nn)
    ∙ ap (λ (v : List (List ℕ)). concat (map (exchanged_piece o1 n1) v)) (sym (exchanged_pieces set o2 n2 x is_o2 is_n2))

each_turned : (old new : List ℕ) (ps qs : List (List ℕ)) → AllZip (TurnsPiece old new) ps qs → qs ≡ map (exchanged_piece old new) ps
each_turned old new [] [] h = refl
each_turned old new [] (q ∷ qs) h = absurd h
each_turned old new (p ∷ ps) [] h = absurd h
each_turned old new (p ∷ ps) (q ∷ qs) h = ap₂ (λ r rs. r ∷ rs) (piece_turned old new p q h.0) (each_turned old new ps qs h.1)

-- a text that turns is exchanged
pub turned_exchanged : (set : ByteSet) (old new x y : List ℕ) → Turns set old new x y → y ≡ exchanged set old new x
unfolding exchanged
turned_exchanged set old new x y h =
    h.made ∙ ap concat (each_turned old new h.from h.to h.each) ∙ ap (λ (v : List (List ℕ)). concat (map (exchanged_piece old new) v)) (sym (are_computed set x h.from h.pieces))

pub lines_exchanged : (set : ByteSet) (old new : List ℕ) (ls ls' : List (List ℕ)) → TurnAll set old new ls ls' → ls' ≡ map (exchanged set old new) ls
lines_exchanged set old new [] [] h = refl
lines_exchanged set old new [] (l ∷ ls') h = absurd h
lines_exchanged set old new (l ∷ ls) [] h = absurd h
lines_exchanged set old new (l ∷ ls) (l' ∷ ls') h = ap₂ (λ r rs. r ∷ rs) (turned_exchanged set old new l l' h.0) (lines_exchanged set old new ls ls' h.1)
