-- What a text turns to, and that it turns back.
use Rattle.std.proofs.Common.{length-append, ◌+◌, ◌≡◌, ◌≢◌, ℕ, Bool, true, false, not, List, [], ◌∷◌, ◌++◌, ◌==◌, ◌||◌, ◌↔◌, ◌-◌, length, take, drop, map, refl, sym, ap, subst, ◌∙◌, inl, inr}
use Rattle.std.specs.List.{All, AllZip, concat, list_any}
use Rattle.std.specs.Str.{bytes_eq}
use Rattle.std.proofs.lemmas.Bool.{cond-true, cond-false, eqb-true, false_from_ne_true, or_from, or_parts, or_right, false≢true}
use Rattle.std.proofs.lemmas.List.{append-nil, append_assoc, take_rest}
use Rattle.std.proofs.lemmas.List.Elements.{All-cons, All-head, All-nil, All-tail, All-weaker}
use Rattle.std.proofs.lemmas.List.Folds.{list_any-append, list_any_none}
use Rattle.std.proofs.lemmas.Slice.Eq.{bytes_eq-Decides}
use Rattle.dm_tokens.specs.Sets.{ByteSet}
use Rattle.dm_tokens.specs.Pieces.{AreAll, AreByTurns, ArePieces, IsToken}
use Rattle.dm_tokens.specs.Turning.{IsLine, Turns, TurnAll, TurnsPiece}
use Rattle.dm_tokens.specs.Walks.{has, pieces_of, turned, turned_piece}
use Rattle.dm_tokens.proofs.PieceLemmas.{are_computed, are_pieces, whole_of}

-- what a test of two pieces tells
pub same_bytes : (xs ys : List ℕ) → bytes_eq xs ys ≡ true → xs ≡ ys
same_bytes xs ys e = (bytes_eq-Decides xs ys).0 e

pub other_bytes : (xs ys : List ℕ) → bytes_eq xs ys ≡ false → xs ≢ ys
other_bytes xs ys e same = false≢true (sym e ∙ (bytes_eq-Decides xs ys).1 same)

pub differ : (xs ys : List ℕ) → xs ≢ ys → bytes_eq xs ys ≡ false
differ xs ys ne = false_from_ne_true (bytes_eq xs ys) (λ e. ne (same_bytes xs ys e))

-- a piece that turns is turned as it is computed
piece_made : (old new p q : List ℕ) → TurnsPiece old new p q → q ≡ turned_piece old new p
piece_made old new p q h = elim h [
  | inl is ↦ is.1 ∙ sym (cond-true (bytes_eq old p) new p ((bytes_eq-Decides old p).1 (sym is.0)))
  | inr isnt ↦ isnt.2 ∙ sym (cond-false (bytes_eq old p) new p (differ old p (λ e. isnt.0 (sym e))))
]

pieces_made : (old new : List ℕ) (ps qs : List (List ℕ)) → AllZip (TurnsPiece old new) ps qs → qs ≡ map (turned_piece old new) ps
pieces_made old new [] [] h = refl
pieces_made old new [] (q ∷ qs) h = absurd h
pieces_made old new (p ∷ ps) [] h = absurd h
pieces_made old new (p ∷ ps) (q ∷ qs) h =
    let first = piece_made old new p q h.0 in
    let rest = pieces_made old new ps qs h.1 in
    cc (first, rest)

-- a text turns to nothing but what is computed
pub made : (set : ByteSet) (old new x y : List ℕ) → Turns set old new x y → y ≡ turned set old new x
unfolding turned
made set old new x y h =
    h.made ∙ ap concat (pieces_made old new h.from h.to h.each) ∙ ap (λ (v : List (List ℕ)). concat (map (turned_piece old new) v)) (sym (are_computed set x h.from h.pieces))

piece_by : (old new p : List ℕ) (t same : Bool) → bytes_eq old p ≡ t → bytes_eq old new ≡ same → (old ≢ new → bytes_eq new p ≡ false) → TurnsPiece old new p (turned_piece old new p)
piece_by old new p true same e f free = inl (sym (same_bytes old p e), cond-true (bytes_eq old p) new p e)
piece_by old new p false true e f free =
    let both : old ≡ new = same_bytes old new f in
    inr ((λ h. other_bytes old p e (sym h)), (λ h. other_bytes old p e (both ∙ sym h)), cond-false (bytes_eq old p) new p e)
piece_by old new p false false e f free =
    inr ((λ h. other_bytes old p e (sym h)), (λ h. other_bytes new p (free (other_bytes old new f)) (sym h)), cond-false (bytes_eq old p) new p e)

each_by : (old new : List ℕ) (ps : List (List ℕ)) → (old ≢ new → list_any (bytes_eq new) ps ≡ false) → AllZip (TurnsPiece old new) ps (map (turned_piece old new) ps)
each_by old new [] free = tt
each_by old new (p ∷ ps) free = (
  piece_by old new p (bytes_eq old p) (bytes_eq old new) refl refl (λ ne. (or_parts (bytes_eq new p) (list_any (bytes_eq new) ps) (free ne)).0),
  each_by old new ps (λ ne. (or_parts (bytes_eq new p) (list_any (bytes_eq new) ps) (free ne)).1),
)

-- a text turns to what is computed, unless the new token stands in it and is not the old one
pub turns_to : (set : ByteSet) (old new x : List ℕ) → (old ≢ new → has set x new ≡ false) → Turns set old new x (turned set old new x)
unfolding has turned
turns_to set old new x free = record {
  from = pieces_of set x;
  to = map (turned_piece old new) (pieces_of set x);
  pieces = are_pieces set x;
  each = each_by old new (pieces_of set x) free;
  made = refl;
}

-- then it turns to nothing
no_pieces : (old new : List ℕ) (ps qs : List (List ℕ)) → old ≢ new → list_any (bytes_eq new) ps ≡ true → AllZip (TurnsPiece old new) ps qs → ⊥
no_pieces old new [] qs ne e h = false≢true e
no_pieces old new (p ∷ ps) [] ne e h = absurd h
no_pieces old new (p ∷ ps) (q ∷ qs) ne e h =
    let free : bytes_eq new p ≡ false = elim h.0 [
      | inl is ↦ differ new p (λ same. ne (sym is.0 ∙ sym same))
      | inr isnt ↦ differ new p (λ same. isnt.1 (sym same))
    ] in
    no_pieces old new ps qs ne (sym (ap (λ (v : Bool). v || list_any (bytes_eq new) ps) free) ∙ e) h.1

pub no_turn : (set : ByteSet) (old new x y : List ℕ) → old ≢ new → has set x new ≡ true → Turns set old new x y → ⊥
unfolding has
no_turn set old new x y ne there h =
    no_pieces old new h.from h.to ne (ap (list_any (bytes_eq new)) (sym (are_computed set x h.from h.pieces)) ∙ there) h.each

-- without the old token a text stays
stay : (old new : List ℕ) (ps : List (List ℕ)) → list_any (bytes_eq old) ps ≡ false → map (turned_piece old new) ps ≡ ps
stay old new [] e = refl
stay old new (p ∷ ps) e =
    let parts = or_parts (bytes_eq old p) (list_any (bytes_eq old) ps) e in
    let first = cond-false (bytes_eq old p) new p parts.0 in
    let rest = stay old new ps parts.1 in
    cc (first, rest)

pub stays : (set : ByteSet) (old new x : List ℕ) → has set x old ≡ false → turned set old new x ≡ x
unfolding has turned
stays set old new x e = ap concat (stay old new (pieces_of set x) e) ∙ whole_of set x

itself_by : (token p : List ℕ) (t : Bool) → bytes_eq token p ≡ t → turned_piece token token p ≡ p
itself_by token p true e = cond-true (bytes_eq token p) token p e ∙ same_bytes token p e
itself_by token p false e = cond-false (bytes_eq token p) token p e

itself : (token : List ℕ) (ps : List (List ℕ)) → map (turned_piece token token) ps ≡ ps
itself token [] = refl
itself token (p ∷ ps) =
    let first = itself_by token p (bytes_eq token p) refl in
    let rest = itself token ps in
    cc (first, rest)

-- a token that becomes itself changes nothing
pub stays_itself : (set : ByteSet) (token x : List ℕ) → turned set token token x ≡ x
unfolding turned
stays_itself set token x = ap concat (itself token (pieces_of set x)) ∙ whole_of set x

pub turns_itself : (set : ByteSet) (token x : List ℕ) → Turns set token token x x
turns_itself set token x = subst (λ (v : List ℕ). Turns set token token x v) (stays_itself set token x) (turns_to set token token x (λ ne. absurd (ne refl)))

pub only_itself : (set : ByteSet) (token x y : List ℕ) → Turns set token token x y ↔ (y ≡ x)
only_itself set token x y = (
  (λ h. made set token token x y h ∙ stays_itself set token x),
  (λ e. subst (λ (v : List ℕ). Turns set token token x v) (sym e) (turns_itself set token x)),
)

-- bytes that are a token are of the set alone
pub inside_is : (set : ByteSet) (inside : Bool) (p : List ℕ) → p ≢ [] → AreAll set inside p → AreAll set true p → inside ≡ true
inside_is set inside [] some are token = absurd (some refl)
inside_is set inside (b ∷ p) some are token = sym (All-head (λ x. set x ≡ inside) b p are) ∙ All-head (λ x. set x ≡ true) b p token

-- turned pieces go by turns as the others did
turned_by_turns : (set : ByteSet) (old new : List ℕ) (inside : Bool) (ps qs : List (List ℕ)) → IsToken set old → IsToken set new → AreByTurns set inside ps →
    AllZip (TurnsPiece old new) ps qs → AreByTurns set inside qs
turned_by_turns set old new inside [] [] o n h each = tt
turned_by_turns set old new inside [] (q ∷ qs) o n h each = absurd each
turned_by_turns set old new inside (p ∷ ps) [] o n h each = absurd each
turned_by_turns set old new inside (p ∷ ps) (q ∷ qs) o n h each =
    let rest : AreByTurns set (not inside) qs = turned_by_turns set old new (not inside) ps qs o n h.2 each.1 in
    elim each.0 [
      | inl is ↦
          let kind : inside ≡ true = inside_is set inside old o.0 (subst (λ (v : List ℕ). AreAll set inside v) is.0 h.1) o.1 in (
            (λ e. n.0 (sym is.1 ∙ e)),
            subst (λ (v : List ℕ). AreAll set inside v) (sym is.1) (subst (λ (k : Bool). AreAll set k new) (sym kind) n.1),
            rest,
          )
      | inr isnt ↦ ((λ e. h.0 (sym isnt.2 ∙ e)), subst (λ (v : List ℕ). AreAll set inside v) (sym isnt.2) h.1, rest)
    ]

-- the pieces of what a text turns to
pub turned_pieces : (set : ByteSet) (old new x y : List ℕ) → IsToken set old → IsToken set new → (h : Turns set old new x y) → ArePieces set y h.to
turned_pieces set old new x y o n h = record {
  whole = sym h.made;
  inside = h.pieces.inside;
  by_turns = turned_by_turns set old new h.pieces.inside h.from h.to o n h.pieces.by_turns h.each;
}

-- the pieces of both texts, however they were found, turn one by one
pub kept_pieces : (set : ByteSet) (old new x y : List ℕ) (ps qs : List (List ℕ)) → IsToken set old → IsToken set new → Turns set old new x y → ArePieces set x ps →
    ArePieces set y qs → AllZip (TurnsPiece old new) ps qs
kept_pieces set old new x y ps qs o n h a b =
    let front : h.from ≡ ps = sym (are_computed set x h.from h.pieces) ∙ are_computed set x ps a in
    let back : h.to ≡ qs = sym (are_computed set y h.to (turned_pieces set old new x y o n h)) ∙ are_computed set y qs b in
    subst (λ (v : List (List ℕ)). AllZip (TurnsPiece old new) ps v) back (subst (λ (v : List (List ℕ)). AllZip (TurnsPiece old new) v h.to) front h.each)

piece_back : (old new p q : List ℕ) → TurnsPiece old new p q → TurnsPiece new old q p
piece_back old new p q h = elim h [
  | inl is ↦ inl (is.1, is.0)
  | inr isnt ↦ inr ((λ e. isnt.1 (sym isnt.2 ∙ e)), (λ e. isnt.0 (sym isnt.2 ∙ e)), sym isnt.2)
]

each_back : (old new : List ℕ) (ps qs : List (List ℕ)) → AllZip (TurnsPiece old new) ps qs → AllZip (TurnsPiece new old) qs ps
each_back old new [] [] h = tt
each_back old new [] (q ∷ qs) h = absurd h
each_back old new (p ∷ ps) [] h = absurd h
each_back old new (p ∷ ps) (q ∷ qs) h = (piece_back old new p q h.0, each_back old new ps qs h.1)

-- what is turned turns back
pub turns_back : (set : ByteSet) (old new x y : List ℕ) → IsToken set old → IsToken set new → Turns set old new x y → Turns set new old y x
turns_back set old new x y o n h = record {
  from = h.to;
  to = h.from;
  pieces = turned_pieces set old new x y o n h;
  each = each_back old new h.from h.to h.each;
  made = sym h.pieces.whole;
}

pub lines_turn_back : (set : ByteSet) (old new : List ℕ) (ls ls' : List (List ℕ)) → IsToken set old → IsToken set new → TurnAll set old new ls ls' → TurnAll set new old ls' ls
lines_turn_back set old new [] [] o n h = tt
lines_turn_back set old new [] (l ∷ ls') o n h = absurd h
lines_turn_back set old new (l ∷ ls) [] o n h = absurd h
lines_turn_back set old new (l ∷ ls) (l' ∷ ls') o n h = (turns_back set old new l l' o n h.0, lines_turn_back set old new ls ls' o n h.1)

-- a text turns to one other
pub one_answer : (set : ByteSet) (old new x y z : List ℕ) → Turns set old new x y → Turns set old new x z → y ≡ z
one_answer set old new x y z h k = made set old new x y h ∙ sym (made set old new x z k)

pub lines_one_answer : (set : ByteSet) (old new : List ℕ) (ls one other : List (List ℕ)) → TurnAll set old new ls one → TurnAll set old new ls other → one ≡ other
lines_one_answer set old new [] [] [] h k = refl
lines_one_answer set old new [] [] (m ∷ ms) h k = absurd k
lines_one_answer set old new [] (m ∷ ms) other h k = absurd h
lines_one_answer set old new (l ∷ ls) [] other h k = absurd h
lines_one_answer set old new (l ∷ ls) (m ∷ ms) [] h k = absurd k
lines_one_answer set old new (l ∷ ls) (m ∷ ms) (m' ∷ ms') h k =
    let first = one_answer set old new l m m' h.0 k.0 in
    let rest = lines_one_answer set old new ls ms ms' h.1 k.1 in
    cc (first, rest)

-- a token of a set without the newline has none
not_newline : (set : ByteSet) (b : ℕ) → set 10 ≡ false → set b ≡ true → (b == 10) ≡ false
not_newline set b out is = false_from_ne_true (b == 10) (λ e. false≢true (sym out ∙ ap set (sym (eqb-true b 10 e)) ∙ is))

token_line : (set : ByteSet) (token : List ℕ) → set 10 ≡ false → AreAll set true token → IsLine token
token_line set token out are = list_any_none (λ y. y == 10) token (All-weaker (λ b. set b ≡ true) (λ b. (b == 10) ≡ false) (λ b is. not_newline set b out is) token are)

line_parts : (p : List ℕ) (rest : List ℕ) → IsLine (p ++ rest) → IsLine p × IsLine rest
line_parts p rest h = or_parts (list_any (λ y. y == 10) p) (list_any (λ y. y == 10) rest) (sym (list_any-append (λ y. y == 10) p rest) ∙ h)

line_from : (p : List ℕ) (rest : List ℕ) → IsLine p → IsLine rest → IsLine (p ++ rest)
line_from p rest h k = list_any-append (λ y. y == 10) p rest ∙ or_from (list_any (λ y. y == 10) p) (list_any (λ y. y == 10) rest) h k

turned_line : (old new : List ℕ) (ps qs : List (List ℕ)) → IsLine new → IsLine (concat ps) → AllZip (TurnsPiece old new) ps qs → IsLine (concat qs)
turned_line old new [] [] n h each = refl
turned_line old new [] (q ∷ qs) n h each = absurd each
turned_line old new (p ∷ ps) [] n h each = absurd each
turned_line old new (p ∷ ps) (q ∷ qs) n h each =
    let parts = line_parts p (concat ps) h in
    let first : IsLine q = elim each.0 [ inl is ↦ subst IsLine (sym is.1) n | inr isnt ↦ subst IsLine (sym isnt.2) parts.0 ] in
    line_from q (concat qs) first (turned_line old new ps qs n parts.1 each.1)

-- a line turns to a line
pub line_stays : (set : ByteSet) (old new x y : List ℕ) → set 10 ≡ false → IsToken set new → IsLine x → Turns set old new x y → IsLine y
line_stays set old new x y out n line h =
    subst IsLine (sym h.made) (turned_line old new h.from h.to (token_line set new out n.1) (subst IsLine (sym h.pieces.whole) line) h.each)

pub lines_stay : (set : ByteSet) (old new : List ℕ) (ls ls' : List (List ℕ)) → set 10 ≡ false → IsToken set new → All IsLine ls → TurnAll set old new ls ls' → All IsLine ls'
lines_stay set old new [] [] out n are h = All-nil IsLine
lines_stay set old new [] (l ∷ ls') out n are h = absurd h
lines_stay set old new (l ∷ ls) [] out n are h = absurd h
lines_stay set old new (l ∷ ls) (l' ∷ ls') out n are h =
    All-cons IsLine l' ls' (line_stays set old new l l' out n (All-head IsLine l ls are) h.0) (lines_stay set old new ls ls' out n (All-tail IsLine l ls are) h.1)

-- tokens of which none is one of the other two
record AreOthers (o1 n1 o2 n2 : List ℕ) : Type 0 where
  oo : o1 ≢ o2
  on : o1 ≢ n2
  new_old : n1 ≢ o2
  nn : n1 ≢ n2

-- a piece turned by both, in the other order
piece_passes : (o1 n1 o2 n2 p q r : List ℕ) → AreOthers o1 n1 o2 n2 → TurnsPiece o1 n1 p q → TurnsPiece o2 n2 q r →
    (w : List ℕ) × TurnsPiece o2 n2 p w × TurnsPiece o1 n1 w r
piece_passes o1 n1 o2 n2 p q r others h k = elim h [
  | inl is ↦ elim k [
    | inl then ↦ absurd (others.new_old (sym is.1 ∙ then.0))
    | inr stays ↦ (p, inr ((λ e. others.oo (sym is.0 ∙ e)), (λ e. others.on (sym is.0 ∙ e)), refl), inl (is.0, stays.2 ∙ is.1))
  ]
  | inr isnt ↦ elim k [
    | inl then ↦ (n2, inl (sym isnt.2 ∙ then.0, refl), inr ((λ e. others.on (sym e)), (λ e. others.nn (sym e)), then.1))
    | inr stays ↦ (p, inr ((λ e. stays.0 (isnt.2 ∙ e)), (λ e. stays.1 (isnt.2 ∙ e)), refl), inr (isnt.0, isnt.1, stays.2 ∙ isnt.2))
  ]
]

each_passes : (o1 n1 o2 n2 : List ℕ) (ps qs rs : List (List ℕ)) → AreOthers o1 n1 o2 n2 → AllZip (TurnsPiece o1 n1) ps qs → AllZip (TurnsPiece o2 n2) qs rs →
    (ws : List (List ℕ)) × AllZip (TurnsPiece o2 n2) ps ws × AllZip (TurnsPiece o1 n1) ws rs
each_passes o1 n1 o2 n2 [] [] [] others h k = ([], tt, tt)
each_passes o1 n1 o2 n2 [] [] (r ∷ rs) others h k = absurd k
each_passes o1 n1 o2 n2 [] (q ∷ qs) rs others h k = absurd h
each_passes o1 n1 o2 n2 (p ∷ ps) [] rs others h k = absurd h
each_passes o1 n1 o2 n2 (p ∷ ps) (q ∷ qs) [] others h k = absurd k
each_passes o1 n1 o2 n2 (p ∷ ps) (q ∷ qs) (r ∷ rs) others h k =
    let first = piece_passes o1 n1 o2 n2 p q r others h.0 k.0 in
    let rest = each_passes o1 n1 o2 n2 ps qs rs others h.1 k.1 in
    (first.0 ∷ rest.0, (first.1, rest.1), (first.2, rest.2))

-- turnings of other tokens pass each other
pub turnings_pass : (set : ByteSet) (o1 n1 o2 n2 x y z : List ℕ) → IsToken set o1 → IsToken set n1 → IsToken set o2 → IsToken set n2 → o1 ≢ o2 → o1 ≢ n2 → n1 ≢ o2 →
    n1 ≢ n2 → Turns set o1 n1 x y → Turns set o2 n2 y z → (w : List ℕ) × Turns set o2 n2 x w × Turns set o1 n1 w z
turnings_pass set o1 n1 o2 n2 x y z is_o1 is_n1 is_o2 is_n2 oo on new_old nn h k =
    let others : AreOthers o1 n1 o2 n2 = record { oo = oo; on = on; new_old = new_old; nn = nn } in
    let same : k.from ≡ h.to = sym (are_computed set y k.from k.pieces) ∙ are_computed set y h.to (turned_pieces set o1 n1 x y is_o1 is_n1 h) in
    let next : AllZip (TurnsPiece o2 n2) h.to k.to = subst (λ (v : List (List ℕ)). AllZip (TurnsPiece o2 n2) v k.to) same k.each in
    let ws = each_passes o1 n1 o2 n2 h.from h.to k.to others h.each next in
    let first : Turns set o2 n2 x (concat ws.0) = record { from = h.from; to = ws.0; pieces = h.pieces; each = ws.1; made = refl } in (
      concat ws.0,
      first,
      record { from = ws.0; to = k.to; pieces = turned_pieces set o2 n2 x (concat ws.0) is_o2 is_n2 first; each = ws.2; made = k.made },
    )

-- the first piece is turned, and then the rest
pub turned_more : (set : ByteSet) (old new text : List ℕ) (n : ℕ) → pieces_of set text ≡ take n text ∷ pieces_of set (drop n text) →
    turned set old new text ≡ turned_piece old new (take n text) ++ turned set old new (take (length text - n) (drop n text))
unfolding turned
turned_more set old new text n e =
    ap (λ (v : List (List ℕ)). concat (map (turned_piece old new) v)) e
    ∙ ap (λ (v : List ℕ). turned_piece old new (take n text) ++ concat (map (turned_piece old new) (pieces_of set v))) (sym (take_rest text n))

-- one piece more is appended
pub pushed_more : (set : ByteSet) (old new text rest before out more done piece : List ℕ) (n : ℕ) → pieces_of set rest ≡ take n rest ∷ pieces_of set (drop n rest) →
    out ≡ before ++ done → done ++ turned set old new rest ≡ turned set old new text → more ≡ out ++ piece → piece ≡ turned_piece old new (take n rest) →
    (after : List ℕ) × (more ≡ before ++ after) × (after ++ turned set old new (take (length rest - n) (drop n rest)) ≡ turned set old new text)
pushed_more set old new text rest before out more done piece n e so whole next is = (
  done ++ piece,
  next ∙ ap (λ (v : List ℕ). v ++ piece) so ∙ append_assoc before done piece,
  append_assoc done piece (turned set old new (take (length rest - n) (drop n rest)))
      ∙ ap (λ (v : List ℕ). done ++ (v ++ turned set old new (take (length rest - n) (drop n rest)))) is
      ∙ ap (λ (v : List ℕ). done ++ v) (sym (turned_more set old new rest n e))
      ∙ whole,
)

-- all is appended
pub pushed_all : (set : ByteSet) (old new text rest before out done : List ℕ) → out ≡ before ++ done → done ++ turned set old new rest ≡ turned set old new text → rest ≡ [] →
    out ≡ before ++ turned set old new text
unfolding turned pieces_of
pushed_all set old new text rest before out done so whole e =
    so ∙ ap (λ (v : List ℕ). before ++ v) (sym (append-nil done) ∙ ap (λ (v : List ℕ). done ++ turned set old new v) (sym e) ∙ whole)

-- the first piece is turned, and then the rest: so many bytes
pub turned_size : (set : ByteSet) (old new rest piece : List ℕ) (n : ℕ) → pieces_of set rest ≡ take n rest ∷ pieces_of set (drop n rest) → piece ≡ turned_piece old new (take n rest) →
    length (turned set old new rest) ≡ length piece + length (turned set old new (take (length rest - n) (drop n rest)))
turned_size set old new rest piece n e is =
    ap length (turned_more set old new rest n e ∙ ap (λ (v : List ℕ). v ++ turned set old new (take (length rest - n) (drop n rest))) (sym is))
    ∙ length-append piece (turned set old new (take (length rest - n) (drop n rest)))

-- of no text there are none
pub turned_none : (set : ByteSet) (old new rest : List ℕ) → rest ≡ [] → length (turned set old new rest) ≡ 0
unfolding turned pieces_of
turned_none set old new rest e = ap (λ (v : List ℕ). length (turned set old new v)) e

-- the old token was found, before or now
pub or_found : (whole was here now left : Bool) → whole ≡ (was || here) → here ≡ true → now ≡ true → whole ≡ (now || left)
or_found whole was here now left e h n = e ∙ ap (λ (v : Bool). was || v) h ∙ or_right was true refl ∙ sym (ap (λ (v : Bool). v || left) n)

pub or_kept : (whole was here now left : Bool) → whole ≡ (was || here) → here ≡ left → now ≡ was → whole ≡ (now || left)
or_kept whole was here now left e h n = e ∙ ap (λ (v : Bool). was || v) h ∙ sym (ap (λ (v : Bool). v || left) n)
