-- Each text has pieces, and only those that are computed.
use Rattle.std.proofs.Common.{◌≡◌, ◌+◌, ◌<◌, ◌≤◌, ℕ, zero, suc, Bool, true, false, not, cond, List, [], ◌∷◌, ◌++◌, ◌-◌, ◌||◌, ◌==◌, length, take, drop, get_or, refl, sym, ap, subst, ◌∙◌, arith}
use Rattle.std.specs.List.{concat, list_any}
use Rattle.std.specs.Str.{bytes_eq}
use Rattle.std.proofs.lemmas.Bool.{cond-true, cond-false, eqb-true}
use Rattle.std.proofs.lemmas.Cmp.{nat_list_eq_equiv}
use Rattle.std.proofs.lemmas.List.{nil_from_length, get_or-drop, get_or-take, length-drop, length-take, take-append-drop, take_rest}
use Rattle.std.proofs.lemmas.List.Elements.{All-cons, All-from_get_or, All-head, All-nil, All-tail}
use Rattle.std.proofs.lemmas.Map.Views.{Contains-from_any, list_any-from_Contains}
use Rattle.std.proofs.lemmas.Slice.Eq.{bytes_eq-Decides}
use Rattle.std.proofs.Math.Bool.{beq}
use Rattle.dm_tokens.specs.Sets.{ByteSet}
use Rattle.dm_tokens.specs.Pieces.{AreAll, AreByTurns, ArePieces, HasPiece}
use Rattle.dm_tokens.specs.Walks.{has, pieces_of, put}

beq_same : (a b : Bool) → a ≡ b → beq a b ≡ true
beq_same true true e = refl
beq_same true false e = cc e
beq_same false true e = cc e
beq_same false false e = refl

beq_other : (a b : Bool) → b ≡ not a → beq a b ≡ false
beq_other true true e = cc e
beq_other true false e = refl
beq_other false true e = refl
beq_other false false e = cc e

same_beq : (a b : Bool) → beq a b ≡ true → a ≡ b
same_beq true true e = refl
same_beq true false e = cc e
same_beq false true e = cc e
same_beq false false e = refl

other_beq : (a b : Bool) → beq a b ≡ false → b ≡ not a
other_beq true true e = cc e
other_beq true false e = refl
other_beq false true e = refl
other_beq false false e = cc e

-- pieces, if there are any, that begin with a byte on the other side of the set
abbrev StartOther : ByteSet → Bool → List (List ℕ) → Type 0
StartOther set inside [] = Unit {0}
StartOther set inside ([] ∷ ps) = ⊥
StartOther set inside ((c ∷ p) ∷ ps) = set c ≡ not inside

-- before these, a byte is a piece of its own
alone : (set : ByteSet) (inside : Bool) (b : ℕ) (ps : List (List ℕ)) → set b ≡ inside → StartOther set inside ps → put set b ps ≡ (b ∷ []) ∷ ps
alone set inside b [] is other = refl
alone set inside b ([] ∷ ps) is other = absurd other
alone set inside b ((c ∷ p) ∷ ps) is other = cond-false (beq (set b) (set c)) _ _ (beq_other (set b) (set c) (other ∙ ap not (sym is)))

-- bytes on one side of the set are one piece before pieces that begin on the other
run : (set : ByteSet) (inside : Bool) (b : ℕ) (p : List ℕ) (ps : List (List ℕ)) (text : List ℕ) → set b ≡ inside → AreAll set inside p → StartOther set inside ps →
    pieces_of set text ≡ ps → pieces_of set (b ∷ (p ++ text)) ≡ (b ∷ p) ∷ ps
unfolding pieces_of
run set inside b [] ps text is are other e = ap (put set b) e ∙ alone set inside b ps is other
run set inside b (c ∷ p) ps text is are other e =
    let head : set c ≡ inside = All-head (λ x. set x ≡ inside) c p are in
    ap (put set b) (run set inside c p ps text head (All-tail (λ x. set x ≡ inside) c p are) other e)
    ∙ cond-true (beq (set b) (set c)) _ _ (beq_same (set b) (set c) (is ∙ sym head))

start : (set : ByteSet) (inside : Bool) (ps : List (List ℕ)) → AreByTurns set (not inside) ps → StartOther set inside ps
start set inside [] h = tt
start set inside ([] ∷ ps) h = absurd (h.0 refl)
start set inside ((c ∷ p) ∷ ps) h = All-head (λ x. set x ≡ not inside) c p h.1

-- pieces are those that are computed of what they are put together
computed : (set : ByteSet) (inside : Bool) (ps : List (List ℕ)) → AreByTurns set inside ps → pieces_of set (concat ps) ≡ ps
unfolding pieces_of
computed set inside [] h = refl
computed set inside ([] ∷ ps) h = absurd (h.0 refl)
computed set inside ((b ∷ p) ∷ ps) h =
    run set inside b p ps (concat ps) (All-head (λ x. set x ≡ inside) b p h.1) (All-tail (λ x. set x ≡ inside) b p h.1) (start set inside ps h.2)
    (computed set (not inside) ps h.2)

-- so a text has only these
pub are_computed : (set : ByteSet) (text : List ℕ) (ps : List (List ℕ)) → ArePieces set text ps → pieces_of set text ≡ ps
are_computed set text ps h = ap (pieces_of set) (sym h.whole) ∙ computed set h.inside ps h.by_turns

whole_either : (t : Bool) (b c : ℕ) (p : List ℕ) (ps : List (List ℕ)) → concat (cond t ((b ∷ c ∷ p) ∷ ps) ((b ∷ []) ∷ (c ∷ p) ∷ ps)) ≡ b ∷ c ∷ (p ++ concat ps)
whole_either true b c p ps = refl
whole_either false b c p ps = refl

whole_put : (set : ByteSet) (b : ℕ) (ps : List (List ℕ)) → concat (put set b ps) ≡ b ∷ concat ps
whole_put set b [] = refl
whole_put set b ([] ∷ ps) = refl
whole_put set b ((c ∷ p) ∷ ps) = whole_either (beq (set b) (set c)) b c p ps

pub whole_of : (set : ByteSet) (text : List ℕ) → concat (pieces_of set text) ≡ text
unfolding pieces_of
whole_of set [] = refl
whole_of set (b ∷ text) = whole_put set b (pieces_of set text) ∙ ap (λ (v : List ℕ). b ∷ v) (whole_of set text)

one_more : (set : ByteSet) (b : ℕ) (ps : List (List ℕ)) → AreByTurns set (not (set b)) ps → AreByTurns set (set b) ((b ∷ []) ∷ ps)
one_more set b ps h = ((λ e. cc e), All-cons (λ x. set x ≡ set b) b [] refl (All-nil (λ x. set x ≡ set b)), h)

turns_either : (set : ByteSet) (t inside : Bool) (b c : ℕ) (p : List ℕ) (ps : List (List ℕ)) → beq (set b) (set c) ≡ t → AreByTurns set inside ((c ∷ p) ∷ ps) →
    AreByTurns set (set b) (cond t ((b ∷ c ∷ p) ∷ ps) ((b ∷ []) ∷ (c ∷ p) ∷ ps))
turns_either set true inside b c p ps e h =
    let same : inside ≡ set b = sym (All-head (λ x. set x ≡ inside) c p h.1) ∙ sym (same_beq (set b) (set c) e) in (
      (λ n. cc n),
      All-cons (λ x. set x ≡ set b) b (c ∷ p) refl (subst (λ (k : Bool). AreAll set k (c ∷ p)) same h.1),
      subst (λ (k : Bool). AreByTurns set (not k) ps) same h.2,
    )
turns_either set false inside b c p ps e h =
    let other : inside ≡ not (set b) = sym (All-head (λ x. set x ≡ inside) c p h.1) ∙ other_beq (set b) (set c) e in
    one_more set b ((c ∷ p) ∷ ps) (subst (λ (k : Bool). AreByTurns set k ((c ∷ p) ∷ ps)) other h)

turns_put : (set : ByteSet) (inside : Bool) (b : ℕ) (ps : List (List ℕ)) → AreByTurns set inside ps → AreByTurns set (set b) (put set b ps)
turns_put set inside b [] h = one_more set b [] tt
turns_put set inside b ([] ∷ ps) h = absurd (h.0 refl)
turns_put set inside b ((c ∷ p) ∷ ps) h = turns_either set (beq (set b) (set c)) inside b c p ps refl h

turns_of : (set : ByteSet) (text : List ℕ) → (inside : Bool) × AreByTurns set inside (pieces_of set text)
unfolding pieces_of
turns_of set [] = (true, tt)
turns_of set (b ∷ text) = let rest = turns_of set text in (set b, turns_put set rest.0 b (pieces_of set text) rest.1)

-- the pieces that are computed are pieces
pub are_pieces : (set : ByteSet) (text : List ℕ) → ArePieces set text (pieces_of set text)
are_pieces set text = let h = turns_of set text in record { whole = whole_of set text; inside = h.0; by_turns = h.1 }

start_either : (set : ByteSet) (inside t : Bool) (b c : ℕ) (p : List ℕ) (ps : List (List ℕ)) → set b ≡ not inside →
    StartOther set inside (cond t ((b ∷ c ∷ p) ∷ ps) ((b ∷ []) ∷ (c ∷ p) ∷ ps))
start_either set inside true b c p ps e = e
start_either set inside false b c p ps e = e

start_put : (set : ByteSet) (inside : Bool) (b : ℕ) (ps : List (List ℕ)) → set b ≡ not inside → StartOther set inside (put set b ps)
start_put set inside b [] e = e
start_put set inside b ([] ∷ ps) e = e
start_put set inside b ((c ∷ p) ∷ ps) e = start_either set inside (beq (set b) (set c)) b c p ps e

start_of : (set : ByteSet) (inside : Bool) (text : List ℕ) → (0 < length text → set (get_or text 0 0) ≡ not inside) → StartOther set inside (pieces_of set text)
unfolding pieces_of
start_of set inside [] h = tt
start_of set inside (b ∷ text) h = start_put set inside b (pieces_of set text) (h (omega arith))

start_at : (set : ByteSet) (n : ℕ) (text : List ℕ) (b : ℕ) → (suc n < length (b ∷ text) → set (get_or (b ∷ text) (suc n) 0) ≡ not (set b)) → 0 < length (drop n text) →
    set (get_or (drop n text) 0 0) ≡ not (set b)
start_at set n text b other more =
    let zero_more : n + 0 ≡ n = omega arith in
    ap set (get_or-drop n text 0 0 ∙ ap (λ (v : ℕ). get_or text v 0) zero_more) ∙ other (omega (arith, length-drop n text))

-- the first bytes are a piece if they are on one side of the set, and the byte behind them is on the other
pub first_piece : (set : ByteSet) (text : List ℕ) (n : ℕ) → 0 < n → n ≤ length text → ((k : ℕ) → k < n → set (get_or text k 0) ≡ set (get_or text 0 0)) →
    (n < length text → set (get_or text n 0) ≡ not (set (get_or text 0 0))) → pieces_of set text ≡ take n text ∷ pieces_of set (drop n text)
first_piece set [] n some within alike other = absurd (omega arith)
first_piece set (b ∷ text) zero some within alike other = absurd (omega arith)
first_piece set (b ∷ text) (suc n) some within alike other =
    let are : AreAll set (set b) (take n text) =
    All-from_get_or (λ x. set x ≡ set b) (take n text) 0 (λ i lt. let below : i < n = omega (arith, length-take n text) in ap set (get_or-take n text i 0 below) ∙ alike (suc i) (omega arith)) in
    let rest : StartOther set (set b) (pieces_of set (drop n text)) = start_of set (set b) (drop n text) (λ more. start_at set n text b other more) in
    ap (λ (v : List ℕ). pieces_of set (b ∷ v)) (sym (take-append-drop n text)) ∙ run set (set b) b (take n text) (pieces_of set (drop n text)) (drop n text) refl are rest refl

-- a text has a piece just where it is among those that are computed
pub has_piece : (set : ByteSet) (text piece : List ℕ) → HasPiece set text piece → has set text piece ≡ true
unfolding has
has_piece set text piece h =
    ap (list_any (bytes_eq piece)) (are_computed set text h.all h.are) ∙ list_any-from_Contains nat_list_eq_equiv piece h.all h.there

pub piece_from : (set : ByteSet) (text piece : List ℕ) → has set text piece ≡ true → HasPiece set text piece
unfolding has
piece_from set text piece h = record {
  all = pieces_of set text;
  are = are_pieces set text;
  there = Contains-from_any {eq = bytes_eq} (λ x y e. (bytes_eq-Decides x y).0 e) piece (pieces_of set text) h;
}

-- two answers that differ
pub unlike : (a b x y : Bool) → a ≡ x → b ≡ y → not (beq a b) ≡ true → x ≡ not y
unlike true true x y p q e = cc e
unlike true false x y p q e = sym p ∙ ap not q
unlike false true x y p q e = sym p ∙ ap not q
unlike false false x y p q e = cc e

-- the first piece is the one that is sought
pub has_first : (set : ByteSet) (text piece first rest : List ℕ) → pieces_of set text ≡ first ∷ pieces_of set rest → bytes_eq piece first ≡ true → has set text piece ≡ true
unfolding has
has_first set text piece first rest e same =
    ap (list_any (bytes_eq piece)) e ∙ ap (λ (v : Bool). v || list_any (bytes_eq piece) (pieces_of set rest)) same

-- it is not, so the others are left
pub has_left : (set : ByteSet) (text piece : List ℕ) (n : ℕ) → pieces_of set text ≡ take n text ∷ pieces_of set (drop n text) → bytes_eq piece (take n text) ≡ false →
    has set text piece ≡ has set (take (length text - n) (drop n text)) piece
unfolding has
has_left set text piece n e other =
    ap (list_any (bytes_eq piece)) e
    ∙ ap (λ (v : Bool). v || list_any (bytes_eq piece) (pieces_of set (drop n text))) other
    ∙ ap (λ (v : List ℕ). list_any (bytes_eq piece) (pieces_of set v)) (sym (take_rest text n))

-- no piece is left in an empty text
pub has_none : (set : ByteSet) (text piece : List ℕ) → text ≡ [] → has set text piece ≡ false
unfolding has pieces_of
has_none set text piece e = ap (λ (v : List ℕ). list_any (bytes_eq piece) (pieces_of set v)) e

-- nothing is left
pub empty_rest : (rest : List ℕ) (is : Bool) → is ≡ (length rest == 0) → is ≡ true → rest ≡ []
empty_rest rest is e f = nil_from_length rest (eqb-true (length rest) 0 (sym e ∙ f))
