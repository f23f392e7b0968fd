-- A text parted at newlines, and a word at a space.
use Rattle.std.proofs.Common.{◌≡◌, ◌≢◌, ℕ, zero, suc, ◌+◌, ◌<◌, ◌==◌, true, false, List, [], ◌∷◌, ◌++◌, length, take, drop, slice_index, get_or, None, Some, refl, sym, ap, subst, ◌∙◌, arith, append_assoc}
use Rattle.std.specs.Prelude.{Option, IfSome, IfNone, MatchOption}
use Rattle.std.specs.List.{All, slice_split}
use denote.Ref.{Bor}
use Rattle.std.proofs.lemmas.Bool.{eqb-true, false_from_ne_true}
use Rattle.std.proofs.lemmas.List.{append_cancel_right, drop_more, take-append-drop, take_all}
use Rattle.std.proofs.lemmas.List.Elements.{All-nil, All-cons}
use Rattle.std.proofs.lemmas.List.Splits.{slice_split_at, slice_split_none}
use Rattle.memchr.specs.Find.{IsFirstByte, is_byte}

abbrev IsOther : ℕ → Type 0
IsOther x = (x == 10) ≡ false

front_other : (xs : List ℕ) (k : ℕ) → ((j : ℕ) → j < k → (slice_index xs j == 10) ≡ true → ⊥) → All IsOther (take k xs)
front_other [] zero f = All-nil IsOther
front_other [] (suc k) f = All-nil IsOther
front_other (x ∷ xs) zero f = All-nil IsOther
front_other (x ∷ xs) (suc k) f = All-cons IsOther x (take k xs) (false_from_ne_true (x == 10) (f 0 (omega arith))) (front_other xs k (λ j lt. f (suc j) (omega arith)))

-- the first line and the others
pub line_split : (rest : List ℕ) (k : ℕ) → IsFirstByte (is_byte 10) rest (Some k) → slice_split (λ b. b == 10) rest ≡ take k rest ∷ slice_split (λ b. b == 10) (drop (k + 1) rest)
line_split rest k first =
    let at : drop k rest ≡ get_or rest k 0 ∷ drop (k + 1) rest = drop_more rest k 0 first.0.high in
    let newline : get_or rest k 0 ≡ 10 = eqb-true (get_or rest k 0) 10 first.1 in
    let whole : rest ≡ take k rest ++ 10 ∷ drop (k + 1) rest =
    sym (take-append-drop k rest) ∙ ap (λ (l : List ℕ). take k rest ++ l) at ∙ ap (λ (b : ℕ). take k rest ++ b ∷ drop (k + 1) rest) newline in
    let others = front_other rest k (λ j lt. first.0.before j (omega arith) lt) in
    ap (slice_split (λ b. b == 10)) whole ∙ slice_split_at (λ b. b == 10) (take k rest) 10 (drop (k + 1) rest) others refl

-- the last line
pub last_split : (rest : List ℕ) → IsFirstByte (is_byte 10) rest None → slice_split (λ b. b == 10) rest ≡ rest ∷ []
last_split rest never =
    slice_split_none (λ b. b == 10) rest (subst (All IsOther) (take_all (length rest) rest (omega arith)) (front_other rest (length rest) (λ j lt. never j (omega arith) lt)))

-- what stands before a space and a name
abbrev IsFront : List ℕ → List ℕ → Bor (List ℕ) → Type 0
IsFront word name front = word ≡ front.now ++ 32 ∷ name

pub joined : (word before front name : List ℕ) → word ≡ before ++ name → before ≡ front ++ 32 ∷ [] → word ≡ front ++ 32 ∷ name
joined word before front name e f = e ∙ ap (λ l. l ++ name) f ∙ append_assoc front (32 ∷ []) name

pub parted : (word before front name : List ℕ) → word ≡ before ++ name → word ≡ front ++ 32 ∷ name → before ≡ front ++ 32 ∷ []
parted word before front name e f = append_cancel_right before (front ++ 32 ∷ []) name (sym e ∙ f ∙ sym (append_assoc front (32 ∷ []) name))

pub front_some : (word before name : List ℕ) (r : Option (Bor (List ℕ))) → word ≡ before ++ name → MatchOption r ((front : List ℕ) → before ≢ front ++ 32 ∷ []) (λ x. before ≡ x.now ++ 32 ∷ []) → IfSome r (IsFront word name)
front_some word before name None e m = tt
front_some word before name (Some x) e m = joined word before x.now name e m

pub front_none : (word before name : List ℕ) (r : Option (Bor (List ℕ))) → word ≡ before ++ name → MatchOption r ((front : List ℕ) → before ≢ front ++ 32 ∷ []) (λ x. before ≡ x.now ++ 32 ∷ []) → IfNone r ((front : List ℕ) → word ≡ front ++ 32 ∷ name → ⊥)
front_none word before name None e m = λ front f. m front (parted word before front name e f)
front_none word before name (Some x) e m = tt

pub none_so : (r : Option (Bor (List ℕ))) (P : Type 0) → P → IfNone r P
none_so None P p = p
none_so (Some x) P p = tt

-- one front alone
pub one_front : (word a b name : List ℕ) → word ≡ a ++ 32 ∷ name → word ≡ b ++ 32 ∷ name → a ≡ b
one_front word a b name e f = append_cancel_right a b (32 ∷ name) (sym e ∙ f)
