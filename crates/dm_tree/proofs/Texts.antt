-- What a run of bytes and its ends are as lines.
use Rattle.std.proofs.Common.{◌≡◌, ℕ, ◌+◌, ◌-◌, ◌<◌, ◌≤◌, List, [], ◌∷◌, ◌++◌, length, take, drop, get_or, zero, suc, refl, sym, ap, ap₂, subst, ◌∙◌, arith, append-nil, append_assoc, length-append, take-append-drop, add-zero, add-one}
use Rattle.std.specs.List.{concat}
use Rattle.std.specs.Prelude.{sum_by}
use Rattle.std.proofs.lemmas.List.{take_at, drop_at, drop_more, take_more}
use Rattle.std.proofs.lemmas.List.Concat.{concat_is, length-flat_map}
use Rattle.dm_tree.specs.Trees.{Lines}
use Rattle.dm_tree.specs.Texts.{LaidOut, ends_from, cut, begin_of}

-- the lines come back
pub cut-ends : (n : ℕ) (ls : Lines) → cut n (ends_from n ls) (concat ls) ≡ ls
cut-ends n [] = refl
cut-ends n (l ∷ ls) =
    let size : length l ≡ (n + length l) - n = omega arith in
    ap₂ (λ x y. x ∷ y) (take_at l (concat ls) ((n + length l) - n) size) (ap (cut (n + length l) (ends_from (n + length l) ls)) (drop_at l (concat ls) ((n + length l) - n) size) ∙ cut-ends (n + length l) ls)

module _ (run ends : List ℕ) (ls : Lines) where
  -- a text is seen as the lines that it holds, and those alone
  pub view_of : LaidOut run ends ls → cut 0 ends run ≡ ls
  view_of h = ap₂ (λ e r. cut 0 e r) h.placed h.whole ∙ cut-ends 0 ls

  pub valid_of : LaidOut run ends ls → LaidOut run ends (cut 0 ends run)
  valid_of h = subst (λ (x : Lines). LaidOut run ends x) (sym (view_of h)) h

  pub held : LaidOut run ends (cut 0 ends run) → cut 0 ends run ≡ ls → LaidOut run ends ls
  held h e = subst (λ (x : Lines). LaidOut run ends x) e h

pub length-ends_from : (n : ℕ) (ls : Lines) → length (ends_from n ls) ≡ length ls
length-ends_from n [] = refl
length-ends_from n (l ∷ ls) = ap suc (length-ends_from (n + length l) ls)

pub length-held : (run ends : List ℕ) (ls : Lines) → LaidOut run ends ls → length ends ≡ length ls
length-held run ends ls h = ap length h.placed ∙ length-ends_from 0 ls

pub concat-append : (xs ys : Lines) → concat (xs ++ ys) ≡ concat xs ++ concat ys
concat-append [] ys = refl
concat-append (x ∷ xs) ys = ap (λ z. x ++ z) (concat-append xs ys) ∙ sym (append_assoc x (concat xs) (concat ys))

pub ends_from-append : (n : ℕ) (xs ys : Lines) → ends_from n (xs ++ ys) ≡ ends_from n xs ++ ends_from (n + length (concat xs)) ys
ends_from-append n [] ys = ap (λ k. ends_from k ys) (sym (add-zero n))
ends_from-append n (x ∷ xs) ys =
    let same : (n + length x) + length (concat xs) ≡ n + length (x ++ concat xs) = omega (arith, length-append x (concat xs)) in
    ap (λ z. (n + length x) ∷ z) (ends_from-append (n + length x) xs ys ∙ ap (λ k. ends_from (n + length x) xs ++ ends_from k ys) same)

-- the count of bytes of all lines
pub length-concat : (ls : Lines) → length (concat ls) ≡ sum_by length ls
length-concat ls = ap length (concat_is ls) ∙ length-flat_map (λ x. x) ls

-- the end of a line is where the next begins
pub get_or-ends_from : (n : ℕ) (ls : Lines) (i d : ℕ) → i < length ls → get_or (ends_from n ls) i d ≡ n + begin_of ls (suc i)
get_or-ends_from n [] i d lt = absurd (omega arith)
get_or-ends_from n (l ∷ ls) zero d lt = omega (arith, length-append l [])
get_or-ends_from n (l ∷ ls) (suc i) d lt =
    let here : get_or (ends_from (n + length l) ls) i d ≡ (n + length l) + begin_of ls (suc i) = get_or-ends_from (n + length l) ls i d (omega arith) in
    here ∙ omega (arith, length-append l (concat (take (suc i) ls)))

pub end_at : (ls : Lines) (i j d : ℕ) → j ≡ i + 1 → i < length ls → get_or (ends_from 0 ls) i d ≡ begin_of ls j
end_at ls i j d e lt = get_or-ends_from 0 ls i d lt ∙ omega (arith, ap (begin_of ls) (e ∙ add-one i))

-- the bytes before a line, and from it on
pub concat-split : (ls : Lines) (i : ℕ) → concat ls ≡ concat (take i ls) ++ concat (drop i ls)
concat-split ls i = ap concat (sym (take-append-drop i ls)) ∙ concat-append (take i ls) (drop i ls)

pub take-begin_of : (ls : Lines) (i : ℕ) → take (begin_of ls i) (concat ls) ≡ concat (take i ls)
take-begin_of ls i = ap (take (begin_of ls i)) (concat-split ls i) ∙ take_at (concat (take i ls)) (concat (drop i ls)) (begin_of ls i) refl

pub drop-begin_of : (ls : Lines) (i : ℕ) → drop (begin_of ls i) (concat ls) ≡ concat (drop i ls)
drop-begin_of ls i = ap (drop (begin_of ls i)) (concat-split ls i) ∙ drop_at (concat (take i ls)) (concat (drop i ls)) (begin_of ls i) refl

pub begin_of-le : (ls : Lines) (i : ℕ) → begin_of ls i ≤ length (concat ls)
begin_of-le ls i = omega (arith, ap length (concat-split ls i), length-append (concat (take i ls)) (concat (drop i ls)))

pub begin_of-suc : (ls : Lines) (i : ℕ) (d : List ℕ) → i < length ls → begin_of ls (i + 1) ≡ begin_of ls i + length (get_or ls i d)
begin_of-suc ls i d lt =
    let l : List ℕ = get_or ls i d in
    ap (λ (x : Lines). length (concat x)) (take_more ls i d lt)
    ∙ ap length (concat-append (take i ls) (l ∷ []) ∙ ap (λ x. concat (take i ls) ++ x) (append-nil l))
    ∙ length-append (concat (take i ls)) l

pub begin_of-mono : (ls : Lines) (i j : ℕ) → i ≤ j → begin_of ls i ≤ begin_of ls j
begin_of-mono [] i j le = omega (arith, none i)
  where
    none : (i : ℕ) → begin_of [] i ≡ 0
    none zero = refl
    none (suc i) = refl
begin_of-mono (l ∷ ls) zero j le = omega arith
begin_of-mono (l ∷ ls) (suc i) zero le = absurd (omega arith)
begin_of-mono (l ∷ ls) (suc i) (suc j) le = omega (arith, begin_of-mono ls i j (omega arith), length-append l (concat (take i ls)), length-append l (concat (take j ls)))

-- the bytes of a line
pub line_at : (ls : Lines) (i : ℕ) (d : List ℕ) → i < length ls → take (begin_of ls (i + 1) - begin_of ls i) (drop (begin_of ls i) (concat ls)) ≡ get_or ls i d
line_at ls i d lt =
    let l : List ℕ = get_or ls i d in
    let size : length l ≡ begin_of ls (i + 1) - begin_of ls i = omega (arith, begin_of-suc ls i d lt) in
    ap (take (begin_of ls (i + 1) - begin_of ls i)) (drop-begin_of ls i ∙ ap concat (drop_more ls i d lt))
    ∙ take_at l (concat (drop (i + 1) ls)) (begin_of ls (i + 1) - begin_of ls i) size

module _ (run ends : List ℕ) (ls : Lines) (h : LaidOut run ends ls) where
  -- an end that was read
  pub end_is : (i j x : ℕ) → j ≡ i + 1 → i < length ls → x ≡ get_or ends i x → x ≡ begin_of ls j
  end_is i j x e lt read = read ∙ ap (λ z. get_or z i x) h.placed ∙ end_at ls i j x e lt

  pub begin_of-fits : (i : ℕ) → begin_of ls i ≤ length run
  begin_of-fits i = omega (arith, begin_of-le ls i, ap length h.whole)

  -- the part of the run between both ends of a line
  pub part_is : (bytes : List ℕ) (i from to : ℕ) → bytes ≡ run → i < length ls → from ≡ begin_of ls i → to ≡ begin_of ls (i + 1) → take (to - from) (drop from bytes) ≡ get_or ls i []
  part_is bytes i from to same lt a b =
      ap₂ (λ x y. take (y - x) (drop x bytes)) a b
      ∙ ap (λ r. take (begin_of ls (i + 1) - begin_of ls i) (drop (begin_of ls i) r)) (same ∙ h.whole)
      ∙ line_at ls i [] lt

  -- one more line
  pub holds_push : (run' ends' line : List ℕ) (n : ℕ) → run' ≡ run ++ line → ends' ≡ ends ++ n ∷ [] → n ≡ length run' → LaidOut run' ends' (ls ++ line ∷ [])
  holds_push run' ends' line n e f size = record {
    whole = e ∙ ap₂ (λ x y. x ++ y) h.whole (sym (append-nil line)) ∙ sym (concat-append ls (line ∷ []));
    placed = f ∙ ap₂ (λ x k. x ++ k ∷ []) h.placed (omega (arith, size, ap length e, length-append run line, ap length h.whole)) ∙ sym (ends_from-append 0 ls (line ∷ []));
  }

  -- more lines
  pub holds_append : (run' ends' : List ℕ) (fs : Lines) (n : ℕ) → run' ≡ run ++ concat fs → ends' ≡ ends ++ ends_from n fs → n ≡ length run → LaidOut run' ends' (ls ++ fs)
  holds_append run' ends' fs n e f size = record {
    whole = e ∙ ap (λ x. x ++ concat fs) h.whole ∙ sym (concat-append ls fs);
    placed = f ∙ ap₂ (λ x k. x ++ ends_from k fs) h.placed (omega (arith, size, ap length h.whole)) ∙ sym (ends_from-append 0 ls fs);
  }
