-- Contents and their lines.
use Rattle.std.proofs.Common.{◌≡◌, ◌≢◌, ◌+◌, ◌-◌, ◌<◌, ◌≤◌, zero, suc, ℕ, length, take, drop, get_or, slice_index, sum_by, None, Some, List, [], ◌∷◌, ◌++◌, ◌==◌, ◌||◌, Bool, true, false, refl, sym, ap, ◌∙◌, arith}
use Rattle.std.specs.List.{flat_map, list_any}
use Rattle.std.proofs.lemmas.Bool.{eqb-true, false≢true}
use Rattle.std.proofs.lemmas.List.{append-nil, append_assoc, drop_more, length-append, length-take, take-append-drop, take_all, take_more, take_rest}
use Rattle.std.proofs.lemmas.List.Concat.{flat_map-append}
use Rattle.std.proofs.lemmas.List.Elements.{All-cons, All-head, All-nil, All-push, All-tail}
use Rattle.std.proofs.lemmas.List.Sums.{sum_by-cons}
use Rattle.memchr.specs.Find.{IsFirstByte, is_byte}
use Rattle.dm_tree.specs.Trees.{Lines}
use Rattle.dm_tree.specs.Validity.{ArePlain, IsPlain}
use Rattle.dm_hex.specs.Contents.{AreFileLines, content}

-- lines, each behind a newline
abbrev pub behind : Lines → List ℕ
behind ls = flat_map (λ l. 10 ∷ l) ls

-- lines, each with a newline after it
abbrev pub ended : Lines → List ℕ
ended ls = flat_map (λ l. l ++ 10 ∷ []) ls

ended_push : (xs : Lines) (l : List ℕ) → behind (xs ++ l ∷ []) ≡ 10 ∷ (ended xs ++ l)
ended_push [] l = ap (λ (v : List ℕ). 10 ∷ v) (append-nil l)
ended_push (x ∷ xs) l =
    let e : x ++ behind (xs ++ l ∷ []) ≡ ((x ++ 10 ∷ []) ++ ended xs) ++ l =
    ap (λ (v : List ℕ). x ++ v) (ended_push xs l) ∙ sym (append_assoc x (10 ∷ []) (ended xs ++ l)) ∙ sym (append_assoc (x ++ 10 ∷ []) (ended xs) l) in
    ap (λ (v : List ℕ). 10 ∷ v) e

-- the content of lines and a last one
pub content_ended : (ls : Lines) (l : List ℕ) → content (ls ++ l ∷ []) ≡ ended ls ++ l
content_ended [] l = append-nil l
content_ended (x ∷ xs) l =
    ap (λ (v : List ℕ). x ++ v) (ended_push xs l) ∙ sym (append_assoc x (10 ∷ []) (ended xs ++ l)) ∙ sym (append_assoc (x ++ 10 ∷ []) (ended xs) l)

-- one line more behind some
pub content_push : (ls : Lines) (l : List ℕ) → ls ≢ [] → content (ls ++ l ∷ []) ≡ content ls ++ 10 ∷ l
content_push [] l some = absurd (some refl)
content_push (x ∷ xs) l some =
    ap (λ (v : List ℕ). x ++ v) (flat_map-append (λ (m : List ℕ). 10 ∷ m) xs (l ∷ []) ∙ ap (λ (v : List ℕ). behind xs ++ 10 ∷ v) (append-nil l))
    ∙ sym (append_assoc x (behind xs) (10 ∷ l))

-- a plain line does not begin with a newline
not_first : (b : ℕ) (l : List ℕ) → IsPlain (b ∷ l) → b ≡ 10 → ⊥
not_first b l plain e = false≢true (sym (rw e at plain))

either_false : (a b : Bool) → (a || b) ≡ false → b ≡ false
either_false true b e = absurd (false≢true (sym e))
either_false false b e = e

plain_tail : (b : ℕ) (l : List ℕ) → IsPlain (b ∷ l) → IsPlain l
plain_tail b l plain = either_false (b == 10) (list_any (λ y. y == 10) l) plain

-- a content is cut at its first newline in one way
first_line : (l m : List ℕ) (ls ms : Lines) → IsPlain l → IsPlain m → l ++ behind ls ≡ m ++ behind ms → (l ≡ m) × (behind ls ≡ behind ms)
first_line [] [] ls ms p q e = (refl, e)
first_line [] (b ∷ m) [] ms p q e = cc e
first_line [] (b ∷ m) (x ∷ xs) ms p q e = absurd (not_first b m q (cc e))
first_line (a ∷ l) [] ls [] p q e = cc e
first_line (a ∷ l) [] ls (y ∷ ys) p q e = absurd (not_first a l p (cc e))
first_line (a ∷ l) (b ∷ m) ls ms p q e =
    let head : a ≡ b = cc e in
    let rest = first_line l m ls ms (plain_tail a l p) (plain_tail b m q) (cc e) in
    (cc (head, rest.0), rest.1)

-- lines behind newlines are cut in one way
same_behind : (ls ms : Lines) → ArePlain ls → ArePlain ms → behind ls ≡ behind ms → ls ≡ ms
same_behind [] [] p q e = refl
same_behind [] (m ∷ ms) p q e = cc e
same_behind (l ∷ ls) [] p q e = cc e
same_behind (l ∷ ls) (m ∷ ms) p q e =
    let parts = first_line l m ls ms (All-head IsPlain l ls p) (All-head IsPlain m ms q) (cc e) in
    let rest = same_behind ls ms (All-tail IsPlain l ls p) (All-tail IsPlain m ms q) parts.1 in
    cc (parts.0, rest)

-- a content has one list of lines
pub one_list : (one other : Lines) → AreFileLines one → AreFileLines other → content one ≡ content other → one ≡ other
one_list [] other some others e = absurd (some.0 refl)
one_list (l ∷ ls) [] some others e = absurd (others.0 refl)
one_list (l ∷ ls) (m ∷ ms) some others e =
    let parts = first_line l m ls ms (All-head IsPlain l ls some.1) (All-head IsPlain m ms others.1) e in
    let rest = same_behind ls ms (All-tail IsPlain l ls some.1) (All-tail IsPlain m ms others.1) parts.1 in
    cc (parts.0, rest)

cons_plain : (b : ℕ) (l : List ℕ) → (b == 10) ≡ false → IsPlain l → IsPlain (b ∷ l)
cons_plain b l is plain = ap (λ (v : Bool). v || list_any (λ y. y == 10) l) is ∙ plain

-- one byte more at the front of a content
more_lines : (b : ℕ) (bytes : List ℕ) (test : Bool) → (b == 10) ≡ test → ((ls : Lines) × AreFileLines ls × (content ls ≡ bytes)) → (ls : Lines) × AreFileLines ls × (content ls ≡ b ∷ bytes)
more_lines b bytes test is ([], some, e) = absurd (some.0 refl)
more_lines b bytes true is (l ∷ ls, some, e) =
    let newline : b ≡ 10 = eqb-true b 10 is in
    ([] ∷ l ∷ ls, ((λ h. cc h), All-cons IsPlain [] (l ∷ ls) refl some.1), cc (newline, e))
more_lines b bytes false is (l ∷ ls, some, e) = (
  (b ∷ l) ∷ ls,
  ((λ h. cc h), All-cons IsPlain (b ∷ l) ls (cons_plain b l is (All-head IsPlain l ls some.1)) (All-tail IsPlain l ls some.1)),
  ap (λ (v : List ℕ). b ∷ v) e,
)

-- each run of bytes has lines
pub have_lines : (bytes : List ℕ) → (ls : Lines) × AreFileLines ls × (content ls ≡ bytes)
have_lines [] = ([] ∷ [], ((λ h. cc h), All-cons IsPlain [] [] refl (All-nil IsPlain)), refl)
have_lines (b ∷ bytes) = more_lines b bytes (b == 10) refl (have_lines bytes)

-- the content of the first lines, and of one more
pub content_more : (ls : Lines) (i : ℕ) (d : List ℕ) → 1 ≤ i → i < length ls → content (take (i + 1) ls) ≡ content (take i ls) ++ 10 ∷ get_or ls i d
content_more ls i d some within =
    ap content (take_more ls i d within)
    ∙ content_push (take i ls) (get_or ls i d) (λ none. absurd (omega (arith, length-take i ls, ap length none)))

-- how long lines behind newlines are
behind_length : (ls : Lines) → length (behind ls) ≡ sum_by length ls + length ls
behind_length [] = refl
behind_length (l ∷ ls) =
    let rest = behind_length ls in
    let sum = sum_by-cons length l ls in
    omega (arith, rest, sum, length-append l (behind ls))

-- how long a content is
pub content_length : (ls : Lines) → length (content ls) ≡ sum_by length ls + (length ls - 1)
content_length [] = refl
content_length (l ∷ ls) =
    let rest = behind_length ls in
    let sum = sum_by-cons length l ls in
    omega (arith, rest, sum, length-append l (behind ls))

not_true : (b : Bool) → (b ≡ true → ⊥) → b ≡ false
not_true true no-case = absurd (no-case refl)
not_true false no-case = refl

-- what stands before the first newline is plain
plain_front : (xs : List ℕ) (k : ℕ) → ((j : ℕ) → j < k → (slice_index xs j == 10) ≡ true → ⊥) → IsPlain (take k xs)
plain_front [] zero f = refl
plain_front [] (suc k) f = refl
plain_front (x ∷ xs) zero f = refl
plain_front (x ∷ xs) (suc k) f = cons_plain x (take k xs) (not_true (x == 10) (f 0 (omega arith))) (plain_front xs k (λ j lt. f (suc j) (omega arith)))

pub plain_before : (xs : List ℕ) (k : ℕ) → IsFirstByte (is_byte 10) xs (Some k) → IsPlain (take k xs)
plain_before xs k first = plain_front xs k (λ j lt. first.0.before j (omega arith) lt)

-- without a newline all is plain
pub plain_whole : (xs : List ℕ) → IsFirstByte (is_byte 10) xs None → IsPlain xs
plain_whole xs never = rw (take_all (length xs) xs (omega arith)) at (plain_front xs (length xs) (λ j lt. never j (omega arith) lt))

-- a line more is cut
pub cut_more : (bytes : List ℕ) (ls more : Lines) (rest : List ℕ) (k : ℕ) → ended ls ++ rest ≡ bytes → IsFirstByte (is_byte 10) rest (Some k) → more ≡ ls ++ take k rest ∷ [] → ended more ++ take (length rest - (k + 1)) (drop (k + 1) rest) ≡ bytes
cut_more bytes ls more rest k whole first e =
    let at : drop k rest ≡ get_or rest k 0 ∷ drop (k + 1) rest = drop_more rest k 0 first.0.high in
    let newline : get_or rest k 0 ≡ 10 = eqb-true (get_or rest k 0) 10 first.1 in
    let tail = take_rest rest (k + 1) in
    let line : List ℕ = take k rest in
    let pushed : ended (ls ++ line ∷ []) ≡ ended ls ++ (line ++ 10 ∷ []) = flat_map-append (λ (l : List ℕ). l ++ 10 ∷ []) ls (line ∷ []) ∙ ap (λ (v : List ℕ). ended ls ++ v) (append-nil (line ++ 10 ∷ [])) in
    let split : (line ++ 10 ∷ []) ++ drop (k + 1) rest ≡ rest =
    append_assoc line (10 ∷ []) (drop (k + 1) rest)
    ∙ ap (λ (v : ℕ). line ++ v ∷ drop (k + 1) rest) (sym newline)
    ∙ ap (λ (v : List ℕ). line ++ v) (sym at)
    ∙ take-append-drop k rest in
    ap (λ (v : List ℕ). ended more ++ v) tail
    ∙ ap (λ (v : Lines). ended v ++ drop (k + 1) rest) e
    ∙ ap (λ (v : List ℕ). v ++ drop (k + 1) rest) pushed
    ∙ append_assoc (ended ls) (line ++ 10 ∷ []) (drop (k + 1) rest)
    ∙ ap (λ (v : List ℕ). ended ls ++ v) split
    ∙ whole

pub plain_more : (ls more : Lines) (l : List ℕ) → ArePlain ls → IsPlain l → more ≡ ls ++ l ∷ [] → ArePlain more
plain_more ls more l are is e = rw e (All-push IsPlain ls l are is)
