-- As many mails as all posters sent, a prefix of what each sent, are all that each sent.
use Rattle.std.proofs.Common.{◌≡◌, ◌≢◌, ◌<◌, ◌≤◌, ℕ, zero, suc, Bool, true, false, true≢false, ◌||◌, cond, eqb, List, ◌∷◌, ◌++◌, [], length, refl, sym, ap, ◌∙◌, subst, ⊎_elim, arith, append-nil, length-append, eq-eqb, ne_eqb}
use Rattle.std.proofs.lemmas.Bool.{cases_eq}
use mathlib.Core.List.{IsPrefix}
use Rattle.dm_mail.specs.declared.mail.Mail.{Mail}
use Rattle.dm_mail.specs.Mails.{mails_of, is_mark, is_closed, IsMarkLast, AllBelow}
use Rattle.dm_mail.specs.Laws.{total, TakesPrefixes}

total_le : (n : ℕ) (f g : ℕ → ℕ) → ((p : ℕ) → p < n → f p ≤ g p) → total n f ≤ total n g
total_le zero f g le = omega arith
total_le (suc n) f g le = let a = total_le n f g (λ p l. le p (omega arith)) in let b = le n (omega arith) in omega arith

-- where no part is more and the sum is no less, no part is less
total_each : (n : ℕ) (f g : ℕ → ℕ) → ((p : ℕ) → p < n → f p ≤ g p) → total n g ≤ total n f → (p : ℕ) → p < n → g p ≤ f p
total_each zero f g le sum p l = absurd (omega arith)
total_each (suc n) f g le sum p l =
    let a = total_le n f g (λ q k. le q (omega arith)) in
    let b = le n (omega arith) in
    ⊎_elim (λ (e : p ≡ n). subst (λ k. g k ≤ f k) (sym e) (omega arith))
    (λ (e : p ≢ n). total_each n f g (λ q k. le q (omega arith)) (omega arith) p (omega arith))
    (cases_eq p n)

-- the mails of a poster, when one more stands at the front
front_at : (b : Bool) (m : Mail) (l : List Mail) → length (cond b (m ∷ l) l) ≡ cond b (suc (length l)) (length l)
front_at true m l = refl
front_at false m l = refl

total_same : (n k : ℕ) (f : ℕ → ℕ) → n ≤ k → total n (λ p. cond (eqb k p) (suc (f p)) (f p)) ≡ total n f
total_same zero k f l = refl
total_same (suc n) k f l =
    let a = total_same n k f (omega arith) in
    let apart : k ≢ n = omega arith in
    let b = ap (λ t. cond t (suc (f n)) (f n)) (ne_eqb k n apart) in omega arith

total_more : (n k : ℕ) (f : ℕ → ℕ) → k < n → total n (λ p. cond (eqb k p) (suc (f p)) (f p)) ≡ suc (total n f)
total_more zero k f l = absurd (omega arith)
total_more (suc n) k f l = ⊎_elim
    (λ (e : k ≡ n). let a = total_same n k f (omega arith) in let b = ap (λ t. cond t (suc (f n)) (f n)) (eq-eqb k n e) in omega arith)
    (λ (e : k ≢ n). let a = total_more n k f (omega arith) in let b = ap (λ t. cond t (suc (f n)) (f n)) (ne_eqb k n e) in omega arith)
    (cases_eq k n)

total_is : (n : ℕ) (f g : ℕ → ℕ) → ((p : ℕ) → f p ≡ g p) → total n f ≡ total n g
total_is zero f g is = refl
total_is (suc n) f g is = let a = total_is n f g is in let b = is n in omega arith

zeros : (n : ℕ) → 0 ≡ total n (λ p. 0)
zeros zero = refl
zeros (suc n) = let a = zeros n in omega arith

-- mails are those of each poster
split_total : (n : ℕ) (ms : List Mail) → AllBelow n ms → length ms ≡ total n (λ p. length (mails_of p ms))
split_total n [] below = zeros n
split_total n (m ∷ ms) below =
    let a = split_total n ms below.1 in
    let b = total_more n m.poster (λ p. length (mails_of p ms)) below.0 in
    let c = total_is n (λ p. length (mails_of p (m ∷ ms))) (λ p. cond (eqb m.poster p) (suc (length (mails_of p ms))) (length (mails_of p ms))) (λ p. front_at (eqb m.poster p) m (mails_of p ms)) in
    omega arith

prefix_length : {A : Type 0} (xs ys : List A) → IsPrefix xs ys → length xs ≤ length ys
prefix_length xs ys p = omega (arith, sym (ap length p.1) ∙ length-append xs p.0)

prefix_whole : {A : Type 0} (xs ys : List A) → IsPrefix xs ys → length ys ≤ length xs → xs ≡ ys
prefix_whole [] [] p le = refl
prefix_whole [] (y ∷ ys) p le = absurd (omega arith)
prefix_whole (x ∷ xs) [] p le = absurd (cc (p.1))
prefix_whole (x ∷ xs) (y ∷ ys) p le =
    let rest = prefix_whole xs ys (p.0, cc (p.1)) (omega arith) in cc (p.1, rest)

pub all_taken : (n : ℕ) (ms : List Mail) (sent : ℕ → List Mail) → AllBelow n ms → TakesPrefixes n ms sent →
    length ms ≡ total n (λ p. length (sent p)) → (p : ℕ) → p < n → mails_of p ms ≡ sent p
all_taken n ms sent below each count p l =
    let split = split_total n ms below in
    let short = total_each n (λ q. length (mails_of q ms)) (λ q. length (sent q)) (λ q k. prefix_length (mails_of q ms) (sent q) (each q k)) (omega arith) p l in
    prefix_whole (mails_of p ms) (sent p) (each p l) short

pub nothing_after : (xs ys : List Mail) → xs ++ ys ≡ [] → ys ≡ []
nothing_after [] ys e = e
nothing_after (x ∷ xs) ys e = absurd (cc e)

last_at : (b : Bool) (m : Mail) (xs ys : List Mail) → is_mark m.body ≡ b → (b || is_closed xs) ≡ true → (is_mark m.body ≡ true → xs ++ ys ≡ []) → (is_closed xs ≡ true → ys ≡ []) → ys ≡ []
last_at true m xs ys is closed here rest = nothing_after xs ys (here is)
last_at false m xs ys is closed here rest = rest closed

pub after_mark : (xs ys : List Mail) → IsMarkLast (xs ++ ys) → is_closed xs ≡ true → ys ≡ []
after_mark [] ys last closed = absurd (true≢false (sym closed))
after_mark (m ∷ xs) ys last closed = last_at (is_mark m.body) m xs ys refl closed last.0 (after_mark xs ys last.1)

pub closed_is_all : (taken sent : List Mail) → IsMarkLast sent → IsPrefix taken sent → is_closed taken ≡ true → taken ≡ sent
closed_is_all taken sent last p closed =
    let none = after_mark taken p.0 (subst IsMarkLast (sym p.1) last) closed in
    sym (append-nil taken) ∙ (ap (λ l. taken ++ l) (sym none) ∙ p.1)
