-- Lists of mails that grow by one, and the mails of bodies.
use Rattle.std.proofs.Common.{◌≡◌, ℕ, suc, ◌+◌, Bool, true, false, true≢false, ◌||◌, cond, eqb, List, [], ◌∷◌, ◌++◌, length, refl, sym, ap, ◌∙◌, arith, append-nil}
use Rattle.std.proofs.lemmas.Bool.{false≢true}
use Rattle.dm_mail.specs.declared.mail.Mail.{Mail}
use Rattle.dm_mail.specs.declared.mail.Body.{Body}
use Rattle.dm_mail.specs.Mails.{mail, next_mail, mails_of, is_mark, is_closed, count_bundles, count_marks, IsNumberedFrom, IsMarkLast, numbered_mails, poster_mails}

mails_of-append_at : (b : Bool) (m : Mail) (a c d : List Mail) → a ≡ c ++ d → cond b (m ∷ a) a ≡ cond b (m ∷ c) c ++ d
mails_of-append_at true m a c d e = ap (λ l. m ∷ l) e
mails_of-append_at false m a c d e = e

pub mails_of-append : (p : ℕ) (xs ys : List Mail) → mails_of p (xs ++ ys) ≡ mails_of p xs ++ mails_of p ys
mails_of-append p [] ys = refl
mails_of-append p (m ∷ ms) ys = mails_of-append_at (eqb m.poster p) m (mails_of p (ms ++ ys)) (mails_of p ms) (mails_of p ys) (mails_of-append p ms ys)

-- numbers go on
pub numbered_more : (n : ℕ) (ms : List Mail) (m : Mail) → IsNumberedFrom n ms → m.number ≡ n + length ms → IsNumberedFrom n (ms ++ m ∷ [])
numbered_more n [] m is e = (omega arith, tt)
numbered_more n (x ∷ ms) m is e = (is.0, numbered_more (suc n) ms m is.1 (omega arith))

mark_last_more_at : (b : Bool) (x : Mail) (ms : List Mail) (m : Mail) → is_mark x.body ≡ b → (b || is_closed ms) ≡ false →
    (is_closed ms ≡ false → IsMarkLast (ms ++ m ∷ [])) → IsMarkLast (x ∷ ms ++ m ∷ [])
mark_last_more_at true x ms m is e rest = absurd (false≢true (sym e))
mark_last_more_at false x ms m is e rest = ((λ t. absurd (false≢true (sym is ∙ t))), rest e)

-- where no mark was there, a mail may come
pub mark_last_more : (ms : List Mail) (m : Mail) → IsMarkLast ms → is_closed ms ≡ false → IsMarkLast (ms ++ m ∷ [])
mark_last_more [] m last e = ((λ _. refl), tt)
mark_last_more (x ∷ ms) m last e = mark_last_more_at (is_mark x.body) x ms m refl e (mark_last_more ms m last.1)

is_closed-append_at : (b c d e : Bool) → c ≡ d || e → (b || c) ≡ (b || d) || e
is_closed-append_at true c d e same = refl
is_closed-append_at false c d e same = same

or_false : (b : Bool) → (b || false) ≡ b
or_false true = refl
or_false false = refl

pub is_closed-append : (ms : List Mail) (m : Mail) → is_closed (ms ++ m ∷ []) ≡ is_closed ms || is_mark m.body
is_closed-append [] m = or_false (is_mark m.body)
is_closed-append (x ∷ ms) m = is_closed-append_at (is_mark x.body) (is_closed (ms ++ m ∷ [])) (is_closed ms) (is_mark m.body) (is_closed-append ms m)

all_bundles_at : (b r : Bool) (k n : ℕ) → (b || r) ≡ false → (r ≡ false → k ≡ n) → cond b k (suc k) ≡ suc n
all_bundles_at true r k n e rest = absurd (true≢false e)
all_bundles_at false r k n e rest = ap suc (rest e)

-- without a mark all mails are bundles
pub all_bundles : (ms : List Mail) → is_closed ms ≡ false → count_bundles ms ≡ length ms
all_bundles [] e = refl
all_bundles (m ∷ ms) e = all_bundles_at (is_mark m.body) (is_closed ms) (count_bundles ms) (length ms) e (all_bundles ms)

-- a mark is no bundle
pub count_bundles-mark : (ms : List Mail) (m : Mail) → is_mark m.body ≡ true → count_bundles (ms ++ m ∷ []) ≡ count_bundles ms
count_bundles-mark [] m e = ap (λ b. cond b 0 1) e
count_bundles-mark (x ∷ ms) m e = ap (λ k. cond (is_mark x.body) k (suc k)) (count_bundles-mark ms m e)

one_more_at : (b : Bool) (n : ℕ) → cond b (suc n) n ≡ n + cond b 1 0
one_more_at true n = omega arith
one_more_at false n = omega arith

-- a mark more is one more
pub count_marks-append : (ms : List Mail) (m : Mail) → count_marks (ms ++ m ∷ []) ≡ count_marks ms + cond (is_mark m.body) 1 0
count_marks-append [] m = one_more_at (is_mark m.body) 0
count_marks-append (x ∷ ms) m =
    let rest = count_marks-append ms m in
    one_more_at (is_mark x.body) (count_marks (ms ++ m ∷ [])) ∙ (ap (λ k. k + cond (is_mark x.body) 1 0) rest ∙ (let o = one_more_at (is_mark x.body) (count_marks ms) in omega arith))

pub length-numbered_mails : (p n : ℕ) (bs : List Body) → length (numbered_mails p n bs) ≡ length bs
length-numbered_mails p n [] = refl
length-numbered_mails p n (b ∷ bs) = ap suc (length-numbered_mails p (suc n) bs)

pub numbered_mails-append : (p n : ℕ) (xs ys : List Body) → numbered_mails p n (xs ++ ys) ≡ numbered_mails p n xs ++ numbered_mails p (n + length xs) ys
numbered_mails-append p n [] ys = let e : n ≡ n + 0 = omega arith in ap (λ k. numbered_mails p k ys) e
numbered_mails-append p n (x ∷ xs) ys =
    ap (λ l. mail p n x ∷ l) (numbered_mails-append p (suc n) xs ys ∙
    (let e : suc n + length xs ≡ n + suc (length xs) = omega arith in ap (λ k. numbered_mails p (suc n) xs ++ numbered_mails p k ys) e))

-- a body more is the next mail
pub next_body : (p : ℕ) (xs ys : List Body) (b : Body) → ys ≡ xs ++ b ∷ [] → poster_mails p ys ≡ poster_mails p xs ++ next_mail p (poster_mails p xs) b ∷ []
next_body p xs ys b e =
    let k : 0 + length xs ≡ length (poster_mails p xs) = let l = length-numbered_mails p 0 xs in omega arith in
    ap (poster_mails p) e ∙ (numbered_mails-append p 0 xs (b ∷ []) ∙ ap (λ n. poster_mails p xs ++ mail p n b ∷ []) k)

-- a list that grows by one mail, or stays
pub grown : (b : Bool) (m : Mail) (ms : List Mail) → ms ++ cond b (m ∷ []) [] ≡ cond b (ms ++ m ∷ []) ms
grown true m ms = refl
grown false m ms = append-nil ms
