-- Lists that are laid side by side, when one more is laid down.
use Rattle.std.proofs.Common.{◌≡◌, ℕ, zero, suc, ◌+◌, ◌<◌, ◌≤◌, List, [], ◌∷◌, ◌++◌, length, map, take, get_or, refl, sym, ap, ◌∙◌, subst, arith, append-nil, append_assoc, length-append}
use Rattle.std.specs.List.{All, AllByRecursion}
use Rattle.std.proofs.lemmas.List.{map-append}
use Rattle.dm_mirror.specs.Lists.{EachWith, EachFrom, AreHeads}

-- of each, by places or one after the other
pub one_by_one : {A : Type 0} (P : A → Type 0) (xs : List A) → All P xs → AllByRecursion P xs
one_by_one P [] all = tt
one_by_one P (x ∷ xs) all = (all zero x (omega arith), one_by_one P xs (λ k d l. all (suc k) d (omega arith)))

pub none_left : {A : Type 0} (xs : List A) → length xs ≡ 0 → xs ≡ []
none_left [] e = refl
none_left (x ∷ xs) e = absurd (omega arith)

-- whatever completes those that are left completes all
abbrev pub Leads : {A B : Type 0} → (A → B → Type 0) → List A → List A → List B → Type 0
Leads {B = B} P all left made = (rest : List B) → EachWith P left rest → EachWith P all (made ++ rest)

pub leads_none : {A B : Type 0} (P : A → B → Type 0) (all : List A) (made : List B) → made ≡ [] → Leads P all all made
leads_none P all made e = λ rest each. rw e each

pub leads_more : {A B : Type 0} (P : A → B → Type 0) (all left new : List A) (x : A) (made more : List B) (y : B) → left ≡ x ∷ new → more ≡ made ++ y ∷ [] → P x y → Leads P all left made → Leads P all new more
leads_more P all left new x made more y e f p so_far = λ rest each.
    let whole = so_far (y ∷ rest) (rw e (p, each)) in
    rw f (subst (EachWith P all) (sym (append_assoc made (y ∷ []) rest)) whole)

pub leads_end : {A B : Type 0} (P : A → B → Type 0) (all left : List A) (made : List B) → left ≡ [] → Leads P all left made → EachWith P all made
leads_end P all left made e so_far = subst (EachWith P all) (append-nil made) (so_far [] (rw e tt))

-- the same with numbers from 0 on
abbrev pub LeadsFrom : {A B : Type 0} → (ℕ → A → B → Type 0) → List A → List A → List B → Type 0
LeadsFrom {B = B} P all left made = (rest : List B) → EachFrom P (length made) left rest → EachFrom P 0 all (made ++ rest)

pub leads_from_none : {A B : Type 0} (P : ℕ → A → B → Type 0) (all : List A) (made : List B) → made ≡ [] → LeadsFrom P all all made
leads_from_none P all made e = λ rest. rw e (λ each. each)

pub leads_from_more : {A B : Type 0} (P : ℕ → A → B → Type 0) (all left new : List A) (x : A) (made more : List B) (y : B) → left ≡ x ∷ new → more ≡ made ++ y ∷ [] → P (length made) x y →
    LeadsFrom P all left made → LeadsFrom P all new more
leads_from_more P all left new x made more y e f p so_far = λ rest each.
    let n : length more ≡ suc (length made) = omega (arith, ap length f, length-append made (y ∷ [])) in
    let whole = so_far (y ∷ rest) (rw e (p, rw n at each)) in
    rw f (subst (EachFrom P 0 all) (sym (append_assoc made (y ∷ []) rest)) whole)

pub leads_from_end : {A B : Type 0} (P : ℕ → A → B → Type 0) (all left : List A) (made : List B) → left ≡ [] → LeadsFrom P all left made → EachFrom P 0 all made
leads_from_end P all left made e so_far = subst (EachFrom P 0 all) (append-nil made) (so_far [] (rw e tt))

-- as many of the one as of the other
pub each_length : {A B : Type 0} (P : A → B → Type 0) (xs : List A) (ys : List B) → EachWith P xs ys → length ys ≡ length xs
each_length P [] [] each = refl
each_length P [] (y ∷ ys) each = absurd each
each_length P (x ∷ xs) [] each = absurd each
each_length P (x ∷ xs) (y ∷ ys) each = ap suc (each_length P xs ys each.1)

pub each_from_length : {A B : Type 0} (P : ℕ → A → B → Type 0) (n : ℕ) (xs : List A) (ys : List B) → EachFrom P n xs ys → length ys ≡ length xs
each_from_length P n [] [] each = refl
each_from_length P n [] (y ∷ ys) each = absurd each
each_from_length P n (x ∷ xs) [] each = absurd each
each_from_length P n (x ∷ xs) (y ∷ ys) each = ap suc (each_from_length P (suc n) xs ys each.1)

-- each with itself
pub each_self : {A : Type 0} (P : A → A → Type 0) (xs : List A) → ((x : A) → P x x) → EachWith P xs xs
each_self P [] same = tt
each_self P (x ∷ xs) same = (same x, each_self P xs same)

-- what two lists have to do with a third they have to do with each other
pub each_join : {A B C : Type 0} (P : A → B → Type 0) (Q : B → C → Type 0) (R : A → C → Type 0) (xs : List A) (ys : List B) (zs : List C) → ((x : A) (y : B) (z : C) → P x y → Q y z → R x z) →
    EachWith P xs ys → EachWith Q ys zs → EachWith R xs zs
each_join P Q R [] [] [] join a b = tt
each_join P Q R [] [] (z ∷ zs) join a b = absurd b
each_join P Q R [] (y ∷ ys) zs join a b = absurd a
each_join P Q R (x ∷ xs) [] zs join a b = absurd a
each_join P Q R (x ∷ xs) (y ∷ ys) [] join a b = absurd b
each_join P Q R (x ∷ xs) (y ∷ ys) (z ∷ zs) join a b = (join x y z a.0 b.0, each_join P Q R xs ys zs join a.1 b.1)

-- whatever is left of the columns leads to all
abbrev pub HeadsLead : {A : Type 0} → List (List A) → List (List A) → List A → List (List A) → Type 0
HeadsLead {A = A} all left heads rests = (hs : List A) (rs : List (List A)) → AreHeads left hs rs → AreHeads all (heads ++ hs) (rests ++ rs)

pub heads_more : {R A : Type 0} (f : R → List A) (all : List (List A)) (left new : List R) (row row2 : R) (h : A) (heads more : List A) (rests further : List R) → left ≡ row ∷ new → f row ≡ h ∷ f row2 →
    more ≡ heads ++ h ∷ [] → further ≡ rests ++ row2 ∷ [] → HeadsLead all (map f left) heads (map f rests) → HeadsLead all (map f new) more (map f further)
heads_more f all left new row row2 h heads more rests further e first is goes so_far = λ hs rs are.
    let whole = so_far (h ∷ hs) (f row2 ∷ rs) (rw e (first, are)) in
    let made : map f further ≡ map f rests ++ f row2 ∷ [] = ap (map f) goes ∙ map-append f rests (row2 ∷ []) in
    rw (is, made) (subst (λ l. AreHeads all l ((map f rests ++ f row2 ∷ []) ++ rs)) (sym (append_assoc heads (h ∷ []) hs))
    (subst (AreHeads all (heads ++ h ∷ hs)) (sym (append_assoc (map f rests) (f row2 ∷ []) rs)) whole))

pub heads_end : {R A : Type 0} (f : R → List A) (all : List (List A)) (left : List R) (heads : List A) (rests : List R) → left ≡ [] → HeadsLead all (map f left) heads (map f rests) → AreHeads all heads (map f rests)
heads_end f all left heads rests e so_far =
    let whole = so_far [] [] (rw e tt) in
    subst (λ l. AreHeads all l (map f rests)) (append-nil heads) (subst (AreHeads all (heads ++ [])) (append-nil (map f rests)) whole)

-- what is made fits where what is left fitted beside it
pub room_more : {A B : Type 0} (left new : List A) (x : A) (made more : List B) (y : B) (room after : ℕ) → left ≡ x ∷ new → more ≡ made ++ y ∷ [] → after ≡ room →
    length made + length left ≤ room → length more + length new ≤ after
room_more left new x made more y room after e f same fits = omega (arith, ap length e, ap length f, length-append made (y ∷ []))

-- one more of each
pub each_more : {A B : Type 0} (P : A → B → Type 0) (xs : List A) (ys : List B) (x : A) (y : B) → EachWith P xs ys → P x y → EachWith P (xs ++ x ∷ []) (ys ++ y ∷ [])
each_more P [] [] x y each p = (p, tt)
each_more P [] (w ∷ ys) x y each p = absurd each
each_more P (v ∷ xs) [] x y each p = absurd each
each_more P (v ∷ xs) (w ∷ ys) x y each p = (each.0, each_more P xs ys x y each.1 p)

-- what was told of threads by their jobs
pub each_unmap : {A B C : Type 0} (P : C → B → Type 0) (f : A → C) (xs : List A) (ys : List B) → EachWith (λ x y. P (f x) y) xs ys → EachWith P (map f xs) ys
each_unmap P f [] [] each = tt
each_unmap P f [] (y ∷ ys) each = absurd each
each_unmap P f (x ∷ xs) [] each = absurd each
each_unmap P f (x ∷ xs) (y ∷ ys) each = (each.0, each_unmap P f xs ys each.1)

-- a list that is handed on one by one, as something that names each
pub map_step : {A B : Type 0} (f : A → B) (made more : List A) (y : A) (left new all : List B) (x : B) → left ≡ x ∷ new → more ≡ made ++ y ∷ [] → f y ≡ x → map f made ++ left ≡ all → map f more ++ new ≡ all
map_step f made more y left new all x e g is so_far =
    let one : map f more ≡ map f made ++ x ∷ [] = ap (map f) g ∙ (map-append f made (y ∷ []) ∙ ap (λ k. map f made ++ k ∷ []) is) in
    rw one (append_assoc (map f made) (x ∷ []) new ∙ (ap (λ l. map f made ++ l) (sym e) ∙ so_far))

pub map_end : {A B : Type 0} (f : A → B) (made : List A) (left all : List B) → left ≡ [] → map f made ++ left ≡ all → map f made ≡ all
map_end f made left all e so_far = sym (append-nil (map f made)) ∙ (ap (λ l. map f made ++ l) (sym e) ∙ so_far)

pub count_more : {A B : Type 0} (left new : List A) (x : A) (made more : List B) (y : B) (count : ℕ) → left ≡ x ∷ new → more ≡ made ++ y ∷ [] → length made + length left ≡ count → length more + length new ≡ count
count_more left new x made more y count e f so_far = omega (arith, ap length e, ap length f, length-append made (y ∷ []))

-- what threads promised of their jobs
pub each_jobs : {A B C : Type 0} (P : C → B → Type 0) (f : A → C) (xs : List A) (ys : List B) (zs : List C) → map f xs ≡ zs → EachWith (λ x y. P (f x) y) xs ys → EachWith P zs ys
each_jobs P f xs ys zs e each = subst (λ l. EachWith P l ys) e (each_unmap P f xs ys each)

-- one row more, when the rows stand as lists
pub rows_more : {A R B : Type 0} (P : A → List B → Type 0) (f : R → List B) (xs more : List A) (x : A) (rows further : List R) (row : R) → more ≡ xs ++ x ∷ [] → further ≡ rows ++ row ∷ [] → P x (f row) →
    EachWith P xs (map f rows) → EachWith P more (map f further)
rows_more P f xs more x rows further row e g p each =
    let one : map f further ≡ map f rows ++ f row ∷ [] = ap (map f) g ∙ map-append f rows (row ∷ []) in
    rw (e, one) (each_more P xs (map f rows) x (f row) each p)

pub no_rows : {A R B : Type 0} (P : A → List B → Type 0) (f : R → List B) (xs : List A) (rows : List R) → xs ≡ [] → rows ≡ [] → EachWith P xs (map f rows)
no_rows P f xs rows e g = rw (e, g) tt

pub fewer : {A B : Type 0} (xs more : List A) (ys less : List B) (x : A) (y : B) → xs ≡ x ∷ more → ys ≡ y ∷ less → length xs ≡ length ys → length more ≡ length less
fewer xs more ys less x y e g same = omega (arith, ap length e, ap length g, same)

pub one_more : {A : Type 0} (xs more : List A) (x : A) → more ≡ xs ++ x ∷ [] → length more ≡ suc (length xs)
one_more xs more x e = omega (arith, ap length e, length-append xs (x ∷ []))

pub one_less : {A : Type 0} (xs less : List A) (x : A) → xs ≡ x ∷ less → length xs ≡ suc (length less)
one_less xs less x e = ap length e

take_next : {A : Type 0} (xs : List A) (n : ℕ) (d : A) → n < length xs → take (suc n) xs ≡ take n xs ++ get_or xs n d ∷ []
take_next [] n d l = absurd (omega arith)
take_next (x ∷ xs) zero d l = refl
take_next (x ∷ xs) (suc n) d l = ap (λ l. x ∷ l) (take_next xs n d (omega arith))

-- what was made so far has the first of these, one by one
pub firsts_more : {A B : Type 0} (f : A → B) (made more : List A) (y : A) (all : List B) (n : ℕ) (d : B) → more ≡ made ++ y ∷ [] → n ≡ length made → f y ≡ get_or all n d → n < length all →
    map f made ≡ take (length made) all → map f more ≡ take (length more) all
firsts_more f made more y all n d e same is l so_far =
    let count : length more ≡ suc (length made) = omega (arith, ap length e, length-append made (y ∷ [])) in
    let one : map f more ≡ map f made ++ f y ∷ [] = ap (map f) e ∙ map-append f made (y ∷ []) in
    let next : take (suc (length made)) all ≡ take (length made) all ++ f y ∷ [] =
    take_next all (length made) d (omega (arith, same)) ∙ ap (λ b. take (length made) all ++ b ∷ []) (ap (λ k. get_or all k d) (sym same) ∙ sym is) in
    one ∙ (ap (λ l. l ++ f y ∷ []) so_far ∙ (sym next ∙ ap (λ k. take k all) (sym count)))

take_whole : {A : Type 0} (xs : List A) → take (length xs) xs ≡ xs
take_whole [] = refl
take_whole (x ∷ xs) = ap (λ l. x ∷ l) (take_whole xs)

pub firsts_end : {A B C : Type 0} (f : A → B) (made : List A) (left : List C) (all : List B) → left ≡ [] → length made + length left ≡ length all → map f made ≡ take (length made) all → map f made ≡ all
firsts_end f made left all e many so_far =
    let count : length made ≡ length all = omega (arith, many, ap length e) in
    so_far ∙ (ap (λ k. take k all) count ∙ take_whole all)
