-- Mails that a mirror took, of posters that have ended.
use Rattle.std.proofs.Common.{◌≡◌, ◌≢◌, ℕ, zero, suc, ◌+◌, ◌<◌, ◌≤◌, Bool, true, List, [], ◌∷◌, ◌++◌, Option, Some, slice_get, map, take, drop, length, refl, sym, ap, ◌∙◌, subst, ⊎_elim, arith, length-drop, length-append}
use Rattle.std.proofs.lemmas.Bool.{cases_eq}
use Rattle.dm_scratch.specs.declared.verdict.Verdict.{Verdict}
use mathlib.Core.List.{IsPrefix}
use Rattle.dm_mail.specs.declared.mail.Mail.{Mail}
use Rattle.dm_mail.specs.declared.ends.Sent.{Sent}
use Rattle.dm_mail.specs.Mails.{bundle, mark, mails_of, is_closed, count_bundles, numbered_mails, AllBelow}
use Rattle.dm_mail.specs.Ends.{MailId, outlet_of, sent_id, sent_poster, sent_mails}
use Rattle.dm_mail.specs.Laws.{total, AllTakenIsAllSent}
use Rattle.dm_mirror.specs.TheMirror.{Mirror}
use Rattle.dm_mirror.specs.Deliveries.{all_mails, mails_in}
use Rattle.dm_mirror.specs.Jobs.{IsSentIn}
use Rattle.dm_mirror.specs.Lists.{EachFrom}
use Rattle.dm_mirror.specs.Mirrors.{AreComplete}
use Rattle.dm_mirror.specs.PlainFolds.{AreAnswered}
use Rattle.dm_mirror.specs.Runs.{SendsTexts, mirror_mails}
use Rattle.dm_mirror.proofs.ListLemmas.{each_from_length}
use Rattle.dm_mirror.proofs.PostingLemmas.{length-all_mails}

pub below_more : (n : ℕ) (ms : List Mail) (m : Mail) → AllBelow n ms → m.poster < n → AllBelow n (ms ++ m ∷ [])
below_more n [] m h l = (l, tt)
below_more n (x ∷ ms) m h l = (h.0, below_more n ms m h.1 l)

-- what was taken, when a mail is taken
pub taken_more : (before after ms new : List Mail) (m : Mail) → new ≡ ms ++ m ∷ [] → before ≡ ms → after ≡ before ++ m ∷ [] → after ≡ new
taken_more before after ms new m e was is = is ∙ (ap (λ l. l ++ m ∷ []) was ∙ sym e)

count_numbered : (p n : ℕ) (texts : List (List ℕ)) → count_bundles (numbered_mails p n (map bundle texts ++ mark ∷ [])) ≡ length texts
count_numbered p n [] = refl
count_numbered p n (t ∷ ts) = ap suc (count_numbered p (suc n) ts)

pub closed_numbered : (p n : ℕ) (texts : List (List ℕ)) → is_closed (numbered_mails p n (map bundle texts ++ mark ∷ [])) ≡ true
closed_numbered p n [] = refl
closed_numbered p n (t ∷ ts) = closed_numbered p (suc n) ts

-- what a poster says that has sent all
receipt_all : (p : ℕ) (mails : List Mail) (texts : List (List ℕ)) → mails ≡ all_mails p texts → ◌≡◌ {A = ℕ × Bool} (count_bundles mails, is_closed mails) (length texts, true)
receipt_all p mails texts e = let a = ap count_bundles e ∙ count_numbered p 0 texts in let b = ap is_closed e ∙ closed_numbered p 0 texts in λ i. (a i, b i)

pub answered_length : (ms : List Mail) (vs : List (Option Verdict)) → AreAnswered ms vs → length vs ≡ length ms
answered_length [] [] all = refl
answered_length [] (v ∷ vs) all = absurd all
answered_length (m ∷ ms) [] all = absurd all
answered_length (m ∷ ms) (v ∷ vs) all = ap suc (answered_length ms vs all.1)

pub some_inj : {A : Type 0} (a x : A) → Some a ≡ Some x → a ≡ x
some_inj a x e = cc

-- an item's place is below the list's length, and each such place has one
pub place_of : {A : Type 0} (xs : List A) (p : ℕ) (x : A) → slice_get xs p ≡ Some x → p < length xs
place_of [] p x e = absurd (cc e)
place_of (y ∷ xs) zero x e = omega arith
place_of (y ∷ xs) (suc p) x e = let l = place_of xs p x e in omega arith

pub item_at : {A : Type 0} (xs : List A) (p : ℕ) → p < length xs → (x : A) × slice_get xs p ≡ Some x
item_at [] p l = absurd (omega arith)
item_at (x ∷ xs) zero l = (x, refl)
item_at (x ∷ xs) (suc p) l = item_at xs p (omega arith)

-- what posters of these texts send, who have the numbers from k on
abbrev sent_from : ℕ → List (List (List ℕ)) → ℕ → List Mail
sent_from k [] p = []
sent_from k (t ∷ ts) zero = all_mails k t
sent_from k (t ∷ ts) (suc p) = sent_from (suc k) ts p

sent_at : (k : ℕ) (ts : List (List (List ℕ))) (p : ℕ) (t : List (List ℕ)) → slice_get ts p ≡ Some t → sent_from k ts p ≡ all_mails (k + p) t
sent_at k [] p t e = absurd (cc e)
sent_at k (x ∷ ts) zero t e =
    let n : k ≡ k + 0 = omega arith in
    ap (all_mails k) (some_inj x t e) ∙ ap (λ m. all_mails m t) n
sent_at k (x ∷ ts) (suc p) t e =
    let n : suc k + p ≡ k + suc p = omega arith in
    sent_at (suc k) ts p t e ∙ ap (λ m. all_mails m t) n

sent_of : (ts : List (List (List ℕ))) (p : ℕ) (t : List (List ℕ)) → slice_get ts p ≡ Some t → sent_from 0 ts p ≡ all_mails p t
sent_of ts p t e =
    let z : 0 + p ≡ p = omega arith in
    sent_at 0 ts p t e ∙ ap (λ m. all_mails m t) z

-- the sum, its first part apart
total_front : (n : ℕ) (f : ℕ → ℕ) → total (suc n) f ≡ f 0 + total n (λ p. f (suc p))
total_front zero f = omega arith
total_front (suc n) f = let a = total_front n f in omega arith

total_sent : (k : ℕ) (ts : List (List (List ℕ))) → total (length ts) (λ p. length (sent_from k ts p)) ≡ mails_in ts
total_sent k [] = refl
total_sent k (t ∷ ts) =
    let a : total (suc (length ts)) (λ p. length (sent_from k (t ∷ ts) p)) ≡ length (all_mails k t) + total (length ts) (λ p. length (sent_from (suc k) ts p)) = total_front (length ts) (λ p. length (sent_from k (t ∷ ts) p)) in
    a ∙ (ap (λ m. m + total (length ts) (λ p. length (sent_from (suc k) ts p))) (length-all_mails k t) ∙ ap (λ m. (length t + 1) + m) (total_sent (suc k) ts))

-- what was taken from each poster below n is a prefix of what it sends
abbrev pub TookFrom : List Mail → List (List (List ℕ)) → ℕ → Type 0
TookFrom ms texts n = (p : ℕ) (sent : List (List ℕ)) → p < n → SendsTexts texts p sent → IsPrefix (mails_of p ms) (all_mails p sent)

took_more : (ms : List Mail) (texts : List (List (List ℕ))) (n : ℕ) (t : List (List ℕ)) → SendsTexts texts n t → IsPrefix (mails_of n ms) (all_mails n t) → TookFrom ms texts n → TookFrom ms texts (suc n)
took_more ms texts n t at pre so_far = λ p sent l is.
    ⊎_elim
    (λ (e : p ≡ n).
    let same : t ≡ sent = some_inj t sent (sym at ∙ (ap (slice_get texts) (sym e) ∙ is)) in
    subst (λ k. IsPrefix (mails_of k ms) (all_mails k sent)) (sym e) (subst (λ x. IsPrefix (mails_of n ms) (all_mails n x)) same pre))
    (λ (e : p ≢ n). so_far p sent (omega arith) is)
    (cases_eq p n)

-- where as many mails were taken as all posters send, all of each were
pub took_all : AllTakenIsAllSent → (ms : List Mail) (texts : List (List (List ℕ))) → AllBelow (length texts) ms → length ms ≡ mails_in texts → TookFrom ms texts (length texts) →
    (p : ℕ) (sent : List (List ℕ)) → SendsTexts texts p sent → mails_of p ms ≡ all_mails p sent
took_all law ms texts below count took p sent at =
    law (length texts) ms (sent_from 0 texts) below each (count ∙ sym (total_sent 0 texts)) p (place_of texts p sent at) ∙ sent_of texts p sent at
  where
    each : (q : ℕ) → q < length texts → IsPrefix (mails_of q ms) (sent_from 0 texts q)
    each q l =
        let x = item_at texts q l in
        subst (IsPrefix (mails_of q ms)) (sym (sent_of texts q x.0 x.1)) (took q x.0 l x.1)

-- the receipt of a poster that sent all
abbrev pub receipt_for : List (List ℕ) → ℕ × Bool
receipt_for sent = (length sent, true)

-- as many posters as there are receipts were settled, and these ends are left
abbrev pub SettledTo : MailId → List Mail → List (List (List ℕ)) → List (ℕ × Bool) → List Sent → Type 0
SettledTo id ms texts receipts ends =
    EachFrom (IsSentIn id) (length receipts) (drop (length receipts) texts) ends
    × (length receipts ≤ length texts)
    × TookFrom ms texts (length receipts)
    × (receipts ≡ map receipt_for (take (length receipts) texts))

pub settled_none : (id : MailId) (ms : List Mail) (texts : List (List (List ℕ))) (receipts : List (ℕ × Bool)) (ends : List Sent) → receipts ≡ [] → EachFrom (IsSentIn id) 0 texts ends → SettledTo id ms texts receipts ends
settled_none id ms texts receipts ends e all = rw e (all, omega arith, (λ p sent l. absurd (omega arith)), refl)

next_of : {A B : Type 0} (P : ℕ → A → B → Type 0) (m n : ℕ) (xs : List A) (y : B) (ys : List B) → EachFrom P m (drop n xs) (y ∷ ys) → (x : A) × (slice_get xs n ≡ Some x) × P m x y × EachFrom P (suc m) (drop (suc n) xs) ys
next_of P m zero [] y ys each = absurd each
next_of P m (suc n) [] y ys each = absurd each
next_of P m zero (x ∷ xs) y ys each = (x, refl, each.0, each.1)
next_of P m (suc n) (x ∷ xs) y ys each = next_of P m n xs y ys each

map_take : {A B : Type 0} (f : A → B) (xs : List A) (n : ℕ) (x : A) → slice_get xs n ≡ Some x → map f (take (suc n) xs) ≡ map f (take n xs) ++ f x ∷ []
map_take f [] n x e = absurd (cc e)
map_take f (y ∷ xs) zero x e = ap (λ z. f z ∷ []) (some_inj y x e)
map_take f (y ∷ xs) (suc n) x e = ap (λ l. f y ∷ l) (map_take f xs n x e)

-- the next end is of this mail, and there is a poster of whom it is
pub next_end : (id : MailId) (ms : List Mail) (texts : List (List (List ℕ))) (receipts : List (ℕ × Bool)) (ends new : List Sent) (end : Sent) → ends ≡ end ∷ new → SettledTo id ms texts receipts ends →
    (sent_id end ≡ outlet_of id (sent_poster end)) × (length receipts < length texts)
next_end id ms texts receipts ends new end e so_far =
    let next = next_of (IsSentIn id) (length receipts) (length receipts) texts end new (rw e at so_far.0) in
    (next.2.0 ∙ ap (outlet_of id) (sym next.2.1), place_of texts (length receipts) next.0 next.1)

pub settled_more : (id : MailId) (ms : List Mail) (texts : List (List (List ℕ))) (receipts more : List (ℕ × Bool)) (ends new : List Sent) (end : Sent) → ends ≡ end ∷ new →
    more ≡ receipts ++ (count_bundles (sent_mails end), is_closed (sent_mails end)) ∷ [] → IsPrefix (mails_of (sent_poster end) ms) (sent_mails end) →
    SettledTo id ms texts receipts ends → SettledTo id ms texts more new
settled_more id ms texts receipts more ends new end e f pre so_far =
    let n = length receipts in
    let next = next_of (IsSentIn id) n n texts end new (rw e at so_far.0) in
    let sent = next.2 in
    let count : length more ≡ suc n = omega (arith, ap length f, length-append receipts ((count_bundles (sent_mails end), is_closed (sent_mails end)) ∷ [])) in
    let below = place_of texts n next.0 next.1 in
    let prefix = subst (λ k. IsPrefix (mails_of k ms) (all_mails n next.0)) sent.1 (subst (IsPrefix (mails_of (sent_poster end) ms)) sent.2 pre) in
    let says : more ≡ map receipt_for (take (suc n) texts) =
    f ∙ (ap (λ r. receipts ++ r ∷ []) (receipt_all n (sent_mails end) next.0 sent.2) ∙ (ap (λ l. l ++ receipt_for next.0 ∷ []) so_far.3 ∙ sym (map_take receipt_for texts n next.0 next.1))) in
    ((rw count next.3), omega arith, (rw count (took_more ms texts n next.0 next.1 prefix so_far.2)), says ∙ ap (λ k. map receipt_for (take k texts)) (sym count))

take_all : {A : Type 0} (xs : List A) → take (length xs) xs ≡ xs
take_all [] = refl
take_all (x ∷ xs) = ap (λ l. x ∷ l) (take_all xs)

-- no end is left: all posters were settled
pub settled_end : (id : MailId) (ms : List Mail) (texts : List (List (List ℕ))) (receipts : List (ℕ × Bool)) (ends : List Sent) → ends ≡ [] → SettledTo id ms texts receipts ends →
    TookFrom ms texts (length texts) × (receipts ≡ map receipt_for texts)
settled_end id ms texts receipts ends e so_far =
    let n = length receipts in
    let none = each_from_length (IsSentIn id) n (drop n texts) ends so_far.0 in
    let count : n ≡ length texts = omega (arith, none, ap length e, so_far.1, length-drop n texts) in
    (subst (TookFrom ms texts) count so_far.2, so_far.3 ∙ (ap (λ k. map receipt_for (take k texts)) count ∙ ap (map receipt_for) (take_all texts)))

-- a place among a mirror's mails is one among its verdicts
pub within_verdicts : (posters : ℕ) (mirrors : List Mirror) (m k : ℕ) (b : Mirror) → AreComplete posters mirrors → slice_get mirrors m ≡ Some b →
    k < length (mirror_mails (slice_get mirrors m)) → k < length b.verdicts.items
within_verdicts posters mirrors m k b all is l =
    let same : length (mirror_mails (slice_get mirrors m)) ≡ length b.mails.items = ap (λ x. length (mirror_mails x)) is in
    let full = (all m b is).verdicts in
    omega arith
