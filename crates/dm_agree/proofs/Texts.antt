-- The texts of mails, poster by poster.
use Rattle.std.proofs.Common.{◌≡◌, ◌<◌, ℕ, zero, suc, Bool, true, false, cond, eqb, List, [], ◌∷◌, ◌++◌, map, Some, slice_get, inl, inr, refl, ap, eq-eqb}
use Rattle.std.specs.List.{Contains}
use Rattle.std.proofs.lemmas.List.Elements.{Contains-append_left, Contains-append_right, Contains-append_cases}
use Rattle.dm_repo.proofs.Members.{none_of}
use Rattle.dm_mail.specs.declared.mail.Mail.{Mail}
use Rattle.dm_mail.specs.Mails.{bundle, mark, mails_of, numbered_mails, AllBelow}
use Rattle.dm_mirror.specs.Deliveries.{all_mails}
use Rattle.dm_mirror.specs.PlainFolds.{body_texts, bundle_texts}
use Rattle.dm_agree.specs.Laws.{sent_texts}

-- a mail of one poster is one of all
of_at : (b : Bool) (m : Mail) (mine all : List Mail) (text : List ℕ) → (Contains (bundle_texts mine) text → Contains (bundle_texts all) text) →
    Contains (bundle_texts (cond b (m ∷ mine) mine)) text → Contains (bundle_texts (m ∷ all)) text
of_at true m mine all text f c = elim (Contains-append_cases (body_texts m.body) (bundle_texts mine) text c) [
  | inl k ↦ Contains-append_left (body_texts m.body) (bundle_texts all) text k
  | inr k ↦ Contains-append_right (body_texts m.body) (bundle_texts all) text (f k)
]
of_at false m mine all text f c = Contains-append_right (body_texts m.body) (bundle_texts all) text (f c)

pub of_poster : (p : ℕ) (mails : List Mail) (text : List ℕ) → Contains (bundle_texts (mails_of p mails)) text → Contains (bundle_texts mails) text
of_poster p [] text c = c
of_poster p (m ∷ ms) text c = of_at (eqb m.poster p) m (mails_of p ms) ms text (of_poster p ms text) c

-- each mail is one of its poster
first_at : (b : Bool) (m : Mail) (mine : List Mail) (text : List ℕ) → b ≡ true → Contains (body_texts m.body) text → Contains (bundle_texts (cond b (m ∷ mine) mine)) text
first_at true m mine text e c = Contains-append_left (body_texts m.body) (bundle_texts mine) text c
first_at false m mine text e c = absurd (cc e)

more_at : (b : Bool) (m : Mail) (mine : List Mail) (text : List ℕ) → Contains (bundle_texts mine) text → Contains (bundle_texts (cond b (m ∷ mine) mine)) text
more_at true m mine text c = Contains-append_right (body_texts m.body) (bundle_texts mine) text c
more_at false m mine text c = c

pub by_poster : (n : ℕ) (mails : List Mail) (text : List ℕ) → AllBelow n mails → Contains (bundle_texts mails) text → (p : ℕ) × (p < n) × Contains (bundle_texts (mails_of p mails)) text
by_poster n [] text below c = absurd (none_of c)
by_poster n (m ∷ ms) text below c = elim (Contains-append_cases (body_texts m.body) (bundle_texts ms) text c) [
  | inl k ↦ (m.poster, below.0, first_at (eqb m.poster m.poster) m (mails_of m.poster ms) text (eq-eqb m.poster m.poster refl) k)
  | inr k ↦ let r = by_poster n ms text below.1 k in (r.0, r.1, more_at (eqb m.poster r.0) m (mails_of r.0 ms) text r.2)
]

-- the mails of a poster that sends these texts have these texts
numbered_texts : (p n : ℕ) (sent : List (List ℕ)) → bundle_texts (numbered_mails p n (map bundle sent ++ mark ∷ [])) ≡ sent
numbered_texts p n [] = refl
numbered_texts p n (t ∷ ts) = ap (λ l. t ∷ l) (numbered_texts p (suc n) ts)

pub all_mails_texts : (p : ℕ) (sent : List (List ℕ)) → bundle_texts (all_mails p sent) ≡ sent
all_mails_texts p sent = numbered_texts p 0 sent

-- what the posters send, each of them
pub sent_by : (texts : List (List (List ℕ))) (text : List ℕ) → Contains (sent_texts texts) text → (p : ℕ) × (sent : List (List ℕ)) × (slice_get texts p ≡ Some sent) × Contains sent text
sent_by [] text c = absurd (none_of c)
sent_by (x ∷ xs) text c = elim (Contains-append_cases x (sent_texts xs) text c) [
  | inl k ↦ (0, x, refl, k)
  | inr k ↦ let r = sent_by xs text k in (suc r.0, r.1, r.2, r.3)
]

pub among_sent : (texts : List (List (List ℕ))) (p : ℕ) (sent : List (List ℕ)) (text : List ℕ) → slice_get texts p ≡ Some sent → Contains sent text → Contains (sent_texts texts) text
among_sent [] p sent text e c = absurd (cc e)
among_sent (x ∷ xs) zero sent text e c = let f : x ≡ sent = cc in Contains-append_left x (sent_texts xs) text (rw f c)
among_sent (x ∷ xs) (suc p) sent text e c = Contains-append_right x (sent_texts xs) text (among_sent xs p sent text e c)
