-- Mails, and the lists of them that posters send and mirrors take.
use Rattle.std.specs.Prelude.{◌≡◌, ℕ, suc, ◌<◌, Bool, true, false, ◌||◌, List, [], ◌∷◌, length, if◌then◌else◌, ◌==◌}
use Rattle.dm_mail.specs.declared.mail.Mail.{Mail}
use Rattle.dm_mail.specs.declared.mail.Body.{Body}
use Rattle.dm_mail.specs.declared.mail.Body.TheVariants.{Bundle, Close}

-- the body that carries this text
abbrev pub bundle : List ℕ → Body
bundle text = Bundle text

-- the closing mark: no more comes
abbrev pub mark : Body
mark = Close

-- the body is the closing mark
abbrev pub is_mark : Body → Bool
is_mark (Bundle text) = false
is_mark Close = true

-- the mail of a poster with this number and body
abbrev pub mail : ℕ → ℕ → Body → Mail
mail poster number body = record { poster = poster; number = number; body = body }

-- the next mail of a poster that has sent these
abbrev pub next_mail : ℕ → List Mail → Body → Mail
next_mail poster sent body = mail poster (length sent) body

-- the mails of one poster, in order
abbrev pub mails_of : ℕ → List Mail → List Mail
mails_of poster [] = []
mails_of poster (m ∷ ms) = if m.poster == poster then m ∷ mails_of poster ms else mails_of poster ms

-- a mark is among these mails
abbrev pub is_closed : List Mail → Bool
is_closed [] = false
is_closed (m ∷ ms) = is_mark m.body || is_closed ms

-- how many bundles there are
abbrev pub count_bundles : List Mail → ℕ
count_bundles [] = 0
count_bundles (m ∷ ms) = if is_mark m.body then count_bundles ms else suc (count_bundles ms)

-- how many marks there are
abbrev pub count_marks : List Mail → ℕ
count_marks [] = 0
count_marks (m ∷ ms) = if is_mark m.body then suc (count_marks ms) else count_marks ms

-- the mails have the numbers from n on
abbrev pub IsNumberedFrom : ℕ → List Mail → Type 0
IsNumberedFrom n [] = Unit {0}
IsNumberedFrom n (m ∷ ms) = (m.number ≡ n) × IsNumberedFrom (suc n) ms

-- the mails have the numbers 0, 1, ..
abbrev pub IsNumbered : List Mail → Type 0
IsNumbered ms = IsNumberedFrom 0 ms

-- no mail comes after a mark
abbrev pub IsMarkLast : List Mail → Type 0
IsMarkLast [] = Unit {0}
IsMarkLast (m ∷ ms) = (is_mark m.body ≡ true → ms ≡ []) × IsMarkLast ms

-- each mail is of a poster below n
abbrev pub AllBelow : ℕ → List Mail → Type 0
AllBelow n [] = Unit {0}
AllBelow n (m ∷ ms) = (m.poster < n) × AllBelow n ms

-- the mails of a poster that sends these bodies, with the numbers from n on
abbrev pub numbered_mails : ℕ → ℕ → List Body → List Mail
numbered_mails poster n [] = []
numbered_mails poster n (b ∷ bs) = mail poster n b ∷ numbered_mails poster (suc n) bs

-- the mails of a poster that sends these bodies
abbrev pub poster_mails : ℕ → List Body → List Mail
poster_mails poster bodies = numbered_mails poster 0 bodies
