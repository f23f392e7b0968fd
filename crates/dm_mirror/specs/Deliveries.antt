-- What a poster sends to each mirror.
use Rattle.std.specs.Prelude.{◌≡◌, ℕ, ◌+◌, List, [], ◌∷◌, ◌++◌, length, map}
use Rattle.dm_mail.specs.declared.mail.Mail.{Mail}
use Rattle.dm_mail.specs.Mails.{bundle, mark, numbered_mails, poster_mails}

-- the bundles of these texts, numbered from 0, and then the poster's mark
abbrev pub all_mails : ℕ → List (List ℕ) → List Mail
all_mails poster texts = poster_mails poster (map bundle texts ++ mark ∷ [])

-- how many mails posters of these texts send to a mirror: the bundles and the mark of each
abbrev pub mails_in : List (List (List ℕ)) → ℕ
mails_in [] = 0
mails_in (texts ∷ others) = (length texts + 1) + mails_in others

-- after these mails, those of the texts that are left make those of all
abbrev pub SentUpTo : ℕ → List Mail → List (List ℕ) → List (List ℕ) → Type 0
SentUpTo poster mails left all = mails ++ numbered_mails poster (length mails) (map bundle left) ≡ poster_mails poster (map bundle all)
