-- What is printed of a run.
use Rattle.std.specs.Prelude.{◌≡◌, ℕ, zero, suc, Bool, true, false, List, [], ◌∷◌, ◌++◌, Option, Some, None, codes, length, slice_get}
use Rattle.std.specs.Fmt.{decimal}
use Rattle.dm_tree.specs.Trees.{Tree}
use Rattle.dm_repo.specs.Repositories.{IsTreeOf}
use Rattle.dm_scratch.specs.declared.verdict.Verdict.{Verdict}
use Rattle.dm_scratch.specs.Words.{verdict_text}
use Rattle.dm_scratch.specs.Printing.{line_of, listing_text}
use Rattle.dm_mail.specs.declared.mail.Mail.{Mail}
use Rattle.dm_mail.specs.Mails.{mails_of, is_closed}
use Rattle.dm_mirror.specs.TheMirror.{Mirror}
use Rattle.dm_mirror.specs.declared.outcome.Outcome.{Outcome}

-- the word of an answer
abbrev pub answer_word : Bool → List ℕ
answer_word true = codes "yes"
answer_word false = codes "no"

-- the line of a mail that was taken: a bundle's poster, its number there and its verdict; a mark has none
abbrev pub mail_text : Mail → Option Verdict → List ℕ
mail_text m None = []
mail_text m (Some verdict) = line_of (codes "bundle " ++ (decimal m.poster ++ 32 ∷ (decimal m.number ++ 32 ∷ verdict_text verdict)))

-- the lines of mails with their verdicts
abbrev pub mails_text : List Mail → List (Option Verdict) → List ℕ
mails_text [] verdicts = []
mails_text (m ∷ ms) [] = []
mails_text (m ∷ ms) (v ∷ vs) = mail_text m v ++ mails_text ms vs

-- the line of a poster: whether its mark was taken
abbrev pub closed_line : List Mail → ℕ → List ℕ
closed_line mails poster = line_of (codes "closed " ++ (decimal poster ++ 32 ∷ answer_word (is_closed (mails_of poster mails))))

-- the lines of the posters below n
abbrev pub closed_text : List Mail → ℕ → List ℕ
closed_text mails zero = []
closed_text mails (suc n) = closed_text mails n ++ closed_line mails n

-- the part of a mirror: its number, the bundles that it took, the marks, how many patches it holds, and the listing of its tree
pub record IsMirrorText (posters number : ℕ) (mirror : Mirror) (text : List ℕ) : Type 0 where
  pub tree : Tree
  pub is_tree : IsTreeOf mirror.repo.patches tree
  pub is_text : text ≡ line_of (codes "mirror " ++ decimal number) ++ (mails_text mirror.mails.items mirror.verdicts.items ++
      (closed_text mirror.mails.items posters ++ (line_of (codes "patches " ++ decimal (length mirror.repo.patches)) ++ listing_text tree)))

-- the parts of mirrors, which have the numbers from n on
abbrev pub AreMirrorTexts : ℕ → ℕ → List Mirror → List ℕ → Type 0
AreMirrorTexts posters n [] text = text ≡ []
AreMirrorTexts posters n (m ∷ ms) text = (first rest : List ℕ) × IsMirrorText posters n m first × AreMirrorTexts posters (suc n) ms rest × (text ≡ first ++ rest)

-- the line of a poster and a mirror: how many bundles the poster sent there, and whether its mark; where nothing is said there is none
abbrev pub receipt_text : ℕ → ℕ → Option (ℕ × Bool) → List ℕ
receipt_text poster number None = []
receipt_text poster number (Some receipt) =
    line_of (codes "sent " ++ (decimal poster ++ 32 ∷ (decimal number ++ 32 ∷ (decimal receipt.0 ++ 32 ∷ answer_word receipt.1))))

-- what a poster sent to mirrors, which have the numbers from n on
abbrev pub sent_text : ℕ → ℕ → List Mirror → List ℕ
sent_text poster n [] = []
sent_text poster n (m ∷ ms) = receipt_text poster n (slice_get m.receipts.items poster) ++ sent_text poster (suc n) ms

-- what the posters below n sent, poster by poster
abbrev pub receipts_text : List Mirror → ℕ → List ℕ
receipts_text mirrors zero = []
receipts_text mirrors (suc n) = receipts_text mirrors n ++ sent_text n 0 mirrors

-- the report of a run: the part of each mirror, then what each poster sent
pub record IsReport (o : Outcome) (text : List ℕ) : Type 0 where
  pub mirrors : List ℕ
  pub are_mirrors : AreMirrorTexts o.posters 0 o.mirrors.items mirrors
  pub is_text : text ≡ mirrors ++ receipts_text o.mirrors.items o.posters
