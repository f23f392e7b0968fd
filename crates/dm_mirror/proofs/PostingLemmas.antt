-- The mails of a poster that has sent its first texts.
use Rattle.std.proofs.Common.{◌≡◌, ℕ, suc, ◌+◌, List, [], ◌∷◌, ◌++◌, length, map, refl, sym, ap, ◌∙◌, arith, append-nil, length-append}
use Rattle.dm_mail.specs.declared.mail.Mail.{Mail}
use Rattle.dm_mail.specs.Mails.{bundle, mark, next_mail, poster_mails}
use Rattle.dm_mail.proofs.MailLemmas.{next_body, length-numbered_mails}
use Rattle.dm_mail.specs.declared.ends.Sent.{Sent}
use Rattle.dm_mail.specs.Ends.{outlet_id, outlet_poster}
use Rattle.dm_mirror.specs.declared.jobs.Line.{Line}
use Rattle.dm_mirror.specs.declared.jobs.NewLine.{NewLine}
use Rattle.dm_mirror.specs.Jobs.{IsBegun, SameLine, EndsLine, EndsNew}
use Rattle.dm_mirror.specs.Deliveries.{all_mails, SentUpTo}

length-bodies : (texts : List (List ℕ)) → length (map bundle texts) ≡ length texts
length-bodies [] = refl
length-bodies (t ∷ ts) = ap suc (length-bodies ts)

-- no text is left, and the mark was sent
pub sent_all : (p q : ℕ) (mails sent : List Mail) (rest all : List (List ℕ)) → rest ≡ [] → q ≡ p → SentUpTo q mails rest all →
    sent ≡ mails ++ next_mail q mails mark ∷ [] → sent ≡ all_mails p all
sent_all p q mails sent rest all none same so_far is =
    let whole : mails ≡ poster_mails q (map bundle all) = sym (append-nil mails) ∙ (rw none at so_far) in
    is ∙ (ap (λ l. l ++ next_mail q l mark ∷ []) whole ∙ (sym (next_body q (map bundle all) (map bundle all ++ mark ∷ []) mark refl) ∙ ap (λ k. all_mails k all) same))

-- all mails of a poster are one more than its bundles
pub length-all_mails : (p : ℕ) (texts : List (List ℕ)) → length (all_mails p texts) ≡ length texts + 1
length-all_mails p texts = omega (arith, length-numbered_mails p 0 (map bundle texts ++ mark ∷ []), length-append (map bundle texts) (mark ∷ []), length-bodies texts)

-- one line after the other, as it was and as it ended
pub same_then : (a b c : Line) → SameLine a b → SameLine b c → SameLine a c
same_then a b c x y = ((y.0.0 ∙ x.0.0, y.0.1 ∙ x.0.1), y.1 ∙ x.1)

pub same_ends : (a b : Line) (end : Sent) → SameLine a b → EndsLine b end → EndsLine a end
same_ends a b end x y = ((y.0.0 ∙ x.0.0, y.0.1 ∙ x.0.1), y.1 ∙ (ap (λ p. all_mails p b.texts.value.items) x.0.1 ∙ ap (all_mails (outlet_poster a.outlet)) x.1))

pub begun_ends : (a : NewLine) (b : Line) (end : Sent) → IsBegun a b → EndsLine b end → EndsNew a end
begun_ends a b end x y =
    ((y.0.0 ∙ ap outlet_id x.0, y.0.1 ∙ ap outlet_poster x.0), y.1 ∙ (ap (λ o. all_mails (outlet_poster o) b.texts.value.items) x.0 ∙ ap (all_mails (outlet_poster a.outlet)) x.1))
