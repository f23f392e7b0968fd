use Rattle.std.proofs.Common.{◌≡◌, drop}
use Rattle.dm_mail.specs.Mails.{mails_of, is_closed}
use Rattle.dm_mirror.proofs.mirror.MirrorOf.has_mark.Given as goal

abbrev pub invariant-loop-mail : goal.invariant-loop-mail
invariant-loop-mail g l = is_closed (mails_of l.poster (drop l.mail-index l.fn.self.mails.items)) ≡ is_closed (mails_of l.fn.poster l.fn.self.mails.items)
