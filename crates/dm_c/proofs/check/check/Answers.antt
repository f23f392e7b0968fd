use Rattle.std.proofs.Common.{refl}
use Rattle.dm_scratch.proofs.ReadLemmas.{no_err, reads}
use Rattle.dm_c.specs.Checking.{is_bundle, is_malformed}
use Rattle.std.proofs.lemmas.Result.{IfOk-weaker}
use Rattle.dm_c.proofs.check.check.Goals as goal

pub returns-in_ok-text-in-Ok-clause-ok : goal.returns-in_ok-text-in-Ok-clause-ok
returns-in_ok-text-in-Ok-clause-ok c =
    let b = c.in-Ok.bundle in
    is_bundle b (reads c.args.limits c.args.text.now b c.in-Ok.ensures.ok c.in-Ok.ensures.few (λ large. no_err b _ (c.in-Ok.ensures.too_large large)))
    c.in_ok-text-in-Ok.ensures.text refl

pub returns-in-Err-clause-ok : goal.returns-in-Err-clause-ok
returns-in-Err-clause-ok c = IfOk-weaker c.unread.result _ _ (λ checked u. is_malformed c.in-Err.fault (c.in-Err.ensures.err u.tellable) u) c.unread.ensures.ok
