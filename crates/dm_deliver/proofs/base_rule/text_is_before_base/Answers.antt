use Rattle.std.proofs.Common.{◌↔◌, Bool, IsTrue}
use Rattle.std.proofs.lemmas.Bool.{false≢true}
use Rattle.std.proofs.lemmas.Result.{IfOk-weaker}
use Rattle.dm_begin.specs.Bases.{IsBeforeBase}
use Rattle.dm_scratch.proofs.ReadLemmas.{no_err, reads}
use Rattle.dm_store.specs.Keeping.{kept_as}
use Rattle.dm_deliver.specs.Answering.{IsTextBeforeBase}
use Rattle.dm_deliver.proofs.BaseLemmas.{as_the_bundle, no_bundle_before}
use Rattle.dm_deliver.proofs.base_rule.text_is_before_base.Goals as goal

pub returns-in-Ok : goal.returns-in-Ok
returns-in-Ok c =
    let limits = c.with_kinds.result in
    let kept = kept_as c.args.base c.args.repo.now.patches in
    let text = c.args.text.now in
    let b = c.in-Ok.bundle in
    let within = reads limits text b c.in-Ok.ensures.ok c.in-Ok.ensures.few (λ large. no_err b _ (c.in-Ok.ensures.too_large large)) in
    IfOk-weaker c.is_before_base.result (λ (is_before : Bool). IsTrue is_before ↔ IsBeforeBase kept.patches kept.base b) (λ (is_before : Bool). IsTrue is_before ↔ IsTextBeforeBase c.args.kinds kept text)
    (λ is_before same. as_the_bundle c.args.kinds limits c.with_kinds.ensures kept text b is_before within c.in-Ok.ensures.only same) c.is_before_base.ensures

pub returns-else-eq : goal.returns-else-eq
returns-else-eq c =
    no_bundle_before c.args.kinds c.with_kinds.result c.with_kinds.ensures (kept_as c.args.base c.args.repo.now.patches) c.args.text.now
    (λ b reads. false≢true (rw (c.in-Err.ensures.within_limits b reads.stands reads.small reads.few) at c.if-eq.ensures))
