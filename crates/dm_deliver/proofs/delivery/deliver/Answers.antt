use Rattle.std.proofs.Common.{◌≡◌, ◌∙◌, refl, [], ◌∷◌, ◌⊎◌, ◌↔◌, List, ℕ, Bool, IsTrue, true, false, inl, inr, subst, sym, append-nil}
use Rattle.std.proofs.lemmas.Result.{err_from_is_err_and}
use Rattle.dm_store.specs.Keeping.{kept_in}
use Rattle.dm_store.proofs.StoredLemmas.{crashes_keep}
use Rattle.dm_deliver.specs.Answering.{IsAcceptedAnswer}
use Rattle.dm_deliver.specs.Outputs.{output}
use Rattle.dm_deliver.proofs.DeliverLemmas.{begun, one_more, settled, checkpoint_failed, checkpoint_keeps_some, no_more, keeps_some, unanswered_keeps_some, but_last}
use Rattle.dm_deliver.proofs.delivery.deliver.Goals as goal
use Rattle.dm_deliver.proofs.delivery.deliver.Goals.{then-all_accepted, else-all_accepted}

pub loop-text-init : goal.loop-text-init
loop-text-init g c =
    let d = g.D.Device in
    let store = c.args.store.now in
    let source = c.args.source.now in
    let kept = crashes_keep d.seen d.may_leave d.file_may_leave store.journal c.requires.entries (kept_in store) c.requires.has c.requires.folds in (
      begun d.moment d.left_since (g.F.Form.says c.args.form.now) d.may_leave g.met.D.Device.only_now (λ (texts : List (List ℕ)). g.S.Source.gave source texts source) c.args.policy c.args.rule store (output g.W.Write.contents c.args.writer.now) (g.met.S.Source.gave_none source) kept,
      c.requires,
      kept,
      refl,
    )

pub returns-in_err-may_settle-in-Ok-Some-clause-delivers_until :
    goal.returns-in_err-may_settle-in-Ok-Some-clause-delivers_until
returns-in_err-may_settle-in-Ok-Some-clause-delivers_until g c =
    let d = g.D.Device in
    let source = c.args.source.now in
    let so_far = c.loop-text.invariant.0 in
    let text = c.in-Ok-Some.text.items in
    let came = g.met.S.Source.gave_more source c.loop-text.source c.next_text.new.self so_far.0.texts (text ∷ []) so_far.0.came (rw c.in-Ok-Some.field-0-is at c.in-Ok-Some.ensures.some) in
    let q = err_from_is_err_and c.from_residual.result c.from_residual.ensures.1 in
    rw (q.1, q.2) (checkpoint_failed d.moment d.left_since (g.F.Form.says c.args.form.now) d.faults (λ (texts : List (List ℕ)). g.S.Source.gave source texts c.loop-text.source) (λ (texts : List (List ℕ)). g.S.Source.gave source texts c.next_text.new.self)
    c.args.policy c.args.rule c.in_err-may_settle-in-Ok-Some.field-0.0 c.args.store.now c.loop-text.store c.settle.new.store (output g.W.Write.contents c.args.writer.now) (output g.W.Write.contents c.loop-text.writer)
    so_far.0 text came c.settle.ensures.same c.settle.ensures.base c.settle.ensures.kinds c.settle.ensures.any_moment c.in_err-may_settle-in-Ok-Some.ensures.failed c.in_err-may_settle-in-Ok-Some.ensures.kind.1)

pub returns-in_err-may_settle-in-Ok-Some-clause-stored_err :
    goal.returns-in_err-may_settle-in-Ok-Some-clause-stored_err
returns-in_err-may_settle-in-Ok-Some-clause-stored_err g c =
    let q = err_from_is_err_and c.from_residual.result c.from_residual.ensures.1 in
    rw (q.1, q.2) (λ going_on. absurd (going_on tt))

pub returns-in_err-may_settle-in-Ok-Some-clause-kept_err :
    goal.returns-in_err-may_settle-in-Ok-Some-clause-kept_err
returns-in_err-may_settle-in-Ok-Some-clause-kept_err g c =
    let q = err_from_is_err_and c.from_residual.result c.from_residual.ensures.1 in
    rw (q.1, q.2) (λ going_on. absurd (going_on tt))

pub returns-in_err-may_settle-in-Ok-Some-clause-any_moment :
    goal.returns-in_err-may_settle-in-Ok-Some-clause-any_moment
returns-in_err-may_settle-in-Ok-Some-clause-any_moment g c =
    let d = g.D.Device in
    let source = c.args.source.now in
    let so_far = c.loop-text.invariant.0 in
    let text = c.in-Ok-Some.text.items in
    let came = g.met.S.Source.gave_more source c.loop-text.source c.next_text.new.self so_far.0.texts (text ∷ []) so_far.0.came (rw c.in-Ok-Some.field-0-is at c.in-Ok-Some.ensures.some) in
    checkpoint_keeps_some d.moment d.left_since (g.F.Form.says c.args.form.now) (λ (texts : List (List ℕ)). g.S.Source.gave source texts c.loop-text.source) (λ (texts : List (List ℕ)). g.S.Source.gave source texts c.next_text.new.self)
    c.args.policy c.args.rule c.args.store.now c.loop-text.store c.settle.new.store (output g.W.Write.contents c.args.writer.now) (output g.W.Write.contents c.loop-text.writer) so_far.0 text came c.settle.ensures.any_moment

pub returns-in_err-reply-in-Ok-Some-clause-delivers_until :
    goal.returns-in_err-reply-in-Ok-Some-clause-delivers_until
returns-in_err-reply-in-Ok-Some-clause-delivers_until g c =
    let d = g.D.Device in
    let source = c.args.source.now in
    let so_far = c.loop-text.invariant.0 in
    let ready = settled d.moment d.left_since (g.F.Form.says c.args.form.now) (λ (texts : List (List ℕ)). g.S.Source.gave source texts c.loop-text.source) c.args.policy c.args.rule c.args.store.now c.loop-text.store c.settle.new.store (output g.W.Write.contents c.args.writer.now) (output g.W.Write.contents c.loop-text.writer)
    c.loop-text.all_accepted so_far c.settle.ensures.same c.settle.ensures.base c.settle.ensures.kinds c.settle.ensures.any_moment in
    let failed = c.in_err-reply-in-Ok-Some.ensures in
    let text = c.as_slice-bytes.result.now in
    let gives = subst (λ (t : List ℕ). g.S.Source.gave c.loop-text.source (t ∷ []) c.next_text.new.self) (sym c.as_slice-bytes.ensures.value) (rw c.in-Ok-Some.field-0-is at c.in-Ok-Some.ensures.some) in
    let came = g.met.S.Source.gave_more source c.loop-text.source c.next_text.new.self ready.0.texts (text ∷ []) ready.0.came gives in
    let q = err_from_is_err_and c.from_residual-in_err-reply-in-Ok-Some.result c.from_residual-in_err-reply-in-Ok-Some.ensures.1 in
    rw (q.1, q.2) (but_last d.moment d.left_since (g.F.Form.says c.args.form.now) d.seen d.faults (λ (texts : List (List ℕ)). g.S.Source.gave source texts c.loop-text.source) (λ (texts : List (List ℕ)). g.S.Source.gave source texts c.next_text.new.self)
    c.args.policy c.args.rule c.in_err-reply-in-Ok-Some.field-0.0 c.args.store.now c.settle.new.store c.answer.new.store
    (output g.W.Write.contents c.args.writer.now) (output g.W.Write.contents c.loop-text.writer) (output g.W.Write.contents c.answer.new.writer)
    ready.0 text came c.answer.ensures.kinds failed.unanswered c.answer.ensures.any_moment failed.failed failed.not_too_long failed.full)

pub returns-in_err-reply-in-Ok-Some-clause-stored_err :
    goal.returns-in_err-reply-in-Ok-Some-clause-stored_err
returns-in_err-reply-in-Ok-Some-clause-stored_err g c =
    let q = err_from_is_err_and c.from_residual-in_err-reply-in-Ok-Some.result c.from_residual-in_err-reply-in-Ok-Some.ensures.1 in
    rw (q.1, q.2) c.in_err-reply-in-Ok-Some.ensures.stored_err

pub returns-in_err-reply-in-Ok-Some-clause-kept_err :
    goal.returns-in_err-reply-in-Ok-Some-clause-kept_err
returns-in_err-reply-in-Ok-Some-clause-kept_err g c =
    let q = err_from_is_err_and c.from_residual-in_err-reply-in-Ok-Some.result c.from_residual-in_err-reply-in-Ok-Some.ensures.1 in
    rw (q.1, q.2) c.in_err-reply-in-Ok-Some.ensures.kept_err

pub returns-in_err-reply-in-Ok-Some-clause-any_moment :
    goal.returns-in_err-reply-in-Ok-Some-clause-any_moment
returns-in_err-reply-in-Ok-Some-clause-any_moment g c =
    let d = g.D.Device in
    let source = c.args.source.now in
    let so_far = c.loop-text.invariant.0 in
    let ready = settled d.moment d.left_since (g.F.Form.says c.args.form.now) (λ (texts : List (List ℕ)). g.S.Source.gave source texts c.loop-text.source) c.args.policy c.args.rule c.args.store.now c.loop-text.store c.settle.new.store (output g.W.Write.contents c.args.writer.now) (output g.W.Write.contents c.loop-text.writer)
    c.loop-text.all_accepted so_far c.settle.ensures.same c.settle.ensures.base c.settle.ensures.kinds c.settle.ensures.any_moment in
    let text = c.as_slice-bytes.result.now in
    let gives = subst (λ (t : List ℕ). g.S.Source.gave c.loop-text.source (t ∷ []) c.next_text.new.self) (sym c.as_slice-bytes.ensures.value) (rw c.in-Ok-Some.field-0-is at c.in-Ok-Some.ensures.some) in
    let came = g.met.S.Source.gave_more source c.loop-text.source c.next_text.new.self ready.0.texts (text ∷ []) ready.0.came gives in
    unanswered_keeps_some d.moment d.left_since (g.F.Form.says c.args.form.now) (λ (texts : List (List ℕ)). g.S.Source.gave source texts c.loop-text.source) (λ (texts : List (List ℕ)). g.S.Source.gave source texts c.next_text.new.self)
    c.args.policy c.args.rule c.args.store.now c.settle.new.store c.answer.new.store (output g.W.Write.contents c.args.writer.now) (output g.W.Write.contents c.loop-text.writer) ready.0 text came c.answer.ensures.any_moment

pub loop-text-preserved : goal.loop-text-preserved
loop-text-preserved g c =
    let d = g.D.Device in
    let source = c.args.source.now in
    let so_far = c.loop-text.invariant.0 in
    let ready = settled d.moment d.left_since (g.F.Form.says c.args.form.now) (λ (texts : List (List ℕ)). g.S.Source.gave source texts c.loop-text.source) c.args.policy c.args.rule c.args.store.now c.loop-text.store c.settle.new.store (output g.W.Write.contents c.args.writer.now) (output g.W.Write.contents c.loop-text.writer)
    c.loop-text.all_accepted so_far c.settle.ensures.same c.settle.ensures.base c.settle.ensures.kinds c.settle.ensures.any_moment in
    let answered = c.in_ok-reply-in-Ok-Some.ensures in
    let text = c.as_slice-bytes.result.now in
    let gives = subst (λ (t : List ℕ). g.S.Source.gave c.loop-text.source (t ∷ []) c.next_text.new.self) (sym c.as_slice-bytes.ensures.value) (rw c.in-Ok-Some.field-0-is at c.in-Ok-Some.ensures.some) in
    let came = g.met.S.Source.gave_more source c.loop-text.source c.next_text.new.self ready.0.texts (text ∷ []) ready.0.came gives in
    let v = c.in_ok-reply-in-Ok-Some.reply in
    let both : ((c.loop-text.all_accepted ≡ true) × (IsTrue c.if-all_accepted.all_accepted ↔ IsAcceptedAnswer v)) ⊎ ((c.loop-text.all_accepted ≡ false) × (c.if-all_accepted.all_accepted ≡ c.loop-text.all_accepted)) =
    elim c.if-all_accepted.branch [
      | then-all_accepted w ↦ inl (w.if-all_accepted.true, subst (λ (b : Bool). IsTrue b ↔ IsAcceptedAnswer v) (sym w.all_accepted-is) w.is_accepted-all_accepted.ensures)
      | else-all_accepted w ↦ inr (w.if-all_accepted.false, w.all_accepted-is)
    ] in (
      one_more d.moment d.left_since (g.F.Form.says c.args.form.now) d.may_leave g.met.D.Device.only_now (λ (texts : List (List ℕ)). g.S.Source.gave source texts c.loop-text.source) (λ (texts : List (List ℕ)). g.S.Source.gave source texts c.next_text.new.self)
          c.args.policy c.args.rule c.args.store.now c.settle.new.store c.answer.new.store (output g.W.Write.contents c.args.writer.now) (output g.W.Write.contents c.loop-text.writer) (output g.W.Write.contents c.answer.new.writer)
          c.loop-text.all_accepted c.if-all_accepted.all_accepted ready text v came answered.kept c.answer.ensures.kinds answered.answers answered.told answered.either both,
      answered.stored,
      answered.kept,
      c.answer.ensures.base ∙ c.settle.ensures.base ∙ c.loop-text.invariant.3,
    )

pub returns-in-Ok-None-clause-delivers : goal.returns-in-Ok-None-clause-delivers
returns-in-Ok-None-clause-delivers g c =
    let d = g.D.Device in
    let source = c.args.source.now in
    let so_far = c.loop-text.invariant.0 in
    let came = g.met.S.Source.gave_more source c.loop-text.source c.next_text.new.self so_far.0.texts [] so_far.0.came (rw c.in-Ok-None.field-0-is at c.in-Ok-None.ensures.none) in
    no_more d.moment d.left_since (g.F.Form.says c.args.form.now) (λ (texts : List (List ℕ)). g.S.Source.gave source texts c.loop-text.source) (λ (texts : List (List ℕ)). g.S.Source.gave source texts c.next_text.new.self)
    c.args.policy c.args.rule c.args.store.now c.loop-text.store (output g.W.Write.contents c.args.writer.now) (output g.W.Write.contents c.loop-text.writer) c.loop-text.all_accepted so_far
    (subst (λ (l : List (List ℕ)). g.S.Source.gave source l c.next_text.new.self) (append-nil so_far.0.texts) came)

pub returns-in-Ok-None-clause-any_moment : goal.returns-in-Ok-None-clause-any_moment
returns-in-Ok-None-clause-any_moment g c =
    let d = g.D.Device in
    let source = c.args.source.now in
    let so_far = c.loop-text.invariant.0 in
    let came = g.met.S.Source.gave_more source c.loop-text.source c.next_text.new.self so_far.0.texts [] so_far.0.came (rw c.in-Ok-None.field-0-is at c.in-Ok-None.ensures.none) in
    keeps_some d.moment d.left_since (g.F.Form.says c.args.form.now) (λ (texts : List (List ℕ)). g.S.Source.gave source texts c.next_text.new.self)
    c.args.policy c.args.rule c.args.store.now c.loop-text.store (output g.W.Write.contents c.args.writer.now) (output g.W.Write.contents c.loop-text.writer)
    (no_more d.moment d.left_since (g.F.Form.says c.args.form.now) (λ (texts : List (List ℕ)). g.S.Source.gave source texts c.loop-text.source) (λ (texts : List (List ℕ)). g.S.Source.gave source texts c.next_text.new.self)
    c.args.policy c.args.rule c.args.store.now c.loop-text.store (output g.W.Write.contents c.args.writer.now) (output g.W.Write.contents c.loop-text.writer) c.loop-text.all_accepted so_far
    (subst (λ (l : List (List ℕ)). g.S.Source.gave source l c.next_text.new.self) (append-nil so_far.0.texts) came)).0

pub returns-in-Err-clause-delivers_until : goal.returns-in-Err-clause-delivers_until
returns-in-Err-clause-delivers_until g c =
    let d = g.D.Device in
    let source = c.args.source.now in
    let so_far = c.loop-text.invariant.0 in
    let came = g.met.S.Source.gave_more source c.loop-text.source c.next_text.new.self so_far.0.texts [] so_far.0.came c.in-Err.ensures.err in
    (no_more d.moment d.left_since (g.F.Form.says c.args.form.now) (λ (texts : List (List ℕ)). g.S.Source.gave source texts c.loop-text.source) (λ (texts : List (List ℕ)). g.S.Source.gave source texts c.next_text.new.self)
    c.args.policy c.args.rule c.args.store.now c.loop-text.store (output g.W.Write.contents c.args.writer.now) (output g.W.Write.contents c.loop-text.writer) c.loop-text.all_accepted so_far
    (subst (λ (l : List (List ℕ)). g.S.Source.gave source l c.next_text.new.self) (append-nil so_far.0.texts) came)).0

pub returns-in-Err-clause-any_moment : goal.returns-in-Err-clause-any_moment
returns-in-Err-clause-any_moment g c =
    let d = g.D.Device in
    let source = c.args.source.now in
    let so_far = c.loop-text.invariant.0 in
    let came = g.met.S.Source.gave_more source c.loop-text.source c.next_text.new.self so_far.0.texts [] so_far.0.came c.in-Err.ensures.err in
    keeps_some d.moment d.left_since (g.F.Form.says c.args.form.now) (λ (texts : List (List ℕ)). g.S.Source.gave source texts c.next_text.new.self)
    c.args.policy c.args.rule c.args.store.now c.loop-text.store (output g.W.Write.contents c.args.writer.now) (output g.W.Write.contents c.loop-text.writer)
    (no_more d.moment d.left_since (g.F.Form.says c.args.form.now) (λ (texts : List (List ℕ)). g.S.Source.gave source texts c.loop-text.source) (λ (texts : List (List ℕ)). g.S.Source.gave source texts c.next_text.new.self)
    c.args.policy c.args.rule c.args.store.now c.loop-text.store (output g.W.Write.contents c.args.writer.now) (output g.W.Write.contents c.loop-text.writer) c.loop-text.all_accepted so_far
    (subst (λ (l : List (List ℕ)). g.S.Source.gave source l c.next_text.new.self) (append-nil so_far.0.texts) came)).0

pub returns-in_err-may_settle-in-Ok-Some-clause-base : goal.returns-in_err-may_settle-in-Ok-Some-clause-base
returns-in_err-may_settle-in-Ok-Some-clause-base g c = c.settle.ensures.base ∙ c.loop-text.invariant.3

pub returns-in_err-reply-in-Ok-Some-clause-base : goal.returns-in_err-reply-in-Ok-Some-clause-base
returns-in_err-reply-in-Ok-Some-clause-base g c = c.answer.ensures.base ∙ c.settle.ensures.base ∙ c.loop-text.invariant.3

pub returns-in-Ok-None-clause-base : goal.returns-in-Ok-None-clause-base
returns-in-Ok-None-clause-base g c = c.loop-text.invariant.3

pub returns-in-Err-clause-base : goal.returns-in-Err-clause-base
returns-in-Err-clause-base g c = c.loop-text.invariant.3
