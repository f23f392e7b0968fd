use Rattle.dm_store.proofs.StoredLemmas.{weakened}
use Rattle.dm_files.proofs.MirrorLemmas.{by_answer, by_checkpoint, by_source, some_less, told_less}
use Rattle.dm_files.proofs.delivering.take_stream.Goals as goal

pub returns-in-Ok-clause-delivers : goal.returns-in-Ok-clause-delivers
returns-in-Ok-clause-delivers g c =
    told_less c.in-Ok.all_accepted (λ texts came. tt) c.in-Ok.ensures.delivers

pub returns-in-Err-Source-clause-delivers_by : goal.returns-in-Err-Source-clause-delivers_by
returns-in-Err-Source-clause-delivers_by g c =
    by_source _ (λ texts came. tt) (rw c.in-Err-Source.field-0-is at c.in-Err-Source.ensures.delivers_until)

pub returns-in-Err-Answer-clause-delivers_by : goal.returns-in-Err-Answer-clause-delivers_by
returns-in-Err-Answer-clause-delivers_by g c =
    by_answer _ _ _ _ _ _ _ _ _ _ _ _ _ c.of_answer.result c.in-Err-Answer.fault c.of_answer.ensures.goes_on c.of_answer.ensures.mirror (λ texts came. tt)
    (rw c.in-Err-Answer.field-0-is at c.in-Err-Answer.ensures.delivers_until)

pub returns-clause-delivers_by : goal.returns-clause-delivers_by
returns-clause-delivers_by g c =
    by_checkpoint _ _ _ _ _ _ _ _ _ _ _ _ _ c.in-Err-Checkpoint.fault (λ texts came. tt) (rw c.in-Err-Checkpoint.field-0-is at c.in-Err-Checkpoint.ensures.delivers_until)

pub returns-in-Ok-clause-any_moment : goal.returns-in-Ok-clause-any_moment
returns-in-Ok-clause-any_moment g c =
    weakened g.D.Device.moment g.D.Device.left_since _ _ _ _ (some_less (λ texts came. tt)) c.deliver.ensures.any_moment

pub returns-in-Err-Source-clause-any_moment : goal.returns-in-Err-Source-clause-any_moment
returns-in-Err-Source-clause-any_moment g c =
    weakened g.D.Device.moment g.D.Device.left_since _ _ _ _ (some_less (λ texts came. tt)) c.deliver.ensures.any_moment

pub returns-in-Err-Answer-clause-any_moment : goal.returns-in-Err-Answer-clause-any_moment
returns-in-Err-Answer-clause-any_moment g c =
    weakened g.D.Device.moment g.D.Device.left_since _ _ _ _ (some_less (λ texts came. tt)) c.deliver.ensures.any_moment

pub returns-clause-any_moment : goal.returns-clause-any_moment
returns-clause-any_moment g c =
    weakened g.D.Device.moment g.D.Device.left_since _ _ _ _ (some_less (λ texts came. tt)) c.deliver.ensures.any_moment
