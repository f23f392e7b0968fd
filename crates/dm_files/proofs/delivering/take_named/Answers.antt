use Rattle.dm_store.proofs.StoredLemmas.{weakened}
use Rattle.dm_files.proofs.MirrorLemmas.{by_answer, by_checkpoint, by_source, some_less, told_less}
use Rattle.dm_files.proofs.NamedLemmas.{all_read, some_read}
use Rattle.dm_files.proofs.delivering.take_named.Goals as goal

pub returns-in-Ok-clause-delivers : goal.returns-in-Ok-clause-delivers
returns-in-Ok-clause-delivers g c =
    told_less c.in-Ok.all_accepted (λ texts came. all_read g.F.Files.had _ _ _ _ texts _ c.new-source.ensures.files c.new-source.ensures.names c.in-Ok.ensures.done came.1) c.in-Ok.ensures.delivers

pub returns-in-Err-Source-clause-delivers_by : goal.returns-in-Err-Source-clause-delivers_by
returns-in-Err-Source-clause-delivers_by g c =
    by_source _ (λ texts came. some_read g.F.Files.had _ _ _ _ texts _ c.new-source.ensures.files c.new-source.ensures.names came.1) (rw c.in-Err-Source.field-0-is at c.in-Err-Source.ensures.delivers_until)

pub returns-in-Err-Answer-clause-delivers_by : goal.returns-in-Err-Answer-clause-delivers_by
returns-in-Err-Answer-clause-delivers_by g c =
    by_answer _ _ _ _ _ _ _ _ _ _ _ _ _ c.of_answer.result c.in-Err-Answer.fault c.of_answer.ensures.goes_on c.of_answer.ensures.mirror (λ texts came. some_read g.F.Files.had _ _ _ _ texts _ c.new-source.ensures.files c.new-source.ensures.names came.1)
    (rw c.in-Err-Answer.field-0-is at c.in-Err-Answer.ensures.delivers_until)

pub returns-in-Err-Checkpoint-clause-delivers_by : goal.returns-in-Err-Checkpoint-clause-delivers_by
returns-in-Err-Checkpoint-clause-delivers_by g c =
    by_checkpoint _ _ _ _ _ _ _ _ _ _ _ _ _ c.in-Err-Checkpoint.fault (λ texts came. some_read g.F.Files.had _ _ _ _ texts _ c.new-source.ensures.files c.new-source.ensures.names came.1) (rw c.in-Err-Checkpoint.field-0-is at c.in-Err-Checkpoint.ensures.delivers_until)

pub returns-in-Ok-clause-any_moment : goal.returns-in-Ok-clause-any_moment
returns-in-Ok-clause-any_moment g c =
    weakened g.D.Device.moment g.D.Device.left_since _ _ _ _ (some_less (λ texts came. some_read g.F.Files.had _ _ _ _ texts _ c.new-source.ensures.files c.new-source.ensures.names came.1)) c.deliver.ensures.any_moment

pub returns-in-Err-Source-clause-any_moment : goal.returns-in-Err-Source-clause-any_moment
returns-in-Err-Source-clause-any_moment g c =
    weakened g.D.Device.moment g.D.Device.left_since _ _ _ _ (some_less (λ texts came. some_read g.F.Files.had _ _ _ _ texts _ c.new-source.ensures.files c.new-source.ensures.names came.1)) c.deliver.ensures.any_moment

pub returns-in-Err-Answer-clause-any_moment : goal.returns-in-Err-Answer-clause-any_moment
returns-in-Err-Answer-clause-any_moment g c =
    weakened g.D.Device.moment g.D.Device.left_since _ _ _ _ (some_less (λ texts came. some_read g.F.Files.had _ _ _ _ texts _ c.new-source.ensures.files c.new-source.ensures.names came.1)) c.deliver.ensures.any_moment

pub returns-in-Err-Checkpoint-clause-any_moment : goal.returns-in-Err-Checkpoint-clause-any_moment
returns-in-Err-Checkpoint-clause-any_moment g c =
    weakened g.D.Device.moment g.D.Device.left_since _ _ _ _ (some_less (λ texts came. some_read g.F.Files.had _ _ _ _ texts _ c.new-source.ensures.files c.new-source.ensures.names came.1)) c.deliver.ensures.any_moment

pub returns-in-Err-Answer-clause-stored_err : goal.returns-in-Err-Answer-clause-stored_err
returns-in-Err-Answer-clause-stored_err g c = λ goes. (rw c.in-Err-Answer.field-0-is at c.in-Err-Answer.ensures.stored_err) (c.of_answer.ensures.goes_on goes)
