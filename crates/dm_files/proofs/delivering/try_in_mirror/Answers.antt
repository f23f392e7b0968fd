use Rattle.dm_store.specs.Keeping.{kept_in}
use Rattle.dm_store.specs.Kinds.{kinds_in}
use Rattle.dm_files.proofs.DoneLemmas.{tried}
use Rattle.dm_files.proofs.delivering.try_in_mirror.Goals as goal

pub returns : goal.returns
returns g c =
    let store = c.in_ok-store.store in
    tried (g.F.Files.had c.args.files.now) c.args.asked.now c.args.path.now (kinds_in store) (kept_in store) (kept_in c.take_and_show-tried.new.store) c.take_and_show-tried.result c.with_file.result c.requires
    (rw c.with_file.ensures.answer c.status_of_trial-answer.ensures) (rw (c.policy_of-policy.ensures, c.rule_of-rule.ensures) at c.take_and_show-tried.ensures.answers) (rw c.with_file.ensures.file c.in_ok-store.ensures.opened)
