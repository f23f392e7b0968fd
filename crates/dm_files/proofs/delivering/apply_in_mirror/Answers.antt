use Rattle.std.proofs.Common.{◌∙◌, List, Some, ap}
use Rattle.dm_disk.specs.Events.{Event}
use Rattle.dm_files.proofs.DoneLemmas.{refused, written}
use Rattle.dm_files.proofs.delivering.apply_in_mirror.Goals as goal

pub returns-in-Err : goal.returns-in-Err
returns-in-Err g c =
    let store = c.in_ok-store.store in
    refused (g.F.Files.had c.args.files.now) c.args.asked.now c.args.path.now store c.with_file.result c.requires c.in_ok-store.ensures.opened c.in-Err.fault c.in_ok-store.ensures.stored c.with_file.ensures.answer
    (c.with_file.ensures.file ∙ ap (λ (f : List Event). Some f) (c.close.ensures ∙ c.into_device.ensures))

pub returns : goal.returns
returns g c =
    let store = c.in_ok-store.store in
    let taken = c.take_into-file in
    written (g.F.Files.had c.args.files.now) c.args.asked.now c.args.path.now store c.with_file-2.result c.requires c.in_ok-store.ensures.opened taken.result.1 taken.result.0
    (c.with_file-2.ensures.file ∙ ap (λ (f : List Event). Some f) c.close-2.ensures) (rw c.with_file-2.ensures.answer c.status_of_writing-answer.ensures)
    (rw (c.policy_of-policy.ensures, c.rule_of-rule.ensures) at taken.ensures.answers) (rw (c.policy_of-policy.ensures, c.rule_of-rule.ensures) at taken.ensures.any_moment)
