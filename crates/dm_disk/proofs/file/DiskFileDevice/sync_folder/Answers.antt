use Rattle.std.proofs.Common.{true, ◌∷◌, ap, subst, ◌∙◌}
use Rattle.dm_disk.specs.Events.{synced_folder}
use Rattle.dm_disk.specs.States.{IsGivenBack}
use Rattle.dm_disk.proofs.Outcomes.{file_after_giving_back, after_giving_back, time_of_giving_back}
use Rattle.dm_disk.proofs.file.DiskFileDevice.sync_folder.Goals as goal

pub returns-then-is_some-clause-file : goal.returns-then-is_some-clause-file
returns-then-is_some-clause-file c =
    let given : IsGivenBack (synced_folder true ∷ c.args.self.now) c.give_back.new.self = subst (λ h. IsGivenBack h c.give_back.new.self) (c.synced_folder.ensures ∙ ap (λ h. synced_folder true ∷ h) c.self.view_is) c.give_back.ensures.given in
    file_after_giving_back c.args.self.now c.give_back.new.self given

pub returns-then-is_some-clause-crash : goal.returns-then-is_some-clause-crash
returns-then-is_some-clause-crash c =
    let given : IsGivenBack (synced_folder true ∷ c.args.self.now) c.give_back.new.self = subst (λ h. IsGivenBack h c.give_back.new.self) (c.synced_folder.ensures ∙ ap (λ h. synced_folder true ∷ h) c.self.view_is) c.give_back.ensures.given in
    after_giving_back c.args.self.now c.give_back.new.self given

pub returns-then-is_some-clause-time : goal.returns-then-is_some-clause-time
returns-then-is_some-clause-time c =
    let given : IsGivenBack (synced_folder true ∷ c.args.self.now) c.give_back.new.self = subst (λ h. IsGivenBack h c.give_back.new.self) (c.synced_folder.ensures ∙ ap (λ h. synced_folder true ∷ h) c.self.view_is) c.give_back.ensures.given in
    time_of_giving_back c.args.self.now c.give_back.new.self given
