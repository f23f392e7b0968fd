use Rattle.std.proofs.Common.{◌∙◌}
use Rattle.dm_commands.proofs.BeginLemmas.{something_new, short_of_memory, merged_whole}
use Rattle.dm_commands.proofs.beginning.repo_of_patches.Goals as goal

pub append_owned-requires : goal.append_owned-requires
append_owned-requires c = record { weighed = rw c.in-Ok-Merged.field-0-is at c.in-Ok-Merged.ensures.leaves_repo }

pub returns-in_ok-append_owned-in-Ok-Merged : goal.returns-in_ok-append_owned-in-Ok-Merged
returns-in_ok-append_owned-in-Ok-Merged c =
    let weighed = rw (c.new-repo.ensures, c.without_doubles-bundle.ensures, c.new.ensures.items) at c.in-Ok-Merged.ensures.weighed in
    let m = rw c.in-Ok-Merged.field-0-is at weighed in
    rw (c.in_ok-append_owned-in-Ok-Merged.ensures.patches, c.new-repo.ensures) (merged_whole c.args.patches.items c.requires c.in-Ok-Merged.merged.patches.items c.in-Ok-Merged.merged.skipped m.0)

pub unreachable-requires : goal.unreachable-requires
unreachable-requires c =
    let weighed = rw (c.new-repo.ensures, c.without_doubles-bundle.ensures, c.new.ensures.items) at c.in-Ok-NothingNew.ensures.weighed in
    something_new c.args.patches.items c.requires (rw c.in-Ok-NothingNew.field-0-is at weighed)

pub short_of_memory-requires : goal.short_of_memory-requires
short_of_memory-requires c =
    let refused = rw (c.new-repo.ensures, c.without_doubles-bundle.ensures, c.new.ensures.items) at c.in-Err.ensures.refusal in
    short_of_memory c.args.patches.items c.requires c.in-Err.why refused
