use Rattle.std.proofs.Common.{◌∙◌}
use Rattle.dm_store.specs.Kinds.{kinds_in}
use Rattle.dm_commands.proofs.TakenOut.{gives_back}
use Rattle.dm_files.proofs.MirrorLemmas.{if_ok}
use Rattle.dm_files.proofs.LettingGoLemmas.{loses_nothing}
use Rattle.dm_files.proofs.obliterating.keep_in_file.Goals as goal

pub returns-in-Ok-clause-any_moment : goal.returns-in-Ok-clause-any_moment
returns-in-Ok-clause-any_moment c =
    loses_nothing c.args.store.now c.keep_and_let_go.new.store c.args.stays.patches _ c.requires.stored c.keep_and_let_go.ensures.any_moment

pub returns-in-Err-Bundle-clause-any_moment : goal.returns-in-Err-Bundle-clause-any_moment
returns-in-Err-Bundle-clause-any_moment c =
    loses_nothing c.args.store.now c.keep_and_let_go.new.store c.args.stays.patches _ c.requires.stored c.keep_and_let_go.ensures.any_moment

pub returns-in-Err-Mirror-clause-any_moment : goal.returns-in-Err-Mirror-clause-any_moment
returns-in-Err-Mirror-clause-any_moment c =
    loses_nothing c.args.store.now c.keep_and_let_go.new.store c.args.stays.patches _ c.requires.stored c.keep_and_let_go.ensures.any_moment

pub returns-in-Ok-clause-keeps : goal.returns-in-Ok-clause-keeps
returns-in-Ok-clause-keeps c = if_ok c.finish.result (λ u done. rw (c.in-Ok.ensures.done done) at c.in-Ok.ensures.keeps) c.finish.ensures

pub returns-in-Ok-clause-saved : goal.returns-in-Ok-clause-saved
returns-in-Ok-clause-saved c = if_ok c.finish.result (λ u done file left.
    let kept = c.in-Ok.ensures.kept in
    rw (kept.0.only file left ∙ kept.1) (gives_back (kinds_in c.args.store.now) c.args.store.now.repo.patches c.args.stays.patches c.args.text.now c.requires.takes_out)) c.finish.ensures
