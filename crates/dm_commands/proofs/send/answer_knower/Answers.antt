use Rattle.std.proofs.Common.{◌∙◌, ap, inl, inr, length, refl, ⊎_elim}
use Rattle.std.proofs.lemmas.Result.{err_from_is_err_and}
use Rattle.dm_commands.specs.Sending.{IsRefusedFor, refused, sent}
use Rattle.dm_commands.proofs.SendLemmas.{sends_behind}
use Rattle.dm_commands.proofs.send.answer_knower.Goals as goal

pub returns-in_err-text-in-Ok-clause-err : goal.returns-in_err-text-in-Ok-clause-err
returns-in_err-text-in-Ok-clause-err c =
    let q = err_from_is_err_and c.from_residual-in_err-text-in-Ok.result c.from_residual-in_err-text-in-Ok.ensures.1 in
    let cut = c.in_ok-cut-in-Ok.cut in
    let sends = sends_behind c.args.is_minimal c.args.repo.now.patches c.args.base c.args.names.now c.args.most c.in-Ok.bundle cut c.is_lawful.ensures c.requires.knows c.in-Ok.ensures.sent c.in_ok-cut-in-Ok.ensures in
    rw (q.1, q.2) (⊎_elim (λ e. inl e) (λ e. inr (e.0, (c.requires.knows, (cut, sends, e.1)))) c.in_err-text-in-Ok.ensures.err)

pub returns-in_ok-text-in-Ok-clause-ok : goal.returns-in_ok-text-in-Ok-clause-ok
returns-in_ok-text-in-Ok-clause-ok c =
    sent c.requires.knows c.in_ok-cut-in-Ok.cut
    (sends_behind c.args.is_minimal c.args.repo.now.patches c.args.base c.args.names.now c.args.most c.in-Ok.bundle c.in_ok-cut-in-Ok.cut c.is_lawful.ensures c.requires.knows c.in-Ok.ensures.sent c.in_ok-cut-in-Ok.ensures)
    c.in_ok-text-in-Ok.ensures.text c.in_ok-text-in-Ok.ensures.reads refl

pub returns-in_ok-text-in-Ok-clause-told : goal.returns-in_ok-text-in-Ok-clause-told
returns-in_ok-text-in-Ok-clause-told c =
    let cuts = c.in_ok-cut-in-Ok.ensures in
    record {
      new = (c.requires.knows, (c.in-Ok.bundle, c.in-Ok.ensures.sent, ap length (c.new_patches.ensures.value ∙ cuts.patches)));
      unheld = c.requires.unheld;
      why = tt;
    }

pub returns-in_ok-line-in-Err : goal.returns-in_ok-line-in-Err
returns-in_ok-line-in-Err c =
    let why = c.in-Err.why in
    let is : IsRefusedFor c.args.is_minimal c.args.repo.now.patches c.args.base c.args.names.now c.args.most why = (c.in_ok-line-in-Err.ensures.answers, c.in-Err.ensures.refusal) in
    record {
      ok = refused c.requires.knows why is c.in_ok-line-in-Err.ensures.line c.status_of.ensures;
      told = record { new = inr (c.requires.knows, (why, is)); unheld = c.requires.unheld; why = is };
      err = tt;
    }
