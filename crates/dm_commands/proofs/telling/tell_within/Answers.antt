use Rattle.std.proofs.Common.{List, ℕ, take, subst}
use Rattle.std.proofs.lemmas.Result.{err_from_is_err_and}
use Rattle.std.specs.Io.KnownBytes.{Appends}
use Rattle.dm_commands.proofs.telling.tell_within.Goals as goal

pub returns-in_err-write_text-clause-prefix : goal.returns-in_err-write_text-clause-prefix
returns-in_err-write_text-clause-prefix g c =
    let q = err_from_is_err_and c.from_residual-in_err-write_text.result c.from_residual-in_err-write_text.ensures.1 in
    let cut = c.in_err-write_text.ensures.prefix in
    rw (q.1, q.2) (λ is. record {
      out = c.in_ok-answer.answer.items;
      status = c.in_ok-answer.checked.status;
      count = cut.0;
      answers = record { text = c.in_ok-text.text.items; gives = c.in_ok-text.ensures.text; tells = c.in_ok-answer.ensures };
      written = subst (λ (t : List ℕ). Appends (g.W.Write.contents c.args.writer.now) (g.W.Write.contents c.write_text.new.writer) (take cut.0 t)) c.deref.ensures.value cut.1;
    })

pub returns-clause-ok : goal.returns-clause-ok
returns-clause-ok g c = record {
  out = c.in_ok-answer.answer.items;
  answers = record { text = c.in_ok-text.text.items; gives = c.in_ok-text.ensures.text; tells = c.in_ok-answer.ensures };
  written = subst (Appends (g.W.Write.contents c.args.writer.now) (g.W.Write.contents c.write_text.new.writer)) c.deref.ensures.value c.in_ok-write_text.ensures.ok;
}
