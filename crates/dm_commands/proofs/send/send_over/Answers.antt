use Rattle.std.proofs.Common.{List, ℕ, take, subst}
use Rattle.std.proofs.lemmas.Result.{err_from_is_err_and}
use Rattle.dm_commands.specs.Streams.{AppendsApart}
use Rattle.dm_commands.proofs.send.send_over.Goals as goal

pub returns-in_err-write_apart-clause-prefix : goal.returns-in_err-write_apart-clause-prefix
returns-in_err-write_apart-clause-prefix g c =
    let q = err_from_is_err_and c.from_residual-in_err-write_apart.result c.from_residual-in_err-write_apart.ensures.1 in
    let cut = c.in_err-write_apart.ensures.prefix in
    let before = g.W.Write.contents c.args.writer.now in
    let after = g.W.Write.contents c.write_apart.new.writer in
    let others_before = g.E.Write.contents c.args.errors.now in
    let others_after = g.E.Write.contents c.write_apart.new.errors in
    rw (q.1, q.2) (λ is. record {
      out = c.in_ok-out.out.items;
      status = c.in_ok-out.sent.status;
      count = cut.0;
      answers = c.in_ok-out.ensures.ok;
      written = subst (λ (t : List ℕ). AppendsApart before after others_before others_after c.in_ok-out.sent.status (take cut.0 t)) c.deref.ensures.value cut.1;
    })

pub returns-clause-ok : goal.returns-clause-ok
returns-clause-ok g c = record {
  out = c.in_ok-out.out.items;
  answers = c.in_ok-out.ensures.ok;
  written = subst (AppendsApart (g.W.Write.contents c.args.writer.now) (g.W.Write.contents c.write_apart.new.writer) (g.E.Write.contents c.args.errors.now) (g.E.Write.contents c.write_apart.new.errors) c.in_ok-out.sent.status) c.deref.ensures.value c.in_ok-write_apart.ensures.ok;
}
