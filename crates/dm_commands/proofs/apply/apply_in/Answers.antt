use Rattle.std.proofs.Common.{List, ℕ, take, inl, inr, refl, subst}
use Rattle.std.proofs.lemmas.Result.{err_from_is_err_and}
use Rattle.std.specs.Io.KnownBytes.{Appends}
use Rattle.dm_scratch.specs.Taking.{TakesIn}
use Rattle.dm_commands.specs.Printing.{status_of}
use Rattle.dm_commands.proofs.AnswerLemmas.{base_is_not_read}
use Rattle.dm_commands.proofs.apply.apply_in.Goals as goal

pub returns-in_err-repo-clause-base_first : goal.returns-in_err-repo-clause-base_first
returns-in_err-repo-clause-base_first g c =
    let q = err_from_is_err_and c.from_residual.result c.from_residual.ensures.1 in
    rw (q.1, q.2) (inl (base_is_not_read c.args.base _ c.in_err-repo.ensures.err, refl))

pub returns-in_err-text-clause-base_first : goal.returns-in_err-text-clause-base_first
returns-in_err-text-clause-base_first g c =
    let q = err_from_is_err_and c.from_residual-in_err-text.result c.from_residual-in_err-text.ensures.1 in
    rw (q.1, q.2) (inr (c.in_ok-repo.repo.patches, c.in_ok-repo.ensures.ok))

pub returns-in_err-answer-clause-base_first : goal.returns-in_err-answer-clause-base_first
returns-in_err-answer-clause-base_first g c =
    let q = err_from_is_err_and c.from_residual-in_err-answer.result c.from_residual-in_err-answer.ensures.1 in
    rw (q.1, q.2) (inr (c.in_ok-repo.repo.patches, c.in_ok-repo.ensures.ok))

pub returns-in_err-write_text-clause-base_first : goal.returns-in_err-write_text-clause-base_first
returns-in_err-write_text-clause-base_first g c =
    let q = err_from_is_err_and c.from_residual-in_err-write_text.result c.from_residual-in_err-write_text.ensures.1 in
    rw (q.1, q.2) (inr (c.in_ok-repo.repo.patches, c.in_ok-repo.ensures.ok))

pub returns-in_err-write_text-clause-prefix : goal.returns-in_err-write_text-clause-prefix
returns-in_err-write_text-clause-prefix g c =
    let q = err_from_is_err_and c.from_residual-in_err-write_text.result c.from_residual-in_err-write_text.ensures.1 in
    let cut = c.in_err-write_text.ensures.prefix in
    rw (q.1, q.2) (λ is. record {
      out = c.in_ok-answer.answer.items;
      status = status_of c.take_in-verdict.result;
      count = cut.0;
      answers = record {
        start = c.in_ok-repo.repo.patches;
        text = c.in_ok-text.text.items;
        is_start = c.in_ok-repo.ensures.ok;
        gives = c.in_ok-text.ensures.text;
        answers = record {
          verdict = c.take_in-verdict.result;
          after = c.take_in-verdict.new.repo.patches;
          takes = subst (λ (t : List ℕ). TakesIn c.args.kinds c.in_ok-repo.repo.patches t c.args.policy c.take_in-verdict.result c.take_in-verdict.new.repo.patches) c.deref.ensures.value c.take_in-verdict.ensures;
          prints = c.in_ok-answer.ensures;
          exit = refl;
        };
      };
      written = subst (λ (t : List ℕ). Appends (g.W.Write.contents c.args.writer.now) (g.W.Write.contents c.write_text.new.writer) (take cut.0 t)) c.deref-2.ensures.value cut.1;
    })

pub returns-clause-ok : goal.returns-clause-ok
returns-clause-ok g c = record {
  out = c.in_ok-answer.answer.items;
  answers = record {
    start = c.in_ok-repo.repo.patches;
    text = c.in_ok-text.text.items;
    is_start = c.in_ok-repo.ensures.ok;
    gives = c.in_ok-text.ensures.text;
    answers = record {
      verdict = c.take_in-verdict.result;
      after = c.take_in-verdict.new.repo.patches;
      takes = subst (λ (t : List ℕ). TakesIn c.args.kinds c.in_ok-repo.repo.patches t c.args.policy c.take_in-verdict.result c.take_in-verdict.new.repo.patches) c.deref.ensures.value c.take_in-verdict.ensures;
      prints = c.in_ok-answer.ensures;
      exit = c.status_of.ensures;
    };
  };
  written = subst (Appends (g.W.Write.contents c.args.writer.now) (g.W.Write.contents c.write_text.new.writer)) c.deref-2.ensures.value c.in_ok-write_text.ensures.ok;
}

pub returns-clause-told : goal.returns-clause-told
returns-clause-told g c = record {
  start = c.in_ok-repo.repo.patches;
  is_start = c.in_ok-repo.ensures.ok;
  gives = c.in_ok-text.ensures.text;
  takes = subst (λ (t : List ℕ). TakesIn c.args.kinds c.in_ok-repo.repo.patches t c.args.policy c.take_in-verdict.result c.take_in-verdict.new.repo.patches) c.deref.ensures.value c.take_in-verdict.ensures;
  exit = c.status_of.ensures;
}
