use Rattle.std.proofs.Common.{inl, inr, sym, true≢false, ◌∙◌}
use Rattle.dm_files.proofs.MirrorLemmas.{some_answered}
use Rattle.dm_files.proofs.NamedLemmas.{at_most, fewer}
use Rattle.dm_files.specs.Named.{CameAtMost}
use Rattle.dm_files.proofs.delivering.take_and_show.Goals as goal
use Rattle.dm_files.proofs.delivering.take_and_show.Goals.{then-all_accepted, else-all_accepted}

pub returns-in-Err-clause-answers_err : goal.returns-in-Err-clause-answers_err
returns-in-Err-clause-answers_err g c =
    some_answered (CameAtMost (g.F.Files.had c.args.files.now) c.args.asked.now) c.args.store.now c.take_words.new.store (fewer (g.F.Files.had c.args.files.now) c.args.asked.now) c.in-Err.ensures.delivers_by

pub returns-after-all_accepted-clause-answers : goal.returns-after-all_accepted-clause-answers
returns-after-all_accepted-clause-answers g c =
    let told = c.in-Ok.ensures.delivers in
    record {
      texts = told.0.texts;
      answers = told.0.answers;
      came = told.0.came;
      takes = told.0.takes;
      exit = elim c.if-all_accepted.branch [
        | then-all_accepted w ↦ inl (told.1.0 w.if-all_accepted.true, w.result-is)
        | else-all_accepted w ↦ inr (λ all. absurd (true≢false (sym (told.1.1 all) ∙ w.if-all_accepted.false)), w.result-is)
      ];
    }

pub returns-in-Err-show-clause-answers_err : goal.returns-in-Err-show-clause-answers_err
returns-in-Err-show-clause-answers_err g c =
    let told = c.in-Ok.ensures.delivers.0 in
    λ goes. record { texts = told.texts; answers = told.answers; came = at_most (g.F.Files.had c.args.files.now) c.args.asked.now told.texts told.came; takes = told.takes }
