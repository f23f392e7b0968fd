-- Where conflicts are refused, a text that isn't accepted changes nothing.
use Rattle.std.proofs.Common.{arith}
use Rattle.dm_scratch.specs.declared.verdict.Verdict.TheVariants.{Taken, TakenSome, NothingNew, Malformed, Refused}
use Rattle.dm_scratch.specs.Taking.{bundle, malformed, no_memory}
use Rattle.dm_scratch.specs.Laws.{RefusingTakesAllOrNothing}

pub refused_keeps : RefusingTakesAllOrNothing
refused_keeps limits repo text (Taken count) after refused t = absurd (refused tt)
refused_keeps limits repo text (TakenSome count skipped) after refused (bundle b r t) = let none = t.0.is_merge.merge.1 in absurd (omega (arith, none, t.2))
refused_keeps limits repo text (TakenSome count skipped) after refused (malformed f at e same) = same
refused_keeps limits repo text (TakenSome count skipped) after refused (no_memory e same) = same
refused_keeps limits repo text NothingNew after refused t = absurd (refused tt)
refused_keeps limits repo text (Malformed fault) after refused (bundle b r t) = absurd t
refused_keeps limits repo text (Malformed fault) after refused (malformed f at e same) = same
refused_keeps limits repo text (Malformed fault) after refused (no_memory e same) = same
refused_keeps limits repo text (Refused why) after refused (bundle b r t) = t.1
refused_keeps limits repo text (Refused why) after refused (malformed f at e same) = same
refused_keeps limits repo text (Refused why) after refused (no_memory e same) = same
