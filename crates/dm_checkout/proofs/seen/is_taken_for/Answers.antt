use Rattle.std.proofs.Common.{rules, tests}
use Rattle.std.proofs.lemmas.Iterator.Search.{any_from_yields_List}
use Rattle.std.proofs.lemmas.Iterator.Splits.{YieldsList-from_slice_split}
use Rattle.dm_checkout.specs.Seen.{is_parting, is_word}
use Rattle.dm_checkout.proofs.seen.is_taken_for.Goals as goal

pub returns : goal.returns
returns c =
    any_from_yields_List (is_word c.args.word.now) _ _ c.any.result c.any.ensures.ran
    (YieldsList-from_slice_split _ is_parting c.args.compares.now c.split.ensures.rest c.split.ensures.done c.split.ensures.closure (λ x r q k. search (rules, tests)))
    (λ x b q k. search (rules, tests))
