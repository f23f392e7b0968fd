-- What a text has of a trailer.
use Rattle.std.proofs.Common.{arith, ◌≡◌, ℕ, List, None, Some, true, ap, ◌∙◌, true≢false}
use Rattle.std.specs.Prelude.{Bool, not, is_some, Option}
use Rattle.memchr.specs.Find.{FindsNeedle}
use Rattle.dm_hash.specs.Trailers.{trailer_mark}
use Rattle.dm_deliver.specs.declared.hash_rule.HashRule.{HashRule}
use Rattle.dm_deliver.specs.declared.hash_rule.HashRule.TheVariants.{NotWrong}
use Rattle.dm_deliver.specs.Hashes.{AsksNothing, of_this}

-- what begins a trailer wasn't found
pub no_mark : (rule : HashRule) (text : List ℕ) (found : Option ℕ) (none : Bool) → rule ≡ NotWrong → FindsNeedle text trailer_mark 0 found → is_some found ≡ not none → none ≡ true → AsksNothing rule text
no_mark rule text None none is finds e t = of_this is (λ i occurs. finds i (omega arith) (omega (arith, occurs.fits)) occurs)
no_mark rule text (Some k) none is finds e t = absurd (true≢false (e ∙ ap not t))
