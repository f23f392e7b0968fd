use Rattle.dm_deliver.proofs.HashLemmas.{no_mark}
use Rattle.dm_deliver.proofs.hash_rule.asks_nothing.Goals as goal

pub returns-in-NotWrong : goal.returns-in-NotWrong
returns-in-NotWrong c = λ none. no_mark c.args.rule c.args.text.now c.find.result c.is_none.result c.in-NotWrong.is c.find.ensures c.is_none.ensures none
