use Rattle.std.proofs.Common.{◌≡◌, take}
use Rattle.dm_agree.specs.Laws.{sent_texts}
use Rattle.dm_commands.specs.Running.{bytes_of, texts_in}
use Rattle.dm_remarks.proofs.agreeing.texts_sent.Given as goal

abbrev pub invariant-loop-poster : goal.invariant-loop-poster
invariant-loop-poster l = bytes_of l.all.items ≡ sent_texts (texts_in (take l.poster-index l.fn.posters))
