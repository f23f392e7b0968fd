use Rattle.std.proofs.Common.{◌≡◌, map, take}
use Rattle.dm_commands.proofs.running.texts_of.Given as goal

abbrev pub invariant-loop-poster : goal.invariant-loop-poster
invariant-loop-poster l = map (λ texts. map (λ text. text.now) texts.now) l.all.items ≡ map (λ p. map (λ text. text.now) p.1.now) (take l.poster-index l.fn.posters)
