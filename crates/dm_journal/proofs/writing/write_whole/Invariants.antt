use Rattle.std.proofs.Common.{◌≡◌, [], take, map}
use Rattle.dm_journal.specs.Journal.{Begins, link_after, link_bytes}
use Rattle.dm_journal.proofs.writing.write_whole.Given as goal

abbrev pub invariant-loop-text : goal.invariant-loop-text
invariant-loop-text l = record {
  begins : Begins l.format l.bytes.items (map (λ text. text.now) (take l.text-index l.texts)) [];
  linked : link_bytes l.link ≡ link_after l.format [] (map (λ text. text.now) (take l.text-index l.texts));
}
