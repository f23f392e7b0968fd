use Rattle.std.proofs.Common.{◌≡◌, List, [], ◌∷◌, ◌++◌, ℕ, sym, ap, subst, take, ◌+◌}
use Rattle.std.specs.Borrow.{Bor}
use Rattle.dm_files.specs.declared.word_fault.WordFault.{WordFault}
use Rattle.dm_files.specs.declared.word_fault.WordFault.TheVariants.{BadPosterWord}
use Rattle.dm_tool.specs.Posters.{AreSplit, IsFirstBad, bytes_of}
use Rattle.dm_tool.specs.Held.{words_in}
use Rattle.dm_tool.proofs.WordLemmas.{split_more, split_stops}
use Rattle.dm_tool.proofs.commands.running.split_words.Goals as goal

abbrev blamed : Bor (List ℕ) → WordFault → Bor (List ℕ)
blamed other (BadPosterWord word) = word
blamed other fault = other

pub returns-in_default-clause-bad : goal.returns-in_default-clause-bad
returns-in_default-clause-bad c = λ word is.
    subst (λ (w : Bor (List ℕ)). IsFirstBad (bytes_of c.args.words.now) w.now) (ap (blamed word) is)
    (split_stops c.args.words.now c.loop-word.word-index (record { ref_ptr = (0, 0); now = [] }) c.loop-word-test.true c.loop-word.pairs.items c.loop-word.invariant c.in_default.ensures)

pub loop-word-preserved : goal.loop-word-preserved
loop-word-preserved c =
    subst (λ (l : List (Bor (List ℕ) × Bor (List ℕ))). AreSplit (bytes_of (take (c.loop-word.word-index + 1) c.args.words.now)) (words_in l)) (sym c.in_ok-push.ensures.items)
    (split_more c.args.words.now c.loop-word.word-index (record { ref_ptr = (0, 0); now = [] }) c.loop-word-test.true c.loop-word.pairs.items c.loop-word.invariant c.in-Some.pair c.in-Some.ensures)
