use Rattle.std.proofs.Common.{◌≡◌, List, [], ◌∷◌, ◌++◌, Option, None, Some, option_map, ℕ, get_or, ap, ◌∙◌}
use Rattle.std.specs.Borrow.{Bor}
use Rattle.std.specs.Global.{Vec}
use Rattle.dm_tool.specs.Posters.{by_poster}
use Rattle.dm_tool.proofs.WordLemmas.{no_bytes, some_bytes}
use Rattle.dm_tool.proofs.GroupLemmas.{read_none_at, read_some_at}
use Rattle.dm_tool.proofs.commands.running.read_posters.Goals.{then-is_empty, else-is_empty+in_ok-text_of}
use Rattle.dm_tool.proofs.commands.running.read_posters.Goals as goal

abbrev none : Bor (List ℕ)
none = record { ref_ptr = (0, 0); now = [] }

pub loop-word-preserved : goal.loop-word-preserved
loop-word-preserved g c =
    let inv = c.loop-word.invariant in
    let word = get_or c.args.words.now c.loop-word.word-index (none, none) in
    let posters = λ (o : Option (Vec ℕ)). by_poster (inv.0 ++ (word.0.now, option_map {U = List ℕ} (λ t. t.items) o) ∷ []) in
    elim c.if-is_empty.branch [
      | then-is_empty w ↦ (
        inv.0 ++ (word.0.now, None) ∷ [],
        read_none_at (g.F.Files.had c.args.files.now) c.args.words.now c.loop-word.word-index (none, none) c.loop-word-test.true inv.0 inv.1 (no_bytes word.1.now w.if-is_empty.ensures),
        c.in_ok-add_text.ensures inv.0 inv.2 ∙ ap posters w.text-is,
      )
      | else-is_empty+in_ok-text_of w ↦ (
        inv.0 ++ (word.0.now, Some w.in_ok-text_of.field-0.items) ∷ [],
        read_some_at (g.F.Files.had c.args.files.now) c.args.words.now c.loop-word.word-index (none, none) c.loop-word-test.true inv.0 inv.1 w.in_ok-text_of.field-0 (some_bytes word.1.now w.if-is_empty.ensures) w.in_ok-text_of.ensures,
        c.in_ok-add_text.ensures inv.0 inv.2 ∙ ap posters w.text-is,
      )
    ]
