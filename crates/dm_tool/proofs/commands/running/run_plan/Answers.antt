use Rattle.std.proofs.Common.{◌∙◌, ℕ, List, ap, refl}
use Rattle.std.specs.Borrow.{Bor}
use Rattle.dm_commands.specs.declared.alike.Mirrors.{Mirrors}
use Rattle.dm_files.proofs.ChoosingLemmas.{choosing}
use Rattle.dm_tool.specs.Held.{posters_in}
use Rattle.dm_tool.specs.Posters.{bytes_of}
use Rattle.dm_tool.proofs.PlanLemmas.{is_run}
use Rattle.dm_tool.proofs.commands.running.run_plan.Goals as goal

abbrev all_of : Bor (List (Bor (List ℕ))) → List (List ℕ)
all_of words = bytes_of words.now

pub returns-in-Ok : goal.returns-in-Ok
returns-in-Ok g c = λ answers.
    let words = (ap all_of c.unwrap_or.ensures ∙ choosing c.args.asked.now.posters _ refl) in
    let read = c.in_ok-posters.ensures in
    let ran = c.in-Ok.ensures.status in
    let mirrors : Mirrors = record { base = c.base_or_empty.result; policy = c.policy_of.result; count = c.args.asked.now.mirrors; bound = c.args.asked.now.bound } in
    is_run (g.F.Files.had c.args.files.now) c.args.asked.now c.in-Ok.status c.in_ok-words.words.items (all_of c.unwrap_or.result) (posters_in c.in_ok-posters.posters) read.0 c.in_ok-file.file mirrors ran.0
    words c.in_ok-words.ensures.split (rw c.deref.ensures.value at read.1) read.2 c.in_ok-file.ensures c.base_or_empty.ensures c.policy_of.ensures refl refl ran.1 ran.2
