use Rattle.std.proofs.Common.{◌≡◌, ◌∷◌, ◌++◌, [], List, ℕ, ap, sym, ◌∙◌}
use Rattle.serde_json.specs.Data.{object}
use Rattle.serde_json.specs.Read.{read}
use Rattle.serde_json.specs.View.{view}
use Rattle.dm_log.specs.JsonObjects.{members_in}
use Rattle.dm_rests.specs.Rests.{with_rests}
use Rattle.dm_rests.proofs.RestLemmas.{no_float, shallow}
use Rattle.dm_rests.proofs.lines.rests_line.Goals as goal

pub returns : goal.returns
returns c =
    let rests = c.in_ok-rests.ensures in
    let made : members_in c.put.new.self ≡ with_rests c.args.place c.args.patch.now rests.0 = rw (rests.2, c.in_ok-object.ensures) at c.in_ok-put.ensures in
    let is : view c.into_value.result ≡ object (with_rests c.args.place c.args.patch.now rests.0) = c.into_value.ensures ∙ ap object made in
    let text = (rw is at c.in_ok-line.ensures.text) (no_float c.args.place c.args.patch.now rests.0) in
    let back = (rw is at c.in_ok-line.ensures.reads_back) (shallow c.args.place c.args.patch.now rests.0) in
    record {
      names = rests.0;
      rest = rw c.info.ensures at rests.1;
      text = c.in_ok-push.ensures.items ∙ ap (λ (t : List ℕ). t ++ 10 ∷ []) text;
      reads_back = ap read (sym text) ∙ back;
    }
