use Rattle.std.proofs.Common.{◌≡◌, ℕ, List, sym, subst}
use Rattle.std.specs.Prelude.{IfOk}
use Rattle.serde_json.specs.Data.{string}
use Rattle.serde_json.specs.View.{view}
use Rattle.dm_log.proofs.JsonLemmas.{readable-IsUtf8, readable-other}
use Rattle.dm_log.proofs.json_lines.object.readable_value.Goals as goal

pub returns-in-Ok : goal.returns-in-Ok
returns-in-Ok c =
    let e = readable-IsUtf8 c.args.text.now c.in-Ok.ensures.cases.1 in
    let same = c.in-Ok.ensures.cases.0 in
    subst (λ (z : List ℕ). IfOk c.try_from_str.result (λ v. view v ≡ string z)) (sym e) (rw same at c.try_from_str.ensures)

pub returns-in-Err : goal.returns-in-Err
returns-in-Err c =
    let e = readable-other c.args.text.now c.in-Err.ensures.cases.0 in
    subst (λ (z : List ℕ). IfOk c.escaped_value.result (λ v. view v ≡ string z)) (sym e) c.escaped_value.ensures
