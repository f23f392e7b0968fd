use Rattle.std.proofs.Common.{◌≡◌, ◌++◌, ℕ, List, OnOk, sym, subst}
use Rattle.dm_log.proofs.ShownLemmas.{shown-IsUtf8, shown-other}
use Rattle.dm_log.proofs.shown.push_shown.Goals as goal

pub returns-in-Ok : goal.returns-in-Ok
returns-in-Ok g c =
    let e = shown-IsUtf8 c.args.text.now c.in-Ok.ensures.cases.1 in
    let same = c.in-Ok.ensures.cases.0 in
    let P : List ℕ → Type 0 = λ z. OnOk c.push_chars.result (c.push_chars.new.out.items ≡ c.args.out.now.items ++ z) in
    subst P (sym e) (rw same at c.push_chars.ensures)

pub returns-in-Err : goal.returns-in-Err
returns-in-Err g c =
    let e = shown-other c.args.text.now c.in-Err.ensures.cases.0 in
    let P : List ℕ → Type 0 = λ z. OnOk c.push_bytes.result (c.push_bytes.new.out.items ≡ c.args.out.now.items ++ z) in
    subst P (sym e) c.push_bytes.ensures
