use Rattle.std.proofs.Common.{◌∙◌, ◌++◌, ◌∷◌, [], List, ℕ, sym, ap}
use Rattle.serde_json.specs.Read.{read}
use Rattle.dm_told.proofs.line.line_of.Goals as goal

pub returns-clause-text : goal.returns-clause-text
returns-clause-text c =
    let text = (rw c.into_value.ensures at c.in_ok-line.ensures.text) c.requires.exact in
    c.in_ok-push.ensures.items ∙ ap (λ (t : List ℕ). t ++ 10 ∷ []) text

pub returns-clause-reads_back : goal.returns-clause-reads_back
returns-clause-reads_back c =
    let text = (rw c.into_value.ensures at c.in_ok-line.ensures.text) c.requires.exact in
    ap read (sym text) ∙ (rw c.into_value.ensures at c.in_ok-line.ensures.reads_back) c.requires.shallow
