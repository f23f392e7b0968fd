use Rattle.std.proofs.Common.{◌≡◌, ◌∙◌, ◌++◌, ◌∷◌, [], List, ℕ, sym, ap, append_assoc}
use Rattle.std.specs.Prelude.{Some}
use Rattle.serde_json.specs.Read.{read}
use Rattle.serde_json.specs.View.{view}
use Rattle.serde_json.specs.Written.{compact_text}
use Rattle.dm_log.specs.Json.{patch_data}
use Rattle.dm_log.proofs.JsonShapes.{no_float, shallow}
use Rattle.dm_log.proofs.json_lines.push_line.Goals as goal

joined : (old line out last : List ℕ) (t : List ℕ) → line ≡ t → out ≡ old ++ line → last ≡ out ++ 10 ∷ [] → last ≡ old ++ (t ++ 10 ∷ [])
joined old line out last t e f h = rw (h, f, e) (append_assoc old t (10 ∷ []))

pub returns-clause-text : goal.returns-clause-text
returns-clause-text g c =
    let is = c.in_ok-patch_value.ensures in
    let text = (rw is at c.in_ok-line.ensures.text) (no_float c.args.place c.args.patch.now) in
    joined c.args.out.now.items c.in_ok-line.line.items c.extend_from_slice.new.self.items c.push.new.self.items _ text (c.in_ok-extend_from_slice.ensures.items ∙ ap (λ line. c.args.out.now.items ++ line) c.deref.ensures.value) c.in_ok-push.ensures.items

pub returns-clause-reads_back : goal.returns-clause-reads_back
returns-clause-reads_back g c =
    let is = c.in_ok-patch_value.ensures in
    let text = (rw is at c.in_ok-line.ensures.text) (no_float c.args.place c.args.patch.now) in
    let back = (rw is at c.in_ok-line.ensures.reads_back) (shallow c.args.place c.args.patch.now) in
    ap read (sym text) ∙ back
