use Rattle.std.proofs.Common.{◌∙◌, ◌∷◌, ◌++◌, List, ℕ, take, drop, sym, ap, subst, arith, length-drop}
use lib.Seq.{take-add}
use Rattle.std.proofs.lemmas.List.{take_rest}
use Rattle.std.specs.Io.KnownBytes.{Appends}
use Rattle.std.proofs.KnownBytes.{Appends-trans}
use Rattle.dm_deliver.specs.Calls.{Call, wrote}
use Rattle.dm_deliver.proofs.line.write_line.Goals as goal

pub loop-written-preserved : goal.loop-written-preserved
loop-written-preserved g c =
    let line = c.args.line.now in
    let written = c.loop-written.written in
    let count = c.in_ok-written.field-0 in
    let bytes = rw (take_rest line written) at c.in_ok-written.ensures.bytes in
    let bound = rw (take_rest line written) at c.in_ok-written.ensures.bound in
    let noted = rw (take_rest line written) at c.in_ok-written.ensures.noted in
    let so_far = c.loop-written.invariant in (
      omega (arith, so_far.0, bound.1, length-drop written line),
      subst (Appends (g.W.Write.contents c.args.writer.now.writer) (g.W.Write.contents c.write.new.self.writer)) (sym (take-add written count line))
          (Appends-trans (g.W.Write.contents c.args.writer.now.writer) (g.W.Write.contents c.loop-written.writer.writer) (g.W.Write.contents c.write.new.self.writer) (take written line) (take count (drop written line)) so_far.1 bytes),
      (
        wrote (take count (drop written line)) ∷ so_far.2.0,
        noted ∙ ap (λ (l : List Call). wrote (take count (drop written line)) ∷ l) so_far.2.1,
        ap (λ (l : List ℕ). l ++ take count (drop written line)) so_far.2.2 ∙ sym (take-add written count line),
      ),
    )
