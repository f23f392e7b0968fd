use Rattle.std.proofs.Common.{◌≡◌, ◌+◌, ◌++◌, [], ◌∷◌, Some, codes, take, drop, refl, sym, ◌∙◌, subst}
use Rattle.std.proofs.lemmas.Bool.Decides.{Decides-eqb}
use Rattle.std.proofs.lemmas.List.{take_rest}
use Rattle.std.proofs.lemmas.Slice.Eq.{strip_prefix_is}
use Rattle.dm_journal.specs.Fields.{AreFields}
use Rattle.dm_journal.proofs.Known.{same_line, fields_push, line_here, no_line, none_unknown, not_empty, is_empty}
use Rattle.dm_journal.proofs.fields.unknown_field.Goals as goal

pub loop-end-init : goal.loop-end-init
loop-end-init c =
    let behind : c.args.file.now ≡ codes "dm journal fields\n" ++ c.in_ok-rest.rest.now =
    strip_prefix_is Decides-eqb c.args.file.now (codes "dm journal fields\n") (Some c.in_ok-rest.rest) c.in_ok-rest.ensures.cases in
    record { known = (c.in_ok-rest.rest.now, behind, ([], refl)) }

pub returns-then-is_empty-clause-none : goal.returns-then-is_empty-clause-none
returns-then-is_empty-clause-none c =
    let rest = c.loop-end.rest.now in
    let known = c.loop-end.invariant.known in
    let here = line_here rest c.in-Some.end c.in-Some.ensures in
    let none = is_empty (take c.in-Some.end rest) c.if-is_empty.ensures in
    none_unknown c.args.file.now known.0 known.2.0 rest known.1 known.2.1 (λ line more b. (same_line rest line (take c.in-Some.end rest) more (drop (c.in-Some.end + 1) rest) b here).0 ∙ none)

pub returns-then-not-is_known-clause-some : goal.returns-then-not-is_known-clause-some
returns-then-not-is_known-clause-some c =
    let rest = c.loop-end.rest.now in
    let known = c.loop-end.invariant.known in
    record {
      bytes = known.0;
      is = known.1;
      lines = known.2.0;
      rest = rest;
      known = known.2.1;
      more = drop (c.in-Some.end + 1) rest;
      stands = line_here rest c.in-Some.end c.in-Some.ensures;
      some = not_empty (take c.in-Some.end rest) c.if-is_empty.ensures;
      unknown = c.if-not-is_known.ensures;
    }

pub loop-end-preserved : goal.loop-end-preserved
loop-end-preserved c =
    let rest = c.loop-end.rest.now in
    let known = c.loop-end.invariant.known in
    let line = take c.in-Some.end rest in
    let next = drop (c.in-Some.end + 1) rest in
    let more = fields_push known.0 known.2.0 rest line next known.2.1 (line_here rest c.in-Some.end c.in-Some.ensures) c.if-not-is_known.ensures in
    record { known = (known.0, known.1, (known.2.0 ++ line ∷ [], subst (AreFields known.0 (known.2.0 ++ line ∷ [])) (sym (take_rest rest (c.in-Some.end + 1))) more)) }

pub returns-clause-none : goal.returns-clause-none
returns-clause-none c =
    let rest = c.loop-end.rest.now in
    let known = c.loop-end.invariant.known in
    none_unknown c.args.file.now known.0 known.2.0 rest known.1 known.2.1 (λ line more b. absurd (no_line rest c.in_default.ensures line more b))
