use Rattle.std.proofs.Common.{◌≡◌, length, sym, ◌∙◌}
use Rattle.std.proofs.lemmas.Bool.{eqb-true}
use Rattle.std.proofs.lemmas.Result.{IfOk-weaker, MatchResult-weaker, err_from_is_err_and}
use Rattle.dm_folder.specs.Walks.{rows_in}
use Rattle.dm_folder.proofs.ReadLemmas.{build_fault, list_fault, none_refused, reads_kept}
use Rattle.dm_folder.proofs.reading.read_folder.Goals as goal

pub returns-in_err-rows-clause-err : goal.returns-in_err-rows-clause-err
returns-in_err-rows-clause-err g c =
    let p = err_from_is_err_and c.from_residual.result c.from_residual.ensures.1 in
    let source = c.walk_folder.new.source in
    rw (p.1, p.2) (list_fault (g.S.Source.Lists source) (g.S.Source.Holds source) (g.S.Source.Fails source) c.args.special c.args.top.now c.in_err-rows.field-0.0 c.in_err-rows.ensures.err)

pub returns-clause-ok : goal.returns-clause-ok
returns-clause-ok g c =
    let lists = g.S.Source.Lists c.walk_folder.new.source in
    let after = c.build.new.source in
    let walked = c.in_ok-rows.field-0 in
    let same : c.deref.result.now ≡ walked.rows.items = cc in
    let none : length walked.refused.items ≡ 0 = sym walked.refused.ok.0 ∙ eqb-true _ _ (sym c.is_empty.ensures ∙ c.if-not-is_empty.false) in
    let walk = none_refused lists c.args.special c.args.top.now walked.rows.items c.deref.result.now walked.refused.items same none c.in_ok-rows.ensures.ok in
    IfOk-weaker c.build.result _ _ (reads_kept lists (g.S.Source.Lists after) (g.S.Source.Holds after) c.build.ensures.keeps.lists_stay c.args.special c.args.top.now (rows_in c.deref.result.now) walk) c.build.ensures.ok

pub returns-clause-err : goal.returns-clause-err
returns-clause-err g c =
    let lists = g.S.Source.Lists c.walk_folder.new.source in
    let after = c.build.new.source in
    let walked = c.in_ok-rows.field-0 in
    let same : c.deref.result.now ≡ walked.rows.items = cc in
    let none : length walked.refused.items ≡ 0 = sym walked.refused.ok.0 ∙ eqb-true _ _ (sym c.is_empty.ensures ∙ c.if-not-is_empty.false) in
    let walk = none_refused lists c.args.special c.args.top.now walked.rows.items c.deref.result.now walked.refused.items same none c.in_ok-rows.ensures.ok in
    MatchResult-weaker c.build.result c.build.ensures.err (λ t told. told) (build_fault lists (g.S.Source.Lists after) (g.S.Source.Holds after) (g.S.Source.Fails after) c.build.ensures.keeps.lists_stay c.args.special c.args.top.now (rows_in c.deref.result.now) walk)
