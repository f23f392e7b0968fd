use Rattle.std.proofs.Common.{refl}
use Rattle.std.specs.FinMap as map
use Rattle.std.proofs.lemmas.Result.{err_from_is_err_and}
use Rattle.dm_prim.proofs.ApplyLemmas.{turn_refused, turns_nothing, turns_file, turn_answers}
use Rattle.dm_prim.proofs.effect.turn.Goals as goal

pub returns-in_err-turned_at-clause-change : goal.returns-in_err-turned_at-clause-change
returns-in_err-turned_at-clause-change g c =
    let p = err_from_is_err_and c.from_residual.result c.from_residual.ensures.1 in
    let w = c.args.replace.now.words in
    rw (p.1, p.2) (refl, turn_refused (map.get c.args.tree.now) c.args.replace.now.path w.set w.old w.new (Unit {0}) c.in_err-turned_at.field-0.0 c.in_err-turned_at.ensures.fault)

pub returns-in_err-turned_at-clause-fault : goal.returns-in_err-turned_at-clause-fault
returns-in_err-turned_at-clause-fault g c =
    let p = err_from_is_err_and c.from_residual.result c.from_residual.ensures.1 in
    rw (p.1, p.2) c.in_err-turned_at.ensures.fault

pub returns-in-None-clause-change : goal.returns-in-None-clause-change
returns-in-None-clause-change g c =
    let w = c.args.replace.now.words in
    let t = rw c.in-None.is at c.in_ok-turned_at.ensures.same in
    turns_nothing c.args.tree.now c.args.tree.now c.args.replace.now.path w.set w.old w.new t.0 t.1 t.2 refl

pub returns-in-None-clause-fault : goal.returns-in-None-clause-fault
returns-in-None-clause-fault g c =
    let t = rw c.in-None.is at c.in_ok-turned_at.ensures.same in
    (t.0, t.0, t.1, t.2)

pub returns-in-Some-clause-change : goal.returns-in-Some-clause-change
returns-in-Some-clause-change g c =
    let w = c.args.replace.now.words in
    let t = rw c.in-Some.is at c.in_ok-turned_at.ensures.turned in
    turns_file c.args.tree.now c.edit.new.self c.args.replace.now.path w.set w.old w.new c.edit.result c.in-Some.turned.old c.in-Some.turned.new t.0 t.1
    (rw c.path.ensures at c.edit.ensures.fault) (rw c.path.ensures at c.edit.ensures.ok) c.edit.ensures.err

pub returns-in-Some-clause-fault : goal.returns-in-Some-clause-fault
returns-in-Some-clause-fault g c =
    let w = c.args.replace.now.words in
    let t = rw c.in-Some.is at c.in_ok-turned_at.ensures.turned in
    turn_answers (map.get c.args.tree.now) c.args.replace.now.path w.set w.old w.new c.in-Some.turned.old c.in-Some.turned.new t.0 t.1 c.edit.result (rw c.path.ensures at c.edit.ensures.fault)
