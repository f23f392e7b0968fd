use Rattle.dm_tree.proofs.Copies.{three_on}
use Rattle.dm_tree.proofs.Plain.{if_ok_err}
use Rattle.dm_tree.proofs.chain.text_of.Goals as goal

pub returns-in_err-text : goal.returns-in_err-text
returns-in_err-text g c = if_ok_err c.from_residual.result _ c.from_residual.ensures.0

pub returns-in_err-append : goal.returns-in_err-append
returns-in_err-append g c = if_ok_err c.from_residual-in_err-append.result _ c.from_residual-in_err-append.ensures.0

pub returns-in_err-append-2 : goal.returns-in_err-append-2
returns-in_err-append-2 g c = if_ok_err c.from_residual-in_err-append-2.result _ c.from_residual-in_err-append-2.ensures.0

pub returns-in_err-append-3 : goal.returns-in_err-append-3
returns-in_err-append-3 g c = if_ok_err c.from_residual-in_err-append-3.result _ c.from_residual-in_err-append-3.ensures.0

pub returns : goal.returns
returns g c = three_on c.in_ok-text.text c.args.front.now c.args.middle.now c.args.back.now c.append.new.self c.append-2.new.self c.append-3.new.self c.in_ok-text.ensures c.in_ok-append.ensures.ok c.in_ok-append-2.ensures.ok c.in_ok-append-3.ensures.ok
