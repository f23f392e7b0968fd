use Rattle.std.proofs.Common.{◌∙◌, inl, inr, refl}
use Rattle.dm_store.specs.Kinds.{kinds_in}
use Rattle.dm_store.specs.Keeping.{kept_in}
use Rattle.dm_store.proofs.KeptKinds.{fold_kinds}
use Rattle.dm_commands.proofs.TakenOut.{gives_back, stays_of_kinds}
use Rattle.dm_commands.proofs.obliterating.keep_and_let_go.Goals as goal

pub let_go-requires-clause-saved : goal.let_go-requires-clause-saved
let_go-requires-clause-saved g c = λ file left.
    let e = c.in_default.ensures.durable.only file left ∙ c.in_default.ensures.taken in
    rw e (gives_back (kinds_in c.args.store.now) c.args.store.now.repo.patches c.args.stays.patches c.args.text.now c.requires.takes_out)

pub returns-in-Err-clause-any_moment : goal.returns-in-Err-clause-any_moment
returns-in-Err-clause-any_moment g c = inl refl

pub returns-in-Ok-clause-any_moment : goal.returns-in-Ok-clause-any_moment
returns-in-Ok-clause-any_moment g c = inr c.let_go.ensures.any_moment

pub returns-in-Ok-clause-keeps : goal.returns-in-Ok-clause-keeps
returns-in-Ok-clause-keeps g c = rw (c.let_go.ensures.kinds, c.let_go.ensures.base) at c.in-Ok.ensures.kept

pub returns-in-Ok-clause-too_large : goal.returns-in-Ok-clause-too_large
returns-in-Ok-clause-too_large g c = λ not may.
    let store = c.args.store.now in
    let kept = c.requires.stored in
    let of_kinds = stays_of_kinds (kinds_in store) store.repo.patches c.args.stays.patches c.args.text.now c.requires.takes_out (fold_kinds (kinds_in store) kept.entries (kept_in store) kept.folds) in
    let fits = c.in-Ok.ensures.fits of_kinds may in
    (λ none. not (fits.1 (inl none)), λ few. not (fits.1 (inr few)))
