use Rattle.std.proofs.Common.{◌∙◌, sym}
use Rattle.dm_store.proofs.KeptBase.{fold_base}
use Rattle.dm_store.specs.Keeping.{kept_as, kept_in}
use Rattle.dm_store.specs.Kinds.{kinds_in}
use Rattle.dm_commands.proofs.TakenOut.{some_new, takes_gone}
use Rattle.dm_files.proofs.LettingGoLemmas.{lets_stay}
use Rattle.dm_files.proofs.obliterating.take_out.Goals as goal

pub keep_or_show-requires-clause-takes_out : goal.keep_or_show-requires-clause-takes_out
keep_or_show-requires-clause-takes_out c =
    let store = c.args.store.now in
    let out = c.args.out in
    let o = c.requires.obliterates in
    let may = fold_base (kinds_in store) c.requires.stored.entries (kept_in store) c.requires.stored.folds in
    let some = some_new c.new_patches.result.now out.bundle.patches c.new_patches.ensures.value (sym c.is_empty.ensures ∙ c.if-is_empty.false) in
    λ text reads. record {
      base = store.base;
      chosen = c.args.chosen.now;
      gone = o.gone;
      bound = out.bound.items;
      obliterates = o.obliterates;
      some = λ none. some (o.cuts.patches ∙ none);
      kept = out.bundle;
      same = o.cuts.patches;
      is_taken = takes_gone store.repo.patches store.base c.args.chosen.now out.repo.patches out.bundle out.bound.items may o some;
      reads = reads;
    }

pub returns-then-is_empty-clause-any_moment : goal.returns-then-is_empty-clause-any_moment
returns-then-is_empty-clause-any_moment c =
    let store = c.args.store.now in
    lets_stay store (kept_as store.base c.args.out.repo.patches) c.args.saved.now c.requires.none c.requires.stored
