use Rattle.std.proofs.Common.{◌≡◌, ◌∷◌, [], ◌++◌, ap, sym, ◌∙◌, append_assoc}
use Rattle.std.specs.Fs.{metadata_mode}
use Rattle.dm_folder.specs.Listed.{Unknown}
use Rattle.dm_folder.specs.Walks.{name_place}
use Rattle.dm_folder.proofs.EventLemmas.{later_one}
use Rattle.dm_folder.proofs.ListedLemmas.{known_more}
use Rattle.dm_folder.proofs.system.kind_under.Goals as goal

pub returns-in-Err-clause-asked : goal.returns-in-Err-clause-asked
returns-in-Err-clause-asked c = λ earlier found is. Unknown c.args.log.now.events found c.args.name.now is c.in-Err.ensures.cases.0

pub returns-clause-asked : goal.returns-clause-asked
returns-clause-asked c = λ earlier found is.
    let u = c.in-Ok.ensures.cases in
    let at : c.as_str-2.result.now ≡ name_place c.args.place.now c.args.name.now = c.as_str-2.ensures.value ∙ c.in_ok-path.ensures.ok ∙ ap (λ text. c.args.place.now ++ 47 ∷ text) u.0 ∙ sym (append_assoc c.args.place.now (47 ∷ []) c.args.name.now) in
    known_more c.args.place.now c.args.name.now c.as_str-2.result.now earlier c.args.log.now.events c.stood.new.self.events found (metadata_mode c.in_ok-metadata.metadata) c.kind_of.result u.1 at c.kind_of.ensures.mode c.stood.ensures is

pub returns-clause-later : goal.returns-clause-later
returns-clause-later c = later_one _ _ _ c.stood.ensures
