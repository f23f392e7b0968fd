use Rattle.std.proofs.Common.{◌≡◌, List, [], ◌∷◌, ◌++◌, Option, None, Some, option_map, unwrap_or, ℕ, map, sym, ap, ◌∙◌, append-nil}
use Rattle.std.specs.Global.{Vec}
use Rattle.std.proofs.lemmas.List.{map-append}
use Rattle.dm_tool.specs.Posters.{ReadWord, by_poster}
use Rattle.dm_tool.specs.Held.{held, items_of, posters_in}
use Rattle.dm_tool.proofs.GroupLemmas.{added}
use Rattle.dm_tool.proofs.commands.running.add_text.Goals as goal

pub returns-in_ok-push-in-Some : goal.returns-in_ok-push-in-Some
returns-in_ok-push-in-Some c = λ words so_far.
    let e = c.in_ok-posters.ensures in
    let had = c.or_insert-texts.ensures.value ∙ ap (λ (o : Option (Vec (Vec ℕ))). unwrap_or o c.new.result) e.value in
    let more = ap items_of c.in_ok-push-in-Some.ensures.items ∙ map-append {B = List ℕ} (λ (t : Vec ℕ). t.items) c.or_insert-texts.result.now.items (c.in-Some.text ∷ [])
    ∙ ap (λ (v : Vec (Vec ℕ)). items_of v.items ++ c.in-Some.text.items ∷ []) had in
    ap posters_in (c.posters-in-Some-2-1.given.1 (sym e.same_map)) ∙ ap held (e.update.1 c.push.new.self)
    ∙ added c.args.posters.now.entries c.args.poster c.new.result c.push.new.self (Some c.in-Some.text.items) words c.new.ensures.items more so_far
    ∙ ap (λ (o : Option (Vec ℕ)). by_poster (words ++ (c.args.poster.now, option_map {U = List ℕ} (λ t. t.items) o) ∷ [])) (sym c.in-Some.is)

pub returns-in-None : goal.returns-in-None
returns-in-None c = λ words so_far.
    let e = c.in_ok-posters.ensures in
    let had = c.or_insert-texts.ensures.value ∙ ap (λ (o : Option (Vec (Vec ℕ))). unwrap_or o c.new.result) e.value in
    let more = sym (append-nil (items_of c.or_insert-texts.result.now.items)) ∙ ap (λ (v : Vec (Vec ℕ)). items_of v.items ++ []) had in
    ap posters_in (c.posters-in-None-2-1.given.1 (sym e.same_map)) ∙ ap held (e.update.1 c.or_insert-texts.result.now)
    ∙ added c.args.posters.now.entries c.args.poster c.new.result c.or_insert-texts.result.now None words c.new.ensures.items more so_far
    ∙ ap (λ (o : Option (Vec ℕ)). by_poster (words ++ (c.args.poster.now, option_map {U = List ℕ} (λ t. t.items) o) ∷ [])) (sym c.in-None.is)
