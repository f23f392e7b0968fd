use Rattle.std.proofs.Common.{◌≡◌, ap, sym, ◌∙◌}
use Rattle.std.specs.Hash.{slice, u8}
use Rattle.dm_info.specs.PatchInfo.{PatchInfo}
use Rattle.dm_info.proofs.Hashed.{four_fed, slice-map}
use Rattle.dm_info.proofs.info.InfoHash.hash.Goals as goal

pub returns : goal.returns
returns g c =
    let i = c.self.inside in
    let name : c.name.result.now ≡ i.opening.name = c.name.ensures ∙ ap (λ (x : PatchInfo). x.name) (sym c.self.view_is) in
    let author : c.author.result.now ≡ i.opening.author = c.author.ensures ∙ ap (λ (x : PatchInfo). x.author) (sym c.self.view_is) in
    let date : c.date.result.now ≡ i.opening.date = c.date.ensures ∙ ap (λ (x : PatchInfo). x.date) (sym c.self.view_is) in
    rw (← c.self.view_is, slice-map (slice u8) (λ l. l.items) i.log.items)
    (four_fed g.H.Hasher.write c.args.state.now c.hash.new.state c.hash-2.new.state c.hash-3.new.state c.hash-4.new.state (slice u8 i.opening.name) (slice u8 i.opening.author) (slice u8 i.opening.date) (slice (λ l. slice u8 l.items) i.log.items)
    (rw (← name) c.hash.ensures) (rw (← author) c.hash-2.ensures) (rw (← date) c.hash-3.ensures) c.hash-4.ensures)
