use Rattle.std.proofs.Common.{◌≡◌, true, rules, refl}
use Rattle.dm_info.specs.Compared.{text_eq}
use Rattle.dm_info.proofs.Same.{joined}
use Rattle.dm_info.proofs.info.Info.same.Goals as goal

pub returns : goal.returns
returns g c =
    let x = c.args.self.now in
    let y = c.args.other.now in
    let name : text_eq x.name y.name ≡ true = search rules in
    let author : text_eq x.author y.author ≡ true = search rules in
    let date : text_eq x.date y.date ≡ true = search rules in
    let h = c.if-ne.ensures in
    rw (name, author, date) at
    (joined x y (text_eq x.name y.name) (text_eq x.author y.author) (text_eq x.date y.date) c.are_same_lines.result refl refl refl
    (rw (← c.self.view_is, ← c.other.view_is, ← c.deref.ensures.value, ← c.deref-2.ensures.value) c.are_same_lines.ensures))
