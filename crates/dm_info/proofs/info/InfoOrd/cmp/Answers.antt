use Rattle.std.specs.Cmp.Derive.Mapped.{lex_map}
use Rattle.dm_info.specs.Compared.{text_cmp}
use Rattle.dm_info.proofs.info.InfoOrd.cmp.Goals as goal

pub returns : goal.returns
returns g c = let e = lex_map (λ l. l.items) text_cmp c.self.inside.log.items c.other.inside.log.items in rw (← c.self.view_is, ← c.other.view_is, e) cc
