use Rattle.std.specs.Prelude.{codes}
use Rattle.dm_named.proofs.NamedLemmas.{four_more}
use Rattle.dm_named.proofs.writing.conflictors.push_conflictor.Goals as goal

pub returns-clause-ok : goal.returns-clause-ok
returns-clause-ok g c = rw (← c.partners.ensures, ← c.undone.ensures, ← c.own.ensures)
    (four_more c.args.out.now.items (codes "conflictor ") _ _ _ c.extend_from_slice.new.self.items c.push_partners.new.out.items c.push_undone.new.out.items c.push_original.new.out.items
    c.in_ok-extend_from_slice.ensures.items c.in_ok-push_partners.ensures.text c.in_ok-push_undone.ensures.text c.in_ok-push_original.ensures.text)

pub returns-clause-valid : goal.returns-clause-valid
returns-clause-valid g c = record {
  partners = rw (← c.partners.ensures) c.in_ok-push_partners.ensures.valid;
  undone = rw (← c.undone.ensures) c.in_ok-push_undone.ensures.valid;
  own = rw (← c.own.ensures) c.in_ok-push_original.ensures.valid;
}

pub returns-clause-bytes : goal.returns-clause-bytes
returns-clause-bytes g c = record {
  partners = rw (← c.partners.ensures) c.in_ok-push_partners.ensures.bytes;
  undone = rw (← c.undone.ensures) c.in_ok-push_undone.ensures.bytes;
  own = rw (← c.own.ensures) c.in_ok-push_original.ensures.bytes;
}
