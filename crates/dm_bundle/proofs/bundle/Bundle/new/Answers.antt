use Rattle.dm_bundle.proofs.bundle.Bundle.new.Goals as goal

pub returns-then-are_mixed-clause-doubled : goal.returns-then-are_mixed-clause-doubled
returns-then-are_mixed-clause-doubled g c = λ none. c.if-are_mixed.ensures (rw (c.deref-2.ensures.value, c.deref-3.ensures.value) none.apart)

pub without_doubles-requires : goal.without_doubles-requires
without_doubles-requires g c = record { distinct = rw (← c.deref.ensures.value) c.if-are_doubled.ensures; apart = rw (← c.deref-2.ensures.value, ← c.deref-3.ensures.value) c.if-are_mixed.ensures }

pub returns-clause-no_doubles : goal.returns-clause-no_doubles
returns-clause-no_doubles g c = record { distinct = rw (← c.deref.ensures.value) c.if-are_doubled.ensures; apart = rw (← c.deref-2.ensures.value, ← c.deref-3.ensures.value) c.if-are_mixed.ensures }
