use Rattle.std.proofs.Common.{◌∙◌, arith}
use Rattle.std.proofs.lemmas.Bool.{eq-eqb, false≢true}
use Rattle.dm_named.proofs.NameLemmas.{bytes_more, more_bytes, no_name}
use Rattle.dm_named.proofs.reading.names.name_of.Goals as goal

pub returns-in_default-clause-none : goal.returns-in_default-clause-none
returns-in_default-clause-none g c = λ is name s. absurd (no_name c.args.text.now c.loop-rest.name.items c.loop-rest.rest.now c.loop-rest.invariant (λ none. false≢true (c.loop-rest-test.ensures ∙ eq-eqb _ 0 none)) c.in_default.ensures.none name s)

pub returns-then-len-ge-MOST_NAME_BYTES-clause-none : goal.returns-then-len-ge-MOST_NAME_BYTES-clause-none
returns-then-len-ge-MOST_NAME_BYTES-clause-none g c = λ is name s.
    let more = more_bytes c.args.text.now c.loop-rest.name.items c.loop-rest.rest.now c.loop-rest.invariant (λ none. false≢true (c.loop-rest-test.ensures ∙ eq-eqb _ 0 none)) name s in
    omega (arith, more, c.if-len-ge-MOST_NAME_BYTES.true, c.len.ensures, c.loop-rest.name.ok)

pub loop-rest-preserved : goal.loop-rest-preserved
loop-rest-preserved g c = rw c.in_ok-push.ensures.items (bytes_more c.args.text.now c.loop-rest.name.items c.loop-rest.rest.now c.in-Some.byte c.in-Some.next.now c.loop-rest.invariant c.in-Some.ensures.found)
