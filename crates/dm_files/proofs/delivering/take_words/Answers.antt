use Rattle.std.proofs.Common.{◌∙◌, codes, ap, refl, sym, true≢false}
use Rattle.dm_store.proofs.StoredLemmas.{weakened}
use Rattle.dm_files.proofs.MirrorLemmas.{by_less, if_err, if_ok, some_less, told_less}
use Rattle.dm_files.proofs.NamedLemmas.{as_named, texts_of}
use Rattle.dm_files.proofs.delivering.take_words.Goals as goal

pub returns-then-asked-clause-delivers : goal.returns-then-asked-clause-delivers
returns-then-asked-clause-delivers g c = if_ok c.take_stream.result (λ all told. told_less all (λ texts came off. absurd (true≢false (sym c.if-asked.true ∙ off))) told) c.take_stream.ensures.delivers

pub returns-then-asked-clause-delivers_by : goal.returns-then-asked-clause-delivers_by
returns-then-asked-clause-delivers_by g c = if_err c.take_stream.result (λ stop told. by_less (λ texts came off. absurd (true≢false (sym c.if-asked.true ∙ off))) told) c.take_stream.ensures.delivers_by

pub returns-then-asked-clause-any_moment : goal.returns-then-asked-clause-any_moment
returns-then-asked-clause-any_moment g c =
    weakened g.D.Device.moment g.D.Device.left_since _ _ _ _ (some_less (λ texts came off. absurd (true≢false (sym c.if-asked.true ∙ off)))) c.take_stream.ensures.any_moment

pub returns-in-Ok-clause-delivers : goal.returns-in-Ok-clause-delivers
returns-in-Ok-clause-delivers g c =
    let same = (ap texts_of c.unwrap_or-names.ensures ∙ as_named c.args.asked.now.bundles _ _ (codes "-") refl refl) in
    told_less c.in-Ok.all_accepted (λ texts came off. rw same at came) c.in-Ok.ensures.delivers

pub returns-clause-delivers_by : goal.returns-clause-delivers_by
returns-clause-delivers_by g c =
    let same = (ap texts_of c.unwrap_or-names.ensures ∙ as_named c.args.asked.now.bundles _ _ (codes "-") refl refl) in
    by_less (λ texts came off. (came.0, rw same at came.1)) c.in-Err.ensures.delivers_by

pub returns-in-Ok-clause-any_moment : goal.returns-in-Ok-clause-any_moment
returns-in-Ok-clause-any_moment g c =
    let same = (ap texts_of c.unwrap_or-names.ensures ∙ as_named c.args.asked.now.bundles _ _ (codes "-") refl refl) in
    weakened g.D.Device.moment g.D.Device.left_since _ _ _ _ (some_less (λ texts came off. (came.0, rw same at came.1))) c.take_named.ensures.any_moment

pub returns-clause-any_moment : goal.returns-clause-any_moment
returns-clause-any_moment g c =
    let same = (ap texts_of c.unwrap_or-names.ensures ∙ as_named c.args.asked.now.bundles _ _ (codes "-") refl refl) in
    weakened g.D.Device.moment g.D.Device.left_since _ _ _ _ (some_less (λ texts came off. (came.0, rw same at came.1))) c.take_named.ensures.any_moment
