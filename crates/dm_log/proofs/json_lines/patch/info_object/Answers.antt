use Rattle.std.proofs.Common.{◌∙◌, ap, refl}
use Rattle.serde_json.specs.Data.{boolean}
use Rattle.dm_log.specs.Dates.{iso_date}
use Rattle.dm_log.proofs.JsonLemmas.{info_made}
use Rattle.dm_log.proofs.json_lines.patch.info_object.Goals as goal

pub returns : goal.returns
returns g c =
    info_made c.args.info.now c.new-object.ensures c.in_ok-put_text.ensures c.author.ensures c.in_ok-put_text-2.ensures (c.as_slice.ensures.value ∙ c.in_ok-dated.ensures ∙ ap iso_date c.date.ensures)
    c.in_ok-put_text-3.ensures c.name.ensures c.in_ok-put.ensures c.in_ok-hash_value.ensures c.in_ok-put_lines.ensures c.in_ok-told_lines.ensures c.in_ok-put-2.ensures
    (c.from.ensures ∙ ap boolean (rw c.name-2.ensures at c.starts_with-is_tag.ensures.value))
