use Rattle.std.proofs.Common.{ap, inl, inr, sym, ◌∙◌}
use Rattle.std.specs.List.{concat}
use Rattle.hex.specs.Hex.{decode_of}
use Rattle.dm_hex.proofs.DigitLemmas.{hex_of_decode, no_hex}
use Rattle.dm_hex.proofs.reading.bytes_of.Goals as goal

pub returns-in-Ok-clause-some : goal.returns-in-Ok-clause-some
returns-in-Ok-clause-some g c = hex_of_decode (concat c.args.lines.now) c.in-Ok.bytes.items (ap decode_of (sym (c.as_slice.ensures.value ∙ c.in_ok-digits.ensures)) ∙ c.in-Ok.ensures.ok)

pub returns : goal.returns
returns g c = record {
  some = tt;
  none = λ bytes h. elim c.in-Err.ensures.err [
    | inl memory ↦ c.in_default.not-OutOfMemory memory
    | inr bad ↦ no_hex (concat c.args.lines.now) bytes c.in-Err.fault (ap decode_of (sym (c.as_slice.ensures.value ∙ c.in_ok-digits.ensures)) ∙ bad) h
  ];
}
