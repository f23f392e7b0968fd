-- The parts of a file begin units.
use Rattle.std.proofs.Common.{◌≡◌, ℕ, ◌+◌, ◌-◌, ◌*◌, ◌/◌, ◌%◌, List, [], ◌∷◌, ◌++◌, length, ◌∙◌, ap, arith, length-append}
use Rattle.std.proofs.Math.Nat.{add-mul}
use Rattle.dm_journal.specs.declared.format.Format.{Format}
use Rattle.dm_journal.specs.declared.format.Format.TheVariants.{First, Second, Third, Fields}
use Rattle.dm_journal.specs.Format.{line, unit, filling}
use Rattle.dm_journal.specs.Journal.{checksum_of, next_link, IsNext, AreBlocks}
use Rattle.dm_journal.specs.Laws.{LatchsBeginUnits, UnitsAreFilled}
use Rattle.dm_journal.proofs.Blocks.{length-block}
use Rattle.dm_journal.proofs.Once.{length-checksum}

pub units_filled : UnitsAreFilled
unfolding unit filling
units_filled First n = (omega arith, (n, omega arith))
units_filled Second n = (omega arith, (n / 4096 + 1 - (4096 - n % 4096) / 4096, omega arith))
units_filled Third n = (omega arith, (n / 4096 + 1 - (4096 - n % 4096) / 4096, omega arith))
units_filled (Fields kinds checksum) n = (omega arith, (n / 4096 + 1 - (4096 - n % 4096) / 4096, omega arith))

-- one unit and more
sum_of_units : (u a b rest : ℕ) → u + (a * u + (b * u + rest)) ≡ (1 + (a + b)) * u + rest
sum_of_units u a b rest = let e = add-mul 1 (a + b) u in let f = add-mul a b u in omega (arith, e, f)

module _ (format : Format) where
  next_units : (link text more bytes : List ℕ) → IsNext format link text more bytes → (k : ℕ) × (length bytes ≡ unit format + (k * unit format + length more))
  next_units link text more bytes b =
      let n = 40 + length text in
      let whole = (units_filled format n).1 in (
        whole.0,
        omega (
          arith,
          whole.1,
          b.stands.filled,
          b.has.filled,
          ap length b.stands.is,
          length-append b.stands.fill b.behind,
          ap length b.has.is,
          length-block (checksum_of format link text) text (b.has.fill ++ more) (length-checksum format link text),
          length-append b.has.fill more,
        ),
      )

  blocks_units : (link bytes : List ℕ) (texts : List (List ℕ)) (rest : List ℕ) → AreBlocks format link bytes texts rest → (k : ℕ) × (length bytes ≡ k * unit format + length rest)
  blocks_units link bytes [] rest same = (0, omega (arith, ap length same))
  blocks_units link bytes (text ∷ texts) rest blocks =
      let one = next_units link text blocks.0 bytes blocks.1 in
      let more = blocks_units (next_link format (checksum_of format link text)) blocks.0 texts rest blocks.2 in
      (1 + (one.0 + more.0), one.1 ∙ ap (λ (n : ℕ). unit format + (one.0 * unit format + n)) more.1 ∙ sum_of_units (unit format) one.0 more.0 (length rest))

pub latchs_begin : LatchsBeginUnits
latchs_begin format file texts rest b =
    let header = (units_filled format (length (line format))).1 in
    let more = blocks_units format [] b.bytes texts rest b.blocks in
    let sum = add-mul header.0 more.0 (unit format) in
    (header.0 + more.0, omega (arith, sum, header.1, more.1, b.filled, ap length b.is, length-append (line format) (b.fill ++ b.bytes), length-append b.fill b.bytes))
