-- How blocks stand in a file.
use Rattle.std.proofs.Common.{◌≡◌, ℕ, ◌+◌, ◌<◌, ◌^◌, List, [], ◌∷◌, ◌++◌, length, take, drop, refl, sym, ◌∙◌, ap, subst, arith, append_assoc, length-append}
use Rattle.std.specs.Int.{w64, to_le_bytes, from_le_bytes}
use Rattle.std.proofs.lemmas.List.{append-nil, take_at, drop_at}
use Rattle.std.proofs.lemmas.Nat.{from_le_bytes-to_le_bytes_8}
use Rattle.dm_journal.specs.declared.format.Format.{Format}
use Rattle.dm_journal.specs.Format.{line}
use Rattle.dm_journal.specs.Journal.{block, checksum_of, next_link, link_after, IsNext, AreBlocks, Begins}

-- the block's parts and what stands behind it, one after another
pub flat : (checksum text more : List ℕ) → block checksum text ++ more ≡ to_le_bytes w64 (length text) ++ (checksum ++ (text ++ more))
flat checksum text more =
    append_assoc (to_le_bytes w64 (length text)) (checksum ++ text) more
    ∙ ap (λ (l : List ℕ). to_le_bytes w64 (length text) ++ l) (append_assoc checksum text more)

pub length-to_le : (n : ℕ) → length (to_le_bytes w64 n) ≡ 8
length-to_le n = refl

pub length-block : (checksum text more : List ℕ) → length checksum ≡ 32 → length (block checksum text ++ more) ≡ 40 + length text + length more
length-block checksum text more whole =
    omega (
      arith,
      whole,
      length-to_le (length text),
      ap length (flat checksum text more),
      length-append (to_le_bytes w64 (length text)) (checksum ++ (text ++ more)),
      length-append checksum (text ++ more),
      length-append text more,
    )

-- two lists that begin with as many elements
pub same_parts : (a b c d : List ℕ) → length a ≡ length c → a ++ b ≡ c ++ d → (a ≡ c) × (b ≡ d)
same_parts a b c d long same = (
  sym (take_at a b (length c) long) ∙ ap (take (length c)) same ∙ take_at c d (length c) refl,
  sym (drop_at a b (length c) long) ∙ ap (drop (length c)) same ∙ drop_at c d (length c) refl,
)

pub same_number : (m n : ℕ) → m < 2 ^ 64 → n < 2 ^ 64 → to_le_bytes w64 m ≡ to_le_bytes w64 n → m ≡ n
same_number m n p q same =
    sym (from_le_bytes-to_le_bytes_8 m p) ∙ ap (from_le_bytes w64) same ∙ from_le_bytes-to_le_bytes_8 n q

three : (a b c r : List ℕ) → (a ++ (b ++ c)) ++ r ≡ a ++ (b ++ (c ++ r))
three a b c r = append_assoc a (b ++ c) r ∙ ap (λ (l : List ℕ). a ++ l) (append_assoc b c r)

module _ (format : Format) where
  -- what stands in front of the rest can stand in front of another
  pub next_front : (link text more bytes : List ℕ) → IsNext format link text more bytes → (front : List ℕ) × (bytes ≡ front ++ more) × ((r : List ℕ) → IsNext format link text r (front ++ r))
  next_front link text more bytes b =
      let whole = block (checksum_of format link text) text in (
        b.latch ∷ (b.stands.fill ++ (whole ++ b.has.fill)),
        b.stands.is
            ∙ ap (λ (l : List ℕ). b.latch ∷ (b.stands.fill ++ l)) b.has.is
            ∙ ap (λ (l : List ℕ). b.latch ∷ l) (sym (three b.stands.fill whole b.has.fill more)),
        λ r. record {
          latch = b.latch;
          is_open = b.is_open;
          behind = whole ++ (b.has.fill ++ r);
          stands = record { fill = b.stands.fill; filled = b.stands.filled; is = ap (λ (l : List ℕ). b.latch ∷ l) (three b.stands.fill whole b.has.fill r) };
          has = record { fits = b.has.fits; fill = b.has.fill; filled = b.has.filled; is = refl };
        },
      )

  pub front_of : (link bytes : List ℕ) (texts : List (List ℕ)) (rest : List ℕ) → AreBlocks format link bytes texts rest → (front : List ℕ) × (bytes ≡ front ++ rest) × ((r : List ℕ) → AreBlocks format link (front ++ r) texts r)
  front_of link bytes [] rest same = ([], same, λ r. refl)
  front_of link bytes (text ∷ texts) rest blocks =
      let next = next_front link text blocks.0 bytes blocks.1 in
      let inner = front_of (next_link format (checksum_of format link text)) blocks.0 texts rest blocks.2 in (
        next.0 ++ inner.0,
        next.1 ∙ ap (λ (l : List ℕ). next.0 ++ l) inner.1 ∙ sym (append_assoc next.0 inner.0 rest),
        λ r. (
          inner.0 ++ r,
          subst (λ (l : List ℕ). IsNext format link text (inner.0 ++ r) l) (sym (append_assoc next.0 inner.0 r)) (next.2 (inner.0 ++ r)),
          inner.2 r,
        ),
      )

  pub file_front : (file : List ℕ) (texts : List (List ℕ)) (rest : List ℕ) → Begins format file texts rest → (front : List ℕ) × (file ≡ front ++ rest) × ((r : List ℕ) → Begins format (front ++ r) texts r)
  file_front file texts rest b =
      let inner = front_of [] b.bytes texts rest b.blocks in (
        line format ++ (b.fill ++ inner.0),
        b.is ∙ ap (λ (l : List ℕ). line format ++ (b.fill ++ l)) inner.1 ∙ sym (three (line format) b.fill inner.0 rest),
        λ r. record { fill = b.fill; filled = b.filled; bytes = inner.0 ++ r; is = three (line format) b.fill inner.0 r; blocks = inner.2 r },
      )

  -- one block more
  pub blocks_push : (link bytes : List ℕ) (texts : List (List ℕ)) (text mid rest : List ℕ) → AreBlocks format link bytes texts mid → IsNext format (link_after format link texts) text rest mid → AreBlocks format link bytes (texts ++ text ∷ []) rest
  blocks_push link bytes [] text mid rest same b = (rest, subst (λ (l : List ℕ). IsNext format link text rest l) (sym same) b, refl)
  blocks_push link bytes (t ∷ texts) text mid rest blocks b =
      (blocks.0, blocks.1, blocks_push (next_link format (checksum_of format link t)) blocks.0 texts text mid rest blocks.2 b)

  pub begins_push : (file : List ℕ) (texts : List (List ℕ)) (text mid rest : List ℕ) → Begins format file texts mid → IsNext format (link_after format [] texts) text rest mid → Begins format file (texts ++ text ∷ []) rest
  begins_push file texts text mid rest b next =
      record { fill = b.fill; filled = b.filled; bytes = b.bytes; is = b.is; blocks = blocks_push [] b.bytes texts text mid rest b.blocks next }

  -- what the next block follows on then
  pub link_push : (link : List ℕ) (texts : List (List ℕ)) (text : List ℕ) → next_link format (checksum_of format (link_after format link texts) text) ≡ link_after format link (texts ++ text ∷ [])
  link_push link [] text = refl
  link_push link (t ∷ texts) text = link_push (next_link format (checksum_of format link t)) texts text

  -- at the end of a file, more bytes
  pub end_more : (file : List ℕ) (texts : List (List ℕ)) (more : List ℕ) → Begins format file texts [] → Begins format (file ++ more) texts more
  end_more file texts more b =
      let f = file_front file texts [] b in
      subst (λ (l : List ℕ). Begins format (l ++ more) texts more) (sym (f.1 ∙ append-nil f.0)) (f.2 more)
