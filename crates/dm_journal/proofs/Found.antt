-- What a reader finds at a place.
use Rattle.std.proofs.Common.{◌≡◌, ◌≢◌, inr, ℕ, ◌+◌, ◌-◌, ◌<◌, ◌≤◌, ◌^◌, List, [], ◌∷◌, ◌++◌, Bool, true, false, nat_eq, length, get_or, take, drop, refl, sym, ◌∙◌, ap, subst, arith, length-append, take-append-drop}
use Rattle.std.specs.Int.{w64, to_le_bytes}
use Rattle.std.proofs.lemmas.List.{drop_at, drop_more, drop-drop, take_rest, length-take-le, length-drop, map-append}
use Rattle.dm_journal.specs.declared.format.Format.{Format}
use Rattle.dm_journal.specs.Format.{line, unit, filling, filled}
use Rattle.dm_journal.specs.Journal.{block, checksum_of, next_link, link_after, IsLatch, IsBlock, IsNext, Begins}
use Rattle.std.specs.List.{starts_with}
use Rattle.std.proofs.lemmas.Bool.{false≢true}
use Rattle.std.proofs.lemmas.Bool.Decides.{Decides-eqb}
use Rattle.std.proofs.lemmas.Slice.Eq.{starts_is}
use Rattle.dm_journal.specs.declared.format.Format.TheVariants.{First, Second, Third, Fields}
use Rattle.dm_journal.specs.declared.format.KindsField.TheVariants.{Six, All}
use Rattle.dm_journal.specs.declared.format.ChecksumField.TheVariants.{Sha256, Lanes}
use Rattle.dm_journal.specs.Faults.{HasOtherChecksum, EndsInHeader, BeginsWith}
use Rattle.dm_journal.specs.Hidden.{AreTwoBlocks}
use Rattle.dm_journal.specs.Reading.{IsHeaded, IsWhole, StandsBehind, StandsAt}
use Rattle.dm_journal.specs.Texts.{range_of, ranges_of}
use Rattle.dm_journal.specs.declared.texts.Range.{Range}
use Rattle.dm_journal.specs.declared.reading.Step.{Step}
use Rattle.dm_journal.specs.declared.reading.Step.TheVariants.{End, Whole, Cut, Damaged}
use Rattle.dm_journal.proofs.Blocks.{flat, begins_push, link_push}
use Rattle.dm_journal.proofs.Once.{same_block, length-checksum, short_has_none, other_has_none, HasNone, closed_has_none, early_has_none, damaged_has_none}

-- whether a list begins with another
pub begins_so : (s p : List ℕ) (r : Bool) → r ≡ starts_with nat_eq s p → r ≡ true → BeginsWith p s
begins_so s p r is so = (drop (length p) s, (starts_is Decides-eqb s p r is).0 so)

pub begins_otherwise : (s p : List ℕ) (r : Bool) → r ≡ starts_with nat_eq s p → r ≡ false → BeginsWith p s → ⊥
begins_otherwise s p r is not w = absurd (false≢true (sym not ∙ (starts_is Decides-eqb s p r is).1 w.0 w.1))

-- it begins with none of the headers
abbrev pub HasNot : List ℕ → Format → Type 0
HasNot file format = ¬ BeginsWith (line format) file

pub of_none : (file : List ℕ) → HasNot file First → HasNot file Second → HasNot file Third → HasNot file (Fields Six Sha256) → HasNot file (Fields All Sha256) → HasNot file (Fields Six Lanes) → HasNot file (Fields All Lanes) → (format : Format) → HasNot file format
of_none file first second third six all six_lanes all_lanes First = first
of_none file first second third six all six_lanes all_lanes Second = second
of_none file first second third six all six_lanes all_lanes Third = third
of_none file first second third six all six_lanes all_lanes (Fields Six Sha256) = six
of_none file first second third six all six_lanes all_lanes (Fields All Sha256) = all
of_none file first second third six all six_lanes all_lanes (Fields Six Lanes) = six_lanes
of_none file first second third six all six_lanes all_lanes (Fields All Lanes) = all_lanes

pub cut_header : (format : Format) (file : List ℕ) (at : ℕ) → at ≡ filled format (length (line format)) → length file < at → BeginsWith (line format) file → EndsInHeader file at
cut_header format file at is ends w = record { format = format; more = w.0; is = w.1; place = is; ends = ends }

pub header_here : (format : Format) (file : List ℕ) (at : ℕ) → at ≡ filled format (length (line format)) → at ≤ length file → BeginsWith (line format) file → IsHeaded file format at
header_here format file at is reaches w =
    let n = length (line format) in
    let k = filling format n in
    let behind : drop k w.0 ≡ drop at file =
    ap (drop k) (sym (drop_at (line format) w.0 n refl) ∙ ap (drop n) (sym w.1)) ∙ drop-drop k n file ∙ ap (λ (i : ℕ). drop i file) (sym is) in
    let long : k ≤ length w.0 = omega (arith, is, reaches, ap length w.1, length-append (line format) w.0) in
    record {
      reaches = reaches;
      begins = record {
        fill = take k w.0;
        filled = length-take-le k w.0 long;
        bytes = drop at file;
        is = w.1 ∙ ap (λ (l : List ℕ). line format ++ l) (sym (take-append-drop k w.0) ∙ ap (λ (l : List ℕ). take k w.0 ++ l) behind);
        blocks = refl;
      };
    }

-- a latch and what stands behind it
pub latch_here : (format : Format) (bytes : List ℕ) → 1 ≤ unit format → unit format ≤ length bytes → IsLatch format (get_or bytes 0 0) (drop (unit format) bytes) bytes
latch_here format bytes some room =
    let n : ℕ = unit format - 1 in
    let behind : drop n (drop 1 bytes) ≡ drop (unit format) bytes = drop-drop n 1 bytes ∙ ap (λ (k : ℕ). drop k bytes) (omega arith) in
    record {
      fill = take n (drop 1 bytes);
      filled = omega (arith, length-take-le n (drop 1 bytes) (omega (arith, length-drop 1 bytes)));
      is = drop_more bytes 0 0 (omega arith)
          ∙ ap (λ (l : List ℕ). get_or bytes 0 0 ∷ l) (sym (take-append-drop n (drop 1 bytes)) ∙ ap (λ (l : List ℕ). take n (drop 1 bytes) ++ l) behind);
    }

pub behind_latch : (format : Format) (latch : ℕ) (behind bytes : List ℕ) → IsLatch format latch behind bytes → (drop (unit format) bytes ≡ behind) × (unit format + length behind ≡ length bytes)
behind_latch format latch behind bytes g = (
  ap (drop (unit format)) g.is ∙ drop_at (latch ∷ g.fill) behind (unit format) (omega (arith, g.filled)),
  omega (arith, g.filled, ap length g.is, length-append g.fill behind),
)

-- behind an open latch
pub stands_open : (format : Format) (link behind bytes : List ℕ) (latch : ℕ) (step : Step) → latch ≢ 0 → IsLatch format latch behind bytes → StandsBehind format link behind step → StandsAt format link bytes step
stands_open format link behind bytes latch End is_open g s = absurd s
stands_open format link behind bytes latch (Whole n size checksum) is_open g s = record { latch = latch; is_open = is_open; behind = behind; stands = g; has = s }
stands_open format link behind bytes latch Cut is_open g s = inr (record { latch = latch; is_open = is_open; behind = behind; stands = g; has = s })
stands_open format link behind bytes latch Damaged is_open g s = record { latch = latch; is_open = is_open; behind = behind; stands = g; has = s }

-- a number, and at least a checksum and a text of that length
module _ (format : Format) (link bytes : List ℕ) (n size : ℕ) (rest : List ℕ) (small : n < 2 ^ 64) (front : bytes ≡ to_le_bytes w64 n ++ rest) (room : 32 ≤ length rest) (reaches : n ≤ length (drop 32 rest)) (sized : size ≡ filled format (40 + n)) (fits : size ≤ length bytes) where
  behind_front : drop 40 bytes ≡ drop 32 rest
  behind_front = ap (drop 40) front ∙ sym (drop-drop 32 8 (to_le_bytes w64 n ++ rest)) ∙ ap (drop 32) (drop_at (to_le_bytes w64 n) rest 8 refl)

  text : List ℕ
  text = take n (drop 40 bytes)

  found : IsBlock format (take 32 rest) (take n (drop 40 bytes)) (drop size bytes) bytes
  found =
      let t = take n (drop 40 bytes) in
      let k = filling format (40 + n) in
      let fill = take k (drop (40 + n) bytes) in
      let long : length t ≡ n = length-take-le n (drop 40 bytes) (omega (arith, reaches, ap length behind_front)) in
      let last : drop k (drop (40 + n) bytes) ≡ drop size bytes = drop-drop k (40 + n) bytes ∙ ap (λ (i : ℕ). drop i bytes) (sym sized) in
      let after : fill ++ drop size bytes ≡ drop (40 + n) bytes = ap (λ (l : List ℕ). fill ++ l) (sym last) ∙ take-append-drop k (drop (40 + n) bytes) in
      let texts : t ++ (fill ++ drop size bytes) ≡ drop 32 rest =
      ap (λ (l : List ℕ). t ++ l) (after ∙ sym (drop-drop n 40 bytes)) ∙ take-append-drop n (drop 40 bytes) ∙ behind_front in
      let whole : block (take 32 rest) t ++ (fill ++ drop size bytes) ≡ bytes =
      flat (take 32 rest) t (fill ++ drop size bytes)
      ∙ ap (λ (i : ℕ). to_le_bytes w64 i ++ (take 32 rest ++ (t ++ (fill ++ drop size bytes)))) long
      ∙ ap (λ (l : List ℕ). to_le_bytes w64 n ++ (take 32 rest ++ l)) texts
      ∙ ap (λ (l : List ℕ). to_le_bytes w64 n ++ l) (take-append-drop 32 rest)
      ∙ sym front in
      record {
        fits = omega (arith, small, long);
        fill = fill;
        filled = length-take-le k (drop (40 + n) bytes) (omega (arith, fits, sized, length-drop (40 + n) bytes)) ∙ ap (λ (i : ℕ). filling format (40 + i)) (sym long);
        is = sym whole;
      }

  pub is_whole : (sum : List ℕ) → sum ≡ checksum_of format link (take n (drop 32 rest)) → sum ≡ take 32 rest → IsWhole format link bytes n size sum
  is_whole sum of_text told =
      let right = of_text ∙ ap (λ (l : List ℕ). checksum_of format link (take n l)) (sym behind_front) in
      record { reaches = fits; long = omega (arith, sized); is = right; stands = subst (λ (l : List ℕ). IsBlock format l (take n (drop 40 bytes)) (drop size bytes) bytes) (sym told ∙ right) found }

  pub is_other : (sum : List ℕ) → sum ≡ checksum_of format link (take n (drop 32 rest)) → sum ≢ take 32 rest → HasOtherChecksum format link bytes
  is_other sum of_text differs = record {
    text = take n (drop 40 bytes);
    checksum = take 32 rest;
    whole = length-take-le 32 rest room;
    differs = λ same. differs (of_text ∙ ap (λ (l : List ℕ). checksum_of format link (take n l)) (sym behind_front) ∙ sym same);
    more = drop size bytes;
    stands = found;
  }

-- one block more of a file that is read
pub range_push : (format : Format) (link : List ℕ) (bytes : List ℕ) (ranges : List Range) (at behind n size : ℕ) (checksum : List ℕ) → behind ≡ at + unit format → at ≤ length bytes → Begins format bytes (ranges_of bytes ranges) (drop at bytes) → link ≡ link_after format [] (ranges_of bytes ranges) → StandsAt format link (take (length bytes - at) (drop at bytes)) (Whole n size checksum) →
    (behind + size ≤ length bytes) × Begins format bytes (ranges_of bytes (ranges ++ record { start = behind + 40; len = n } ∷ [])) (drop (behind + size) bytes) × (next_link format checksum ≡ link_after format [] (ranges_of bytes (ranges ++ record { start = behind + 40; len = n } ∷ [])))
range_push format link bytes ranges at behind n size checksum is le begins linked stands =
    let o = subst (λ l. StandsAt format link l (Whole n size checksum)) (take_rest bytes at) stands in
    let parts = behind_latch format o.latch o.behind (drop at bytes) o.stands in
    let here : o.behind ≡ drop behind bytes = sym parts.0 ∙ drop-drop (unit format) at bytes ∙ ap (λ (i : ℕ). drop i bytes) (sym is) in
    let texts = ranges_of bytes ranges in
    let text : List ℕ = take n (drop (behind + 40) bytes) in
    let same : take n (drop 40 o.behind) ≡ text = ap (λ (l : List ℕ). take n (drop 40 l)) here ∙ ap (take n) (drop-drop 40 behind bytes) in
    let rests : drop size o.behind ≡ drop (behind + size) bytes = ap (drop size) here ∙ drop-drop size behind bytes in
    let block = subst (λ (l : List ℕ). IsBlock format (checksum_of format link text) text l o.behind) rests (subst (λ (l : List ℕ). IsBlock format (checksum_of format link l) l (drop size o.behind) o.behind) same o.has.stands) in
    let next = λ (l : List ℕ) (b : IsBlock format (checksum_of format l text) text (drop (behind + size) bytes) o.behind). let w : IsNext format l text (drop (behind + size) bytes) (drop at bytes) = record { latch = o.latch; is_open = o.is_open; behind = o.behind; stands = o.stands; has = b } in w in
    let pushed = begins_push format bytes texts text (drop at bytes) (drop (behind + size) bytes) begins (next (link_after format [] texts) (subst (λ (l : List ℕ). IsBlock format (checksum_of format l text) text (drop (behind + size) bytes) o.behind) linked block)) in
    let all : texts ++ text ∷ [] ≡ ranges_of bytes (ranges ++ record { start = behind + 40; len = n } ∷ []) = sym (map-append (range_of bytes) ranges (record { start = behind + 40; len = n } ∷ [])) in
    let sum = o.has.is ∙ ap (λ (l : List ℕ). checksum_of format link l) same ∙ ap (λ (l : List ℕ). checksum_of format l text) linked in (
      omega (arith, is, le, parts.1, o.has.reaches, length-drop at bytes),
      subst (λ l. Begins format bytes l (drop (behind + size) bytes)) all pushed,
      ap (next_link format) sum ∙ link_push format [] texts text ∙ ap (link_after format []) all,
    )

-- what is no whole block behind a latch
pub no_first : (format : Format) (link bytes : List ℕ) (step : Step) → StandsBehind format link bytes step → ((n size : ℕ) (checksum : List ℕ) → step ≡ Whole n size checksum → ⊥) → AreTwoBlocks format link bytes → ⊥
no_first format link bytes End s other two = s
no_first format link bytes (Whole n size checksum) s other two = other n size checksum refl
no_first format link bytes Cut s other two = short_has_none format (checksum_of format link two.first) two.first two.more bytes (length-checksum format link two.first) s two.stands
no_first format link bytes Damaged s other two = other_has_none format link two.first two.more bytes s two.stands

no_next : (format : Format) (link bytes : List ℕ) (step : Step) → StandsAt format link bytes step → ((n size : ℕ) (checksum : List ℕ) → step ≡ Whole n size checksum → ⊥) → HasNone format link bytes
no_next format link bytes End s other = closed_has_none format link (drop (unit format) bytes) bytes s
no_next format link bytes (Whole n size checksum) s other = absurd (other n size checksum refl)
no_next format link bytes Cut s other = early_has_none format link bytes s
no_next format link bytes Damaged s other = damaged_has_none format link bytes s

-- a whole block, and what stands behind that
module _ (format : Format) (link next bytes : List ℕ) (n size : ℕ) (checksum : List ℕ) (s : IsWhole format link bytes n size checksum) (linked : next ≡ next_link format checksum) where
  follows : next ≡ next_link format (checksum_of format link (take n (drop 40 bytes)))
  follows = linked ∙ ap (next_link format) s.is

  pub two_blocks : (m size' : ℕ) (sum : List ℕ) → StandsAt format next (drop size bytes) (Whole m size' sum) → AreTwoBlocks format link bytes
  two_blocks m size' sum o =
      let second : List ℕ = take m (drop 40 o.behind) in
      let w : IsNext format next second (drop size' o.behind) (drop size bytes) = record { latch = o.latch; is_open = o.is_open; behind = o.behind; stands = o.stands; has = o.has.stands } in
      record {
        first = take n (drop 40 bytes);
        more = drop size bytes;
        stands = s.stands;
        second = second;
        rest = drop size' o.behind;
        next = subst (λ (l : List ℕ). IsNext format l second (drop size' o.behind) (drop size bytes)) follows w;
      }

  pub no_second : (step : Step) → StandsAt format next (drop size bytes) step → ((m size' : ℕ) (sum : List ℕ) → step ≡ Whole m size' sum → ⊥) → AreTwoBlocks format link bytes → ⊥
  no_second step at other two =
      let text : List ℕ = take n (drop 40 bytes) in
      let same = same_block format (checksum_of format link two.first) two.first two.more (checksum_of format link text) text (drop size bytes) bytes (length-checksum format link two.first) (length-checksum format link text) two.stands s.stands in
      let links = ap (next_link format) same.0 ∙ sym follows in
      no_next format next (drop size bytes) step at other two.second two.rest (subst (λ (l : List ℕ). IsNext format next two.second two.rest l) same.2 (subst (λ (l : List ℕ). IsNext format l two.second two.rest two.more) links two.next))
