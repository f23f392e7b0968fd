-- A turned byte of a header is told.
use Rattle.std.proofs.Common.{◌≡◌, inl, inr, ℕ, ◌-◌, ◌<◌, ◌≤◌, List, [], ◌∷◌, ◌++◌, nat_eq, length, get_or, refl, sym, ◌∙◌, ap, arith, append_assoc, length-append}
use Rattle.std.proofs.Math.Seq.{get_or-append_seam}
use Rattle.std.proofs.lemmas.List.{get_or_append_left, get_or-append_right}
use Rattle.std.proofs.lemmas.Bool.{cases_lt, cases_Bool}
use Rattle.std.specs.List.{starts_with}
use Rattle.dm_journal.specs.declared.format.Format.{Format}
use Rattle.dm_journal.specs.declared.format.Format.TheVariants.{First, Second, Third, Fields}
use Rattle.dm_journal.specs.declared.format.KindsField.{KindsField}
use Rattle.dm_journal.specs.declared.format.ChecksumField.{ChecksumField}
use Rattle.dm_journal.specs.declared.format.KindsField.TheVariants.{Six, All}
use Rattle.dm_journal.specs.declared.format.ChecksumField.TheVariants.{Sha256, Lanes}
use Rattle.dm_journal.specs.Format.{family, line}
use Rattle.dm_journal.specs.Faults.{BeginsWith}
use Rattle.dm_journal.specs.Laws.{HasTurned, TurnedFieldsAreTold, NoneTurnsIntoFields}
use Rattle.dm_journal.proofs.Found.{begins_so, begins_otherwise}

-- behind the first byte
behind_one : (b : ℕ) (bytes : List ℕ) (j : ℕ) → 1 ≤ j → get_or (b ∷ bytes) j 0 ≡ get_or bytes (j - 1) 0
behind_one b bytes j some = get_or-append_right (b ∷ []) bytes 1 j 0 refl some

-- elsewhere the bytes are the same
elsewhere : (front behind : List ℕ) (was becomes j : ℕ) → (length front ≡ j → ⊥) → get_or (front ++ becomes ∷ behind) j 0 ≡ get_or (front ++ was ∷ behind) j 0
elsewhere front behind was becomes j other = elim (cases_lt j (length front)) [
  | inl before ↦ get_or_append_left front (becomes ∷ behind) 0 j before ∙ sym (get_or_append_left front (was ∷ behind) 0 j before)
  | inr past ↦
      let k : ℕ = j - length front in
      let some : 1 ≤ k = omega (arith, other) in
      get_or-append_right front (becomes ∷ behind) (length front) j 0 refl past
      ∙ behind_one becomes behind k some
      ∙ sym (behind_one was behind k some)
      ∙ sym (get_or-append_right front (was ∷ behind) (length front) j 0 refl past)
]

module _ (format : Format) (file : List ℕ) (t : HasTurned format file) where
  -- the file as it was
  before : line format ++ t.more ≡ t.front ++ t.was ∷ (t.behind ++ t.more)
  before = ap (λ (l : List ℕ). l ++ t.more) t.header ∙ append_assoc t.front (t.was ∷ t.behind) t.more

  same_at : (j : ℕ) → (length t.front ≡ j → ⊥) → get_or file j 0 ≡ get_or (line format ++ t.more) j 0
  same_at j other =
      ap (λ (l : List ℕ). get_or l j 0) t.is
      ∙ elsewhere t.front (t.behind ++ t.more) t.was t.becomes j other
      ∙ ap (λ (l : List ℕ). get_or l j 0) (sym before)

  -- no header that differs in two places stands there
  two_places : (p q : ℕ) → p < q → (get_or file p 0 ≡ get_or (line format ++ t.more) p 0 → ⊥) → (get_or file q 0 ≡ get_or (line format ++ t.more) q 0 → ⊥) → ⊥
  two_places p q lt at_p at_q = at_p (same_at p (λ here. at_q (same_at q (λ there. omega (arith, lt, here, there)))))

  -- nor the header itself
  not_itself : BeginsWith (line format) file → ⊥
  not_itself w =
      let i = length t.front in
      let within : i < length (line format) = omega (arith, ap length t.header, length-append t.front (t.was ∷ t.behind)) in
      let now = sym (get_or-append_seam t.front t.becomes (t.behind ++ t.more) 0) ∙ ap (λ (l : List ℕ). get_or l i 0) (sym t.is ∙ w.1) ∙ get_or_append_left (line format) w.0 0 i within in
      let then = ap (λ (l : List ℕ). get_or l i 0) t.header ∙ get_or-append_seam t.front t.was t.behind 0 in
      t.other (now ∙ then)

  -- the byte of a header that stands there
  byte_of : (other : Format) (w : BeginsWith (line other) file) (j : ℕ) → get_or file j 0 ≡ get_or (line format ++ t.more) j 0 → get_or (line other ++ w.0) j 0 ≡ get_or (line format ++ t.more) j 0
  byte_of other w j same = ap (λ (l : List ℕ). get_or l j 0) (sym w.1) ∙ same

-- two headers of which one at least has fields differ in two places
apart : (f g : Format) (file : List ℕ) (t : HasTurned f file) (w : BeginsWith (line g) file) (p q : ℕ) → p < q → (get_or (line g ++ w.0) p 0 ≡ get_or (line f ++ t.more) p 0 → ⊥) → (get_or (line g ++ w.0) q 0 ≡ get_or (line f ++ t.more) q 0 → ⊥) → ⊥
apart f g file t w p q lt at_p at_q = two_places f file t p q lt (λ e. at_p (byte_of f file t g w p e)) (λ e. at_q (byte_of f file t g w q e))

no_known : (kinds : KindsField) (checksum : ChecksumField) (file : List ℕ) → HasTurned (Fields kinds checksum) file → (g : Format) → BeginsWith (line g) file → ⊥
unfolding line
no_known Six Sha256 file t First w = apart (Fields Six Sha256) First file t w 11 12 (omega arith) (λ (e : 49 ≡ 102). omega (arith, e)) (λ (e : 10 ≡ 105). omega (arith, e))
no_known Six Sha256 file t Second w = apart (Fields Six Sha256) Second file t w 11 12 (omega arith) (λ (e : 50 ≡ 102). omega (arith, e)) (λ (e : 10 ≡ 105). omega (arith, e))
no_known Six Sha256 file t Third w = apart (Fields Six Sha256) Third file t w 11 12 (omega arith) (λ (e : 52 ≡ 102). omega (arith, e)) (λ (e : 10 ≡ 105). omega (arith, e))
no_known Six Sha256 file t (Fields Six Sha256) w = not_itself (Fields Six Sha256) file t w
no_known Six Sha256 file t (Fields Six Lanes) w = apart (Fields Six Sha256) (Fields Six Lanes) file t w 37 38 (omega arith) (λ (e : 108 ≡ 115). omega (arith, e)) (λ (e : 97 ≡ 104). omega (arith, e))
no_known Six Sha256 file t (Fields All Sha256) w = apart (Fields Six Sha256) (Fields All Sha256) file t w 24 25 (omega arith) (λ (e : 97 ≡ 115). omega (arith, e)) (λ (e : 108 ≡ 105). omega (arith, e))
no_known Six Sha256 file t (Fields All Lanes) w = apart (Fields Six Sha256) (Fields All Lanes) file t w 24 25 (omega arith) (λ (e : 97 ≡ 115). omega (arith, e)) (λ (e : 108 ≡ 105). omega (arith, e))
no_known Six Lanes file t First w = apart (Fields Six Lanes) First file t w 11 12 (omega arith) (λ (e : 49 ≡ 102). omega (arith, e)) (λ (e : 10 ≡ 105). omega (arith, e))
no_known Six Lanes file t Second w = apart (Fields Six Lanes) Second file t w 11 12 (omega arith) (λ (e : 50 ≡ 102). omega (arith, e)) (λ (e : 10 ≡ 105). omega (arith, e))
no_known Six Lanes file t Third w = apart (Fields Six Lanes) Third file t w 11 12 (omega arith) (λ (e : 52 ≡ 102). omega (arith, e)) (λ (e : 10 ≡ 105). omega (arith, e))
no_known Six Lanes file t (Fields Six Sha256) w = apart (Fields Six Lanes) (Fields Six Sha256) file t w 37 38 (omega arith) (λ (e : 115 ≡ 108). omega (arith, e)) (λ (e : 104 ≡ 97). omega (arith, e))
no_known Six Lanes file t (Fields Six Lanes) w = not_itself (Fields Six Lanes) file t w
no_known Six Lanes file t (Fields All Sha256) w = apart (Fields Six Lanes) (Fields All Sha256) file t w 24 25 (omega arith) (λ (e : 97 ≡ 115). omega (arith, e)) (λ (e : 108 ≡ 105). omega (arith, e))
no_known Six Lanes file t (Fields All Lanes) w = apart (Fields Six Lanes) (Fields All Lanes) file t w 24 25 (omega arith) (λ (e : 97 ≡ 115). omega (arith, e)) (λ (e : 108 ≡ 105). omega (arith, e))
no_known All Sha256 file t First w = apart (Fields All Sha256) First file t w 11 12 (omega arith) (λ (e : 49 ≡ 102). omega (arith, e)) (λ (e : 10 ≡ 105). omega (arith, e))
no_known All Sha256 file t Second w = apart (Fields All Sha256) Second file t w 11 12 (omega arith) (λ (e : 50 ≡ 102). omega (arith, e)) (λ (e : 10 ≡ 105). omega (arith, e))
no_known All Sha256 file t Third w = apart (Fields All Sha256) Third file t w 11 12 (omega arith) (λ (e : 52 ≡ 102). omega (arith, e)) (λ (e : 10 ≡ 105). omega (arith, e))
no_known All Sha256 file t (Fields Six Sha256) w = apart (Fields All Sha256) (Fields Six Sha256) file t w 24 25 (omega arith) (λ (e : 115 ≡ 97). omega (arith, e)) (λ (e : 105 ≡ 108). omega (arith, e))
no_known All Sha256 file t (Fields Six Lanes) w = apart (Fields All Sha256) (Fields Six Lanes) file t w 24 25 (omega arith) (λ (e : 115 ≡ 97). omega (arith, e)) (λ (e : 105 ≡ 108). omega (arith, e))
no_known All Sha256 file t (Fields All Sha256) w = not_itself (Fields All Sha256) file t w
no_known All Sha256 file t (Fields All Lanes) w = apart (Fields All Sha256) (Fields All Lanes) file t w 37 38 (omega arith) (λ (e : 108 ≡ 115). omega (arith, e)) (λ (e : 97 ≡ 104). omega (arith, e))
no_known All Lanes file t First w = apart (Fields All Lanes) First file t w 11 12 (omega arith) (λ (e : 49 ≡ 102). omega (arith, e)) (λ (e : 10 ≡ 105). omega (arith, e))
no_known All Lanes file t Second w = apart (Fields All Lanes) Second file t w 11 12 (omega arith) (λ (e : 50 ≡ 102). omega (arith, e)) (λ (e : 10 ≡ 105). omega (arith, e))
no_known All Lanes file t Third w = apart (Fields All Lanes) Third file t w 11 12 (omega arith) (λ (e : 52 ≡ 102). omega (arith, e)) (λ (e : 10 ≡ 105). omega (arith, e))
no_known All Lanes file t (Fields Six Sha256) w = apart (Fields All Lanes) (Fields Six Sha256) file t w 24 25 (omega arith) (λ (e : 115 ≡ 97). omega (arith, e)) (λ (e : 105 ≡ 108). omega (arith, e))
no_known All Lanes file t (Fields Six Lanes) w = apart (Fields All Lanes) (Fields Six Lanes) file t w 24 25 (omega arith) (λ (e : 115 ≡ 97). omega (arith, e)) (λ (e : 105 ≡ 108). omega (arith, e))
no_known All Lanes file t (Fields All Sha256) w = apart (Fields All Lanes) (Fields All Sha256) file t w 37 38 (omega arith) (λ (e : 115 ≡ 108). omega (arith, e)) (λ (e : 104 ≡ 97). omega (arith, e))
no_known All Lanes file t (Fields All Lanes) w = not_itself (Fields All Lanes) file t w

pub turned_told : TurnedFieldsAreTold
turned_told kinds checksum file t = elim (cases_Bool (starts_with nat_eq file family)) [
  | inl so ↦ inr (begins_so file family (starts_with nat_eq file family) refl so, no_known kinds checksum file t)
  | inr not ↦ inl (begins_otherwise file family (starts_with nat_eq file family) refl not)
]

pub none_turns : NoneTurnsIntoFields
unfolding line
none_turns First Six Sha256 file t w = apart First (Fields Six Sha256) file t w 11 12 (omega arith) (λ (e : 102 ≡ 49). omega (arith, e)) (λ (e : 105 ≡ 10). omega (arith, e))
none_turns First Six Lanes file t w = apart First (Fields Six Lanes) file t w 11 12 (omega arith) (λ (e : 102 ≡ 49). omega (arith, e)) (λ (e : 105 ≡ 10). omega (arith, e))
none_turns First All Sha256 file t w = apart First (Fields All Sha256) file t w 11 12 (omega arith) (λ (e : 102 ≡ 49). omega (arith, e)) (λ (e : 105 ≡ 10). omega (arith, e))
none_turns First All Lanes file t w = apart First (Fields All Lanes) file t w 11 12 (omega arith) (λ (e : 102 ≡ 49). omega (arith, e)) (λ (e : 105 ≡ 10). omega (arith, e))
none_turns Second Six Sha256 file t w = apart Second (Fields Six Sha256) file t w 11 12 (omega arith) (λ (e : 102 ≡ 50). omega (arith, e)) (λ (e : 105 ≡ 10). omega (arith, e))
none_turns Second Six Lanes file t w = apart Second (Fields Six Lanes) file t w 11 12 (omega arith) (λ (e : 102 ≡ 50). omega (arith, e)) (λ (e : 105 ≡ 10). omega (arith, e))
none_turns Second All Sha256 file t w = apart Second (Fields All Sha256) file t w 11 12 (omega arith) (λ (e : 102 ≡ 50). omega (arith, e)) (λ (e : 105 ≡ 10). omega (arith, e))
none_turns Second All Lanes file t w = apart Second (Fields All Lanes) file t w 11 12 (omega arith) (λ (e : 102 ≡ 50). omega (arith, e)) (λ (e : 105 ≡ 10). omega (arith, e))
none_turns Third Six Sha256 file t w = apart Third (Fields Six Sha256) file t w 11 12 (omega arith) (λ (e : 102 ≡ 52). omega (arith, e)) (λ (e : 105 ≡ 10). omega (arith, e))
none_turns Third Six Lanes file t w = apart Third (Fields Six Lanes) file t w 11 12 (omega arith) (λ (e : 102 ≡ 52). omega (arith, e)) (λ (e : 105 ≡ 10). omega (arith, e))
none_turns Third All Sha256 file t w = apart Third (Fields All Sha256) file t w 11 12 (omega arith) (λ (e : 102 ≡ 52). omega (arith, e)) (λ (e : 105 ≡ 10). omega (arith, e))
none_turns Third All Lanes file t w = apart Third (Fields All Lanes) file t w 11 12 (omega arith) (λ (e : 102 ≡ 52). omega (arith, e)) (λ (e : 105 ≡ 10). omega (arith, e))
none_turns (Fields kinds checksum) others other file t w = no_known kinds checksum file t (Fields others other) w
