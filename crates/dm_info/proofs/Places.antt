-- The laws of reading, at a place of a text.
use Rattle.std.proofs.Common.{◌≡◌, ℕ, ◌+◌, ◌-◌, ◌≤◌, List, ◌++◌, length, drop, Ok, refl, sym, ap, ◌∙◌, arith, inl, inr}
use Rattle.std.proofs.lemmas.List.{drop-drop, drop_at, length-drop, length-append, drop_all, nil_from_length}
use Rattle.std.proofs.lemmas.Bool.{cases_lt}
use Rattle.dm_info.specs.declared.fault.InfoReadFault.{InfoReadFault}
use Rattle.dm_info.specs.declared.fault.InfoReadFault.TheVariants.{BadInfo, Inverted, NoMemory}
use Rattle.dm_info.specs.PatchInfo.{PatchInfo}
use Rattle.dm_info.specs.Spelling.{StandsFrom, StandsInverted}
use Rattle.dm_info.specs.Refusals.{HasReadFault}
use Rattle.dm_info.specs.Reading.{Fails, info_at}
use Rattle.dm_info.proofs.ReadingLemmas.{ok_pair, info_takes, info_again, inverted_takes, inverted_again}

-- what is left of the text is what stands from its place on
rest_at : (text : List ℕ) (at : ℕ) (own rest : List ℕ) → drop at text ≡ own ++ rest → drop (length text - length rest) text ≡ rest
rest_at text at own rest parts =
    elim (cases_lt at (length text)) [
      | inl lt ↦
          let place : length text - length rest ≡ at + length own = omega (arith, length-drop at text, length-append own rest, ap length parts) in
          rw (place, ← drop-drop (length own) at text, parts) (drop_at own rest (length own) refl)
      | inr le ↦
          let none : length rest ≡ 0 = omega (arith, length-drop at text, length-append own rest, ap length parts) in
          rw (nil_from_length rest none) (drop_all (length text - 0) text (omega arith))
    ]

pub placed : (text : List ℕ) (at : ℕ) (i : PatchInfo) (rest : List ℕ) → info_at (drop at text) ≡ Ok (i, rest) → StandsFrom text at i (length text - length rest)
placed text at i rest e =
    let s = info_takes (drop at text) i rest e in
    record { within = omega arith; stands = rw (rest_at text at s.own rest s.parts) s }

pub place_is : (text : List ℕ) (at : ℕ) (i j : PatchInfo) (rest : List ℕ) (next : ℕ) → info_at (drop at text) ≡ Ok (i, rest) → StandsFrom text at j next → (j ≡ i) × (next ≡ length text - length rest)
place_is text at i j rest next e found =
    let same = ok_pair j i (drop next text) rest (sym (info_again (drop at text) j (drop next text) found.stands) ∙ e) in
    let within : next ≤ length text = found.within in
    (same.0, omega (arith, length-drop next text, ap length same.1))

pub only_err : (e : InfoReadFault) (text : List ℕ) (at : ℕ) (j : PatchInfo) (next : ℕ) → Fails e (info_at (drop at text)) → StandsFrom text at j next → e ≡ NoMemory
only_err NoMemory text at j next f found = refl
only_err BadInfo text at j next f found = absurd (let both = sym f ∙ info_again (drop at text) j (drop next text) found.stands in cc)
only_err Inverted text at j next f found = absurd (let both = sym f ∙ info_again (drop at text) j (drop next text) found.stands in cc)

pub turned_err : (e : InfoReadFault) (text : List ℕ) → Fails e (info_at text) → StandsInverted text → e ≡ BadInfo → ⊥
turned_err NoMemory text f s is = cc
turned_err BadInfo text f s is = let both = sym f ∙ inverted_again text s in cc
turned_err Inverted text f s is = cc

pub turned_ok : (text : List ℕ) (i : PatchInfo) (rest : List ℕ) → info_at text ≡ Ok (i, rest) → StandsInverted text → ⊥
turned_ok text i rest e s = let both = sym e ∙ inverted_again text s in cc

pub shorter_rest : (text : List ℕ) (at : ℕ) (i : PatchInfo) (rest : List ℕ) → info_at (drop at text) ≡ Ok (i, rest) → length rest ≤ length text
shorter_rest text at i rest e = let s = info_takes (drop at text) i rest e in omega (arith, length-drop at text, length-append s.own rest, ap length s.parts)

-- where reading fails the text has that fault
pub has_fault : (e : InfoReadFault) (text : List ℕ) → Fails e (info_at text) → HasReadFault text e
has_fault NoMemory text f = tt
has_fault Inverted text f = inverted_takes text f
has_fault BadInfo text f = record {
  none = λ i rest stands. let both = sym f ∙ info_again text i rest stands in cc;
  none_inverted = λ s. let both = sym f ∙ inverted_again text s in cc;
}
