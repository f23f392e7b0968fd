-- An entry has one policy and one text, or it is that of a whole repository, of one text and one base.
use Rattle.std.proofs.Common.{◌≡◌, ◌∙◌, ◌<◌, ◌^◌, arith, ℕ, List, [], ◌∷◌, ◌++◌, append_assoc, get_or, take, drop, refl, sym, ap}
use Rattle.std.specs.Int.{w64, to_le_bytes, from_le_bytes}
use Rattle.std.proofs.lemmas.List.{drop_at, take_at}
use Rattle.std.proofs.lemmas.Nat.{from_le_bytes-to_le_bytes_8}
use Rattle.dm_repo.specs.declared.policy.Policy.{Policy}
use Rattle.dm_repo.specs.declared.policy.Policy.TheVariants.{Refuse, Skip}
use Rattle.dm_store.specs.Entries.{policy_byte, entry_of, whole_entry, counted_entry}

same_policy : (p q : Policy) → policy_byte p ≡ policy_byte q → p ≡ q
same_policy Refuse Refuse e = refl
same_policy Skip Skip e = refl
same_policy Refuse Skip e = absurd (omega (arith, e))
same_policy Skip Refuse e = absurd (omega (arith, e))

pub one_entry : (p q : Policy) (t u : List ℕ) → entry_of p t ≡ entry_of q u → (p ≡ q) × (t ≡ u)
one_entry p q t u e = (same_policy p q (ap (λ (l : List ℕ). get_or l 0 0) e), ap (λ (l : List ℕ). drop 1 l) e)

no_whole : (p : Policy) → policy_byte p ≡ 2 → ⊥
no_whole Refuse e = absurd (omega (arith, e))
no_whole Skip e = absurd (omega (arith, e))

pub other_kind : (p : Policy) (t u : List ℕ) → entry_of p t ≡ whole_entry u → ⊥
other_kind p t u e = no_whole p (ap (λ (l : List ℕ). get_or l 0 0) e)

pub one_whole : (t u : List ℕ) → whole_entry t ≡ whole_entry u → t ≡ u
one_whole t u e = ap (λ (l : List ℕ). drop 1 l) e

no_counted : (p : Policy) → policy_byte p ≡ 3 → ⊥
no_counted Refuse e = absurd (omega (arith, e))
no_counted Skip e = absurd (omega (arith, e))

pub not_counted : (p : Policy) (base : ℕ) (t u : List ℕ) → entry_of p t ≡ counted_entry base u → ⊥
not_counted p base t u e = no_counted p (ap (λ (l : List ℕ). get_or l 0 0) e)

pub whole_or_counted : (base : ℕ) (t u : List ℕ) → whole_entry t ≡ counted_entry base u → ⊥
whole_or_counted base t u e = let f : 2 ≡ 3 = ap (λ (l : List ℕ). get_or l 0 0) e in absurd (omega (arith, f))

-- a number below 2^64 has 8 bytes, and they are those of no other
pub one_counted : (a b : ℕ) (t u : List ℕ) → a < 2 ^ 64 → b < 2 ^ 64 → counted_entry a t ≡ counted_entry b u → (a ≡ b) × (t ≡ u)
one_counted a b t u la lb e =
    let f : to_le_bytes w64 a ++ t ≡ to_le_bytes w64 b ++ u = ap (λ (l : List ℕ). drop 1 l) e in
    let bytes : to_le_bytes w64 a ≡ to_le_bytes w64 b = sym (take_at (to_le_bytes w64 a) t 8 refl) ∙ ap (take 8) f ∙ take_at (to_le_bytes w64 b) u 8 refl in (
      sym (from_le_bytes-to_le_bytes_8 a la) ∙ ap (from_le_bytes w64) bytes ∙ from_le_bytes-to_le_bytes_8 b lb,
      sym (drop_at (to_le_bytes w64 a) t 8 refl) ∙ ap (drop 8) f ∙ drop_at (to_le_bytes w64 b) u 8 refl,
    )

-- an entry that was begun, and its text
pub begun_entry : (base : ℕ) (text front entry : List ℕ) → front ≡ counted_entry base [] → entry ≡ front ++ text → entry ≡ counted_entry base text
begun_entry base text front entry begun is = is ∙ ap (λ (l : List ℕ). l ++ text) begun ∙ ap (λ (l : List ℕ). 3 ∷ l) (append_assoc (to_le_bytes w64 base) [] text)
