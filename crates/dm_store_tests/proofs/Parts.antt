-- What a write of fewer bytes tears.
use Rattle.std.proofs.Common.{◌≡◌, ℕ, ◌+◌, ◌-◌, ◌≤◌, max, List, length, drop, sym, ◌∙◌, ap, arith}
use Rattle.std.proofs.Math.Nat.{max-le, le-max_left, le-max_right}
use Rattle.std.proofs.lemmas.List.{drop-drop}
use Rattle.dm_journal.specs.Device.{Torn}

module _ (at m n : ℕ) (le : m ≤ n) where
  further : (l : List ℕ) → drop (at + n) l ≡ drop (n - m) (drop (at + m) l)
  further l =
      let same : at + n ≡ at + m + (n - m) = omega (arith, le) in
      ap (λ (k : ℕ). drop k l) same ∙ sym (drop-drop (n - m) (at + m) l)

  -- it tears no more than one of more bytes at the same place
  pub torn_within : (old new : List ℕ) → Torn at m old new → Torn at n old new
  torn_within old new torn =
      let reached : at + m ≤ max (length old) (at + n) = omega (arith, le, le-max_right (length old) (at + n)) in
      let wider : max (length old) (at + m) ≤ max (length old) (at + n) = max-le (le-max_left (length old) (at + n)) reached in
      record {
        before = torn.before;
        after = further new ∙ ap (drop (n - m)) torn.after ∙ sym (further old);
        no_shorter = torn.no_shorter;
        no_longer = omega (arith, torn.no_longer, wider);
      }
