-- Parts of one kind, one after the other.
use Rattle.std.specs.Prelude.{◌≡◌, ℕ, List, [], ◌∷◌}

-- these values stand at the front of the text, one after the other, each as `S text value rest` says, and this rest is left
abbrev pub Many : {V : Type 0} → (List ℕ → V → List ℕ → Type 0) → List ℕ → List V → List ℕ → Type 0
Many S text [] rest = text ≡ rest
Many S text (v ∷ vs) rest = (after : List ℕ) × S text v after × Many S after vs rest
