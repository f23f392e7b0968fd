-- The entries of a store's journal.
use Rattle.std.specs.Prelude.{ℕ, List, [], ◌∷◌, ◌++◌}
use Rattle.std.specs.Int.{w64, to_le_bytes}
use Rattle.dm_named.specs.Patches.{Patch}
use Rattle.dm_bundle.specs.Bundles.{Contents}
use Rattle.dm_repo.specs.declared.policy.Policy.{Policy}
use Rattle.dm_repo.specs.declared.policy.Policy.TheVariants.{Refuse, Skip}

-- the byte of a policy
abbrev pub policy_byte : Policy → ℕ
policy_byte Refuse = 0
policy_byte Skip = 1

-- the entry of a text that was taken: the byte of its policy, and the text
abbrev pub entry_of : Policy → List ℕ → List ℕ
entry_of policy text = policy_byte policy ∷ text

-- the entry of a whole repository whose base its form tells, as older files have it: another byte, and a text
abbrev pub whole_entry : List ℕ → List ℕ
whole_entry text = 2 ∷ text

-- the entry of a whole repository with so many patches in its base: another byte, the number in 8 bytes, and a text
abbrev pub counted_entry : ℕ → List ℕ → List ℕ
counted_entry base text = 3 ∷ (to_le_bytes w64 base ++ text)

-- the bundle of all patches of a repository, with an empty context
abbrev pub all_of : List Patch → Contents
all_of repo = record { patches = repo; context = [] }
