-- Each child has fewer rows under it than its parent.
use Rattle.std.specs.Prelude.{ℕ, ◌+◌, ◌≤◌, ◌≡◌, max, List, [], ◌∷◌, length, refl}
use Rattle.std.proofs.Common.{arith, length-append, zero, suc, ◌<◌, get_or}
use Rattle.std.specs.declared.alloc.Allocator.{Ghosts}
use Rattle.dm_tree.specs.Paths.{Name}
use Rattle.dm_tree.specs.declared.node.Body.{Body}
use Rattle.dm_tree.specs.declared.node.Body.TheVariants.{Text, Children}
use Rattle.dm_tree.specs.declared.node.Node.TheDeep.{deep-Body}
use Rattle.dm_tree.specs.Children.{PathEntries, Child, below, flatten}
use Rattle.dm_tree.specs.Nested.{under_of}
use denote.Param.Weighed.{most}

pub length-below : (n : Name) (rs : PathEntries) → length (below n rs) ≡ length rs
length-below n [] = refl
length-below n (r ∷ rs) = omega (arith, length-below n rs)

pub most_le : (ks : List Child) → most (λ k. length k.under + 1) ks ≤ length (flatten ks)
most_le [] = omega arith
most_le (k ∷ ks) = omega (arith, most_le ks, length-below k.name k.under, length-append (below k.name k.under) (flatten ks))

pub depth_le : {A : Type 0} (G : Ghosts A) (n : Body A) → max (deep-Body A G n) 0 ≤ length (under_of n)
depth_le G (Text l) = omega arith
depth_le G (Children ks) = omega (arith, most_le ks.items)

pub one_le : (ks : List Child) (i : ℕ) (d : Child) → i < length ks → length (get_or ks i d).under + 1 ≤ length (flatten ks)
one_le [] i d lt = absurd (omega arith)
one_le (k ∷ ks) zero d lt = omega (arith, length-below k.name k.under, length-append (below k.name k.under) (flatten ks))
one_le (k ∷ ks) (suc i) d lt = omega (arith, one_le ks i d (omega arith), length-append (below k.name k.under) (flatten ks))
