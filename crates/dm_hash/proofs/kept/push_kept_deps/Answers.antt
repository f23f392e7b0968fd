use Rattle.std.proofs.Common.{arith, ap, sym, refl, ◌∙◌, ◌≡◌, ◌≤◌, ◌++◌, ◌∷◌, [], List, ℕ, length, take, nat_eq, false, append_assoc}
use Rattle.std.specs.Prelude.{codes}
use Rattle.std.specs.List.{flat_map}
use Rattle.std.proofs.lemmas.List.{take_all}
use Rattle.std.proofs.lemmas.Grind.{common_steps}
use Rattle.dm_info.specs.PatchInfo.{PatchInfo}
use Rattle.dm_named.specs.Canonical.{info_line}
use Rattle.dm_hash.specs.Kept.{kept_deps}
use Rattle.dm_hash.proofs.kept.push_kept_deps.Goals as goal

between : (a b c d f h : List ℕ) → f ≡ a ++ (b ++ c) → h ≡ f ++ d → h ≡ a ++ (b ++ (c ++ d))
between a b c d f h x y = rw (y, x) (simp append_assoc refl)

closed : (ds : List PatchInfo) (i : ℕ) (old out new : List ℕ) → nat_eq (length ds) 0 ≡ false → length ds ≤ i → out ≡ old ++ (codes "\n<\n" ++ flat_map info_line (take i ds)) → new ≡ out ++ codes ">" → new ≡ old ++ kept_deps ds
closed [] i old out new e l h n = cc
closed (d ∷ ds) i old out new e l h n =
    between old (codes "\n<\n") (flat_map info_line (d ∷ ds)) (codes ">") out new (h ∙ ap (λ z. old ++ (codes "\n<\n" ++ flat_map info_line z)) (take_all i (d ∷ ds) l)) n

pub loop-dep-preserved : goal.loop-dep-preserved
loop-dep-preserved g c = grind (arith, common_steps)

pub returns : goal.returns
returns g c = closed c.args.deps.now c.loop-dep.dep-index c.args.out.now.items c.loop-dep.out.items c.push-2.new.self.items (sym c.is_empty.ensures ∙ c.if-is_empty.false) c.loop-dep-test.false
    c.loop-dep.invariant c.in_ok-push-2.ensures.items
