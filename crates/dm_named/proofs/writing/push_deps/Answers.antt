use Rattle.std.proofs.Common.{arith, ap, sym, refl, ◌∙◌, ◌≡◌, ◌≤◌, ◌++◌, ◌∷◌, [], List, ℕ, length, take, nat_eq, false, append_assoc}
use Rattle.std.specs.Prelude.{codes}
use Rattle.std.specs.List.{flat_map}
use Rattle.std.proofs.lemmas.List.{take_all}
use Rattle.std.proofs.lemmas.Grind.{common_steps}
use Rattle.dm_info.specs.PatchInfo.{PatchInfo, IsInfo}
use Rattle.dm_named.specs.Canonical.{deps_text, info_line}
use Rattle.dm_named.proofs.NamedLemmas.{all_more}
use Rattle.dm_named.proofs.writing.push_deps.Goals as goal

between : (a b c d f h : List ℕ) → f ≡ a ++ (b ++ c) → h ≡ f ++ d → h ≡ a ++ (b ++ (c ++ d))
between a b c d f h x y = rw (y, x) (simp append_assoc refl)

closed : (ds : List PatchInfo) (i : ℕ) (old out new : List ℕ) → nat_eq (length ds) 0 ≡ false → length ds ≤ i → out ≡ old ++ (codes "<\n" ++ flat_map info_line (take i ds)) → new ≡ out ++ codes "> " → new ≡ old ++ deps_text ds
closed [] i old out new e l h n = cc
closed (d ∷ ds) i old out new e l h n =
    between old (codes "<\n") (flat_map info_line (d ∷ ds)) (codes "> ") out new (h ∙ ap (λ z. old ++ (codes "<\n" ++ flat_map info_line z)) (take_all i (d ∷ ds) l)) n

pub loop-dep-preserved : goal.loop-dep-preserved
loop-dep-preserved g c = record { text = grind (arith, common_steps); valid = all_more IsInfo c.args.deps.now c.loop-dep.dep-index c.dep-item.result c.loop-dep-test.true c.dep-item.is c.in_ok-push_info.ensures.valid c.loop-dep.invariant.valid }

pub returns-clause-valid : goal.returns-clause-valid
returns-clause-valid g c = rw (take_all c.loop-dep.dep-index c.args.deps.now c.loop-dep-test.false) at c.loop-dep.invariant.valid

pub returns-clause-text : goal.returns-clause-text
returns-clause-text g c = closed c.args.deps.now c.loop-dep.dep-index c.args.out.now.items c.loop-dep.out.items c.extend_from_slice-2.new.self.items (sym c.is_empty.ensures ∙ c.if-is_empty.false) c.loop-dep-test.false
    c.loop-dep.invariant.text c.in_ok-extend_from_slice-2.ensures.items
