use Rattle.std.proofs.Common.{List, [], ◌∷◌, ◌++◌, ◌↔◌, Contains, inl, inr, refl, subst}
use Rattle.std.proofs.lemmas.List.Elements.{Contains-append_left, Contains-push_cases}
use Rattle.dm_tree.specs.Paths.{Path}
use Rattle.dm_prim.proofs.SketchLemmas.{covers_more}
use Rattle.dm_prim.proofs.touched.add_path.Goals as goal

-- a path that is there already
there_already : (paths : List Path) (f : Path) → Contains paths f → (g : Path) → Contains paths g ↔ Contains (paths ++ f ∷ []) g
there_already paths f h g = (
  λ c. Contains-append_left paths (f ∷ []) g c,
  λ c. elim (Contains-push_cases paths f g c) [ inl d ↦ d | inr e ↦ subst (Contains paths) e h ],
)

pub returns-then-is_recent-clause-paths : goal.returns-then-is_recent-clause-paths
returns-then-is_recent-clause-paths g c = there_already c.args.paths.now.items c.args.path.now (rw c.deref.ensures.value at (c.if-is_recent.ensures refl))

pub returns-clause-sketch : goal.returns-clause-sketch
returns-clause-sketch g c = rw (c.in_ok-push.ensures.items, c.in_ok-copy.ensures) (λ h. covers_more c.add.ensures h)
