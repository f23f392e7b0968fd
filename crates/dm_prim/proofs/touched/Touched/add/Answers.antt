use Rattle.std.proofs.Common.{◌∷◌, [], ◌++◌, ◌∙◌, ◌↔◌, ap, sym, refl, subst, false, Contains, append-nil}
use Rattle.dm_prim.specs.Prims.{prim_of, path_of}
use Rattle.dm_prim.specs.Touch.{TouchedPaths}
use Rattle.dm_tree.proofs.Fronts.{refuted}
use Rattle.dm_prim.proofs.TableLemmas.{is_work}
use Rattle.dm_prim.proofs.TouchLemmas.{touches_more, two_more, paths_of_work, still_moves_outside, paths_of_nameless, nameless_moves_nothing, paths_of_move, move_moves_outside, move_moves_something}
use Rattle.dm_prim.proofs.touched.Touched.add.Goals as goal

pub returns-then-not-names_a_path : goal.returns-then-not-names_a_path
returns-then-not-names_a_path g c =
    let p = prim_of c.args.prim.now in
    let t : TouchedPaths = c.args.self.now in
    let nameless = refuted c.if-not-names_a_path.ensures in
    let still = nameless_moves_nothing p nameless in
    touches_more p t t.paths t.moves_outside t.moves_nothing c.tells_valid.ensures
    (λ f. rw (paths_of_nameless p nameless, append-nil t.paths) (λ k. k, λ k. k))
    (λ m. (m, still_moves_outside p still), λ x. x.0)
    (λ m. (m, still), λ x. x.0)

pub returns-then-not-are_apart : goal.returns-then-not-are_apart
returns-then-not-are_apart g c =
    let p = prim_of c.args.prim.now in
    let t : TouchedPaths = record { paths = c.self.inside.paths.items; moves_outside = c.self.inside.moves_outside; moves_nothing = c.self.inside.moves_nothing } in
    let one = c.add_path.new.paths.items in
    let two = c.add_path-in-Some.new.paths.items in
    let to = c.in-Some.target.now in
    λ ps h. touches_more p t two false false c.tells_valid.ensures
    (λ f. subst (λ z. Contains two f ↔ Contains (t.paths ++ z) f) (ap (λ z. z ∷ to ∷ []) c.path.ensures ∙ sym (paths_of_move p (path_of p) to c.in-Some.ensures))
    (two_more t.paths one two c.path.result.now to c.in_ok-add_path.ensures.paths c.in_ok-add_path-2.ensures.paths f))
    (λ x. cc, λ x. absurd (cc (c.if-not-are_apart.ensures.1 (rw c.path-in-Some.ensures ((move_moves_outside p (path_of p) to c.in-Some.ensures).0 x.1)))))
    (move_moves_something p (path_of p) to c.in-Some.ensures) ps (rw (← c.self.view_is) at h)

pub returns-else-not-are_apart : goal.returns-else-not-are_apart
returns-else-not-are_apart g c =
    let p = prim_of c.args.prim.now in
    let t : TouchedPaths = record { paths = c.self.inside.paths.items; moves_outside = c.self.inside.moves_outside; moves_nothing = c.self.inside.moves_nothing } in
    let one = c.add_path.new.paths.items in
    let two = c.add_path-in-Some.new.paths.items in
    let to = c.in-Some.target.now in
    λ ps h. touches_more p t two c.self.inside.moves_outside false c.tells_valid.ensures
    (λ f. subst (λ z. Contains two f ↔ Contains (t.paths ++ z) f) (ap (λ z. z ∷ to ∷ []) c.path.ensures ∙ sym (paths_of_move p (path_of p) to c.in-Some.ensures))
    (two_more t.paths one two c.path.result.now to c.in_ok-add_path.ensures.paths c.in_ok-add_path-2.ensures.paths f))
    (λ m. (m, (move_moves_outside p (path_of p) to c.in-Some.ensures).1 (rw c.path-in-Some.ensures at (c.if-not-are_apart.ensures.0 refl))), λ x. x.0)
    (move_moves_something p (path_of p) to c.in-Some.ensures) ps (rw (← c.self.view_is) at h)

pub returns-in_default : goal.returns-in_default
returns-in_default g c =
    let p = prim_of c.args.prim.now in
    let t : TouchedPaths = record { paths = c.self.inside.paths.items; moves_outside = c.self.inside.moves_outside; moves_nothing = c.self.inside.moves_nothing } in
    λ ps h. touches_more p t c.add_path.new.paths.items c.self.inside.moves_outside c.self.inside.moves_nothing c.tells_valid.ensures
    (λ f. subst (λ z. Contains c.add_path.new.paths.items f ↔ Contains (t.paths ++ z) f) (ap (λ z. z ∷ []) c.path.ensures ∙ sym (paths_of_work p (is_work p (c.if-not-names_a_path.ensures.0 refl) c.in_default.ensures))) (c.in_ok-add_path.ensures.paths f))
    (λ m. (m, still_moves_outside p c.in_default.ensures), λ x. x.0)
    (λ m. (m, c.in_default.ensures), λ x. x.0) ps (rw (← c.self.view_is) at h)
