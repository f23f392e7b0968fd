use Rattle.std.proofs.Common.{◌≡◌, ◌++◌, ◌∷◌, [], List, length, map, get_or, ◌∙◌, ap, sym, refl, arith}
use Rattle.std.specs.Prelude.{codes}
use Rattle.std.specs.List.{flat_map}
use Rattle.dm_prim.specs.Primitives.{Prim}
use Rattle.dm_prim.specs.Prims.{prim_of, prims_of}
use Rattle.dm_named.proofs.NamedLemmas.{on_ok, three_more}
use Rattle.dm_named.proofs.PrimLemmas.{count_map}
use Rattle.dm_log.specs.Verbose.{body_shown, prim_shown}
use Rattle.dm_log.proofs.verbose.push_shown_body.Goals as goal

braced : (ps : List Prim) → (length ps ≡ 1 → ⊥) → body_shown ps ≡ codes "{\n" ++ (flat_map prim_shown ps ++ codes "}\n")
braced [] other = refl
braced (p ∷ []) other = absurd (other refl)
braced (p ∷ q ∷ ps) other = refl

alone : {X : Type 0} (f : X → Prim) (xs : List X) (x : X) → length xs ≡ 1 → x ≡ get_or xs 0 x → body_shown (map f xs) ≡ prim_shown (f x)
alone f [] x one is = absurd (omega (arith, one))
alone f (y ∷ []) x one is = ap (λ z. prim_shown (f z)) (sym is)
alone f (y ∷ z ∷ xs) x one is = absurd (omega (arith, one))

pub returns-then-prims-eq1 : goal.returns-then-prims-eq1
returns-then-prims-eq1 g c =
    on_ok c.push_shown_prim.result (λ appended. rw (alone prim_of c.args.prims.now c.index-prims-0.result c.if-prims-eq1.true c.index-prims-0.is) appended) c.push_shown_prim.ensures

pub returns : goal.returns
returns g c =
    let ps : List Prim = prims_of c.args.prims.now in
    rw (braced ps (λ one. c.if-prims-eq1.false (sym (count_map prim_of c.args.prims.now) ∙ one)))
    (three_more c.args.out.now.items (codes "{\n") (flat_map prim_shown ps) (codes "}\n") c.extend_from_slice.new.self.items c.push_shown_prims.new.out.items c.extend_from_slice-2.new.self.items c.in_ok-extend_from_slice.ensures.items c.in_ok-push_shown_prims.ensures c.in_ok-extend_from_slice-2.ensures.items)
