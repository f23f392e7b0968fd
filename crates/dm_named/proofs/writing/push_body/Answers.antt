use Rattle.std.proofs.Common.{◌≡◌, ◌++◌, ◌∷◌, [], List, length, map, get_or, ◌∙◌, ap, sym, refl, arith}
use Rattle.std.specs.Prelude.{codes}
use Rattle.std.specs.List.{flat_map}
use Rattle.dm_prim.specs.Primitives.{Prim}
use Rattle.dm_prim.specs.Commuting.{IsValidPrim}
use Rattle.dm_named.specs.Kinds.{HasBytes}
use Rattle.dm_named.specs.Canonical.{prim_text, body_text}
use Rattle.dm_prim.specs.Prims.{prim_of, prims_of}
use Rattle.dm_named.proofs.NamedLemmas.{three_more, all_alone, on_ok}
use Rattle.dm_named.proofs.PrimLemmas.{count_map}
use Rattle.dm_named.proofs.writing.push_body.Goals as goal

braced : (ps : List Prim) → (length ps ≡ 1 → ⊥) → body_text ps ≡ codes "{\n" ++ (flat_map prim_text ps ++ codes "}\n")
braced [] other = refl
braced (p ∷ []) other = absurd (other refl)
braced (p ∷ q ∷ ps) other = refl

alone : {X : Type 0} (f : X → Prim) (xs : List X) (x : X) → length xs ≡ 1 → x ≡ get_or xs 0 x → body_text (map f xs) ≡ prim_text (f x)
alone f [] x one is = absurd (omega (arith, one))
alone f (y ∷ []) x one is = ap (λ z. prim_text (f z)) (sym is)
alone f (y ∷ z ∷ xs) x one is = absurd (omega (arith, one))

pub returns-then-prims-eq1-clause-text : goal.returns-then-prims-eq1-clause-text
returns-then-prims-eq1-clause-text g c =
    on_ok c.push_prim.result (λ appended. rw (alone prim_of c.args.prims.now c.index-prims-0.result c.if-prims-eq1.true c.index-prims-0.is) appended) c.push_prim.ensures.text

pub returns-clause-text : goal.returns-clause-text
returns-clause-text g c =
    let ps : List Prim = prims_of c.args.prims.now in
    rw (braced ps (λ one. c.if-prims-eq1.false (sym (count_map prim_of c.args.prims.now) ∙ one)))
    (three_more c.args.out.now.items (codes "{\n") (flat_map prim_text ps) (codes "}\n") c.extend_from_slice.new.self.items c.push_prims.new.out.items c.extend_from_slice-2.new.self.items c.in_ok-extend_from_slice.ensures.items c.in_ok-push_prims.ensures.text c.in_ok-extend_from_slice-2.ensures.items)

pub returns-then-prims-eq1-clause-valid : goal.returns-then-prims-eq1-clause-valid
returns-then-prims-eq1-clause-valid g c = on_ok c.push_prim.result (all_alone IsValidPrim prim_of c.args.prims.now c.index-prims-0.result c.if-prims-eq1.true c.index-prims-0.is) c.push_prim.ensures.valid

pub returns-then-prims-eq1-clause-bytes : goal.returns-then-prims-eq1-clause-bytes
returns-then-prims-eq1-clause-bytes g c = on_ok c.push_prim.result (all_alone HasBytes prim_of c.args.prims.now c.index-prims-0.result c.if-prims-eq1.true c.index-prims-0.is) c.push_prim.ensures.bytes

pub returns-clause-valid : goal.returns-clause-valid
returns-clause-valid g c = c.in_ok-push_prims.ensures.valid

pub returns-clause-bytes : goal.returns-clause-bytes
returns-clause-bytes g c = c.in_ok-push_prims.ensures.bytes
