use Rattle.std.proofs.Common.{◌≡◌, ◌∙◌, ◌++◌, ◌∷◌, [], List, ℕ, ap, sym, subst, take, append_assoc}
use Rattle.std.specs.List.{flat_map}
use Rattle.std.proofs.lemmas.List.{append-nil, take_all}
use Rattle.dm_prim.specs.Primitives.{Prim}
use Rattle.dm_prim.specs.Prims.{prim_of, prims_of}
use Rattle.dm_prim.proofs.ListLemmas.{count_of, prims_more}
use Rattle.dm_log.specs.Verbose.{prim_shown}
use Rattle.dm_log.proofs.verbose.push_shown_prims.Goals as goal

one_more : (old mid new a b c : List ℕ) → mid ≡ old ++ a → new ≡ mid ++ b → c ≡ a ++ b → new ≡ old ++ c
one_more old mid new a b c x y z = rw (z, y, x) (append_assoc old a b)

pub loop-prim-preserved : goal.loop-prim-preserved
loop-prim-preserved g c =
    let prims = c.args.prims.now in
    let i = c.loop-prim.prim-index in
    let p = c.prim-item.result in
    let so_far : List Prim = take i (prims_of prims) in
    one_more c.args.out.now.items c.loop-prim.out.items c.push_shown_prim.new.out.items (flat_map prim_shown so_far) (prim_shown (prim_of p)) _
    c.loop-prim.invariant c.in_ok-push_shown_prim.ensures (ap (λ xs. flat_map prim_shown xs) (prims_more prims i p c.loop-prim-test.true c.prim-item.is) ∙ last so_far (prim_of p))
  where
    last : (xs : List Prim) (p : Prim) → flat_map prim_shown (xs ++ p ∷ []) ≡ flat_map prim_shown xs ++ prim_shown p
    last [] p = append-nil (prim_shown p)
    last (x ∷ xs) p = ap (λ (t : List ℕ). prim_shown x ++ t) (last xs p) ∙ sym (append_assoc (prim_shown x) (flat_map prim_shown xs) (prim_shown p))

pub returns : goal.returns
returns g c =
    let prims = c.args.prims.now in
    subst (λ (xs : List Prim). c.loop-prim.out.items ≡ c.args.out.now.items ++ flat_map prim_shown xs) (take_all c.loop-prim.prim-index (prims_of prims) (rw (count_of prims) c.loop-prim-test.false)) c.loop-prim.invariant
