use Rattle.std.proofs.Common.{◌≡◌, ◌++◌, ◌∷◌, [], List, length, map, get_or, ap, sym, refl, arith}
use Rattle.std.specs.Prelude.{codes}
use Rattle.std.specs.List.{flat_map}
use Rattle.dm_prim.specs.Commuting.{IsValidPrim}
use Rattle.dm_named.specs.Kinds.{HasBytes}
use Rattle.dm_named.specs.MergedPatches.{Item, EachOfItem}
use Rattle.dm_named.specs.CanonicalMerged.{item_text, items_text}
use Rattle.dm_named.specs.Items.{item_of, items_of}
use Rattle.dm_named.proofs.NamedLemmas.{three_more, all_alone, on_ok}
use Rattle.dm_named.proofs.writing.merged.push_body_of_items.Goals as goal

braced : {X : Type 0} (f : X → Item) (xs : List X) → (length xs ≡ 1 → ⊥) → items_text (map f xs) ≡ codes "{\n" ++ (flat_map item_text (map f xs) ++ codes "}\n")
braced f [] other = refl
braced f (x ∷ []) other = absurd (other refl)
braced f (x ∷ y ∷ xs) other = refl

alone : {X : Type 0} (f : X → Item) (xs : List X) (x : X) → length xs ≡ 1 → x ≡ get_or xs 0 x → items_text (map f xs) ≡ item_text (f x)
alone f [] x one is = absurd (omega (arith, one))
alone f (y ∷ []) x one is = ap (λ z. item_text (f z)) (sym is)
alone f (y ∷ z ∷ xs) x one is = absurd (omega (arith, one))

pub returns-then-items-eq1-clause-text : goal.returns-then-items-eq1-clause-text
returns-then-items-eq1-clause-text g c =
    on_ok c.push_item.result (λ appended. rw (alone item_of c.args.items.now c.index-items-0.result c.if-items-eq1.true c.index-items-0.is) appended) c.push_item.ensures.text

pub returns-clause-text : goal.returns-clause-text
returns-clause-text g c =
    let is : List Item = items_of c.args.items.now in
    rw (braced item_of c.args.items.now c.if-items-eq1.false)
    (three_more c.args.out.now.items (codes "{\n") (flat_map item_text is) (codes "}\n") c.extend_from_slice.new.self.items c.push_items.new.out.items c.extend_from_slice-2.new.self.items c.in_ok-extend_from_slice.ensures.items c.in_ok-push_items.ensures.text c.in_ok-extend_from_slice-2.ensures.items)

pub returns-then-items-eq1-clause-valid : goal.returns-then-items-eq1-clause-valid
returns-then-items-eq1-clause-valid g c = on_ok c.push_item.result (all_alone (EachOfItem IsValidPrim) item_of c.args.items.now c.index-items-0.result c.if-items-eq1.true c.index-items-0.is) c.push_item.ensures.valid

pub returns-then-items-eq1-clause-bytes : goal.returns-then-items-eq1-clause-bytes
returns-then-items-eq1-clause-bytes g c = on_ok c.push_item.result (all_alone (EachOfItem HasBytes) item_of c.args.items.now c.index-items-0.result c.if-items-eq1.true c.index-items-0.is) c.push_item.ensures.bytes

pub returns-clause-valid : goal.returns-clause-valid
returns-clause-valid g c = c.in_ok-push_items.ensures.valid

pub returns-clause-bytes : goal.returns-clause-bytes
returns-clause-bytes g c = c.in_ok-push_items.ensures.bytes
