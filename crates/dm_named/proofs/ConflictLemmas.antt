-- Conflictors as conflicts, and conflicts as conflictors.
use Rattle.std.proofs.Common.{◌≡◌, List, [], ◌∷◌, ◌++◌, Vec, length, map, refl, sym, ap, ap₂, ◌∙◌, append-nil, arith}
use Rattle.std.proofs.lemmas.List.{map_push, map-append, length-append}
use Rattle.dm_prim.specs.Primitives.{Prim, inv_all}
use Rattle.dm_prim.specs.Prims.{prims_of}
use Rattle.dm_prim.specs.declared.primitive.Primitive.{Primitive}
use Rattle.dm_prim.proofs.LawProofs.{inv_all-inv_all}
use Rattle.dm_element.specs.Elements.{Conflict}
use Rattle.dm_element.specs.Lists.{lists_of}
use Rattle.dm_element.specs.declared.side.Side.TheVariants.{After}
use Rattle.dm_named.specs.Conflictors.{Original, Conflictor}
use Rattle.dm_named.specs.ConflictorElements.{shadow_of, conflict_of, ConflictorsKeepTheirShape}

-- ---- lists that are read one by one

module _ {X Y P : Type 0} (f : X → P) (g : Y → P) where
  pub one_more : (xs xs' : List X) (x : X) (ys : List Y) (y : Y) → xs' ≡ xs ++ x ∷ [] → f x ≡ g y → map f xs ≡ map g ys → map f xs' ≡ map g (ys ++ y ∷ [])
  one_more xs xs' x ys y new same h = ap (map f) new ∙ map_push f xs x ∙ ap₂ (λ a b. a ++ b ∷ []) h same ∙ sym (map_push g ys y)

  pub all_read : (xs : List X) (all ys left : List Y) → all ≡ ys ++ left → length left ≡ 0 → map f xs ≡ map g ys → map f xs ≡ map g all
  all_read xs all ys [] whole none h = h ∙ ap (map g) (sym (whole ∙ append-nil ys))
  all_read xs all ys (y ∷ left) whole none h = absurd (omega (arith, none))

pub no_push : {X : Type 0} (xs : List X) (x : X) → xs ++ x ∷ [] ≡ [] → ⊥
no_push [] x e = cc
no_push (y ∷ xs) x e = cc

pub shadows_pushed : {Z Y : Type 0} (ls ls' : List (Vec (Primitive Z) Y)) (l : Vec (Primitive Z) Y) (os : List Original) (own : Original) → ls' ≡ ls ++ l ∷ [] → lists_of ls ≡ map shadow_of os → prims_of l.items ≡ shadow_of own
    → lists_of ls' ≡ map shadow_of os ++ shadow_of own ∷ []
shadows_pushed {Z} {Y} ls ls' l os own new h same =
    let read : Vec (Primitive Z) Y → List Prim = λ v. prims_of v.items in
    ap (map read) new ∙ map_push read ls l ∙ ap₂ (λ a b. a ++ b ∷ []) h same

-- ---- an empty shadow is that of no original

none_empty : (os : List Original) (front back : List (List Prim)) → map shadow_of os ≡ front ++ [] ∷ back → ⊥
none_empty [] [] back e = cc
none_empty [] (l ∷ front) back e = cc
none_empty (o ∷ os) [] back e = let head : shadow_of o ≡ [] = cc in no_push o.context o.prim head
none_empty (o ∷ os) (l ∷ front) back e = let tail : map shadow_of os ≡ front ++ [] ∷ back = cc in none_empty os front back tail

pub not_all : {Z Y : Type 0} (all gone left : List (Vec (Primitive Z) Y)) (l : Vec (Primitive Z) Y) → all ≡ gone ++ l ∷ left → prims_of l.items ≡ [] → (os : List Original) → map shadow_of os ≡ lists_of all → ⊥
not_all {Z} {Y} all gone left l whole none os h =
    let read : Vec (Primitive Z) Y → List Prim = λ v. prims_of v.items in
    let parts : lists_of all ≡ lists_of gone ++ prims_of l.items ∷ lists_of left = ap (map read) whole ∙ map-append read gone (l ∷ left) in
    none_empty os (lists_of gone) (lists_of left) (h ∙ parts ∙ ap (λ (x : List Prim). lists_of gone ++ x ∷ lists_of left) none)

-- ---- conflicts

pub whole_conflict : (k : Conflict) (os ps : List Original) (own : Original) (shadows : List (List Prim)) (effect : List Prim) → k.side ≡ After → effect ≡ k.effect → shadows ≡ k.shadows → map shadow_of os ≡ shadows → os ≡ ps ++ own ∷ []
    → conflict_of (record { partners = ps; undone = inv_all effect; own = own }) ≡ k
whole_conflict k os ps own shadows effect side e s h o =
    let effects : inv_all (inv_all effect) ≡ k.effect = inv_all-inv_all effect ∙ e in
    let all : map shadow_of ps ++ shadow_of own ∷ [] ≡ k.shadows = sym (map_push shadow_of ps own) ∙ ap (map shadow_of) (sym o) ∙ h ∙ s in
    λ i. record { side = sym side i; effect = effects i; shadows = all i }

pub no_originals : (k : Conflict) (shadows : List (List Prim)) → shadows ≡ k.shadows → ((os : List Original) → map shadow_of os ≡ shadows → ⊥) → (c : Conflictor) → conflict_of c ≡ k → ⊥
no_originals k shadows s none c e = none (c.partners ++ c.own ∷ []) (map_push shadow_of c.partners c.own ∙ ap (λ (x : Conflict). x.shadows) e ∙ sym s)

-- ---- their shape

split_last : (x : Prim) (xs : List Prim) → (o : Original) × (shadow_of o ≡ x ∷ xs)
split_last x [] = (record { context = []; prim = x }, refl)
split_last x (y ∷ ys) = let m = split_last y ys in (record { context = x ∷ m.0.context; prim = m.0.prim }, ap (λ (l : List Prim). x ∷ l) m.1)

an_original : (l : List Prim) (o : Original) → length l ≡ length (shadow_of o) → (p : Original) × (shadow_of p ≡ l)
an_original [] o e = absurd (omega (arith, e, length-append o.context (o.prim ∷ [])))
an_original (x ∷ xs) o e = split_last x xs

their_originals : (os : List Original) (ls : List (List Prim)) → map length ls ≡ map length (map shadow_of os) → (ps : List Original) × (map shadow_of ps ≡ ls)
their_originals [] [] e = ([], refl)
their_originals [] (l ∷ ls) e = absurd (no_push [] (length l) (let front : length l ∷ map length ls ≡ [] = e in cc))
their_originals (o ∷ os) [] e = absurd (let front : [] ≡ length (shadow_of o) ∷ map length (map shadow_of os) = e in cc)
their_originals (o ∷ os) (l ∷ ls) e =
    let head : length l ≡ length (shadow_of o) = cc in
    let tail : map length ls ≡ map length (map shadow_of os) = cc in
    let p = an_original l o head in
    let more = their_originals os ls tail in
    (p.0 ∷ more.0, ap₂ (λ a b. a ∷ b) p.1 more.1)

last_of : (o : Original) (os : List Original) → (front : List Original) × (last : Original) × (o ∷ os ≡ front ++ last ∷ [])
last_of o [] = ([], o, refl)
last_of o (p ∷ os) = let m = last_of p os in (o ∷ m.0, m.1, ap (λ (l : List Original). o ∷ l) m.2)

with_originals : (c : Conflictor) (k : Conflict) → k.side ≡ After → map length k.shadows ≡ map length (conflict_of c).shadows → (ps : List Original) → map shadow_of ps ≡ k.shadows → (d : Conflictor) × (conflict_of d ≡ k)
with_originals c k side e [] h =
    let counts : map length (map shadow_of c.partners ++ shadow_of c.own ∷ []) ≡ [] = sym e ∙ ap (map length) (sym h) in
    absurd (no_push (map length (map shadow_of c.partners)) (length (shadow_of c.own)) (sym (map_push length (map shadow_of c.partners) (shadow_of c.own)) ∙ counts))
with_originals c k side e (p ∷ ps) h =
    let m = last_of p ps in
    (record { partners = m.0; undone = inv_all k.effect; own = m.1 }, whole_conflict k (p ∷ ps) m.0 m.1 k.shadows k.effect side refl refl h m.2)

pub keep_their_shape : ConflictorsKeepTheirShape
keep_their_shape c k side e =
    let same : map length k.shadows ≡ map length (map shadow_of (c.partners ++ c.own ∷ [])) = e ∙ ap (map length) (sym (map_push shadow_of c.partners c.own)) in
    let ps = their_originals (c.partners ++ c.own ∷ []) k.shadows same in
    with_originals c k side e ps.0 ps.1
