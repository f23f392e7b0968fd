-- Lists of which elements are compared or copied one after the other.
use Rattle.std.proofs.Common.{Option, Some, None, ◌≡◌, ◌≤◌, ◌<◌, ◌+◌, ℕ, List, [], ◌∷◌, ◌++◌, length, get_or, take, map, refl, sym, ap, subst, ◌∙◌, arith, append_assoc}
use Rattle.std.proofs.lemmas.List.{take_more, take_all, map_push, append-nil}
use Rattle.std.specs.List.{AllByRecursion, flat_map}
use Rattle.std.specs.Prelude.{Result, Ok, Err, OnOk}
use Rattle.dm_prim.specs.Primitives.{Prim, inv_all}
use Rattle.dm_prim.specs.Touch.{TouchedPaths}
use Rattle.dm_prim.proofs.TouchLemmas.{inverses_touch_the_same}
use Rattle.dm_prim.specs.Laws.{ListLaws}
use Rattle.dm_prim.proofs.LawProofs.{lists_back, list_laws}
use Rattle.dm_named.specs.Patches.{Patch}
use Rattle.dm_named.specs.Commuting.{NamedCommutes, IsTouchKnown}

-- one more element is copied
pub copied_more : {X Y V : Type 0} (f : X → V) (g : Y → V) (xs : List X) (ys ys' : List Y) (i : ℕ) (x : X) (y : Y) → i < length xs → x ≡ get_or xs i x → g y ≡ f x → ys' ≡ ys ++ y ∷ [] → map g ys ≡ map f (take i xs) → map g ys' ≡ map f (take (i + 1) xs)
copied_more f g xs ys ys' i x y lt is same new so =
    let here : take (i + 1) xs ≡ take i xs ++ x ∷ [] = take_more xs i x lt ∙ ap (λ z. take i xs ++ z ∷ []) (sym is) in
    rw (new, here, map_push g ys y, map_push f (take i xs) x, so, same) refl

-- all elements are copied
pub copied_whole : {X Y V : Type 0} (f : X → V) (g : Y → V) (xs : List X) (ys : List Y) (i : ℕ) → length xs ≤ i → map g ys ≡ map f (take i xs) → map g ys ≡ map f xs
copied_whole f g xs ys i end so = so ∙ ap (map f) (take_all i xs end)

-- two patches that commuted commute back
pub commuted_back : (x y y' x' : Patch) → NamedCommutes x y y' x' → NamedCommutes y' x' x y
commuted_back x y y' x' n = record {
  x_named = λ h. n.y_named (rw (n.x_stays.deps, n.y_stays.info) at h);
  y_named = λ h. n.x_named (rw (n.y_stays.deps, n.x_stays.info) at h);
  x_stays = record { info = sym n.y_stays.info; deps = sym n.y_stays.deps };
  y_stays = record { info = sym n.x_stays.info; deps = sym n.x_stays.deps };
  prims = lists_back x.prims y.prims y'.prims x'.prims n.prims;
}

-- the laws hold of two patches that commuted
pub commuted_laws : (x y y' x' : Patch) → NamedCommutes x y y' x' → ListLaws x.prims y.prims y'.prims x'.prims
commuted_laws x y y' x' n = list_laws n.prims

-- ---- what holds of each element so far

all_push : {V : Type 0} (P : V → Type 0) (vs : List V) (v : V) → AllByRecursion P vs → P v → AllByRecursion P (vs ++ v ∷ [])
all_push P [] v all here = (here, tt)
all_push P (w ∷ vs) v all here = (all.0, all_push P vs v all.1 here)

pub all_more : {V : Type 0} (P : V → Type 0) (vs : List V) (i : ℕ) (v : V) → i < length vs → v ≡ get_or vs i v → P v → AllByRecursion P (take i vs) → AllByRecursion P (take (i + 1) vs)
all_more P vs i v lt is here all =
    let next : take (i + 1) vs ≡ take i vs ++ v ∷ [] = take_more vs i v lt ∙ ap (λ z. take i vs ++ z ∷ []) (sym is) in
    rw next (all_push P (take i vs) v all here)

-- the same of what the elements stand for
pub all_more_of : {X V : Type 0} (P : V → Type 0) (f : X → V) (xs : List X) (i : ℕ) (x : X) → i < length xs → x ≡ get_or xs i x → P (f x) → AllByRecursion P (map f (take i xs)) → AllByRecursion P (map f (take (i + 1) xs))
all_more_of P f xs i x lt is here all =
    let next : take (i + 1) xs ≡ take i xs ++ x ∷ [] = take_more xs i x lt ∙ ap (λ z. take i xs ++ z ∷ []) (sym is) in
    rw (next, map_push f (take i xs) x) (all_push P (map f (take i xs)) (f x) all here)

-- what a patch touches its inverse touches
pub known_undone : (ps qs : List Prim) (t : Option TouchedPaths) → qs ≡ inv_all ps → IsTouchKnown ps t → IsTouchKnown qs t
known_undone ps qs None e h = tt
known_undone ps qs (Some t) e h = rw e (inverses_touch_the_same ps t h)

-- three texts are appended, one after the other
pub three_more : (a b c d e f h : List ℕ) → e ≡ a ++ b → f ≡ e ++ c → h ≡ f ++ d → h ≡ a ++ (b ++ (c ++ d))
three_more a b c d e f h x y z = rw (z, y, x) (simp append_assoc refl)

pub four_more : (a b c d e f g h i : List ℕ) → f ≡ a ++ b → g ≡ f ++ c → h ≡ g ++ d → i ≡ h ++ e → i ≡ a ++ (b ++ (c ++ (d ++ e)))
four_more a b c d e f g h i w x y z = rw (z, y, x, w) (simp append_assoc refl)

-- the text of one more element is appended
flat_push : {V : Type 0} (text : V → List ℕ) (vs : List V) (v : V) → flat_map text (vs ++ v ∷ []) ≡ flat_map text vs ++ text v
flat_push text [] v = append-nil (text v)
flat_push text (w ∷ vs) v = ap (λ t. text w ++ t) (flat_push text vs v) ∙ sym (append_assoc (text w) (flat_map text vs) (text v))

pub text_more : {X V : Type 0} (text : V → List ℕ) (f : X → V) (xs : List X) (i : ℕ) (x : X) (start before after : List ℕ) → i < length xs → x ≡ get_or xs i x → before ≡ start ++ flat_map text (map f (take i xs)) → after ≡ before ++ text (f x) → after ≡ start ++ flat_map text (map f (take (i + 1) xs))
text_more text f xs i x start before after lt is so new =
    let next : take (i + 1) xs ≡ take i xs ++ x ∷ [] = take_more xs i x lt ∙ ap (λ z. take i xs ++ z ∷ []) (sym is) in
    rw (next, map_push f (take i xs) x, flat_push text (map f (take i xs)) (f x), new, so) (append_assoc start (flat_map text (map f (take i xs))) (text (f x)))

-- the same where the elements stand for themselves
pub text_next : {V : Type 0} (text : V → List ℕ) (vs : List V) (i : ℕ) (v : V) (start before after : List ℕ) → i < length vs → v ≡ get_or vs i v → before ≡ start ++ flat_map text (take i vs) → after ≡ before ++ text v → after ≡ start ++ flat_map text (take (i + 1) vs)
text_next text vs i v start before after lt is so new =
    let next : take (i + 1) vs ≡ take i vs ++ v ∷ [] = take_more vs i v lt ∙ ap (λ z. take i vs ++ z ∷ []) (sym is) in
    rw (next, flat_push text (take i vs) v, new, so) (append_assoc start (flat_map text (take i vs)) (text v))

-- one element alone
pub all_alone : {X V : Type 0} (P : V → Type 0) (f : X → V) (xs : List X) (x : X) → length xs ≡ 1 → x ≡ get_or xs 0 x → P (f x) → AllByRecursion P (map f xs)
all_alone P f [] x one is here = absurd (omega (arith, one))
all_alone P f (y ∷ []) x one is here = (subst P (ap f is) here, tt)
all_alone P f (y ∷ z ∷ xs) x one is here = absurd (omega (arith, one))

pub on_ok : {T E A B : Type 0} (r : Result T E) → (A → B) → OnOk r A → OnOk r B
on_ok (Ok x) into a = into a
on_ok (Err e) into a = tt

-- a word and three lines are appended, one after the other
pub lines_more : (out word name old new a b c d : List ℕ) → a ≡ out ++ word → b ≡ a ++ (name ++ 10 ∷ []) → c ≡ b ++ (old ++ 10 ∷ []) → d ≡ c ++ (new ++ 10 ∷ []) → d ≡ out ++ (word ++ (name ++ 10 ∷ (old ++ 10 ∷ (new ++ 10 ∷ []))))
lines_more out word name old new a b c d e f g h = rw (h, g, f, e) (simp append_assoc refl)
