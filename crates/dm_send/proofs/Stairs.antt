-- Where patches go that aren't needed: first behind what is needed, then behind what is sent. Names and dependencies stay.
use Rattle.std.proofs.Common.{◌≡◌, ◌⊎◌, ℕ, List, [], ◌∷◌, ◌++◌, take, drop, map, inl, inr, refl, ap₂, ◌∙◌}
use Rattle.std.specs.List.{Contains}
use Rattle.std.proofs.lemmas.List.{take-append-drop}
use Rattle.std.proofs.lemmas.List.Elements.{Contains-append_cases}
use Rattle.dm_info.specs.PatchInfo.{PatchInfo}
use Rattle.dm_prim.specs.Rectangles.{CellRow, none, next, Rectangle, empty, row}
use Rattle.dm_named.specs.Patches.{Patch}
use Rattle.dm_named.specs.Commuting.{NamedCommutes}
use Rattle.dm_bundle.specs.Patches.{infos_of, Distinct}
use Rattle.dm_repo.specs.Repositories.{NamesEarlier}
use Rattle.dm_repo.specs.Staircases as staircases
use Rattle.dm_repo.specs.Staircases.{Split}
use Rattle.dm_repo.proofs.Members.{here, more, one_of, none_of, in_infos}
use Rattle.dm_send.specs.Minimizing as minimizing
use Rattle.dm_send.specs.Minimizing.{Minimizes, MinimizesBehind}

-- a split that doesn't say why
pub data Stair : List Patch → List Patch → List Patch → Type 0 where
  nothing : Stair [] [] []
  stays : {x : Patch} {xs needed gone : List Patch} → Stair xs needed gone → Stair (x ∷ xs) (x ∷ needed) gone
  yields : {x x' : Patch} {xs needed needed' gone : List Patch} → Stair xs needed gone → CellRow NamedCommutes x needed needed' x' → Stair (x ∷ xs) needed' (x' ∷ gone)

-- those that go stand behind what is needed, and then pass what is sent
pub record Steps (xs new needed sent gone : List Patch) : Type 0 where
  pub between : List Patch
  pub stair : Stair xs needed between
  pub past : Rectangle NamedCommutes between new sent gone

pub steps : {xs new needed sent gone : List Patch} → Minimizes NamedCommutes xs new needed sent gone → Steps xs new needed sent gone
steps minimizing.nothing = record { between = []; stair = nothing; past = empty }
steps (minimizing.stays m n) = let s = steps m in record { between = s.between; stair = stays s.stair; past = s.past }
steps (minimizing.goes m y) = let s = steps m in record { between = y.between ∷ s.between; stair = yields s.stair y.past_needed; past = row s.past y.past_sent }

-- the first ones stay where they are
stays_first : (first : List Patch) {xs needed gone : List Patch} → Stair xs needed gone → Stair (first ++ xs) (first ++ needed) gone
stays_first [] s = s
stays_first (x ∷ first) s = stays (stays_first first s)

pub steps_behind : {base : ℕ} {shared new kept sent gone : List Patch} → MinimizesBehind NamedCommutes base shared new kept sent gone → Steps shared new kept sent gone
steps_behind {base} {shared} m =
    let s = steps m.minimizes in
    let whole : Stair (take base shared ++ drop base shared) (take base shared ++ m.needed) s.between = stays_first (take base shared) s.stair in
    record { between = s.between; stair = rw m.is_kept (rw (take-append-drop base shared) at whole); past = s.past }

pub row_infos : {x x' : Patch} {ys ys' : List Patch} → CellRow NamedCommutes x ys ys' x' → (infos_of ys' ≡ infos_of ys) × (x'.info ≡ x.info)
row_infos none = (refl, refl)
row_infos (next c s) = let t = row_infos s in (ap₂ (λ i is. i ∷ is) c.y_stays.info t.0, t.1 ∙ c.x_stays.info)

pub rect_infos : {xs xs' ys ys' : List Patch} → Rectangle NamedCommutes xs ys ys' xs' → infos_of ys' ≡ infos_of ys
rect_infos empty = refl
rect_infos (row g s) = (row_infos s).0 ∙ rect_infos g

pub in_stair : {xs needed gone : List Patch} {i : PatchInfo} → Stair xs needed gone → Contains (infos_of needed) i → Contains (infos_of xs) i
in_stair nothing c = c
in_stair (stays {x} {xs} {needed} s) c = elim (one_of x.info (infos_of needed) c) [ inl e ↦ rw (← e) (here x.info (infos_of xs)) | inr d ↦ more x.info (infos_of xs) (in_stair s d) ]
in_stair (yields {x} {xs} s t) c = more x.info (infos_of xs) (in_stair s (rw (row_infos t).0 at c))

off_stair : {xs needed gone : List Patch} {i : PatchInfo} → Stair xs needed gone → Contains (infos_of gone) i → Contains (infos_of xs) i
off_stair nothing c = c
off_stair (stays {x} {xs} s) c = more x.info (infos_of xs) (off_stair s c)
off_stair (yields {x} {x'} {xs} {gone} s t) c = elim (one_of x'.info (infos_of gone) c) [
  | inl e ↦ rw (← e, (row_infos t).1) (here x.info (infos_of xs))
  | inr d ↦ more x.info (infos_of xs) (off_stair s d)
]

-- nothing is both needed and gone
pub apart_stair : {xs needed gone : List Patch} {i : PatchInfo} → Stair xs needed gone → Distinct (infos_of xs) → Contains (infos_of needed) i → Contains (infos_of gone) i → ⊥
apart_stair nothing d c k = none_of c
apart_stair (stays {x} {xs} {needed} s) d c k = elim (one_of x.info (infos_of needed) c) [ inl e ↦ d.0 (rw e (off_stair s k)) | inr h ↦ apart_stair s d.1 h k ]
apart_stair (yields {x} {x'} {xs} {gone} s t) d c k =
    let r = row_infos t in
    let h = rw r.0 at c in
    elim (one_of x'.info (infos_of gone) k) [ inl e ↦ d.0 (rw (← r.1, e) (in_stair s h)) | inr l ↦ apart_stair s d.1 h l ]

-- a set that has the names of what is needed, and none of those that go, splits so
pub tagged : (In : PatchInfo → Type 0) {xs needed gone : List Patch} → Stair xs needed gone → ((i : PatchInfo) → Contains (infos_of needed) i → In i) → ((i : PatchInfo) → Contains (infos_of gone) i → In i → ⊥) →
    Split NamedCommutes (λ x. In x.info) xs needed gone
tagged In nothing f g = staircases.nothing
tagged In (stays {x} {needed} s) f g = staircases.stays (f x.info (here x.info (infos_of needed))) (tagged In s (λ i c. f i (more x.info (infos_of needed) c)) g)
tagged In (yields {x} {x'} {gone} s t) f g =
    let e = row_infos t in
    staircases.yields (λ h. g x'.info (here x'.info (infos_of gone)) (rw e.1 h)) (tagged In s (λ i c. f i (rw e.0 c)) (λ i c. g i (more x'.info (infos_of gone) c))) t

-- what stays of a patch: its name, and what it names
abbrev pub Head : Type 0
Head = PatchInfo × List PatchInfo

abbrev pub heads : List Patch → List Head
heads list = map (λ p. (p.info, p.deps)) list

row_heads : {x x' : Patch} {ys ys' : List Patch} → CellRow NamedCommutes x ys ys' x' → heads ys' ≡ heads ys
row_heads none = refl
row_heads (next {y} {y'} c s) =
    let e : (y'.info, y'.deps) ≡ (y.info, y.deps) = λ i. (c.y_stays.info i, c.y_stays.deps i) in
    ap₂ (λ h hs. h ∷ hs) e (row_heads s)

-- what is needed is there with its head
pub head_needed : {xs needed gone : List Patch} {x : Patch} → Stair xs needed gone → Distinct (infos_of xs) → Contains xs x → Contains (infos_of needed) x.info → Contains (heads needed) (x.info, x.deps)
head_needed nothing d c k = absurd (none_of c)
head_needed (stays {x = y} {xs} {needed} s) d c k = elim (one_of y xs c) [
  | inl e ↦ rw (← e) (here (y.info, y.deps) (heads needed))
  | inr m ↦ elim (one_of y.info (infos_of needed) k) [
    | inl e ↦ absurd (d.0 (rw e (in_infos xs m)))
    | inr l ↦ more (y.info, y.deps) (heads needed) (head_needed s d.1 m l)
  ]
]
head_needed (yields {x = y} {xs} s t) d c k =
    let l = rw (row_infos t).0 at k in
    elim (one_of y xs c) [
      | inl e ↦ absurd (d.0 (rw e (in_stair s l)))
      | inr m ↦ rw (row_heads t) (head_needed s d.1 m l)
    ]

-- a patch that is passed doesn't name the one that passes it
row_unnamed : {x x' : Patch} {ys ys' : List Patch} {h : Head} → CellRow NamedCommutes x ys ys' x' → Contains (heads ys) h → Contains h.1 x.info → ⊥
row_unnamed none k m = none_of k
row_unnamed (next {y} {ys} c s) k m = elim (one_of (y.info, y.deps) (heads ys) k) [
  | inl e ↦ c.x_named (rw (← e) at m)
  | inr l ↦ row_unnamed s l (rw c.x_stays.info m)
]

-- one more name
at_end : (is : List PatchInfo) (j : PatchInfo) {i : PatchInfo} → Contains (is ++ j ∷ []) i → Contains is i ⊎ (j ≡ i)
at_end is j {i} c = elim (Contains-append_cases is (j ∷ []) i c) [ inl d ↦ inl d | inr d ↦ elim (one_of j [] d) [ inl e ↦ inr e | inr n ↦ absurd (none_of n) ] ]

-- what is needed names only what is known before it, and what is needed
pub names_needed : (known : List PatchInfo) {xs needed gone : List Patch} {h : Head} {d : PatchInfo} → Stair xs needed gone → NamesEarlier known xs → Contains (heads needed) h → Contains h.1 d → Contains known d ⊎ Contains (infos_of needed) d
names_needed known nothing n k m = absurd (none_of k)
names_needed known (stays {x} {needed} s) n k m = elim (one_of (x.info, x.deps) (heads needed) k) [
  | inl e ↦ inl (n.0 _ (rw (← e) at m))
  | inr l ↦ elim (names_needed (known ++ x.info ∷ []) s n.1 l m) [
    | inl c ↦ elim (at_end known x.info c) [ inl b ↦ inl b | inr e ↦ inr (rw (← e) (here x.info (infos_of needed))) ]
    | inr c ↦ inr (more x.info (infos_of needed) c)
  ]
]
names_needed known (yields {x} s t) n k m =
    let l = rw (row_heads t) at k in
    elim (names_needed (known ++ x.info ∷ []) s n.1 l m) [
      | inl c ↦ elim (at_end known x.info c) [ inl b ↦ inl b | inr e ↦ absurd (row_unnamed t l (rw e m)) ]
      | inr c ↦ inr (rw (row_infos t).0 c)
    ]
