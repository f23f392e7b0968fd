-- How the lines of paths grow by one path.
use Rattle.std.proofs.Common.{◌≡◌, ◌↔◌, ◌⊎◌, ◌<◌, ◌+◌, ℕ, List, [], ◌∷◌, ◌++◌, length, take, refl, sym, ap, subst, ◌∙◌, arith, inl, inr, append_assoc}
use Rattle.std.specs.Prelude.{codes, slice_get, Some, MatchBool, ◌≤◌, Bool, true, false}
use Rattle.std.specs.List.{Contains, flat_map}
use Rattle.std.proofs.lemmas.List.{append-nil, flat_map_more, take_all, take_more}
use Rattle.std.proofs.lemmas.Option.{get_or_from_slice_get}
use Rattle.std.proofs.lemmas.Bool.{false≢true}
use Rattle.std.proofs.lemmas.List.Elements.{Contains-append_left, Contains-append_right, Contains-push, Contains-push_cases}
use Rattle.std.proofs.lemmas.Grind.{flat_map-append}
use Rattle.dm_tree.specs.Paths.{Path}
use Rattle.dm_tree.specs.Validity.{IsValidPath}
use Rattle.dm_prim.specs.Primitives.{Prim}
use Rattle.dm_prim.specs.Touch.{paths_of}
use Rattle.dm_named.specs.Canonical.{path_text}
use Rattle.dm_named.specs.Patches.{Patch}
use Rattle.dm_named.specs.Paths.{PathWord}
use Rattle.dm_named.proofs.PathLemmas.{one_path_here}
use Rattle.dm_named.proofs.PatchRoundTrip.{path_back}
use Rattle.dm_log.specs.Touched.{Once, TellsPaths, path_line, prims_in}
use Rattle.dm_log.specs.Collecting.{AddsPaths, Collected, Collects}

-- valid paths of one text are one
one_text : (p q : Path) → IsValidPath p → IsValidPath q → path_text p ≡ path_text q → p ≡ q
one_text p q v w e =
    (one_path_here (path_text p ++ []) p q [] [] (path_back p [] v tt) (subst (λ (t : List ℕ). PathWord (t ++ []) q []) (sym e) (path_back q [] w tt))).0

none_in : (f : Path) → Contains [] f → ⊥
none_in f (k, l, e) = absurd (omega (arith, l))

once_more : (fs : List Path) (f : Path) → Once fs → (Contains fs f → ⊥) → Once (fs ++ f ∷ [])
once_more [] f o n = (none_in f, tt)
once_more (g ∷ gs) f o n = (
  λ c. elim (Contains-push_cases gs f g c) [ inl d ↦ o.0 d | inr e ↦ n (subst (Contains (g ∷ gs)) (sym e) (0, omega arith, refl)) ],
  once_more gs f o.1 (λ c. n (Contains-append_right (g ∷ []) gs f c)),
)

-- where two lists have the same members, so they have with one more
same_with : (fs gs : List Path) (f : Path) → ((g : Path) → Contains fs g ↔ Contains gs g) → (g : Path) → Contains (fs ++ f ∷ []) g → Contains (gs ++ f ∷ []) g
same_with fs gs f s g c = elim (Contains-push_cases fs f g c) [ inl d ↦ Contains-append_left gs (f ∷ []) g ((s g).0 d) | inr e ↦ subst (Contains (gs ++ f ∷ [])) e (Contains-push gs f) ]

other_way : (fs gs : List Path) → ((g : Path) → Contains fs g ↔ Contains gs g) → (g : Path) → Contains gs g ↔ Contains fs g
other_way fs gs s g = ((s g).1, (s g).0)

pub collects_none : (c : Collected) → c.keys ≡ [] → c.text ≡ [] → Collects [] c
collects_none c w t = record {
  paths = [];
  once = tt;
  members = λ f. (λ h. h, λ h. h);
  keys = λ f v. (λ h. absurd (no_word (path_text f) (subst (λ (ws : List (List ℕ)). Contains ws (path_text f)) w h)), λ h. absurd (none_in f h));
  lines = t;
}
  where
    no_word : (x : List ℕ) → Contains [] x → ⊥
    no_word x (k, l, e) = absurd (omega (arith, l))

module _ (f : Path) (valid : IsValidPath f) (before after : Collected) (noted : (w : List ℕ) → Contains after.keys w ↔ (Contains before.keys w ⊎ (w ≡ path_text f))) where
  -- a path that wasn't there
  pub adds_new : (Contains before.keys (path_text f) → ⊥) → after.text ≡ before.text ++ path_line f → AddsPaths (f ∷ []) before after
  adds_new other text named h = record {
    paths = h.paths ++ f ∷ [];
    once = once_more h.paths f h.once (λ c. other ((h.keys f valid).1 c));
    members = λ g. (same_with h.paths named f h.members g, same_with named h.paths f (other_way h.paths named h.members) g);
    keys = λ g v. (
      λ c. elim ((noted (path_text g)).0 c) [ inl d ↦ Contains-append_left h.paths (f ∷ []) g ((h.keys g v).0 d) | inr e ↦ subst (Contains (h.paths ++ f ∷ [])) (sym (one_text g f v valid e)) (Contains-push h.paths f) ],
      λ c. (noted (path_text g)).1 (elim (Contains-push_cases h.paths f g c) [ inl d ↦ inl ((h.keys g v).1 d) | inr e ↦ inr (ap path_text (sym e)) ]),
    );
    lines = text ∙ ap (λ t. t ++ path_line f) h.lines ∙ flat_map_more path_line [] h.paths f;
  }

  -- a path that was
  pub adds_old : Contains before.keys (path_text f) → after.text ≡ before.text → AddsPaths (f ∷ []) before after
  adds_old there text named h =
      let has : Contains h.paths f = (h.keys f valid).0 there in
      record {
        paths = h.paths;
        once = h.once;
        members = λ g. (
          λ c. Contains-append_left named (f ∷ []) g ((h.members g).0 c),
          λ c. elim (Contains-push_cases named f g c) [ inl d ↦ (h.members g).1 d | inr e ↦ subst (Contains h.paths) e has ],
        );
        keys = λ g v. (
          λ c. elim ((noted (path_text g)).0 c) [ inl d ↦ (h.keys g v).0 d | inr e ↦ subst (Contains h.paths) (sym (one_text g f v valid e)) has ],
          λ c. (noted (path_text g)).1 (inl ((h.keys g v).1 c)),
        );
        lines = text ∙ h.lines;
      }

-- one after the other
pub adds_both : (xs ys : List Path) (a b c : Collected) → AddsPaths xs a b → AddsPaths ys b c → AddsPaths (xs ++ ys) a c
adds_both xs ys a b c f g named h = subst (λ (n : List Path). Collects n c) (append_assoc named xs ys) (g (named ++ xs) (f named h))

pub adds_none : (a : Collected) → AddsPaths [] a a
adds_none a named h = subst (λ (n : List Path). Collects n a) (sym (append-nil named)) h

-- the paths of primitives, and of one more
pub paths_more : (ps : List Prim) (p : Prim) → flat_map paths_of (ps ++ p ∷ []) ≡ flat_map paths_of ps ++ paths_of p
paths_more ps p = sym (flat_map_more paths_of [] ps p)

-- the paths of patches, and of one more
pub patches_more : (ps : List Patch) (p : Patch) → flat_map paths_of (prims_in (ps ++ p ∷ [])) ≡ flat_map paths_of (prims_in ps) ++ flat_map paths_of p.prims
patches_more ps p = ap (λ xs. flat_map paths_of xs) (sym (flat_map_more (λ (q : Patch). q.prims) [] ps p)) ∙ flat_map-append paths_of (prims_in ps) p.prims

-- the patches up to a place, and the one there
pub patch_turn : (ps : List Patch) (k : ℕ) (p : Patch) → k < length ps → slice_get ps k ≡ Some p → flat_map paths_of (prims_in (take (k + 1) ps)) ≡ flat_map paths_of (prims_in (take k ps)) ++ flat_map paths_of p.prims
patch_turn ps k p lt h =
    let turn : take (k + 1) ps ≡ take k ps ++ p ∷ [] = take_more ps k p lt ∙ ap (λ q. take k ps ++ q ∷ []) (get_or_from_slice_get ps k p p h) in
    ap (λ qs. flat_map paths_of (prims_in qs)) turn ∙ patches_more (take k ps) p

-- a line is written in three parts
pub line_added : (t x a b c : List ℕ) → a ≡ t ++ codes "path " → b ≡ a ++ x → c ≡ b ++ 10 ∷ [] → c ≡ t ++ (codes "path " ++ (x ++ 10 ∷ []))
line_added t x a b c e f h =
    h ∙ ap (λ z. z ++ 10 ∷ []) (f ∙ ap (λ z. z ++ x) e) ∙ append_assoc (t ++ codes "path ") x (10 ∷ []) ∙ append_assoc t (codes "path ") (x ++ 10 ∷ [])

-- what was collected of all patches
pub tells : (ps : List Patch) (k : ℕ) (c : Collected) → length ps ≤ k → Collects (flat_map paths_of (prims_in (take k ps))) c → TellsPaths ps c.text
tells ps k c le h =
    let all : Collects (flat_map paths_of (prims_in ps)) c = subst (λ (qs : List Patch). Collects (flat_map paths_of (prims_in qs)) c) (take_all k ps le) h in
    record { paths = all.paths; once = all.once; touched = all.members; lines = all.lines }

pub is_so : (b : Bool) (A B : Type 0) → b ≡ true → MatchBool b A B → A
is_so true A B e h = h
is_so false A B e h = absurd (false≢true e)

pub is_not : (b : Bool) (A B : Type 0) → b ≡ false → MatchBool b A B → B
is_not true A B e h = absurd (false≢true (sym e))
is_not false A B e h = h

-- what was written at the end of nothing
pub written : (a b t : List ℕ) → a ≡ b ++ t → b ≡ [] → a ≡ t
written a b t e f = e ∙ ap (λ z. z ++ t) f
