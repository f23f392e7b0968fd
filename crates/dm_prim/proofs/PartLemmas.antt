-- What holds of a part, of single maps and primitives.
use Rattle.std.proofs.Common.{◌≡◌, ◌≢◌, ◌↔◌, ◌<◌, List, [], ◌∷◌, ◌++◌, length, Option, Some, None, ◌⊎◌, inl, inr, refl, sym, ap, subst, ◌∙◌, arith}
use Rattle.std.specs.List.{All, Contains}
use Rattle.std.proofs.lemmas.List.Elements.{Contains-append_right, Contains-append_cases, Contains-push_cases, All-head, All-tail, All-weaker}
use Rattle.dm_tree.specs.Paths.{Name, Path, Under}
use Rattle.dm_tree.specs.Trees.{Lines, Entry, Dir, File, Map, HasParent, IsLawful, Deep}
use Rattle.dm_tree.proofs.Paths.{under_dec, comparable, under_refl, under_append, under_trans}
use Rattle.dm_prim.specs.Primitives.{Work, AddFile, RmFile, AddDir, RmDir, Hunk, Binary, Replace, Prim, At, Move, ChangePref, Around, Applies}
use Rattle.dm_prim.specs.Limits.{TurnsLarge}
use Rattle.dm_prim.specs.Touch.{paths_of, NamesAmong}
use Rattle.dm_prim.proofs.Ends.{changes_at}
use Rattle.dm_prim.proofs.Undoing.{OffRoot}
use Rattle.dm_prim.proofs.Single.{same_map}
use Rattle.dm_tree.specs.Reach.{IsReached, root, above, under, IsPart, Splices, IsUnder, Puts, AreBelowRoot}
use Rattle.dm_prim.specs.Parts.{IsSameOutside, IsSameBut, NamesUnder}

never : (q : Path) (n : Name) → q ++ n ∷ [] ≡ [] → ⊥
never [] n e = cc
never (m ∷ q) n e = let f : m ∷ (q ++ n ∷ []) ≡ [] = e in cc

none_in : (f : Path) → Contains [] f → ⊥
none_in f (k, l, e) = omega (arith, l)

in_cons : (g : Path) (ps : List Path) (f : Path) → Contains (g ∷ ps) f → (g ≡ f) ⊎ Contains ps f
in_cons g ps f c = go (Contains-append_cases (g ∷ []) ps f c)
  where
    go : Contains (g ∷ []) f ⊎ Contains ps f → (g ≡ f) ⊎ Contains ps f
    go (inl d) = elim (Contains-push_cases [] g f d) [ inl e ↦ absurd (none_in f e) | inr e ↦ inl e ]
    go (inr d) = inr d

first_in : (g : Path) (ps : List Path) → Contains (g ∷ ps) g
first_in g ps = (0, omega arith, refl)

wider : (g : Path) (ps : List Path) (q : Path) → IsReached ps q → IsReached (g ∷ ps) q
wider g ps q (root e) = root e
wider g ps q (above f c u) = above f (Contains-append_right (g ∷ []) ps f c) u
wider g ps q (under f c u) = under f (Contains-append_right (g ∷ []) ps f c) u

-- whether the paths reach it
pub reached_dec : (ps : List Path) (q : Path) → IsReached ps q ⊎ (IsReached ps q → ⊥)
reached_dec [] [] = inl (root refl)
reached_dec [] (n ∷ q) = inr (λ r. not r)
  where
    not : IsReached [] (n ∷ q) → ⊥
    not (root e) = cc
    not (above f c u) = none_in f c
    not (under f c u) = none_in f c
reached_dec (g ∷ ps) q = go (reached_dec ps q) (under_dec g q) (under_dec q g)
  where
    not : (IsReached ps q → ⊥) → (Under g q → ⊥) → (Under q g → ⊥) → IsReached (g ∷ ps) q → ⊥
    not h i j (root e) = h (root e)
    not h i j (above f c u) = elim (in_cons g ps f c) [ inl e ↦ i (rw e u) | inr d ↦ h (above f d u) ]
    not h i j (under f c u) = elim (in_cons g ps f c) [ inl e ↦ j (rw e u) | inr d ↦ h (under f d u) ]

    go : IsReached ps q ⊎ (IsReached ps q → ⊥) → Under g q ⊎ (Under g q → ⊥) → Under q g ⊎ (Under q g → ⊥) → IsReached (g ∷ ps) q ⊎ (IsReached (g ∷ ps) q → ⊥)
    go (inl h) _ _ = inl (wider g ps q h)
    go (inr h) (inl i) _ = inl (above g (first_in g ps) i)
    go (inr h) (inr i) (inl j) = inl (under g (first_in g ps) j)
    go (inr h) (inr i) (inr j) = inr (not h i j)

-- whether it is at or under one of the paths
under_any : (ps : List Path) (q : Path) → IsUnder ps q ⊎ (IsUnder ps q → ⊥)
under_any [] q = inr (λ u. none_in u.top u.among)
under_any (g ∷ ps) q = go (under_dec q g) (under_any ps q)
  where
    go : Under q g ⊎ (Under q g → ⊥) → IsUnder ps q ⊎ (IsUnder ps q → ⊥) → IsUnder (g ∷ ps) q ⊎ (IsUnder (g ∷ ps) q → ⊥)
    go (inl u) _ = inl (record { top = g; among = first_in g ps; under = u })
    go (inr n) (inl u) = inl (record { top = u.top; among = Contains-append_right (g ∷ []) ps u.top u.among; under = u.under })
    go (inr n) (inr h) = inr (λ u. elim (in_cons g ps u.top u.among) [ inl e ↦ n (rw e u.under) | inr d ↦ h (record { top = u.top; among = d; under = u.under }) ])

-- nothing at or under a path below the root is the root
not_root : (q f : Path) → Under q f → f ≢ [] → q ≢ []
not_root q [] u n e = n refl
not_root q (m ∷ f) u n e = let k : [] ≡ m ∷ (f ++ u.0) = sym e ∙ u.1 in cc

module _ (ps : List Path) where
  pub reached_at : (f : Path) → IsUnder ps f → IsReached ps f
  reached_at f c = under c.top c.among c.under

  -- what is under what is under the paths is so too
  under_more : (q f : Path) → IsUnder ps f → Under q f → IsUnder ps q
  under_more q f c u = record { top = c.top; among = c.among; under = under_trans q f c.top u c.under }

  reached_below : (q f : Path) → IsUnder ps f → Under q f → IsReached ps q
  reached_below q f c u = reached_at q (under_more q f c u)

  -- the parent of what is reached is reached
  pub reached_up : (q : Path) (n : Name) → IsReached ps (q ++ n ∷ []) → IsReached ps q
  reached_up q n (root e) = absurd (never q n e)
  reached_up q n (above f c u) = above f c (under_trans f (q ++ n ∷ []) q u (under_append q (n ∷ [])))
  reached_up q n (under f c u) = elim (comparable q f (n ∷ []) u.0 u.1) [ inl i ↦ under f c i | inr i ↦ above f c i ]

  reached_parent : (f q : Path) (n : Name) → IsUnder ps f → f ≡ q ++ n ∷ [] → IsReached ps q
  reached_parent f q n c e = reached_up q n (subst (IsReached ps) e (reached_at f c))

  pub part_lawful : (s u : Map) → IsLawful s → IsPart ps s u → IsLawful u
  part_lawful s u l i = record { root = i.within [] (root refl) ∙ l.root; parents = λ q n some. up q n some (reached_dec ps (q ++ n ∷ [])); lines = λ q ls e. line q ls e (reached_dec ps q) }
    where
      up : (q : Path) (n : Name) → u (q ++ n ∷ []) ≢ None → IsReached ps (q ++ n ∷ []) ⊎ (IsReached ps (q ++ n ∷ []) → ⊥) → u q ≡ Some Dir
      up q n some (inl r) = i.within q (reached_up q n r) ∙ l.parents q n (λ e. some (i.within (q ++ n ∷ []) r ∙ e))
      up q n some (inr away) = absurd (some (i.outside (q ++ n ∷ []) away))

      line : (q : Path) (ls : Lines) → u q ≡ Some (File ls) → IsReached ps q ⊎ (IsReached ps q → ⊥) → ls ≢ []
      line q ls e (inl r) = l.lines q ls (sym (i.within q r) ∙ e)
      line q ls e (inr away) = let f : u q ≡ None = i.outside q away in cc

  -- what a primitive names is at or under the paths
  work_in : (f : Path) (w : Work) → NamesUnder ps (At f w) → IsUnder ps f
  work_in f w n = All-head (IsUnder ps) f [] n.each

  from_in : (a b : Path) → NamesUnder ps (Move a b) → IsUnder ps a
  from_in a b n = All-head (IsUnder ps) a (b ∷ []) n.each

  to_in : (a b : Path) → NamesUnder ps (Move a b) → IsUnder ps b
  to_in a b n = All-head (IsUnder ps) b [] (All-tail (IsUnder ps) a (b ∷ []) n.each)

  pub keeps_but : (p : Prim) (s t : Map) → NamesUnder ps p → Applies p s t → IsSameBut ps s t
  keeps_but (At f w) s t n h = record { kept = λ q away. h.elsewhere q (λ e. away (rw e (work_in f w n))) }
  keeps_but (Move a b) s t n h = record { kept = λ q away. h.1.elsewhere q (λ u. away (under_more q a (from_in a b n) u)) (λ u. away (under_more q b (to_in a b n) u)) }
  keeps_but (ChangePref name old new) s t n h = record { kept = λ q away. ap (λ m. m q) h }

  -- what is the same but at and under the paths is the same where they don't reach
  pub but_outside : (s t : Map) → IsSameBut ps s t → IsSameOutside ps s t
  but_outside s t b = record { outside = λ q away. b.kept q (λ u. away (reached_at q u)) }

  pub keeps_outside : (p : Prim) (s t : Map) → NamesUnder ps p → Applies p s t → IsSameOutside ps s t
  keeps_outside p s t n h = but_outside s t (keeps_but p s t n h)

  -- the two are the same where the paths reach
  abbrev pub IsSameWithin : Map → Map → Type 0
  IsSameWithin s u = (q : Path) → IsReached ps q → u q ≡ s q

  around_carried : (w : Work) (f : Path) (s u : Map) → IsUnder ps f → IsSameWithin s u → Around w f s → Around w f u
  around_carried AddFile f s u c a (q, n, e, d) = (q, n, e, a q (reached_parent f q n c e) ∙ d)
  around_carried RmFile f s u c a h = tt
  around_carried AddDir f s u c a (q, n, e, d) = (q, n, e, a q (reached_parent f q n c e) ∙ d)
  around_carried RmDir f s u c a h = λ n r. a (f ++ n ∷ r) (reached_below (f ++ n ∷ r) f c (n ∷ r, refl)) ∙ h n r
  around_carried (Hunk l old new) f s u c a h = tt
  around_carried (Binary old new) f s u c a h = tt
  around_carried (Replace set old new) f s u c a h = tt

  -- a primitive leads from one map to another by what they have where the paths reach
  pub carried : (p : Prim) (s t u v : Map) → NamesUnder ps p → IsSameWithin s u → IsSameWithin t v → IsSameOutside ps u v → Applies p s t → Applies p u v
  carried (At f w) s t u v n a b off h = record {
    around = around_carried w f s u c a h.around;
    here = changes_at w (s f) (t f) (u f) (v f) h.here (a f (reached_at f c)) (b f (reached_at f c));
    elsewhere = λ q ne. go q ne (reached_dec ps q);
  }
    where
      c : IsUnder ps f
      c = work_in f w n

      go : (q : Path) → q ≢ f → IsReached ps q ⊎ (IsReached ps q → ⊥) → v q ≡ u q
      go q ne (inl r) = b q r ∙ h.elsewhere q ne ∙ sym (a q r)
      go q ne (inr away) = off.outside q away
  carried (Move x y) s t u v n a b off h = (
    record {
      present = λ e. h.0.present (sym (a x (reached_at x cx)) ∙ e);
      not_into = h.0.not_into;
      parent_is = up h.0.parent_is;
      absent = a y (reached_at y cy) ∙ h.0.absent;
    },
    record {
      there = λ r. b (y ++ r) (reached_below (y ++ r) y cy (r, refl)) ∙ h.1.there r ∙ sym (a (x ++ r) (reached_below (x ++ r) x cx (r, refl)));
      gone = λ r. b (x ++ r) (reached_below (x ++ r) x cx (r, refl)) ∙ h.1.gone r;
      elsewhere = λ q i j. go q i j (reached_dec ps q);
    },
  )
    where
      cx : IsUnder ps x
      cx = from_in x y n

      cy : IsUnder ps y
      cy = to_in x y n

      up : HasParent y s → HasParent y u
      up (q, m, e, d) = (q, m, e, a q (reached_parent y q m cy e) ∙ d)

      go : (q : Path) → (Under q x → ⊥) → (Under q y → ⊥) → IsReached ps q ⊎ (IsReached ps q → ⊥) → v q ≡ u q
      go q i j (inl r) = b q r ∙ h.1.elsewhere q i j ∙ sym (a q r)
      go q i j (inr away) = off.outside q away
  carried (ChangePref name old new) s t u v n a b off h = same_map v u (λ q. go q (reached_dec ps q))
    where
      go : (q : Path) → IsReached ps q ⊎ (IsReached ps q → ⊥) → v q ≡ u q
      go q (inl r) = b q r ∙ ap (λ m. m q) h ∙ sym (a q r)
      go q (inr away) = off.outside q away

  -- the part after is nothing where the part before is
  parts_outside : (s t u v : Map) → IsPart ps s u → IsPart ps t v → IsSameOutside ps u v
  parts_outside s t u v i j = record { outside = λ q away. j.outside q away ∙ sym (i.outside q away) }

  pub applies_to_part : (p : Prim) (s t u v : Map) → NamesUnder ps p → IsPart ps s u → IsPart ps t v → Applies p s t ↔ (Applies p u v × IsSameOutside ps s t)
  applies_to_part p s t u v n i j = (
    λ h. (carried p s t u v n i.within j.within (parts_outside s t u v i j) h, keeps_outside p s t n h),
    λ h. carried p u v s t n (λ q r. sym (i.within q r)) (λ q r. sym (j.within q r)) h.1 h.0,
  )

  pub as_deep : (s t v : Map) → (Deep s → ⊥) → IsSameOutside ps s t → IsPart ps t v → Deep t ↔ Deep v
  as_deep s t v not off j = (λ d. go d (reached_dec ps d.0), λ d. back d (reached_dec ps d.0))
    where
      go : (d : Deep t) → IsReached ps d.0 ⊎ (IsReached ps d.0 → ⊥) → Deep v
      go d (inl r) = (d.0, d.1, λ e. d.2 (sym (j.within d.0 r) ∙ e))
      go d (inr away) = absurd (not (d.0, d.1, λ e. d.2 (off.outside d.0 away ∙ e)))

      back : (d : Deep v) → IsReached ps d.0 ⊎ (IsReached ps d.0 → ⊥) → Deep t
      back d (inl r) = (d.0, d.1, λ e. d.2 (j.within d.0 r ∙ e))
      back d (inr away) = absurd (d.2 (j.outside d.0 away))

  pub as_large : (p : Prim) (s t u v : Map) → NamesUnder ps p → IsPart ps s u → IsPart ps t v → TurnsLarge p s t ↔ TurnsLarge p u v
  as_large (At f (Replace set old new)) s t u v n i j =
      let r : IsReached ps f = reached_at f (work_in f (Replace set old new) n) in (
        λ h. elim h [ inl l ↦ inl (l.0, i.within f r ∙ l.1, l.2) | inr l ↦ inr (l.0, j.within f r ∙ l.1, l.2) ],
        λ h. elim h [ inl l ↦ inl (l.0, sym (i.within f r) ∙ l.1, l.2) | inr l ↦ inr (l.0, sym (j.within f r) ∙ l.1, l.2) ],
      )
  as_large p s t u v n i j = (λ h. absurd h, λ h. absurd h)

  pub put_back : (s t v : Map) → IsSameBut ps s t → IsPart ps t v → Puts ps s v t
  put_back s t v b j = record { put = λ q u. sym (j.within q (reached_at q u)); kept = b.kept }

  pub put_one : (s v t t' : Map) → Puts ps s v t → Puts ps s v t' → t ≡ t'
  put_one s v t t' a b = same_map t t' (λ q. go q (under_any ps q))
    where
      go : (q : Path) → IsUnder ps q ⊎ (IsUnder ps q → ⊥) → t q ≡ t' q
      go q (inl u) = a.put q u ∙ sym (b.put q u)
      go q (inr away) = a.kept q away ∙ sym (b.kept q away)

  -- u where the paths reach, and s elsewhere
  unfoldable pub splice : Map → Map → Map
  splice s u q = elim (reached_dec ps q) [ inl r ↦ u q | inr away ↦ s q ]

  pub splice_is : (s u : Map) → Splices ps s u (splice s u)
  unfolding splice
  splice_is s u = record { within = λ q r. here q r; outside = λ q away. there q away }
    where
      here : (q : Path) → IsReached ps q → splice s u q ≡ u q
      here q r = elim (reached_dec ps q) as (λ d. elim d [ inl k ↦ u q | inr away ↦ s q ] ≡ u q) [ inl k ↦ refl | inr away ↦ absurd (away r) ]

      there : (q : Path) → (IsReached ps q → ⊥) → splice s u q ≡ s q
      there q away = elim (reached_dec ps q) as (λ d. elim d [ inl r ↦ u q | inr k ↦ s q ] ≡ s q) [ inl r ↦ absurd (away r) | inr k ↦ refl ]

  -- a primitive that names these paths doesn't work at the root
  pub off_root : (p : Prim) → AreBelowRoot ps → NamesUnder ps p → OffRoot p
  off_root (At f w) g n = let c = work_in f w n in not_root f c.top c.under (g.below c.top c.among)
  off_root (Move a b) g n = tt
  off_root (ChangePref name old new) g n = tt

  pub among_under : (p : Prim) → NamesAmong ps p → NamesUnder ps p
  among_under p n = record { each = All-weaker (Contains ps) (IsUnder ps) (λ f c. record { top = f; among = c; under = under_refl f }) (paths_of p) n.each }
