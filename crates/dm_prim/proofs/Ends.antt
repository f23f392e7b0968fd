-- A square's two ways have one end.
use Rattle.std.proofs.Common.{◌≡◌, ◌≢◌, ℕ, ◌+◌, ◌<◌, ◌≤◌, List, [], ◌∷◌, ◌++◌, length, Option, Some, None, ◌⊎◌, inl, inr, refl, sym, ap, subst, ◌∙◌, append_assoc, append-nil, arith, length-append}
use Rattle.dm_tree.proofs.Paths.{apart_sym, swap, swap-swap, swap_inj, Clear, swap-append, swap_turn, swap_through}
use Rattle.dm_prim.proofs.Maps.{path_dec, swap_child, Swaps, swaps_from, moves_from}
use Rattle.dm_prim.proofs.Undoing.{swap_left, swap_right, OffRoot, undone, kept, swaps_kept}
use Rattle.dm_prim.proofs.Squares.{Beside, Passing, Square, hunk_down, hunk_up, hunk_turned, turned_hunk, replaces, free, then_move, move_then, moves, pref_then, then_pref, beside_clear, beside_moved, passing_turn, passing_clear, passing_moved, beside_inv, same_under, passing_kind, passing_still}
use Rattle.dm_tree.specs.Paths.{Path, Apart}
use Rattle.dm_tree.specs.Trees.{Lines, Entry, Dir, File, Map, HasParent, IsLawful, empty_file}
use Rattle.dm_tree.specs.Changes.{ReplacesLines}
use Rattle.dm_tokens.specs.Sets.{ByteSet}
use Rattle.dm_tokens.specs.Pieces.{IsToken}
use Rattle.dm_tokens.specs.Turning.{TurnAll, Turns}
use Rattle.dm_tokens.proofs.TurnLemmas.{lines_one_answer, turnings_pass}
use Rattle.dm_prim.proofs.TurnedLines.{one_set, part_back, zip_apart, zip_both, zip_left, zip_length}
use Rattle.dm_prim.specs.Primitives.{Work, AddFile, RmFile, AddDir, RmDir, Hunk, Binary, Replace, Prim, At, Move, ChangePref, inv_work, inv, Changes, Around, WorksAt, AppliesMove, Applies, TurnsLines}
use Rattle.dm_prim.specs.Table.{IsDirectoryWork, KeepsFile, LiesAbove, TurnsPart, ShareNoToken, WorkAndWork}

-- t with e at p
unfoldable pub put : Map → Path → Option Entry → Map
put t p e q = elim (path_dec q p) [ inl h ↦ e | inr h ↦ t q ]

pub put_same : (t : Map) (p : Path) (e : Option Entry) → put t p e p ≡ e
unfolding put
put_same t p e = go (path_dec p p) refl
  where
    go : (d : (p ≡ p) ⊎ (p ≢ p)) → path_dec p p ≡ d → put t p e p ≡ e
    go (inl h) k = rw (k, put)
    go (inr h) k = absurd (h refl)

pub put_other : (t : Map) (p : Path) (e : Option Entry) (q : Path) → q ≢ p → put t p e q ≡ t q
unfolding put
put_other t p e q n = go (path_dec q p) refl
  where
    go : (d : (q ≡ p) ⊎ (q ≢ p)) → path_dec q p ≡ d → put t p e q ≡ t q
    go (inl h) k = absurd (n h)
    go (inr h) k = rw (k, put)

-- q' then p' lead from t to z
abbrev pub BothLead : Prim → Prim → Map → Map → Type 0
BothLead q' p' t z = (u : Map) × Applies q' t u × Applies p' u z

pub changes_at : (w : Work) (e e' d d' : Option Entry) → Changes w e e' → d ≡ e → d' ≡ e' → Changes w d d'
changes_at w e e' d d' c i j = rw (i, j) c

pub dir_after : (w : Work) (e e' : Option Entry) → Changes w e e' → e' ≡ Some Dir → IsDirectoryWork w
dir_after AddFile e e' c h = let y : e' ≡ Some empty_file = c.1 in cc
dir_after RmFile e e' c h = let y : e' ≡ None = c.1 in cc
dir_after AddDir e e' c h = tt
dir_after RmDir e e' c h = tt
dir_after (Hunk l o n) e e' c h = let y : e' ≡ Some (File c.1) = c.3 in cc
dir_after (Binary o n) e e' c h = let y : e' ≡ Some (File n) = c.1 in cc
dir_after (Replace s o n) e e' c h = let y : e' ≡ Some (File c.1) = c.3 in cc

pub dir_before : (w : Work) (e e' : Option Entry) → Changes w e e' → e ≡ Some Dir → IsDirectoryWork w
dir_before AddFile e e' c h = let y : e ≡ None = c.0 in cc
dir_before RmFile e e' c h = let y : e ≡ Some empty_file = c.0 in cc
dir_before AddDir e e' c h = tt
dir_before RmDir e e' c h = tt
dir_before (Hunk l o n) e e' c h = let y : e ≡ Some (File c.0) = c.2 in cc
dir_before (Binary o n) e e' c h = let y : e ≡ Some (File o) = c.0 in cc
dir_before (Replace s o n) e e' c h = let y : e ≡ Some (File c.0) = c.2 in cc

-- what is around f is not changed by a change at g
pub around_carry : (w : Work) (f g : Path) (s s' : Map) → ((q : Path) → q ≢ g → s' q ≡ s q) → (s g ≡ Some Dir → Apart f g) → (IsDirectoryWork w → Apart f g) → Around w f s → Around w f s'
around_carry w f g s s' same dir work a = go w work a
  where
    parent : HasParent f s → HasParent f s'
    parent (q, n, e, d) = (q, n, e, at (path_dec q g))
      where
        at : (q ≡ g) ⊎ (q ≢ g) → s' q ≡ Some Dir
        at (inl i) = absurd ((dir (rw i at d)).left (n ∷ [], rw (← i) e))
        at (inr i) = same q i ∙ d

    go : (w : Work) → (IsDirectoryWork w → Apart f g) → Around w f s → Around w f s'
    go AddFile h a = parent a
    go RmFile h a = tt
    go AddDir h a = parent a
    go RmDir h a = λ n r. same (f ++ n ∷ r) (λ e. (h tt).right (n ∷ r, sym e)) ∙ a n r
    go (Hunk l o n) h a = tt
    go (Binary o n) h a = tt
    go (Replace s o n) h a = tt

pub runs_free : (f : Path) (w : Work) (g : Path) (v : Work) → WorkAndWork f w g v → (t u z : Map) → WorksAt f w t u → WorksAt g v u z → BothLead (At g v) (At f w) t z
runs_free f w g v s t u z h k = (m, first, second)
  where
    m : Map
    m = put t g (z g)

    ne : f ≢ g
    ne = s.differ

    en : g ≢ f
    en = λ e. s.differ (sym e)

    first : WorksAt g v t m
    first = record {
      around = around_carry v g f u t (λ q n. sym (h.elsewhere q n)) (λ d. apart_sym (s.apart (inl (dir_after w (t f) (u f) h.here d)))) (λ d. apart_sym (s.apart (inr d))) k.around;
      here = changes_at v (u g) (z g) (t g) (m g) k.here (sym (h.elsewhere g en)) (put_same t g (z g));
      elsewhere = λ q n. put_other t g (z g) q n;
    }

    second : WorksAt f w m z
    second = record {
      around = around_carry w f g t m (λ q n. put_other t g (z g) q n) (λ d. s.apart (inr (dir_before v (u g) (z g) k.here (h.elsewhere g en ∙ d)))) (λ d. s.apart (inl d)) h.around;
      here = changes_at w (t f) (u f) (m f) (z f) h.here (put_other t g (z g) f ne) (k.elsewhere f ne);
      elsewhere = λ q n. at q n (path_dec q g);
    }
      where
        at : (q : Path) → q ≢ f → (q ≡ g) ⊎ (q ≢ g) → z q ≡ m q
        at q n (inl e) = rw e (sym (put_same t g (z g)))
        at q n (inr i) = k.elsewhere q i ∙ h.elsewhere q n ∙ sym (put_other t g (z g) q i)

pub file_there : (w : Work) (e e' : Option Entry) → KeepsFile w → Changes w e e' → e ≢ None
file_there AddFile e e' i c x = absurd i
file_there RmFile e e' i c x = absurd i
file_there AddDir e e' i c x = absurd i
file_there RmDir e e' i c x = absurd i
file_there (Hunk l o n) e e' i c x = let y : e ≡ Some (File c.0) = c.2 in cc
file_there (Binary o n) e e' i c x = let y : e ≡ Some (File o) = c.0 in cc
file_there (Replace s o n) e e' i c x = let y : e ≡ Some (File c.0) = c.2 in cc

-- a parent seen through a swap
pub parent_swapped : (a b f : Path) (t u : Map) → Apart a b → f ≢ a → f ≢ b → ((p : Path) → u p ≡ t (swap a b p)) → HasParent f t → HasParent (swap a b f) u
parent_swapped a b f t u d na nb is (q, n, e, h) =
    (swap a b q, n, rw e (swap_child a b q n d (λ k. na (e ∙ k)) (λ k. nb (e ∙ k))), is (swap a b q) ∙ rw (swap-swap a b q d) h)

pub around_swapped : (w : Work) (a b f : Path) (t u : Map) → Beside f w a b → ((p : Path) → u p ≡ t (swap a b p)) → Around w f t → Around w (swap a b f) u
around_swapped AddFile a b f t u s is h = parent_swapped a b f t u s.move_apart s.keeps_at_a (λ e. s.target.left ([], e ∙ sym (append-nil b))) is h
around_swapped RmFile a b f t u s is h = tt
around_swapped AddDir a b f t u s is h = parent_swapped a b f t u s.move_apart s.keeps_at_a (λ e. s.target.left ([], e ∙ sym (append-nil b))) is h
around_swapped RmDir a b f t u s is h = λ n r. is (swap a b f ++ n ∷ r) ∙ rw (← swap-append a b f (n ∷ r) s.move_apart (beside_clear f RmDir a b s), swap-swap a b (f ++ n ∷ r) s.move_apart) (h n r)
around_swapped (Hunk l o n) a b f t u s is h = tt
around_swapped (Binary o n) a b f t u s is h = tt
around_swapped (Replace w o n) a b f t u s is h = tt

pub runs_then_move : (f : Path) (w : Work) (a b : Path) → Beside f w a b → (t u z : Map) → IsLawful t → IsLawful u → WorksAt f w t u → AppliesMove a b u z → BothLead (Move a b) (At (swap a b f) w) t z
runs_then_move f w a b s t u z lt lu h k = (m, moves_from a b t m lt first, second)
  where
    d : Apart a b
    d = s.move_apart

    sw : Swaps a b u z
    sw = swaps_from a b u z lu k

    m : Map
    m = λ p. t (swap a b p)

    bf : b ≢ f
    bf = λ e. s.target.left ([], sym e ∙ sym (append-nil b))

    there : (a ≡ f) ⊎ (a ≢ f) → t a ≢ None
    there (inl e) = rw e (file_there w (t f) (u f) (s.keeps_at_a (sym e)) h.here)
    there (inr n) = λ x. sw.present (h.elsewhere a n ∙ x)

    parent : HasParent b u → HasParent b t
    parent (q, n, e, i) = (q, n, e, sym (h.elsewhere q (λ x. s.target.right (n ∷ [], rw (← x) e))) ∙ i)

    first : Swaps a b t m
    first = record { apart = d; present = there (path_dec a f); absent = sym (h.elsewhere b bf) ∙ sw.absent; parent = parent sw.parent; is = λ p. refl }

    second : WorksAt (swap a b f) w m z
    second = record {
      around = around_swapped w a b f t m s (λ p. refl) h.around;
      here = changes_at w (t f) (u f) (m (swap a b f)) (z (swap a b f)) h.here (ap t (swap-swap a b f d)) (sw.is (swap a b f) ∙ ap u (swap-swap a b f d));
      elsewhere = λ q n. sw.is q ∙ h.elsewhere (swap a b q) (λ e. n (sym (swap-swap a b q d) ∙ ap (swap a b) e));
    }

pub inv_twice : (w : Work) → inv_work (inv_work w) ≡ w
inv_twice AddFile = refl
inv_twice RmFile = refl
inv_twice AddDir = refl
inv_twice RmDir = refl
inv_twice (Hunk l o n) = refl
inv_twice (Binary o n) = refl
inv_twice (Replace s o n) = refl

-- two fronts of one list, the first the shorter
pub split : {A : Type 0} (xs ys zs ws : List A) → xs ++ ys ≡ zs ++ ws → length xs ≤ length zs → (m : List A) × (zs ≡ xs ++ m) × (ys ≡ m ++ ws)
split [] ys zs ws e h = (zs, refl, e)
split (x ∷ xs) ys [] ws e h = absurd (omega arith)
split (x ∷ xs) ys (z ∷ zs) ws e h = go (split xs ys zs ws (cc) (omega arith))
  where
    go : (m : List _) × (zs ≡ xs ++ m) × (ys ≡ m ++ ws) → (m : List _) × (z ∷ zs ≡ (x ∷ xs) ++ m) × (ys ≡ m ++ ws)
    go (m, i, j) = (m, cc, j)

pub clears_le : (e m o1 n1 o2 n2 : ℕ) → LiesAbove e m o1 n1 o2 n2 → e ≤ m
clears_le e m o1 n1 o2 n2 (inl h) = omega arith
clears_le e m o1 n1 o2 n2 (inr h) = omega arith

pub clears_room : (e m o1 n1 o2 n2 : ℕ) → LiesAbove e m o1 n1 o2 n2 → e < m + n2
clears_room e m o1 n1 o2 n2 (inl h) = omega arith
clears_room e m o1 n1 o2 n2 (inr h) = omega arith

pub edits_down : (l1 l2 l2' : ℕ) (o1 n1 o2 n2 ls mid fin : Lines) → LiesAbove (l1 + length o1) l2' (length o1) (length n1) (length o2) (length n2) → l2' + length n1 ≡ l2 + length o1 →
    ReplacesLines l1 o1 n1 ls mid → ReplacesLines l2 o2 n2 mid fin → (via : Lines) × ReplacesLines l2' o2 n2 ls via × ReplacesLines l1 o1 n1 via fin
edits_down l1 l2 l2' o1 n1 o2 n2 ls mid fin c e h k =
    go (split (h.front ++ n1) h.back k.front (o2 ++ k.back) (append_assoc h.front n1 h.back ∙ sym h.after ∙ k.before)
    (rw (length-append h.front n1) (omega (arith, clears_le (l1 + length o1) l2' (length o1) (length n1) (length o2) (length n2) c))))
  where
    go : (m : Lines) × (k.front ≡ (h.front ++ n1) ++ m) × (h.back ≡ m ++ (o2 ++ k.back)) → (via : Lines) × ReplacesLines l2' o2 n2 ls via × ReplacesLines l1 o1 n1 via fin
    go (m, i, j) =
        let size : length k.front ≡ length h.front + length n1 + length m = simp length-append at (ap length i) in
        let place : (length h.front + (length o1 + length m)) + 1 ≡ l2' = omega arith in
        let room : l1 + length o1 < l2' + length n2 = clears_room (l1 + length o1) l2' (length o1) (length n1) (length o2) (length n2) c in
        let some : 0 < length m + length n2 = omega arith in (
          (h.front ++ (o1 ++ m)) ++ (n2 ++ k.back),
          record {
            front = h.front ++ (o1 ++ m);
            back = k.back;
            at = simp length-append place;
            before = h.before ∙ rw j (simp append_assoc);
            after = refl;
            left = λ x. let y : (length h.front + (length o1 + length m)) + (length n2 + length k.back) ≡ 0 = simp length-append at (ap length x) in absurd (omega arith);
          },
          record { front = h.front; back = m ++ (n2 ++ k.back); at = h.at; before = simp append_assoc; after = k.after ∙ rw i (simp append_assoc); left = k.left },
        )

pub runs_hunk_down : (f : Path) (l1 l2 l2' : ℕ) (o1 n1 o2 n2 : Lines) → LiesAbove (l1 + length o1) l2' (length o1) (length n1) (length o2) (length n2) → l2' + length n1 ≡ l2 + length o1 →
    (t u z : Map) → WorksAt f (Hunk l1 o1 n1) t u → WorksAt f (Hunk l2 o2 n2) u z → BothLead (At f (Hunk l2' o2 n2)) (At f (Hunk l1 o1 n1)) t z
runs_hunk_down f l1 l2 l2' o1 n1 o2 n2 c e t u z h k = go h.here k.here
  where
    go : Changes (Hunk l1 o1 n1) (t f) (u f) → Changes (Hunk l2 o2 n2) (u f) (z f) → BothLead (At f (Hunk l2' o2 n2)) (At f (Hunk l1 o1 n1)) t z
    go (ls, mid, is, mid_is, eh) (mid', fin, mid_is', fin_is, ek) =
        let same : mid' ≡ mid = cc in
        let r = edits_down l1 l2 l2' o1 n1 o2 n2 ls mid fin c e eh (rw same at ek) in
        let m : Map = put t f (Some (File r.0)) in (
          m,
          record { around = tt; here = (ls, r.0, is, put_same t f (Some (File r.0)), r.1); elsewhere = λ q n. put_other t f (Some (File r.0)) q n },
          record {
            around = tt;
            here = (r.0, fin, put_same t f (Some (File r.0)), fin_is, r.2);
            elsewhere = λ q n. k.elsewhere q n ∙ h.elsewhere q n ∙ sym (put_other t f (Some (File r.0)) q n);
          },
        )

-- the ends of the two ways, move after move
pub passing_cross : (a b c d : Path) → Passing a b c d → (x : Path) →
    swap a b (swap (swap a b c) (swap a b d) x) ≡ swap c d (swap (swap c d a) (swap c d b) x)
passing_cross a b c d p x = go (passing_kind a b c d p)
  where
    still : (a b c d : Path) → Passing a b c d → Clear a b c → swap a b (swap (swap a b c) (swap a b d) x) ≡ swap c d (swap (swap c d a) (swap c d b) x)
    still a b c d p h =
        let s = passing_still a b c d p h in
        let w : swap (swap a b c) (swap a b d) (swap a b (swap a b x)) ≡ swap a b (swap c d (swap a b x)) = swap_through a b c d (swap a b x) p.left p.right h (passing_clear a b c d p) in
        let v : swap (swap a b c) (swap a b d) x ≡ swap a b (swap c d (swap a b x)) = rw (swap-swap a b x p.left) at w in
        rw (v, swap-swap a b (swap c d (swap a b x)) p.left, s.0, s.1)

    go : Clear a b c ⊎ Clear c d a → swap a b (swap (swap a b c) (swap a b d) x) ≡ swap c d (swap (swap c d a) (swap c d b) x)
    go (inl h) = still a b c d p h
    go (inr h) = sym (still c d a b (passing_turn a b c d p) h)

pub runs_moves : (a b c d : Path) → Passing a b c d → (t u z : Map) → IsLawful t → IsLawful u → AppliesMove a b t u → AppliesMove (swap a b c) (swap a b d) u z →
    BothLead (Move c d) (Move (swap c d a) (swap c d b)) t z
runs_moves a b c d p t u z lt lu h k = (m, moves_from c d t m lt first, moves_from (swap c d a) (swap c d b) m z (swaps_kept c d t m lt first) second)
  where
    s : Swaps a b t u
    s = swaps_from a b t u lt h

    r : Swaps (swap a b c) (swap a b d) u z
    r = swaps_from (swap a b c) (swap a b d) u z lu k

    m : Map
    m = λ x. t (swap c d x)

    back : (x : Path) → u (swap a b x) ≡ t x
    back x = s.is (swap a b x) ∙ ap t (swap-swap a b x p.left)

    again : (x : Path) → m (swap c d x) ≡ t x
    again x = ap t (swap-swap c d x p.right)

    first : Swaps c d t m
    first = record {
      apart = p.right;
      present = λ e. r.present (back c ∙ e);
      absent = sym (back d) ∙ r.absent;
      parent = rw (swap-swap a b d p.left) at (parent_swapped a b (swap a b d) u t p.left (λ e. p.targets.left (same_under b d (swap_inj a b b d p.left (swap_right a b p.left ∙ sym e)))) (λ e. p.a_off_d (same_under a d (swap_inj a b a d p.left (swap_left a b ∙ sym e)))) (λ x. sym (back x)) r.parent);
      is = λ x. refl;
    }

    second : Swaps (swap c d a) (swap c d b) m z
    second = record {
      apart = (passing_moved c d a b (passing_turn a b c d p)).right;
      present = λ e. s.present (sym (again a) ∙ e);
      absent = again b ∙ s.absent;
      parent = parent_swapped c d b t m p.right (λ e. p.c_off_b (same_under c b (sym e))) (λ e. p.targets.left (same_under b d e)) (λ x. refl) s.parent;
      is = λ x. r.is x ∙ s.is (swap (swap a b c) (swap a b d) x) ∙ ap t (passing_cross a b c d p x);
    }

-- what leads back from z to t leads there when undone
pub turned : (p q : Prim) (t z : Map) → OffRoot p → IsLawful z → IsLawful t → BothLead p q z t → BothLead (inv q) (inv p) t z
turned p q t z g lz lt (m, h, k) = let lm : IsLawful m = kept p z m g lz h in (m, undone q m t lm lt k, undone p z m lz lm h)

pub inv_inv : (p : Prim) → inv (inv p) ≡ p
inv_inv (At f w) = ap (At f) (inv_twice w)
inv_inv (Move a b) = refl
inv_inv (ChangePref name old new) = refl

pub runs_move_then : (f : Path) (w : Work) (a b : Path) → Beside f w a b → f ≢ [] → (t u z : Map) → swap a b f ≢ [] → IsLawful t → IsLawful u → IsLawful z → AppliesMove a b t u → WorksAt (swap a b f) w u z → BothLead (At f w) (Move a b) t z
runs_move_then f w a b s nf t u z nr lt lu lz h k =
    let d : Apart a b = s.move_apart in
    let near : Beside (swap a b f) (inv_work w) b a = beside_inv (swap a b f) w b a (beside_moved f w a b s) in
    let r : BothLead (Move b a) (At (swap b a (swap a b f)) (inv_work w)) z t =
    runs_then_move (swap a b f) (inv_work w) b a near z u t lz lu (undone (At (swap a b f) w) u z lu lz k) (undone (Move a b) t u lt lu h) in
    let v : BothLead (At (swap b a (swap a b f)) (inv_work (inv_work w))) (Move a b) t z = turned (Move b a) (At (swap b a (swap a b f)) (inv_work w)) t z tt lz lt r in
    rw (swap_turn b a (swap a b f) (apart_sym d), swap-swap a b f d, inv_twice w) at v

pub hunk_up_turned : (l1 l2 l1' o1 n1 o2 n2 : ℕ) → LiesAbove (l2 + o2) l1 o1 n1 o2 n2 → l1' + o2 ≡ l1 + n2 → LiesAbove (l2 + n2) l1' n2 o2 n1 o1
hunk_up_turned l1 l2 l1' o1 n1 o2 n2 (inl h) e = inl (omega arith)
hunk_up_turned l1 l2 l1' o1 n1 o2 n2 (inr h) e = inr (omega arith, h.4, h.3, h.2, h.1)

pub runs_hunk_up : (f : Path) (l1 l2 l1' : ℕ) (o1 n1 o2 n2 : Lines) → LiesAbove (l2 + length o2) l1 (length o1) (length n1) (length o2) (length n2) → l1' + length o2 ≡ l1 + length n2 →
    f ≢ [] → (t u z : Map) → IsLawful t → IsLawful u → IsLawful z → WorksAt f (Hunk l1 o1 n1) t u → WorksAt f (Hunk l2 o2 n2) u z → BothLead (At f (Hunk l2 o2 n2)) (At f (Hunk l1' o1 n1)) t z
runs_hunk_up f l1 l2 l1' o1 n1 o2 n2 c e g t u z lt lu lz h k =
    turned (At f (Hunk l1' n1 o1)) (At f (Hunk l2 n2 o2)) t z g lz lt
    (runs_hunk_down f l2 l1 l1' n2 o2 n1 o1 (hunk_up_turned l1 l2 l1' (length o1) (length n1) (length o2) (length n2) c e) e z u t
    (undone (At f (Hunk l2 o2 n2)) u z lu lz k) (undone (At f (Hunk l1 o1 n1)) t u lt lu h))

-- where the lines after a hunk turn, so do those before it, if the hunk's lines do
hunk_and_turn : (l : ℕ) (old new old' new' : Lines) (set o n : List ℕ) (ls mid fin : Lines) → TurnsPart set o n old old' → TurnsPart set o n new new' → ls ≢ [] →
    ReplacesLines l old new ls mid → TurnsLines set o n mid fin → (via : Lines) × TurnsLines set o n ls via × ReplacesLines l old' new' via fin
hunk_and_turn l old new old' new' set o n ls mid fin a b some e t =
    let s = t.tokens.set in
    let told : TurnAll s o n old old' = subst (λ z. TurnAll z o n old old') (one_set set a.tokens.set s a.tokens.means t.tokens.means) a.turned in
    let tnew : TurnAll s o n new new' = subst (λ z. TurnAll z o n new new') (one_set set b.tokens.set s b.tokens.means t.tokens.means) b.turned in
    let front = zip_apart (Turns s o n) e.front (new ++ e.back) fin (subst (λ z. TurnAll s o n z fin) e.after t.turned) in
    let back = zip_apart (Turns s o n) new e.back front.1 front.4 in
    let same : back.0 ≡ new' = lines_one_answer s o n new back.0 new' back.3 tnew in
    let via : Lines = front.0 ++ (old' ++ back.1) in
    let all : TurnAll s o n ls via = subst (λ z. TurnAll s o n z via) (sym e.before) (zip_both (Turns s o n) e.front front.0 (old ++ e.back) (old' ++ back.1) front.3 (zip_both (Turns s o n) old old' e.back back.1 told back.4)) in (
      via,
      record { tokens = t.tokens; turned = all; left = zip_left (Turns s o n) ls via all some },
      record {
        front = front.0;
        back = back.1;
        at = ap (λ z. z + 1) (zip_length (Turns s o n) e.front front.0 front.3) ∙ e.at;
        before = refl;
        after = front.2 ∙ ap (λ z. front.0 ++ z) (back.2 ∙ ap (λ z. z ++ back.1) same);
        left = t.left;
      },
    )

pub runs_hunk_replace : (f : Path) (l : ℕ) (old new old' new' : Lines) (set o n : List ℕ) → TurnsPart set o n old old' → TurnsPart set o n new new' →
    (t u z : Map) → IsLawful t → WorksAt f (Hunk l old new) t u → WorksAt f (Replace set o n) u z → BothLead (At f (Replace set o n)) (At f (Hunk l old' new')) t z
runs_hunk_replace f l old new old' new' set o n a b t u z lt h k = go h.here k.here
  where
    go : Changes (Hunk l old new) (t f) (u f) → Changes (Replace set o n) (u f) (z f) → BothLead (At f (Replace set o n)) (At f (Hunk l old' new')) t z
    go (ls, mid, is, mid_is, e) (mid', fin, mid_is', fin_is, r) =
        let same : mid' ≡ mid = cc in
        let v = hunk_and_turn l old new old' new' set o n ls mid fin a b (lt.lines f ls is) e (rw same at r) in
        let m : Map = put t f (Some (File v.0)) in (
          m,
          record { around = tt; here = (ls, v.0, is, put_same t f (Some (File v.0)), v.1); elsewhere = λ q i. put_other t f (Some (File v.0)) q i },
          record {
            around = tt;
            here = (v.0, fin, put_same t f (Some (File v.0)), fin_is, v.2);
            elsewhere = λ q i. k.elsewhere q i ∙ h.elsewhere q i ∙ sym (put_other t f (Some (File v.0)) q i);
          },
        )

-- what leads back from z to t, undone
pub runs_replace_hunk : (f : Path) (l : ℕ) (old new old' new' : Lines) (set o n : List ℕ) → TurnsPart set o n old old' → TurnsPart set o n new new' →
    f ≢ [] → (t u z : Map) → IsLawful t → IsLawful u → IsLawful z → WorksAt f (Replace set o n) t u → WorksAt f (Hunk l old' new') u z →
    BothLead (At f (Hunk l old new)) (At f (Replace set o n)) t z
runs_replace_hunk f l old new old' new' set o n a b g t u z lt lu lz h k =
    turned (At f (Replace set n o)) (At f (Hunk l new old)) t z g lz lt
    (runs_hunk_replace f l new' old' new old set n o (part_back set o n new new' b) (part_back set o n old old' a) z u t lz
    (undone (At f (Hunk l old' new')) u z lu lz k) (undone (At f (Replace set o n)) t u lt lu h))

-- turnings of other tokens pass each other, line by line
lines_pass : (s : ByteSet) (o1 n1 o2 n2 : List ℕ) → ShareNoToken o1 n1 o2 n2 → IsToken s o1 → IsToken s n1 → IsToken s o2 → IsToken s n2 → (xs ys zs : Lines) →
    TurnAll s o1 n1 xs ys → TurnAll s o2 n2 ys zs → (ws : Lines) × TurnAll s o2 n2 xs ws × TurnAll s o1 n1 ws zs
lines_pass s o1 n1 o2 n2 off a b c d [] [] [] h k = ([], tt, tt)
lines_pass s o1 n1 o2 n2 off a b c d [] [] (z ∷ zs) h k = absurd k
lines_pass s o1 n1 o2 n2 off a b c d [] (y ∷ ys) zs h k = absurd h
lines_pass s o1 n1 o2 n2 off a b c d (x ∷ xs) [] zs h k = absurd h
lines_pass s o1 n1 o2 n2 off a b c d (x ∷ xs) (y ∷ ys) [] h k = absurd k
lines_pass s o1 n1 o2 n2 off a b c d (x ∷ xs) (y ∷ ys) (z ∷ zs) h k =
    let first = turnings_pass s o1 n1 o2 n2 x y z a b c d off.olds off.old_new off.new_old off.news h.0 k.0 in
    let rest = lines_pass s o1 n1 o2 n2 off a b c d xs ys zs h.1 k.1 in
    (first.0 ∷ rest.0, (first.1, rest.1), (first.2, rest.2))

both_turn : (set o1 n1 o2 n2 : List ℕ) (ls mid fin : Lines) → ShareNoToken o1 n1 o2 n2 → ls ≢ [] → TurnsLines set o1 n1 ls mid → TurnsLines set o2 n2 mid fin →
    (via : Lines) × TurnsLines set o2 n2 ls via × TurnsLines set o1 n1 via fin
both_turn set o1 n1 o2 n2 ls mid fin off some a b =
    let s = a.tokens.set in
    let same : b.tokens.set ≡ s = one_set set b.tokens.set s b.tokens.means a.tokens.means in
    let of_set : IsToken s o2 × IsToken s n2 × TurnAll s o2 n2 mid fin = subst (λ (z : ByteSet). IsToken z o2 × IsToken z n2 × TurnAll z o2 n2 mid fin) same (b.tokens.old_token, b.tokens.new_token, b.turned) in
    let v = lines_pass s o1 n1 o2 n2 off a.tokens.old_token a.tokens.new_token of_set.0 of_set.1 ls mid fin a.turned of_set.2 in (
      v.0,
      record {
        tokens = b.tokens;
        turned = subst (λ z. TurnAll z o2 n2 ls v.0) (sym same) v.1;
        left = zip_left (Turns s o2 n2) ls v.0 v.1 some;
      },
      record { tokens = a.tokens; turned = v.2; left = b.left },
    )

pub runs_replaces : (f : Path) (set o1 n1 o2 n2 : List ℕ) → ShareNoToken o1 n1 o2 n2 → (t u z : Map) → IsLawful t → WorksAt f (Replace set o1 n1) t u → WorksAt f (Replace set o2 n2) u z →
    BothLead (At f (Replace set o2 n2)) (At f (Replace set o1 n1)) t z
runs_replaces f set o1 n1 o2 n2 s t u z lt h k = go h.here k.here
  where
    go : Changes (Replace set o1 n1) (t f) (u f) → Changes (Replace set o2 n2) (u f) (z f) → BothLead (At f (Replace set o2 n2)) (At f (Replace set o1 n1)) t z
    go (ls, mid, is, mid_is, a) (mid', fin, mid_is', fin_is, b) =
        let same : mid' ≡ mid = cc in
        let v = both_turn set o1 n1 o2 n2 ls mid fin s (lt.lines f ls is) a (rw same at b) in
        let m : Map = put t f (Some (File v.0)) in (
          m,
          record { around = tt; here = (ls, v.0, is, put_same t f (Some (File v.0)), v.1); elsewhere = λ q i. put_other t f (Some (File v.0)) q i },
          record {
            around = tt;
            here = (v.0, fin, put_same t f (Some (File v.0)), fin_is, v.2);
            elsewhere = λ q i. k.elsewhere q i ∙ h.elsewhere q i ∙ sym (put_other t f (Some (File v.0)) q i);
          },
        )

-- p then q on a lawful map has the same end by q' then p'
pub square_runs : {p q q' p' : Prim} → Square p q q' p' → OffRoot p → OffRoot q → OffRoot q' → (t u z : Map) → IsLawful t → Applies p t u → Applies q u z → BothLead q' p' t z
square_runs {p} {q} {q'} {p'} s gp gq gq' t u z lt h k = go s gp gq gq' lu lz h k
  where
    lu : IsLawful u
    lu = kept p t u gp lt h

    lz : IsLawful z
    lz = kept q u z gq lu k

    go : {p q q' p' : Prim} → Square p q q' p' → OffRoot p → OffRoot q → OffRoot q' → IsLawful u → IsLawful z → Applies p t u → Applies q u z → BothLead q' p' t z
    go (hunk_down {f} {l1} {l2} {l2'} {o1} {n1} {o2} {n2} c e) gp gq gq' x y h k = runs_hunk_down f l1 l2 l2' o1 n1 o2 n2 c e t u z h k
    go (hunk_up {f} {l1} {l2} {l1'} {o1} {n1} {o2} {n2} c e) gp gq gq' x y h k = runs_hunk_up f l1 l2 l1' o1 n1 o2 n2 c e gp t u z lt x y h k
    go (hunk_turned {f} {l} {old} {new} {old'} {new'} {set} {o} {n} a b) gp gq gq' x y h k = runs_hunk_replace f l old new old' new' set o n a b t u z lt h k
    go (turned_hunk {f} {l} {old} {new} {old'} {new'} {set} {o} {n} a b) gp gq gq' x y h k = runs_replace_hunk f l old new old' new' set o n a b gp t u z lt x y h k
    go (replaces {f} {set} {o1} {n1} {o2} {n2} s) gp gq gq' x y h k = runs_replaces f set o1 n1 o2 n2 s t u z lt h k
    go (free {f} {g} {w} {v} s) gp gq gq' x y h k = runs_free f w g v s t u z h k
    go (then_move {f} {f'} {a} {b} {w} s e) gp gq gq' x y h k = rw e (runs_then_move f w a b s t u z lt x h k)
    go (move_then {f} {f'} {a} {b} {w} s e) gp gq gq' x y h k = runs_move_then f w a b s gq' t u z (rw e at gq) lt x y h (rw e at k)
    go (moves {a} {b} {c} {d} {a'} {b'} {c'} {d'} p ec ed ea eb) gp gq gq' x y h k = rw (ea, eb) (runs_moves a b c d p t u z lt x h (rw (ec, ed) at k))
    go (pref_then {q = q} o) gp gq gq' x y h k = (z, subst (λ m. Applies q m z) h k, refl)
    go (then_pref {p = p} o) gp gq gq' x y h k = (t, refl, subst (λ m. Applies p t m) (sym k) h)
