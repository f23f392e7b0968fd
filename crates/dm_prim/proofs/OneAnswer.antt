-- At most one answer: of a primitive on a map, of a list on a tree, and of the parts of a hunk.
use Rattle.std.proofs.Common.{◌<◌, ◌≤◌, ◌≡◌, ◌≢◌, ℕ, ◌+◌, suc, zero, List, [], ◌∷◌, ◌++◌, take, Option, Some, None, Result, Ok, Err, ◌⊎◌, inl, inr, refl, sym, ap, subst, ◌∙◌, arith}
use Rattle.std.specs.FinMap as map
use Rattle.dm_tree.specs.declared.fault.TreeFault.{TreeFault}
use Rattle.dm_tree.specs.declared.fault.TreeFault.TheVariants.{Missing, NotFile, OldDiffers, TooDeep, TokenThere, TooLarge, NoMemory}
use Rattle.dm_tree.specs.Paths.{Path}
use Rattle.dm_tree.specs.Trees.{Lines, Dir, File, Map, Tree, HasParent, IsLawful, Deep, empty_file}
use Rattle.dm_tree.specs.Laws.{fault_of_change}
use Rattle.dm_tree.proofs.OneAnswer.{adding_one, removing_a_file_one, removing_a_directory_one, renaming_one, editing_one}
use Rattle.dm_tree.proofs.Trees.{path_total, path_same}
use Rattle.dm_tree.specs.Listings.{file_size}
use Rattle.dm_prim.specs.InTurn.{InTurn, done, step}
use Rattle.dm_prim.specs.Primitives.{Work, AddFile, RmFile, AddDir, RmDir, Hunk, Binary, Replace, Prim, At, Move, ChangePref, Applies}
use Rattle.dm_prim.specs.Limits.{most_turned, IsPastLimits}
use Rattle.dm_prim.specs.Applying.{AdmitsFault, BinaryAnswers, GrowsTooLarge, HasNewToken, ReplaceAnswers, TurnsWithin, FaultsAs, AppliesToTree, AppliedAll}
use Rattle.dm_prim.specs.Laws.{ApplyingHasOneAnswer, IsNotOutOfMemory, ApplyingAListHasOneAnswer, HunkHasOneAnswer, BinaryHasOneAnswer, PreferenceHasOneAnswer}
use Rattle.dm_prim.specs.declared.hunk.HunkFault.TheVariants.{BadLine, NoChange}
use Rattle.dm_prim.proofs.Maps.{path_dec}
use Rattle.dm_prim.proofs.TurnedLines.{grown, no_new_token, there_is_no_growth}
use Rattle.dm_prim.proofs.Undoing.{kept}
use Rattle.dm_prim.proofs.Single.{applies_one}

-- the fault f where C holds, and otherwise what comes after it
abbrev Else : Type 0 → TreeFault → (Option TreeFault → Type 0) → Option TreeFault → Type 0
Else C f Rest o = (C × (o ≡ Some f)) ⊎ ((C → ⊥) × Rest o)

else_one : (C : Type 0) (f : TreeFault) (R : Option TreeFault → Type 0) → ((o u : Option TreeFault) → R o → R u → o ≡ u) → (o u : Option TreeFault) → Else C f R o → Else C f R u → o ≡ u
else_one C f R one o u (inl h) (inl k) = h.1 ∙ sym k.1
else_one C f R one o u (inl h) (inr k) = absurd (k.0 h.0)
else_one C f R one o u (inr h) (inl k) = absurd (h.0 k.0)
else_one C f R one o u (inr h) (inr k) = one o u h.1 k.1

-- why a binary may not be applied at p
module _ (m : Map) (p : Path) (old : Lines) where
  abbrev Stops : Option TreeFault → Type 0
  Stops = Else (m p ≡ None) Missing (Else (m p ≡ Some Dir) NotFile (Else (m p ≢ Some (File old)) OldDiffers (λ o. o ≡ None)))

  stops_first : (r : Result (Unit {0}) TreeFault) → BinaryAnswers m p old r → Stops (fault_of_change r)
  stops_first (Ok x) h = inr (λ k. cc, inr (λ k. cc, inr (λ n. n h, refl)))
  stops_first (Err Missing) h = inl (h, refl)
  stops_first (Err NotFile) h = inr (λ k. cc, inl (h, refl))
  stops_first (Err OldDiffers) (ls, e, n) = inr (λ k. cc, inr (λ k. cc, inl (λ k. n (cc), refl)))
  stops_first (Err NoMemory) h = inr (λ k. cc, inr (λ k. cc, inr (λ n. n h, refl)))
  stops_first (Err e) h = absurd h

binary_one : (m : Map) (p : Path) (old : Lines) (r s : Result (Unit {0}) TreeFault) → BinaryAnswers m p old r → BinaryAnswers m p old s → fault_of_change r ≡ fault_of_change s
binary_one m p old r s h k = else_one _ _ _ (else_one _ _ _ (else_one _ _ (λ o. o ≡ None) (λ o u i j. i ∙ sym j))) _ _ (stops_first m p old r h) (stops_first m p old s k)

module _ (m : Map) (p : Path) (set old new : List ℕ) where
  -- the entry is a file, with lines of which this holds
  abbrev FileOf : (Lines → Type 0) → Type 0
  FileOf P = (ls : Lines) × (m p ≡ Some (File ls)) × P ls

  abbrev IsLarge : Lines → Type 0
  IsLarge ls = most_turned < file_size ls

  abbrev StopsToken : Option TreeFault → Type 0
  StopsToken = Else (m p ≡ None) Missing (Else (m p ≡ Some Dir) NotFile (Else (FileOf IsLarge) TooLarge (Else (FileOf (HasNewToken set old new)) TokenThere (Else (FileOf (GrowsTooLarge set old new)) TooLarge (λ o. o ≡ None)))))

  -- no such file, where this doesn't hold of the lines of the file
  no_file : (P : Lines → Type 0) (ls : Lines) → m p ≡ Some (File ls) → (P ls → ⊥) → FileOf P → ⊥
  no_file P ls e not (xs, i, h) = let same : xs ≡ ls = cc in not (subst P same h)

  not_large : (ls : Lines) → file_size ls ≤ most_turned → IsLarge ls → ⊥
  not_large ls h k = omega (arith, h, k)

  turns : (ls ls' : Lines) → m p ≡ Some (File ls) → TurnsWithin set old new ls ls' → StopsToken None
  turns ls ls' e t = inr (
    λ k. cc,
    inr (
      λ k. cc,
      inr (
        no_file IsLarge ls e (not_large ls t.was_small),
        inr (no_file (HasNewToken set old new) ls e (λ h. no_new_token set old new ls ls' h t.turns), inr (no_file (GrowsTooLarge set old new) ls e (λ h. let size = grown set old new ls ls' h t.turns in omega (arith, size, t.is_small)), refl)),
      ),
    ),
  )

  token_first : (r : Result (Unit {0}) TreeFault) → ReplaceAnswers m p set old new r → StopsToken (fault_of_change r)
  token_first (Ok x) (ls, ls', e, t) = turns ls ls' e t
  token_first (Err Missing) h = inl (h, refl)
  token_first (Err NotFile) h = inr (λ k. cc, inl (h, refl))
  token_first (Err TooLarge) (ls, e, h) = inr (
    λ k. cc,
    inr (
      λ k. cc,
      elim h [
        | inl large ↦ inl ((ls, e, large), refl)
        | inr grows ↦ inr (
          no_file IsLarge ls e (not_large ls grows.0),
          inr (no_file (HasNewToken set old new) ls e (λ k. there_is_no_growth set old new ls k grows.1), inl ((ls, e, grows.1), refl)),
        )
      ],
    ),
  )
  token_first (Err TokenThere) (ls, e, small, h) = inr (λ k. cc, inr (λ k. cc, inr (no_file IsLarge ls e (not_large ls small), inl ((ls, e, h), refl))))
  token_first (Err NoMemory) (ls, ls', e, t) = turns ls ls' e t
  token_first (Err e) h = absurd h

replace_one : (m : Map) (p : Path) (set old new : List ℕ) (r s : Result (Unit {0}) TreeFault) → ReplaceAnswers m p set old new r → ReplaceAnswers m p set old new s → fault_of_change r ≡ fault_of_change s
replace_one m p set old new r s h k = else_one _ _ _ (else_one _ _ _ (else_one _ _ _ (else_one _ _ _ (else_one _ _ (λ o. o ≡ None) (λ o u i j. i ∙ sym j))))) _ _ (token_first m p set old new r h) (token_first m p set old new s k)

pub faults_one : ApplyingHasOneAnswer
faults_one (At p AddFile) m r s h k = adding_one m p r s h k
faults_one (At p RmFile) m r s h k = removing_a_file_one m p r s h k
faults_one (At p AddDir) m r s h k = adding_one m p r s h k
faults_one (At p RmDir) m r s h k = removing_a_directory_one m p r s h k
faults_one (At p (Hunk n old new)) m r s h k = editing_one m p n old new r s h k
faults_one (At p (Binary old new)) m r s h k = binary_one m p old r s h k
faults_one (At p (Replace set old new)) m r s h k = replace_one m p set old new r s h k
faults_one (Move a b) m r s h k = renaming_one m a b r s h k
faults_one (ChangePref name old new) m (Ok x) (Ok y) h k = refl
faults_one (ChangePref name old new) m (Ok x) (Err e) h k = absurd k
faults_one (ChangePref name old new) m (Err e) s h k = absurd h

-- a map that primitives make of a lawful one: lawful too, or nothing is left, where the root was removed
abbrev Made : Map → Type 0
Made m = IsLawful m ⊎ ((q : Path) → m q ≡ None)

-- where nothing is, nothing comes to be
from_nothing : (p : Prim) (t u : Map) → ((q : Path) → t q ≡ None) → Applies p t u → u ≡ t
from_nothing (At f AddFile) t u e h = let k : t h.around.0 ≡ Some Dir = h.around.3 in let n = e h.around.0 in absurd (cc)
from_nothing (At f RmFile) t u e h = let k : t f ≡ Some empty_file = h.here.0 in let n = e f in absurd (cc)
from_nothing (At f AddDir) t u e h = let k : t h.around.0 ≡ Some Dir = h.around.3 in let n = e h.around.0 in absurd (cc)
from_nothing (At f RmDir) t u e h = let k : t f ≡ Some Dir = h.here.0 in let n = e f in absurd (cc)
from_nothing (At f (Hunk l old new)) t u e h = let k : t f ≡ Some (File h.here.0) = h.here.2 in let n = e f in absurd (cc)
from_nothing (At f (Binary old new)) t u e h = let k : t f ≡ Some (File old) = h.here.0 in let n = e f in absurd (cc)
from_nothing (At f (Replace set old new)) t u e h = let k : t f ≡ Some (File h.here.0) = h.here.2 in let n = e f in absurd (cc)
from_nothing (Move a b) t u e h = absurd (h.0.present (e a))
from_nothing (ChangePref name old new) t u e h = h

no_parent : (t : Map) → HasParent [] t → ⊥
no_parent t ([], n, e, d) = cc
no_parent t (m ∷ q, n, e, d) = cc

at_root : (w : Work) (t u : Map) → IsLawful t → Applies (At [] w) t u → (q : Path) → u q ≡ None
at_root AddFile t u l h q = absurd (no_parent t h.around)
at_root RmFile t u l h q = let k : t [] ≡ Some empty_file = h.here.0 in let r : t [] ≡ Some Dir = l.root in cc
at_root AddDir t u l h q = absurd (no_parent t h.around)
at_root RmDir t u l h [] = h.here.1
at_root RmDir t u l h (n ∷ q) = h.elsewhere (n ∷ q) (λ e. cc) ∙ h.around n q
at_root (Hunk i old new) t u l h q = let k : t [] ≡ Some (File h.here.0) = h.here.2 in let r : t [] ≡ Some Dir = l.root in cc
at_root (Binary old new) t u l h q = let k : t [] ≡ Some (File old) = h.here.0 in let r : t [] ≡ Some Dir = l.root in cc
at_root (Replace set old new) t u l h q = let k : t [] ≡ Some (File h.here.0) = h.here.2 in let r : t [] ≡ Some Dir = l.root in cc

makes : (p : Prim) (t u : Map) → Made t → Applies p t u → Made u
makes p t u (inr e) h = inr (λ q. ap (λ m. m q) (from_nothing p t u e h) ∙ e q)
makes (Move a b) t u (inl l) h = inl (kept (Move a b) t u tt l h)
makes (ChangePref name old new) t u (inl l) h = inl (kept (ChangePref name old new) t u tt l h)
makes (At f w) t u (inl l) h = go (path_dec f [])
  where
    go : (f ≡ []) ⊎ (f ≢ []) → Made u
    go (inl e) = inr (at_root w t u l (subst (λ x. Applies (At x w) t u) e h))
    go (inr n) = inl (kept (At f w) t u n l h)

one_map : (p : Prim) (t u v : Map) → Made t → Applies p t u → Applies p t v → (q : Path) → u q ≡ v q
one_map p t u v (inl l) h k = applies_one p t u v l h k
one_map p t u v (inr e) h k = λ q. ap (λ m. m q) (from_nothing p t u e h ∙ sym (from_nothing p t v e k))

one_tree : (p : Prim) (t u v : Tree) → Made (map.get t) → Applies p (map.get t) (map.get u) → Applies p (map.get t) (map.get v) → u ≡ v
one_tree p t u v m h k = map.same_map path_total path_same u v (one_map p (map.get t) (map.get u) (map.get v) m h k)

-- a fault comes only where the primitive makes nothing, or goes past a limit
faulty : (p : Prim) (t u : Map) (f : TreeFault) → Made t → f ≢ NoMemory → AdmitsFault p t f → Applies p t u → (IsPastLimits p t u → ⊥) → ⊥
faulty p t u NoMemory m n a h d = n refl
faulty p t u TooDeep m n (v, k, (q, long, some)) h d = d (inl (q, long, λ e. some (one_map p t v u m k h q ∙ e)))
faulty p t u TooLarge m n a h d = d (inr (a u h))
faulty p t u f m n a h d = a u h

same_fault : (f g : TreeFault) → f ≢ NoMemory → g ≢ NoMemory → fault_of_change (Err f) ≡ fault_of_change (Err g) → f ≡ g
same_fault f g n k e = let h : Some f ≡ Some g = sym (its f n) ∙ e ∙ its g k in cc
  where
    its : (x : TreeFault) → x ≢ NoMemory → fault_of_change (Err x) ≡ Some x
    its NoMemory n = absurd (n refl)
    its x n = refl

-- an answer of a list, one place on
abbrev Answer : Type 0
Answer = Result (Unit {0}) (ℕ × TreeFault)

abbrev one_on : Answer → Answer
one_on (Ok x) = Ok x
one_on (Err r) = Err (r.0 + 1, r.1)

-- what applying all of them answers, primitive by primitive
data Goes : List Prim → Tree → Tree → Answer → Type 0 where
  ends : {t : Tree} → Goes [] t t (Ok tt)
  stops : {p : Prim} {ps : List Prim} {t : Tree} {f : TreeFault} → AdmitsFault p (map.get t) f → FaultsAs {T = Unit {0}} p (map.get t) (Err f) → Goes (p ∷ ps) t t (Err (0, f))
  goes : {p : Prim} {ps : List Prim} {t w u : Tree} {r s : Answer} → AppliesToTree p t w → Goes ps w u r → s ≡ one_on r → Goes (p ∷ ps) t u s

goes_all : {ps : List Prim} {t u : Tree} → InTurn AppliesToTree ps t u → Goes ps t u (Ok tt)
goes_all done = ends
goes_all (step h r) = goes h (goes_all r) refl

goes_until : (k : ℕ) (f : TreeFault) (ps : List Prim) (t u : Tree) (p : Prim) (rest : List Prim) → ps ≡ take k ps ++ p ∷ rest → InTurn AppliesToTree (take k ps) t u →
    AdmitsFault p (map.get u) f → FaultsAs {T = Unit {0}} p (map.get u) (Err f) → Goes ps t u (Err (k, f))
goes_until zero f [] t u p rest e r a h = cc
goes_until (suc k) f [] t u p rest e r a h = cc
goes_until zero f (x ∷ ps) t u p rest e done a h = let k : p ≡ x = cc in rw k at (stops {ps = ps} a h)
goes_until (suc k) f (x ∷ ps) t u p rest e (step b r) a h = let i : ps ≡ take k ps ++ p ∷ rest = cc in goes b (goes_until k f ps _ u p rest i r a h) (ap (λ n. Err (n, f)) (omega arith))

goes_from : (ps : List Prim) (t u : Tree) (r : Answer) → AppliedAll ps t u r → Goes ps t u r
goes_from ps t u (Ok tt) h = goes_all h
goes_from ps t u (Err (k, f)) (p, rest, e, r, a, h) = goes_until k f ps t u p rest e r a h

still : (r s : Answer) → s ≡ one_on r → IsNotOutOfMemory s → IsNotOutOfMemory r
still (Ok x) s e n = tt
still (Err r) s e n = subst IsNotOutOfMemory e n

goes_one : {ps : List Prim} {t u v : Tree} {r s : Answer} → Made (map.get t) → IsNotOutOfMemory r → IsNotOutOfMemory s → Goes ps t u r → Goes ps t v s → (r ≡ s) × (u ≡ v)
goes_one m n k ends ends = (refl, refl)
goes_one m n k (stops {p} {t = t} {f = f} a h) (stops {f = g} b i) = (ap (λ x. Err (0, x)) (same_fault f g n k (faults_one p (map.get t) (Err f) (Err g) h i)), refl)
goes_one m n k (stops {p} {t = t} {f = f} a h) (goes {w = w} b i e) = absurd (faulty p (map.get t) (map.get w) f m n a b.0 b.1)
goes_one m n k (goes {w = w} b i e) (stops {p} {t = t} {f = f} a h) = absurd (faulty p (map.get t) (map.get w) f m k a b.0 b.1)
goes_one m n k (goes {p} {ps} {t = t} {w = w} {u = u} {r = r} {s = s} b i e) (goes {w = x} {u = v} {r = q} {s = z} c j g) =
    let same : x ≡ w = one_tree p t x w m c.0 b.0 in
    let more = goes_one (makes p (map.get t) (map.get w) m b.0) (still r s e n) (still q z g k) i (subst (λ y. Goes ps y v q) same j) in
    (e ∙ ap one_on more.0 ∙ sym g, more.1)

pub list_one : ApplyingAListHasOneAnswer
list_one ps t u v r s l n k h i = goes_one (inl l) n k (goes_from ps t u r h) (goes_from ps t v s i)

-- the parts of a hunk
pub hunk_one : HunkHasOneAnswer
hunk_one h (Ok x) (Ok y) k l = ap Ok (k.0 ∙ sym l.0)
hunk_one h (Ok x) (Err BadLine) k l = absurd (omega (arith, l, k.1.1.0.0))
hunk_one h (Ok x) (Err NoChange) k l = absurd (omega (arith, l.1, k.1.1.1))
hunk_one h (Err BadLine) (Ok y) k l = absurd (omega (arith, k, l.1.1.0.0))
hunk_one h (Err BadLine) (Err BadLine) k l = refl
hunk_one h (Err BadLine) (Err NoChange) k l = absurd (omega (arith, k, l.0))
hunk_one h (Err NoChange) (Ok y) k l = absurd (omega (arith, k.1, l.1.1.1))
hunk_one h (Err NoChange) (Err BadLine) k l = absurd (omega (arith, k.0, l))
hunk_one h (Err NoChange) (Err NoChange) k l = refl

-- the parts of a binary, and of a change of a preference
pub binary_parts_one : BinaryHasOneAnswer
binary_parts_one b (Ok x) (Ok y) k l = ap Ok (k.0 ∙ sym l.0)
binary_parts_one b (Ok x) (Err e) k l = absurd (elim l [ inl n ↦ k.1.1.0 n | inr n ↦ k.1.1.1 n ])
binary_parts_one b (Err e) (Ok y) k l = absurd (elim k [ inl n ↦ l.1.1.0 n | inr n ↦ l.1.1.1 n ])
binary_parts_one b (Err e) (Err f) k l = refl

pub preference_parts_one : PreferenceHasOneAnswer
preference_parts_one c (Ok x) (Ok y) k l = ap Ok (k.0 ∙ sym l.0)
preference_parts_one c (Ok x) (Err e) k l = absurd (l k.1)
preference_parts_one c (Err e) (Ok y) k l = absurd (k l.1)
preference_parts_one c (Err e) (Err f) k l = refl
