-- From what is tried on a part to the whole.
use Rattle.std.proofs.Common.{◌≡◌, ◌++◌, ℕ, ◌+◌, ◌<◌, length, take, get_or, List, [], ◌∷◌, refl, sym, subst}
use Rattle.std.proofs.lemmas.List.{take_more, map_push}
use Rattle.std.specs.List.{All, Contains}
use Rattle.std.specs.FinMap as finmap
use Rattle.std.proofs.lemmas.List.Elements.{All-nil, All-cons, All-head, All-tail, All-weaker, Contains-append_left, Contains-append_right}
use Rattle.dm_tree.specs.Paths.{Path}
use Rattle.dm_tree.specs.Trees.{Tree, Deep}
use Rattle.dm_tree.specs.Reach.{AreBelowRoot, AreTopsOf, IsPart, IsUnder}
use Rattle.dm_prim.specs.InTurn.{InTurn}
use Rattle.dm_prim.specs.Primitives.{Prim, At, Move, ChangePref, LawfulMap, inv, inv_all}
use Rattle.dm_prim.specs.Touch.{IsTouched, NamesAmong, TouchedPaths, Touches, paths_of}
use Rattle.dm_prim.specs.Parts.{NamesUnder}
use Rattle.dm_prim.proofs.PartLemmas.{part_lawful}
use Rattle.dm_prim.proofs.TouchLemmas.{holds_of_all, touched_in}
use Rattle.dm_named.specs.Patches.{Patch}
use Rattle.dm_repo.specs.Folds.{IsStopped, PatchLeadsShallowly, ShallowFold}
use Rattle.dm_repo.specs.Squares.{Placed, patches, placed}
use Rattle.dm_repo.specs.Repositories.{IsMapOf}
use Rattle.dm_repo.specs.Weighing.{FitStops}
use Rattle.dm_repo.specs.Trials.{AddsPaths, AreTrialPaths, IsPartFor, IsTrialOf, MakesPartOf, PatchNamesAmong, PatchNamesUnder, ReachesPart, undo, undo_all}
use Rattle.dm_repo.proofs.FrontLemmas.{leads_both, stops_second}
use Rattle.dm_repo.proofs.TrialLemmas.{whole_follows, stops_alike}

-- what is touched is named among the paths
among_all : (ps : List Prim) (paths : List Path) → ((f : Path) → IsTouched ps f → Contains paths f) → All (NamesAmong paths) ps
among_all ps paths h = holds_of_all (NamesAmong paths) ps (λ p c. record { each = holds_of_all (Contains paths) (paths_of p) (λ f d. h f (touched_in ps p f c d)) })

pub touched_among : (x : Patch) (t : TouchedPaths) → Touches x.prims t → PatchNamesAmong t.paths x
touched_among x t h = record { each = among_all x.prims t.paths (λ f. (h.paths f).1) }

-- more paths name what fewer do
wider : (old new : List Path) (x : Patch) → ((f : Path) → Contains old f → Contains new f) → PatchNamesAmong old x → PatchNamesAmong new x
wider old new x k n = record { each = All-weaker (NamesAmong old) (NamesAmong new) (λ p m. record { each = All-weaker (Contains old) (Contains new) k (paths_of p) m.each }) x.prims n.each }

all_wider : (old new : List Path) (xs : List Patch) → ((f : Path) → Contains old f → Contains new f) → All (PatchNamesAmong old) xs → All (PatchNamesAmong new) xs
all_wider old new xs k h = All-weaker (PatchNamesAmong old) (PatchNamesAmong new) (λ x n. wider old new x k n) xs h

pub all_both : {X : Type 0} (P : X → Type 0) (xs ys : List X) → All P xs → All P ys → All P (xs ++ ys)
all_both P [] ys h k = k
all_both P (x ∷ xs) ys h k = All-cons P x (xs ++ ys) (All-head P x xs h) (all_both P xs ys (All-tail P x xs h) k)

pub all_first : {X : Type 0} (P : X → Type 0) (xs ys : List X) → All P (xs ++ ys) → All P xs
all_first P [] ys h = All-nil P
all_first P (x ∷ xs) ys h = All-cons P x xs (All-head P x (xs ++ ys) h) (all_first P xs ys (All-tail P x (xs ++ ys) h))

pub all_second : {X : Type 0} (P : X → Type 0) (xs ys : List X) → All P (xs ++ ys) → All P ys
all_second P [] ys h = h
all_second P (x ∷ xs) ys h = all_second P xs ys (All-tail P x (xs ++ ys) h)

-- nothing is added
pub adds_none : (ps : List Path) → AddsPaths [] ps ps
adds_none ps = record { keeps = λ f c. c; names = All-nil (PatchNamesAmong ps) }

-- what one patch names is added
pub adds_one : (x : Patch) (old more : List Path) → PatchNamesAmong more x → AddsPaths (x ∷ []) old (old ++ more)
adds_one x old more n = record {
  keeps = λ f c. Contains-append_left old more f c;
  names = All-cons (PatchNamesAmong (old ++ more)) x [] (wider more (old ++ more) x (λ f c. Contains-append_right old more f c) n) (All-nil (PatchNamesAmong (old ++ more)));
}

-- one after the other
pub adds_both : (xs ys : List Patch) (a b c : List Path) → AddsPaths xs a b → AddsPaths ys b c → AddsPaths (xs ++ ys) a c
adds_both xs ys a b c h k = record { keeps = λ f d. k.keeps f (h.keeps f d); names = all_both (PatchNamesAmong c) xs ys (all_wider b c xs k.keeps h.names) k.names }

-- what one more patch of a list names is added
pub adds_more : (xs : List Patch) (k : ℕ) (x : Patch) (a b c : List Path) → k < length xs → x ≡ get_or xs k x → AddsPaths (take k xs) a b → AddsPaths (x ∷ []) b c → AddsPaths (take (k + 1) xs) a c
adds_more xs k x a b c l e h n = rw (take_more xs k x l, ← e) (adds_both (take k xs) (x ∷ []) a b c h n)

pub adds_more_placed : (xs : List Placed) (k : ℕ) (x : Placed) (a b c : List Path) → k < length xs → x ≡ get_or xs k x → AddsPaths (patches (take k xs)) a b → AddsPaths (x.1 ∷ []) b c → AddsPaths (patches (take (k + 1) xs)) a c
adds_more_placed xs k x a b c l e h n = rw (take_more xs k x l, map_push (λ (y : Placed). y.1) (take k xs) (get_or xs k x), ← e) (adds_both (patches (take k xs)) (x.1 ∷ []) a b c h n)

-- the tops of paths that name all
pub are_trial_paths : (xs : List Patch) (old ns ts : List Path) → AddsPaths xs old ns → AreTopsOf ns ts → AreBelowRoot ts → AreTrialPaths xs ts
are_trial_paths xs old ns ts a t b = record {
  below = b;
  tops = t.tops;
  names = All-weaker (PatchNamesAmong ns) (PatchNamesUnder ts)
      (λ x n. record { each = All-weaker (NamesAmong ns) (NamesUnder ts) (λ p m. record { each = All-weaker (Contains ns) (IsUnder ts) t.cover (paths_of p) m.each }) x.prims n.each }) xs a.names;
}

-- what undoes a patch names what the patch does
under_inv : (ps : List Path) (p : Prim) → NamesUnder ps p → NamesUnder ps (inv p)
under_inv ps (At f w) n = record { each = n.each }
under_inv ps (Move a b) n =
    let x = All-head (IsUnder ps) a (b ∷ []) n.each in
    let y = All-head (IsUnder ps) b [] (All-tail (IsUnder ps) a (b ∷ []) n.each) in
    record { each = All-cons (IsUnder ps) b (a ∷ []) y (All-cons (IsUnder ps) a [] x (All-nil (IsUnder ps))) }
under_inv ps (ChangePref name old new) n = record { each = All-nil (IsUnder ps) }

under_inv_all : (ps : List Path) (xs : List Prim) → All (NamesUnder ps) xs → All (NamesUnder ps) (inv_all xs)
under_inv_all ps [] h = All-nil (NamesUnder ps)
under_inv_all ps (p ∷ xs) h =
    all_both (NamesUnder ps) (inv_all xs) (inv p ∷ []) (under_inv_all ps xs (All-tail (NamesUnder ps) p xs h)) (All-cons (NamesUnder ps) (inv p) [] (under_inv ps p (All-head (NamesUnder ps) p xs h)) (All-nil (NamesUnder ps)))

pub under_undo : (ps : List Path) (xs : List Patch) → All (PatchNamesUnder ps) xs → All (PatchNamesUnder ps) (undo_all xs)
under_undo ps [] h = All-nil (PatchNamesUnder ps)
under_undo ps (x ∷ xs) h =
    all_both (PatchNamesUnder ps) (undo_all xs) (undo x ∷ []) (under_undo ps xs (All-tail (PatchNamesUnder ps) x xs h))
    (All-cons (PatchNamesUnder ps) (undo x) [] (record { each = under_inv_all ps x.prims (All-head (PatchNamesUnder ps) x xs h).each }) (All-nil (PatchNamesUnder ps)))

-- a part of a tree is a trial of its map
pub trial_start : (tree part : Tree) (xs : List Patch) (ps : List Path) → ReachesPart tree xs ps part → (s : LawfulMap) → IsMapOf tree s → (u : LawfulMap) × IsMapOf part u × IsTrialOf ps s u
trial_start tree part xs ps r s e =
    let i : IsPart ps s.map (finmap.get part) = subst (λ z. IsPart ps z (finmap.get part)) (sym e) r.is_part in
    (record { map = finmap.get part; lawful = part_lawful ps s.map (finmap.get part) s.lawful i }, refl, record { part = i; shallow = subst (λ z. Deep z → ⊥) (sym e) r.shallow })

-- what the patches make of the part they make of the whole
pub tried : (tree part after : Tree) (xs : List Patch) (ps : List Path) → ReachesPart tree xs ps part → (s u v : LawfulMap) → IsTrialOf ps s u → IsMapOf after v → InTurn PatchLeadsShallowly xs u v →
    MakesPartOf s xs ps (finmap.get after)
tried tree part after xs ps r s u v i e l =
    let w = whole_follows ps xs s u v r.paths.below r.paths.names i l in
    record { below = r.paths.below; tops = r.paths.tops; after = w.0; leads = w.3; rest = w.2; is_part = subst (IsPart ps w.0.map) e w.1.part }

-- the front that was applied to a part
module _ (kept : List Patch) (front new : List Placed) (part : Tree) (k : IsPartFor kept front new part) where
  pub front_fits : (v : LawfulMap) → InTurn PatchLeadsShallowly (patches front) k.trial v → (base : LawfulMap) × ShallowFold (patches (placed kept ++ front)) base × IsTrialOf k.paths base v
  front_fits v l =
      let w = whole_follows k.paths (patches front) k.whole k.trial v k.below k.front_names k.is_trial l in
      (w.0, record { start = k.folds.start; is_root = k.folds.is_root; runs = leads_both kept front k.folds.runs w.3 }, w.1)

  pub front_stopped : (x : Placed) → FitStops IsStopped k.trial front x → FitStops IsStopped k.folds.start (placed kept ++ front) x
  front_stopped x f = stops_second kept front k.folds.runs ((stops_alike k.paths front x k.whole k.trial k.below k.front_names k.is_trial).1 f)

  pub new_fits : (base v z : LawfulMap) → IsTrialOf k.paths base v → InTurn PatchLeadsShallowly (patches new) v z → (fitted : LawfulMap) × InTurn PatchLeadsShallowly (patches new) base fitted
  new_fits base v z i l = let w = whole_follows k.paths (patches new) base v z k.below k.new_names i l in (w.0, w.3)

  pub new_stopped : (base v : LawfulMap) (x : Placed) → IsTrialOf k.paths base v → FitStops IsStopped v new x → FitStops IsStopped base new x
  new_stopped base v x i f = (stops_alike k.paths new x base v k.below k.new_names i).1 f
