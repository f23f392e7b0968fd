-- Patches that stand near or aside, by their primitives.
use Rattle.std.proofs.Common.{◌≡◌, List, [], ◌∷◌, refl, sym, subst, Contains}
use Rattle.std.specs.List.{All}
use Rattle.std.proofs.lemmas.List.Elements.{All-nil, All-cons, Contains-push}
use Rattle.dm_tree.specs.Paths.{Path}
use Rattle.dm_tree.specs.Reach.{IsUnder}
use Rattle.dm_prim.specs.Primitives.{Prim, Work, At, Move, ChangePref}
use Rattle.dm_prim.specs.Commuting.{IsValidPrim}
use Rattle.dm_prim.specs.Table.{MovesOutside}
use Rattle.dm_prim.specs.Glances.{AreAsideFrom}
use Rattle.dm_prim.specs.Touch.{IsApartFrom, paths_of}
use Rattle.dm_prim.specs.Prims.{IsWork, MovesNothing}
use Rattle.dm_prim.specs.Parts.{NamesUnder}
use Rattle.dm_prim.proofs.TouchLemmas.{holds_of, holds_of_all, touched_in}
use Rattle.dm_named.specs.Patches.{Patch}
use Rattle.dm_repo.specs.Aside.{IsAside, StandsAside, StandsNear}

-- a primitive of a patch that stands near
abbrev pub IsNearPrim : List Path → Prim → Type 0
IsNearPrim ps p = IsValidPrim p × NamesUnder ps p × MovesOutside p

-- and of one that stands aside
abbrev pub IsAsidePrim : List Path → Prim → Type 0
IsAsidePrim ps p = IsValidPrim p × IsAside ps p

pub near_of_all : (ps : List Path) (x : Patch) → All (IsNearPrim ps) x.prims → StandsNear ps x
near_of_all ps x h = record {
  valid = holds_of_all IsValidPrim x.prims (λ p c. (holds_of (IsNearPrim ps) x.prims h c).0);
  names = holds_of_all (NamesUnder ps) x.prims (λ p c. (holds_of (IsNearPrim ps) x.prims h c).1);
  moves = holds_of_all MovesOutside x.prims (λ p c. (holds_of (IsNearPrim ps) x.prims h c).2);
}

pub aside_of_all : (ps : List Path) (x : Patch) → All (IsAsidePrim ps) x.prims → StandsAside ps x
aside_of_all ps x h = record {
  valid = holds_of_all IsValidPrim x.prims (λ p c. (holds_of (IsAsidePrim ps) x.prims h c).0);
  each = holds_of_all (IsAside ps) x.prims (λ p c. (holds_of (IsAsidePrim ps) x.prims h c).1);
}

-- work, a move, and a preference
pub work_near : (ps : List Path) (p : Prim) (f : Path) (w : Work) → p ≡ At f w → IsUnder ps f → NamesUnder ps p × MovesOutside p
work_near ps p f w e u = subst (λ q. NamesUnder ps q × MovesOutside q) (sym e) (record { each = All-cons (IsUnder ps) f [] u (All-nil (IsUnder ps)) }, tt)

pub move_near : (ps : List Path) (a b : Path) → IsUnder ps a → IsUnder ps b → NamesUnder ps (Move a b)
move_near ps a b u v = record { each = All-cons (IsUnder ps) a (b ∷ []) u (All-cons (IsUnder ps) b [] v (All-nil (IsUnder ps))) }

pub other_near : (ps : List Path) (p : Prim) → (IsWork p → ⊥) → ((a b : Path) → p ≡ Move a b → ⊥) → NamesUnder ps p × MovesOutside p
other_near ps (At f w) h k = absurd (h tt)
other_near ps (Move a b) h k = absurd (k a b refl)
other_near ps (ChangePref name old new) h k = (record { each = All-nil (IsUnder ps) }, tt)

pub work_aside : (ps : List Path) (p : Prim) (f : Path) (w : Work) → p ≡ At f w → IsApartFrom ps f → IsAside ps p
work_aside ps p f w e a = subst (IsAside ps) (sym e) a

pub other_aside : (ps : List Path) (p : Prim) → (IsWork p → ⊥) → ((a b : Path) → p ≡ Move a b → ⊥) → IsAside ps p
other_aside ps (At f w) h k = absurd (h tt)
other_aside ps (Move a b) h k = absurd (k a b refl)
other_aside ps (ChangePref name old new) h k = tt

-- told at a glance
aside_prim : (ps : List Path) (p : Prim) → MovesNothing p → ((f : Path) → Contains (paths_of p) f → IsApartFrom ps f) → IsAside ps p
aside_prim ps (At f w) m h = h f (Contains-push [] f)
aside_prim ps (Move a b) m h = m
aside_prim ps (ChangePref name old new) m h = tt

pub aside_at_a_glance : (ps : List Path) (x : Patch) → AreAsideFrom ps x.prims → StandsAside ps x
aside_at_a_glance ps x h = record {
  valid = h.valid;
  each = holds_of_all (IsAside ps) x.prims (λ p c. aside_prim ps p (holds_of MovesNothing x.prims h.moves c) (λ f d. h.apart f (touched_in x.prims p f c d)));
}
