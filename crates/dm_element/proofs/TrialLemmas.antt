-- What a trial on a part of a tree tells of the whole.
use Rattle.std.proofs.Common.{◌≡◌, Bool, true, false, List, [], ◌∷◌, All, None, inl, inr, Result, Ok, Err, MatchBool, IfOk, refl, sym, ◌∙◌}
use Rattle.std.proofs.lemmas.List.Elements.{All-head, All-tail}
use Rattle.std.specs.FinMap as finmap
use Rattle.dm_tree.specs.Paths.{Path}
use Rattle.dm_tree.specs.Trees.{Map, Tree, Deep}
use Rattle.dm_tree.specs.Reach.{IsPart}
use Rattle.dm_prim.specs.InTurn.{InTurn, done, step}
use Rattle.dm_prim.specs.Primitives.{Prim, Applies, LawfulMap}
use Rattle.dm_prim.specs.Commuting.{IsValidPrim}
use Rattle.dm_prim.specs.Parts.{NamesUnder, IsSameOutside}
use Rattle.dm_prim.specs.Touch.{TouchedPaths, Touches}
use Rattle.dm_prim.proofs.Undoing.{kept}
use Rattle.dm_prim.proofs.LawProofs.{off_root}
use Rattle.dm_prim.proofs.PartLemmas.{part_lawful, keeps_outside, applies_to_part, as_deep, as_large, splice, splice_is, among_under}
use Rattle.dm_prim.proofs.TouchLemmas.{touches_among}
use Rattle.dm_element.specs.Standing.{LeadsWithin, Stands}
use Rattle.dm_element.proofs.StandingLemmas.{stood}

-- what is in step is in step along a list of steps
module _ {P S : Type 0} (Ok : P → Type 0) (Rel : S → S → Type 0) (Step : P → S → S → Type 0)
    (one : (p : P) (s t u : S) → Ok p → Rel s u → Step p s t → (v : S) × Rel t v × Step p u v) where
  along : (ps : List P) (s t u : S) → All Ok ps → Rel s u → InTurn Step ps s t → (v : S) × Rel t v × InTurn Step ps u v
  along [] s t u ok r (done) = (u, r, done)
  along (p ∷ ps) s t u ok r (step {u = m} a b) =
      let x = one p s m u (All-head Ok p ps ok) r a in
      let y = along ps m t x.0 (All-tail Ok p ps ok) x.1 b in
      (y.0, y.1, step x.2 y.2)

module _ (ps : List Path) where
  nothing : Map
  nothing q = None

  cut : Map → Map
  cut t = splice ps nothing t

  cut_is : (t : Map) → IsPart ps t (cut t)
  unfolding cut nothing
  cut_is t = record { within = (splice_is ps nothing t).within; outside = (splice_is ps nothing t).outside }

  whole_is : (p : Prim) (s u v : Map) → NamesUnder ps p → IsPart ps s u → Applies p u v → IsPart ps (splice ps s v) v
  whole_is p s u v n i a = record {
    within = λ q r. sym ((splice_is ps s v).within q r);
    outside = λ q away. (keeps_outside ps p u v n a).outside q away ∙ i.outside q away;
  }

  -- u is what the paths reach of s, which isn't too deep
  pub record InStep (s u : LawfulMap) : Type 0 where
    pub part : IsPart ps s.map u.map
    pub shallow : Deep s.map → ⊥

  -- a primitive that is valid, and names nothing but what is at or under the paths
  pub record Reaches (p : Prim) : Type 0 where
    pub names : NamesUnder ps p
    pub valid : IsValidPrim p

  leads_part : (p : Prim) (s t u : LawfulMap) → Reaches p → InStep s u → LeadsWithin p s t → (v : LawfulMap) × InStep t v × LeadsWithin p u v
  leads_part p s t u n i h =
      let v : LawfulMap = record { map = cut t.map; lawful = part_lawful ps t.map (cut t.map) t.lawful (cut_is t.map) } in
      let out = keeps_outside ps p s.map t.map n.names h.leads.applies in
      let few : Deep t.map → ⊥ = λ d. h.within (inl d) in (
        v,
        record { part = cut_is t.map; shallow = few },
        record {
          leads = record { applies = ((applies_to_part ps p s.map t.map u.map v.map n.names i.part (cut_is t.map)).0 h.leads.applies).0 };
          within = λ past. elim past [
            | inl d ↦ few ((as_deep ps s.map t.map v.map i.shallow out (cut_is t.map)).1 d)
            | inr l ↦ h.within (inr ((as_large ps p s.map t.map u.map v.map n.names i.part (cut_is t.map)).1 l))
          ];
        },
      )

  leads_whole : (p : Prim) (u v s : LawfulMap) → Reaches p → InStep s u → LeadsWithin p u v → (t : LawfulMap) × InStep t v × LeadsWithin p s t
  leads_whole p u v s n i h =
      let w = splice ps s.map v.map in
      let out : IsSameOutside ps s.map w = record { outside = (splice_is ps s.map v.map).outside } in
      let j = whole_is p s.map u.map v.map n.names i.part h.leads.applies in
      let a : Applies p s.map w = (applies_to_part ps p s.map w u.map v.map n.names i.part j).1 (h.leads.applies, out) in
      let t : LawfulMap = record { map = w; lawful = kept p s.map w (off_root p n.valid) s.lawful a } in
      let few : Deep w → ⊥ = λ d. h.within (inl ((as_deep ps s.map w v.map i.shallow out j).0 d)) in (
        t,
        record { part = j; shallow = few },
        record {
          leads = record { applies = a };
          within = λ past. elim past [
            | inl d ↦ few d
            | inr l ↦ h.within (inr ((as_large ps p s.map w u.map v.map n.names i.part j).0 l))
          ];
        },
      )

  pub stands_part : (ms : List Prim) (s u : LawfulMap) → All Reaches ms → InStep s u → Stands LeadsWithin ms s → Stands LeadsWithin ms u
  stands_part ms s u n i (t, h) = let r = along Reaches InStep LeadsWithin leads_part ms s t u n i h in (r.0, r.2)

  pub stands_whole : (ms : List Prim) (s u : LawfulMap) → All Reaches ms → InStep s u → Stands LeadsWithin ms u → Stands LeadsWithin ms s
  stands_whole ms s u n i (v, h) = let r = along Reaches (λ y w. InStep w y) LeadsWithin leads_whole ms u v s n i h in (r.0, r.2)

  -- so a trial on the part says whether they stand on the whole
  pub tried : {E : Type 0} (ms : List Prim) (s u : LawfulMap) → All Reaches ms → InStep s u → (r : Result Bool E) →
      IfOk r (λ lead. MatchBool lead (Stands LeadsWithin ms u) (Stands LeadsWithin ms u → ⊥)) → IfOk r (λ lead. MatchBool lead (Stands LeadsWithin ms s) (Stands LeadsWithin ms s → ⊥))
  tried ms s u n i (Ok true) h = stands_whole ms s u n i h
  tried ms s u n i (Ok false) h = λ k. h (stands_part ms s u n i k)
  tried ms s u n i (Err x) h = tt

pub reaches_all : (ms : List Prim) (t : TouchedPaths) → Touches ms t → All (Reaches t.paths) ms
reaches_all ms t h = λ k d l. record { names = among_under t.paths _ (touches_among ms t h k d l); valid = h.valid k d l }

pub part_tried : {E : Type 0} (paths : List Path) (t : TouchedPaths) (ms : List Prim) (tree part : Tree) (s : LawfulMap) → paths ≡ t.paths → Touches ms t → IsPart paths (finmap.get tree) (finmap.get part) → (Deep (finmap.get tree) → ⊥) →
    s.map ≡ finmap.get tree → (m : Map) (r : Result Bool E) →
    ((u : LawfulMap) → u.map ≡ finmap.get part → IfOk r (λ lead. MatchBool lead ((z : LawfulMap) × (z.map ≡ m) × InTurn LeadsWithin ms u z) (Stands LeadsWithin ms u → ⊥))) →
    IfOk r (λ lead. MatchBool lead (Stands LeadsWithin ms s) (Stands LeadsWithin ms s → ⊥))
part_tried paths t ms tree part s same touches is_part few is m r h =
    let here : IsPart t.paths s.map (finmap.get part) = rw (is, ← same) is_part in
    let u : LawfulMap = record { map = finmap.get part; lawful = part_lawful t.paths s.map (finmap.get part) s.lawful here } in
    tried t.paths ms s u (reaches_all ms t touches) (record { part = here; shallow = rw is few }) r (stood ms u m (Stands LeadsWithin ms u → ⊥) r (h u refl))
