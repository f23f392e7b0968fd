-- What a trial on a part tells of the whole.
use Rattle.std.proofs.Common.{◌↔◌, List, [], ◌∷◌, ◌++◌, None, inl, inr, refl, sym, ap, ◌∙◌, subst}
use Rattle.std.specs.List.{All}
use Rattle.std.proofs.lemmas.List.{map-append}
use Rattle.std.proofs.lemmas.List.Elements.{All-nil, All-cons, All-head, All-tail}
use Rattle.dm_tree.specs.Paths.{Path}
use Rattle.dm_tree.specs.Trees.{Map, Deep}
use Rattle.dm_prim.specs.InTurn.{InTurn, done, step}
use Rattle.dm_prim.specs.Primitives.{Prim, Applies, LawfulMap}
use Rattle.dm_prim.specs.Limits.{IsPastLimits}
use Rattle.dm_prim.proofs.Undoing.{kept}
use Rattle.dm_tree.specs.Reach.{AreBelowRoot, IsPart}
use Rattle.dm_prim.specs.Parts.{NamesUnder, IsSameOutside, IsSameBut}
use Rattle.dm_named.specs.Patches.{Patch}
use Rattle.dm_repo.specs.Folds.{LeadsShallowly, PatchLeadsShallowly, GoesPastLimits, IsStopped}
use Rattle.dm_repo.specs.Squares.{Placed, patches}
use Rattle.dm_repo.specs.Weighing.{FitStops, RunsPastLimits}
use Rattle.dm_repo.specs.Trials.{PatchNamesUnder, IsTrialOf}
use Rattle.dm_prim.proofs.PartLemmas.{part_lawful, keeps_outside, keeps_but, but_outside, applies_to_part, as_deep, as_large, splice, splice_is, off_root}

-- what is in step is in step along a list of steps
module _ {P S : Type 0} (Ok : P → Type 0) (Rel : S → S → Type 0) (Step : P → S → S → Type 0)
    (one : (p : P) (s t u : S) → Ok p → Rel s u → Step p s t → (v : S) × Rel t v × Step p u v) where
  pub along : (ps : List P) (s t u : S) → All Ok ps → Rel s u → InTurn Step ps s t → (v : S) × Rel t v × InTurn Step ps u v
  along [] s t u ok r (done) = (u, r, done)
  along (p ∷ ps) s t u ok r (step {u = m} a b) =
      let x = one p s m u (All-head Ok p ps ok) r a in
      let y = along ps m t x.0 (All-tail Ok p ps ok) x.1 b in
      (y.0, y.1, step x.2 y.2)

all_front : {P : Type 0} (Ok : P → Type 0) (xs : List P) (x : P) (ys : List P) → All Ok (xs ++ x ∷ ys) → All Ok xs × Ok x
all_front Ok [] x ys h = (All-nil Ok, All-head Ok x ys h)
all_front Ok (y ∷ xs) x ys h = let r = all_front Ok xs x ys (All-tail Ok y (xs ++ x ∷ ys) h) in (All-cons Ok y xs (All-head Ok y (xs ++ x ∷ ys) h) r.0, r.1)

-- the part of what a primitive makes, and the whole of what it makes of a part
module _ (ps : List Path) where
  nothing : Map
  nothing q = None

  pub cut : Map → Map
  cut t = splice ps nothing t

  pub cut_is : (t : Map) → IsPart ps t (cut t)
  unfolding cut nothing
  cut_is t = record { within = (splice_is ps nothing t).within; outside = (splice_is ps nothing t).outside }

  whole_is : (p : Prim) (s u v : Map) → NamesUnder ps p → IsPart ps s u → Applies p u v → IsPart ps (splice ps s v) v
  whole_is p s u v n i a = record {
    within = λ q r. sym ((splice_is ps s v).within q r);
    outside = λ q away. (keeps_outside ps p u v n a).outside q away ∙ i.outside q away;
  }

  same_out : (s v : Map) → IsSameOutside ps s (splice ps s v)
  same_out s v = record { outside = (splice_is ps s v).outside }

  pub part_applies : (p : Prim) (s t u : Map) → NamesUnder ps p → IsPart ps s u → Applies p s t → Applies p u (cut t)
  part_applies p s t u n i a = ((applies_to_part ps p s t u (cut t) n i (cut_is t)).0 a).0

  pub whole_applies : (p : Prim) (s u v : Map) → NamesUnder ps p → IsPart ps s u → Applies p u v → Applies p s (splice ps s v)
  whole_applies p s u v n i a = (applies_to_part ps p s (splice ps s v) u v n i (whole_is p s u v n i a)).1 (a, same_out s v)

  -- in step with the part, having left the rest as it was
  pub record InStep (z s u : LawfulMap) : Type 0 where
    pub trial : IsTrialOf ps s u
    pub rest : IsSameBut ps z.map s.map

  onward : (z s t : Map) → IsSameBut ps z s → IsSameBut ps s t → IsSameBut ps z t
  onward z s t a b = record { kept = λ q away. b.kept q away ∙ a.kept q away }

  leads_part : (z : LawfulMap) (p : Prim) (s t u : LawfulMap) → NamesUnder ps p → InStep z s u → LeadsShallowly p s t → (v : LawfulMap) × InStep z t v × LeadsShallowly p u v
  leads_part z p s t u n i h =
      let v : LawfulMap = record { map = cut t.map; lawful = part_lawful ps t.map (cut t.map) t.lawful (cut_is t.map) } in
      let but = keeps_but ps p s.map t.map n h.leads.applies in
      let out = but_outside ps s.map t.map but in (
        v,
        record { trial = record { part = cut_is t.map; shallow = h.shallow }; rest = onward z.map s.map t.map i.rest but },
        record {
          leads = record { applies = part_applies p s.map t.map u.map n i.trial.part h.leads.applies };
          shallow = λ d. h.shallow ((as_deep ps s.map t.map v.map i.trial.shallow out (cut_is t.map)).1 d);
          small = λ l. h.small ((as_large ps p s.map t.map u.map v.map n i.trial.part (cut_is t.map)).1 l);
        },
      )

  leads_whole : AreBelowRoot ps → (z : LawfulMap) (p : Prim) (u v s : LawfulMap) → NamesUnder ps p → InStep z s u → LeadsShallowly p u v → (t : LawfulMap) × InStep z t v × LeadsShallowly p s t
  leads_whole g z p u v s n i h =
      let a = whole_applies p s.map u.map v.map n i.trial.part h.leads.applies in
      let t : LawfulMap = record { map = splice ps s.map v.map; lawful = kept p s.map (splice ps s.map v.map) (off_root ps p g n) s.lawful a } in
      let out = same_out s.map v.map in
      let j = whole_is p s.map u.map v.map n i.trial.part h.leads.applies in
      let few : Deep t.map → ⊥ = λ d. h.shallow ((as_deep ps s.map t.map v.map i.trial.shallow out j).0 d) in (
        t,
        record { trial = record { part = j; shallow = few }; rest = onward z.map s.map t.map i.rest (keeps_but ps p s.map t.map n a) },
        record { leads = record { applies = a }; shallow = few; small = λ l. h.small ((as_large ps p s.map t.map u.map v.map n i.trial.part j).0 l) },
      )

  patch_part : (z : LawfulMap) (x : Patch) (s t u : LawfulMap) → PatchNamesUnder ps x → InStep z s u → PatchLeadsShallowly x s t → (v : LawfulMap) × InStep z t v × PatchLeadsShallowly x u v
  patch_part z x s t u n i h = along (NamesUnder ps) (InStep z) LeadsShallowly (leads_part z) x.prims s t u n.each i h

  patch_whole : AreBelowRoot ps → (z : LawfulMap) (x : Patch) (u v s : LawfulMap) → PatchNamesUnder ps x → InStep z s u → PatchLeadsShallowly x u v → (t : LawfulMap) × InStep z t v × PatchLeadsShallowly x s t
  patch_whole g z x u v s n i h = along (NamesUnder ps) (λ y w. InStep z w y) LeadsShallowly (leads_whole g z) x.prims u v s n.each i h

  starts : (s u : LawfulMap) → IsTrialOf ps s u → InStep s s u
  starts s u i = record { trial = i; rest = record { kept = λ q away. refl } }

  patches_part : (z : LawfulMap) (xs : List Patch) (s t u : LawfulMap) → All (PatchNamesUnder ps) xs → InStep z s u → InTurn PatchLeadsShallowly xs s t → (v : LawfulMap) × InStep z t v × InTurn PatchLeadsShallowly xs u v
  patches_part z xs s t u n i h = along (PatchNamesUnder ps) (InStep z) PatchLeadsShallowly (patch_part z) xs s t u n i h

  patches_whole : AreBelowRoot ps → (z : LawfulMap) (xs : List Patch) (u v s : LawfulMap) → All (PatchNamesUnder ps) xs → InStep z s u → InTurn PatchLeadsShallowly xs u v → (t : LawfulMap) × InStep z t v × InTurn PatchLeadsShallowly xs s t
  patches_whole g z xs u v s n i h = along (PatchNamesUnder ps) (λ y w. InStep z w y) PatchLeadsShallowly (patch_whole g z) xs u v s n i h

  pub part_follows : (xs : List Patch) (s t u : LawfulMap) → All (PatchNamesUnder ps) xs → IsTrialOf ps s u →
      InTurn PatchLeadsShallowly xs s t → (v : LawfulMap) × IsTrialOf ps t v × IsSameBut ps s.map t.map × InTurn PatchLeadsShallowly xs u v
  part_follows xs s t u n i h = let r = patches_part s xs s t u n (starts s u i) h in (r.0, r.1.trial, r.1.rest, r.2)

  pub whole_follows : (xs : List Patch) (s u v : LawfulMap) → AreBelowRoot ps → All (PatchNamesUnder ps) xs → IsTrialOf ps s u →
      InTurn PatchLeadsShallowly xs u v → (t : LawfulMap) × IsTrialOf ps t v × IsSameBut ps s.map t.map × InTurn PatchLeadsShallowly xs s t
  whole_follows xs s u v g n i h = let r = patches_whole g s xs u v s n (starts s u i) h in (r.0, r.1.trial, r.1.rest, r.2)

  -- a primitive is stopped on the whole exactly where it is on the part
  past_to_part : (p : Prim) (s t u v : Map) → NamesUnder ps p → IsPart ps s u → IsPart ps t v → (Deep s → ⊥) → Applies p s t → IsPastLimits p s t → IsPastLimits p u v
  past_to_part p s t u v n i j few a (inl d) = inl ((as_deep ps s t v few (keeps_outside ps p s t n a) j).0 d)
  past_to_part p s t u v n i j few a (inr l) = inr ((as_large ps p s t u v n i j).0 l)

  past_to_whole : (p : Prim) (s t u v : Map) → NamesUnder ps p → IsPart ps s u → IsPart ps t v → (Deep s → ⊥) → Applies p s t → IsPastLimits p u v → IsPastLimits p s t
  past_to_whole p s t u v n i j few a (inl d) = inl ((as_deep ps s t v few (keeps_outside ps p s t n a) j).1 d)
  past_to_whole p s t u v n i j few a (inr l) = inr ((as_large ps p s t u v n i j).1 l)

  past_part : (p : Prim) (s u : LawfulMap) → NamesUnder ps p → IsTrialOf ps s u → GoesPastLimits p s → GoesPastLimits p u
  past_part p s u n i (t, a, d) =
      (cut t, part_applies p s.map t u.map n i.part a, past_to_part p s.map t u.map (cut t) n i.part (cut_is t) i.shallow a d)

  past_whole : (p : Prim) (s u : LawfulMap) → NamesUnder ps p → IsTrialOf ps s u → GoesPastLimits p u → GoesPastLimits p s
  past_whole p s u n i (v, a, d) =
      let w = whole_applies p s.map u.map v n i.part a in
      (splice ps s.map v, w, past_to_whole p s.map (splice ps s.map v) u.map v n i.part (whole_is p s.map u.map v n i.part a) i.shallow w d)

  stopped_part : (p : Prim) (s u : LawfulMap) → NamesUnder ps p → IsTrialOf ps s u → IsStopped p s → IsStopped p u
  stopped_part p s u n i h = λ v a.
      let w = whole_applies p s.map u.map v n i.part a in
      past_to_part p s.map (splice ps s.map v) u.map v n i.part (whole_is p s.map u.map v n i.part a) i.shallow w (h (splice ps s.map v) w)

  stopped_whole : (p : Prim) (s u : LawfulMap) → NamesUnder ps p → IsTrialOf ps s u → IsStopped p u → IsStopped p s
  stopped_whole p s u n i h = λ t a.
      past_to_whole p s.map t u.map (cut t) n i.part (cut_is t) i.shallow a (h (cut t) (part_applies p s.map t u.map n i.part a))

  module _ (Q : Prim → LawfulMap → Type 0) where
    fit_part : ((p : Prim) (s u : LawfulMap) → NamesUnder ps p → IsTrialOf ps s u → Q p s → Q p u) →
        (xs : List Placed) (x : Placed) (s u : LawfulMap) → All (PatchNamesUnder ps) (patches xs) → IsTrialOf ps s u → FitStops Q s xs x → FitStops Q u xs x
    fit_part q xs x s u n i f =
        let m = all_front (PatchNamesUnder ps) (patches f.before) x.1 (patches f.after) (subst (All (PatchNamesUnder ps)) (ap patches f.at ∙ map-append (λ y. y.1) f.before (x ∷ f.after)) n) in
        let r = patches_part s (patches f.before) s f.tree u m.0 (starts s u i) f.leads in
        let k = all_front (NamesUnder ps) f.stops.before f.stops.prim f.stops.after (subst (All (NamesUnder ps)) f.stops.at m.1.each) in
        let w = along (NamesUnder ps) (InStep s) LeadsShallowly (leads_part s) f.stops.before f.tree f.stops.tree r.0 k.0 r.1 f.stops.leads in
        record {
          before = f.before;
          after = f.after;
          tree = r.0;
          at = f.at;
          leads = r.2;
          stops = record { before = f.stops.before; prim = f.stops.prim; after = f.stops.after; tree = w.0; at = f.stops.at; leads = w.2; stops = q f.stops.prim f.stops.tree w.0 k.1 w.1.trial f.stops.stops };
        }

    fit_whole : AreBelowRoot ps → ((p : Prim) (s u : LawfulMap) → NamesUnder ps p → IsTrialOf ps s u → Q p u → Q p s) →
        (xs : List Placed) (x : Placed) (s u : LawfulMap) → All (PatchNamesUnder ps) (patches xs) → IsTrialOf ps s u → FitStops Q u xs x → FitStops Q s xs x
    fit_whole g q xs x s u n i f =
        let m = all_front (PatchNamesUnder ps) (patches f.before) x.1 (patches f.after) (subst (All (PatchNamesUnder ps)) (ap patches f.at ∙ map-append (λ y. y.1) f.before (x ∷ f.after)) n) in
        let r = patches_whole g s (patches f.before) u f.tree s m.0 (starts s u i) f.leads in
        let k = all_front (NamesUnder ps) f.stops.before f.stops.prim f.stops.after (subst (All (NamesUnder ps)) f.stops.at m.1.each) in
        let w = along (NamesUnder ps) (λ y z. InStep s z y) LeadsShallowly (leads_whole g s) f.stops.before f.tree f.stops.tree r.0 k.0 r.1 f.stops.leads in
        record {
          before = f.before;
          after = f.after;
          tree = r.0;
          at = f.at;
          leads = r.2;
          stops = record { before = f.stops.before; prim = f.stops.prim; after = f.stops.after; tree = w.0; at = f.stops.at; leads = w.2; stops = q f.stops.prim w.0 f.stops.tree k.1 w.1.trial f.stops.stops };
        }

  pub stops_alike : (xs : List Placed) (x : Placed) (s u : LawfulMap) → AreBelowRoot ps → All (PatchNamesUnder ps) (patches xs) → IsTrialOf ps s u → FitStops IsStopped s xs x ↔ FitStops IsStopped u xs x
  stops_alike xs x s u g n i = (fit_part IsStopped stopped_part xs x s u n i, fit_whole IsStopped g stopped_whole xs x s u n i)

  pub past_alike : (xs : List Placed) (s u : LawfulMap) → AreBelowRoot ps → All (PatchNamesUnder ps) (patches xs) → IsTrialOf ps s u → RunsPastLimits s xs ↔ RunsPastLimits u xs
  past_alike xs s u g n i = (λ d. (d.0, fit_part GoesPastLimits past_part xs d.0 s u n i d.1), λ d. (d.0, fit_whole GoesPastLimits g past_whole xs d.0 s u n i d.1))
