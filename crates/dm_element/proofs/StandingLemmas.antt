-- Primitives that lead on past no limit, and elements that stand.
use Rattle.std.proofs.Common.{◌≡◌, ◌≢◌, ℕ, ◌+◌, ◌<◌, ◌≤◌, Bool, true, false, List, [], ◌∷◌, ◌++◌, Vec, All, length, map, take, drop, get_or, inl, inr, Option, Some, None, Result, Ok, Err, MatchBool, MatchOption, IfOk, ap, refl, sym, subst, ◌∙◌, arith}
use Rattle.std.proofs.lemmas.List.{take_all, length-map, length-take-le}
use Rattle.std.proofs.lemmas.List.Elements.{All-nil, All-push}
use Rattle.std.proofs.Math.Nat.{ℕ_set}
use mathlib.Core.List.{is_set as list_set}
use mathlib.Core.Sum.{⊎_set}
use mathlib.Core.HLevel.{is_prop→PathP}
use Rattle.std.specs.FinMap as finmap
use Rattle.dm_tree.specs.Trees.{Map, Tree, Entry, IsLawful, Deep}
use Rattle.dm_tree.specs.declared.fault.TreeFault.{TreeFault}
use Rattle.dm_tree.specs.declared.fault.TreeFault.TheVariants.{NoParent, Occupied, Missing, NotFile, NotDir, NotEmpty, IntoItself, LineRange, OldDiffers, NoLines, TokenThere, TooLarge, TooDeep, NoMemory}
use Rattle.dm_prim.specs.InTurn.{InTurn, done, step}
use Rattle.dm_prim.specs.Primitives.{Prim, LawfulMap}
use Rattle.dm_prim.specs.Applying.{AdmitsFault, Applied, FaultsAs}
use Rattle.dm_prim.specs.Prims.{prims_of}
use Rattle.dm_prim.specs.declared.primitive.Primitive.{Primitive}
use Rattle.dm_prim.proofs.ApplyLemmas.{past_none}
use Rattle.dm_prim.proofs.Single.{applies_one, same_map}
use Rattle.dm_prim.proofs.RectangleLemmas.{runs_on}
use Rattle.dm_element.specs.declared.side.Side.TheVariants.{After, Before}
use Rattle.dm_element.specs.declared.standing.Fallen.{Fallen}
use Rattle.dm_element.specs.declared.element.Element as values
use Rattle.dm_element.specs.Elements.{Conflict, Element, Plain, Conflicted, at_side}
use Rattle.dm_element.specs.Values.{element_of, elements_of}
use Rattle.dm_element.specs.Lists.{lists_of}
use Rattle.dm_element.specs.Standing.{LeadsWithin, Stands, StandsBetween, StandAll, IsFirstFallen, Falls, IsFallen}
use Rattle.dm_element.proofs.SettledLemmas.{read_before_more, read_parted}

-- lawful maps with one map are one
entry_set : IsSet Entry
entry_set = hlevel (list_set, ℕ_set, ⊎_set)

lawful_prop : (t : Map) → IsProp (IsLawful t)
lawful_prop t = hlevel (entry_set, ⊎_set)

pub same_lawful : (s t : LawfulMap) → s.map ≡ t.map → s ≡ t
same_lawful s t e = let l = is_prop→PathP (λ i. IsLawful (e i)) (λ i. lawful_prop (e i)) s.lawful t.lawful in λ i. record { map = e i; lawful = l i }

-- one end, where each step has one
module _ {P S : Type 0} {Step : P → S → S → Type 0} where
  pub runs_one : ((p : P) (s t u : S) → Step p s t → Step p s u → t ≡ u) → {xs : List P} {s t u : S} → InTurn Step xs s t → InTurn Step xs s u → t ≡ u
  runs_one one done done = refl
  runs_one one (step {p} {s} {u = v} h r) (step {u = w} k q) = let e : v ≡ w = one p s v w h k in runs_one one r (rw (← e) at q)

  pub runs_part : (xs : List P) {ys : List P} {s z : S} → InTurn Step (xs ++ ys) s z → (u : S) × InTurn Step xs s u × InTurn Step ys u z
  runs_part [] r = (_, done, r)
  runs_part (x ∷ xs) (step h t) = let a = runs_part xs t in (a.0, step h a.1, a.2)

pub leads_one : (p : Prim) (s t u : LawfulMap) → LeadsWithin p s t → LeadsWithin p s u → t ≡ u
leads_one p s t u h k = same_lawful t u (same_map t.map u.map (applies_one p s.map t.map u.map s.lawful h.leads.applies k.leads.applies))

-- a primitive that was applied leads on
pub leads_there : {T : Type 0} (p : Prim) (t u : Tree) (r : Result T TreeFault) (x : T) (s : LawfulMap) (lawful : IsLawful (finmap.get u)) → s.map ≡ finmap.get t → r ≡ Ok x → Applied p t u r →
    FaultsAs p (finmap.get t) r → (Deep (finmap.get u) → ⊥) → LeadsWithin p s (record { map = finmap.get u; lawful = lawful })
leads_there {T} p t u r x s lawful is ok change fault few =
    let made = rw ok at change in
    let fits = subst (FaultsAs {T = T} p (finmap.get t)) ok fault in
    record { leads = record { applies = rw is made }; within = rw is (past_none p (finmap.get t) (finmap.get u) x fits made few) }

-- one with a fault other than out of memory doesn't
not_led : (p : Prim) (s : LawfulMap) (e : TreeFault) → e ≢ NoMemory → AdmitsFault p s.map e → (t : LawfulMap) → LeadsWithin p s t → ⊥
not_led p s NoMemory n r t g = absurd (n refl)
not_led p s TooDeep n (m, a, d) t g = g.within (inl (subst Deep (same_map m t.map (applies_one p s.map m t.map s.lawful a g.leads.applies)) d))
not_led p s TooLarge n r t g = g.within (inr (r t.map g.leads.applies))
not_led p s NoParent n r t g = r t.map g.leads.applies
not_led p s Occupied n r t g = r t.map g.leads.applies
not_led p s Missing n r t g = r t.map g.leads.applies
not_led p s NotFile n r t g = r t.map g.leads.applies
not_led p s NotDir n r t g = r t.map g.leads.applies
not_led p s NotEmpty n r t g = r t.map g.leads.applies
not_led p s IntoItself n r t g = r t.map g.leads.applies
not_led p s LineRange n r t g = r t.map g.leads.applies
not_led p s OldDiffers n r t g = r t.map g.leads.applies
not_led p s NoLines n r t g = r t.map g.leads.applies
not_led p s TokenThere n r t g = r t.map g.leads.applies

pub refused_leads : {T E : Type 0} (G : Type 0) (p : Prim) (t u : Tree) (r : Result T TreeFault) (e : TreeFault) (s : LawfulMap) (a : Result Bool E) → s.map ≡ finmap.get t → r ≡ Err e → Applied p t u r →
    IfOk a (λ leads. (leads ≡ false) × (e ≢ NoMemory)) → IfOk a (λ leads. MatchBool leads G ((z : LawfulMap) → LeadsWithin p s z → ⊥))
refused_leads G p t u r e s (Ok leads) is err change (f, n) =
    let b = rw err at change in
    rw f (not_led p s e n (rw is b.1))
refused_leads G p t u r e s (Err x) is err change h = tt

-- a loop over the steps: those before a place lead on
module _ {X P S : Type 0} (Step : P → S → S → Type 0) (read : X → P) (xs : List X) (i : ℕ) where
  module _ (x : X) (below : i < length xs) (is : x ≡ get_or xs i x) where
    pub run_more : {s t u : S} → InTurn Step (map read (take i xs)) s t → Step (read x) t u → InTurn Step (map read (take (i + 1) xs)) s u
    run_more r h = rw (read_before_more xs i x below is read) (runs_on P S Step r (step h done))

    pub run_stops : ((p : P) (s t u : S) → Step p s t → Step p s u → t ≡ u) → {s t : S} → InTurn Step (map read (take i xs)) s t → ((u : S) → Step (read x) t u → ⊥) → (u : S) × InTurn Step (map read xs) s u → ⊥
    run_stops one {s} {t} r n (u, q) = go (runs_part (map read (take i xs)) (rw (read_parted xs i x below is read) at q))
      where
        go : (v : S) × InTurn Step (map read (take i xs)) s v × InTurn Step (read x ∷ map read (drop (i + 1) xs)) v u → ⊥
        go (v, a, step {u = w} h b) = let e : v ≡ t = runs_one one a r in n w (rw e at h)

  pub run_all : {s t : S} → length xs ≤ i → InTurn Step (map read (take i xs)) s t → InTurn Step (map read xs) s t
  run_all l r = rw (take_all i xs l) at r

-- what is tried on a copy of the tree
pub stood : {E : Type 0} (ps : List Prim) (s : LawfulMap) (m : Map) (N : Type 0) (r : Result Bool E) → IfOk r (λ lead. MatchBool lead ((t : LawfulMap) × (t.map ≡ m) × InTurn LeadsWithin ps s t) N) → IfOk r (λ lead. MatchBool lead (Stands LeadsWithin ps s) N)
stood ps s m N (Ok true) h = (h.0, h.2)
stood ps s m N (Ok false) h = h
stood ps s m N (Err x) h = tt

-- a loop over shadows: those before a place stand
module _ {Z Y : Type 0} (s : LawfulMap) (ls : List (Vec (Primitive Z) Y)) (i : ℕ) where
  abbrev read_list : Vec (Primitive Z) Y → List Prim
  read_list v = prims_of v.items

  module _ (l : Vec (Primitive Z) Y) (below : i < length ls) (is : l ≡ get_or ls i l) (h : All (λ m. Stands LeadsWithin m s) (lists_of (take i ls))) where
    pub stand_more : Stands LeadsWithin (prims_of l.items) s → All (λ m. Stands LeadsWithin m s) (lists_of (take (i + 1) ls))
    stand_more k = rw (read_before_more ls i l below is read_list) (All-push (λ m. Stands LeadsWithin m s) (lists_of (take i ls)) (prims_of l.items) h k)

    pub first_fallen : (Stands LeadsWithin (prims_of l.items) s → ⊥) → IsFirstFallen (lists_of ls) s i
    first_fallen n = record {
      before = lists_of (take i ls);
      shadow = prims_of l.items;
      after = lists_of (drop (i + 1) ls);
      whole = read_parted ls i l below is read_list;
      at_place = length-map (take i ls) read_list ∙ length-take-le i ls (omega (arith, below));
      stand = h;
      falls = n;
    }

  pub stand_all : length ls ≤ i → All (λ m. Stands LeadsWithin m s) (lists_of (take i ls)) → All (λ m. Stands LeadsWithin m s) (lists_of ls)
  stand_all l h = rw (take_all i ls l) at h

-- a primitive, which has no shadows
pub plain_stands : {p : Prim} {s t : LawfulMap} → LeadsWithin p s t → StandsBetween LeadsWithin (Plain p) s t
plain_stands h = record { effect = step h done; shadows = All-nil _ }

pub plain_falls : {p : Prim} {s : LawfulMap} → ((t : LawfulMap) → LeadsWithin p s t → ⊥) → Stands LeadsWithin (p ∷ []) s → ⊥
plain_falls n (t, step {u = u} h r) = n u h

-- what is told of an element
module _ (e : Element) (place : ℕ) (s : LawfulMap) (m : Map) where
  abbrev pub Tells : Option Fallen → Type 0
  Tells o = MatchOption o ((t : LawfulMap) × (t.map ≡ m) × StandsBetween LeadsWithin e s t) (λ f. (f.element ≡ place) × Falls e s f.shadow)

  pub plain_told : {E : Type 0} (p : Prim) → e ≡ Plain p → (r : Result (Option Fallen) E) → IfOk r (λ o. MatchOption o ((t : LawfulMap) × (t.map ≡ m) × StandsBetween LeadsWithin (Plain p) s t) (λ f. (f.element ≡ place) × Falls (Plain p) s f.shadow)) → IfOk r Tells
  plain_told p i r h = rw i h

  module _ (c : Conflict) (i : e ≡ Conflicted c) where
    abbrev Asks : (LawfulMap → LawfulMap) → Option Fallen → Type 0
    Asks at o = MatchOption o ((t : LawfulMap) × (t.map ≡ m) × InTurn LeadsWithin c.effect s t × All (λ k. Stands LeadsWithin k (at t)) c.shadows)
        (λ f. (f.element ≡ place) × MatchOption f.shadow (Stands LeadsWithin c.effect s → ⊥) (λ shadow. (t : LawfulMap) × InTurn LeadsWithin c.effect s t × IsFirstFallen c.shadows (at t) shadow))

    -- where the side is known, so is the map on it
    conflict_told : {E : Type 0} (at : LawfulMap → LawfulMap) → ((t : LawfulMap) → at_side c.side s t ≡ at t) → (r : Result (Option Fallen) E) → IfOk r (Asks at) → IfOk r Tells
    conflict_told at same (Ok None) h = (h.0, h.1, rw i (record { effect = h.2; shadows = rw (same h.0) h.3 }))
    conflict_told at same (Ok (Some f)) h = (h.0, rw i (falls f.shadow h.1))
      where
        falls : (o : Option ℕ) → MatchOption o (Stands LeadsWithin c.effect s → ⊥) (λ shadow. (t : LawfulMap) × InTurn LeadsWithin c.effect s t × IsFirstFallen c.shadows (at t) shadow) → Falls (Conflicted c) s o
        falls None k = k
        falls (Some shadow) k = (k.0, k.1, rw (same k.0) k.2)
    conflict_told at same (Err x) h = tt

    pub after_told : {E : Type 0} → c.side ≡ After → (r : Result (Option Fallen) E) → IfOk r (Asks (λ t. t)) → IfOk r Tells
    after_told a r h = conflict_told (λ t. t) (λ t. ap (λ z. at_side z s t) a) r h

    pub before_told : {E : Type 0} → c.side ≡ Before → (r : Result (Option Fallen) E) → IfOk r (Asks (λ t. s)) → IfOk r Tells
    before_told b r h = conflict_told (λ t. s) (λ t. ap (λ z. at_side z s t) b) r h

-- the first that falls, after those before its place
module _ {Z : Type 0} (xs : List (values.Element Z)) (i : ℕ) (x : values.Element Z) (below : i < length xs) (is : x ≡ get_or xs i x) where
  pub fallen_there : {s t : LawfulMap} → StandAll LeadsWithin (elements_of (take i xs)) s t → (f : Fallen) → (f.element ≡ i) × Falls (element_of x) t f.shadow → IsFallen (elements_of xs) s f
  fallen_there {t = t} h f k = record {
    before = elements_of (take i xs);
    element = element_of x;
    after = elements_of (drop (i + 1) xs);
    whole = read_parted xs i x below is element_of;
    at_place = length-map (take i xs) element_of ∙ length-take-le i xs (omega (arith, below)) ∙ sym k.0;
    reached = t;
    stand = h;
    falls = k.1;
  }

pub stands_one : (e : Element) (s t u : LawfulMap) → StandsBetween LeadsWithin e s t → StandsBetween LeadsWithin e s u → t ≡ u
stands_one e s t u h k = runs_one leads_one h.effect k.effect
