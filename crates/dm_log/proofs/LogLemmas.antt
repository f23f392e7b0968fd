-- How the text of a log grows by one patch.
use Rattle.std.proofs.Common.{◌≡◌, ◌<◌, ◌≤◌, ◌⊎◌, inl, inr, ◌+◌, ◌-◌, ℕ, zero, suc, Bool, true, false, cond, List, [], ◌∷◌, ◌++◌, length, take, reverse, get_or, Some, None, sym, refl, ap, ◌∙◌, append_assoc, arith}
use Rattle.std.specs.Prelude.{Option, slice_get}
use Rattle.std.specs.List.{flat_map, join_by}
use Rattle.dm_info.specs.Spelling.{canonical}
use Rattle.dm_named.specs.Canonical.{info_line}
use Rattle.std.proofs.lemmas.List.{append-nil, get_or-map, length-map, flat_map_more, get_or-drop, get_or-reverse, length-drop, length-reverse, length-take-le, take_all, take_more}
use Rattle.std.proofs.lemmas.Option.{get_or_from_slice_get}
use Rattle.dm_named.specs.Patches.{Patch}
use Rattle.dm_bundle.specs.Patches.{infos_of}
use Rattle.dm_log.specs.Entries.{entry_text, log_text}
use Rattle.dm_log.specs.Choices.{chosen, count_of, long_entry, newest, place_of, placed_from}
use Rattle.dm_log.specs.declared.options.LogOptions.{LogOptions}

join_first : {X : Type 0} (f : X → List ℕ) (p : X) → join_by f (10 ∷ []) (p ∷ []) ≡ f p
join_first f p = append-nil (f p)

join_more : {X : Type 0} (f : X → List ℕ) (ps : List X) (p : X) → 0 < length ps → join_by f (10 ∷ []) (ps ++ p ∷ []) ≡ (join_by f (10 ∷ []) ps ++ 10 ∷ []) ++ f p
join_more f [] p h = absurd (omega arith)
join_more f (x ∷ xs) p h =
    sym (flat_map_more (λ q. 10 ∷ f q) (f x) xs p) ∙ sym (append_assoc (join_by f (10 ∷ []) (x ∷ xs)) (10 ∷ []) (f p))

-- what the loop over the patches adds, with the empty line that stands before it but for the first
pub join_turn : {X : Type 0} (f : X → List ℕ) (ps : List X) (k : ℕ) (p : X) (before mid after : List ℕ) → k < length ps → get_or ps k p ≡ p → before ≡ join_by f (10 ∷ []) (take k ps) → ((0 < k) × (mid ≡ before ++ 10 ∷ [])) ⊎ ((k ≡ 0) × (mid ≡ before)) → after ≡ mid ++ f p → after ≡ join_by f (10 ∷ []) (take (k + 1) ps)
join_turn f ps k p before mid after h at b m a =
    let taken : length (take k ps) ≡ k = length-take-le k ps (omega (arith, h)) in
    let turn : take (k + 1) ps ≡ take k ps ++ p ∷ [] = take_more ps k p h ∙ ap (λ q. take k ps ++ q ∷ []) at in
    elim m [
      | inl x ↦ rw (turn, join_more f (take k ps) p (omega (arith, x.0, taken)), ← b, ← x.1) a
      | inr x ↦
          let none : take k ps ≡ [] = rw x.0 refl in
          rw (turn, none, join_first f p) (rw (x.1, b, none) at a)
    ]

count_within : (last : Option ℕ) (all : ℕ) → count_of last all ≤ all
count_within None all = omega arith
count_within (Some most) all = omega arith

long_newest : {X : Type 0} (n : ℕ) (ps : List X) → n ≤ length ps → length (newest n ps) ≡ n
long_newest n ps h = omega (arith, length-drop (length ps - n) ps)

-- so many are chosen
pub long_chosen : {X : Type 0} (o : LogOptions) (ps : List X) → length (chosen o ps) ≡ count_of o.last (length ps)
long_chosen o ps =
    let n : ℕ = count_of o.last (length ps) in
    let long : length (newest n ps) ≡ n = long_newest n ps (count_within o.last (length ps)) in
    elim o.reverse as (λ b. length (cond b (reverse (newest n ps)) (newest n ps)) ≡ n) [ true ↦ length-reverse (newest n ps) ∙ long | false ↦ long ]

in_order : {X : Type 0} (b : Bool) (n : ℕ) (ps : List X) (k : ℕ) (p : X) → n ≤ length ps → k < n → slice_get ps (place_of b (length ps) n k) ≡ Some p → get_or (cond b (reverse (newest n ps)) (newest n ps)) k p ≡ p
in_order true n ps k p le lt h =
    let long : length (newest n ps) ≡ n = long_newest n ps le in
    let place : length ps - n + (n - 1 - k) ≡ length ps - 1 - k = omega arith in
    get_or-reverse (newest n ps) k p (omega (arith, long)) ∙ ap (λ m. get_or (newest n ps) (m - 1 - k) p) long ∙ get_or-drop (length ps - n) ps (n - 1 - k) p ∙ ap (λ m. get_or ps m p) place ∙ get_or_from_slice_get ps (length ps - 1 - k) p p h
in_order false n ps k p le lt h = get_or-drop (length ps - n) ps k p ∙ get_or_from_slice_get ps (length ps - n + k) p p h

-- what is chosen at a place
pub at_chosen : {X : Type 0} (o : LogOptions) (ps : List X) (k : ℕ) (p : X) → k < count_of o.last (length ps) → slice_get ps (place_of o.reverse (length ps) (count_of o.last (length ps)) k) ≡ Some p → get_or (chosen o ps) k p ≡ p
at_chosen o ps k p lt h = in_order o.reverse (count_of o.last (length ps)) ps k p (count_within o.last (length ps)) lt h

-- the log of patches, without the text of any, is that of their patch infos
join_map : (ps : List Patch) → flat_map (λ i. 10 ∷ entry_text i) (infos_of ps) ≡ flat_map (λ (p : Patch). 10 ∷ entry_text p.info) ps
join_map [] = refl
join_map (p ∷ ps) = ap (λ t. (10 ∷ entry_text p.info) ++ t) (join_map ps)

-- the places change nothing where they aren't shown
abbrev pub no_places : LogOptions
no_places = record { last = None; reverse = false; verbose = false; places = false }

bare : (n : ℕ) (p : Patch) → long_entry no_places (n, p) ≡ entry_text p.info
bare n p = append-nil (entry_text p.info)

bare_from : (n : ℕ) (ps : List Patch) → flat_map (λ q. 10 ∷ long_entry no_places q) (placed_from n ps) ≡ flat_map (λ (p : Patch). 10 ∷ entry_text p.info) ps
bare_from n [] = refl
bare_from n (p ∷ ps) =
    ap (λ (t : List ℕ). (10 ∷ t) ++ flat_map (λ q. 10 ∷ long_entry no_places q) (placed_from (n + 1) ps)) (bare n p) ∙ ap (λ (t : List ℕ). (10 ∷ entry_text p.info) ++ t) (bare_from (n + 1) ps)

log_is : (ps : List Patch) → join_by (long_entry no_places) (10 ∷ []) (placed_from 1 ps) ≡ log_text (infos_of ps)
log_is [] = refl
log_is (p ∷ ps) =
    ap (λ (t : List ℕ). t ++ flat_map (λ q. 10 ∷ long_entry no_places q) (placed_from 2 ps)) (bare 1 p) ∙ ap (λ (t : List ℕ). entry_text p.info ++ t) (bare_from 2 ps ∙ sym (join_map ps))

-- how many patches have a place, and which
pub long_placed : (n : ℕ) (ps : List Patch) → length (placed_from n ps) ≡ length ps
long_placed n [] = refl
long_placed n (p ∷ ps) = ap suc (long_placed (n + 1) ps)

pub at_placed : (n : ℕ) (ps : List Patch) (k : ℕ) (p : Patch) → slice_get ps k ≡ Some p → slice_get (placed_from n ps) k ≡ Some (n + k, p)
at_placed n [] k p e = absurd (cc)
at_placed n (q ∷ ps) zero p e = let f : q ≡ p = cc in rw f (ap (λ m. Some (m, p)) (omega arith))
at_placed n (q ∷ ps) (suc k) p e = rw (at_placed (n + 1) ps k p e) (ap (λ m. Some (m, p)) (omega arith))

-- what the loop over the patch infos adds, from the newest on
pub context_turn : (head : List ℕ) (ps : List Patch) (k : ℕ) (p : Patch) (before after : List ℕ) → k < length ps → slice_get ps (length ps - 1 - k) ≡ Some p → before ≡ head ++ flat_map (λ i. 10 ∷ info_line i) (take k (reverse (infos_of ps))) → after ≡ ((before ++ 10 ∷ []) ++ canonical p.info) ++ 10 ∷ [] → after ≡ head ++ flat_map (λ i. 10 ∷ info_line i) (take (k + 1) (reverse (infos_of ps)))
context_turn head ps k p before after lt h b a =
    let long : length (infos_of ps) ≡ length ps = length-map ps (λ q. q.info) in
    let within : k < length (reverse (infos_of ps)) = omega (arith, lt, long, length-reverse (infos_of ps)) in
    let at : get_or (reverse (infos_of ps)) k p.info ≡ p.info =
    get_or-reverse (infos_of ps) k p.info (omega (arith, lt, long)) ∙ ap (λ m. get_or (infos_of ps) (m - 1 - k) p.info) long
    ∙ get_or-map (λ q. q.info) ps (length ps - 1 - k) p p.info (omega (arith, lt)) ∙ ap (λ q. q.info) (get_or_from_slice_get ps (length ps - 1 - k) p p h) in
    let turn : take (k + 1) (reverse (infos_of ps)) ≡ take k (reverse (infos_of ps)) ++ p.info ∷ [] = take_more (reverse (infos_of ps)) k p.info within ∙ ap (λ i. take k (reverse (infos_of ps)) ++ i ∷ []) at in
    let line : after ≡ before ++ (10 ∷ info_line p.info) = a ∙ append_assoc (before ++ 10 ∷ []) (canonical p.info) (10 ∷ []) ∙ append_assoc before (10 ∷ []) (canonical p.info ++ 10 ∷ []) in
    rw turn (rw (line, b) (flat_map_more (λ i. 10 ∷ info_line i) head (take k (reverse (infos_of ps))) p.info))

pub context_end : (ps : List Patch) (k : ℕ) → length ps ≤ k → take k (reverse (infos_of ps)) ≡ reverse (infos_of ps)
context_end ps k le = take_all k (reverse (infos_of ps)) (omega (arith, le, length-map ps (λ q. q.info), length-reverse (infos_of ps)))

-- all of them, oldest first
pub log_all : (ps : List Patch) → join_by (long_entry no_places) (10 ∷ []) (newest (length (placed_from 1 ps)) (placed_from 1 ps)) ≡ log_text (infos_of ps)
log_all ps =
    let none : length (placed_from 1 ps) - length (placed_from 1 ps) ≡ 0 = omega arith in
    rw none (log_is ps)
