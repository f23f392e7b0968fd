-- Words grouped by their posters, one word after another.
use Rattle.std.proofs.Common.{◌≡◌, ℕ, Bool, true, false, cond, not, if◌then◌else◌, List, [], ◌∷◌, ◌++◌, Option, None, Some, map, filter, unwrap_or, refl, sym, ◌∙◌, ap, subst, append-nil, length, take, get_or, ◌+◌, ◌<◌}
use Rattle.std.specs.Borrow.{Bor}
use Rattle.std.specs.Global.{Vec}
use Rattle.std.proofs.lemmas.List.{take_more}
use Rattle.std.specs.List.{AllByRecursion}
use Rattle.std.specs.Map.{lookup}
use Rattle.std.specs.Str.{bytes_eq}
use Rattle.std.proofs.lemmas.Bool.{cond-true, cond-false, false≢true}
use Rattle.std.proofs.lemmas.Slice.Eq.{bytes_eq-Decides}
use Rattle.indexmap.specs.IndexMap.{insert_entry}
use Rattle.dm_tool.specs.Posters.{AreRead, Poster, ReadWord, posters_of, texts_of, with_text, by_poster}
use Rattle.dm_tool.specs.Held.{held, items_of}

-- the name isn't the other
abbrev pub Differs : List ℕ → List ℕ → Type 0
Differs a b = bytes_eq a b ≡ false

-- the test that keeps the other names
abbrev pub is_other : List ℕ → List ℕ → Bool
is_other a b = not (bytes_eq a b)

same : (a b : List ℕ) → bytes_eq a b ≡ true → a ≡ b
same a b e = (bytes_eq-Decides a b).0 e

self : (a : List ℕ) → bytes_eq a a ≡ true
self a = (bytes_eq-Decides a a).1 refl

turned : (a b : List ℕ) → Differs a b → Differs b a
turned a b e = by (bytes_eq b a) refl
  where
    by : (r : Bool) → bytes_eq b a ≡ r → Differs b a
    by true h = absurd (false≢true (sym e ∙ (bytes_eq-Decides a b).1 (sym (same b a h))))
    by false h = h

-- the names with one more, at the end if it is new
abbrev pub insert_name : List ℕ → List (List ℕ) → List (List ℕ)
insert_name k [] = k ∷ []
insert_name k (n ∷ ns) = if bytes_eq k n then n ∷ ns else n ∷ insert_name k ns

filter_own : (k : List ℕ) (ns : List (List ℕ)) → filter (is_other k) (insert_name k ns) ≡ filter (is_other k) ns
filter_own k [] = rw (self k) refl
filter_own k (n ∷ ns) = by (filter_own k ns) (bytes_eq k n) refl
  where
    by : filter (is_other k) (insert_name k ns) ≡ filter (is_other k) ns → (b : Bool) → bytes_eq k n ≡ b → filter (is_other k) (insert_name k (n ∷ ns)) ≡ filter (is_other k) (n ∷ ns)
    by more true e = rw (e, e) refl
    by more false e = rw (e, e) (ap (λ (l : List (List ℕ)). n ∷ l) more)

filter_other : (h k : List ℕ) → Differs h k → (ns : List (List ℕ)) → filter (is_other h) (insert_name k ns) ≡ insert_name k (filter (is_other h) ns)
filter_other h k d [] = rw d refl
filter_other h k d (n ∷ ns) = by (filter_other h k d ns) (bytes_eq k n) refl (bytes_eq h n) refl
  where
    by : filter (is_other h) (insert_name k ns) ≡ insert_name k (filter (is_other h) ns) → (b : Bool) → bytes_eq k n ≡ b → (c : Bool) → bytes_eq h n ≡ c → filter (is_other h) (insert_name k (n ∷ ns)) ≡ insert_name k (filter (is_other h) (n ∷ ns))
    by more true e true f = absurd (false≢true (sym d ∙ ap (bytes_eq h) (same k n e) ∙ f))
    by more true e false f = rw (e, f, e) refl
    by more false e true f = rw (e, f) more
    by more false e false f = rw (e, f, e) (ap (λ (l : List (List ℕ)). n ∷ l) more)

-- the posters with one word more
posters_more : (ws : List ReadWord) (w : ReadWord) → posters_of (ws ++ w ∷ []) ≡ insert_name w.0 (posters_of ws)
posters_more [] w = refl
posters_more (v ∷ ws) w = by (ap (filter (is_other v.0)) (posters_more ws w)) (bytes_eq w.0 v.0) refl
  where
    by : filter (is_other v.0) (posters_of (ws ++ w ∷ [])) ≡ filter (is_other v.0) (insert_name w.0 (posters_of ws)) → (b : Bool) → bytes_eq w.0 v.0 ≡ b → posters_of ((v ∷ ws) ++ w ∷ []) ≡ insert_name w.0 (posters_of (v ∷ ws))
    by rest true e = rw e (ap (λ (l : List (List ℕ)). v.0 ∷ l) (rest ∙ ap (λ (k : List ℕ). filter (is_other v.0) (insert_name k (posters_of ws))) (same w.0 v.0 e) ∙ filter_own v.0 (posters_of ws)))
    by rest false e = rw e (ap (λ (l : List (List ℕ)). v.0 ∷ l) (rest ∙ filter_other v.0 w.0 (turned w.0 v.0 e) (posters_of ws)))

with_append : (t : Option (List ℕ)) (xs ys : List (List ℕ)) → with_text t (xs ++ ys) ≡ with_text t xs ++ ys
with_append None xs ys = refl
with_append (Some text) xs ys = refl

-- the texts of a poster with one word more
texts_more : (n : List ℕ) (ws : List ReadWord) (w : ReadWord) → texts_of n (ws ++ w ∷ []) ≡ texts_of n ws ++ (if bytes_eq n w.0 then with_text w.1 [] else [])
texts_more n [] w = refl
texts_more n (v ∷ ws) w = by (texts_more n ws w) (bytes_eq n v.0) refl
  where
    by : texts_of n (ws ++ w ∷ []) ≡ texts_of n ws ++ (if bytes_eq n w.0 then with_text w.1 [] else []) → (b : Bool) → bytes_eq n v.0 ≡ b → texts_of n ((v ∷ ws) ++ w ∷ []) ≡ texts_of n (v ∷ ws) ++ (if bytes_eq n w.0 then with_text w.1 [] else [])
    by more true e = rw e (ap (with_text v.1) more ∙ with_append v.1 (texts_of n ws) (if bytes_eq n w.0 then with_text w.1 [] else []))
    by more false e = rw e more

-- no name stands there twice
abbrev Distinct : List (List ℕ) → Type 0
Distinct [] = Unit
Distinct (n ∷ ns) = AllByRecursion (Differs n) ns × Distinct ns

all_filter : (P : List ℕ → Type 0) (t : List ℕ → Bool) (ns : List (List ℕ)) → AllByRecursion P ns → AllByRecursion P (filter t ns)
all_filter P t [] a = tt
all_filter P t (n ∷ ns) a = by (all_filter P t ns a.1) (t n) refl
  where
    by : AllByRecursion P (filter t ns) → (b : Bool) → t n ≡ b → AllByRecursion P (filter t (n ∷ ns))
    by more true e = rw e (a.0, more)
    by more false e = rw e more

all_kept : (h : List ℕ) (ns : List (List ℕ)) → AllByRecursion (Differs h) (filter (is_other h) ns)
all_kept h [] = tt
all_kept h (n ∷ ns) = by (all_kept h ns) (bytes_eq h n) refl
  where
    by : AllByRecursion (Differs h) (filter (is_other h) ns) → (b : Bool) → bytes_eq h n ≡ b → AllByRecursion (Differs h) (filter (is_other h) (n ∷ ns))
    by more true e = rw e more
    by more false e = rw e (e, more)

distinct_filter : (t : List ℕ → Bool) (ns : List (List ℕ)) → Distinct ns → Distinct (filter t ns)
distinct_filter t [] d = tt
distinct_filter t (n ∷ ns) d = by (distinct_filter t ns d.1) (t n) refl
  where
    by : Distinct (filter t ns) → (b : Bool) → t n ≡ b → Distinct (filter t (n ∷ ns))
    by more true e = rw e (all_filter (Differs n) t ns d.0, more)
    by more false e = rw e more

posters_distinct : (ws : List ReadWord) → Distinct (posters_of ws)
posters_distinct [] = tt
posters_distinct (w ∷ ws) = (all_kept w.0 (posters_of ws), distinct_filter (is_other w.0) (posters_of ws) (posters_distinct ws))

all_before : (k h : List ℕ) (ns : List (List ℕ)) → Differs k h → AllByRecursion (Differs k) (filter (is_other h) ns) → AllByRecursion (Differs k) ns
all_before k h [] d a = tt
all_before k h (n ∷ ns) d a = by (all_before k h ns d) (bytes_eq h n) refl
  where
    by : (AllByRecursion (Differs k) (filter (is_other h) ns) → AllByRecursion (Differs k) ns) → (b : Bool) → bytes_eq h n ≡ b → AllByRecursion (Differs k) (n ∷ ns)
    by more true e = (subst (Differs k) (same h n e) d, more (rw e at a))
    by more false e = let both = rw e at a in (both.0, more both.1)

-- who is named nowhere has no texts
no_texts : (k : List ℕ) (ws : List ReadWord) → AllByRecursion (Differs k) (posters_of ws) → texts_of k ws ≡ []
no_texts k [] a = refl
no_texts k (w ∷ ws) a = rw (a.0) (no_texts k ws (all_before k w.0 (posters_of ws) a.0 a.1))

module _ (f : List ℕ → List (List ℕ)) (k : List ℕ) where
  found_or_none : (ns : List (List ℕ)) → (AllByRecursion (Differs k) ns → f k ≡ []) → unwrap_or (lookup (bytes_eq k) (map {B = Poster} (λ n. (n, f n)) ns)) [] ≡ f k
  found_or_none [] none = sym (none tt)
  found_or_none (n ∷ ns) none = by (found_or_none ns) (bytes_eq k n) refl
    where
      by : ((AllByRecursion (Differs k) ns → f k ≡ []) → unwrap_or (lookup (bytes_eq k) (map {B = Poster} (λ n. (n, f n)) ns)) [] ≡ f k) → (b : Bool) → bytes_eq k n ≡ b → unwrap_or (lookup (bytes_eq k) (map {B = Poster} (λ n. (n, f n)) (n ∷ ns))) [] ≡ f k
      by more true e = rw e (ap f (sym (same k n e)))
      by more false e = rw e (more (λ a. none (e, a)))

  module _ (g : List ℕ → List (List ℕ)) (v : List (List ℕ)) (own : g k ≡ v) (others : (n : List ℕ) → Differs k n → g n ≡ f n) where
    others_stay : (ns : List (List ℕ)) → AllByRecursion (Differs k) ns → map {B = Poster} (λ n. (n, f n)) ns ≡ map {B = Poster} (λ n. (n, g n)) ns
    others_stay [] a = refl
    others_stay (n ∷ ns) a = ap (λ (x : List (List ℕ)). (n, x) ∷ map {B = Poster} (λ n. (n, f n)) ns) (sym (others n a.0)) ∙ ap (λ (l : List Poster). (n, g n) ∷ l) (others_stay ns a.1)

    inserted : (ns : List (List ℕ)) → Distinct ns → insert_entry bytes_eq (map {B = Poster} (λ n. (n, f n)) ns) k v ≡ map {B = Poster} (λ n. (n, g n)) (insert_name k ns)
    inserted [] d = ap (λ (x : List (List ℕ)). (k, x) ∷ []) (sym own)
    inserted (n ∷ ns) d = by (inserted ns d.1) (bytes_eq k n) refl
      where
        by : insert_entry bytes_eq (map {B = Poster} (λ n. (n, f n)) ns) k v ≡ map {B = Poster} (λ n. (n, g n)) (insert_name k ns) → (b : Bool) → bytes_eq k n ≡ b → insert_entry bytes_eq (map {B = Poster} (λ n. (n, f n)) (n ∷ ns)) k v ≡ map {B = Poster} (λ n. (n, g n)) (insert_name k (n ∷ ns))
        by more true e =
            let here : v ≡ g n = sym own ∙ ap g (same k n e) in
            let rest = others_stay ns (subst (λ (m : List ℕ). AllByRecursion (Differs m) ns) (sym (same k n e)) d.0) in
            rw e (ap (λ (x : List (List ℕ)). (n, x) ∷ map {B = Poster} (λ n. (n, f n)) ns) here ∙ ap (λ (l : List Poster). (n, g n) ∷ l) rest)
        by more false e = rw e (ap (λ (x : List (List ℕ)). (n, x) ∷ insert_entry bytes_eq (map {B = Poster} (λ n. (n, f n)) ns) k v) (sym (others n e)) ∙ ap (λ (l : List Poster). (n, g n) ∷ l) more)

-- one word more
pub grouped_more : (ws : List ReadWord) (w : ReadWord) → insert_entry bytes_eq (by_poster ws) w.0 (unwrap_or (lookup (bytes_eq w.0) (by_poster ws)) [] ++ with_text w.1 []) ≡ by_poster (ws ++ w ∷ [])
grouped_more ws w =
    let had = found_or_none (λ n. texts_of n ws) w.0 (posters_of ws) (no_texts w.0 ws) in
    let own : texts_of w.0 (ws ++ w ∷ []) ≡ unwrap_or (lookup (bytes_eq w.0) (by_poster ws)) [] ++ with_text w.1 [] =
    texts_more w.0 ws w ∙ ap (λ (b : Bool). texts_of w.0 ws ++ (if b then with_text w.1 [] else [])) (self w.0) ∙ ap (λ (l : List (List ℕ)). l ++ with_text w.1 []) (sym had) in
    let others : (n : List ℕ) → Differs w.0 n → texts_of n (ws ++ w ∷ []) ≡ texts_of n ws =
    λ n d. texts_more n ws w ∙ ap (λ (b : Bool). texts_of n ws ++ (if b then with_text w.1 [] else [])) (turned w.0 n d) ∙ append-nil (texts_of n ws) in
    inserted (λ n. texts_of n ws) w.0 (λ n. texts_of n (ws ++ w ∷ [])) _ own others (posters_of ws) (posters_distinct ws)
    ∙ ap (map {B = Poster} (λ (n : List ℕ). (n, texts_of n (ws ++ w ∷ [])))) (sym (posters_more ws w))

-- a map seen by its values
module _ {K X L Y : Type 0} (name : K → L) (value : X → Y) (eq : L → L → Bool) where
  abbrev pub seen : List (K × X) → List (L × Y)
  seen es = map {B = L × Y} (λ e. (name e.0, value e.1)) es

  pub seen_insert : (es : List (K × X)) (k : K) (v : X) → seen (insert_entry (λ x y. eq (name x) (name y)) es k v) ≡ insert_entry eq (seen es) (name k) (value v)
  seen_insert [] k v = refl
  seen_insert (e ∷ es) k v = by (seen_insert es k v) (eq (name k) (name e.0)) refl
    where
      by : seen (insert_entry (λ x y. eq (name x) (name y)) es k v) ≡ insert_entry eq (seen es) (name k) (value v) → (b : Bool) → eq (name k) (name e.0) ≡ b → seen (insert_entry (λ x y. eq (name x) (name y)) (e ∷ es) k v) ≡ insert_entry eq (seen (e ∷ es)) (name k) (value v)
      by more true h = rw h refl
      by more false h = rw h (ap (λ (l : List (L × Y)). (name e.0, value e.1) ∷ l) more)

  pub seen_lookup : (es : List (K × X)) (k : K) (d : X) → unwrap_or (lookup (eq (name k)) (seen es)) (value d) ≡ value (unwrap_or (lookup (λ x. eq (name k) (name x)) es) d)
  seen_lookup [] k d = refl
  seen_lookup (e ∷ es) k d = by (seen_lookup es k d) (eq (name k) (name e.0)) refl
    where
      by : unwrap_or (lookup (eq (name k)) (seen es)) (value d) ≡ value (unwrap_or (lookup (λ x. eq (name k) (name x)) es) d) → (b : Bool) → eq (name k) (name e.0) ≡ b → unwrap_or (lookup (eq (name k)) (seen (e ∷ es))) (value d) ≡ value (unwrap_or (lookup (λ x. eq (name k) (name x)) (e ∷ es)) d)
      by more true h = rw h refl
      by more false h = rw h more

abbrev text_name : Bor (List ℕ) → List ℕ
text_name name = name.now

abbrev text_items : Vec (Vec ℕ) → List (List ℕ)
text_items texts = items_of texts.items

-- a poster with one text more, if there is one
pub added : (es : List (Bor (List ℕ) × Vec (Vec ℕ))) (k : Bor (List ℕ)) (d v : Vec (Vec ℕ)) (t : Option (List ℕ)) (words : List ReadWord)
    → d.items ≡ [] → items_of v.items ≡ items_of (unwrap_or (lookup (λ x. bytes_eq k.now x.now) es) d).items ++ with_text t [] → held es ≡ by_poster words
    → held (insert_entry (λ x y. bytes_eq x.now y.now) es k v) ≡ by_poster (words ++ (k.now, t) ∷ [])
added es k d v t words none more so_far =
    let had : unwrap_or (lookup (bytes_eq k.now) (held es)) [] ≡ items_of (unwrap_or (lookup (λ x. bytes_eq k.now x.now) es) d).items =
    ap (λ (l : List (Vec ℕ)). unwrap_or (lookup (bytes_eq k.now) (held es)) (items_of l)) (sym none) ∙ seen_lookup text_name text_items bytes_eq es k d in
    let value : items_of v.items ≡ unwrap_or (lookup (bytes_eq k.now) (by_poster words)) [] ++ with_text t [] =
    more ∙ ap (λ (l : List (List ℕ)). l ++ with_text t []) (sym had ∙ ap (λ (l : List Poster). unwrap_or (lookup (bytes_eq k.now) l) []) so_far) in
    seen_insert text_name text_items bytes_eq es k v
    ∙ ap (λ (l : List Poster). insert_entry bytes_eq l k.now (items_of v.items)) so_far
    ∙ ap (insert_entry bytes_eq (by_poster words) k.now) value
    ∙ grouped_more words (k.now, t)

-- words that are read, with one more
module _ (R : List ℕ → List ℕ → Type 0) where
  read_none : (ws : List (Bor (List ℕ) × Bor (List ℕ))) (rs : List ReadWord) (w : Bor (List ℕ) × Bor (List ℕ)) → AreRead R ws rs → w.1.now ≡ [] → AreRead R (ws ++ w ∷ []) (rs ++ (w.0.now, None) ∷ [])
  read_none [] [] w a e = (refl, e, tt)
  read_none [] (r ∷ rs) w a e = absurd a
  read_none (v ∷ ws) [] w a e = absurd a
  read_none (v ∷ ws) ((name, None) ∷ rs) w a e = (a.0, a.1, read_none ws rs w a.2 e)
  read_none (v ∷ ws) ((name, Some text) ∷ rs) w a e = (a.0, a.1, a.2, read_none ws rs w a.3 e)

  read_some : (ws : List (Bor (List ℕ) × Bor (List ℕ))) (rs : List ReadWord) (w : Bor (List ℕ) × Bor (List ℕ)) (t : Vec ℕ) → AreRead R ws rs → 0 < length w.1.now → R w.1.now t.items → AreRead R (ws ++ w ∷ []) (rs ++ (w.0.now, Some t.items) ∷ [])
  read_some [] [] w t a e is = (refl, e, is, tt)
  read_some [] (r ∷ rs) w t a e is = absurd a
  read_some (v ∷ ws) [] w t a e is = absurd a
  read_some (v ∷ ws) ((name, None) ∷ rs) w t a e is = (a.0, a.1, read_some ws rs w t a.2 e is)
  read_some (v ∷ ws) ((name, Some text) ∷ rs) w t a e is = (a.0, a.1, a.2, read_some ws rs w t a.3 e is)

  module _ (words : List (Bor (List ℕ) × Bor (List ℕ))) (i : ℕ) (d : Bor (List ℕ) × Bor (List ℕ)) (within : i < length words) (rs : List ReadWord) (so_far : AreRead R (take i words) rs) where
    pub read_none_at : (get_or words i d).1.now ≡ [] → AreRead R (take (i + 1) words) (rs ++ ((get_or words i d).0.now, None) ∷ [])
    read_none_at e = rw (take_more words i d within) (read_none (take i words) rs (get_or words i d) so_far e)

    pub read_some_at : (t : Vec ℕ) → 0 < length (get_or words i d).1.now → R (get_or words i d).1.now t.items → AreRead R (take (i + 1) words) (rs ++ ((get_or words i d).0.now, Some t.items) ∷ [])
    read_some_at t e is = rw (take_more words i d within) (read_some (take i words) rs (get_or words i d) t so_far e is)
