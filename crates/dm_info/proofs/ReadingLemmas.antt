-- What is read is spelled so, and what is spelled so is read.
use Rattle.std.proofs.Common.{◌≡◌, ℕ, ◌==◌, Bool, true, false, cond, List, [], ◌∷◌, ◌++◌, Result, Ok, Err, refl, sym, ap, subst, ◌∙◌, append_assoc, inl, inr}
use Rattle.std.proofs.lemmas.Bool.{eqb-true, eq-eqb}
use Rattle.std.specs.Prelude.{◌⊎◌}
use Rattle.std.specs.List.{AllByRecursion}
use Rattle.dm_info.specs.declared.fault.InfoReadFault.{InfoReadFault}
use Rattle.dm_info.specs.declared.fault.InfoReadFault.TheVariants.{BadInfo, Inverted}
use Rattle.dm_info.specs.PatchInfo.{PatchInfo, IsInfo, Free, is_newline, ends_author, ends_date}
use Rattle.dm_info.specs.Spelling.{opening, log_text, IsInfoText, Stands, StandsInverted}
use Rattle.dm_info.specs.Reading.{◌>>=◌, Cut, cut, onto, after, star_after, author_at, log_from, new_line, more_line, onto_line, end_at, info_at}
use Rattle.dm_info.proofs.Cuts.{cut_takes, cut_again, byte_is}
use Rattle.dm_info.proofs.LogLemmas.{Lines, log_within, at_line, closed}

-- the value of a step that did not fail
pub bind_ok : {A B : Type 0} (r : Result A InfoReadFault) (f : A → Result B InfoReadFault) (y : B) → (r >>= f) ≡ Ok y → (x : A) × (r ≡ Ok x) × (f x ≡ Ok y)
bind_ok (Ok x) f y e = (x, refl, e)
bind_ok (Err d) f y e = absurd cc

-- which way a test went
pub chosen : {A : Type 0} (b : Bool) (x y z : A) → cond b x y ≡ z → ((b ≡ true) × (x ≡ z)) ⊎ ((b ≡ false) × (y ≡ z))
chosen true x y z e = inl (refl, e)
chosen false x y z e = inr (refl, e)

abbrev pub done : {A : Type 0} → A → Result A InfoReadFault
done x = Ok x

pub ok_is : {A : Type 0} (x y : A) → done x ≡ done y → x ≡ y
ok_is x y e = cc

pub ok_pair : {A B : Type 0} (a c : A) (b d : B) → done {A = A × B} (a, b) ≡ done (c, d) → (a ≡ c) × (b ≡ d)
ok_pair {A} {B} a c b d e = let same : (x : A × B) → (y : A × B) → done x ≡ done y → x ≡ y = ok_is in (ap (λ (p : A × B). p.0) (same (a, b) (c, d) e), ap (λ (p : A × B). p.1) (same (a, b) (c, d) e))

pub after_takes : (b : ℕ) (text rest : List ℕ) → after b text ≡ Ok rest → text ≡ b ∷ rest
unfolding after
after_takes b [] rest e = absurd cc
after_takes b (x ∷ xs) rest e =
    elim (chosen (x == b) (Ok xs) (Err BadInfo) (Ok rest) e) [
      | inl p ↦ let x-is : x ≡ b = eqb-true x b p.0 in let xs-is : xs ≡ rest = cc in λ i. x-is i ∷ xs-is i
      | inr p ↦ absurd cc
    ]

pub after_again : (b : ℕ) (rest : List ℕ) → after b (b ∷ rest) ≡ Ok rest
unfolding after
after_again b rest = let own : (b == b) ≡ true = eq-eqb b b refl in rw own refl

pub star_takes : (text rest : List ℕ) → star_after text ≡ Ok rest → text ≡ 42 ∷ rest
unfolding star_after
star_takes [] rest e = absurd cc
star_takes (x ∷ xs) rest e =
    elim (chosen (x == 42) (Ok xs) (cond (x == 45) (Err Inverted) (Err BadInfo)) (Ok rest) e) [
      | inl p ↦ let x-is : x ≡ 42 = eqb-true x 42 p.0 in let xs-is : xs ≡ rest = cc in λ i. x-is i ∷ xs-is i
      | inr p ↦ elim (chosen (x == 45) (Err Inverted) (Err BadInfo) (Ok rest) p.1) [ inl q ↦ absurd cc | inr q ↦ absurd cc ]
    ]

pub author_takes : (text author rest : List ℕ) → author_at text ≡ Ok (author, rest) → (text ≡ author ++ 42 ∷ 42 ∷ rest) × Free ends_author author
unfolding author_at
author_takes text author rest e =
    let a = bind_ok (cut ends_author text) (λ c. cond (c.byte == 42) (star_after c.rest) (Err BadInfo) >>= λ r. Ok (c.front, r)) (author, rest) e in
    let b = bind_ok (cond (a.0.byte == 42) (star_after a.0.rest) (Err BadInfo)) (λ r. Ok (a.0.front, r)) (author, rest) a.2 in
    let is = cut_takes ends_author text a.0 a.1 in
    elim (chosen (a.0.byte == 42) (star_after a.0.rest) (Err BadInfo) (Ok b.0) b.1) [
      | inl p ↦
          let byte : a.0.byte ≡ 42 = eqb-true a.0.byte 42 p.0 in
          let star : a.0.rest ≡ 42 ∷ b.0 = star_takes a.0.rest b.0 p.1 in
          let same = ok_pair a.0.front author b.0 rest b.2 in
          let front : a.0.front ≡ author = same.0 in
          let last : b.0 ≡ rest = same.1 in
          (is.parts ∙ (λ i. front i ++ byte i ∷ (star ∙ ap (λ (l : List ℕ). 42 ∷ l) last) i), subst (Free ends_author) front is.free)
      | inr p ↦ absurd cc
    ]

pub author_again : (author rest : List ℕ) → Free ends_author author → author_at (author ++ 42 ∷ 42 ∷ rest) ≡ Ok (author, rest)
unfolding author_at star_after
author_again author rest free = rw (cut_again ends_author author 42 (42 ∷ rest) free refl) refl

-- from the start of a line, or from within one
abbrev pub Spelled : Bool → List ℕ → List (List ℕ) → List ℕ → Type 0
Spelled false xs lines rest = (xs ≡ log_text lines ++ rest) × AllByRecursion (Free is_newline) lines
Spelled true xs [] rest = ⊥
Spelled true xs (line ∷ lines) rest = (xs ≡ line ++ 10 ∷ (log_text lines ++ rest)) × AllByRecursion (Free is_newline) (line ∷ lines)

log_none : (within : Bool) (lines : List (List ℕ)) (rest : List ℕ) → log_from within [] ≡ Ok (lines, rest) → ⊥
unfolding log_from
log_none true lines rest e = cc
log_none false lines rest e = cc

-- a line that ends here
ended : (xs : List ℕ) (r : Lines) (lines : List (List ℕ)) (rest : List ℕ) → new_line r ≡ Ok (lines, rest)
    → ((ls : List (List ℕ)) (t : List ℕ) → r ≡ Ok (ls, t) → Spelled false xs ls t) → Spelled true (10 ∷ xs) lines rest
ended xs (Err f) lines rest e h = absurd cc
ended xs (Ok x) lines rest e h =
    let same = ok_pair ([] ∷ x.0) lines x.1 rest e in
    let m = h x.0 x.1 refl in
    let whole : Spelled true (10 ∷ xs) ([] ∷ x.0) x.1 = (ap (λ (l : List ℕ). 10 ∷ l) m.0, (tt, m.1)) in
    subst (λ (p : List (List ℕ) × List ℕ). Spelled true (10 ∷ xs) p.0 p.1) (ok_is (([] ∷ x.0), x.1) (lines, rest) e) whole

-- a byte within a line
longer : (b : ℕ) (xs : List ℕ) (lines : List (List ℕ)) (rest : List ℕ) → is_newline b ≡ false → Spelled true xs lines rest → Spelled true (b ∷ xs) (onto_line b lines) rest
longer b xs [] rest other h = absurd h
longer b xs (line ∷ lines) rest other h = (ap (λ (l : List ℕ). b ∷ l) h.0, ((other, h.1.0), h.1.1))

within_line : (b : ℕ) (xs : List ℕ) (r : Lines) (lines : List (List ℕ)) (rest : List ℕ) → is_newline b ≡ false → more_line b r ≡ Ok (lines, rest)
    → ((ls : List (List ℕ)) (t : List ℕ) → r ≡ Ok (ls, t) → Spelled true xs ls t) → Spelled true (b ∷ xs) lines rest
within_line b xs (Err f) lines rest other e h = absurd cc
within_line b xs (Ok x) lines rest other e h =
    subst (λ (p : List (List ℕ) × List ℕ). Spelled true (b ∷ xs) p.0 p.1) (ok_is (onto_line b x.0, x.1) (lines, rest) e) (longer b xs x.0 x.1 other (h x.0 x.1 refl))

begun : (xs : List ℕ) (lines : List (List ℕ)) (rest : List ℕ) → Spelled true xs lines rest → Spelled false (32 ∷ xs) lines rest
begun xs [] rest h = absurd h
begun xs (line ∷ lines) rest h = (ap (λ (l : List ℕ). 32 ∷ l) (h.0 ∙ simp append_assoc), h.1)

pub log_takes : (within : Bool) (xs : List ℕ) (lines : List (List ℕ)) (rest : List ℕ) → log_from within xs ≡ Ok (lines, rest) → Spelled within xs lines rest
unfolding log_from
log_takes within [] lines rest e = absurd (log_none within lines rest e)
log_takes false (b ∷ xs) lines rest e =
    elim (chosen (b == 93) (Ok ([], xs)) (cond (b == 32) (log_from true xs) (Err BadInfo)) (Ok (lines, rest)) e) [
      | inl p ↦ subst (λ (q : List (List ℕ) × List ℕ). Spelled false (b ∷ xs) q.0 q.1) (ok_is ([], xs) (lines, rest) p.1) (ap (λ (y : ℕ). y ∷ xs) (eqb-true b 93 p.0), tt)
      | inr p ↦ elim (chosen (b == 32) (log_from true xs) (Err BadInfo) (Ok (lines, rest)) p.1) [
        | inl q ↦ subst (λ (y : ℕ). Spelled false (y ∷ xs) lines rest) (sym (eqb-true b 32 q.0)) (begun xs lines rest (log_takes true xs lines rest q.1))
        | inr q ↦ absurd cc
      ]
    ]
log_takes true (b ∷ xs) lines rest e =
    elim (chosen (b == 10) (new_line (log_from false xs)) (more_line b (log_from true xs)) (Ok (lines, rest)) e) [
      | inl p ↦ subst (λ (y : ℕ). Spelled true (y ∷ xs) lines rest) (sym (eqb-true b 10 p.0)) (ended xs (log_from false xs) lines rest p.1 (log_takes false xs))
      | inr p ↦ within_line b xs (log_from true xs) lines rest p.0 p.1 (log_takes true xs)
    ]

pub log_again : (lines : List (List ℕ)) (rest : List ℕ) → AllByRecursion (Free is_newline) lines → log_from false (log_text lines ++ rest) ≡ Ok (lines, rest)
log_again [] rest free = closed rest
log_again (line ∷ lines) rest free =
    let regrouped : (line ++ 10 ∷ log_text lines) ++ rest ≡ line ++ 10 ∷ (log_text lines ++ rest) = simp append_assoc in
    rw (regrouped, at_line (line ++ 10 ∷ (log_text lines ++ rest)), log_within (line ++ 10 ∷ (log_text lines ++ rest)), cut_again is_newline line 10 (log_text lines ++ rest) free.0 refl, log_again lines rest free.1) refl

k₄ : Cut → List ℕ × List ℕ → Cut → List (List ℕ) × List ℕ → Result (PatchInfo × List ℕ) InfoReadFault
k₄ name author date log = Ok (record { name = name.front; author = author.0; date = date.front; log = log.0 }, log.1)

k₃ : Cut → List ℕ × List ℕ → Cut → Result (PatchInfo × List ℕ) InfoReadFault
k₃ name author date = end_at date >>= k₄ name author date

k₂ : Cut → List ℕ × List ℕ → Result (PatchInfo × List ℕ) InfoReadFault
k₂ name author = cut ends_date author.1 >>= k₃ name author

k₁ : Cut → Result (PatchInfo × List ℕ) InfoReadFault
k₁ name = author_at name.rest >>= k₂ name

k₀ : List ℕ → Result (PatchInfo × List ℕ) InfoReadFault
k₀ inside = cut is_newline inside >>= k₁

-- the text up to the date
front_is : (text inside : List ℕ) (name : Cut) (author rest : List ℕ) → text ≡ 91 ∷ inside → inside ≡ name.front ++ name.byte ∷ name.rest → name.byte ≡ 10 → name.rest ≡ author ++ 42 ∷ 42 ∷ rest
    → text ≡ 91 ∷ (name.front ++ 10 ∷ (author ++ 42 ∷ 42 ∷ rest))
front_is text inside name author rest e₁ e₂ e₃ e₄ = rw (e₁, e₂, e₃, e₄) refl

-- what follows the date
record IsEnd (date : Cut) (log : List (List ℕ)) (rest : List ℕ) : Type 0 where
  own : List ℕ
  spelled : (own ≡ 10 ∷ log_text log) ⊎ ((log ≡ []) × (own ≡ 93 ∷ []))
  free : AllByRecursion (Free is_newline) log
  parts : date.byte ∷ date.rest ≡ own ++ rest

end_takes : (date : Cut) (log : List (List ℕ)) (rest : List ℕ) → ends_date date.byte ≡ true → end_at date ≡ Ok (log, rest) → IsEnd date log rest
unfolding end_at
end_takes date log rest stops e =
    elim (chosen (date.byte == 93) (Ok ([], date.rest)) (log_from false date.rest) (Ok (log, rest)) e) [
      | inl p ↦
          subst (λ (q : List (List ℕ) × List ℕ). IsEnd date q.0 q.1) (ok_is ([], date.rest) (log, rest) p.1)
          (record { own = 93 ∷ []; spelled = inr (refl, refl); free = tt; parts = ap (λ (b : ℕ). b ∷ date.rest) (eqb-true date.byte 93 p.0) })
      | inr p ↦
          let newline : (date.byte == 10) ≡ true = rw p.0 at stops in
          let m = log_takes false date.rest log rest p.1 in
          record { own = 10 ∷ log_text log; spelled = inl refl; free = m.1; parts = (let b = eqb-true date.byte 10 newline in λ i. b i ∷ m.0 i) }
    ]

spelled_by : (i : PatchInfo) (own : List ℕ) → (own ≡ 10 ∷ log_text i.log) ⊎ ((i.log ≡ []) × (own ≡ 93 ∷ [])) → IsInfoText (opening i ++ own) i
spelled_by i own s = elim s [ inl e ↦ inl (ap (λ (l : List ℕ). opening i ++ l) e) | inr e ↦ inr (e.0, ap (λ (l : List ℕ). opening i ++ l) e.1) ]

whole_is : (i : PatchInfo) (rest own : List ℕ) (text : List ℕ) → text ≡ 91 ∷ (i.name ++ 10 ∷ (i.author ++ 42 ∷ 42 ∷ (i.date ++ (own ++ rest)))) → text ≡ (opening i ++ own) ++ rest
whole_is i rest own text e = e ∙ simp append_assoc

-- what the steps of a reader find is the text of a patch info
stands_by : (text inside : List ℕ) (name : Cut) (author after_author : List ℕ) (date : Cut) (log : List (List ℕ)) (rest : List ℕ)
    → after 91 text ≡ Ok inside → cut is_newline inside ≡ Ok name → author_at name.rest ≡ Ok (author, after_author) → cut ends_date after_author ≡ Ok date
    → end_at date ≡ Ok (log, rest) → Stands text (record { name = name.front; author = author; date = date.front; log = log }) rest
stands_by text inside name author after_author date log rest e₀ e₁ e₂ e₃ e₄ =
    let n = cut_takes is_newline inside name e₁ in
    let a = author_takes name.rest author after_author e₂ in
    let d = cut_takes ends_date after_author date e₃ in
    let end = end_takes date log rest d.stops e₄ in
    let found : PatchInfo = record { name = name.front; author = author; date = date.front; log = log } in
    let start : text ≡ 91 ∷ (name.front ++ 10 ∷ (author ++ 42 ∷ 42 ∷ after_author)) = front_is text inside name author after_author (after_takes 91 text inside e₀) n.parts (byte_is name.byte 10 n.stops) a.0 in
    let tail : after_author ≡ date.front ++ (end.own ++ rest) = d.parts ∙ ap (λ (l : List ℕ). date.front ++ l) end.parts in
    record {
      own = opening found ++ end.own;
      valid = record { name = n.free; author = a.1; date = d.free; log = end.free };
      spelled = spelled_by found end.own end.spelled;
      parts = whole_is found rest end.own text (start ∙ ap (λ (l : List ℕ). 91 ∷ (name.front ++ 10 ∷ (author ++ 42 ∷ 42 ∷ l))) tail);
    }

-- the last step of a reader
ended_by : (text inside : List ℕ) (name : Cut) (author after_author : List ℕ) (date : Cut) (i : PatchInfo) (rest : List ℕ)
    → after 91 text ≡ Ok inside → cut is_newline inside ≡ Ok name → author_at name.rest ≡ Ok (author, after_author) → cut ends_date after_author ≡ Ok date
    → (end_at date >>= k₄ name (author, after_author) date) ≡ Ok (i, rest) → Stands text i rest
unfolding k₄
ended_by text inside name author after_author date i rest e₀ e₁ e₂ e₃ e =
    let b = bind_ok (end_at date) (k₄ name (author, after_author) date) (i, rest) e in
    let found : PatchInfo = record { name = name.front; author = author; date = date.front; log = b.0.0 } in
    subst (λ (q : PatchInfo × List ℕ). Stands text q.0 q.1) (ok_is (found, b.0.1) (i, rest) b.2)
    (stands_by text inside name author after_author date b.0.0 b.0.1 e₀ e₁ e₂ e₃ b.1)

pub info_takes : (text : List ℕ) (i : PatchInfo) (rest : List ℕ) → info_at text ≡ Ok (i, rest) → Stands text i rest
unfolding info_at k₀ k₁ k₂ k₃ k₄
info_takes text i rest e =
    let b₀ = bind_ok (after 91 text) k₀ (i, rest) e in
    let b₁ = bind_ok (cut is_newline b₀.0) k₁ (i, rest) b₀.2 in
    let b₂ = bind_ok (author_at b₁.0.rest) (k₂ b₁.0) (i, rest) b₁.2 in
    let b₃ = bind_ok (cut ends_date b₂.0.1) (k₃ b₁.0 b₂.0) (i, rest) b₂.2 in
    ended_by text b₀.0 b₁.0 b₂.0.0 b₂.0.1 b₃.0 i rest b₀.1 b₁.1 b₂.1 b₃.1 b₃.2

-- the steps of a reader put together
pub of_steps : (text inside name after_name author after_author date : List ℕ) (mark : ℕ) (after_date : List ℕ) (log : List (List ℕ)) (rest : List ℕ)
    → after 91 text ≡ Ok inside → cut is_newline inside ≡ Ok (record { front = name; byte = 10; rest = after_name }) → author_at after_name ≡ Ok (author, after_author)
    → cut ends_date after_author ≡ Ok (record { front = date; byte = mark; rest = after_date }) → end_at (record { front = date; byte = mark; rest = after_date }) ≡ Ok (log, rest)
    → info_at text ≡ Ok (record { name = name; author = author; date = date; log = log }, rest)
unfolding info_at
of_steps text inside name after_name author after_author date mark after_date log rest e₀ e₁ e₂ e₃ e₄ = rw (e₀, e₁, e₂, e₃, e₄) refl

-- the first steps, which only the opening fixes
opened : (i : PatchInfo) (tail : List ℕ) → IsInfo i → info_at (opening i ++ tail) ≡ (cut ends_date (i.date ++ tail) >>= k₃ (record { front = i.name; byte = 10; rest = i.author ++ 42 ∷ 42 ∷ (i.date ++ tail) }) (i.author, i.date ++ tail))
unfolding info_at k₀ k₁ k₂ k₃ k₄
opened i tail valid =
    let regrouped : opening i ++ tail ≡ 91 ∷ (i.name ++ 10 ∷ (i.author ++ 42 ∷ 42 ∷ (i.date ++ tail))) = simp append_assoc in
    rw (regrouped, after_again 91 (i.name ++ 10 ∷ (i.author ++ 42 ∷ 42 ∷ (i.date ++ tail))), cut_again is_newline i.name 10 (i.author ++ 42 ∷ 42 ∷ (i.date ++ tail)) valid.name refl, author_again i.author (i.date ++ tail) valid.author) refl

long_again : (i : PatchInfo) (rest : List ℕ) → IsInfo i → info_at (opening i ++ (10 ∷ (log_text i.log ++ rest))) ≡ Ok (i, rest)
unfolding info_at k₃ k₄ end_at
long_again i rest valid = rw (opened i (10 ∷ (log_text i.log ++ rest)) valid, cut_again ends_date i.date 10 (log_text i.log ++ rest) valid.date refl, log_again i.log rest valid.log) refl

short_again : (i : PatchInfo) (rest : List ℕ) → IsInfo i → i.log ≡ [] → info_at (opening i ++ (93 ∷ rest)) ≡ Ok (i, rest)
unfolding info_at k₃ k₄ end_at
short_again i rest valid none = rw (opened i (93 ∷ rest) valid, cut_again ends_date i.date 93 rest valid.date refl, ← none) refl

pub info_again : (text : List ℕ) (i : PatchInfo) (rest : List ℕ) → Stands text i rest → info_at text ≡ Ok (i, rest)
info_again text i rest s =
    elim s.spelled [
      | inl e ↦
          let regrouped : text ≡ opening i ++ (10 ∷ (log_text i.log ++ rest)) = s.parts ∙ ap (λ (o : List ℕ). o ++ rest) e ∙ append_assoc (opening i) (10 ∷ log_text i.log) rest in
          rw regrouped (long_again i rest s.valid)
      | inr e ↦
          let regrouped : text ≡ opening i ++ (93 ∷ rest) = s.parts ∙ ap (λ (o : List ℕ). o ++ rest) e.1 ∙ append_assoc (opening i) (93 ∷ []) rest in
          rw regrouped (short_again i rest s.valid e.0)
    ]

pub bind_err : {A B : Type 0} (r : Result A InfoReadFault) (f : A → Result B InfoReadFault) (d : InfoReadFault) → (r >>= f) ≡ Err d → (r ≡ Err d) ⊎ ((x : A) × (r ≡ Ok x) × (f x ≡ Err d))
bind_err (Ok x) f d e = inr (x, refl, e)
bind_err (Err c) f d e = let same : c ≡ d = cc in inl (λ i. Err (same i))

onto_fails : (x : ℕ) (r : Result Cut InfoReadFault) → (r ≡ Err Inverted → ⊥) → onto x r ≡ Err Inverted → ⊥
onto_fails x (Ok c) h e = cc
onto_fails x (Err d) h e = let same : d ≡ Inverted = cc in h (λ i. Err (same i))

cut_fails : (test : ℕ → Bool) (xs : List ℕ) → cut test xs ≡ Err Inverted → ⊥
unfolding cut
cut_fails test [] e = cc
cut_fails test (x ∷ xs) e = elim (chosen (test x) (Ok (record { front = []; byte = x; rest = xs })) (onto x (cut test xs)) (Err Inverted) e) [ inl p ↦ cc | inr p ↦ onto_fails x (cut test xs) (cut_fails test xs) p.1 ]

after_fails : (b : ℕ) (xs : List ℕ) → after b xs ≡ Err Inverted → ⊥
unfolding after
after_fails b [] e = cc
after_fails b (x ∷ xs) e = elim (chosen (x == b) (Ok xs) (Err BadInfo) (Err Inverted) e) [ inl p ↦ cc | inr p ↦ cc ]

new_line_fails : (r : Lines) → (r ≡ Err Inverted → ⊥) → new_line r ≡ Err Inverted → ⊥
new_line_fails (Ok x) h e = cc
new_line_fails (Err d) h e = h e

more_line_fails : (b : ℕ) (r : Lines) → (r ≡ Err Inverted → ⊥) → more_line b r ≡ Err Inverted → ⊥
more_line_fails b (Ok x) h e = cc
more_line_fails b (Err d) h e = let same : d ≡ Inverted = cc in h (λ i. Err (same i))

log_fails : (within : Bool) (xs : List ℕ) → log_from within xs ≡ Err Inverted → ⊥
unfolding log_from
log_fails true [] e = cc
log_fails false [] e = cc
log_fails false (b ∷ xs) e =
    elim (chosen (b == 93) (Ok ([], xs)) (cond (b == 32) (log_from true xs) (Err BadInfo)) (Err Inverted) e) [
      | inl p ↦ cc
      | inr p ↦ elim (chosen (b == 32) (log_from true xs) (Err BadInfo) (Err Inverted) p.1) [ inl q ↦ log_fails true xs q.1 | inr q ↦ cc ]
    ]
log_fails true (b ∷ xs) e =
    elim (chosen (b == 10) (new_line (log_from false xs)) (more_line b (log_from true xs)) (Err Inverted) e) [
      | inl p ↦ new_line_fails (log_from false xs) (log_fails false xs) p.1
      | inr p ↦ more_line_fails b (log_from true xs) (log_fails true xs) p.1
    ]

end_fails : (date : Cut) → end_at date ≡ Err Inverted → ⊥
unfolding end_at
end_fails date e = elim (chosen (date.byte == 93) (Ok ([], date.rest)) (log_from false date.rest) (Err Inverted) e) [ inl p ↦ cc | inr p ↦ log_fails false date.rest p.1 ]

star_fails : (text : List ℕ) → star_after text ≡ Err Inverted → (rest : List ℕ) × (text ≡ 45 ∷ rest)
unfolding star_after
star_fails [] e = absurd cc
star_fails (x ∷ xs) e =
    elim (chosen (x == 42) (Ok xs) (cond (x == 45) (Err Inverted) (Err BadInfo)) (Err Inverted) e) [
      | inl p ↦ absurd cc
      | inr p ↦ elim (chosen (x == 45) (Err Inverted) (Err BadInfo) (Err Inverted) p.1) [ inl q ↦ (xs, ap (λ (b : ℕ). b ∷ xs) (eqb-true x 45 q.0)) | inr q ↦ absurd cc ]
    ]

author_fails : (text : List ℕ) → author_at text ≡ Err Inverted → (author : List ℕ) × (rest : List ℕ) × (text ≡ author ++ 42 ∷ 45 ∷ rest) × Free ends_author author
unfolding author_at
author_fails text e =
    elim (bind_err (cut ends_author text) (λ c. cond (c.byte == 42) (star_after c.rest) (Err BadInfo) >>= λ r. Ok (c.front, r)) Inverted e) [
      | inl p ↦ absurd (cut_fails ends_author text p)
      | inr p ↦
          let is = cut_takes ends_author text p.0 p.1 in
          elim (bind_err (cond (p.0.byte == 42) (star_after p.0.rest) (Err BadInfo)) (λ r. Ok (p.0.front, r)) Inverted p.2) [
            | inl q ↦ elim (chosen (p.0.byte == 42) (star_after p.0.rest) (Err BadInfo) (Err Inverted) q) [
              | inl t ↦
                  let star = star_fails p.0.rest t.1 in
                  let byte : p.0.byte ≡ 42 = eqb-true p.0.byte 42 t.0 in
                  (p.0.front, star.0, is.parts ∙ (λ i. p.0.front ++ byte i ∷ star.1 i), is.free)
              | inr t ↦ absurd cc
            ]
            | inr q ↦ absurd cc
          ]
    ]

start_is : (text inside : List ℕ) (name : Cut) (tail : List ℕ) → text ≡ 91 ∷ inside → inside ≡ name.front ++ name.byte ∷ name.rest → name.byte ≡ 10 → name.rest ≡ tail → text ≡ 91 ∷ (name.front ++ 10 ∷ tail)
start_is text inside name tail e₁ e₂ e₃ e₄ = rw (e₁, e₂, e₃, e₄) refl

pub inverted_takes : (text : List ℕ) → info_at text ≡ Err Inverted → StandsInverted text
unfolding info_at k₀ k₁ k₂ k₃ k₄
inverted_takes text e =
    elim (bind_err (after 91 text) k₀ Inverted e) [
      | inl p ↦ absurd (after_fails 91 text p)
      | inr p ↦ elim (bind_err (cut is_newline p.0) k₁ Inverted p.2) [
        | inl q ↦ absurd (cut_fails is_newline p.0 q)
        | inr q ↦ elim (bind_err (author_at q.0.rest) (k₂ q.0) Inverted q.2) [
          | inl r ↦
              let name = cut_takes is_newline p.0 q.0 q.1 in
              let author = author_fails q.0.rest r in
              record {
                name = q.0.front;
                author = author.0;
                rest = author.1;
                name_free = name.free;
                author_free = author.3;
                parts = start_is text p.0 q.0 (author.0 ++ 42 ∷ 45 ∷ author.1) (after_takes 91 text p.0 p.1) name.parts (byte_is q.0.byte 10 name.stops) author.2;
              }
          | inr r ↦ elim (bind_err (cut ends_date r.0.1) (k₃ q.0 r.0) Inverted r.2) [
            | inl s ↦ absurd (cut_fails ends_date r.0.1 s)
            | inr s ↦ elim (bind_err (end_at s.0) (k₄ q.0 r.0 s.0) Inverted s.2) [ inl t ↦ absurd (end_fails s.0 t) | inr t ↦ absurd cc ]
          ]
        ]
      ]
    ]

author_turned : (author rest : List ℕ) → Free ends_author author → author_at (author ++ 42 ∷ 45 ∷ rest) ≡ Err Inverted
unfolding author_at star_after
author_turned author rest free = rw (cut_again ends_author author 42 (45 ∷ rest) free refl) refl

pub inverted_again : (text : List ℕ) → StandsInverted text → info_at text ≡ Err Inverted
unfolding info_at
inverted_again text s = rw (s.parts, after_again 91 (s.name ++ 10 ∷ (s.author ++ 42 ∷ 45 ∷ s.rest)), cut_again is_newline s.name 10 (s.author ++ 42 ∷ 45 ∷ s.rest) s.name_free refl, author_turned s.author s.rest s.author_free) refl
