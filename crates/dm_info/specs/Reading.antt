-- Reading a patch info from the front of a text step by step, for the clauses of private functions alone. Callers rely on `Spelling`.
use Rattle.std.specs.Prelude.{◌≡◌, ℕ, Bool, true, false, ◌==◌, List, [], ◌∷◌, Result, Ok, Err, if◌then◌else◌}
use Rattle.dm_info.specs.PatchInfo.{PatchInfo, is_newline, ends_author, ends_date}
use Rattle.dm_info.specs.declared.fault.InfoReadFault.{InfoReadFault}
use Rattle.dm_info.specs.declared.fault.InfoReadFault.TheVariants.{BadInfo, Inverted, NoMemory}

infixl 10 ◌>>=◌
abbrev pub ◌>>=◌ : {A B : Type 0} → Result A InfoReadFault → (A → Result B InfoReadFault) → Result B InfoReadFault
(Ok x) >>= f = f x
(Err e) >>= f = Err e

-- What a function returned, seen by view, is what reading gives, unless memory ran out.
abbrev pub Fails : {Y : Type 0} → InfoReadFault → Result Y InfoReadFault → Type 0
Fails NoMemory read = Unit {0}
Fails BadInfo read = read ≡ Err BadInfo
Fails Inverted read = read ≡ Err Inverted

abbrev pub Gives : {X Y : Type 0} → (X → Y) → Result X InfoReadFault → Result Y InfoReadFault → Type 0
Gives view (Ok x) read = read ≡ Ok (view x)
Gives view (Err e) read = Fails e read

-- the text doesn't begin with this byte
abbrev pub Lacks : ℕ → List ℕ → Type 0
Lacks b text = (rest : List ℕ) → text ≡ b ∷ rest → ⊥

-- what stands before the first byte that passes, that byte, and what stands after it
pub record Cut : Type 0 where
  pub front : List ℕ
  pub byte : ℕ
  pub rest : List ℕ

abbrev pub onto : ℕ → Result Cut InfoReadFault → Result Cut InfoReadFault
onto x (Ok c) = Ok (record { front = x ∷ c.front; byte = c.byte; rest = c.rest })
onto x (Err e) = Err e

unfoldable pub cut : (ℕ → Bool) → List ℕ → Result Cut InfoReadFault
cut test [] = Err BadInfo
cut test (x ∷ xs) = if test x then Ok (record { front = []; byte = x; rest = xs }) else onto x (cut test xs)

-- this byte, and what stands after it
unfoldable pub after : ℕ → List ℕ → Result (List ℕ) InfoReadFault
after b [] = Err BadInfo
after b (x ∷ xs) = if x == b then Ok xs else Err BadInfo

-- two stars, of which the first was read
unfoldable pub star_after : List ℕ → Result (List ℕ) InfoReadFault
star_after [] = Err BadInfo
star_after (x ∷ xs) = if x == 42 then Ok xs else if x == 45 then Err Inverted else Err BadInfo

unfoldable pub author_at : List ℕ → Result (List ℕ × List ℕ) InfoReadFault
author_at text = do
  c ← cut ends_author text
  rest ← if c.byte == 42 then star_after c.rest else Err BadInfo
  Ok (c.front, rest)

abbrev pub new_line : Result (List (List ℕ) × List ℕ) InfoReadFault → Result (List (List ℕ) × List ℕ) InfoReadFault
new_line (Ok x) = Ok ([] ∷ x.0, x.1)
new_line (Err e) = Err e

abbrev pub onto_line : ℕ → List (List ℕ) → List (List ℕ)
onto_line b [] = (b ∷ []) ∷ []
onto_line b (l ∷ ls) = (b ∷ l) ∷ ls

abbrev pub more_line : ℕ → Result (List (List ℕ) × List ℕ) InfoReadFault → Result (List (List ℕ) × List ℕ) InfoReadFault
more_line b (Ok x) = Ok (onto_line b x.0, x.1)
more_line b (Err e) = Err e

-- the log's lines from the start of one, or from within one
unfoldable pub log_from : Bool → List ℕ → Result (List (List ℕ) × List ℕ) InfoReadFault
log_from within [] = Err BadInfo
log_from false (b ∷ xs) = if b == 93 then Ok ([], xs) else if b == 32 then log_from true xs else Err BadInfo
log_from true (b ∷ xs) = if b == 10 then new_line (log_from false xs) else more_line b (log_from true xs)

unfoldable pub end_at : Cut → Result (List (List ℕ) × List ℕ) InfoReadFault
end_at c = if c.byte == 93 then Ok ([], c.rest) else log_from false c.rest

unfoldable pub info_at : List ℕ → Result (PatchInfo × List ℕ) InfoReadFault
info_at text = do
  inside ← after 91 text
  name ← cut is_newline inside
  author ← author_at name.rest
  date ← cut ends_date author.1
  log ← end_at date
  Ok (record { name = name.front; author = author.0; date = date.front; log = log.0 }, log.1)
