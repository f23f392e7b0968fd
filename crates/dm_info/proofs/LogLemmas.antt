-- Reading a log line by line, as a loop does.
use Rattle.std.proofs.Common.{◌≡◌, ℕ, ◌==◌, ◌<◌, Bool, true, false, cond, List, [], ◌∷◌, ◌++◌, length, Result, Ok, Err, refl, sym, ap, ◌∙◌, append_assoc, arith}
use Rattle.std.proofs.lemmas.List.{append-nil, length-append}
use Rattle.dm_info.specs.declared.fault.InfoReadFault.{InfoReadFault}
use Rattle.dm_info.specs.declared.fault.InfoReadFault.TheVariants.{BadInfo, Inverted, NoMemory}
use Rattle.dm_info.specs.PatchInfo.{is_newline}
use Rattle.dm_info.specs.Reading.{◌>>=◌, Fails, Lacks, Cut, cut, onto, log_from, new_line, more_line}
use Rattle.dm_info.proofs.Cuts.{cut_takes, false_is}
use Rattle.std.proofs.lemmas.Bool.{eqb-true}

abbrev pub Lines : Type 0
Lines = Result (List (List ℕ) × List ℕ) InfoReadFault

-- a line, and then the lines that are read after it
abbrev pub with_line : List ℕ → Lines → Lines
with_line line read = read >>= λ x. Ok (line ∷ x.0, x.1)

-- what was read before, and what is still read
abbrev pub with_front : List (List ℕ) → Lines → Lines
with_front front read = read >>= λ x. Ok (front ++ x.0, x.1)

new_line-with : (r : Lines) → new_line r ≡ with_line [] r
new_line-with (Ok x) = refl
new_line-with (Err e) = refl

more_line-with : (b : ℕ) (line : List ℕ) (r : Lines) → more_line b (with_line line r) ≡ with_line (b ∷ line) r
more_line-with b line (Ok x) = refl
more_line-with b line (Err e) = refl

more-cut : (b : ℕ) (c : Result Cut InfoReadFault) → more_line b (c >>= λ c. with_line c.front (log_from false c.rest)) ≡ (onto b c >>= λ c. with_line c.front (log_from false c.rest))
more-cut b (Ok c) = more_line-with b c.front (log_from false c.rest)
more-cut b (Err e) = refl

step : (b : ℕ) (xs : List ℕ) (t : Bool) → log_from true xs ≡ (cut is_newline xs >>= λ c. with_line c.front (log_from false c.rest))
    → cond t (new_line (log_from false xs)) (more_line b (log_from true xs)) ≡ (cond t (Ok (record { front = []; byte = b; rest = xs })) (onto b (cut is_newline xs)) >>= λ c. with_line c.front (log_from false c.rest))
step b xs true h = new_line-with (log_from false xs)
step b xs false h = ap (more_line b) h ∙ more-cut b (cut is_newline xs)

-- from within a line: the line up to its newline, and then the lines after it
pub log_within : (xs : List ℕ) → log_from true xs ≡ (cut is_newline xs >>= λ c. with_line c.front (log_from false c.rest))
unfolding cut log_from
log_within [] = refl
log_within (b ∷ xs) = step b xs (b == 10) (log_within xs)

regroup : (front : List (List ℕ)) (line : List ℕ) (read : Lines) → with_front front (with_line line read) ≡ with_front (front ++ line ∷ []) read
regroup front line (Ok x) = ap (λ (ls : List (List ℕ)). Ok (ls, x.1)) (simp append_assoc)
regroup front line (Err e) = refl

pub at_line : (xs : List ℕ) → log_from false (32 ∷ xs) ≡ log_from true xs
unfolding log_from
at_line xs = refl

pub goes_on : (front : List (List ℕ)) (rest inside : List ℕ) (c : Cut) (total : Lines) → rest ≡ 32 ∷ inside → cut is_newline inside ≡ Ok c
    → with_front front (log_from false rest) ≡ total → with_front (front ++ c.front ∷ []) (log_from false c.rest) ≡ total
goes_on front rest inside c total begins is so_far =
    let one : with_front front (log_from false rest) ≡ with_front (front ++ c.front ∷ []) (log_from false c.rest) = rw (begins, at_line inside, log_within inside, is) (regroup front c.front (log_from false c.rest)) in
    sym one ∙ so_far

stops : (e : InfoReadFault) (front : List (List ℕ)) (rest inside : List ℕ) (total : Lines) → rest ≡ 32 ∷ inside → cut is_newline inside ≡ Err e → with_front front (log_from false rest) ≡ total → total ≡ Err e
stops e front rest inside total begins is so_far = let one : with_front front (log_from false rest) ≡ Err e = rw (begins, at_line inside, log_within inside, is) refl in sym so_far ∙ one

pub ends : (e : InfoReadFault) (front : List (List ℕ)) (rest inside : List ℕ) (total : Lines) → rest ≡ 32 ∷ inside → Fails e (cut is_newline inside)
    → with_front front (log_from false rest) ≡ total → Fails e total
ends NoMemory front rest inside total begins f so_far = tt
ends BadInfo front rest inside total begins f so_far = stops BadInfo front rest inside total begins f so_far
ends Inverted front rest inside total begins f so_far = stops Inverted front rest inside total begins f so_far

pub closed : (next : List ℕ) → log_from false (93 ∷ next) ≡ Ok ([], next)
unfolding log_from
closed next = refl

pub closes : (front : List (List ℕ)) (rest next : List ℕ) (total : Lines) → rest ≡ 93 ∷ next → with_front front (log_from false rest) ≡ total → total ≡ Ok (front, next)
closes front rest next total begins so_far =
    let one : with_front front (log_from false rest) ≡ Ok (front, next) = rw (begins, closed next) (ap (λ (ls : List (List ℕ)). Ok (ls, next)) (append-nil front)) in
    sym so_far ∙ one

-- the rest is shorter
pub shorter : (inside : List ℕ) (c : Cut) → cut is_newline inside ≡ Ok c → length c.rest < length inside
shorter inside c is = let t = cut_takes is_newline inside c is in omega (arith, length-append c.front (c.byte ∷ c.rest), ap length t.parts)

test_false : (b x : ℕ) (xs : List ℕ) → Lacks b (x ∷ xs) → (x == b) ≡ false
test_false b x xs h = false_is (x == b) (λ e. h xs (ap (λ (y : ℕ). y ∷ xs) (eqb-true x b e)))

pub neither : (xs : List ℕ) → Lacks 32 xs → Lacks 93 xs → log_from false xs ≡ Err BadInfo
unfolding log_from
neither [] space bracket = refl
neither (x ∷ xs) space bracket = rw (test_false 93 x xs bracket, test_false 32 x xs space) refl

pub fails : (front : List (List ℕ)) (rest : List ℕ) (total : Lines) → Lacks 32 rest → Lacks 93 rest → with_front front (log_from false rest) ≡ total → total ≡ Err BadInfo
fails front rest total space bracket so_far = let one : with_front front (log_from false rest) ≡ Err BadInfo = rw (neither rest space bracket) refl in sym so_far ∙ one
