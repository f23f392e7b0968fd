-- The value of an answer has no float, and isn't deep.
use Rattle.std.proofs.Common.{◌≡◌, ◌≤◌, ◌+◌, ◌-◌, ℕ, false, List, [], length, map, Option, None, Some, take, arith}
use Rattle.std.specs.Prelude.{codes, slice_get}
use Rattle.serde_json.specs.Data.{depth, number, object, string, Members, no_members, unsigned}
use Rattle.serde_json.specs.Read.{max_depth}
use Rattle.serde_json.specs.Written.{has_float}
use Rattle.dm_info.specs.PatchInfo.{PatchInfo}
use Rattle.dm_named.specs.FaultWords.{fault_word}
use Rattle.dm_named.specs.Patches.{Patch}
use Rattle.dm_bundle.specs.Bundles.{Contents}
use Rattle.dm_bundle.specs.Patches.{infos_of}
use Rattle.dm_repo.specs.declared.refusal.Refusal.{Refusal}
use Rattle.dm_repo.specs.declared.refusal.Refusal.TheVariants.{MissingContext, MissingDependency, ContextDepends, HeldDepends, DoesNotFit, Conflicts, Full, NoMemory}
use Rattle.dm_scratch.specs.declared.verdict.Verdict.{Verdict as Outcome}
use Rattle.dm_scratch.specs.declared.verdict.Verdict.TheVariants.{Taken, TakenSome, NothingNew, Malformed, Refused}
use Rattle.dm_deliver.specs.Answering.{answer_text}
use Rattle.dm_deliver.specs.Hashes.{hash_word}
use Rattle.dm_deliver.specs.declared.answers.Answer.{Answer}
use Rattle.dm_deliver.specs.declared.answers.Answer.TheVariants.{Verdict, Hash, Date, BeforeBase}
use Rattle.dm_explain.specs.Accounts.{held_at, new_at}
use Rattle.dm_explain.specs.Places.{newlines}
use Rattle.dm_log.specs.Finding.{hash_text}
use Rattle.dm_log.specs.Json.{texts}
use Rattle.dm_log.proofs.JsonShapes.{Fits, MembersFit, fit_none, fit_number, fit_object, fit_put, fit_string, fit_text, fit_texts}
use Rattle.dm_told.specs.Told.{Tells, TellsFault, TellsVerdict, dependency_at, malformed, newest, of_verdict, placed, refusal_word, refused, begun, bound, bound_text, made, taken, with_bundle, with_hashes, with_number, with_patch, with_refusal, with_word}
use Rattle.dm_log.specs.Json.{with_text}

word : (n : ℕ) (name text : List ℕ) (ms : Members) → MembersFit n ms → MembersFit n (with_word name text ms)
word n name text ms q = fit_put n name (string text) ms (fit_string n text) q

count : (n : ℕ) (name : List ℕ) (k : ℕ) (ms : Members) → MembersFit n ms → MembersFit n (with_number name k ms)
count n name k ms q = fit_put n name (number (unsigned k)) ms (fit_number n k) q

hashes : (name : List ℕ) (infos : List PatchInfo) (ms : Members) → MembersFit 2 ms → MembersFit 2 (with_hashes name infos ms)
hashes name infos ms q = fit_put 2 name (texts hash_text infos) ms (fit_texts 1 hash_text infos) q

verdict_fits : (text : List ℕ) (answer : Answer) → MembersFit 2 (of_verdict text answer)
verdict_fits text answer = word 2 (codes "text") (answer_text answer) (with_word (codes "verdict") text no_members) (word 2 (codes "verdict") text no_members (fit_none 2))

refused_fits : (why : List ℕ) (answer : Answer) → MembersFit 2 (refused why answer)
refused_fits why answer = word 2 (codes "why") why (of_verdict (codes "refused") answer) (verdict_fits (codes "refused") answer)

placed_fits : (n : ℕ) (i : PatchInfo) → Fits 2 (placed n i)
placed_fits n i =
    let place = with_number (codes "place") n no_members in
    let hash = with_word (codes "hash") (hash_text i) place in
    fit_object 1 (with_text (codes "name") i.name hash) (fit_text 1 (codes "name") i.name hash (word 1 (codes "hash") (hash_text i) place (count 1 (codes "place") n no_members (fit_none 1))))

patch : (name : List ℕ) (n : ℕ) (i : Option PatchInfo) (ms : Members) → MembersFit 2 ms → MembersFit 2 (with_patch name n i ms)
patch name n None ms q = q
patch name n (Some i) ms q = fit_put 2 name (placed n i) ms (placed_fits n i) q

refusal_fits : (repo : List Patch) (b : Contents) (why : Refusal) (ms : Members) → MembersFit 2 ms → MembersFit 2 (with_refusal repo b why ms)
refusal_fits repo b (MissingContext c) ms q = patch (codes "missing") c (slice_get b.context c) ms q
refusal_fits repo b (MissingDependency n d) ms q = patch (codes "missing") d (dependency_at b n d) (with_patch (codes "new") n (new_at b n) ms) (patch (codes "new") n (new_at b n) ms q)
refusal_fits repo b (ContextDepends h r) ms q = patch (codes "needed") r (held_at repo r) (with_patch (codes "held") h (held_at repo h) ms) (patch (codes "held") h (held_at repo h) ms q)
refusal_fits repo b (HeldDepends h n) ms q = patch (codes "needed") n (new_at b n) (with_patch (codes "new") h (new_at b h) ms) (patch (codes "new") h (new_at b h) ms q)
refusal_fits repo b (DoesNotFit n) ms q = patch (codes "new") n (new_at b n) ms q
refusal_fits repo b (Conflicts n h) ms q = patch (codes "held") h (held_at repo h) (with_patch (codes "new") n (new_at b n) ms) (patch (codes "new") n (new_at b n) ms q)
refusal_fits repo b Full ms q = q
refusal_fits repo b NoMemory ms q = q

malformed_fits : (why : List ℕ) (at : ℕ) (before : List ℕ) (start : ℕ) (answer : Answer) → MembersFit 2 (malformed why at before start answer)
malformed_fits why at before start answer =
    let told = of_verdict (codes "malformed") answer in
    let reason = with_word (codes "why") why told in
    let offset = with_number (codes "offset") at reason in
    let line = with_number (codes "line") (newlines before + 1) offset in
    count 2 (codes "column") (length before - start + 1) line
    (count 2 (codes "line") (newlines before + 1) offset (count 2 (codes "offset") at reason (word 2 (codes "why") why told (verdict_fits (codes "malformed") answer))))

taken_fits : (text : List ℕ) (repo : List Patch) (n : ℕ) (answer : Answer) → MembersFit 2 (taken text repo n answer)
taken_fits text repo n answer = hashes (codes "hashes") (newest repo n) (of_verdict text answer) (verdict_fits text answer)

same : {ms told : Members} → ms ≡ told → MembersFit 2 told → MembersFit 2 ms
same e q = rw e q

fault_fits : (why text : List ℕ) (at : ℕ) (answer : Answer) (ms : Members) → TellsFault why text at answer ms → MembersFit 2 ms
fault_fits why text at answer ms t = same t.2 (malformed_fits why at (take at text) t.0 answer)

outcome_fits : (repo : List Patch) (b : Contents) (text : List ℕ) (v : Outcome) (ms : Members) → TellsVerdict repo b text v ms → MembersFit 2 ms
outcome_fits repo b text (Taken n) ms t = same t (taken_fits (codes "taken") repo n (Verdict (Taken n)))
outcome_fits repo b text (TakenSome n skipped) ms t =
    let answer = Verdict (TakenSome n skipped) in
    same t.2 (hashes (codes "skipped") t.0 (taken (codes "taken") repo n answer) (taken_fits (codes "taken") repo n answer))
outcome_fits repo b text NothingNew ms t = same t (hashes (codes "hashes") [] (of_verdict (codes "nothing-new") (Verdict NothingNew)) (verdict_fits (codes "nothing-new") (Verdict NothingNew)))
outcome_fits repo b text (Malformed fault) ms t = fault_fits (fault_word fault.kind) text fault.at (Verdict (Malformed fault)) ms t
outcome_fits repo b text (Refused why) ms t = same t (refusal_fits repo b why (refused (refusal_word why) (Verdict (Refused why))) (refused_fits (refusal_word why) (Verdict (Refused why))))

answer_fits : (repo : List Patch) (b : Contents) (text : List ℕ) (answer : Answer) (ms : Members) → Tells repo b text answer ms → MembersFit 2 ms
answer_fits repo b text (Verdict v) ms t = outcome_fits repo b text v ms t
answer_fits repo b text (Hash fault) ms t = fault_fits (hash_word fault.kind) text fault.at (Hash fault) ms t
answer_fits repo b text (Date at) ms t = fault_fits (codes "bad-date") text at (Date at) ms t
answer_fits repo b text BeforeBase ms t = same t (refused_fits (codes "before-base") BeforeBase)

bundle_fits : (text : Option (List ℕ)) (ms : Members) → MembersFit 2 ms → MembersFit 2 (with_bundle text ms)
bundle_fits None ms q = q
bundle_fits (Some text) ms q = fit_text 2 (codes "bundle") text ms q

made_fits : (name : List ℕ) (b : Contents) (text : Option (List ℕ)) → MembersFit 2 (made name b text)
made_fits name b text =
    let told = with_word (codes "verdict") name no_members in
    bundle_fits text (with_hashes (codes "hashes") (infos_of b.patches) told) (hashes (codes "hashes") (infos_of b.patches) told (word 2 (codes "verdict") name no_members (fit_none 2)))

bound_fits : (pairs : List (PatchInfo × PatchInfo)) → MembersFit 2 (bound pairs)
bound_fits pairs =
    let told = with_word (codes "verdict") (codes "refused") no_members in
    let text = with_word (codes "text") (bound_text pairs) told in
    hashes (codes "bound") (map (λ p. p.0) pairs) (with_word (codes "why") (codes "depends") text)
    (word 2 (codes "why") (codes "depends") text (word 2 (codes "text") (bound_text pairs) told (word 2 (codes "verdict") (codes "refused") no_members (fit_none 2))))

begun_fits : (path : List ℕ) (n : ℕ) (text : List ℕ) → MembersFit 2 (begun path n text)
begun_fits path n text =
    let told = with_word (codes "verdict") (codes "begun") no_members in
    let line = with_word (codes "text") text told in
    count 2 (codes "patches") n (with_word (codes "mirror") path line)
    (word 2 (codes "mirror") path line (word 2 (codes "text") text told (word 2 (codes "verdict") (codes "begun") no_members (fit_none 2))))

-- so its text is known, and reads back
pub no_float : (repo : List Patch) (b : Contents) (text : List ℕ) (answer : Answer) (ms : Members) → Tells repo b text answer ms → has_float (object ms) ≡ false
no_float repo b text answer ms t = (fit_object 2 ms (answer_fits repo b text answer ms t)).0

pub shallow : (repo : List Patch) (b : Contents) (text : List ℕ) (answer : Answer) (ms : Members) → Tells repo b text answer ms → depth (object ms) ≤ max_depth
shallow repo b text answer ms t = omega (arith, (fit_object 2 ms (answer_fits repo b text answer ms t)).1)

-- so is the value of a bundle
pub made_no_float : (name : List ℕ) (b : Contents) (text : Option (List ℕ)) (ms : Members) → ms ≡ made name b text → has_float (object ms) ≡ false
made_no_float name b text ms e = (fit_object 2 ms (same e (made_fits name b text))).0

pub made_shallow : (name : List ℕ) (b : Contents) (text : Option (List ℕ)) (ms : Members) → ms ≡ made name b text → depth (object ms) ≤ max_depth
made_shallow name b text ms e = omega (arith, (fit_object 2 ms (same e (made_fits name b text))).1)

-- that of bound patches
pub bound_no_float : (pairs : List (PatchInfo × PatchInfo)) (ms : Members) → ms ≡ bound pairs → has_float (object ms) ≡ false
bound_no_float pairs ms e = (fit_object 2 ms (same e (bound_fits pairs))).0

pub bound_shallow : (pairs : List (PatchInfo × PatchInfo)) (ms : Members) → ms ≡ bound pairs → depth (object ms) ≤ max_depth
bound_shallow pairs ms e = omega (arith, (fit_object 2 ms (same e (bound_fits pairs))).1)

-- and that of a mirror
pub begun_no_float : (path : List ℕ) (n : ℕ) (text : List ℕ) (ms : Members) → ms ≡ begun path n text → has_float (object ms) ≡ false
begun_no_float path n text ms e = (fit_object 2 ms (same e (begun_fits path n text))).0

pub begun_shallow : (path : List ℕ) (n : ℕ) (text : List ℕ) (ms : Members) → ms ≡ begun path n text → depth (object ms) ≤ max_depth
begun_shallow path n text ms e = omega (arith, (fit_object 2 ms (same e (begun_fits path n text))).1)
