-- Kept patches, piece by piece.
use Rattle.std.proofs.Common.{◌≡◌, ◌≤◌, ◌<◌, ◌+◌, ℕ, List, [], ◌∷◌, ◌++◌, length, drop, take, get_or, refl, sym, ap, subst, ◌∙◌, arith, length-append, append_assoc}
use Rattle.std.proofs.Math.Seq.{drop-append_seam, take-append_seam}
use Rattle.std.proofs.lemmas.List.{append-nil, take_more}
use Rattle.std.specs.Prelude.{codes}
use Rattle.std.specs.List.{flat_map}
use Rattle.sha1.specs.declared.Sha1.{Sha1}
use Rattle.sha1.specs.Sha1.{Holds}
use Rattle.dm_info.specs.PatchInfo.{PatchInfo}
use Rattle.dm_info.specs.Spelling.{canonical}
use Rattle.dm_prim.specs.Primitives.{Prim}
use Rattle.dm_named.specs.Patches.{Patch}
use Rattle.dm_named.specs.Canonical.{info_line, prim_text, deps_text, body_text, patch_text}
use Rattle.dm_hash.specs.Kept.{kept_deps, kept_front, gap, darcs2_body}

-- `<` and `>`, with what stands round them, are as long in both texts
same_room : (ds : List PatchInfo) → length (kept_deps ds) ≡ length (deps_text ds)
same_room [] = refl
same_room (d ∷ ds) =
    let x = flat_map info_line (d ∷ ds) in
    omega (arith, length-append x (codes ">"), length-append x (codes "> "))

front_room : (p : Patch) → length (kept_front p) ≡ length (canonical p.info ++ deps_text p.deps)
front_room p = omega (arith, same_room p.deps, length-append (canonical p.info) (kept_deps p.deps), length-append (canonical p.info) (deps_text p.deps))

-- the body begins in the canonical text where the front ends
pub body_here : (p : Patch) → drop (length (kept_front p)) (patch_text p) ≡ body_text p.prims
body_here p =
    let front = canonical p.info ++ deps_text p.deps in
    let whole : patch_text p ≡ front ++ body_text p.prims = sym (append_assoc (canonical p.info) (deps_text p.deps) (body_text p.prims)) in
    rw (front_room p, whole) (drop-append_seam front (body_text p.prims))

pub front_fits : (p : Patch) → length (kept_front p) ≤ length (patch_text p)
front_fits p =
    let front = canonical p.info ++ deps_text p.deps in
    let whole : patch_text p ≡ front ++ body_text p.prims = sym (append_assoc (canonical p.info) (deps_text p.deps) (body_text p.prims)) in
    omega (arith, front_room p, ap length whole, length-append front (body_text p.prims))

-- ---- the braces

pub braced : (ps : List Prim) → (length ps ≡ 1 → ⊥) → body_text ps ≡ codes "{\n" ++ (flat_map prim_text ps ++ codes "}\n")
braced [] other = refl
braced (p ∷ []) other = absurd (other refl)
braced (p ∷ q ∷ ps) other = refl

pub braced_room : (ps : List Prim) → (length ps ≡ 1 → ⊥) → length (body_text ps) ≡ length (flat_map prim_text ps) + 4
braced_room ps other = omega (arith, ap length (braced ps other), length-append (flat_map prim_text ps) (codes "}\n"))

pub inside : (ps : List Prim) (n : ℕ) → (length ps ≡ 1 → ⊥) → n + 4 ≡ length (body_text ps) → take n (drop 2 (body_text ps)) ≡ flat_map prim_text ps
inside ps n other e =
    let x = flat_map prim_text ps in
    let same : n ≡ length x = omega (arith, braced_room ps other) in
    rw (braced ps other, same) (take-append_seam x (codes "}\n"))

-- ---- the hashers

pub three_pieces : (h : Sha1) (m a b c : List ℕ) → Holds h (((m ++ a) ++ b) ++ c) → Holds h (m ++ (a ++ (b ++ c)))
three_pieces h m a b c held = subst (Holds h) (simp append_assoc refl) held

pub two_pieces : (h : Sha1) (m a b : List ℕ) → Holds h ((m ++ a) ++ b) → Holds h (m ++ (a ++ b))
two_pieces h m a b held = subst (Holds h) (append_assoc m a b) held

pub no_prims : (deps : List PatchInfo) (ps : List Prim) → length ps ≡ 0 → darcs2_body deps ps ≡ codes "\n"
no_prims deps [] e = refl
no_prims deps (p ∷ ps) e = absurd (omega arith)

pub some_prims : (deps : List PatchInfo) (ps : List Prim) → (length ps ≡ 0 → ⊥) → darcs2_body deps ps ≡ gap deps ++ flat_map prim_text ps
some_prims deps [] e = absurd (e refl)
some_prims deps (p ∷ ps) e = refl

flat_map_more : (f : Patch → List ℕ) (ps : List Patch) (p : Patch) → flat_map f (ps ++ p ∷ []) ≡ flat_map f ps ++ f p
flat_map_more f [] p = append-nil (f p)
flat_map_more f (q ∷ ps) p = ap (λ (t : List ℕ). f q ++ t) (flat_map_more f ps p) ∙ sym (append_assoc (f q) (flat_map f ps) (f p))

pub one_more : (f : Patch → List ℕ) (ps : List Patch) (i : ℕ) (p : Patch) → i < length ps → p ≡ get_or ps i p → flat_map f (take (i + 1) ps) ≡ flat_map f (take i ps) ++ f p
one_more f ps i p lt is =
    let here : take (i + 1) ps ≡ take i ps ++ p ∷ [] = take_more ps i p lt ∙ ap (λ z. take i ps ++ z ∷ []) (sym is) in
    ap (flat_map f) here ∙ flat_map_more f (take i ps) p
