-- The laws of conflicts that are settled.
use Rattle.std.proofs.Common.{◌≡◌, ℕ, ◌+◌, ◌<◌, ◌⊎◌, inl, inr, List, [], ◌∷◌, ◌++◌, length, take, drop, get_or, All, sym, ap, subst, refl, ◌∙◌, arith, append_assoc, length-append}
use Rattle.std.proofs.Math.ListN.{get_or-append}
use Rattle.std.proofs.Math.Seq.{get_or-append_seam}
use Rattle.std.proofs.lemmas.Bool.{cases_order}
use Rattle.std.proofs.lemmas.List.{drop_more, take-append-drop, length-take-le, same_from_push}
use Rattle.dm_element.specs.Elements.{Conflicted}
use Rattle.dm_element.specs.Settled.{Patch, elements_in, IsNamed, IsSettled, IsSettledPatch, IsUnsettledPatch, AreSettled, IsFirstUnsettled}
use Rattle.dm_element.specs.Laws.{IsPlainElement, PlainPatchesAreSettled, SettledPatchesStay, OneFirstUnsettled}
use Rattle.dm_element.proofs.RowLemmas.{ends_in}
use Rattle.dm_element.proofs.SettledLemmas.{same_parts, passes_front, elements_in-append}

-- one more patch
named_more : (place : ℕ) (ps qs : List Patch) → IsNamed place ps → IsNamed place (ps ++ qs)
named_more place ps qs (k, x, l, e, h) = (k, x, omega (arith, l, length-append ps qs), get_or-append ps qs x k l ∙ e, h)

settled_more : (place : ℕ) (p : Patch) (later more : List Patch) → IsSettledPatch place p later → IsSettledPatch place p (later ++ more)
settled_more place p later more h front rest c w = go (h front rest c w)
  where
    go : IsSettled place c rest later → IsSettled place c rest (later ++ more)
    go (inl n) = inl (named_more place later more n)
    go (inr n) = inr (λ k. n (passes_front (rest ++ elements_in later) (elements_in more)
        (rw (append_assoc rest (elements_in later) (elements_in more), ← elements_in-append later more) k)))

before_same : (place : ℕ) (p : Patch) (xs ys : List Patch) → xs ≡ ys → IsSettledPatch place p ys → IsSettledPatch place p xs
before_same place p xs ys e h = let P : List Patch → Type 0 = λ z. IsSettledPatch place p z in subst P (sym e) h

at_same : (m n : ℕ) (p : Patch) (later : List Patch) → m ≡ n → IsSettledPatch m p later → IsSettledPatch n p later
at_same m n p later e h = let P : ℕ → Type 0 = λ k. IsSettledPatch k p later in subst P e h

stays : (ps : List Patch) (p : Patch) → AreSettled ps → IsSettledPatch (length ps) p [] → AreSettled (ps ++ p ∷ [])
stays ps p h k before [] q e = let r = same_from_push ps before p q e in rw (← r.0, ← r.1) k
stays ps p h k before (l ∷ later) q e = go (ends_in (l ∷ later) (omega arith))
  where
    go : (front : List Patch) × (z : Patch) × (l ∷ later ≡ front ++ z ∷ []) → IsSettledPatch (length before) q (l ∷ later)
    go (front, z, w) =
        let r = same_from_push ps (before ++ q ∷ front) p z (e ∙ ap (λ v. before ++ q ∷ v) w ∙ sym (append_assoc before (q ∷ front) (z ∷ []))) in
        before_same (length before) q (l ∷ later) (front ++ z ∷ []) w (settled_more (length before) q front (z ∷ []) (h before front q r.0))

pub settled_stay : SettledPatchesStay
settled_stay ps p h = (λ k. k ps [] p refl, stays ps p h)

pub plain_settled : PlainPatchesAreSettled
plain_settled ps h before later p w front rest c e =
    let a : All IsPlainElement p.elements = rw (ap (λ z. get_or z (length before) p) w ∙ get_or-append_seam before p later p) at
    (h (length before) p (let k : length ps ≡ length before + length (p ∷ later) = ap length w ∙ length-append before (p ∷ later) in omega (arith, k))) in
    let b : IsPlainElement (Conflicted c) = rw (ap (λ z. get_or z (length front) (Conflicted c)) e ∙ get_or-append_seam front (Conflicted c) rest (Conflicted c)) at
    (a (length front) (Conflicted c) (let k : length p.elements ≡ length front + length (Conflicted c ∷ rest) = ap length e ∙ length-append front (Conflicted c ∷ rest) in omega (arith, k))) in
    absurd b

-- one answer
unsettled_not : {place : ℕ} {p : Patch} {later : List Patch} → IsUnsettledPatch place p later → IsSettledPatch place p later → ⊥
unsettled_not {place} {p} {later} u h = go (h u.front u.rest u.conflict u.whole)
  where
    go : IsSettled place u.conflict u.rest later → ⊥
    go (inl n) = u.unnamed n
    go (inr n) = n u.passes

no_earlier : (ps : List Patch) (m n : ℕ) → IsFirstUnsettled ps m → IsFirstUnsettled ps n → m < n → ⊥
no_earlier ps m n u v l =
    let below : m < length v.before = omega (arith, l, v.at_place) in
    let x : Patch = get_or v.before m v.patch in
    let w : v.before ≡ take m v.before ++ x ∷ drop (m + 1) v.before = sym (take-append-drop m v.before) ∙ ap (λ z. take m v.before ++ z) (drop_more v.before m v.patch below) in
    let size : length (take m v.before) ≡ m = length-take-le m v.before (omega (arith, below)) in
    let r = same_parts u.before (take m v.before) u.later (drop (m + 1) v.before ++ v.patch ∷ v.later) u.patch x
    (sym u.whole ∙ v.whole ∙ ap (λ z. z ++ v.patch ∷ v.later) w ∙ append_assoc (take m v.before) (x ∷ drop (m + 1) v.before) (v.patch ∷ v.later)) (u.at_place ∙ sym size) in
    unsettled_not u.unsettled (rw (r.1, r.2) (at_same (length (take m v.before)) m x (drop (m + 1) v.before ++ v.patch ∷ v.later) size (v.settled (take m v.before) (drop (m + 1) v.before) x w)))

pub one_first : OneFirstUnsettled
one_first ps m u = (
  λ h. unsettled_not u.unsettled (rw (← u.at_place) (h u.before u.later u.patch u.whole)),
  λ n v. go n v (cases_order m n),
)
  where
    go : (n : ℕ) → IsFirstUnsettled ps n → (m ≡ n) ⊎ ((m < n) ⊎ (n < m)) → m ≡ n
    go n v (inl e) = e
    go n v (inr (inl l)) = absurd (no_earlier ps m n u v l)
    go n v (inr (inr l)) = absurd (no_earlier ps n m v u l)
