-- The lines of a report, as far as they have been printed.
use Rattle.std.proofs.Common.{◌≡◌, ◌+◌, ◌<◌, ℕ, zero, suc, Bool, List, [], ◌∷◌, ◌++◌, Option, length, take, get_or, slice_get, refl, sym, ap, subst, ◌∙◌, arith, append_assoc, append-nil}
use Rattle.std.specs.Prelude.{codes}
use Rattle.std.specs.Fmt.{decimal}
use Rattle.dm_tree.specs.Trees.{Tree}
use Rattle.dm_repo.specs.Repositories.{IsTreeOf}
use Rattle.dm_scratch.specs.Printing.{line_of, listing_text}
use Rattle.dm_scratch.specs.declared.verdict.Verdict.{Verdict}
use Rattle.dm_mail.specs.declared.mail.Mail.{Mail}
use Rattle.dm_mirror.specs.TheMirror.{Mirror}
use Rattle.dm_mirror.specs.Report.{mail_text, mails_text, closed_text, IsMirrorText, AreMirrorTexts, receipt_text, sent_text}

-- one mail more
mails_suc : (ms : List Mail) (vs : List (Option Verdict)) (k : ℕ) (d : Mail) (e : Option Verdict) → k < length ms → k < length vs →
    mails_text (take (suc k) ms) (take (suc k) vs) ≡ mails_text (take k ms) (take k vs) ++ mail_text (get_or ms k d) (get_or vs k e)
mails_suc [] vs k d e l r = absurd (omega arith)
mails_suc (m ∷ ms) [] k d e l r = absurd (omega arith)
mails_suc (m ∷ ms) (v ∷ vs) zero d e l r = append-nil (mail_text m v)
mails_suc (m ∷ ms) (v ∷ vs) (suc k) d e l r =
    ap (λ t. mail_text m v ++ t) (mails_suc ms vs k d e (omega arith) (omega arith)) ∙
    sym (append_assoc (mail_text m v) (mails_text (take k ms) (take k vs)) (mail_text (get_or ms k d) (get_or vs k e)))

-- what was printed, with one part more
more : (before so_far out new part whole : List ℕ) → out ≡ before ++ so_far → new ≡ out ++ part → whole ≡ so_far ++ part → new ≡ before ++ whole
more before so_far out new part whole e f w = f ∙ (ap (λ l. l ++ part) e ∙ (append_assoc before so_far part ∙ ap (λ l. before ++ l) (sym w)))

pub mails_more : (before out new : List ℕ) (ms : List Mail) (vs : List (Option Verdict)) (k : ℕ) (m : Mail) (e : Option Verdict) → k < length ms → length vs ≡ length ms → m ≡ get_or ms k m →
    out ≡ before ++ mails_text (take k ms) (take k vs) → new ≡ out ++ mail_text m (get_or vs k e) → new ≡ before ++ mails_text (take (k + 1) ms) (take (k + 1) vs)
mails_more before out new ms vs k m e l same is so_far one =
    let n : k + 1 ≡ suc k = omega arith in
    let part = mail_text m (get_or vs k e) in
    let whole = mails_suc ms vs k m e l (omega arith) ∙ ap (λ x. mails_text (take k ms) (take k vs) ++ mail_text x (get_or vs k e)) (sym is) in
    rw n (more before (mails_text (take k ms) (take k vs)) out new part (mails_text (take (suc k) ms) (take (suc k) vs)) so_far one whole)

-- one mirror more
sent_suc : (p n : ℕ) (ms : List Mirror) (k : ℕ) (d : Mirror) → k < length ms →
    sent_text p n (take (suc k) ms) ≡ sent_text p n (take k ms) ++ receipt_text p (n + k) (slice_get (get_or ms k d).receipts.items p)
sent_suc p n [] k d l = absurd (omega arith)
sent_suc p n (m ∷ ms) zero d l =
    let e : n + 0 ≡ n = omega arith in
    rw e (append-nil (receipt_text p n (slice_get m.receipts.items p)))
sent_suc p n (m ∷ ms) (suc k) d l =
    let e : n + suc k ≡ suc n + k = omega arith in
    let first = receipt_text p n (slice_get m.receipts.items p) in
    let last = receipt_text p (suc n + k) (slice_get (get_or ms k d).receipts.items p) in
    rw e (ap (λ t. first ++ t) (sent_suc p (suc n) ms k d (omega arith)) ∙ sym (append_assoc first (sent_text p (suc n) (take k ms)) last))

pub sent_more : (before out new : List ℕ) (p : ℕ) (ms : List Mirror) (k : ℕ) (m : Mirror) (r : Option (ℕ × Bool)) → k < length ms → m ≡ get_or ms k m → r ≡ slice_get m.receipts.items p →
    out ≡ before ++ sent_text p 0 (take k ms) → new ≡ out ++ receipt_text p k r → new ≡ before ++ sent_text p 0 (take (k + 1) ms)
sent_more before out new p ms k m r l is says so_far one =
    let n : k + 1 ≡ suc k = omega arith in
    let same = says ∙ ap (λ x. slice_get x.receipts.items p) is in
    let z : 0 + k ≡ k = omega arith in
    let whole = (rw z at (sent_suc p 0 ms k m l)) ∙ ap (λ x. sent_text p 0 (take k ms) ++ receipt_text p k x) (sym same) in
    rw n (more before (sent_text p 0 (take k ms)) out new (receipt_text p k r) (sent_text p 0 (take (suc k) ms)) so_far one whole)

mirrors_suc : (posters n : ℕ) (ms : List Mirror) (k : ℕ) (d : Mirror) (out part : List ℕ) → k < length ms → AreMirrorTexts posters n (take k ms) out →
    IsMirrorText posters (n + k) (get_or ms k d) part → AreMirrorTexts posters n (take (suc k) ms) (out ++ part)
mirrors_suc posters n [] k d out part l so_far one = absurd (omega arith)
mirrors_suc posters n (m ∷ ms) zero d out part l so_far one =
    let e : n + 0 ≡ n = omega arith in
    (part, [], (rw e at one), refl, ap (λ t. t ++ part) so_far ∙ sym (append-nil part))
mirrors_suc posters n (m ∷ ms) (suc k) d out part l so_far one =
    let e : n + suc k ≡ suc n + k = omega arith in (
      so_far.0,
      so_far.1 ++ part,
      so_far.2,
      mirrors_suc posters (suc n) ms k d so_far.1 part (omega arith) so_far.3 (rw e at one),
      ap (λ t. t ++ part) so_far.4 ∙ append_assoc so_far.0 so_far.1 part,
    )

pub mirrors_more : (posters : ℕ) (ms : List Mirror) (k : ℕ) (m : Mirror) (out new part : List ℕ) → k < length ms → m ≡ get_or ms k m → AreMirrorTexts posters 0 (take k ms) out →
    IsMirrorText posters k m part → new ≡ out ++ part → AreMirrorTexts posters 0 (take (k + 1) ms) new
mirrors_more posters ms k m out new part l is so_far one e =
    let n : k + 1 ≡ suc k = omega arith in
    let z : 0 + k ≡ k = omega arith in
    rw (n, e) (mirrors_suc posters 0 ms k m out part l so_far (rw z (subst (λ x. IsMirrorText posters k x part) is one)))

-- two parts that were printed one after the other
pub both_printed : (before mid after first second : List ℕ) → mid ≡ before ++ first → after ≡ mid ++ second → after ≡ before ++ (first ++ second)
both_printed before mid after first second e f = f ∙ (ap (λ l. l ++ second) e ∙ append_assoc before first second)

-- the parts of a mirror, one after the other
pub mirror_printed : (posters number : ℕ) (mirror : Mirror) (before one two three four : List ℕ) (mails : List Mail) (verdicts : List (Option Verdict)) →
    mails ≡ mirror.mails.items → verdicts ≡ mirror.verdicts.items → one ≡ before ++ line_of (codes "mirror " ++ decimal number) → two ≡ one ++ mails_text mails verdicts →
    three ≡ two ++ closed_text mirror.mails.items posters → (tree : Tree) × IsTreeOf mirror.repo.patches tree × (four ≡ three ++ (line_of (codes "patches " ++ decimal (length mirror.repo.patches)) ++ listing_text tree)) →
    (text : List ℕ) × IsMirrorText posters number mirror text × (four ≡ before ++ text)
mirror_printed posters number mirror before one two three four mails verdicts is says e f g h =
    let head = line_of (codes "mirror " ++ decimal number) in
    let tail = line_of (codes "patches " ++ decimal (length mirror.repo.patches)) ++ listing_text h.0 in
    let took = mails_text mirror.mails.items mirror.verdicts.items in
    let closed = closed_text mirror.mails.items posters in
    let f2 : two ≡ one ++ took = rw (is, says) at f in
    let last = both_printed two three four closed tail g h.2 in
    let later = both_printed one two four took (closed ++ tail) f2 last in
    (head ++ (took ++ (closed ++ tail)), record { tree = h.0; is_tree = h.1; is_text = refl }, both_printed before one four head (took ++ (closed ++ tail)) e later)
