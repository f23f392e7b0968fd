-- Trailers, word by word.
use Rattle.std.proofs.Common.{◌≡◌, ◌≢◌, ℕ, List, [], ◌∷◌, ◌++◌, drop, take, refl, sym, ap, subst, ◌∙◌, inl, arith}
use Rattle.std.specs.Prelude.{codes}
use Rattle.std.proofs.lemmas.List.{take-append-drop}
use Rattle.dm_named.specs.Words.{skipped, Begins, Word}
use Rattle.dm_named.specs.Patches.{Patch}
use Rattle.dm_named.proofs.WordLemmas.{one_word}
use Rattle.dm_named.proofs.PatchRoundTrip.{front_same}
use Rattle.dm_named.specs.declared.limits.Kinds.{Kinds}
use Rattle.dm_bundle.specs.Patches.{AreAllWritable}
use Rattle.dm_bundle.specs.Bundles.{Contents, IsValidBundle, EndsAtIn}
use Rattle.dm_bundle.specs.Canonical.{bundle_text}
use Rattle.dm_bundle.proofs.RoundTrips.{round_trip_before}
use Rattle.dm_hash.specs.Kept.{darcs1_text}
use Rattle.dm_hash.specs.Trailers.{trailer_mark, hash_text, MarkedWord, IsHashOf, TrailerSays, trailer_text}
use Rattle.dm_hash.specs.declared.trailer.Trailer.{Trailer}
use Rattle.dm_hash.specs.declared.trailer.Trailer.TheVariants.{NoHash, Right, Wrong}
use Rattle.dm_hash.proofs.DigitLemmas.{solid_digits, hash_stands}

pub marked : (rest : List ℕ) → take 18 rest ≡ trailer_mark → rest ≡ trailer_mark ++ drop 18 rest
marked rest e = sym (take-append-drop 18 rest) ∙ ap (λ (front : List ℕ). front ++ drop 18 rest) e

pub not_marked : (rest : List ℕ) → take 18 rest ≢ trailer_mark → (after : List ℕ) → rest ≡ trailer_mark ++ after → ⊥
not_marked rest other after e = other (ap (λ (t : List ℕ). take 18 t) e)

one_marked : (rest word other : List ℕ) → MarkedWord rest word → MarkedWord rest other → word ≡ other
one_marked rest word other a b =
    let same : a.after ≡ b.after = ap (λ (t : List ℕ). drop 18 t) (sym a.mark ∙ b.mark) in
    (one_word (skipped b.after) word other a.behind b.behind (subst (λ (t : List ℕ). Word (skipped t) word a.behind) same a.read) b.read).0

pub one_trailer : (patches : List Patch) (rest : List ℕ) (one other : Trailer) → TrailerSays patches rest one → TrailerSays patches rest other → one ≡ other
one_trailer patches rest NoHash NoHash a b = refl
one_trailer patches rest NoHash Right a b = absurd (a b.1.after b.1.mark)
one_trailer patches rest NoHash Wrong a b = absurd (a b.1.after b.1.mark)
one_trailer patches rest Right NoHash a b = absurd (b a.1.after a.1.mark)
one_trailer patches rest Right Right a b = refl
one_trailer patches rest Right Wrong a b = absurd (b.2 (subst (λ (w : List ℕ). IsHashOf patches w) (one_marked rest a.0 b.0 a.1 b.1) a.2))
one_trailer patches rest Wrong NoHash a b = absurd (b a.1.after a.1.mark)
one_trailer patches rest Wrong Right a b = absurd (a.2 (subst (λ (w : List ℕ). IsHashOf patches w) (one_marked rest b.0 a.0 b.1 a.1) b.2))
one_trailer patches rest Wrong Wrong a b = refl

pub written_right : (patches : List Patch) → TrailerSays patches (trailer_text patches) Right
written_right patches =
    let hash = hash_text (darcs1_text patches) in
    let read : Word (skipped (10 ∷ (hash ++ 10 ∷ []))) hash (10 ∷ []) = record { parts = hash_stands (darcs1_text patches) (10 ∷ []); solid = solid_digits _; ends = refl } in
    (hash, record { after = 10 ∷ (hash ++ 10 ∷ []); behind = 10 ∷ []; mark = refl; read = read }, inl refl)

no_bracket : (patches : List Patch) → Begins 91 (trailer_text patches) → ⊥
no_bracket patches b = omega (arith, front_same 80 91 (codes "atch bundle hash:" ++ 10 ∷ (hash_text (darcs1_text patches) ++ 10 ∷ [])) b.0 b.1)

pub written_ends : (kinds : Kinds) (b : Contents) → IsValidBundle b → AreAllWritable kinds b.patches → EndsAtIn kinds (bundle_text b ++ trailer_text b.patches) b (trailer_text b.patches)
written_ends kinds b valid can = round_trip_before kinds b (trailer_text b.patches) valid can (no_bracket b.patches)
