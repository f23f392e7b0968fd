-- A bundle that is written is read again.
use Rattle.std.proofs.Common.{◌≡◌, ℕ, List, [], ◌∷◌, ◌++◌, refl, sym, ap, subst, ◌∙◌, arith, inl, append_assoc}
use Rattle.std.proofs.lemmas.List.{append-nil}
use Rattle.std.specs.Prelude.{codes}
use Rattle.std.specs.List.{AllByRecursion, flat_map}
use Rattle.dm_named.specs.Many.{Many}
use Rattle.dm_named.specs.Words.{skipped, Begins, Word}
use Rattle.dm_named.specs.Patches.{Patch, PatchTextIn, IsValidPatch, RunEnds, prim_words, unsupported_words}
use Rattle.dm_named.specs.Canonical.{info_line, patch_text}
use Rattle.dm_named.specs.declared.limits.Kinds.{Kinds}
use Rattle.dm_named.specs.declared.limits.Kinds.TheVariants as these
use Rattle.dm_named.specs.Laws.{NoLine, NoLineOf}
use Rattle.dm_named.proofs.KindLemmas.{no_lead}
use Rattle.dm_named.proofs.PatchRoundTrip.{front_same, patch_back, infos_back, infos_skip}
use Rattle.dm_bundle.specs.Heading.{heading_line}
use Rattle.dm_bundle.specs.Patches.{NextPatch, AreAllWritable}
use Rattle.dm_bundle.specs.Context.{context_word}
use Rattle.dm_bundle.specs.Bundles.{Contents, IsValidBundle, BundleTextIn, EndsAtIn}
use Rattle.dm_bundle.specs.Canonical.{bundle_text}

-- new patches stand in a text; a newline may be left after them
record ReadsPatches (kinds : Kinds) (text : List ℕ) (ps : List Patch) (rest : List ℕ) : Type 0 where
  pub mid : List ℕ
  pub read : Many (NextPatch kinds) text ps mid
  pub left : skipped mid ≡ skipped rest

patches_skip : (kinds : Kinds) (t u : List ℕ) (ps : List Patch) (rest : List ℕ) → skipped t ≡ skipped u → ReadsPatches kinds t ps rest → ReadsPatches kinds u ps rest
patches_skip kinds t u [] rest e r = record { mid = u; read = refl; left = sym e ∙ (ap skipped r.read ∙ r.left) }
patches_skip kinds t u (p ∷ ps) rest e r = record { mid = r.mid; read = (r.read.0, subst (λ (s : List ℕ). PatchTextIn kinds s p r.read.0) e r.read.1, r.read.2); left = r.left }

no_byte : (b c : ℕ) (rest : List ℕ) → (b ≡ c → ⊥) → Begins c (b ∷ rest) → ⊥
no_byte b c rest other o = other (front_same b c rest o.0 o.1)

-- a newline, or the bracket of a patch info, is no further line of a primitive
no_hunk_info : (rest : List ℕ) → NoLine (91 ∷ rest)
no_hunk_info rest = record { space = no_byte 91 32 rest (λ e. omega (arith, e)); old = no_byte 91 45 rest (λ e. omega (arith, e)); new = no_byte 91 43 rest (λ e. omega (arith, e)) }

no_line_info : (kinds : Kinds) (rest : List ℕ) → NoLineOf kinds (91 ∷ rest)
no_line_info these.Six rest = no_hunk_info rest
no_line_info these.All rest = (no_hunk_info rest, no_byte 91 42 rest (λ e. omega (arith, e)))

no_hunk_end : (rest : List ℕ) → NoLine (10 ∷ rest)
no_hunk_end rest = record { space = no_byte 10 32 rest (λ e. omega (arith, e)); old = no_byte 10 45 rest (λ e. omega (arith, e)); new = no_byte 10 43 rest (λ e. omega (arith, e)) }

no_line_end : (kinds : Kinds) (rest : List ℕ) → NoLineOf kinds (10 ∷ rest)
no_line_end these.Six rest = no_hunk_end rest
no_line_end these.All rest = (no_hunk_end rest, no_byte 10 42 rest (λ e. omega (arith, e)))

run_ends_info : (rest : List ℕ) → RunEnds (91 ∷ rest)
run_ends_info rest =
    record { prims = no_lead 91 prim_words (91 ∷ rest) rest refl refl; others = no_lead 91 unsupported_words (91 ∷ rest) rest refl refl; paren = λ o. omega (arith, front_same 91 40 rest o.0 o.1) }

run_ends_context : (rest : List ℕ) → RunEnds (67 ∷ rest)
run_ends_context rest =
    record { prims = no_lead 67 prim_words (67 ∷ rest) rest refl refl; others = no_lead 67 unsupported_words (67 ∷ rest) rest refl refl; paren = λ o. omega (arith, front_same 67 40 rest o.0 o.1) }

no_line_patches : (kinds : Kinds) (ps : List Patch) (rest : List ℕ) → NoLineOf kinds rest → NoLineOf kinds (flat_map patch_text ps ++ rest)
no_line_patches kinds [] rest none = none
no_line_patches kinds (p ∷ ps) rest none = no_line_info kinds _

run_ends_patches : (ps : List Patch) (rest : List ℕ) → RunEnds (skipped rest) → RunEnds (skipped (flat_map patch_text ps ++ rest))
run_ends_patches [] rest ends = ends
run_ends_patches (p ∷ ps) rest ends = run_ends_info _

patches_back : (kinds : Kinds) (ps : List Patch) (rest : List ℕ) → AllByRecursion IsValidPatch ps → AreAllWritable kinds ps → NoLineOf kinds rest → RunEnds (skipped rest) → ReadsPatches kinds (flat_map patch_text ps ++ rest) ps rest
patches_back kinds [] rest valid can none ends = record { mid = rest; read = refl; left = refl }
patches_back kinds (p ∷ ps) rest valid can none ends =
    let tail = flat_map patch_text ps ++ rest in
    let one = patch_back kinds p tail valid.0 can.0 (no_line_patches kinds ps rest none) (run_ends_patches ps rest ends) in
    let more = patches_skip kinds tail one.after ps rest (sym one.left) (patches_back kinds ps rest valid.1 can.1 none ends) in
    let whole : patch_text p ++ tail ≡ (patch_text p ++ flat_map patch_text ps) ++ rest = sym (append_assoc (patch_text p) (flat_map patch_text ps) rest) in
    record { mid = more.mid; read = (one.after, subst (λ (t : List ℕ). PatchTextIn kinds (skipped t) p one.after) whole one.read, more.read); left = more.left }

nothing : (rest : List ℕ) → [] ≡ 91 ∷ rest → ⊥
nothing rest e = cc

joined : (head patches word infos rest : List ℕ) → head ++ (patches ++ (word ++ (infos ++ rest))) ≡ (head ++ (patches ++ (word ++ infos))) ++ rest
joined head patches word infos rest = simp append_assoc refl

-- a text that goes on behind the context, but not with a patch info
pub round_trip_before : (kinds : Kinds) (b : Contents) (rest : List ℕ) → IsValidBundle b → AreAllWritable kinds b.patches → (Begins 91 (skipped rest) → ⊥) → EndsAtIn kinds (bundle_text b ++ rest) b (skipped rest)
round_trip_before kinds b rest valid can closed =
    let infos = flat_map info_line b.context in
    let context = 10 ∷ (context_word ++ 10 ∷ 10 ∷ (infos ++ rest)) in
    let patches = flat_map patch_text b.patches ++ context in
    let ps = patches_back kinds b.patches context valid.patches can (no_line_end kinds _) (run_ends_context _) in
    let new = patches_skip kinds patches (10 ∷ patches) b.patches context refl ps in
    let is = infos_skip (infos ++ rest) (10 ∷ 10 ∷ (infos ++ rest)) b.context rest refl (infos_back b.context rest valid.context) in
    let whole : codes "New patches:\n\n" ++ patches ≡ bundle_text b ++ rest = joined (codes "New patches:\n\n") (flat_map patch_text b.patches) (codes "\nContext:\n\n") infos rest in
    subst (λ (t : List ℕ). EndsAtIn kinds t b (skipped rest)) whole (record {
      stands = record {
        new = 10 ∷ patches;
        heading = record { summary = []; here = heading_line ++ 10 ∷ 10 ∷ patches; before = refl; line = record { free = (refl, (refl, (refl, (refl, (refl, (refl, (refl, (refl, (refl, (refl, (refl, (refl, tt)))))))))))); parts = inl refl } };
        sections = record {
          between = new.mid;
          after_word = 10 ∷ 10 ∷ (infos ++ rest);
          patches = record { read = new.read; distinct = valid.no_doubles.distinct };
          word = subst (λ (t : List ℕ). Word t context_word (10 ∷ 10 ∷ (infos ++ rest))) (sym new.left) (record { parts = refl; solid = (refl, (refl, (refl, (refl, (refl, (refl, (refl, (refl, tt)))))))); ends = refl });
          context = record { rest = is.mid; read = is.read; ends = λ o. closed (o.0, sym is.left ∙ o.1); apart = valid.no_doubles.apart };
        };
      };
      behind = is.left;
    })

pub round_trip : (kinds : Kinds) (b : Contents) → IsValidBundle b → AreAllWritable kinds b.patches → BundleTextIn kinds (bundle_text b) b
round_trip kinds b valid can = subst (λ (t : List ℕ). BundleTextIn kinds t b) (append-nil (bundle_text b)) (round_trip_before kinds b [] valid can (λ o. nothing o.0 o.1)).stands
