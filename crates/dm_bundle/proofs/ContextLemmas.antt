-- The context, patch info by patch info.
use Rattle.std.proofs.Common.{◌≡◌, ◌≢◌, ℕ, List, [], ◌∷◌, ◌++◌, subst}
use Rattle.std.specs.Prelude.{Contains}
use Rattle.dm_info.specs.PatchInfo.{PatchInfo}
use Rattle.dm_info.specs.Spelling.{Stands}
use Rattle.dm_named.specs.Many.{Many}
use Rattle.dm_named.specs.Words.{skipped, Word}
use Rattle.dm_named.specs.Patches.{NextInfo}
use Rattle.dm_named.specs.declared.fault.FaultKind.{FaultKind}
use Rattle.dm_named.proofs.WordLemmas.{one_word}
use Rattle.dm_named.proofs.ManyLemmas.{many_more}
use Rattle.dm_bundle.specs.Patches.{SameMembers}
use Rattle.dm_bundle.specs.Context.{context_word, ContextWord, AreDisjoint, ContextEndsAt}
use Rattle.dm_bundle.specs.Faults.{ContextInfoFaultAt, doubled, in_info, ContextFaultAt}
use Rattle.dm_bundle.proofs.Members.{apart_more}

-- patch infos of which none is known account for the text up to the place, with the white space before it
pub record ReadSoFar (known : List PatchInfo) (text : List ℕ) (infos : List PatchInfo) (here : List ℕ) : Type 0 where
  pub mid : List ℕ
  pub read : Many NextInfo text infos mid
  pub apart : AreDisjoint known infos
  pub place : here ≡ skipped mid

pub one_more : (known : List PatchInfo) (text : List ℕ) (infos : List PatchInfo) (here : List ℕ) (i : PatchInfo) (after next : List ℕ) → ReadSoFar known text infos here → Stands here i after → (Contains known i → ⊥) → next ≡ skipped after → ReadSoFar known text (infos ++ i ∷ []) next
one_more known text infos here i after next r s none e =
    record {
      mid = after;
      read = many_more NextInfo text infos r.mid i after r.read (subst (λ (t : List ℕ). Stands t i after) r.place s);
      apart = apart_more known infos i r.apart none;
      place = e;
    }

-- ---- the set stands for the new patches

pub same_context : (known new : List PatchInfo) (text : List ℕ) (context : List PatchInfo) (rest : List ℕ) → SameMembers known new → ContextEndsAt known text context rest → ContextEndsAt new text context rest
same_context known new text context rest same c =
    let s = c.stands in
    record { stands = record { rest = s.rest; read = s.read; ends = s.ends; apart = λ i h k. s.apart i ((same i).1 h) k }; behind = c.behind }

same_wrong : (kind : FaultKind) (known new : List PatchInfo) (text here : List ℕ) → SameMembers known new → ContextInfoFaultAt kind known text here → ContextInfoFaultAt kind new text here
same_wrong kind known new text here same (doubled k e d) = doubled k e (record { info = d.info; rest = d.rest; stands = d.stands; is_known = (same d.info).0 d.is_known })
same_wrong kind known new text here same (in_info b f) = in_info b f

pub same_fault : (kind : FaultKind) (known new : List PatchInfo) (text here : List ℕ) → SameMembers known new → ContextFaultAt kind known text here → ContextFaultAt kind new text here
same_fault kind known new text here same f = record { infos = f.infos; mid = f.mid; read = f.read; apart = λ i h k. f.apart i ((same i).1 h) k; wrong = same_wrong kind known new (skipped f.mid) here same f.wrong }

-- another word is not that of the context
pub other_word : (text word rest : List ℕ) → Word text word rest → word ≢ context_word → (r : List ℕ) → Word text context_word r → ⊥
other_word text word rest w other r x = other (one_word text word context_word rest r w x).0

pub context_here : (text here word rest : List ℕ) → here ≡ skipped text → Word here word rest → word ≡ context_word → ContextWord text rest
context_here text here word rest e w is = subst (λ (t : List ℕ). Word t context_word rest) e (subst (λ (v : List ℕ). Word here v rest) is w)
