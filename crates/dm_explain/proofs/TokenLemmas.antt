-- Lines in which the new token of a replace stands.
use Rattle.std.proofs.Common.{◌≡◌, ◌≢◌, ◌<◌, ◌+◌, inl, inr, ℕ, List, [], ◌∷◌, ◌++◌, Contains, take, drop, length, slice_index_or, Some, refl, sym, subst}
use Rattle.std.proofs.lemmas.List.{take-append-drop}
use Rattle.std.proofs.lemmas.List.Elements.{Contains-append_left, Contains-push, Contains-push_cases}
use Rattle.dm_tree.specs.Trees.{Lines}
use Rattle.dm_tokens.specs.Pieces.{HasPiece}
use Rattle.dm_tokens.specs.Sets.{ByteSet, set_of}
use Rattle.dm_tokens.specs.Turning.{Turns, TurnsAs}
use Rattle.dm_tokens.specs.Validity.{TokenWords}
use Rattle.dm_tokens.specs.declared.turning.Turned.{Turned}
use Rattle.dm_tokens.specs.declared.turning.Turned.TheVariants.{Same, Other, Nothing}
use Rattle.dm_tokens.proofs.PieceLemmas.{has_piece}
use Rattle.dm_tokens.proofs.TurnLemmas.{no_turn}
use Rattle.dm_prim.specs.Applying.{HasNewToken}
use Rattle.dm_prim.proofs.TurnedLines.{next_line, one_set}

-- the new token, which isn't the old one, stands in one of the lines
abbrev pub Stays : TokenWords → Lines → Type 0
Stays w ls = HasNewToken w.set w.old w.new ls

module _ (w : TokenWords) (s : ByteSet) (read : set_of w.set ≡ Some s) (ls : Lines) (i : ℕ) (x : List ℕ) (there : i < length ls) (is : x ≡ slice_index_or ls i []) where
  -- a line that turns
  turns_free : (t : Turned) → TurnsAs s w.old w.new x t → t ≢ Nothing → w.old ≢ w.new → HasPiece s x w.new → ⊥
  turns_free Same turned other differ piece = no_turn s w.old w.new x x differ (has_piece s x w.new piece) turned
  turns_free Other turned other differ piece = turned.2 piece
  turns_free Nothing turned other differ piece = absurd (other refl)

  pub one_more : (t : Turned) → TurnsAs s w.old w.new x t → t ≢ Nothing → (Stays w (take i ls) → ⊥) → Stays w (take (i + 1) ls) → ⊥
  one_more t turned other none h =
      elim (Contains-push_cases (take i ls) x h.line (subst (λ (z : Lines). Contains z h.line) (next_line ls i x there is) h.among)) [
        | inl before ↦ none (record { set = h.set; means = h.means; differ = h.differ; line = h.line; among = before; there = h.there })
        | inr last ↦ turns_free t turned other h.differ (subst (λ (z : List ℕ). HasPiece s z w.new) (sym last) (subst (λ z. HasPiece z h.line w.new) (one_set w.set h.set s h.means read) h.there))
      ]

  -- a line that doesn't
  pub this_stays : TurnsAs s w.old w.new x Nothing → (stays : Stays w ls) × (stays.line ≡ x)
  this_stays h = (record { set = s; means = read; differ = h.0; line = x; among = among; there = h.1 }, refl)
    where
      among : Contains ls x
      among = subst (λ (z : Lines). Contains z x) (take-append-drop (i + 1) ls) (Contains-append_left (take (i + 1) ls) (drop (i + 1) ls) x (subst (λ (z : Lines). Contains z x) (sym (next_line ls i x there is)) (Contains-push (take i ls) x)))
