-- What holds of a repetition whose parts are read in one way.
use Rattle.std.proofs.Common.{◌≡◌, ℕ, List, [], ◌∷◌, ◌++◌, refl, sym, ap, subst, ◌∙◌, inl, inr}
use Rattle.std.specs.Prelude.{◌⊎◌}
use Rattle.std.proofs.lemmas.List.{append-nil}
use Rattle.dm_named.specs.Many.{Many}

module _ {V : Type 0} (S : List ℕ → V → List ℕ → Type 0) where
  -- one more at the end
  pub many_more : (text : List ℕ) (vs : List V) (mid : List ℕ) (v : V) (after : List ℕ) → Many S text vs mid → S mid v after → Many S text (vs ++ v ∷ []) after
  many_more text [] mid v after r s = (after, subst (λ (t : List ℕ). S t v after) (sym r) s, refl)
  many_more text (w ∷ ws) mid v after r s = (r.0, r.1, many_more r.0 ws mid v after r.2 s)

  -- nothing more stands there
  abbrev pub Closed : List ℕ → Type 0
  Closed rest = (v : V) (after : List ℕ) → S rest v after → ⊥

  abbrev pub One : Type 0
  One = (text : List ℕ) (v w : V) (r s : List ℕ) → S text v r → S text w s → (v ≡ w) × (r ≡ s)

  -- of two readings, of which one is closed, that one goes on from where the other stands
  pub many_follows : One → (text : List ℕ) (vs ws : List V) (mid rest : List ℕ) → Many S text vs mid → Many S text ws rest → Closed rest → (more : List V) × (ws ≡ vs ++ more) × Many S mid more rest
  many_follows one text [] ws mid rest r s closed = (ws, refl, subst (λ (t : List ℕ). Many S t ws rest) r s)
  many_follows one text (v ∷ vs) [] mid rest r s closed = absurd (closed v r.0 (subst (λ (t : List ℕ). S t v r.0) s r.1))
  many_follows one text (v ∷ vs) (w ∷ ws) mid rest r s closed =
      let same = one text v w r.0 s.0 r.1 s.1 in
      let m = many_follows one r.0 vs ws mid rest r.2 (subst (λ (t : List ℕ). Many S t ws rest) (sym same.1) s.2) closed in
      (m.0, (λ k. sym same.0 k ∷ m.1 k), m.2)

  none_more : (mid : List ℕ) (more : List V) (rest : List ℕ) → Many S mid more rest → Closed mid → (more ≡ []) × (mid ≡ rest)
  none_more mid [] rest r closed = (refl, r)
  none_more mid (v ∷ vs) rest r closed = absurd (closed v r.0 r.1)

  -- so there is one closed reading at most
  pub one_many : One → (text : List ℕ) (vs ws : List V) (r s : List ℕ) → Many S text vs r → Many S text ws s → Closed r → Closed s → (vs ≡ ws) × (r ≡ s)
  one_many one text vs ws r s x y p q =
      let m = many_follows one text vs ws r s x y q in
      let n = none_more r m.0 s m.2 p in
      (sym (m.1 ∙ ap (λ (l : List V). vs ++ l) n.0 ∙ append-nil vs), n.1)

  -- of two readings one goes on: with this next one, which stands where the other ends
  pub record GoesOn (vs ws : List V) (mid : List ℕ) : Type 0 where
    pub next : V
    pub more : List V
    pub after : List ℕ
    pub longer : ws ≡ vs ++ next ∷ more
    pub stands : S mid next after

  longer_by_one : (v w : V) (vs ws : List V) (mid : List ℕ) → v ≡ w → GoesOn vs ws mid → GoesOn (v ∷ vs) (w ∷ ws) mid
  longer_by_one v w vs ws mid e g = record { next = g.next; more = g.more; after = g.after; longer = λ k. sym e k ∷ g.longer k; stands = g.stands }

  -- two readings are one, or the first goes on, or the second does
  pub meet : One → (text : List ℕ) (vs ws : List V) (r s : List ℕ) → Many S text vs r → Many S text ws s → ((vs ≡ ws) × (r ≡ s)) ⊎ (GoesOn vs ws r ⊎ GoesOn ws vs s)
  meet one text [] [] r s x y = inl (refl, sym x ∙ y)
  meet one text [] (w ∷ ws) r s x y = inr (inl (record { next = w; more = ws; after = y.0; longer = refl; stands = subst (λ (t : List ℕ). S t w y.0) x y.1 }))
  meet one text (v ∷ vs) [] r s x y = inr (inr (record { next = v; more = vs; after = x.0; longer = refl; stands = subst (λ (t : List ℕ). S t v x.0) y x.1 }))
  meet one text (v ∷ vs) (w ∷ ws) r s x y =
      let same = one text v w x.0 y.0 x.1 y.1 in
      elim (meet one y.0 vs ws r s (subst (λ (t : List ℕ). Many S t vs r) same.1 x.2) y.2) [
        | inl e ↦ inl ((λ k. same.0 k ∷ e.0 k), e.1)
        | inr g ↦ elim g [ inl a ↦ inr (inl (longer_by_one v w vs ws r same.0 a)) | inr a ↦ inr (inr (longer_by_one w v ws vs s (sym same.0) a)) ]
      ]
