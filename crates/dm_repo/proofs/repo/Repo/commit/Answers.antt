use Rattle.std.proofs.Common.{rules, ◌≡◌, ◌+◌, ◌++◌, ◌≤◌, length, vec_len, vec_capacity, ap₂, sym, ◌∙◌, arith, IsOk, ap}
use Rattle.std.proofs.lemmas.List.{length-map}
use Rattle.dm_repo.proofs.GlanceLemmas.{glances_both, glances_length}
use Rattle.dm_repo.proofs.Members.{infos_of-append}
use Rattle.dm_repo.proofs.repo.Repo.commit.Goals as goal

pub invariant_of-self : goal.invariant_of-self
invariant_of-self g c =
    let s = c.self.inside.patches in
    let p = c.ready.inside.patches in
    let r = rw (← c.ready.view_is, ← c.self.view_is) at c.requires.room in
    let so0 : vec_len s ≡ length s.items = s.ok.0 in
    let so1 : vec_len s ≤ vec_capacity s = s.ok.1 in
    let po : vec_len p ≡ length p.items = p.ok.0 in
    let ok : vec_len s + vec_len p ≤ vec_capacity s = omega (arith, r, so0, so1, po) in
    let f : IsOk c.append.result = c.append.ensures.succeeds ok in
    let e : c.append.new.self.items ≡ s.items ++ p.items = search rules in
    let names = c.append_names.ensures ∙ ap₂ (λ a b. a ++ b) c.self.invariant.1.0 c.ready.invariant.0 ∙ sym (infos_of-append s.items p.items) in
    let gs = c.self.inside.glances in
    let hs = c.ready.inside.glances in
    let go0 : vec_len gs ≡ length gs.items = gs.ok.0 in
    let go1 : vec_len gs ≤ vec_capacity gs = gs.ok.1 in
    let ho : vec_len hs ≡ length hs.items = hs.ok.0 in
    let n = glances_length p.items hs.items c.ready.invariant.1 in
    let gok : vec_len gs + vec_len hs ≤ vec_capacity gs = omega (arith, r, go0, go1, ho, n) in
    let gf : IsOk c.append-2.result = c.append-2.ensures.succeeds gok in
    let ge : c.append-2.new.self.items ≡ gs.items ++ hs.items = search rules in
    let glances = glances_both s.items p.items gs.items hs.items c.self.invariant.1.1 c.ready.invariant.1 in
    rw (e, ge) (rw (← c.ready.view_is, ← c.self.view_is) at c.requires.applies, (names, glances))

pub append_names-requires : goal.append_names-requires
append_names-requires g c =
    let s = c.self.inside.patches in
    let p = c.ready.inside.patches in
    let r = rw (← c.ready.view_is, ← c.self.view_is) at c.requires.room in
    let distinct = rw (← c.ready.view_is, ← c.self.view_is) at c.requires.applies.valid.distinct in
    record {
      room = omega (arith, r, ap length c.ready.invariant.0, length-map p.items (λ p. p.info));
      distinct = rw (c.self.invariant.1.0, c.ready.invariant.0, ← infos_of-append s.items p.items) distinct;
    }

pub returns : goal.returns
returns g c =
    let s = c.self.inside.patches in
    let p = c.ready.inside.patches in
    let r = rw (← c.ready.view_is, ← c.self.view_is) at c.requires.room in
    let so0 : vec_len s ≡ length s.items = s.ok.0 in
    let so1 : vec_len s ≤ vec_capacity s = s.ok.1 in
    let po : vec_len p ≡ length p.items = p.ok.0 in
    let ok : vec_len s + vec_len p ≤ vec_capacity s = omega (arith, r, so0, so1, po) in
    let f : IsOk c.append.result = c.append.ensures.succeeds ok in
    let e : c.append.new.self.items ≡ s.items ++ p.items = search rules in
    record {
      patches = rw (← c.ready.view_is, ← c.self.view_is) e;
      count = rw (← c.ready.view_is) (c.len-count.ensures ∙ po);
    }
