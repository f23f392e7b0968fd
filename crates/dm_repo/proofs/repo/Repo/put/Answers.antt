use Rattle.std.proofs.Common.{rules, ◌≡◌, ◌+◌, ◌++◌, ◌≤◌, length, vec_len, vec_capacity, ap, ap₂, sym, ◌∙◌, arith, IsOk}
use Rattle.std.proofs.lemmas.List.{length-map}
use Rattle.dm_repo.proofs.GlanceLemmas.{glances_both, glances_length}
use Rattle.dm_repo.proofs.Members.{infos_of-append}
use Rattle.dm_repo.proofs.PutLemmas.{keeps_after, put_is_lawful}
use Rattle.dm_repo.proofs.repo.Repo.put.Goals as goal

pub replace_part-requires-clause-lawful : goal.replace_part-requires-clause-lawful
replace_part-requires-clause-lawful g c =
    let k = rw (← c.self.view_is) at c.requires.keeps in
    put_is_lawful c.self.inside.patches.items c.args.patches.items c.args.paths.now c.self.inside.tree c.args.part k.makes c.self.invariant.0.makes

pub append_names-requires-clause-room : goal.append_names-requires-clause-room
append_names-requires-clause-room g c =
    let r = rw (← c.self.view_is) at c.requires.room in
    omega (arith, r, ap length c.requires.names, length-map c.args.patches.items (λ p. p.info))

pub append_names-requires-clause-distinct : goal.append_names-requires-clause-distinct
append_names-requires-clause-distinct g c =
    let k = rw (← c.self.view_is) at c.requires.keeps in
    rw (c.self.invariant.1.0, c.requires.names, ← infos_of-append c.self.inside.patches.items c.args.patches.items) k.valid.distinct

pub invariant_of-self-2 : goal.invariant_of-self-2
invariant_of-self-2 g c =
    let s = c.self.inside.patches in
    let p = c.args.patches in
    let r = rw (← c.self.view_is) at c.requires.room in
    let k = rw (← c.self.view_is) at c.requires.keeps in
    let so0 : vec_len s ≡ length s.items = s.ok.0 in
    let so1 : vec_len s ≤ vec_capacity s = s.ok.1 in
    let po : vec_len p ≡ length p.items = p.ok.0 in
    let ok : vec_len s + vec_len p ≤ vec_capacity s = omega (arith, r, so0, so1, po) in
    let f : IsOk c.append.result = c.append.ensures.succeeds ok in
    let e : c.append.new.self.items ≡ s.items ++ p.items = search rules in
    let names = c.append_names.ensures ∙ ap₂ (λ a b. a ++ b) c.self.invariant.1.0 c.requires.names ∙ sym (infos_of-append s.items p.items) in
    let gs = c.self.inside.glances in
    let hs = c.args.glances in
    let go0 : vec_len gs ≡ length gs.items = gs.ok.0 in
    let go1 : vec_len gs ≤ vec_capacity gs = gs.ok.1 in
    let ho : vec_len hs ≡ length hs.items = hs.ok.0 in
    let n = glances_length p.items hs.items c.requires.glances in
    let gok : vec_len gs + vec_len hs ≤ vec_capacity gs = omega (arith, r, go0, go1, ho, n) in
    let gf : IsOk c.append-2.result = c.append-2.ensures.succeeds gok in
    let ge : c.append-2.new.self.items ≡ gs.items ++ hs.items = search rules in
    let glances = glances_both s.items p.items gs.items hs.items c.self.invariant.1.1 c.requires.glances in
    let kept = keeps_after s.items p.items c.args.paths.now c.self.inside.tree c.args.part c.replace_part.new.tree c.is_empty-whole.result (rw (← c.self.view_is) at c.is_empty-whole.ensures.0) k c.self.invariant.0.makes c.in_ok-replace_part.ensures.ok in
    rw (e, ge) (kept, (names, glances))

pub returns-clause-patches : goal.returns-clause-patches
returns-clause-patches g c =
    let s = c.self.inside.patches in
    let p = c.args.patches in
    let r = rw (← c.self.view_is) at c.requires.room in
    let so0 : vec_len s ≡ length s.items = s.ok.0 in
    let so1 : vec_len s ≤ vec_capacity s = s.ok.1 in
    let po : vec_len p ≡ length p.items = p.ok.0 in
    let ok : vec_len s + vec_len p ≤ vec_capacity s = omega (arith, r, so0, so1, po) in
    let f : IsOk c.append.result = c.append.ensures.succeeds ok in
    let e : c.append.new.self.items ≡ s.items ++ p.items = search rules in
    rw (← c.self.view_is) e
