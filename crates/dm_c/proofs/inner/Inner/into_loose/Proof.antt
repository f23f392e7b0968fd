-- `into_loose` gives the pointer and an allocator. Assumes `Logic`.
use Rattle.std.proofs.Common.{◌≡◌, List, [], ◌∷◌, ◌++◌, Option, refl, sym, ap, ◌∙◌, subst, Some, IsSome}
use Rattle.std.proofs.raw_atomic.Walks.{proved_at, leaves}
use Rattle.std.proofs.alloc.Calls.{Goes-blank, handle_tells}
use mir.Raw.{raw as bare}
use mir.Val.{Val, vptr}
use base.Logic.{SProp, ent, emp, id⊢, never, fst∗}
use prog.Wp.{WpFn}
use contract.Monad.{fact, fact_i}
use contract.Running.{tables}
use types.Logic.{sem}
use types.Kit.{‵, raw, ◌⊛◌, ◌$◌, ◌∵◌, !, qed, by, drop, move, split, fsplit, fjoin, suffices, use0, rewrite}
use types.Run.{enter, stop, fld, of_opd, no_more, and_then, returns}
use types.ByLocal.{alloc_all, pass_all, free_all, look_at, get, get_in, sets}
use types.Part.{agg, sub, whole}
use denote.Memory.{lone}
use denote.RattleType.{owns}
use denote.RawPtr.{Ptr, block_ptr, null_ptr, in_a_block}
use denote.Signature.{types_at, plain}
use denote.Steps.{nothing, heard}
use denote.Triple.Entry.{alive}
use denote.Triple.Walked.{Stays, stay_dropped, walk_of}
use Rattle.std_alloc.specs.Box.Ownership.{box_owns}
use Rattle.dm_c.proofs.LooseValues.{both, loose_good, loose_in}
use Rattle.dm_c.proofs.InnerValues.{Held, Heap, heap, heap_laws, heap_ghosts, Inner, word, inner_out, taken}
use Rattle.dm_c.specs.Pointers.{owns_kept}
use Rattle.dm_c.specs.contracts.inner.Inner.into_loose as f
use Rattle.dm_c.proofs.inner.Inner.into_loose.Statement.{statement}
use Rattle.dm_c.proofs.inner.Inner.into_loose.Code as code

abbrev stayed : Stays f.ended.signature.params f.ended.kept
stayed = (stay_dropped (plain (λ _. Inner)) f.ended.kept.0, (stay_dropped (plain (λ _. Heap)) f.ended.kept.1.0, tt))

pub into_loose_spec : {M : Type 1} → statement M
into_loose_spec 𝓤 𝓛 𝓜 𝓡 wired =
    let H = 𝓛.H in let c = f.clauses 𝓛 𝓜.mem 𝓡.returns in let W = walk_of 𝓛 f.ended stayed c in let 𝓣 = tables 𝓤 H 𝓜 𝓡 𝓡.env in
    proved_at 𝓛 f.ended stayed c 𝓜 𝓡 (Goes-blank 𝓛 0 (plain (λ _. Inner)) f.ended.kept.0 (λ κs x f. tt), (Goes-blank 𝓛 0 (plain (λ _. Heap)) f.ended.kept.1.0 (λ κs x f. tt), tt))
    f.Key.name code.function (code.unfolded 𝓤 H 𝓜 𝓡 wired) (λ z are.
    let v = z.0.3.0 in let a = z.0.3.1.0 in let Post : Val → SProp 𝓤 = W.post z in let Run : List Val → SProp 𝓤 = λ ws. WpFn 𝓤 H 𝓣.C 𝓣.Λ code.function ws Post in
    qed 𝓛 ((raw (alive 𝓛 f.signature z.0.0 z.0.1) ⊛ ‵ (owns (types_at f.signature.params z.0.0) z.0.3 z.0.4)) ∷ raw (fact 𝓤 (IsSome v.kept)) ∷ []) ∵
    split ! $ drop ! $ move ! (1 ∷ []) $ heard ! (IsSome v.kept) (λ some. let x = (taken v.kept some).0 in let is = (taken v.kept some).1 in
    fsplit ! $ inner_out ! v z.0.4.0 (λ ws. rewrite ! 0 (λ (k : Option Held.Denot). ‵ (owns_kept v.at k)) is refl $
    in_a_block ! v.at (λ p. box_owns (heap_ghosts.dealloc_token a) Held p x) (fst∗ 𝓤 (never 𝓤) (sem 𝓛 (heap_ghosts.dealloc_token a (bare (lone Held.mir)) null_ptr))) (λ b o e.
    move ! (1 ∷ []) $ fsplit ! $ handle_tells heap ! a z.0.4.1.0 (λ h eh fits.
    let w : Val = word (block_ptr b o) in let made = loose_good Held Heap heap_laws heap_ghosts b o h fits in
    move ! (1 ∷ []) $ drop ! $
    suffices ! (Run (w ∷ h ∷ [])) (subst (λ (us : List Val). ent 𝓤 (Run (w ∷ h ∷ [])) (Run us)) (sym (λ i. (ws ∙ ap (λ (p : Ptr). word p ∷ []) e) i ++ (eh i ++ []))) (id⊢ 𝓤 (Run (w ∷ h ∷ [])))) $
    enter ! 𝓣.C 𝓣.Λ code.function (w ∷ h ∷ []) Post $ alloc_all ! (λ l. pass_all ! refl ((tt, (tt, tt)), (fits, tt)) $
    sets ! (of_opd ! (get_in ! (fld ! refl (stop !)) (sub ! 0 refl (whole !)))) refl (tt, tt) $
    sets ! (agg ! (and_then ! (get ! refl) (and_then ! (get ! refl) (no_more !)))) refl made $
    returns ! (look_at ! 0 refl) $ free_all ! refl $ move ! (1 ∷ 0 ∷ []) $ loose_in Held Heap heap_laws heap_ghosts ! b o h a x $
    use0 𝓛 (raw (fact 𝓤 (v.kept ≡ Some x))) (fact_i 𝓤 (v.kept ≡ Some x) (emp 𝓤) is) $ move ! (1 ∷ 0 ∷ []) $ nothing ! $ nothing ! $ fjoin ! $ nothing ! $ fjoin ! $ nothing ! $
    by ! (leaves 𝓛 f.ended stayed c z (both (vptr b o) h) (record { at = block_ptr b o; alloc = a; value = x }) (tt, (tt, tt)) (tt, (tt, tt)))))))))
