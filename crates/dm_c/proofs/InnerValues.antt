-- The machine value of an `Inner`. Assumes `Logic`.
use Rattle.std.proofs.Common.{◌≡◌, List, [], ◌∷◌, ◌++◌, Option, Some, None, IsSome, refl, sym, subst, true≢false}
use seplogic.Ra.Ura.{Ura}
use mir.Val.{Val, vstruct, vcons, vnil, of_list}
use types.Logic.{Logic}
use types.Kit.{Item, Goal, Seq, Step, step, ‵, ◌$◌, drop, fsplit, fjoin, fpick, fpack, feq_i, feq_l}
use denote.RattleType.{RattleType, Valss}
use denote.Builtin.{RawPtr}
use denote.RawPtr.{Ptr, ptr_val}
use denote.Steps.{nothing}
use denote.Struct.Struct.{within}
use denote.Struct.Owning.{shape}
use mir.Syntax.{impl, tnil, dnil}
use denote.Param.Laws.{Laws}
use Rattle.std.specs.declared.alloc.Allocator.{Ghosts}
use Rattle.std.proofs.alloc.Calls.{Al}
use Rattle.std_heap.specs.contracts.Global.{the_row as global}
use Rattle.std_heap.specs.contracts.GlobalAllocator.TheImpl.{ghosts}
use Rattle.std_heap.proofs.Global.TheLaws.{the_row_laws}
use Rattle.dm_repo.specs.contracts.repo.Repo.{the_row}
use Rattle.dm_repo.specs.Repositories.{Repository}
use Rattle.dm_c.specs.Pointers.{owns_kept}
use Rattle.dm_c.specs.contracts.inner.Inner as inner

-- the rows of the repository on the heap, and of its allocator
abbrev pub Heap : RattleType
Heap = global

abbrev pub heap_ghosts : Ghosts Heap.Denot
heap_ghosts = ghosts

abbrev pub heap_laws : Laws Heap
heap_laws = the_row_laws

abbrev pub Held : RattleType
Held = the_row global ghosts

abbrev pub heap : Al
heap = record { row = Heap; laws = heap_laws; g = heap_ghosts; d = impl [] tnil dnil; drops = impl [] tnil dnil }

-- what is kept
pub taken : (o : Option Repository) → IsSome o → (x : Repository) × (o ≡ Some x)
taken (Some x) some = (x, refl)
taken None some = absurd (true≢false (sym some))

abbrev pub word : Ptr → Val
word p = vstruct (vcons (ptr_val p) vnil)

abbrev pub Inner : RattleType
Inner = inner.the_row

module _ {M : Type 1} {𝓤 : Ura M} {𝓛 : Logic 𝓤} {K : Type 0} {Γ : List (Item 𝓤)} {G : Goal 𝓤 𝓛.H} where
  pub inner_out : K → (d : Inner.Denot) (vs : List Val) → (vs ≡ word d.at ∷ [] → Seq K 𝓛 (‵ (owns_kept d.at d.kept) ∷ Γ) G) → Seq K 𝓛 (‵ (Inner.own_val d vs) ∷ Γ) G
  inner_out t d vs k =
      fsplit t $ fpick t (λ vss. fsplit t $ feq_l t (λ ev. fsplit t $ feq_l t (λ ep. drop t $
      k (subst (λ (ps : List Val). vs ≡ vstruct (of_list (ps ++ [])) ∷ []) ep ev))))

  pub inner_in : K → (p : Ptr) (kept : Option Repository) → Step K 𝓛 (‵ (Inner.own_val (record { at = p; kept = kept }) (word p ∷ [])) ∷ Γ) G (‵ (owns_kept p kept) ∷ Γ) G
  inner_in t p kept = step (λ s. let v : Val = word p in
      nothing t $ feq_i t (List Val) (ptr_val p ∷ []) (ptr_val p ∷ []) refl $ fjoin t $ feq_i t (List Val) (v ∷ []) (v ∷ []) refl $ fjoin t $
      fpack t (Valss (RawPtr ∷ [])) (within (shape inner.the_type) (p, tt) (v ∷ [])) (ptr_val p ∷ [], tt) $ fjoin t $ s)
