-- Laws of what is refused: there is at most one fault, and none where there is a patch info.
use Rattle.std.specs.Prelude.{◌≡◌, ◌≢◌, ℕ, List}
use Rattle.dm_info.specs.PatchInfo.{PatchInfo}
use Rattle.dm_info.specs.Spelling.{Stands}
use Rattle.dm_info.specs.Refusals.{IsRefusedFor, HasReadFault}
use Rattle.dm_info.specs.declared.fault.InfoFault.{InfoFault}
use Rattle.dm_info.specs.declared.fault.InfoReadFault.{InfoReadFault}
use Rattle.dm_info.specs.declared.fault.InfoReadFault.TheVariants.{NoMemory}

-- parts are refused for at most one fault: for out of memory only where they are valid, and then for no other
abbrev pub PartsHaveOneFault : Type 0
PartsHaveOneFault = (i : PatchInfo) (e f : InfoFault) → IsRefusedFor i e → IsRefusedFor i f → e ≡ f

-- a text has at most one fault at its front, out of memory apart
abbrev pub TextHasOneFault : Type 0
TextHasOneFault = (text : List ℕ) (e f : InfoReadFault) → e ≢ NoMemory → f ≢ NoMemory → HasReadFault text e → HasReadFault text f → e ≡ f

-- and none where a patch info stands
abbrev pub FaultExcludesInfo : Type 0
FaultExcludesInfo = (text : List ℕ) (e : InfoReadFault) → e ≢ NoMemory → HasReadFault text e → (i : PatchInfo) (rest : List ℕ) → Stands text i rest → ⊥
