-- Parts, and a text, have at most one fault.
use Rattle.std.proofs.Common.{◌≡◌, ◌≢◌, ℕ, List, refl}
use Rattle.dm_info.specs.PatchInfo.{PatchInfo}
use Rattle.dm_info.specs.Spelling.{Stands}
use Rattle.dm_info.specs.Refusals.{IsRefusedFor, HasReadFault}
use Rattle.dm_info.specs.declared.fault.InfoFault.{InfoFault}
use Rattle.dm_info.specs.declared.fault.InfoFault.TheVariants.{BadName, BadAuthor, BadDate, BadLog, NoMemory}
use Rattle.dm_info.specs.declared.fault.InfoReadFault.{InfoReadFault}
use Rattle.dm_info.specs.declared.fault.InfoReadFault.TheVariants as read
use Rattle.dm_info.proofs.SpellingLemmas.{not_both}

pub one_of_parts : (i : PatchInfo) (e f : InfoFault) → IsRefusedFor i e → IsRefusedFor i f → e ≡ f
one_of_parts i BadName BadName a b = refl
one_of_parts i BadName BadAuthor a b = absurd (a b.0)
one_of_parts i BadName BadDate a b = absurd (a b.0)
one_of_parts i BadName BadLog a b = absurd (a b.0)
one_of_parts i BadName NoMemory a b = absurd (a b.name)
one_of_parts i BadAuthor BadName a b = absurd (b a.0)
one_of_parts i BadAuthor BadAuthor a b = refl
one_of_parts i BadAuthor BadDate a b = absurd (a.1 b.1)
one_of_parts i BadAuthor BadLog a b = absurd (a.1 b.1)
one_of_parts i BadAuthor NoMemory a b = absurd (a.1 b.author)
one_of_parts i BadDate BadName a b = absurd (b a.0)
one_of_parts i BadDate BadAuthor a b = absurd (b.1 a.1)
one_of_parts i BadDate BadDate a b = refl
one_of_parts i BadDate BadLog a b = absurd (a.2 b.2)
one_of_parts i BadDate NoMemory a b = absurd (a.2 b.date)
one_of_parts i BadLog BadName a b = absurd (b a.0)
one_of_parts i BadLog BadAuthor a b = absurd (b.1 a.1)
one_of_parts i BadLog BadDate a b = absurd (b.2 a.2)
one_of_parts i BadLog BadLog a b = refl
one_of_parts i BadLog NoMemory a b = absurd (a.3 b.log)
one_of_parts i NoMemory BadName a b = absurd (b a.name)
one_of_parts i NoMemory BadAuthor a b = absurd (b.1 a.author)
one_of_parts i NoMemory BadDate a b = absurd (b.2 a.date)
one_of_parts i NoMemory BadLog a b = absurd (b.3 a.log)
one_of_parts i NoMemory NoMemory a b = refl

pub one_of_text : (text : List ℕ) (e f : InfoReadFault) → e ≢ read.NoMemory → f ≢ read.NoMemory → HasReadFault text e → HasReadFault text f → e ≡ f
one_of_text text read.BadInfo read.BadInfo m n a b = refl
one_of_text text read.BadInfo read.Inverted m n a b = absurd (a.none_inverted b)
one_of_text text read.BadInfo read.NoMemory m n a b = absurd (n refl)
one_of_text text read.Inverted read.BadInfo m n a b = absurd (b.none_inverted a)
one_of_text text read.Inverted read.Inverted m n a b = refl
one_of_text text read.Inverted read.NoMemory m n a b = absurd (n refl)
one_of_text text read.NoMemory f m n a b = absurd (m refl)

pub fault_excludes_info : (text : List ℕ) (e : InfoReadFault) → e ≢ read.NoMemory → HasReadFault text e → (i : PatchInfo) (rest : List ℕ) → Stands text i rest → ⊥
fault_excludes_info text read.BadInfo m f i rest s = f.none i rest s
fault_excludes_info text read.Inverted m f i rest s = not_both text i rest s f
fault_excludes_info text read.NoMemory m f i rest s = m refl
