-- How code answers what is read of a field.
use Rattle.std.specs.Prelude.{◌≡◌, Bool, true, false, ℕ, List, Option, Some, IsSome, codes, Result, Ok, Err}
use Rattle.control_stanza.specs.declared.stanza.Field.{Field}
use Rattle.control_stanza.specs.Fields.{value_of}
use Rattle.package_core.specs.declared.reading.Texts.{Texts}
use Rattle.digest_set.specs.declared.facts.What.{What}
use Rattle.package_core.specs.declared.fault.CompleteFault.{CompleteFault}
use Rattle.package_core.specs.declared.fault.CompleteFault.TheVariants as complete_faults
use Rattle.package_core.specs.declared.fault.PackageFault.{PackageFault}
use Rattle.package_core.specs.declared.fault.PackageFault.TheVariants.{OutOfMemory}

abbrev pub FailsAs : PackageFault → Bool → PackageFault → Type 0
FailsAs fault good OutOfMemory = Unit {0}
FailsAs fault good e = (e ≡ fault) × (good ≡ false)

-- It is read exactly where it is good, and else refused as this fault, unless memory runs out.
abbrev pub Reads : {X : Type 0} → PackageFault → Bool → (X → Type 0) → Result X PackageFault → Type 0
Reads fault good IsValue (Ok x) = (good ≡ true) × IsValue x
Reads fault good IsValue (Err e) = FailsAs fault good e

-- the texts are those of the required fields
pub record HasTexts (fields : List Field) (texts : Texts) : Type 0 where
  pub name : value_of fields (codes "Package") ≡ Some texts.name.now
  pub version : value_of fields (codes "Version") ≡ Some texts.version.now
  pub arch : value_of fields (codes "Architecture") ≡ Some texts.arch.now
  pub filename : value_of fields (codes "Filename") ≡ Some texts.filename.now
  pub size : value_of fields (codes "Size") ≡ Some texts.size.now
  pub sha256 : value_of fields (codes "SHA256") ≡ Some texts.sha256.now

-- the error is this difference; memory is wanted only where there is one
abbrev pub IsDifference : Option (What × List ℕ × List ℕ) → CompleteFault → Type 0
IsDifference difference complete_faults.OutOfMemory = IsSome difference
IsDifference difference (complete_faults.Differs what said found) = difference ≡ Some (what, said, found)
