-- What reading says by the relation.
use Rattle.std.proofs.Common.{ℕ, List, subst, Result, Ok, Err, Option}
use Rattle.std.specs.Result.{IfOk, IfErr}
use Rattle.control_stanza.specs.declared.fault.StanzaFault.{StanzaFault}
use Rattle.control_stanza.specs.declared.fault.StanzaFault.TheVariants.{At, OutOfMemory}
use Rattle.control_stanza.specs.declared.stanza.Field.{Field}
use Rattle.control_stanza.specs.Lines.{lines_of}
use Rattle.control_stanza.specs.Reading.{stanzas_of}
use Rattle.control_stanza.specs.Spelled.{Stanzas}
use Rattle.control_stanza.specs.Faults.{IsFirstFault}
use Rattle.control_stanza.specs.Answers.{Gives, IfFault}
use Rattle.control_stanza.proofs.Found.{found_all}
use Rattle.control_stanza.proofs.Only.{only}
use Rattle.control_stanza.proofs.Least.{first_fault}

module _ {X : Type 0} (bound : Option ℕ) (seen : X → List (ℕ × List Field)) (text : List ℕ) where
  pub found_from : (r : Result X StanzaFault) → Gives seen r (stanzas_of bound text) → IfOk r (λ v. Stanzas bound 1 (lines_of text) (seen v))
  unfolding stanzas_of
  found_from (Ok x) h = found_all bound (lines_of text) (seen x) h
  found_from (Err e) h = tt

  pub only_from : (r : Result X StanzaFault) → Gives seen r (stanzas_of bound text) → (out : List (ℕ × List Field)) → Stanzas bound 1 (lines_of text) out → Gives seen r (Ok out)
  unfolding stanzas_of
  only_from r h out s = subst (Gives seen r) (only bound out 1 (lines_of text) s) h

  pub least_from : (r : Result X StanzaFault) → Gives seen r (stanzas_of bound text) → IfErr r (λ e. IfFault e (λ f. IsFirstFault bound (lines_of text) f))
  unfolding stanzas_of
  least_from (Ok x) h = tt
  least_from (Err OutOfMemory) h = tt
  least_from (Err (At line kind)) h = first_fault bound (lines_of text) _ h
