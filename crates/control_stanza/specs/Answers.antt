-- How code answers what a definition gives.
use Rattle.std.specs.Prelude.{◌≡◌, Result, Ok, Err, Option}
use Rattle.control_stanza.specs.declared.fault.StanzaKind.{StanzaKind}
use Rattle.control_stanza.specs.declared.fault.StanzaFault.{StanzaFault}
use Rattle.control_stanza.specs.declared.fault.StanzaFault.TheVariants.{At, OutOfMemory}
use Rattle.control_stanza.specs.declared.line.Line.{Line}
use Rattle.control_stanza.specs.declared.line.Line.TheVariants as lines
use Rattle.control_stanza.specs.declared.fault.StepError.{StepError}
use Rattle.control_stanza.specs.declared.fault.StepError.TheVariants as steps
use Rattle.control_stanza.specs.declared.begun.Begun.{Begun}
use Rattle.control_stanza.specs.Reading.{Fault, Step, ended_by}
use Rattle.control_stanza.specs.Lines.{LineView, Blank, More, Start}

-- a line without where it lies in memory
abbrev pub view : Line → LineView
view lines.Blank = Blank
view (lines.More text) = More text.now
view (lines.Start name value) = Start name.now value.now

abbrev pub Fails : {Y : Type 0} → StanzaFault → Result Y Fault → Type 0
Fails OutOfMemory read = Unit {0}
Fails (At line kind) read = read ≡ Err (record { line = line; kind = kind })

-- the call gives what reading gives, unless memory runs out
abbrev pub Gives : {X Y : Type 0} → (X → Y) → Result X StanzaFault → Result Y Fault → Type 0
Gives seen (Ok x) read = read ≡ Ok (seen x)
Gives seen (Err e) read = Fails e read

abbrev pub FailsStep : {Y : Type 0} → StepError → Result Y StanzaKind → Type 0
FailsStep steps.OutOfMemory step = Unit {0}
FailsStep (steps.Shows kind) step = step ≡ Err kind

-- the call does what one line makes, unless memory runs out
abbrev pub GivesStep : {X : Type 0} → (X → Step) → Result X StepError → Result Step StanzaKind → Type 0
GivesStep seen (Ok x) step = step ≡ Ok (seen x)
GivesStep seen (Err e) step = FailsStep e step

-- the stanza that was ended, and the one that is begun
abbrev pub step_seen : Option Begun × Option Begun → Step
step_seen p = record { ended = ended_by p.0; current = p.1 }

-- a fact of the place and the kind; want of memory has neither
abbrev pub IfFault : StanzaFault → (Fault → Type 0) → Type 0
IfFault OutOfMemory P = Unit {0}
IfFault (At line kind) P = P (record { line = line; kind = kind })
