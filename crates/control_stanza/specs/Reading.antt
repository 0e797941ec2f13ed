-- Stanzas, line by line, or the first fault.
use Rattle.std.specs.Prelude.{ℕ, ◌+◌, List, [], ◌∷◌, ◌++◌, if◌then◌else◌, Result, Ok, Err, Option, None, Some, length}
use Rattle.control_stanza.specs.declared.fault.StanzaKind.{StanzaKind}
use Rattle.control_stanza.specs.declared.fault.StanzaKind.TheVariants.{StrayContinuation, RepeatedField, TooLong}
use Rattle.control_stanza.specs.declared.begun.Begun.{Begun}
use Rattle.control_stanza.specs.declared.stanza.Field.{Field}
use Rattle.control_stanza.specs.Lines.{LineView, Blank, More, Start, bare, line_of, lines_of}
use Rattle.control_stanza.specs.Fields.{has_name}
use Rattle.control_stanza.specs.Spelled.{within}

-- where a text can't be read, and why
pub record Fault : Type 0 where
  pub line : ℕ
  pub kind : StanzaKind

-- the last field's value goes on
abbrev pub go_on : List Field → List ℕ → List Field
go_on [] more = []
go_on (f ∷ []) more = record f { value = f.value ++ 10 ∷ more } ∷ []
go_on (f ∷ g ∷ gs) more = f ∷ go_on (g ∷ gs) more

-- what one line makes: the stanza that it ends, and the stanza that is begun and not ended behind it
pub record Step : Type 0 where
  pub ended : List (ℕ × List Field)
  pub current : Option Begun

abbrev pub ended_by : Option Begun → List (ℕ × List Field)
ended_by None = []
ended_by (Some s) = (s.number, s.stanza) ∷ []

-- the stanza goes on, if its lines are not too many bytes now
abbrev pub grown : Option ℕ → Begun → Result Step StanzaKind
grown bound s = if within bound s.size then Ok (record { ended = []; current = Some s }) else Err TooLong

abbrev pub added : Option ℕ → ℕ → ℕ → List ℕ → List ℕ → Option Begun → Result Step StanzaKind
added bound n size name value None = grown bound (record { number = n; size = size; stanza = record { name = name; value = value } ∷ [] })
added bound n size name value (Some s) = if has_name s.stanza name then Err RepeatedField else grown bound (record { number = s.number; size = s.size + size; stanza = s.stanza ++ record { name = name; value = value } ∷ [] })

abbrev pub continued : Option ℕ → ℕ → List ℕ → Option Begun → Result Step StanzaKind
continued bound size more None = Err StrayContinuation
continued bound size more (Some s) = grown bound (record { number = s.number; size = s.size + size; stanza = go_on s.stanza more })

abbrev pub step_of : Option ℕ → ℕ → ℕ → Option Begun → LineView → Result Step StanzaKind
step_of bound n size current Blank = Ok (record { ended = ended_by current; current = None })
step_of bound n size current (More more) = continued bound size more current
step_of bound n size current (Start name value) = added bound n size name value current

abbrev pub stepped : Option ℕ → ℕ → ℕ → Option Begun → Result LineView StanzaKind → Result Step StanzaKind
stepped bound n size current (Ok view) = step_of bound n size current view
stepped bound n size current (Err kind) = Err kind

abbrev pub line_step : Option ℕ → ℕ → Option Begun → List ℕ → Result Step StanzaKind
line_step bound n current line = stepped bound n (length line) current (line_of (bare line))

abbrev pub with_ended : List (ℕ × List Field) → Result (List (ℕ × List Field)) Fault → Result (List (ℕ × List Field)) Fault
with_ended ended (Ok more) = Ok (ended ++ more)
with_ended ended (Err fault) = Err fault

-- what a line makes, and what the lines behind it make of the stanza that is begun then
abbrev pub after_step : ℕ → Result Step StanzaKind → (Option Begun → Result (List (ℕ × List Field)) Fault) → Result (List (ℕ × List Field)) Fault
after_step n (Ok step) more = with_ended step.ended (more step.current)
after_step n (Err kind) more = Err (record { line = n; kind = kind })

-- the stanzas of the lines from number n on, or the first fault
abbrev pub stanzas_from : Option ℕ → ℕ → Option Begun → List (List ℕ) → Result (List (ℕ × List Field)) Fault
stanzas_from bound n current [] = Ok (ended_by current)
stanzas_from bound n current (line ∷ lines) = after_step n (line_step bound n current line) (λ c. stanzas_from bound (n + 1) c lines)

unfoldable pub stanzas_of : Option ℕ → List ℕ → Result (List (ℕ × List Field)) Fault
stanzas_of bound text = stanzas_from bound 1 None (lines_of text)

-- how many bytes the lines of the stanza that is begun have
abbrev pub begun_size : Option Begun → ℕ
begun_size None = 0
begun_size (Some s) = s.size
