-- The lines of refusals, as bytes.
use Rattle.std.specs.Prelude.{ℕ, List, ◌++◌, codes}
use Rattle.std.specs.Fmt.{decimal}
use Rattle.machine_state.specs.declared.refusal.Refusal.{Refusal}
use Rattle.machine_state.specs.declared.refusal.Refusal.TheVariants.{NotBuilt, BadName, Exists, Unknown, BadQuery, BadPattern, PatternTooLarge, NotUpdated, InUse, AlreadyPublished, NotPublished, NoDistribution, InputAbsent, InputMalformed, InputMismatch, Conflict, NoArchitectures, FileClash, Limit}
use Rattle.machine_state.specs.Limits.{limit_number}
use Rattle.reply_text.specs.Words.{line, kind_word, limit_word, what_word, prefix_word, shown}

-- why a command is refused, in words
unfoldable pub refusal_text : Refusal → List ℕ
refusal_text NotBuilt = codes "not built"
refusal_text (BadName text) = codes "bad name " ++ shown text
refusal_text (Exists kind name) = kind_word kind ++ (codes " " ++ (name ++ codes " exists"))
refusal_text (Unknown kind name) = kind_word kind ++ (codes " " ++ (name ++ codes " unknown"))
refusal_text (BadQuery query place) = codes "bad query " ++ (decimal query ++ (codes " at " ++ decimal place))
refusal_text (BadPattern query test) = codes "bad pattern " ++ (decimal test ++ (codes " in query " ++ decimal query))
refusal_text (PatternTooLarge query test) = codes "pattern " ++ (decimal test ++ (codes " in query " ++ (decimal query ++ codes " too large")))
refusal_text (NotUpdated name) = codes "mirror " ++ (name ++ codes " was never updated")
refusal_text (InUse kind name prefix dist) = kind_word kind ++ (codes " " ++ (name ++ (codes " is used by " ++ (prefix_word prefix ++ (codes " " ++ dist)))))
refusal_text (AlreadyPublished prefix dist) = prefix_word prefix ++ (codes " " ++ (dist ++ codes " is published already"))
refusal_text (NotPublished prefix dist) = codes "no such publication " ++ (prefix_word prefix ++ (codes " " ++ dist))
refusal_text NoDistribution = codes "no distribution"
refusal_text (InputAbsent path) = codes "input " ++ (path ++ codes " absent")
refusal_text (InputMalformed path at) = codes "input " ++ (path ++ (codes " malformed at line " ++ decimal at))
refusal_text (InputMismatch path what said found) = codes "input " ++ (path ++ (codes " has " ++ (what_word what ++ (codes " " ++ (found ++ (codes ", not " ++ said))))))
refusal_text (Conflict triple) = codes "conflict on " ++ triple
refusal_text NoArchitectures = codes "no architectures"
refusal_text (FileClash path) = codes "other file stands at " ++ path
refusal_text (Limit limit) = codes "over the limit of " ++ (decimal (limit_number limit) ++ (codes " " ++ limit_word limit))

-- `ERROR: repo local exists`
unfoldable pub refusal_line : Refusal → List ℕ
refusal_line refusal = line (codes "ERROR: " ++ refusal_text refusal)

-- `ERROR: usage at word 2`
unfoldable pub usage_line : ℕ → List ℕ
usage_line place = line (codes "ERROR: usage at word " ++ decimal place)
