-- Queries read piece by piece: the tree, or the first fault and its place.
use Rattle.std.specs.Prelude.{ℕ, suc, zero, ◌+◌, ◌-◌, Bool, ◌&&◌, ◌==◌, List, [], ◌∷◌, ◌++◌, length, Option, Some, None, if◌then◌else◌}
use Rattle.std.specs.List.{before_first, after_first}
use Rattle.ap_text.specs.Names.{is_architecture}
use Rattle.deb_version.specs.VersionText.{is_version}
use Rattle.deb_version.specs.declared.order.Relation.{Relation}
use Rattle.deb_version.specs.declared.order.Relation.TheVariants as relation
use Rattle.query_tree.specs.declared.query.Test.{Test}
use Rattle.query_tree.specs.declared.query.Test.TheVariants as test
use Rattle.query_grammar.specs.declared.term.Begun.{Begun}
use Rattle.query_grammar.specs.declared.term.Begun.TheVariants.{Package, PackageOpened, Compared, Versioned, Related, Braced, Bound, Field, FieldOpened, Tested, Valued}
use Rattle.query_grammar.specs.declared.level.Next.{Next}
use Rattle.query_grammar.specs.declared.level.Next.TheVariants.{Wanting, Having, Within}
use Rattle.query_grammar.specs.declared.fault.QueryKind.{QueryKind}
use Rattle.query_grammar.specs.declared.fault.QueryKind.TheVariants.{TooDeep, WantTerm, BadOperator, BadVersion, WantClose, WantValue, Trailing}
use Rattle.query_tree.specs.Tree.{Tree, reference, wanted, field, negated}
use Rattle.query_tree.specs.Pieces.{Piece, Token, token, gap, word, operator, lone, quoted, broken, mark, pieces}
use Rattle.query_tree.specs.Words.{is_package, is_plain_version, is_field, is_underscore, relation_of, may_test}
use Rattle.query_tree.specs.Grammar.{all_of, any_of}

-- what a piece makes of a term: it goes on, it is whole with the piece, it was whole before, or the piece is wrong
pub data Progress : Type 0 where
  goes_on : Begun → Progress
  whole : Tree → Progress
  ended : Tree → Progress
  wrong : QueryKind → Progress

abbrev pub name_in : List ℕ → List ℕ
name_in text = before_first is_underscore text

abbrev pub version_in : List ℕ → List ℕ
version_in text = before_first is_underscore (after_first is_underscore text)

abbrev pub arch_in : List ℕ → List ℕ
arch_in text = after_first is_underscore (after_first is_underscore text)

-- the text is `name_version_arch`
unfoldable pub is_reference : List ℕ → Bool
is_reference text = is_package (name_in text) && is_plain_version (version_in text) && is_architecture (arch_in text)

-- the same by the parts between the first two `_`
abbrev pub reference_in : List ℕ → List ℕ → List ℕ → Progress
reference_in name version arch = if is_package name && is_version version && is_architecture arch then whole (reference name version arch) else wrong WantTerm

-- a word that is no name of a package or of a field
abbrev pub as_reference : List ℕ → Progress
as_reference text = if is_reference text then whole (reference (name_in text) (version_in text) (arch_in text)) else wrong WantTerm

-- a word where a term must begin
unfoldable pub begun : List ℕ → Progress
begun text =
    if is_package text then goes_on (Package text)
    else if is_field text then goes_on (Field text)
    else as_reference text

abbrev pub versioned : List ℕ → Relation → List ℕ → Progress
versioned name asked version = if is_version version then goes_on (Versioned name asked version) else wrong BadVersion

-- a piece where a version must stand
abbrev pub version_at : List ℕ → Relation → Token → Progress
version_at name asked (word bytes) = versioned name asked bytes
version_at name asked (quoted value) = wrong BadVersion
version_at name asked broken = wrong WantClose
version_at name asked t = wrong WantValue

abbrev pub compared : List ℕ → Option Relation → Progress
compared name None = wrong BadOperator
compared name (Some asked) = goes_on (Compared name asked)

-- a piece behind the `(` of a wanted package
abbrev pub relation_at : List ℕ → Token → Progress
relation_at name (operator how) = compared name (relation_of how)
relation_at name lone = wrong BadOperator
relation_at name t = version_at name relation.Equal t

abbrev pub valued : List ℕ → Test → List ℕ → Progress
valued name how value = if may_test name how value then goes_on (Valued name how value) else wrong BadVersion

-- a piece where a value must stand
abbrev pub value_at : List ℕ → Test → Token → Progress
value_at name how (word bytes) = valued name how bytes
value_at name how (quoted value) = valued name how value
value_at name how broken = wrong WantClose
value_at name how t = wrong WantValue

-- a piece behind the `(` of a field
abbrev pub test_at : List ℕ → Token → Progress
test_at name (operator how) = goes_on (Tested name how)
test_at name lone = wrong BadOperator
test_at name t = value_at name test.Equal t

-- a piece where an architecture must stand
abbrev pub arch_at : List ℕ → Option (Relation × List ℕ) → Token → Progress
arch_at name asked (word bytes) = if is_architecture bytes then goes_on (Bound name asked bytes) else wrong WantValue
arch_at name asked t = wrong WantValue

-- a piece where only one mark may stand
abbrev pub closed_by : ℕ → Progress → Token → Progress
closed_by c next (mark d) = if d == c then next else wrong WantClose
closed_by c next t = wrong WantClose

abbrev pub braces_or : List ℕ → Option (Relation × List ℕ) → Token → Progress
braces_or name asked (mark c) = if c == 123 then goes_on (Braced name asked) else ended (wanted name asked None)
braces_or name asked t = ended (wanted name asked None)

-- a piece behind the name of a wanted package
abbrev pub package_at : List ℕ → Token → Progress
package_at name (mark c) = if c == 40 then goes_on (PackageOpened name) else braces_or name None (mark c)
package_at name t = ended (wanted name None None)

-- a piece behind the name of a field
abbrev pub field_at : List ℕ → Token → Progress
field_at name (mark c) = if c == 40 then goes_on (FieldOpened name) else ended (field name None)
field_at name t = ended (field name None)

-- a piece in a term
unfoldable pub progress : Begun → Token → Progress
progress (Package name) t = package_at name t
progress (PackageOpened name) t = relation_at name t
progress (Compared name asked) t = version_at name asked t
progress (Versioned name asked version) t = closed_by 41 (goes_on (Related name asked version)) t
progress (Related name asked version) t = braces_or name (Some (asked, version)) t
progress (Braced name asked) t = arch_at name asked t
progress (Bound name asked arch) t = closed_by 125 (whole (wanted name asked (Some arch))) t
progress (Field name) t = field_at name t
progress (FieldOpened name) t = test_at name t
progress (Tested name how) t = value_at name how t
progress (Valued name how value) t = closed_by 41 (whole (field name (Some (how, value)))) t

-- the end of the text in a term
unfoldable pub at_end : Begun → Progress
at_end (Package name) = ended (wanted name None None)
at_end (PackageOpened name) = wrong WantValue
at_end (Compared name asked) = wrong WantValue
at_end (Versioned name asked version) = wrong WantClose
at_end (Related name asked version) = ended (wanted name (Some (asked, version)) None)
at_end (Braced name asked) = wrong WantValue
at_end (Bound name asked arch) = wrong WantClose
at_end (Field name) = ended (field name None)
at_end (FieldOpened name) = wrong WantValue
at_end (Tested name how) = wrong WantValue
at_end (Valued name how value) = wrong WantClose

-- what stands of a query or of a group in it
pub record Level : Type 0 where
  -- whole members of the `any`, each with its `|`
  pub alternatives : List Tree
  -- whole members of the `all` that is read
  pub members : List Tree
  -- each `!` before the member that is read
  pub negations : ℕ
  -- how many levels may still begin here
  pub room : ℕ

-- what stands of a query: the groups around, the innermost first, and the innermost
pub record State : Type 0 where
  pub outer : List Level
  pub level : Level
  pub next : Next

pub data Step : Type 0 where
  goes : State → Step
  stops : QueryKind → Step

abbrev pub negate : ℕ → Tree → Tree
negate zero t = t
negate (suc n) t = negated (negate n t)

-- a level with one more whole member
abbrev pub with_member : Level → Tree → Level
with_member l t = record { alternatives = l.alternatives; members = l.members ++ negate l.negations t ∷ []; negations = 0; room = l.room + l.negations }

abbrev pub with_alternative : Level → Level
with_alternative l = record { alternatives = l.alternatives ++ all_of l.members ∷ []; members = []; negations = l.negations; room = l.room }

abbrev pub whole_level : Level → Tree
whole_level l = any_of (l.alternatives ++ all_of l.members ∷ [])

abbrev pub empty_level : ℕ → Level
empty_level room = record { alternatives = []; members = []; negations = 0; room = room }

abbrev pub having_one : List Level → Level → Tree → State
having_one outer l t = record { outer = outer; level = with_member l t; next = Having }

-- the kind of what can't follow a whole member
abbrev pub after_whole : List Level → QueryKind
after_whole [] = Trailing
after_whole (l ∷ ls) = WantClose

-- a `)` behind a whole member
abbrev pub closed_group : List Level → Level → Step
closed_group [] inner = stops Trailing
closed_group (l ∷ ls) inner = goes (having_one ls l (whole_level inner))

-- a piece behind a whole member
unfoldable pub step_having : List Level → Level → Token → Step
step_having outer l (mark c) =
    if c == 44 then goes (record { outer = outer; level = l; next = Wanting })
    else if c == 124 then goes (record { outer = outer; level = with_alternative l; next = Wanting })
    else if c == 41 then closed_group outer l
    else stops (after_whole outer)
step_having outer l t = stops (after_whole outer)

abbrev pub step_progress : List Level → Level → Token → Progress → Step
step_progress outer l here (goes_on b) = goes (record { outer = outer; level = l; next = Within b })
step_progress outer l here (whole t) = goes (having_one outer l t)
step_progress outer l here (ended t) = step_having outer (with_member l t) here
step_progress outer l here (wrong kind) = stops kind

-- a `!` where a term must begin
abbrev pub begin_negation : List Level → Level → ℕ → Step
begin_negation outer l zero = stops TooDeep
begin_negation outer l (suc room) =
    goes (record { outer = outer; level = record { alternatives = l.alternatives; members = l.members; negations = suc l.negations; room = room }; next = Wanting })

-- a level behind one `!` more
abbrev pub negated_level : Level → Level
negated_level l = record { alternatives = l.alternatives; members = l.members; negations = suc l.negations; room = l.room - 1 }

-- a `(` there
abbrev pub begin_group : List Level → Level → ℕ → Step
begin_group outer l zero = stops TooDeep
begin_group outer l (suc room) = goes (record { outer = l ∷ outer; level = empty_level room; next = Wanting })

-- a piece where a term must begin
unfoldable pub step_wanting : List Level → Level → Token → Step
step_wanting outer l (word bytes) = step_progress outer l (word bytes) (begun bytes)
step_wanting outer l (mark c) =
    if c == 33 then begin_negation outer l l.room else if c == 40 then begin_group outer l l.room else stops WantTerm
step_wanting outer l t = stops WantTerm

abbrev pub step_next : List Level → Level → Next → Token → Step
step_next outer l Wanting t = step_wanting outer l t
step_next outer l Having t = step_having outer l t
step_next outer l (Within b) t = step_progress outer l t (progress b t)

-- a piece
unfoldable pub step : State → Token → Step
step s gap = goes s
step s t = step_next s.outer s.level s.next t

-- what a text is read as
pub data Reading : Type 0 where
  tree : Tree → Reading
  fault : ℕ → QueryKind → Reading

abbrev pub finish_having : ℕ → List Level → Level → Reading
finish_having at [] l = tree (whole_level l)
finish_having at (o ∷ os) l = fault at WantClose

abbrev pub finish_progress : ℕ → List Level → Level → Progress → Reading
finish_progress at outer l (goes_on b) = fault at WantClose
finish_progress at outer l (whole t) = finish_having at outer (with_member l t)
finish_progress at outer l (ended t) = finish_having at outer (with_member l t)
finish_progress at outer l (wrong kind) = fault at kind

-- the end of the text
unfoldable pub finish : ℕ → State → Reading
finish at s = elim s.next [ Wanting ↦ fault at WantTerm | Having ↦ finish_having at s.outer s.level | Within b ↦ finish_progress at s.outer s.level (at_end b) ]

-- the state before the first piece
abbrev pub start : ℕ → State
start levels = record { outer = []; level = empty_level levels; next = Wanting }

-- the pieces behind a place
abbrev pub run : ℕ → State → List Piece → Reading
run at s [] = finish at s
run at s (p ∷ ps) = elim (step s (token p.shape p.bytes)) [ goes t ↦ run (at + length p.bytes) t ps | stops kind ↦ fault at kind ]

-- what the text is read as, in at most 64 levels
unfoldable pub reading : List ℕ → Reading
reading text = run 0 (start 64) (pieces text)
