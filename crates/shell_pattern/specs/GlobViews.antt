-- What the code's elements stand for.
use Rattle.std.specs.Prelude.{ℕ, ◌≤◌, ◌<◌, length, true, List}
use Rattle.std.specs.Str.{chars}
use Rattle.shell_pattern.specs.declared.element.Element.{Element}
use Rattle.shell_pattern.specs.declared.element.Element.TheVariants.{Run, One, Exactly, Class}
use Rattle.shell_pattern.specs.declared.glob.Front.{Front}
use Rattle.shell_pattern.specs.declared.glob.Front.TheVariants.{Whole, Star, Fails}
use Rattle.shell_pattern.specs.Glob as glob
use Rattle.shell_pattern.specs.GlobReading as reading

abbrev pub element_view : Element → glob.Element
element_view Run = glob.run
element_view One = glob.any_one
element_view (Exactly c) = glob.exactly c
element_view (Class negated letters) = glob.class negated (glob.class_letters true (chars letters.now))

abbrev pub begun_view : Element → List ℕ → glob.Element × List ℕ
begun_view e rest = (element_view e, chars rest)

abbrev pub front_view : Front → reading.Front
front_view Whole = reading.whole
front_view (Star pattern text) = reading.star (glob.elements_of (chars pattern.text.now)) (chars text.now)
front_view Fails = reading.fails

abbrev pub IsNearer : Front → List ℕ → List ℕ → Type 0
IsNearer Whole pattern text = Unit {0}
IsNearer (Star behind rest) pattern text = (length behind.text.now < length pattern) × (length rest.now ≤ length text)
IsNearer Fails pattern text = Unit {0}
