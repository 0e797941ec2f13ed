use Rattle.std.proofs.Common.{◌≡◌, ◌+◌, ◌≤◌, length}
use Rattle.std.specs.Option.{option_map}
use Rattle.std.specs.Str.{chars}
use Rattle.shell_pattern.specs.Glob.{elements_of}
use Rattle.shell_pattern.specs.GlobSearch.{characters}
use denote.Shadow.{shadow}
use denote.Text.{Utf8}
use Rattle.shell_pattern.proofs.last.characters_of.Given as goal

abbrev pub invariant-elements : goal.invariant-elements
invariant-elements l = record {
  is_text : shadow (Utf8 l.pattern.text.now);
  same : option_map (λ n. l.count + n) (characters (elements_of (chars l.pattern.text.now))) ≡ characters (elements_of (chars l.fn.pattern.text.now));
  shorter : l.count + length l.pattern.text.now ≤ length l.fn.pattern.text.now;
}

abbrev pub decreases-elements : goal.decreases-elements
decreases-elements l = length l.pattern.text.now
