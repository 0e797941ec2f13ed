use Rattle.std.proofs.Common.{◌≡◌, ◌≤◌, length}
use Rattle.std.specs.Str.{chars}
use Rattle.shell_pattern.specs.Glob.{elements_of}
use Rattle.shell_pattern.specs.GlobReading.{front}
use denote.Shadow.{shadow}
use denote.Text.{Utf8}
use Rattle.shell_pattern.proofs.glob.front_of.Given as goal

abbrev pub invariant-elements : goal.invariant-elements
invariant-elements l = record {
  pattern_is : shadow (Utf8 l.pattern.text.now);
  text_is : shadow (Utf8 l.left);
  same : front (elements_of (chars l.pattern.text.now)) (chars l.left) ≡ front (elements_of (chars l.fn.pattern.text.now)) (chars l.text);
  shorter : length l.pattern.text.now ≤ length l.fn.pattern.text.now;
  left : length l.left ≤ length l.text;
}

abbrev pub decreases-elements : goal.decreases-elements
decreases-elements l = length l.pattern.text.now
