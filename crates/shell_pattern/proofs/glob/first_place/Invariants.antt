use Rattle.std.proofs.Common.{◌≡◌, ◌≤◌, length}
use Rattle.std.specs.Str.{chars}
use Rattle.shell_pattern.specs.Glob.{elements_of}
use Rattle.shell_pattern.specs.GlobReading.{covers, any_tail}
use denote.Shadow.{shadow}
use denote.Text.{Utf8}
use Rattle.shell_pattern.proofs.glob.first_place.Given as goal

abbrev pub invariant-starts : goal.invariant-starts
invariant-starts l = record {
  text_is : shadow (Utf8 l.left);
  same : any_tail (covers (elements_of (chars l.fn.pattern.text.now))) (chars l.left) ≡ any_tail (covers (elements_of (chars l.fn.pattern.text.now))) (chars l.text);
  left : length l.left ≤ length l.text;
}

abbrev pub decreases-starts : goal.decreases-starts
decreases-starts l = length l.left
