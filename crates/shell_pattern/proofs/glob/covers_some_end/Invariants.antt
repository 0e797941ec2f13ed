use Rattle.std.proofs.Common.{◌≡◌, length}
use Rattle.std.specs.Str.{chars}
use Rattle.shell_pattern.specs.Glob.{elements_of}
use Rattle.shell_pattern.specs.GlobReading.{covers, any_tail}
use denote.Shadow.{shadow}
use denote.Text.{Utf8}
use Rattle.shell_pattern.proofs.glob.covers_some_end.Given as goal

abbrev pub invariant-stars : goal.invariant-stars
invariant-stars l = record {
  pattern_is : shadow (Utf8 l.pattern.text.now);
  text_is : shadow (Utf8 l.left);
  same : any_tail (covers (elements_of (chars l.pattern.text.now))) (chars l.left) ≡ any_tail (covers (elements_of (chars l.fn.pattern.text.now))) (chars l.text);
}

abbrev pub decreases-stars : goal.decreases-stars
decreases-stars l = length l.pattern.text.now
