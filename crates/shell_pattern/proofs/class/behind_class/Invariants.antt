use Rattle.std.proofs.Common.{◌≡◌, ◌≤◌, length}
use Rattle.std.specs.Str.{chars}
use Rattle.shell_pattern.specs.Glob.{class_end}
use denote.Shadow.{shadow}
use denote.Text.{Utf8}
use Rattle.shell_pattern.proofs.class.behind_class.Given as goal

abbrev pub invariant-letters : goal.invariant-letters
invariant-letters l = record {
  is_text : shadow (Utf8 l.left);
  same : class_end l.first (chars l.left) ≡ class_end l.begins (chars l.text);
  shorter : length l.left ≤ length l.text;
}

abbrev pub decreases-letters : goal.decreases-letters
decreases-letters l = length l.left
