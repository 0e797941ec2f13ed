use Rattle.std.proofs.Common.{◌≡◌, true, length}
use Rattle.std.specs.Str.{chars}
use Rattle.shell_pattern.specs.Glob.{class_letters, is_in}
use Rattle.shell_pattern.specs.GlobReading.{held_letters}
use denote.Shadow.{shadow}
use denote.Text.{Utf8}
use Rattle.shell_pattern.proofs.class.is_in_class.Given as goal

abbrev pub invariant-letters : goal.invariant-letters
invariant-letters l = record {
  is_text : shadow (Utf8 l.left);
  same : is_in (held_letters l.held (class_letters l.first (chars l.left))) l.c ≡ is_in (class_letters true (chars l.text)) l.c;
}

abbrev pub decreases-letters : goal.decreases-letters
decreases-letters l = length l.left
