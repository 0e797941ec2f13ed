use Rattle.std.proofs.Common.{◌≡◌, ◌≤◌, length, drop}
use Rattle.std.specs.Str.{chars}
use denote.Shadow.{shadow}
use denote.Text.{Utf8}
use Rattle.shell_pattern.proofs.last.behind_characters.Given as goal

abbrev pub invariant-loop : goal.invariant-loop
invariant-loop l = record {
  is_text : shadow (Utf8 l.left);
  dropped : chars l.left ≡ drop l.counter (chars l.text);
  within : l.counter ≤ length (chars l.text);
}
