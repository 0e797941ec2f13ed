use Rattle.std.proofs.Common.{◌≡◌, ◌+◌, drop}
use Rattle.std.specs.List.{prefix_len}
use Rattle.deb_version.specs.Cuts.{is_non_digit}
use Rattle.deb_version.proofs.runs.non_digits_len.Given as goal

abbrev pub invariant-loop-c : goal.invariant-loop-c
invariant-loop-c l = (l.n ≡ l.c-index) × (l.n + prefix_len is_non_digit (drop l.c-index l.a) ≡ prefix_len is_non_digit l.a)
