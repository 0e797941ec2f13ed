use Rattle.std.proofs.Common.{ℕ, ◌≡◌, ◌+◌, ◌-◌, ◌<◌, List, get_or, arith, subst}
use Rattle.std.specs.Str.{IsCharBoundary}
use Rattle.std.proofs.lemmas.Str.{IsCharBoundary-after_ascii}
use Rattle.control_stanza.proofs.line.without_blanks_in_front.Goals as goal

pub range_from-requires : goal.range_from-requires
range_from-requires c =
    λ some. let n = c.blanks_in_front-n.result in
    let e : n - 1 + 1 ≡ n = omega arith in
    let last : get_or c.args.text.now (n - 1) 0 < 128 = subst (λ (l : List ℕ). get_or l (n - 1) 0 < 128) c.as_bytes.ensures.value (c.blanks_in_front-n.ensures.last some) in
    subst (IsCharBoundary c.args.text.now) e (IsCharBoundary-after_ascii c.args.text.now (n - 1) c.utf8.text (omega arith) last)
