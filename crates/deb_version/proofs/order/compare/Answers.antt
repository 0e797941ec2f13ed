use Rattle.std.proofs.Common.{List, ℕ, refl, sym, subst}
use Rattle.std.specs.Str.Parse.{AllDigits}
use denote.Ref.{Bor}
use Rattle.deb_version.proofs.Epochs.{epoch_digits}
use Rattle.deb_version.proofs.order.compare.Goals as goal

pub compare_numbers-order-requires-clause-first : goal.compare_numbers-order-requires-clause-first
compare_numbers-order-requires-clause-first c =
    subst (λ (r : Bor (List ℕ)). AllDigits 10 r.now) (sym c.unwrap_or.ensures) (epoch_digits c.as_bytes.result.now c.split_epoch.result.0 _ c.split_epoch.ensures.epoch (rw (c.as_bytes.ensures.value, c.as_str.ensures.text) c.as_str.ensures.version) refl)

pub compare_numbers-order-requires-clause-second : goal.compare_numbers-order-requires-clause-second
compare_numbers-order-requires-clause-second c =
    subst (λ (r : Bor (List ℕ)). AllDigits 10 r.now) (sym c.unwrap_or-2.ensures) (epoch_digits c.as_bytes-2.result.now c.split_epoch-2.result.0 _ c.split_epoch-2.ensures.epoch (rw (c.as_bytes-2.ensures.value, c.as_str-2.ensures.text) c.as_str-2.ensures.version) refl)
