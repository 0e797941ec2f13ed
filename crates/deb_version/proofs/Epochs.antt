-- The digits of an epoch.
use Rattle.std.proofs.Common.{◌≡◌, ℕ, ◌<◌, Bool, true, false, cond, ◌&&◌, not, List, [], ◌∷◌, Option, Some, None, unwrap_or, IsTrue, refl, sym, arith, subst}
use Rattle.std.specs.Char.{digit_value}
use Rattle.std.specs.List.{list_all}
use Rattle.std.specs.Option.{option_copied}
use Rattle.std.specs.Str.Parse.{AllDigits}
use Rattle.std.proofs.lemmas.Bool.Decides.{nat_tests}
use denote.Ref.{Bor}
use Rattle.deb_version.specs.Cuts.{is_digit}
use Rattle.std.specs.Prelude.{is_none}
use Rattle.deb_version.specs.VersionText.{epoch_of, is_epoch, has_bad_epoch, fault_of, is_version}
use Rattle.deb_version.specs.declared.text.VersionFault.{VersionFault}

digit_by : (c : ℕ) → is_digit c ≡ true → digit_value c < 10
unfolding is_digit
digit_by c h = grind (arith, nat_tests)

all_by : (c : ℕ) (cs : List ℕ) (b : Bool) → is_digit c ≡ b → (list_all is_digit cs ≡ true → AllDigits 10 cs) → (b && list_all is_digit cs) ≡ true → AllDigits 10 (c ∷ cs)
all_by c cs true h more e = (digit_by c h, more e)
all_by c cs false h more e = cc

pub all_digits_are : (cs : List ℕ) → list_all is_digit cs ≡ true → AllDigits 10 cs
all_digits_are [] h = tt
all_digits_are (c ∷ cs) h = all_by c cs (is_digit c) refl (all_digits_are cs) h

middle : (a b c : Bool) → ((a && b) && c) ≡ true → b ≡ true
middle true b true h = grind arith
middle true b false h = grind arith
middle false b c h = grind arith

epoch_is_digits : (ds : List ℕ) → is_epoch ds ≡ true → AllDigits 10 ds
unfolding is_epoch
epoch_is_digits ds h = all_digits_are ds (middle _ (list_all is_digit ds) _ h)

no_fault : (b : Bool) (e : VersionFault) (others : Option VersionFault) → is_none (cond b (Some e) others) ≡ true → b ≡ false
no_fault true e others h = cc
no_fault false e others h = refl

good_epoch : (text : List ℕ) → IsTrue (is_version text) → has_bad_epoch text ≡ false
unfolding is_version fault_of
good_epoch text h = no_fault (has_bad_epoch text) _ _ h

not_false : (b : Bool) → not b ≡ false → b ≡ true
not_false true h = refl
not_false false h = cc

-- an epoch that is written, or else no digit
pub epoch_digits : (text : List ℕ) (o : Option (Bor (List ℕ))) (d : Bor (List ℕ)) → option_copied o ≡ epoch_of text → IsTrue (is_version text) → d.now ≡ [] → AllDigits 10 (unwrap_or o d).now
epoch_digits text None d e h n = subst (AllDigits 10) (sym n) tt
epoch_digits text (Some x) d e h n =
    let good : has_bad_epoch text ≡ false = good_epoch text h in
    epoch_is_digits x.now (not_false _ (rw (← e) at good))
