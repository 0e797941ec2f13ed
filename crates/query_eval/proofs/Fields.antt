-- Values of fields by name.
use Rattle.std.proofs.Common.{◌≡◌, ℕ, Bool, List, codes, Some, Result, IfOk, Ok, Err, sym, ap, subst, ◌∙◌}
use Rattle.std.proofs.lemmas.Option.{same_Some}
use Rattle.deb_version.specs.declared.order.Relation.{Relation}
use Rattle.package_core.specs.Card.{Card}
use Rattle.query_eval.specs.Truth.{value_in, compares, version_compares}

version_value : (p : Card) (value : List ℕ) → value_in p (codes "$Version") ≡ Some value → p.version ≡ value
unfolding value_in
version_value p value h = same_Some p.version value h

version_named : (p : Card) (asked : Relation) (value text : List ℕ) → value_in p (codes "$Version") ≡ Some value → version_compares asked p.version text ≡ compares (codes "$Version") asked value text
unfolding compares
version_named p asked value text h = ap (λ v. version_compares asked v text) (version_value p value h)

-- `$Version` compares the package's version
pub compares_version : (p : Card) (name : List ℕ) (asked : Relation) (value text : List ℕ) → name ≡ codes "$Version" → value_in p name ≡ Some value → version_compares asked p.version text ≡ compares name asked value text
compares_version p name asked value text e h =
    let P : List ℕ → Type 0 = λ n. value_in p n ≡ Some value → version_compares asked p.version text ≡ compares n asked value text in
    subst P (sym e) (version_named p asked value text) h

pub ok_as : {E : Type 0} (r : Result Bool E) (x y : Bool) → x ≡ y → IfOk r (λ b. b ≡ x) → IfOk r (λ b. b ≡ y)
ok_as (Ok b) x y e h = h ∙ e
ok_as (Err e) x y same h = tt
