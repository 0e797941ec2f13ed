-- What the words of a query are: references, names of packages and of fields, architectures, versions.
use Rattle.std.specs.Prelude.{◌≡◌, ℕ, Bool, true, false, not, ◌&&◌, ◌||◌, ◌==◌, nat_le, List, ◌∷◌, ◌++◌, slice_index, bytes_eq, codes, IsTrue, Option, Some, None}
use Rattle.std.specs.List.{list_all}
use Rattle.ap_text.specs.Names.{is_name, is_architecture}
use Rattle.deb_version.specs.VersionText.{is_version}
use Rattle.deb_version.specs.declared.order.Relation.{Relation}
use Rattle.deb_version.specs.declared.order.Relation.TheVariants.{Earlier, EarlierEqual, Equal, LaterEqual, Later}
use Rattle.query_tree.specs.declared.query.Test.{Test}
use Rattle.query_tree.specs.declared.query.Test.TheVariants.{Less, LessEqual, GreaterEqual, Greater, Glob, Pattern}
use Rattle.query_tree.specs.declared.query.Test.TheVariants as test

abbrev pub is_underscore : ℕ → Bool
is_underscore c = c == 95

abbrev pub is_lower_or_digit : ℕ → Bool
is_lower_or_digit c = (nat_le 97 c && nat_le c 122) || (nat_le 48 c && nat_le c 57)

abbrev pub has_no_underscore : List ℕ → Bool
has_no_underscore text = list_all (λ c. not (c == 95)) text

-- 1 to 200 bytes of letters, digits, `+ - .`, the first a lower case letter or a digit
unfoldable pub is_package : List ℕ → Bool
is_package text = is_name text && has_no_underscore text && is_lower_or_digit (slice_index text 0)

-- one of the five special fields
abbrev pub is_special_field : List ℕ → Bool
is_special_field text =
    bytes_eq text (codes "$Source") || bytes_eq text (codes "$SourceVersion") || bytes_eq text (codes "$Architecture")
    || bytes_eq text (codes "$Version") || bytes_eq text (codes "$PackageType")

abbrev pub is_upper : ℕ → Bool
is_upper c = nat_le 65 c && nat_le c 90

-- a word that begins with an upper case letter, or a special field
unfoldable pub is_field : List ℕ → Bool
is_field text = is_upper (slice_index text 0) || is_special_field text

-- a version that may stand in a reference, where `_` parts it from what follows; no version has one
unfoldable pub is_plain_version : List ℕ → Bool
is_plain_version text = is_version text && has_no_underscore text

-- the word `name_version_arch`
pub record IsReference (text name version arch : List ℕ) : Type 0 where
  pub parts : text ≡ name ++ 95 ∷ (version ++ 95 ∷ arch)
  pub named : IsTrue (is_package name)
  pub dated : IsTrue (is_plain_version version)
  pub bound : IsTrue (is_architecture arch)

-- the relation that an operator asks for
abbrev pub relation_of : Test → Option Relation
relation_of test.Equal = Some Equal
relation_of Less = Some Earlier
relation_of LessEqual = Some EarlierEqual
relation_of GreaterEqual = Some LaterEqual
relation_of Greater = Some Later
relation_of Glob = None
relation_of Pattern = None

abbrev pub is_comparing : Test → Bool
is_comparing Glob = false
is_comparing Pattern = false
is_comparing test = true

-- a comparing test of `$Version` wants a version as its value
unfoldable pub wants_version : List ℕ → Test → Bool
wants_version field how = bytes_eq field (codes "$Version") && is_comparing how

-- the value may stand in the test of the field
unfoldable pub may_test : List ℕ → Test → List ℕ → Bool
may_test field how value = not (wants_version field how) || is_version value
