-- When a query is true of a package (aptly manual, package query syntax).
use Rattle.std.specs.Prelude.{ℕ, Bool, true, false, not, ◌&&◌, ◌||◌, bytes_eq, List, length, nat_lt, codes, Option, Some, None, is_some, if◌then◌else◌}
use Rattle.std.specs.Ordering.{nat_cmp}
use Rattle.std.specs.Cmp.Lexicographic.{slice_cmp}
use Rattle.std.specs.Str.{chars}
use Rattle.control_stanza.specs.Fields.{value_of}
use Rattle.deb_version.specs.declared.order.Relation.{Relation}
use Rattle.deb_version.specs.declared.order.Relation.TheVariants as relation
use Rattle.deb_version.specs.VersionOrder.{holds, meets}
use Rattle.deb_version.specs.VersionText.{is_version}
use Rattle.package_core.specs.Card.{Card, source_of}
use Rattle.package_core.specs.Fields.{is_of_file}
use Rattle.package_core.specs.Architecture.{is_for}
use Rattle.package_relations.specs.Satisfies.{is_wanted}
use Rattle.query_tree.specs.declared.query.Test.{Test}
use Rattle.query_tree.specs.declared.query.Test.TheVariants.{Equal, Less, LessEqual, GreaterEqual, Greater, Glob, Pattern}
use Rattle.query_tree.specs.Tree.{Tree, Trees, any, all, negated, reference, wanted, field, nil, cons}
use Rattle.regex.specs.Patterns.{Re, find_str, default_config}
use Rattle.regex_syntax.specs.Brackets.{Nested}
use Rattle.regex_syntax.specs.Grammar.{Names, read}
use Rattle.shell_pattern.specs.GlobReading.{is_globbed}

-- The value of a field, if it is there. Names that begin with `$` are of the package and not of its stanza. The fields
-- that speak of the file are no part of a package.
unfoldable pub value_in : Card → List ℕ → Option (List ℕ)
value_in p name =
    if bytes_eq name (codes "Name") || bytes_eq name (codes "Package") then Some p.name
    else if bytes_eq name (codes "$Version") then Some p.version
    else if bytes_eq name (codes "$Architecture") then Some p.arch
    else if bytes_eq name (codes "$Source") then Some (source_of p).0
    else if bytes_eq name (codes "$SourceVersion") then Some (source_of p).1
    else if bytes_eq name (codes "$PackageType") then Some (codes "deb")
    else if is_of_file name then None
    else value_of p.stanza name

-- A version stands in the relation to a text that is a version, by the order of versions.
abbrev pub version_compares : Relation → List ℕ → List ℕ → Bool
version_compares asked version text = is_version text && meets version asked text

-- `=` asks for an architecture, and is true of a package for all of them
abbrev pub is_for_all : Relation → List ℕ → Bool
is_for_all relation.Equal arch = bytes_eq arch (codes "all")
is_for_all relation.Earlier arch = false
is_for_all relation.EarlierEqual arch = false
is_for_all relation.LaterEqual arch = false
is_for_all relation.Later arch = false

-- by bytes
abbrev pub text_compares : Relation → List ℕ → List ℕ → Bool
text_compares asked value text = holds asked (slice_cmp nat_cmp value text)

-- The value of a field stands in the relation to a text: `$Version` by the order of versions, all others by bytes; `=`
-- of `$Architecture` also where the package is for all architectures.
unfoldable pub compares : List ℕ → Relation → List ℕ → List ℕ → Bool
compares name asked value text =
    if bytes_eq name (codes "$Version") then version_compares asked value text
    else if bytes_eq name (codes "$Architecture") then is_for_all asked value || text_compares asked value text
    else text_compares asked value text

-- what is found of a pattern that was read
abbrev pub finds : Option (Nested Re × Names) → List ℕ → Bool
finds None value = false
finds (Some (re, names)) value = is_some (find_str re.value value 0)

-- what `regex` reads in the pattern is found in the value
unfoldable pub is_found : List ℕ → List ℕ → Bool
is_found pattern value = finds (read default_config (chars pattern)) value

-- the test of a value
abbrev pub passes : List ℕ → Test → List ℕ → List ℕ → Bool
passes name Equal value text = compares name relation.Equal value text
passes name Less value text = compares name relation.Earlier value text
passes name LessEqual value text = compares name relation.EarlierEqual value text
passes name GreaterEqual value text = compares name relation.LaterEqual value text
passes name Greater value text = compares name relation.Later value text
passes name Glob value text = is_globbed text value
passes name Pattern value text = is_found text value

-- No test of a field that isn't there is true. Without a test the field is to be there and not empty.
abbrev pub field_holds : List ℕ → Option (Test × List ℕ) → Option (List ℕ) → Bool
field_holds name how None = false
field_holds name None (Some value) = nat_lt 0 (length value)
field_holds name (Some (how, text)) (Some value) = passes name how value text

-- where an architecture is asked for, the package is for it
abbrev pub arch_holds : Card → Option (List ℕ) → Bool
arch_holds p None = true
arch_holds p (Some arch) = is_for p arch

abbrev pub reference_holds : Card → List ℕ → List ℕ → List ℕ → Bool
reference_holds p name version arch = bytes_eq p.name name && bytes_eq p.version version && bytes_eq p.arch arch

abbrev mutual
  -- the query is true of the package
  pub matches : Tree → Card → Bool
  matches (any ts) p = some_matches ts p
  matches (all ts) p = each_matches ts p
  matches (negated t) p = not (matches t p)
  matches (reference name version arch) p = reference_holds p name version arch
  matches (wanted name asked arch) p = is_wanted p name asked && arch_holds p arch
  matches (field name how) p = field_holds name how (value_in p name)

  pub some_matches : Trees → Card → Bool
  some_matches nil p = false
  some_matches (cons t ts) p = matches t p || some_matches ts p

  pub each_matches : Trees → Card → Bool
  each_matches nil p = true
  each_matches (cons t ts) p = matches t p && each_matches ts p
