-- The name and the version that a field Source gives, as they are found in its text.
use Rattle.std.specs.Prelude.{◌≡◌, ℕ, ◌+◌, ◌-◌, Bool, false, ◌&&◌, ◌==◌, List, [], ◌∷◌, length, take, drop, reverse, position, IsTrue, Option, Some, None, if◌then◌else◌}
use Rattle.std.specs.List.{take_while}
use Rattle.std.specs.Option.{option_map}
use Rattle.ap_text.specs.Names.{is_package_name}
use Rattle.deb_version.specs.VersionText.{is_version}
use Rattle.package_core.specs.Source.{is_gap, IsSource}

abbrev pub is_opening : ℕ → Bool
is_opening c = c == 40

-- how many gaps stand in front
abbrev pub gaps_before : List ℕ → ℕ
gaps_before text = length (take_while is_gap text)

-- how many stand at the end
abbrev pub gaps_behind : List ℕ → ℕ
gaps_behind text = length (take_while is_gap (reverse text))

abbrev pub without_gaps_before : List ℕ → List ℕ
without_gaps_before text = drop (gaps_before text) text

abbrev pub without_gaps_behind : List ℕ → List ℕ
without_gaps_behind text = take (length text - gaps_behind text) text

-- what stands before the `)` that ends a text
abbrev pub before_closing : List ℕ → Option (List ℕ)
before_closing [] = None
before_closing (c ∷ []) = if c == 41 then Some [] else None
before_closing (c ∷ d ∷ ds) = option_map (λ front. c ∷ front) (before_closing (d ∷ ds))

-- the two texts that a source names
abbrev pub named : List ℕ → Option (List ℕ) → Option (List ℕ × Option (List ℕ))
named before None = None
named before (Some inside) = Some (without_gaps_behind before, Some (without_gaps_behind (without_gaps_before inside)))

abbrev pub parts_at : List ℕ → Option ℕ → Option (List ℕ × Option (List ℕ))
parts_at text None = Some (text, None)
parts_at text (Some n) = named (take n text) (before_closing (drop (n + 1) text))

-- The name and, in parentheses, the version, whatever they are; none where a parenthesis is not closed at the end.
unfoldable pub source_parts : List ℕ → Option (List ℕ × Option (List ℕ))
source_parts text = parts_at text (position is_opening text)

-- they are a package name and, where it is there, a version
abbrev pub are_source : Option (List ℕ × Option (List ℕ)) → Bool
are_source None = false
are_source (Some (name, None)) = is_package_name name
are_source (Some (name, Some version)) = is_package_name name && is_version version

abbrev pub is_source : List ℕ → Bool
is_source text = are_source (source_parts text)

-- What is found so are exactly the sources that a text names, and it names one at most.
pub record SourcesAreFound : Type 0 where
  pub named_source : (text name : List ℕ) (version : Option (List ℕ)) → IsSource text name version → IsTrue (is_source text) × (source_parts text ≡ Some (name, version))
  pub found_source : (text : List ℕ) → IsTrue (is_source text) → (source : List ℕ × Option (List ℕ)) × (source_parts text ≡ Some source) × IsSource text source.0 source.1
