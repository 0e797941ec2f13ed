-- Where what is said of a byte list and what was found differ.
use Rattle.std.specs.Prelude.{ℕ, Bool, List, Option, Some, None, nat_eq, bytes_eq, if◌then◌else◌}
use Rattle.std.specs.Option.{option_or}
use Rattle.std.specs.Fmt.{decimal}
use Rattle.hex.specs.Hex.{encode_lower}
use Rattle.digest_set.specs.declared.facts.Digests.{Digests}
use Rattle.digest_set.specs.declared.facts.Said.{Said}
use Rattle.digest_set.specs.declared.facts.What.{What}
use Rattle.digest_set.specs.declared.facts.What.TheVariants.{Size, Sha256, Sha1, Md5}

-- a fact that is said and was found otherwise, with the texts of both
abbrev pub otherwise : {X : Type 0} → (X → X → Bool) → (X → List ℕ) → What → Option X → X → Option (What × List ℕ × List ℕ)
otherwise same text what None found = None
otherwise same text what (Some said) found = if same said found then None else Some (what, text said, text found)

-- The first of the four, in this order. What isn't said never differs.
unfoldable pub difference : Said → Digests → Option (What × List ℕ × List ℕ)
difference said found =
    option_or (otherwise nat_eq decimal Size (Some said.size) found.size)
    (option_or (otherwise bytes_eq encode_lower Sha256 (Some said.sha256) found.sha256)
    (option_or (otherwise bytes_eq encode_lower Sha1 said.sha1 found.sha1) (otherwise bytes_eq encode_lower Md5 said.md5 found.md5)))
