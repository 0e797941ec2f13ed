-- The files of packages are taken in: each has the facts that are stated of it, or the first that has other ones is refused.
use Rattle.std.specs.Prelude.{◌≡◌, ℕ, nat_lt, List, [], ◌∷◌, Option, Some, None, Result, Ok, Err, bytes_eq, find, unwrap_or, if◌then◌else◌, ◌⊎◌, ◌≤◌}
use Rattle.ap_host.specs.Disk.{Path, Content, Files}
use Rattle.digest_set.specs.declared.facts.Digests.{Digests}
use Rattle.digest_set.specs.declared.facts.What.{What}
use Rattle.digest_set.specs.Facts.{digests_of}
use Rattle.digest_set.specs.Difference.{difference}
use Rattle.package_core.specs.Card.{Card, completed}
use Rattle.package_core.specs.Order.{package_cmp}
use Rattle.package_list.specs.Sorted.{equal_of}
use Rattle.machine_state.specs.declared.limit.Limit.TheVariants.{File}
use Rattle.machine_state.specs.declared.refusal.Refusal.{Refusal}
use Rattle.machine_state.specs.declared.refusal.Refusal.TheVariants.{InputAbsent, InputMismatch, Limit}
use Rattle.machine_state.specs.Limits.{limit_number}
use Rattle.std.specs.declared.cmp.Ordering.TheVariants.{Equal}
use Rattle.package_core.specs.Whole.{IsWhole}
use Rattle.package_intake.specs.Steps.{and_then}

-- the four facts of the file of a complete package
abbrev pub facts_of : Card → Digests
facts_of q = record { size = q.said.size; md5 = unwrap_or q.said.md5 []; sha1 = unwrap_or q.said.sha1 []; sha256 = q.said.sha256 }

abbrev pub agreed : Path → Card → Digests → Option (What × List ℕ × List ℕ) → Result Card Refusal
agreed path p found None = Ok (completed p found)
agreed path p found (Some (what, said, other)) = Err (InputMismatch path what said other)

-- the package with the facts that were found of its file, where they agree with what is stated
abbrev pub compared : Path → Card → Digests → Result Card Refusal
compared path p found = agreed path p found (difference p.said found)

abbrev pub of_file : Path → Card → Content → Result Card Refusal
of_file path p None = Err (InputAbsent path)
of_file path p (Some bytes) = compared path p (digests_of bytes)

-- the first known package whose file has this SHA-256
abbrev pub known_of : List Card → List ℕ → Option Card
known_of known sha256 = find (λ q. bytes_eq q.said.sha256 sha256) known

-- what is known of the file serves, else it is read
abbrev pub of_known_or_file : Path → Card → Option Card → Content → Result Card Refusal
of_known_or_file path p (Some q) content = compared path p (facts_of q)
of_known_or_file path p None content = of_file path p content

-- the package as it is known, where an equal is known
abbrev pub standing : List Card → Card → Card
standing known p = unwrap_or (equal_of package_cmp known p) p

-- one package of the index with its file at this path: the file isn't too large, and it has the stated facts
unfoldable pub taken_file : Files → List Card → Path → Card → Result Card Refusal
taken_file files known path p =
    if nat_lt (limit_number File) p.said.size then Err (Limit File)
    else and_then (of_known_or_file path p (known_of known p.said.sha256) (files path)) (λ made. Ok (standing known made))

-- the packages in turn; the first that is refused decides
abbrev pub each_taken : (Card → Result Card Refusal) → List Card → Result (List Card) Refusal
each_taken take [] = Ok []
each_taken take (p ∷ ps) = and_then (take p) (λ q. and_then (each_taken take ps) (λ qs. Ok (q ∷ qs)))

-- What comes of a package of an index: it is equal to it in the order of packages, and either known so, or none that is equal is known.
pub record IsTakenIn (known : List Card) (p q : Card) : Type 0 where
  pub same : package_cmp p q ≡ Equal
  pub stands : (equal_of package_cmp known q ≡ Some q) ⊎ (equal_of package_cmp known q ≡ None)
  pub whole : IsWhole q
  pub small : q.said.size ≤ limit_number File

-- the same of each of two lists
abbrev pub AreTakenIn : List Card → List Card → List Card → Type 0
AreTakenIn known [] [] = Unit {0}
AreTakenIn known (p ∷ ps) (q ∷ qs) = IsTakenIn known p q × AreTakenIn known ps qs
AreTakenIn known [] (q ∷ qs) = ⊥
AreTakenIn known (p ∷ ps) [] = ⊥
