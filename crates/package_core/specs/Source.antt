-- The value of a field Source (Debian Policy 5.6.1): the name of a source, and maybe its version in parentheses.
use Rattle.std.specs.Prelude.{◌≡◌, ℕ, Bool, ◌||◌, ◌==◌, List, [], ◌∷◌, ◌++◌, IsTrue, Option, Some, None}
use Rattle.std.specs.List.{list_all}
use Rattle.ap_text.specs.Names.{is_package_name}
use Rattle.deb_version.specs.VersionText.{is_version}

-- space, tab and line end
abbrev pub is_gap : ℕ → Bool
is_gap c = c == 32 || c == 9 || c == 10

-- none or more of them
abbrev pub AreGaps : List ℕ → Type 0
AreGaps text = IsTrue (list_all is_gap text)

-- a name and, in parentheses, a version, with gaps before and inside the parentheses
pub record HasVersion (text name version : List ℕ) : Type 0 where
  pub before : List ℕ
  pub inside : List ℕ
  pub behind : List ℕ
  pub is : text ≡ name ++ (before ++ 40 ∷ (inside ++ (version ++ (behind ++ 41 ∷ []))))
  pub gaps : AreGaps before × AreGaps inside × AreGaps behind
  pub version_is : IsTrue (is_version version)

-- the text names this source: its name alone, or its name and its version
abbrev pub IsSource : List ℕ → List ℕ → Option (List ℕ) → Type 0
IsSource text name None = IsTrue (is_package_name name) × (text ≡ name)
IsSource text name (Some version) = IsTrue (is_package_name name) × HasVersion text name version
