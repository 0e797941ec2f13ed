-- What is said of repositories whose name or settings change: each a text of whole lines.
use Rattle.std.specs.Prelude.{ℕ, List, ◌++◌, codes}
use Rattle.reply_text.specs.Words.{line}

-- `Repo local edited.`
unfoldable pub repo_edited : List ℕ → List ℕ
repo_edited name = line (codes "Repo " ++ (name ++ codes " edited."))

-- `Repo local renamed to other.`
unfoldable pub repo_renamed : List ℕ → List ℕ → List ℕ
repo_renamed before after = line (codes "Repo " ++ (before ++ (codes " renamed to " ++ (after ++ codes "."))))

-- `Repo local dropped.`
unfoldable pub repo_dropped : List ℕ → List ℕ
repo_dropped name = line (codes "Repo " ++ (name ++ codes " dropped."))
