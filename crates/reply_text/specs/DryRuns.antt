-- What a dry run says of the packages of a list.
use Rattle.std.specs.Prelude.{ℕ, List, ◌++◌, codes}
use Rattle.std.specs.List.{flat_map}
use Rattle.package_core.specs.Card.{Card, triple}
use Rattle.reply_text.specs.Words.{line}

-- ` - hello_2.10-2_amd64`
unfoldable pub going_line : Card → List ℕ
going_line p = line (codes " - " ++ triple p)

-- ` + hello_2.10-2_amd64`
unfoldable pub coming_line : Card → List ℕ
coming_line p = line (codes " + " ++ triple p)

-- what would go, what would come, each in the order of its list, and that nothing was done
unfoldable pub dry_run_of : List Card → List Card → List ℕ
dry_run_of going coming = flat_map going_line going ++ (flat_map coming_line coming ++ line (codes "Dry run."))
