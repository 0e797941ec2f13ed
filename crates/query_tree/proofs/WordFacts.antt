-- Names among words.
use Rattle.std.proofs.Common.{◌≡◌, ℕ, true, List}
use Rattle.std.proofs.lemmas.Bool.{and_parts}
use Rattle.ap_text.specs.Names.{is_name, is_architecture}
use Rattle.query_tree.specs.Words.{is_package}

pub arch_is_name : (text : List ℕ) → is_architecture text ≡ true → is_name text ≡ true
arch_is_name text h = (and_parts _ _ h).0

pub package_is_name : (text : List ℕ) → is_package text ≡ true → is_name text ≡ true
unfolding is_package
package_is_name text h = (and_parts _ _ (and_parts _ _ h).0).0
