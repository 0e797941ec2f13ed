use Rattle.std.proofs.Common.{◌≡◌, ◌≤◌, List, ℕ, length, IsTrue, subst, sym, ap, ◌∙◌}
use Rattle.ap_text.specs.Paths.{is_safe_path, below_folder}
use Rattle.ap_host.proofs.ListLemmas.{if_ok}
use Rattle.hash_pool.specs.Names.{folder, pool_name, IsDigest}
use Rattle.hash_pool.proofs.NameLemmas.{digits_safe, name_short, name_is}
use Rattle.hash_pool.proofs.name.pool_path.Goals as goal

pub fixed-requires-2 : goal.fixed-requires-2
fixed-requires-2 c =
    let is : IsDigest c.args.sha256.now = record { bytes = c.fits-sha256; size = c.told-sha256 } in
    subst (λ (t : List ℕ). IsTrue (is_safe_path t)) (sym (c.as_str.ensures ∙ c.in_ok-digits.ensures)) (digits_safe c.args.sha256.now is)

pub joined-requires : goal.joined-requires
joined-requires c =
    let is : IsDigest c.args.sha256.now = record { bytes = c.fits-sha256; size = c.told-sha256 } in
    let name = c.in_ok-name.ensures ∙ c.as_str.ensures ∙ c.in_ok-digits.ensures in
    subst (λ (f : List ℕ). length (below_folder f c.in_ok-name.name) ≤ 1000) (sym c.in_ok-folder.ensures)
    (subst (λ (t : List ℕ). length (below_folder folder t) ≤ 1000) (sym name) (name_short c.args.sha256.now is))

pub returns : goal.returns
returns c =
    let name = c.in_ok-name.ensures ∙ c.as_str.ensures ∙ c.in_ok-digits.ensures in
    let is = ap (λ (f : List ℕ). below_folder f c.in_ok-name.name) c.in_ok-folder.ensures ∙ ap (λ (t : List ℕ). below_folder folder t) name ∙ name_is c.args.sha256.now in
    if_ok (λ p. p ≡ below_folder c.in_ok-folder.folder c.in_ok-name.name) (λ p. p ≡ pool_name c.args.sha256.now) c.joined.result (λ p e. e ∙ is) c.joined.ensures
