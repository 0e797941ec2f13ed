use Rattle.std.proofs.Common.{◌≡◌, ℕ, List, [], ◌∷◌, Bool, true, cond, not, ap, sym, ◌∙◌}
use Rattle.std.specs.Str.{bytes_eq}
use Rattle.std.specs.BTreeSet.{insert_key}
use Rattle.package_core.specs.Order.{text_cmp}
use Rattle.package_list.specs.Sorted.{union}
use Rattle.package_choice.specs.Choice.{all_archs}
use Rattle.package_choice.proofs.ArchLemmas.{name_is_put}
use Rattle.package_choice.proofs.archs.meet.Goals as goal

pub returns-in_ok-insert : goal.returns-in_ok-insert
returns-in_ok-insert c =
    let keys : List (List ℕ) = c.args.set.now.keys in
    let arch = c.args.member.now.arch in
    let other : not (bytes_eq arch all_archs) ≡ true = ap (λ t. not (bytes_eq t all_archs)) (sym c.as_str.ensures.text) ∙ sym c.ne.ensures ∙ c.if-ne.true in
    c.in_ok-insert.ensures.keys ∙ ap (insert_key text_cmp keys) c.new.ensures ∙ name_is_put keys arch ∙ ap (λ (b : Bool). union text_cmp keys (cond b (arch ∷ []) [])) (sym other)
