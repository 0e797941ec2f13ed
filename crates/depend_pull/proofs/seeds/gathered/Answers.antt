use Rattle.std.proofs.Common.{◌≡◌, List, [], ◌∷◌, ◌++◌, sym, ap, ◌∙◌, arith, map, take}
use Rattle.std.specs.Rc.{rc_value}
use Rattle.std.specs.BTreeSet.{insert_key}
use Rattle.package_core.specs.Card.{Card}
use Rattle.package_list.specs.Sorted.{union}
use Rattle.package_list.proofs.Gathers.{union_push}
use Rattle.depend_pull.specs.Seeds.{seed_cmp}
use Rattle.depend_pull.proofs.PlaceLemmas.{one_more}
use Rattle.depend_pull.proofs.SeedOrder.{key_is_put}
use Rattle.depend_pull.proofs.seeds.gathered.Goals as goal

pub loop-member-preserved : goal.loop-member-preserved
loop-member-preserved c =
    let i = c.loop-member.member-index in
    let items = c.as_slice-member-items.result.now in
    let x : Card = rc_value c.member-item.result in
    let before : List Card = map rc_value (take i items) in
    let same : c.new.result ≡ x = c.new.ensures ∙ c.package.ensures ∙ c.deref.ensures in
    c.in_ok-insert.ensures.keys
    ∙ (λ k. insert_key seed_cmp (c.loop-member.invariant k) (same k))
    ∙ key_is_put (union seed_cmp [] before) x
    ∙ sym (union_push seed_cmp [] before x)
    ∙ ap (union seed_cmp []) (sym (one_more rc_value items i c.member-item.result (omega arith) c.member-item.is))
