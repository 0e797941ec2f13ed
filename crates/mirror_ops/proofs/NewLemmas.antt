-- What new mirrors come to, by how it goes.
use Rattle.std.proofs.Common.{◌≡◌, ℕ, ◌<◌, ◌≤◌, List, length, Some, None, true, false, true≢false, rules, sym, subst, refl, ap, ◌∙◌}
use Rattle.std.specs.Option.{is_some}
use Rattle.std.specs.Bool.{nat_le}
use Rattle.machine_state.specs.declared.limit.Limit.TheVariants as limits
use Rattle.machine_state.specs.declared.change.Change.{Change}
use Rattle.machine_state.specs.declared.refusal.Refusal.TheVariants.{Limit}
use Rattle.machine_state.specs.Ascending.{IsAscending, put}
use Rattle.machine_state.specs.State.{Valid, mirror_cmp, mirror_name, mirror_of}
use Rattle.machine_state.specs.Values.{MirrorView, StateView}
use Rattle.machine_state.proofs.NamedLemmas.{put_has}
use Rattle.reply_text.specs.Mirrors as replies
use Rattle.step_model.specs.Answers.{came, IsNew}
use Rattle.step_model.specs.Case.{refuses}
use Rattle.mirror_ops.specs.Cases.{created, taken, with_mirror}
use Rattle.mirror_ops.proofs.CaseLemmas.{is_free}

-- the change of a mirror's making
abbrev pub MadeChange : StateView → MirrorView → Change
MadeChange state mirror = record { state = Some (with_mirror state mirror); reply = replies.mirror_created mirror.name }

-- a copy of the state with a mirror more
pub put_change : (seen state : StateView) (mirrors : List MirrorView) (mirror : MirrorView) (reply : List ℕ) → seen ≡ state → Valid state → (IsAscending mirror_cmp seen.mirrors → mirrors ≡ put mirror_cmp mirror seen.mirrors)
    → reply ≡ replies.mirror_created mirror.name → (record { state = Some (record seen { mirrors = mirrors }); reply = reply }) ≡ MadeChange state mirror
put_change seen state mirrors mirror reply same v made e =
    let p = made (subst (λ (s : StateView). IsAscending mirror_cmp s.mirrors) (sym same) v.mirrors.sorted) in
    (λ i. record { state = Some (record seen { mirrors = p i }); reply = reply }) ∙ (λ i. record { state = Some (record (same i) { mirrors = put mirror_cmp mirror (same i).mirrors }); reply = e i })

module _ (state : StateView) (mirror : MirrorView) where
  -- there is no room for one more
  pub created_full : 10000 ≤ length state.mirrors → created state mirror ≡ refuses (Limit limits.Mirrors)
  created_full many = rw (full many) refl
    where
      full : 10000 ≤ length state.mirrors → nat_le 10000 (length state.mirrors) ≡ true
      full h = search rules

  -- there is
  pub created_fits : (change : Change) → length state.mirrors < 10000 → change ≡ MadeChange state mirror → created state mirror ≡ came state change
  created_fits change few e = rw (fits few) (ap (came state) (sym e))
    where
      fits : length state.mirrors < 10000 → nat_le 10000 (length state.mirrors) ≡ false
      fits h = search rules

  pub created_new : (change : Change) → change ≡ MadeChange state mirror → taken state.mirrors mirror.name ≡ None → IsNew state change.state
  created_new change e free =
      let none = is_free state.mirrors mirror.name free in
      let has = put_has mirror_name mirror state.mirrors in
      subst (λ (k : Change). IsNew state k.state) (sym e)
      (λ (all : with_mirror state mirror ≡ state). absurd (true≢false (sym has ∙ ap (λ (s : StateView). is_some (mirror_of mirror.name s.mirrors)) all ∙ none)))
