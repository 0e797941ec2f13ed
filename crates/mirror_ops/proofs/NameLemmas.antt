-- What other names of mirrors come to, and what a drop, by how it goes.
use Rattle.std.proofs.Common.{◌≡◌, ℕ, List, Some, None, Result, Ok, Err, true≢false, sym, subst, refl, ap, ◌∙◌}
use Rattle.std.specs.Option.{is_some, option_map}
use Rattle.std.specs.Result.{OnOk}
use Rattle.machine_state.specs.declared.arrived.Arrived.{Arrived}
use Rattle.machine_state.specs.Ascending.{IsAscending, put}
use Rattle.machine_state.specs.Named.{dropped, put_some, renamed}
use Rattle.machine_state.specs.State.{mirror_cmp, mirror_name, mirror_of}
use Rattle.machine_state.specs.Values.{MirrorView, StateView}
use Rattle.machine_state.proofs.AscendingLemmas.{filter_ascending}
use Rattle.machine_state.proofs.NamedLemmas.{dropped_gone, renamed_has}
use Rattle.reply_text.specs.Mirrors as replies
use Rattle.step_model.specs.Case.{changes, or_else}
use Rattle.step_model.specs.Names.{bad_name}
use Rattle.step_model.specs.Answers.{ComesTo, IsNew}
use Rattle.step_model.proofs.OwnLemmas.{first_none, second_none}
use Rattle.mirror_lists.specs.Mirrors.{unknown_mirror}
use Rattle.mirror_ops.specs.Cases.{bad_mirror, bad_rename, called, drop_case, rename_case, mirror_renamed_in, taken, without_mirror}
use Rattle.mirror_ops.proofs.CaseLemmas.{is_free, is_there, plain_comes}

-- one that is taken out, and put back with the other name
pub renamed_as : {X E : Type 0} (before after : List ℕ) (items rest new : List MirrorView) (mirror : MirrorView) (r : Result X E) → IsAscending mirror_cmp items → Some mirror ≡ mirror_of before items → rest ≡ dropped mirror_name before items
    → (IsAscending mirror_cmp rest → OnOk r (new ≡ put mirror_cmp (called mirror after) rest)) → OnOk r (new ≡ renamed mirror_name called before after items)
renamed_as before after items rest new mirror r a found others made = by_result r (made (subst (IsAscending mirror_cmp) (sym others) (filter_ascending mirror_cmp _ items a)))
  where
    by_result : {X E : Type 0} (r : Result X E) → OnOk r (new ≡ put mirror_cmp (called mirror after) rest) → OnOk r (new ≡ renamed mirror_name called before after items)
    by_result (Ok x) e = e ∙ (λ i. put_some mirror_name (option_map (λ (x : MirrorView). called x after) (found i)) (others i))
    by_result (Err x) e = tt

module _ (state : StateView) (from to before after : List ℕ) (first : before ≡ from) (second : after ≡ to) (new : StateView) (is : new ≡ mirror_renamed_in state before after) (good : bad_rename state from to ≡ None) where
  pub renamed_comes : (reply : List ℕ) (arrived : Arrived) → reply ≡ replies.mirror_renamed before after → ComesTo None (rename_case state from to) arrived (changes reply new)
  renamed_comes reply arrived e =
      plain_comes (bad_rename state from to) _ good arrived (changes reply new)
      ((λ i. changes (replies.mirror_renamed (sym first i) (sym second i)) (mirror_renamed_in state (sym first i) (sym second i))) ∙ (λ i. changes (sym e i) (sym is i)))

  pub renamed_new : IsNew state (Some new)
  renamed_new =
      let names = second_none (bad_name to) (or_else (taken state.mirrors to) (unknown_mirror state.mirrors from)) (second_none (bad_name from) _ good) in
      let none = is_free state.mirrors to (first_none (taken state.mirrors to) (unknown_mirror state.mirrors from) names) in
      let was = is_there state.mirrors from (second_none (taken state.mirrors to) (unknown_mirror state.mirrors from) names) in
      let has = renamed_has mirror_name called (λ r n. refl) before after state.mirrors (ap (λ (n : List ℕ). is_some (mirror_of n state.mirrors)) first ∙ was) in
      λ same. absurd (true≢false (sym has ∙ ap (λ (s : StateView). is_some (mirror_of after s.mirrors)) (sym is ∙ same) ∙ ap (λ (n : List ℕ). is_some (mirror_of n state.mirrors)) second ∙ none))

-- ---- no more
module _ (state : StateView) (text name : List ℕ) (called_so : name ≡ text) (new : StateView) (is : new ≡ without_mirror state name) (good : bad_mirror state text ≡ None) where
  pub dropped_comes : (reply : List ℕ) (arrived : Arrived) → reply ≡ replies.mirror_dropped name → ComesTo None (drop_case state text) arrived (changes reply new)
  dropped_comes reply arrived e =
      plain_comes (bad_mirror state text) _ good arrived (changes reply new)
      ((λ i. changes (replies.mirror_dropped (sym called_so i)) (without_mirror state (sym called_so i))) ∙ (λ i. changes (sym e i) (sym is i)))

  pub dropped_new : IsNew state (Some new)
  dropped_new =
      let was = is_there state.mirrors text (second_none (bad_name text) (unknown_mirror state.mirrors text) good) in
      let gone = ap is_some (dropped_gone mirror_name name state.mirrors) in
      λ same. absurd (true≢false (sym was ∙ ap (λ (n : List ℕ). is_some (mirror_of n state.mirrors)) (sym called_so) ∙ ap (λ (s : StateView). is_some (mirror_of name s.mirrors)) (sym same ∙ is) ∙ gone))
