-- The case of an update of a mirror: what is read for it, what may arrive, and what it keeps to.
use Rattle.std.proofs.Common.{◌≡◌, ◌≢◌, ◌⊎◌, ℕ, List, [], length, Option, Some, None, Ok, inl, inr, refl, sym, ap, subst, ◌∙◌}
use Rattle.std.specs.List.{Contains}
use Rattle.std.proofs.lemmas.List.Elements.{All-contains_itself}
use Rattle.ap_host.specs.Disk.{Files}
use Rattle.package_core.specs.Card.{Card}
use Rattle.machine_state.specs.declared.arrived.Arrived.{Arrived}
use Rattle.machine_state.specs.declared.arrived.Arrived.TheVariants as arrivals
use Rattle.machine_state.specs.declared.fetched.Fetched.{Fetched}
use Rattle.machine_state.specs.declared.refusal.Refusal.{Refusal}
use Rattle.machine_state.specs.State.{Valid, mirror_name, mirror_of}
use Rattle.machine_state.specs.Values.{MirrorView, StateView}
use Rattle.machine_state.proofs.ListLemmas.{union_all}
use Rattle.machine_state.proofs.NamedLemmas.{named_has}
use Rattle.mirror_update.specs.Answers.{FilesArrive, PickArrives}
use Rattle.mirror_update.specs.Arrival.{Arrives}
use Rattle.mirror_update.specs.Fits.{FitsIn}
use Rattle.reply_text.specs.Mirrors as replies
use Rattle.step_model.specs.declared.reading.Reading.{Reading}
use Rattle.step_model.specs.declared.reading.Reading.TheVariants as readings
use Rattle.step_model.specs.Case.{Came}
use Rattle.step_model.specs.Refuses.{reading}
use Rattle.step_model.specs.Answers.{ComesTo, IsWanted}
use Rattle.step_model.specs.Lawful.{IfChanges, IfRefuses, IsFrom, IsLawful}
use Rattle.step_model.proofs.OwnLemmas.{OwnOr}
use Rattle.step_model.proofs.RefusalLemmas.{passes, reads_on}
use Rattle.mirror_ops.specs.Cases.{ArrivesFor, MayArrive, MirrorArrives, bad_mirror, taken_in, update_case}
use Rattle.mirror_ops.specs.Updates.{Has, fetched_of}
use Rattle.mirror_ops.proofs.LawLemmas.{line_some, own_called}

-- ---- what it comes to

pub update_comes : (state : StateView) (name : List ℕ) (arrived : Arrived) (comes : Came) → bad_mirror state name ≡ None → taken_in state name arrived ≡ comes → ComesTo None (update_case state name) arrived comes
update_comes state name arrived comes good e = (passes None (update_case state name) good refl refl, e)

-- what is read for an update that goes on
pub reads_archive : (state : StateView) (name : List ℕ) → bad_mirror state name ≡ None → reading (update_case state name) ≡ readings.Mirror name
reads_archive state name good = reads_on (update_case state name) good refl

pub update_wanted : (state : StateView) (name : List ℕ) (wanted : Reading) → bad_mirror state name ≡ None → wanted ≡ readings.Mirror name → IsWanted None (update_case state name) wanted
update_wanted state name wanted good is = (passes None (update_case state name) good refl refl, is ∙ sym (reads_archive state name good))

-- ---- what arrives

-- the law of arrivals
abbrev pub Fit : Type 0
Fit = (files : Files) (state : StateView) (mirror : MirrorView) (fetched : Fetched) → Valid state → mirror_of mirror.name state.mirrors ≡ Some mirror → Arrives files state.known mirror (Ok fetched) → FitsIn state mirror.name fetched

module _ (fit : Fit) (inbox : Option Files) (state : StateView) where
  files_fit : (o : Option Files) (mirror : MirrorView) (fetched : Fetched) → Valid state → Has state mirror → FilesArrive o state mirror (Ok fetched) → FitsIn state mirror.name fetched
  files_fit (Some files) mirror fetched v found h = fit files state mirror fetched v found h
  files_fit None mirror fetched v found h = h

  pick_fits : (pick : Option Refusal) (mirror : MirrorView) (fetched : Fetched) → Valid state → Has state mirror → PickArrives pick inbox state mirror (Ok fetched) → FitsIn state mirror.name fetched
  pick_fits (Some refusal) mirror fetched v found h = cc
  pick_fits None mirror fetched v found h = files_fit inbox mirror fetched v found h

  -- a list that arrives for a mirror fits
  mirror_fits : (large : Option (List ℕ)) (name : List ℕ) (o : Option MirrorView) (list : List Card) (date : List ℕ) → Valid state → mirror_of name state.mirrors ≡ o → MirrorArrives large inbox state name o (arrivals.List list date) → FitsIn state name (fetched_of list date)
  mirror_fits large name (Some mirror) list date v found h =
      let same : mirror.name ≡ name = named_has mirror_name name state.mirrors mirror found in
      subst (λ (n : List ℕ). FitsIn state n (fetched_of list date)) same
      (pick_fits h.pick mirror (fetched_of list date) v (ap (λ (n : List ℕ). mirror_of n state.mirrors) same ∙ found) h.comes)
  mirror_fits large name None list date v found h = cc

  pub list_fits : (name : List ℕ) (list : List Card) (date : List ℕ) → Valid state → MayArrive inbox state (readings.Mirror name) (arrivals.List list date) → FitsIn state name (fetched_of list date)
  list_fits name list date v h = mirror_fits h.0 name (mirror_of name state.mirrors) list date v refl h.1

  -- what arrives for an update that goes on fits
  pub arrived_fits : (name : List ℕ) (arrived : Arrived) (list : List Card) (date : List ℕ) → Valid state → bad_mirror state name ≡ None → arrived ≡ arrivals.List list date → ArrivesFor inbox state (update_case state name) arrived → FitsIn state name (fetched_of list date)
  arrived_fits name arrived list date v good is h =
      list_fits name list date v (subst (MayArrive inbox state (readings.Mirror name)) is (subst (λ (r : Reading). MayArrive inbox state r arrived) (reads_archive state name good) h))

  taken_valid : (name : List ℕ) (arrived : Arrived) → Valid state → MayArrive inbox state (readings.Mirror name) arrived → IfChanges (taken_in state name arrived) (λ reply new. Valid new)
  taken_valid name (arrivals.List list date) v h = (list_fits name list date v h).valid
  taken_valid name (arrivals.Refused refusal) v h = tt
  taken_valid name arrivals.Nothing v h = tt

-- ---- what it keeps to

updated_some : (name : List ℕ) (count : ℕ) → replies.mirror_updated name count ≢ []
unfolding replies.mirror_updated
updated_some name count = line_some _

taken_says : (state : StateView) (name : List ℕ) (arrived : Arrived) → IfChanges (taken_in state name arrived) (λ reply new. reply ≢ [])
taken_says state name (arrivals.List list date) = updated_some name (length list)
taken_says state name (arrivals.Refused refusal) = tt
taken_says state name arrivals.Nothing = tt

taken_knows : (state : StateView) (name : List ℕ) (arrived : Arrived) → IfChanges (taken_in state name arrived) (λ reply new. IsFrom state arrived new)
taken_knows state name (arrivals.List list date) =
    (union_all (λ p. Contains state.known p ⊎ Contains list p) state.known list (λ k d l. inl (All-contains_itself state.known k d l)) (λ k d l. inr (All-contains_itself list k d l)), λ none. none)
taken_knows state name (arrivals.Refused refusal) = tt
taken_knows state name arrivals.Nothing = tt

-- nothing never arrives of an archive
never_nothing : (large : Option (List ℕ)) (inbox : Option Files) (state : StateView) (name : List ℕ) (o : Option MirrorView) → MirrorArrives large inbox state name o arrivals.Nothing → ⊥
never_nothing large inbox state name (Some mirror) h = h
never_nothing large inbox state name None h = cc

taken_refuses : (inbox : Option Files) (state : StateView) (name : List ℕ) (arrived : Arrived) → MayArrive inbox state (readings.Mirror name) arrived → IfRefuses (taken_in state name arrived) (OwnOr arrived)
taken_refuses inbox state name (arrivals.List list date) h = tt
taken_refuses inbox state name (arrivals.Refused refusal) h = inr refl
taken_refuses inbox state name arrivals.Nothing h = absurd (never_nothing h.0 inbox state name (mirror_of name state.mirrors) h.1)

pub update_law : Fit → (inbox : Option Files) (state : StateView) (name : List ℕ) → IsLawful state (MayArrive inbox state (readings.Mirror name)) (update_case state name)
update_law fit inbox state name = record {
  valid = λ v early late arrived may. taken_valid fit inbox state name arrived v may;
  says = λ arrived. taken_says state name arrived;
  knows = λ arrived. taken_knows state name arrived;
  early = own_called state name;
  late = tt;
  comes = λ arrived may. taken_refuses inbox state name arrived may;
}
