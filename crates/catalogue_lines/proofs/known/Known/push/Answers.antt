use Rattle.std.proofs.Common.{ap, sym, ◌∙◌, ◌++◌, ◌∷◌, [], ◌↔◌, IsTrue, All, List, ℕ, length, if◌then◌else◌, subst, string_bytes}
use Rattle.std.specs.BTreeMap.{get_by_text}
use Rattle.std.proofs.lemmas.Map.Text.{btree_map_updates_text}
use Rattle.package_core.specs.Card.{Card}
use Rattle.package_core.specs.Order.{package_cmp}
use Rattle.package_core.proofs.OrderLaws.{package_total}
use Rattle.package_list.specs.Sorted.{IsAscending, AllLess}
use Rattle.package_list.proofs.Pushes.{ascending_push}
use Rattle.catalogue_lines.specs.Reading.{IsSmall, PlaceIs, RoomIs}
use Rattle.catalogue_lines.specs.SetLines.{id_of}
use Rattle.catalogue_lines.proofs.KnownLemmas.{places_push, last_place}
use Rattle.catalogue_lines.proofs.known.Known.push.Goals as goal

pub returns-then-not-branch-clause-indexed : goal.returns-then-not-branch-clause-indexed
returns-then-not-branch-clause-indexed c =
    let old = c.args.self.now.list in
    let list = c.in_ok-push_shared.ensures.list ∙ ap (λ b. if b then old ++ c.in_ok-new.new.value ∷ [] else old) c.if-not-branch.true in
    record {
      sorted = subst (IsAscending package_cmp) (sym list) c.requires.indexed.sorted;
      places = subst (λ (l : List Card). (id : List ℕ) → PlaceIs l id (get_by_text c.args.self.now.places id)) (sym list) c.requires.indexed.places;
      room = subst (λ (l : List Card). RoomIs l c.args.self.now.room) (sym list) c.requires.indexed.room;
      small = subst (λ (l : List Card). IsTrue c.args.self.now.small ↔ All IsSmall l) (sym list) c.requires.indexed.small;
    }

pub returns-clause-indexed : goal.returns-clause-indexed
returns-clause-indexed c =
    let old = c.args.self.now.list in
    let new = c.args.new in
    let is = c.in_ok-new.ensures.ok ∙ c.with_text-new.ensures in
    let list = c.in_ok-push_shared.ensures.list ∙ ap (λ b. if b then old ++ c.in_ok-new.new.value ∷ [] else old) c.if-not-branch.false ∙ ap (λ v. old ++ v ∷ []) is in
    record {
      sorted = subst (IsAscending package_cmp) (sym list) (ascending_push package_total old new c.requires.indexed.sorted (subst (AllLess package_cmp old) is (c.in_ok-push_shared.ensures.answer.0 c.if-not-branch.false)));
      places = subst (λ (l : List Card). (id : List ℕ) → PlaceIs l id (get_by_text c.insert.new.self id)) (sym list)
          (places_push (get_by_text c.args.self.now.places) (get_by_text c.insert.new.self) old new (string_bytes c.in_ok-id.id) _ (c.in_ok-id.ensures ∙ ap id_of c.with_text-new.ensures) (last_place _ _ old new c.len-place.ensures list)
          (btree_map_updates_text (string_bytes c.in_ok-id.id) c.args.self.now.places c.insert.new.self _ c.in_ok-insert.ensures.updates) c.requires.indexed.places);
      room = subst (λ (l : List Card). RoomIs l c.less-self.result) (sym list) (c.less-self.ensures old new c.requires.indexed.room (ap length c.requires.text));
      small = subst (λ (l : List Card). IsTrue c.are_small-small.result ↔ All IsSmall l) (sym list) (c.are_small-small.ensures old c.requires.indexed.small);
    }
