-- What a field says as a function of its text is what its pieces give from the left.
use Rattle.std.proofs.Common.{◌≡◌, ℕ, zero, suc, ◌≤◌, Bool, false, List, [], ◌∷◌, length, Option, Some, None, Result, Ok, Err, IfOk, IfErr, map, refl, ap, sym, ◌∙◌, arith, length-drop}
use Rattle.std.proofs.lemmas.Option.{same_Some}
use Rattle.std.specs.List.{flat_map}
use Rattle.std.specs.Option.{option_map, option_and_then}
use Rattle.depends_field.specs.declared.alternative.Alternative.{Alternative}
use Rattle.depends_field.specs.declared.fault.DependsFault.{DependsFault}
use Rattle.depends_field.specs.declared.fault.DependsFault.TheVariants.{At, OutOfMemory}
use Rattle.depends_field.specs.declared.phase.Kind.{Kind}
use Rattle.depends_field.specs.declared.phase.Kind.TheVariants.{Provides}
use Rattle.depends_field.specs.Pieces.{IsCut, front, behind, inside_after, piece_len}
use Rattle.depends_field.specs.Reading.{Read, start, run, finished}
use Rattle.depends_field.specs.Faults.{IsReading, IsFaultOf}
use Rattle.depends_field.specs.Field.{pieces, groups_in, provides_in, SaysNothing}
use Rattle.depends_field.specs.Groups.{Groups, ProvidesText}
use Rattle.depends_field.proofs.Cuts.{piece_len_in}
use Rattle.depends_field.proofs.FoundGroups.{groups_from_reading}
use Rattle.depends_field.proofs.Readers.{provides_found, flat_singles}
use Rattle.depends_field.proofs.OnlyGroups.{reading_from_groups}
use Rattle.depends_field.proofs.Unique.{same_pieces, unreadable_from}

-- the pieces are a cut of the whole text
cut_pieces : (n : ℕ) (inside : Bool) (text : List ℕ) → length text ≤ n → (m : Bool) × IsCut inside text (pieces n inside text) m []
cut_pieces zero inside [] h = (inside, (refl, refl))
cut_pieces zero inside (b ∷ bs) h = absurd (omega arith)
cut_pieces (suc n) inside [] h = (inside, (refl, refl))
cut_pieces (suc n) inside (b ∷ bs) h =
    let text : List ℕ = b ∷ bs in
    let some = piece_len_in inside text (omega arith) in
    let rest = cut_pieces n (inside_after inside (front inside text)) (behind inside text) (omega (arith, some.0, h, length-drop (piece_len inside text) text)) in
    (rest.0, (omega arith, refl, rest.1))

pub said_from_reading : (kind : Kind) (text : List ℕ) (groups : List (List Alternative)) → IsReading kind text groups → groups_in kind text ≡ Some groups
unfolding groups_in
said_from_reading kind text groups r =
    let c = cut_pieces (length text) false text (omega arith) in
    let same : r.pieces ≡ pieces (length text) false text = same_pieces false r.are.0 c.0 r.pieces (pieces (length text) false text) text r.are.1 c.1 in
    ap (λ ps. option_and_then finished (run kind start ps)) (sym same) ∙ ap (option_and_then finished) r.ran ∙ r.gives

state_of : (o : Option Read) (groups : List (List Alternative)) → option_and_then finished o ≡ Some groups → (s : Read) × (o ≡ Some s) × (finished s ≡ Some groups)
state_of None groups e = cc
state_of (Some s) groups e = (s, refl, e)

reading_from_said : (kind : Kind) (text : List ℕ) (groups : List (List Alternative)) → groups_in kind text ≡ Some groups → IsReading kind text groups
unfolding groups_in
reading_from_said kind text groups e =
    let c = cut_pieces (length text) false text (omega arith) in
    let s = state_of (run kind start (pieces (length text) false text)) groups e in
    record { pieces = pieces (length text) false text; state = s.0; are = c; ran = s.1; gives = s.2 }

pub groups_from_said : (kind : Kind) (text : List ℕ) (groups : List (List Alternative)) → groups_in kind text ≡ Some groups → Groups kind text groups
groups_from_said kind text groups e = groups_from_reading kind text groups (reading_from_said kind text groups e)

pub said_from_groups : (kind : Kind) (text : List ℕ) (groups : List (List Alternative)) → Groups kind text groups → groups_in kind text ≡ Some groups
said_from_groups kind text groups is = said_from_reading kind text groups (reading_from_groups kind text groups is)

nothing_by : (kind : Kind) (text : List ℕ) (o : Option (List (List Alternative))) → groups_in kind text ≡ o → ((groups : List (List Alternative)) → Groups kind text groups → ⊥) → o ≡ None
nothing_by kind text None e no_groups = refl
nothing_by kind text (Some groups) e no_groups = absurd (no_groups groups (groups_from_said kind text groups e))

pub nothing_from_fault : (kind : Kind) (text : List ℕ) (e : DependsFault) → IsFaultOf kind text e → SaysNothing (groups_in kind text) e
nothing_from_fault kind text (At place) u = nothing_by kind text (groups_in kind text) refl (unreadable_from kind text place u)
nothing_from_fault kind text OutOfMemory u = tt

pub map_nothing : {X : Type 0} (f : List (List Alternative) → X) (o : Option (List (List Alternative))) (e : DependsFault) → SaysNothing o e → SaysNothing (option_map f o) e
map_nothing f o (At place) h = ap (option_map f) h
map_nothing f o OutOfMemory h = tt

pub value_from : {X : Type 0} (seen : X → List (List Alternative)) (kind : Kind) (text : List ℕ) (r : Result X DependsFault) → IfOk r (λ x. IsReading kind text (seen x)) → IfOk r (λ x. groups_in kind text ≡ Some (seen x))
value_from seen kind text (Ok x) h = said_from_reading kind text (seen x) h
value_from seen kind text (Err e) h = tt

pub nothing_from : {X : Type 0} (kind : Kind) (text : List ℕ) (r : Result X DependsFault) → IfErr r (IsFaultOf kind text) → IfErr r (SaysNothing (groups_in kind text))
nothing_from kind text (Ok x) k = tt
nothing_from kind text (Err e) k = nothing_from_fault kind text e k

list_of : (o : Option (List (List Alternative))) (list : List Alternative) → option_map (flat_map (λ (g : List Alternative). g)) o ≡ Some list → (groups : List (List Alternative)) × (o ≡ Some groups) × (list ≡ flat_map (λ (g : List Alternative). g) groups)
list_of None list e = cc
list_of (Some groups) list e = (groups, refl, sym (same_Some _ _ e))

pub provides_text_from_said : (text : List ℕ) (list : List Alternative) → provides_in text ≡ Some list → ProvidesText text list
provides_text_from_said text list e =
    let g = list_of (groups_in Provides text) list e in
    provides_found text g.0 list (groups_from_said Provides text g.0 g.1) g.2

pub said_from_provides_text : (text : List ℕ) (list : List Alternative) → ProvidesText text list → provides_in text ≡ Some list
said_from_provides_text text list is =
    ap (option_map (flat_map (λ (g : List Alternative). g))) (said_from_groups Provides text (map (λ (a : Alternative). a ∷ []) list) is) ∙ ap Some (flat_singles list)
