-- From each state some text goes on to a readable one.
use Rattle.std.proofs.Common.{◌≡◌, ℕ, Bool, true, false, cond, List, [], ◌∷◌, ◌++◌, Option, Some, None, refl, ap, sym, ◌∙◌, codes}
use Rattle.std.specs.Str.{bytes_eq}
use Rattle.std.proofs.lemmas.Option.{same_Some}
use Rattle.ap_text.specs.Names.{is_name, is_package_name, is_architecture}
use Rattle.deb_version.specs.declared.order.Relation.{Relation}
use Rattle.depends_field.specs.declared.alternative.Alternative.{Alternative}
use Rattle.depends_field.specs.declared.phase.Kind.{Kind}
use Rattle.depends_field.specs.declared.phase.Kind.TheVariants.{Depends, Provides}
use Rattle.depends_field.specs.declared.phase.Phase.{Phase}
use Rattle.depends_field.specs.declared.phase.Phase.TheVariants.{Start, Barred, Named, Colon, Parted, Opened, Compared, Versioned, Closed}
use Rattle.depends_field.specs.Pieces.{inside_after}
use Rattle.depends_field.specs.Reading.{Read, is_piece, is_no_qualifier, is_blanks, is_version_word, is_allowed, relation_of, plain, with_arch, with_relation, rested, named, qualified, compared, compared_by, versioned, advanced, ended, is_start, grouped, parted, alternated, barred, with_phase, phased, stepped}
use Rattle.depends_field.specs.Groups.{AllBlank}
use Rattle.depends_field.proofs.Found.{same_bytes}
use Rattle.depends_field.proofs.Walks.{blanks_turn, name_turn}
use Rattle.depends_field.proofs.Operators.{operator_is, version_bytes, version_turn}
use Rattle.depends_field.proofs.Only.{architecture_name, no_qualifier_name}
use Rattle.depends_field.proofs.OnlyGroups.{name_of_package}

-- whether a phase stands in parentheses

abbrev pub is_inside : Phase → Bool
is_inside Start = false
is_inside Barred = false
is_inside (Named name) = false
is_inside (Colon name) = false
is_inside (Parted base) = false
is_inside (Opened base) = true
is_inside (Compared base relation) = true
is_inside (Versioned base) = true
is_inside (Closed base) = false

start_outside : (phase : Phase) → is_start phase ≡ true → is_inside phase ≡ false
start_outside Start e = refl
start_outside Barred e = refl
start_outside (Named name) e = refl
start_outside (Colon name) e = refl
start_outside (Parted base) e = refl
start_outside (Opened base) e = cc
start_outside (Compared base relation) e = cc
start_outside (Versioned base) e = cc
start_outside (Closed base) e = refl

ended_outside : (phase : Phase) (a : Alternative) → ended phase ≡ Some a → is_inside phase ≡ false
ended_outside Start a e = refl
ended_outside Barred a e = refl
ended_outside (Named name) a e = refl
ended_outside (Colon name) a e = refl
ended_outside (Parted base) a e = refl
ended_outside (Opened base) a e = cc
ended_outside (Compared base relation) a e = cc
ended_outside (Versioned base) a e = cc
ended_outside (Closed base) a e = refl

inside_as : (x next : Phase) (b : Bool) → x ≡ next → b ≡ is_inside x → b ≡ is_inside next
inside_as x next b e h = h ∙ ap is_inside e

rested_inside : (phase next : Phase) → rested phase ≡ Some next → is_inside phase ≡ is_inside next
rested_inside Start next e = inside_as Start next false (same_Some Start next e) refl
rested_inside Barred next e = inside_as Barred next false (same_Some Barred next e) refl
rested_inside (Named name) next e = inside_as (Parted (plain name)) next false (same_Some (Parted (plain name)) next e) refl
rested_inside (Colon name) next e = cc
rested_inside (Parted base) next e = inside_as (Parted base) next false (same_Some (Parted base) next e) refl
rested_inside (Opened base) next e = inside_as (Opened base) next true (same_Some (Opened base) next e) refl
rested_inside (Compared base relation) next e = inside_as (Compared base relation) next true (same_Some (Compared base relation) next e) refl
rested_inside (Versioned base) next e = inside_as (Versioned base) next true (same_Some (Versioned base) next e) refl
rested_inside (Closed base) next e = inside_as (Closed base) next false (same_Some (Closed base) next e) refl

-- a piece that isn't blank turns the parentheses as its phase does

turn_if : (b turned : Bool) (x next : Phase) (other : Option Phase) → (b ≡ true → turned ≡ is_inside x) → (other ≡ Some next → turned ≡ is_inside next) → cond b (Some x) other ≡ Some next → turned ≡ is_inside next
turn_if true turned x next other h k e = inside_as x next turned (same_Some x next e) (h refl)
turn_if false turned x next other h k e = k e

no_turn : (turned : Bool) (next : Phase) → None ≡ Some next → turned ≡ is_inside next
no_turn turned next e = cc

byte_turn : (inside after : Bool) (p q : List ℕ) → inside_after inside q ≡ after → bytes_eq p q ≡ true → inside_after inside p ≡ after
byte_turn inside after p q h e = ap (inside_after inside) (same_bytes p q e) ∙ h

opens : inside_after false (40 ∷ []) ≡ true
unfolding inside_after
opens = refl

colon_stays : inside_after false (58 ∷ []) ≡ false
unfolding inside_after
colon_stays = refl

closes : inside_after true (41 ∷ []) ≡ false
unfolding inside_after
closes = refl

comma_stays : inside_after false (44 ∷ []) ≡ false
unfolding inside_after
comma_stays = refl

bar_stays : inside_after false (124 ∷ []) ≡ false
unfolding inside_after
bar_stays = refl

named_turn : (p : List ℕ) (next : Phase) → named p ≡ Some next → inside_after false p ≡ is_inside next
unfolding named
named_turn p next e =
    turn_if (is_package_name p) (inside_after false p) (Named p) next None (λ h. name_turn p (name_of_package p h)) (no_turn (inside_after false p) next) e

qualified_turn : (kind : Kind) (name p : List ℕ) (next : Phase) → qualified kind name p ≡ Some next → inside_after false p ≡ is_inside next
unfolding qualified
qualified_turn kind name p next e =
    turn_if (is_no_qualifier kind p) (inside_after false p) (Parted (plain name)) next _ (λ h. name_turn p (no_qualifier_name kind p h)) (λ o. turn_if (is_architecture p) (inside_after false p) (Parted (with_arch name p)) next None (λ h. name_turn p (architecture_name p h)) (no_turn (inside_after false p) next) o) e

compared_by_turn : (kind : Kind) (base : Alternative) (p : List ℕ) (o : Option Relation) (next : Phase) → relation_of p ≡ o → compared_by kind base o ≡ Some next → inside_after true p ≡ is_inside next
compared_by_turn kind base p None next o e = cc
compared_by_turn kind base p (Some relation) next o e =
    let is = operator_is p relation o in
    turn_if (is_allowed kind relation) (inside_after true p) (Compared base relation) next None (λ h. is.turn) (no_turn (inside_after true p) next) e

compared_turn : (kind : Kind) (base : Alternative) (p : List ℕ) (next : Phase) → compared kind base p ≡ Some next → inside_after true p ≡ is_inside next
unfolding compared
compared_turn kind base p next e = compared_by_turn kind base p (relation_of p) next refl e

versioned_turn : (base : Alternative) (relation : Relation) (p : List ℕ) (next : Phase) → versioned base relation p ≡ Some next → inside_after true p ≡ is_inside next
unfolding versioned
versioned_turn base relation p next e =
    turn_if (is_version_word p) (inside_after true p) (Versioned (with_relation base relation p)) next None (λ h. version_turn p (version_bytes p h)) (no_turn (inside_after true p) next) e

advanced_turn : (kind : Kind) (phase next : Phase) (p : List ℕ) → advanced kind phase p ≡ Some next → inside_after (is_inside phase) p ≡ is_inside next
advanced_turn kind Start next p e = named_turn p next e
advanced_turn kind Barred next p e = named_turn p next e
advanced_turn kind (Named name) next p e =
    turn_if (is_piece 58 p) (inside_after false p) (Colon name) next _ (λ h. byte_turn false false p (58 ∷ []) colon_stays h) (λ o. turn_if (is_piece 40 p) (inside_after false p) (Opened (plain name)) next None (λ h. byte_turn false true p (40 ∷ []) opens h) (no_turn (inside_after false p) next) o) e
advanced_turn kind (Colon name) next p e = qualified_turn kind name p next e
advanced_turn kind (Parted base) next p e =
    turn_if (is_piece 40 p) (inside_after false p) (Opened base) next None (λ h. byte_turn false true p (40 ∷ []) opens h) (no_turn (inside_after false p) next) e
advanced_turn kind (Opened base) next p e = compared_turn kind base p next e
advanced_turn kind (Compared base relation) next p e = versioned_turn base relation p next e
advanced_turn kind (Versioned base) next p e =
    turn_if (is_piece 41 p) (inside_after true p) (Closed base) next None (λ h. byte_turn true false p (41 ∷ []) closes h) (no_turn (inside_after true p) next) e
advanced_turn kind (Closed base) next p e = cc

-- and so does every piece

state_inside : (u v : Read) (b : Bool) → u ≡ v → b ≡ is_inside u.phase → b ≡ is_inside v.phase
state_inside u v b e h = h ∙ ap (λ (r : Read). is_inside r.phase) e

phased_turn : (s u : Read) (turned : Bool) (o : Option Phase) → ((next : Phase) → o ≡ Some next → turned ≡ is_inside next) → phased s o ≡ Some u → turned ≡ is_inside u.phase
phased_turn s u turned None h e = cc
phased_turn s u turned (Some next) h e = state_inside (with_phase s next) u turned (same_Some (with_phase s next) u e) (h next refl)

outside_turn : (phase : Phase) (p : List ℕ) → inside_after false p ≡ false → is_inside phase ≡ false → inside_after (is_inside phase) p ≡ false
outside_turn phase p h e = ap (λ m. inside_after m p) e ∙ h

grouped_turn : (s u : Read) (o : Option Alternative) → ended s.phase ≡ o → grouped s o ≡ Some u → inside_after (is_inside s.phase) (44 ∷ []) ≡ is_inside u.phase
grouped_turn s u None h e = cc
grouped_turn s u (Some a) h e =
    state_inside (record { groups = s.groups ++ (s.alternatives ++ a ∷ []) ∷ []; alternatives = []; phase = Start }) u (inside_after (is_inside s.phase) (44 ∷ [])) (same_Some _ u e) (outside_turn s.phase (44 ∷ []) comma_stays (ended_outside s.phase a h))

parted_by_turn : (s u : Read) (b : Bool) → is_start s.phase ≡ b → cond b (Some s) (grouped s (ended s.phase)) ≡ Some u → inside_after (is_inside s.phase) (44 ∷ []) ≡ is_inside u.phase
parted_by_turn s u true h e =
    let out = start_outside s.phase h in
    state_inside s u (inside_after (is_inside s.phase) (44 ∷ [])) (same_Some s u e) (outside_turn s.phase (44 ∷ []) comma_stays out ∙ sym out)
parted_by_turn s u false h e = grouped_turn s u (ended s.phase) refl e

parted_turn : (s u : Read) → parted s ≡ Some u → inside_after (is_inside s.phase) (44 ∷ []) ≡ is_inside u.phase
unfolding parted
parted_turn s u e = parted_by_turn s u (is_start s.phase) refl e

alternated_turn : (s u : Read) (o : Option Alternative) → ended s.phase ≡ o → alternated s o ≡ Some u → inside_after (is_inside s.phase) (124 ∷ []) ≡ is_inside u.phase
alternated_turn s u None h e = cc
alternated_turn s u (Some a) h e =
    state_inside (record { groups = s.groups; alternatives = s.alternatives ++ a ∷ []; phase = Barred }) u (inside_after (is_inside s.phase) (124 ∷ [])) (same_Some _ u e) (outside_turn s.phase (124 ∷ []) bar_stays (ended_outside s.phase a h))

barred_turn : (kind : Kind) (s u : Read) → barred kind s ≡ Some u → inside_after (is_inside s.phase) (124 ∷ []) ≡ is_inside u.phase
barred_turn Depends s u e = alternated_turn s u (ended s.phase) refl e
barred_turn Provides s u e = cc

turn_by : (kind : Kind) (s u : Read) (p : List ℕ) (comma bar blanks : Bool) → (blanks ≡ true → AllBlank p) → is_piece 44 p ≡ comma → is_piece 124 p ≡ bar → cond comma (parted s) (cond bar (barred kind s) (cond blanks (phased s (rested s.phase)) (phased s (advanced kind s.phase p)))) ≡ Some u → inside_after (is_inside s.phase) p ≡ is_inside u.phase
turn_by kind s u p true bar blanks blank c b e = ap (inside_after (is_inside s.phase)) (same_bytes p (44 ∷ []) c) ∙ parted_turn s u e
turn_by kind s u p false true blanks blank c b e = ap (inside_after (is_inside s.phase)) (same_bytes p (124 ∷ []) b) ∙ barred_turn kind s u e
turn_by kind s u p false false true blank c b e =
    phased_turn s u (inside_after (is_inside s.phase) p) (rested s.phase) (λ next r. blanks_turn (is_inside s.phase) p (blank refl) ∙ rested_inside s.phase next r) e
turn_by kind s u p false false false blank c b e =
    phased_turn s u (inside_after (is_inside s.phase) p) (advanced kind s.phase p) (λ next a. advanced_turn kind s.phase next p a) e

pub step_turn : (kind : Kind) (s u : Read) (p : List ℕ) → (is_blanks p ≡ true → AllBlank p) → stepped kind s p ≡ Some u → inside_after (is_inside s.phase) p ≡ is_inside u.phase
unfolding stepped
step_turn kind s u p blank e = turn_by kind s u p (is_piece 44 p) (is_piece 124 p) (is_blanks p) blank refl refl e
