-- What was read piece by piece is spelled by the text, groups and all.
use Rattle.std.proofs.Common.{◌≡◌, ℕ, suc, ◌<◌, ◌+◌, Bool, true, false, cond, List, [], ◌∷◌, ◌++◌, length, take, get_or, Option, Some, None, refl, ap, subst, sym, ◌∙◌, arith, inl, inr, append_assoc, append-nil}
use Rattle.std.specs.List.{list_all, flat_map, AllZip, prefix_len}
use Rattle.std.specs.Option.{option_and_then}
use Rattle.std.proofs.lemmas.Option.{same_Some}
use Rattle.std.proofs.lemmas.List.{take-append-drop, get_or-take}
use Rattle.std.proofs.lemmas.Bool.{false≢true, cases_Bool, and_from, cond-true, cond-false}
use Rattle.std.proofs.lemmas.List.Folds.{list_all-append}
use Rattle.ap_text.specs.Names.{is_package_name, is_architecture}
use Rattle.deb_version.specs.declared.order.Relation.{Relation}
use Rattle.depends_field.specs.declared.alternative.Alternative.{Alternative}
use Rattle.depends_field.specs.declared.phase.Kind.{Kind}
use Rattle.depends_field.specs.declared.phase.Kind.TheVariants.{Depends, Provides}
use Rattle.depends_field.specs.declared.phase.Phase.{Phase}
use Rattle.depends_field.specs.declared.phase.Phase.TheVariants.{Start, Barred, Named, Colon, Parted, Opened, Compared, Versioned, Closed}
use Rattle.depends_field.specs.Pieces.{is_blank, piece_len, IsCut, front, behind, inside_after}
use Rattle.depends_field.specs.Reading.{Read, start, is_piece, is_blanks, is_no_qualifier, is_version_word, is_allowed, relation_of, plain, with_arch, with_relation, rested, named, qualified, compared, compared_by, versioned, advanced, ended, is_start, grouped, parted, alternated, barred, with_phase, phased, stepped, run, groups_read, finished}
use Rattle.depends_field.specs.Groups.{AllBlank, parted_by, AlternativeText, GroupText, PartsText, Groups}
use Rattle.depends_field.specs.Faults.{IsReading}
use Rattle.depends_field.proofs.Cuts.{piece_len_in}
use Rattle.depends_field.proofs.Found.{IsBare, Completes, blank_alternative, blank_completes, piece_completes, ended_completes, same_bytes}

-- what is left of the text, within a group

pub record Within (kind : Kind) (s : Read) (text : List ℕ) (groups : List (List Alternative)) : Type 0 where
  pub mine : List ℕ
  pub bars : List (List ℕ)
  pub commas : List (List ℕ)
  pub a : Alternative
  pub others : List Alternative
  pub more : List (List Alternative)
  pub is : text ≡ mine ++ (flat_map (λ (part : List ℕ). 124 ∷ part) bars ++ flat_map (λ (part : List ℕ). 44 ∷ part) commas)
  pub completes : Completes kind s.phase mine a
  pub each_bar : AllZip (AlternativeText kind) bars others
  pub single : kind ≡ Provides → bars ≡ []
  pub each_comma : PartsText kind commas more
  pub gives : groups ≡ s.groups ++ (s.alternatives ++ a ∷ others) ∷ more

-- and between groups

pub record Between (kind : Kind) (s : Read) (text : List ℕ) (groups : List (List Alternative)) : Type 0 where
  pub more : List (List Alternative)
  pub field : Groups kind text more
  pub gives : groups ≡ s.groups ++ more

abbrev pub SpellsBy : Bool → Kind → Read → List ℕ → List (List Alternative) → Type 0
SpellsBy true kind s text groups = Between kind s text groups
SpellsBy false kind s text groups = Within kind s text groups

abbrev pub Spells : Kind → Read → List ℕ → List (List Alternative) → Type 0
Spells kind s text groups = SpellsBy (is_start s.phase) kind s text groups

as_between : (kind : Kind) (s : Read) (text : List ℕ) (groups : List (List Alternative)) → is_start s.phase ≡ true → Spells kind s text groups → Between kind s text groups
as_between kind s text groups e t = let P : Bool → Type 0 = λ b. SpellsBy b kind s text groups in subst P e t

from_between : (kind : Kind) (s : Read) (text : List ℕ) (groups : List (List Alternative)) → is_start s.phase ≡ true → Between kind s text groups → Spells kind s text groups
from_between kind s text groups e t = let P : Bool → Type 0 = λ b. SpellsBy b kind s text groups in subst P (sym e) t

as_within : (kind : Kind) (s : Read) (text : List ℕ) (groups : List (List Alternative)) → is_start s.phase ≡ false → Spells kind s text groups → Within kind s text groups
as_within kind s text groups e t = let P : Bool → Type 0 = λ b. SpellsBy b kind s text groups in subst P e t

from_within : (kind : Kind) (s : Read) (text : List ℕ) (groups : List (List Alternative)) → is_start s.phase ≡ false → Within kind s text groups → Spells kind s text groups
from_within kind s text groups e t = let P : Bool → Type 0 = λ b. SpellsBy b kind s text groups in subst P (sym e) t

pub record IsSane (s : Read) : Type 0 where
  pub fresh : is_start s.phase ≡ true → s.alternatives ≡ []
  pub bare : IsBare s.phase

-- the phases

not_start_from_ended : (phase : Phase) (a : Alternative) → ended phase ≡ Some a → is_start phase ≡ false
not_start_from_ended Start a e = cc
not_start_from_ended Barred a e = refl
not_start_from_ended (Named name) a e = refl
not_start_from_ended (Colon name) a e = refl
not_start_from_ended (Parted base) a e = refl
not_start_from_ended (Opened base) a e = refl
not_start_from_ended (Compared base relation) a e = refl
not_start_from_ended (Versioned base) a e = refl
not_start_from_ended (Closed base) a e = refl

starts_as : (x next : Phase) (b : Bool) → x ≡ next → is_start x ≡ b → is_start next ≡ b
starts_as x next b e h = ap is_start (sym e) ∙ h

bare_as : (x next : Phase) → x ≡ next → IsBare x → IsBare next
bare_as x next e h = let P : Phase → Type 0 = λ ph. IsBare ph in subst P e h

rested_start : (phase next : Phase) → rested phase ≡ Some next → is_start next ≡ is_start phase
rested_start Start next e = starts_as Start next true (same_Some Start next e) refl
rested_start Barred next e = starts_as Barred next false (same_Some Barred next e) refl
rested_start (Named name) next e = starts_as (Parted (plain name)) next false (same_Some (Parted (plain name)) next e) refl
rested_start (Colon name) next e = cc
rested_start (Parted base) next e = starts_as (Parted base) next false (same_Some (Parted base) next e) refl
rested_start (Opened base) next e = starts_as (Opened base) next false (same_Some (Opened base) next e) refl
rested_start (Compared base relation) next e = starts_as (Compared base relation) next false (same_Some (Compared base relation) next e) refl
rested_start (Versioned base) next e = starts_as (Versioned base) next false (same_Some (Versioned base) next e) refl
rested_start (Closed base) next e = starts_as (Closed base) next false (same_Some (Closed base) next e) refl

rested_bare : (phase next : Phase) → IsBare phase → rested phase ≡ Some next → IsBare next
rested_bare Start next h e = bare_as Start next (same_Some Start next e) tt
rested_bare Barred next h e = bare_as Barred next (same_Some Barred next e) tt
rested_bare (Named name) next h e = bare_as (Parted (plain name)) next (same_Some (Parted (plain name)) next e) refl
rested_bare (Colon name) next h e = cc
rested_bare (Parted base) next h e = bare_as (Parted base) next (same_Some (Parted base) next e) h
rested_bare (Opened base) next h e = bare_as (Opened base) next (same_Some (Opened base) next e) tt
rested_bare (Compared base relation) next h e = bare_as (Compared base relation) next (same_Some (Compared base relation) next e) tt
rested_bare (Versioned base) next h e = bare_as (Versioned base) next (same_Some (Versioned base) next e) tt
rested_bare (Closed base) next h e = bare_as (Closed base) next (same_Some (Closed base) next e) tt

-- what a further phase is: no start, and bare
abbrev IsOn : Phase → Type 0
IsOn next = (is_start next ≡ false) × IsBare next

on_as : (x next : Phase) → x ≡ next → IsOn x → IsOn next
on_as x next e h = let P : Phase → Type 0 = λ ph. IsOn ph in subst P e h

on_if : (b : Bool) (x next : Phase) (other : Option Phase) → IsOn x → (other ≡ Some next → IsOn next) → cond b (Some x) other ≡ Some next → IsOn next
on_if true x next other h k e = on_as x next (same_Some x next e) h
on_if false x next other h k e = k e

no_other : (next : Phase) → None ≡ Some next → IsOn next
no_other next e = cc

named_on : (p : List ℕ) (next : Phase) → named p ≡ Some next → IsOn next
unfolding named
named_on p next e = on_if (is_package_name p) (Named p) next None (refl, tt) (no_other next) e

qualified_on : (kind : Kind) (name p : List ℕ) (next : Phase) → qualified kind name p ≡ Some next → IsOn next
unfolding qualified
qualified_on kind name p next e =
    on_if (is_no_qualifier kind p) (Parted (plain name)) next _ (refl, refl) (λ o. on_if (is_architecture p) (Parted (with_arch name p)) next None (refl, refl) (no_other next) o) e

compared_by_on : (kind : Kind) (base : Alternative) (o : Option Relation) (next : Phase) → compared_by kind base o ≡ Some next → IsOn next
compared_by_on kind base None next e = cc
compared_by_on kind base (Some relation) next e = on_if (is_allowed kind relation) (Compared base relation) next None (refl, tt) (no_other next) e

compared_on : (kind : Kind) (base : Alternative) (p : List ℕ) (next : Phase) → compared kind base p ≡ Some next → IsOn next
unfolding compared
compared_on kind base p next e = compared_by_on kind base (relation_of p) next e

versioned_on : (base : Alternative) (relation : Relation) (p : List ℕ) (next : Phase) → versioned base relation p ≡ Some next → IsOn next
unfolding versioned
versioned_on base relation p next e = on_if (is_version_word p) (Versioned (with_relation base relation p)) next None (refl, tt) (no_other next) e

pub advanced_on : (kind : Kind) (phase next : Phase) (p : List ℕ) → advanced kind phase p ≡ Some next → IsOn next
advanced_on kind Start next p e = named_on p next e
advanced_on kind Barred next p e = named_on p next e
advanced_on kind (Named name) next p e =
    on_if (is_piece 58 p) (Colon name) next _ (refl, tt) (λ o. on_if (is_piece 40 p) (Opened (plain name)) next None (refl, tt) (no_other next) o) e
advanced_on kind (Colon name) next p e = qualified_on kind name p next e
advanced_on kind (Parted base) next p e = on_if (is_piece 40 p) (Opened base) next None (refl, tt) (no_other next) e
advanced_on kind (Opened base) next p e = compared_on kind base p next e
advanced_on kind (Compared base relation) next p e = versioned_on base relation p next e
advanced_on kind (Versioned base) next p e = on_if (is_piece 41 p) (Closed base) next None (refl, tt) (no_other next) e
advanced_on kind (Closed base) next p e = cc

-- a comma

comma_between : (kind : Kind) (text : List ℕ) (more : List (List Alternative)) → Groups kind text more → Groups kind (44 ∷ text) more
comma_between kind text more t = record {
  first = [];
  others = t.first ∷ t.others;
  is = ap (λ (l : List ℕ). 44 ∷ l) t.is;
  each = inl (refl, t.each);
}

comma_within : (kind : Kind) (s : Read) (text : List ℕ) (groups : List (List Alternative)) (a : Alternative) → IsBare s.phase → ended s.phase ≡ Some a → Between kind (record { groups = s.groups ++ (s.alternatives ++ a ∷ []) ∷ []; alternatives = []; phase = Start }) text groups → Within kind s (44 ∷ text) groups
comma_within kind s text groups a bare e t = record {
  mine = [];
  bars = [];
  commas = t.field.first ∷ t.field.others;
  a = a;
  others = [];
  more = t.more;
  is = ap (λ (l : List ℕ). 44 ∷ l) t.field.is;
  completes = ended_completes kind s.phase a bare e;
  each_bar = tt;
  single = λ k. refl;
  each_comma = t.field.each;
  gives = t.gives ∙ append_assoc s.groups ((s.alternatives ++ a ∷ []) ∷ []) t.more;
}

grouped_comma : (kind : Kind) (s u : Read) (text : List ℕ) (groups : List (List Alternative)) (o : Option Alternative) → IsBare s.phase → ended s.phase ≡ o → grouped s o ≡ Some u → Spells kind u text groups → Within kind s (44 ∷ text) groups
grouped_comma kind s u text groups None bare e g t = cc
grouped_comma kind s u text groups (Some a) bare e g t =
    let v : Read = record { groups = s.groups ++ (s.alternatives ++ a ∷ []) ∷ []; alternatives = []; phase = Start } in
    let P : Read → Type 0 = λ r. Spells kind r text groups in
    comma_within kind s text groups a bare e (subst P (sym (same_Some v u g)) t)

parted_comma : (kind : Kind) (s u : Read) (text : List ℕ) (groups : List (List Alternative)) (b : Bool) → IsSane s → is_start s.phase ≡ b → cond b (Some s) (grouped s (ended s.phase)) ≡ Some u → Spells kind u text groups → Spells kind s (44 ∷ text) groups
parted_comma kind s u text groups true sane b e t =
    let P : Read → Type 0 = λ r. Spells kind r text groups in
    let here = as_between kind s text groups b (subst P (sym (same_Some s u e)) t) in
    from_between kind s (44 ∷ text) groups b (record { more = here.more; field = comma_between kind text here.more here.field; gives = here.gives })
parted_comma kind s u text groups false sane b e t =
    from_within kind s (44 ∷ text) groups b (grouped_comma kind s u text groups (ended s.phase) sane.bare refl e t)

at_comma : (kind : Kind) (s u : Read) (text : List ℕ) (groups : List (List Alternative)) → IsSane s → parted s ≡ Some u → Spells kind u text groups → Spells kind s (44 ∷ text) groups
unfolding parted
at_comma kind s u text groups sane e t = parted_comma kind s u text groups (is_start s.phase) sane refl e t

-- a bar

bar_within : (s : Read) (text : List ℕ) (groups : List (List Alternative)) (a : Alternative) → IsBare s.phase → ended s.phase ≡ Some a → Within Depends (record { groups = s.groups; alternatives = s.alternatives ++ a ∷ []; phase = Barred }) text groups → Within Depends s (124 ∷ text) groups
bar_within s text groups a bare e t =
    let bars = flat_map (λ (part : List ℕ). 124 ∷ part) t.bars in
    let commas = flat_map (λ (part : List ℕ). 44 ∷ part) t.commas in
    record {
      mine = [];
      bars = t.mine ∷ t.bars;
      commas = t.commas;
      a = a;
      others = t.a ∷ t.others;
      more = t.more;
      is = ap (λ (l : List ℕ). 124 ∷ l) (t.is ∙ sym (append_assoc t.mine bars commas));
      completes = ended_completes Depends s.phase a bare e;
      each_bar = (t.completes, t.each_bar);
      single = λ k. cc;
      each_comma = t.each_comma;
      gives = t.gives ∙ ap (λ (g : List Alternative). s.groups ++ g ∷ t.more) (append_assoc s.alternatives (a ∷ []) (t.a ∷ t.others));
    }

alternated_bar : (s u : Read) (text : List ℕ) (groups : List (List Alternative)) (o : Option Alternative) → IsBare s.phase → ended s.phase ≡ o → alternated s o ≡ Some u → Spells Depends u text groups → Spells Depends s (124 ∷ text) groups
alternated_bar s u text groups None bare e g t = cc
alternated_bar s u text groups (Some a) bare e g t =
    let v : Read = record { groups = s.groups; alternatives = s.alternatives ++ a ∷ []; phase = Barred } in
    let P : Read → Type 0 = λ r. Spells Depends r text groups in
    from_within Depends s (124 ∷ text) groups (not_start_from_ended s.phase a e) (bar_within s text groups a bare e (subst P (sym (same_Some v u g)) t))

at_bar : (kind : Kind) (s u : Read) (text : List ℕ) (groups : List (List Alternative)) → IsSane s → barred kind s ≡ Some u → Spells kind u text groups → Spells kind s (124 ∷ text) groups
at_bar Depends s u text groups sane e t = alternated_bar s u text groups (ended s.phase) sane.bare refl e t
at_bar Provides s u text groups sane e t = cc

-- blanks

blank_group : (kind : Kind) (p text : List ℕ) (group : List Alternative) → AllBlank p → GroupText kind text group → GroupText kind (p ++ text) group
blank_group kind p text [] h t = absurd t.each
blank_group kind p text (a ∷ group) h t = record {
  first = p ++ t.first;
  others = t.others;
  is = ap (λ (l : List ℕ). p ++ l) t.is ∙ sym (append_assoc p t.first (flat_map (λ (part : List ℕ). 124 ∷ part) t.others));
  each = (blank_alternative kind p t.first a h t.each.0, t.each.1);
  single = t.single;
}

blank_parts : (kind : Kind) (p first : List ℕ) (others : List (List ℕ)) (groups : List (List Alternative)) → AllBlank p → PartsText kind (first ∷ others) groups → PartsText kind ((p ++ first) ∷ others) groups
blank_parts kind p first others groups h (inl t) = inl (list_all-append is_blank p first ∙ and_from (list_all is_blank p) (list_all is_blank first) h t.0, t.1)
blank_parts kind p first others groups h (inr t) = inr (t.0, t.1, t.2, blank_group kind p first t.0 h t.3, t.4)

blank_between : (kind : Kind) (p text : List ℕ) (groups : List (List Alternative)) → AllBlank p → Groups kind text groups → Groups kind (p ++ text) groups
blank_between kind p text groups h t = record {
  first = p ++ t.first;
  others = t.others;
  is = ap (λ (l : List ℕ). p ++ l) t.is ∙ sym (append_assoc p t.first (flat_map (λ (part : List ℕ). 44 ∷ part) t.others));
  each = blank_parts kind p t.first t.others groups h t.each;
}

put_within : (kind : Kind) (s : Read) (phase : Phase) (p text : List ℕ) (groups : List (List Alternative)) → ((mine : List ℕ) (a : Alternative) → Completes kind phase mine a → Completes kind s.phase (p ++ mine) a) → Within kind (with_phase s phase) text groups → Within kind s (p ++ text) groups
put_within kind s phase p text groups put t =
    let rest = flat_map (λ (part : List ℕ). 124 ∷ part) t.bars ++ flat_map (λ (part : List ℕ). 44 ∷ part) t.commas in
    record {
      mine = p ++ t.mine;
      bars = t.bars;
      commas = t.commas;
      a = t.a;
      others = t.others;
      more = t.more;
      is = ap (λ (l : List ℕ). p ++ l) t.is ∙ sym (append_assoc p t.mine rest);
      completes = put t.mine t.a t.completes;
      each_bar = t.each_bar;
      single = t.single;
      each_comma = t.each_comma;
      gives = t.gives;
    }

blank_by : (kind : Kind) (s : Read) (phase : Phase) (p text : List ℕ) (groups : List (List Alternative)) (b : Bool) → is_start s.phase ≡ b → rested s.phase ≡ Some phase → AllBlank p → Spells kind (with_phase s phase) text groups → Spells kind s (p ++ text) groups
blank_by kind s phase p text groups true b e h t =
    let here = as_between kind (with_phase s phase) text groups (rested_start s.phase phase e ∙ b) t in
    from_between kind s (p ++ text) groups b (record { more = here.more; field = blank_between kind p text here.more h here.field; gives = here.gives })
blank_by kind s phase p text groups false b e h t =
    from_within kind s (p ++ text) groups b (put_within kind s phase p text groups (λ mine a c. blank_completes kind s.phase phase p mine a e h c) (as_within kind (with_phase s phase) text groups (rested_start s.phase phase e ∙ b) t))

-- any other piece

first_alternative : (kind : Kind) (phase : Phase) (text : List ℕ) (a : Alternative) → is_start phase ≡ true → Completes kind phase text a → AlternativeText kind text a
first_alternative kind Start text a e t = t
first_alternative kind Barred text a e t = cc
first_alternative kind (Named name) text a e t = cc
first_alternative kind (Colon name) text a e t = cc
first_alternative kind (Parted base) text a e t = cc
first_alternative kind (Opened base) text a e t = cc
first_alternative kind (Compared base relation) text a e t = cc
first_alternative kind (Versioned base) text a e t = cc
first_alternative kind (Closed base) text a e t = cc

between_from_within : (kind : Kind) (s : Read) (text : List ℕ) (groups : List (List Alternative)) → IsSane s → is_start s.phase ≡ true → Within kind s text groups → Between kind s text groups
between_from_within kind s text groups sane b t =
    let bars = flat_map (λ (part : List ℕ). 124 ∷ part) t.bars in
    let commas = flat_map (λ (part : List ℕ). 44 ∷ part) t.commas in
    let group : GroupText kind (parted_by 124 t.mine t.bars) (t.a ∷ t.others) = record {
      first = t.mine;
      others = t.bars;
      is = refl;
      each = (first_alternative kind s.phase t.mine t.a b t.completes, t.each_bar);
      single = t.single;
    } in
    record {
      more = (t.a ∷ t.others) ∷ t.more;
      field = record {
        first = parted_by 124 t.mine t.bars;
        others = t.commas;
        is = t.is ∙ sym (append_assoc t.mine bars commas);
        each = inr (t.a ∷ t.others, t.more, refl, group, t.each_comma);
      };
      gives = t.gives ∙ ap (λ (l : List Alternative). s.groups ++ (l ++ t.a ∷ t.others) ∷ t.more) (sane.fresh b);
    }

piece_by : (kind : Kind) (s : Read) (phase : Phase) (p text : List ℕ) (groups : List (List Alternative)) (b : Bool) → IsSane s → is_start s.phase ≡ b → advanced kind s.phase p ≡ Some phase → Spells kind (with_phase s phase) text groups → Spells kind s (p ++ text) groups
piece_by kind s phase p text groups true sane b e t =
    let here = put_within kind s phase p text groups (λ mine a c. piece_completes kind s.phase phase p mine a e c) (as_within kind (with_phase s phase) text groups (advanced_on kind s.phase phase p e).0 t) in
    from_between kind s (p ++ text) groups b (between_from_within kind s (p ++ text) groups sane b here)
piece_by kind s phase p text groups false sane b e t =
    from_within kind s (p ++ text) groups b (put_within kind s phase p text groups (λ mine a c. piece_completes kind s.phase phase p mine a e c) (as_within kind (with_phase s phase) text groups (advanced_on kind s.phase phase p e).0 t))

-- one piece back

pub record Steps (kind : Kind) (s : Read) (p : List ℕ) (u : Read) : Type 0 where
  pub sane : IsSane u
  pub back : (text : List ℕ) (groups : List (List Alternative)) → Spells kind u text groups → Spells kind s (p ++ text) groups

steps_as : (kind : Kind) (s : Read) (p : List ℕ) (v u : Read) → v ≡ u → Steps kind s p v → Steps kind s p u
steps_as kind s p v u e h = let P : Read → Type 0 = λ r. Steps kind s p r in subst P e h

steps_at : (kind : Kind) (s : Read) (p q : List ℕ) (u : Read) → p ≡ q → Steps kind s q u → Steps kind s p u
steps_at kind s p q u e h = let P : List ℕ → Type 0 = λ r. Steps kind s r u in subst P (sym e) h

blank_steps : (kind : Kind) (s u : Read) (p : List ℕ) (o : Option Phase) → IsSane s → rested s.phase ≡ o → phased s o ≡ Some u → AllBlank p → Steps kind s p u
blank_steps kind s u p None sane e g h = cc
blank_steps kind s u p (Some phase) sane e g h =
    steps_as kind s p (with_phase s phase) u (same_Some (with_phase s phase) u g) (record {
      sane = record { fresh = λ b. sane.fresh (sym (rested_start s.phase phase e) ∙ b); bare = rested_bare s.phase phase sane.bare e };
      back = λ text groups t. blank_by kind s phase p text groups (is_start s.phase) refl e h t;
    })

piece_steps : (kind : Kind) (s u : Read) (p : List ℕ) (o : Option Phase) → IsSane s → advanced kind s.phase p ≡ o → phased s o ≡ Some u → Steps kind s p u
piece_steps kind s u p None sane e g = cc
piece_steps kind s u p (Some phase) sane e g =
    let further = advanced_on kind s.phase phase p e in
    steps_as kind s p (with_phase s phase) u (same_Some (with_phase s phase) u g) (record {
      sane = record { fresh = λ b. absurd (false≢true (sym further.0 ∙ b)); bare = further.1 };
      back = λ text groups t. piece_by kind s phase p text groups (is_start s.phase) sane refl e t;
    })

grouped_sane : (s u : Read) (o : Option Alternative) → grouped s o ≡ Some u → IsSane u
grouped_sane s u None g = cc
grouped_sane s u (Some a) g =
    let v : Read = record { groups = s.groups ++ (s.alternatives ++ a ∷ []) ∷ []; alternatives = []; phase = Start } in
    let P : Read → Type 0 = λ r. IsSane r in
    let here : IsSane v = record { fresh = λ b. refl; bare = tt } in
    subst P (same_Some v u g) here

parted_sane_by : (s u : Read) (b : Bool) → IsSane s → cond b (Some s) (grouped s (ended s.phase)) ≡ Some u → IsSane u
parted_sane_by s u true sane e = let P : Read → Type 0 = λ r. IsSane r in subst P (same_Some s u e) sane
parted_sane_by s u false sane e = grouped_sane s u (ended s.phase) e

parted_sane : (s u : Read) → IsSane s → parted s ≡ Some u → IsSane u
unfolding parted
parted_sane s u sane e = parted_sane_by s u (is_start s.phase) sane e

alternated_sane : (s u : Read) (o : Option Alternative) → alternated s o ≡ Some u → IsSane u
alternated_sane s u None g = cc
alternated_sane s u (Some a) g =
    let v : Read = record { groups = s.groups; alternatives = s.alternatives ++ a ∷ []; phase = Barred } in
    let P : Read → Type 0 = λ r. IsSane r in
    let here : IsSane v = record { fresh = λ b. absurd (false≢true b); bare = tt } in
    subst P (same_Some v u g) here

barred_sane : (kind : Kind) (s u : Read) → barred kind s ≡ Some u → IsSane u
barred_sane Depends s u e = alternated_sane s u (ended s.phase) e
barred_sane Provides s u e = cc

steps_by : (kind : Kind) (s u : Read) (p : List ℕ) (comma bar blanks : Bool) → IsSane s → (blanks ≡ true → AllBlank p) → is_piece 44 p ≡ comma → is_piece 124 p ≡ bar → cond comma (parted s) (cond bar (barred kind s) (cond blanks (phased s (rested s.phase)) (phased s (advanced kind s.phase p)))) ≡ Some u → Steps kind s p u
steps_by kind s u p true bar blanks sane blank c b e =
    steps_at kind s p (44 ∷ []) u (same_bytes p (44 ∷ []) c) (record { sane = parted_sane s u sane e; back = λ text groups t. at_comma kind s u text groups sane e t })
steps_by kind s u p false true blanks sane blank c b e =
    steps_at kind s p (124 ∷ []) u (same_bytes p (124 ∷ []) b) (record { sane = barred_sane kind s u e; back = λ text groups t. at_bar kind s u text groups sane e t })
steps_by kind s u p false false true sane blank c b e = blank_steps kind s u p (rested s.phase) sane refl e (blank refl)
steps_by kind s u p false false false sane blank c b e = piece_steps kind s u p (advanced kind s.phase p) sane refl e

one_step : (kind : Kind) (s u : Read) (p : List ℕ) → IsSane s → (is_blanks p ≡ true → AllBlank p) → stepped kind s p ≡ Some u → Steps kind s p u
unfolding stepped
one_step kind s u p sane blank e = steps_by kind s u p (is_piece 44 p) (is_piece 124 p) (is_blanks p) sane blank refl refl e

-- a piece that begins with a blank is blank

prefix_passes : (q : ℕ → Bool) (text : List ℕ) → list_all q (take (prefix_len q text) text) ≡ true
prefix_passes q [] = refl
prefix_passes q (b ∷ bs) =
    let next : 1 + prefix_len q bs ≡ suc (prefix_len q bs) = omega arith in
    elim (cases_Bool (q b)) [
      | inl h ↦ ap (λ n. list_all q (take n (b ∷ bs))) (cond-true (q b) (1 + prefix_len q bs) 0 h ∙ next) ∙ and_from (q b) (list_all q (take (prefix_len q bs) bs)) h (prefix_passes q bs)
      | inr h ↦ ap (λ n. list_all q (take n (b ∷ bs))) (cond-false (q b) (1 + prefix_len q bs) 0 h)
    ]

piece_len_blank : (inside : Bool) (text : List ℕ) → is_blank (get_or text 0 0) ≡ true → piece_len inside text ≡ prefix_len is_blank text
unfolding piece_len
piece_len_blank inside text h = cond-true (is_blank (get_or text 0 0)) _ _ h

pub blank_front : (inside : Bool) (text : List ℕ) → 0 < length text → is_blanks (front inside text) ≡ true → AllBlank (front inside text)
blank_front inside text some h =
    let first : get_or (front inside text) 0 0 ≡ get_or text 0 0 = get_or-take (piece_len inside text) text 0 0 (piece_len_in inside text some).0 in
    let len = piece_len_blank inside text (ap is_blank (sym first) ∙ h) in
    ap (λ n. list_all is_blank (take n text)) len ∙ prefix_passes is_blank text

-- the end

end_by : (kind : Kind) (s : Read) (groups : List (List Alternative)) (b : Bool) (o : Option Alternative) → IsSane s → is_start s.phase ≡ b → ended s.phase ≡ o → groups_read (cond b (Some s) (grouped s o)) ≡ Some groups → Spells kind s [] groups
end_by kind s groups true o sane b e g =
    from_between kind s [] groups b (record {
      more = [];
      field = record { first = []; others = []; is = refl; each = inl (refl, refl) };
      gives = sym (same_Some s.groups groups g) ∙ sym (append-nil s.groups);
    })
end_by kind s groups false None sane b e g = cc
end_by kind s groups false (Some a) sane b e g =
    from_within kind s [] groups b (record {
      mine = [];
      bars = [];
      commas = [];
      a = a;
      others = [];
      more = [];
      is = refl;
      completes = ended_completes kind s.phase a sane.bare e;
      each_bar = tt;
      single = λ k. refl;
      each_comma = refl;
      gives = sym (same_Some (s.groups ++ (s.alternatives ++ a ∷ []) ∷ []) groups g);
    })

at_end : (kind : Kind) (s : Read) (groups : List (List Alternative)) → IsSane s → finished s ≡ Some groups → Spells kind s [] groups
unfolding finished parted
at_end kind s groups sane g = end_by kind s groups (is_start s.phase) (ended s.phase) sane refl refl g

-- all of the text

pub run_first : (kind : Kind) (ps : List (List ℕ)) (o : Option Read) (t : Read) → option_and_then (λ u. run kind u ps) o ≡ Some t → (u : Read) × (o ≡ Some u) × (run kind u ps ≡ Some t)
run_first kind ps None t e = cc
run_first kind ps (Some u) t e = (u, refl, e)

spelled_from : (kind : Kind) (inside inside_end : Bool) (ps : List (List ℕ)) (text : List ℕ) (s t : Read) (groups : List (List Alternative)) → IsSane s → IsCut inside text ps inside_end [] → run kind s ps ≡ Some t → finished t ≡ Some groups → Spells kind s text groups
spelled_from kind inside inside_end [] text s t groups sane c r g =
    let P : List ℕ → Type 0 = λ l. Spells kind s l groups in
    subst P (sym c.1) (at_end kind s groups sane (ap finished (same_Some s t r) ∙ g))
spelled_from kind inside inside_end (p ∷ ps) text s t groups sane c r g =
    let u = run_first kind ps (stepped kind s p) t r in
    let blank : is_blanks p ≡ true → AllBlank p = λ h. ap (list_all is_blank) c.1 ∙ blank_front inside text c.0 (ap is_blanks (sym c.1) ∙ h) in
    let step = one_step kind s u.0 p sane blank u.1 in
    let whole : p ++ behind inside text ≡ text = ap (λ (l : List ℕ). l ++ behind inside text) c.1 ∙ take-append-drop (piece_len inside text) text in
    let rest = spelled_from kind (inside_after inside p) inside_end ps (behind inside text) u.0 t groups step.sane c.2 u.2 g in
    let P : List ℕ → Type 0 = λ l. Spells kind s l groups in
    subst P whole (step.back (behind inside text) groups rest)

start_sane : IsSane start
start_sane = record { fresh = λ b. refl; bare = tt }

pub groups_from_reading : (kind : Kind) (text : List ℕ) (groups : List (List Alternative)) → IsReading kind text groups → Groups kind text groups
groups_from_reading kind text groups r =
    let found = spelled_from kind false r.are.0 r.pieces text start r.state groups start_sane r.are.1 r.ran r.gives in
    let P : List (List Alternative) → Type 0 = λ g. Groups kind text g in
    subst P (sym found.gives) found.field
