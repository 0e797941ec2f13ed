-- What is spelled by the grammar is read so, groups and all.
use Rattle.std.proofs.Common.{◌≡◌, ℕ, true, false, not, ◌==◌, List, [], ◌∷◌, ◌++◌, get_or, Option, Some, None, refl, ap, subst, sym, ◌∙◌, inl, inr, append_assoc, append-nil}
use Rattle.std.specs.List.{list_all, flat_map, AllZip}
use Rattle.std.proofs.lemmas.Bool.{and_from, and_parts, cond-true, cond-false}
use Rattle.std.proofs.lemmas.List.Folds.{list_all-append}
use Rattle.ap_text.specs.Names.{is_name_byte, is_name, is_package_name}
use Rattle.deb_version.specs.declared.order.Relation.{Relation}
use Rattle.depends_field.specs.declared.alternative.Alternative.{Alternative}
use Rattle.depends_field.specs.declared.phase.Kind.{Kind}
use Rattle.depends_field.specs.declared.phase.Kind.TheVariants.{Depends, Provides}
use Rattle.depends_field.specs.declared.phase.Phase.{Phase}
use Rattle.depends_field.specs.declared.phase.Phase.TheVariants.{Start, Barred, Named, Closed}
use Rattle.depends_field.specs.Pieces.{is_blank}
use Rattle.depends_field.specs.Reading.{Read, with_relation, rested, named, advanced, ended, is_start, grouped, parted, alternated, barred, with_phase, groups_read, finished}
use Rattle.depends_field.specs.Groups.{AllBlank, parted_by, QualifierText, RestrictionText, AlternativeText, GroupText, PartsText, Groups}
use Rattle.depends_field.specs.Faults.{IsReading}
use Rattle.depends_field.proofs.Walks.{Walk, walk_on, walk_as, walk_blanks, behind_blanks, name_head, walk_name, walk_comma, walk_bar}
use Rattle.depends_field.proofs.Only.{IsTail, base_blanks, blank_not_name, qualifier_walk, restriction_walk}

-- a walk to where the alternative may end
pub record ToEnd (kind : Kind) (s : Read) (phase : Phase) (a : Alternative) (text rest : List ℕ) : Type 0 where
  pub next : Phase
  pub ends : ended next ≡ Some a
  pub on : is_start next ≡ false
  pub walk : Walk kind false (with_phase s phase) text false (with_phase s next) rest

unrestricted_text : (q between restriction after t : List ℕ) → restriction ≡ [] → q ++ (between ++ (restriction ++ (after ++ t))) ≡ q ++ ((between ++ after) ++ t)
unrestricted_text q between restriction after t e =
    ap (λ (l : List ℕ). q ++ (between ++ (l ++ (after ++ t)))) e ∙ ap (λ (l : List ℕ). q ++ l) (sym (append_assoc between after t))

behind_name : (kind : Kind) (s : Read) (name : List ℕ) (arch : Option (List ℕ)) (relation : Option (Relation × List ℕ)) (q between restriction after t : List ℕ) → QualifierText kind q arch → RestrictionText kind restriction relation → AllBlank between → AllBlank after → IsTail t → ToEnd kind s (Named name) (record { name = name; arch = arch; relation = relation }) (q ++ (between ++ (restriction ++ (after ++ t)))) t
behind_name kind s name arch None q between restriction after t qualifier none hb ha tail =
    let blank : AllBlank (between ++ after) = list_all-append is_blank between after ∙ and_from (list_all is_blank between) (list_all is_blank after) hb ha in
    let first = qualifier_walk kind s name q arch ((between ++ after) ++ t) qualifier (behind_blanks is_name_byte (between ++ after) t blank_not_name blank tail.name) in
    let second = base_blanks kind s first.next (record { name = name; arch = arch; relation = None }) (between ++ after) t first.is blank tail.blank in
    record {
      next = second.next;
      ends = second.is.ends;
      on = second.is.on;
      walk = walk_as kind false false (with_phase s (Named name)) (with_phase s second.next) (q ++ (between ++ (restriction ++ (after ++ t)))) (q ++ ((between ++ after) ++ t)) t (unrestricted_text q between restriction after t none) (
          walk_on kind false false false (with_phase s (Named name)) (with_phase s first.next) (with_phase s second.next) (q ++ ((between ++ after) ++ t)) ((between ++ after) ++ t) t first.walk second.walk
          );
    }
behind_name kind s name arch (Some x) q between restriction after t qualifier r hb ha tail =
    let base : Alternative = record { name = name; arch = arch; relation = None } in
    let whole = with_relation base x.0 x.1 in
    let t2 : List ℕ = after ++ t in
    let t1 : List ℕ = restriction ++ t2 in
    let t0 : List ℕ = between ++ t1 in
    let blank : is_blank (get_or t1 0 0) ≡ false = ap (λ (l : List ℕ). is_blank (get_or (l ++ t2) 0 0)) r.is in
    let stop : is_name_byte (get_or t1 0 0) ≡ false = ap (λ (l : List ℕ). is_name_byte (get_or (l ++ t2) 0 0)) r.is in
    let first = qualifier_walk kind s name q arch t0 qualifier (behind_blanks is_name_byte between t1 blank_not_name hb stop) in
    let second = base_blanks kind s first.next base between t1 first.is hb blank in
    let third = restriction_walk kind s second.next base x.0 x.1 restriction t2 second.is r in
    let fourth = walk_blanks kind false s (Closed whole) after t refl ha tail.blank in
    record {
      next = Closed whole;
      ends = refl;
      on = refl;
      walk = walk_on kind false false false (with_phase s (Named name)) (with_phase s first.next) (with_phase s (Closed whole)) (q ++ t0) t0 t first.walk (
          walk_on kind false false false (with_phase s first.next) (with_phase s second.next) (with_phase s (Closed whole)) t0 t1 t second.walk (walk_on kind false false false (with_phase s second.next) (with_phase s (Closed whole)) (with_phase s (Closed whole)) t1 t2 t third fourth)
          );
    }

qualifier_head : (kind : Kind) (q : List ℕ) (arch : Option (List ℕ)) (rest : List ℕ) → QualifierText kind q arch → is_name_byte (get_or rest 0 0) ≡ false → is_name_byte (get_or (q ++ rest) 0 0) ≡ false
qualifier_head kind q None rest (inl none) stop = ap (λ (l : List ℕ). is_name_byte (get_or (l ++ rest) 0 0)) none ∙ stop
qualifier_head kind q None rest (inr (word, spelled, none)) stop = ap (λ (l : List ℕ). is_name_byte (get_or (l ++ rest) 0 0)) spelled
qualifier_head kind q (Some arch) rest h stop = ap (λ (l : List ℕ). is_name_byte (get_or (l ++ rest) 0 0)) h.0

restriction_head : (kind : Kind) (restriction : List ℕ) (relation : Option (Relation × List ℕ)) (rest : List ℕ) → RestrictionText kind restriction relation → is_name_byte (get_or rest 0 0) ≡ false → is_name_byte (get_or (restriction ++ rest) 0 0) ≡ false
restriction_head kind restriction None rest h stop = ap (λ (l : List ℕ). is_name_byte (get_or (l ++ rest) 0 0)) h ∙ stop
restriction_head kind restriction (Some x) rest h stop = ap (λ (l : List ℕ). is_name_byte (get_or (l ++ rest) 0 0)) h.is

-- a phase in which an alternative may begin
pub record Begins (kind : Kind) (phase : Phase) : Type 0 where
  pub rests : rested phase ≡ Some phase
  pub names : (p : List ℕ) → advanced kind phase p ≡ named p

named_is : (p : List ℕ) → is_package_name p ≡ true → named p ≡ Some (Named p)
unfolding named
named_is p h = cond-true (is_package_name p) _ _ h

pub name_of_package : (p : List ℕ) → is_package_name p ≡ true → is_name p ≡ true
name_of_package p h = (and_parts (is_name p) _ (and_parts _ (list_all (λ b. not (b == 95)) p) h).0).0

alternative_then : (b n q t r a rest : List ℕ) → (b ++ (n ++ (q ++ (t ++ (r ++ a))))) ++ rest ≡ b ++ (n ++ (q ++ (t ++ (r ++ (a ++ rest)))))
alternative_then b n q t r a rest = simp append_assoc

alternative_walk : (kind : Kind) (s : Read) (phase : Phase) (a : Alternative) (text t : List ℕ) → Begins kind phase → AlternativeText kind text a → IsTail t → ToEnd kind s phase a (text ++ t) t
alternative_walk kind s phase a text t begins is tail =
    let t2 : List ℕ = is.between ++ (is.restriction ++ (is.after ++ t)) in
    let t1 : List ℕ = is.qualifier ++ t2 in
    let t0 : List ℕ = a.name ++ t1 in
    let name = name_of_package a.name is.name_is in
    let stop2 = behind_blanks is_name_byte is.between (is.restriction ++ (is.after ++ t)) blank_not_name is.blank_between (restriction_head kind is.restriction a.relation (is.after ++ t) is.restriction_is (behind_blanks is_name_byte is.after t blank_not_name is.blank_after tail.name)) in
    let first = walk_blanks kind false s phase is.before t0 begins.rests is.blank_before (name_head a.name t1 name) in
    let second = walk_name kind s phase (Named a.name) a.name t1 name (begins.names a.name ∙ named_is a.name is.name_is) (qualifier_head kind is.qualifier a.arch t2 is.qualifier_is stop2) in
    let third = behind_name kind s a.name a.arch a.relation is.qualifier is.between is.restriction is.after t is.qualifier_is is.restriction_is is.blank_between is.blank_after tail in
    record {
      next = third.next;
      ends = third.ends;
      on = third.on;
      walk = walk_as kind false false (with_phase s phase) (with_phase s third.next) (text ++ t) (is.before ++ t0) t (ap (λ (l : List ℕ). l ++ t) is.is ∙ alternative_then is.before a.name is.qualifier is.between is.restriction is.after t) (
          walk_on kind false false false (with_phase s phase) (with_phase s phase) (with_phase s third.next) (is.before ++ t0) t0 t first (walk_on kind false false false (with_phase s phase) (with_phase s (Named a.name)) (with_phase s third.next) t0 t1 t second third.walk)
          );
    }

-- groups

pub record ToParted (kind : Kind) (s : Read) (group : List Alternative) (text rest : List ℕ) : Type 0 where
  pub state : Read
  pub walk : Walk kind false s text false state rest
  pub then : parted state ≡ Some (record { groups = s.groups ++ (s.alternatives ++ group) ∷ []; alternatives = []; phase = Start })

pub parted_is : (s : Read) (a : Alternative) → is_start s.phase ≡ false → ended s.phase ≡ Some a → parted s ≡ Some (record { groups = s.groups ++ (s.alternatives ++ a ∷ []) ∷ []; alternatives = []; phase = Start })
unfolding parted
parted_is s a on ends = cond-false (is_start s.phase) _ _ on ∙ ap (grouped s) ends

barred_is : (s : Read) (a : Alternative) → ended s.phase ≡ Some a → barred Depends s ≡ Some (record { groups = s.groups; alternatives = s.alternatives ++ a ∷ []; phase = Barred })
barred_is s a ends = ap (alternated s) ends

barred_begins : (kind : Kind) → Begins kind Barred
barred_begins kind = record { rests = refl; names = λ p. refl }

start_begins : (kind : Kind) → Begins kind Start
start_begins kind = record { rests = refl; names = λ p. refl }

bar_tail : (t : List ℕ) → IsTail (124 ∷ t)
bar_tail t = record { blank = refl; name = refl }

comma_tail : (t : List ℕ) → IsTail (44 ∷ t)
comma_tail t = record { blank = refl; name = refl }

no_tail : IsTail []
no_tail = record { blank = refl; name = refl }

one_alternative : (kind : Kind) (s : Read) (first : List ℕ) (a : Alternative) (t : List ℕ) → Begins kind s.phase → AlternativeText kind first a → IsTail t → ToParted kind s (a ∷ []) ((first ++ []) ++ t) t
one_alternative kind s first a t begins is tail =
    let end = alternative_walk kind s s.phase a first t begins is tail in
    record {
      state = with_phase s end.next;
      walk = walk_as kind false false s (with_phase s end.next) ((first ++ []) ++ t) (first ++ t) t (ap (λ (l : List ℕ). l ++ t) (append-nil first)) end.walk;
      then = parted_is (with_phase s end.next) a end.on end.ends;
    }

bars_then : (first q more t : List ℕ) → (first ++ (124 ∷ (q ++ more))) ++ t ≡ first ++ (124 ∷ ((q ++ more) ++ t))
bars_then first q more t = append_assoc first (124 ∷ (q ++ more)) t

pub bars_walk : (kind : Kind) (others : List (List ℕ)) (first : List ℕ) (group : List Alternative) (s : Read) (t : List ℕ) → Begins kind s.phase → AllZip (AlternativeText kind) (first ∷ others) group → (kind ≡ Provides → others ≡ []) → IsTail t → ToParted kind s group (parted_by 124 first others ++ t) t
bars_walk kind [] first [] s t begins each single tail = absurd each
bars_walk kind [] first (a ∷ []) s t begins each single tail = one_alternative kind s first a t begins each.0 tail
bars_walk kind [] first (a ∷ b ∷ group) s t begins each single tail = absurd each.1
bars_walk kind (q ∷ qs) first [] s t begins each single tail = absurd each
bars_walk Provides (q ∷ qs) first (a ∷ group) s t begins each single tail = let e : q ∷ qs ≡ [] = single refl in cc
bars_walk Depends (q ∷ qs) first (a ∷ group) s t begins each single tail =
    let more : List ℕ = parted_by 124 q qs ++ t in
    let end = alternative_walk Depends s s.phase a first (124 ∷ more) begins each.0 (bar_tail more) in
    let next : Read = record { groups = s.groups; alternatives = s.alternatives ++ a ∷ []; phase = Barred } in
    let rest = bars_walk Depends qs q group next t (barred_begins Depends) each.1 (λ k. cc) tail in
    record {
      state = rest.state;
      walk = walk_as Depends false false s rest.state (parted_by 124 first (q ∷ qs) ++ t) (first ++ (124 ∷ more)) t (bars_then first q (flat_map (λ (part : List ℕ). 124 ∷ part) qs) t) (
          walk_on Depends false false false s (with_phase s end.next) rest.state (first ++ (124 ∷ more)) (124 ∷ more) t end.walk (walk_on Depends false false false (with_phase s end.next) next rest.state (124 ∷ more) more t (walk_bar Depends (with_phase s end.next) next more (barred_is (with_phase s end.next) a end.ends)) rest.walk)
          );
      then = rest.then ∙ ap (λ (g : List Alternative). Some (record { groups = s.groups ++ g ∷ []; alternatives = []; phase = Start })) (append_assoc s.alternatives (a ∷ []) group);
    }

group_walk : (kind : Kind) (s : Read) (part : List ℕ) (group : List Alternative) (t : List ℕ) → Begins kind s.phase → GroupText kind part group → IsTail t → ToParted kind s group (part ++ t) t
group_walk kind s part group t begins is tail =
    let inner = bars_walk kind is.others is.first group s t begins is.each is.single tail in
    record {
      state = inner.state;
      walk = walk_as kind false false s inner.state (part ++ t) (parted_by 124 is.first is.others ++ t) t (ap (λ (l : List ℕ). l ++ t) is.is) inner.walk;
      then = inner.then;
    }

-- fields

abbrev pub at_start : List (List Alternative) → Read
at_start done = record { groups = done; alternatives = []; phase = Start }

pub record ToFinish (kind : Kind) (done groups : List (List Alternative)) (text : List ℕ) : Type 0 where
  pub state : Read
  pub walk : Walk kind false (at_start done) text false state []
  pub then : finished state ≡ Some (done ++ groups)

pub start_parted : (done : List (List Alternative)) → parted (at_start done) ≡ Some (at_start done)
unfolding parted
start_parted done = refl

pub finish_from_parted : (s : Read) (groups : List (List Alternative)) (t : Read) → parted s ≡ Some t → t.groups ≡ groups → finished s ≡ Some groups
unfolding finished
finish_from_parted s groups t e same = ap groups_read e ∙ ap Some same

start_finished : (done groups : List (List Alternative)) → groups ≡ [] → finished (at_start done) ≡ Some (done ++ groups)
start_finished done groups e =
    finish_from_parted (at_start done) (done ++ groups) (at_start done) (start_parted done) (sym (ap (λ (g : List (List Alternative)). done ++ g) e ∙ append-nil done))

finish_as : (kind : Kind) (done groups : List (List Alternative)) (text same : List ℕ) → text ≡ same → ToFinish kind done groups same → ToFinish kind done groups text
finish_as kind done groups text same e f = let P : List ℕ → Type 0 = λ l. ToFinish kind done groups l in subst P (sym e) f

pub parts_walk : (kind : Kind) (others : List (List ℕ)) (first : List ℕ) (done groups : List (List Alternative)) → PartsText kind (first ∷ others) groups → ToFinish kind done groups (parted_by 44 first others)
parts_walk kind [] first done groups (inl blank) = record {
  state = at_start done;
  walk = walk_blanks kind false (at_start done) Start first [] refl blank.0 refl;
  then = start_finished done groups blank.1;
}
parts_walk kind [] first done groups (inr g) =
    let inner = group_walk kind (at_start done) first g.0 [] (start_begins kind) g.3 no_tail in
    let same : done ++ g.0 ∷ [] ≡ done ++ groups = ap (λ (more : List (List Alternative)). done ++ more) (sym (g.2 ∙ ap (λ (more : List (List Alternative)). g.0 ∷ more) g.4)) in
    record { state = inner.state; walk = inner.walk; then = finish_from_parted inner.state (done ++ groups) (at_start (done ++ g.0 ∷ [])) inner.then same }
parts_walk kind (q ∷ qs) first done groups (inl blank) =
    let more : List ℕ = parted_by 44 q qs in
    let rest = parts_walk kind qs q done groups blank.1 in
    record {
      state = rest.state;
      walk = walk_on kind false false false (at_start done) (at_start done) rest.state (first ++ (44 ∷ more)) (44 ∷ more) [] (walk_blanks kind false (at_start done) Start first (44 ∷ more) refl blank.0 refl) (walk_on kind false false false (at_start done) (at_start done) rest.state (44 ∷ more) more [] (walk_comma kind (at_start done) (at_start done) more (start_parted done)) rest.walk);
      then = rest.then;
    }
parts_walk kind (q ∷ qs) first done groups (inr g) =
    let more : List ℕ = parted_by 44 q qs in
    let inner = group_walk kind (at_start done) first g.0 (44 ∷ more) (start_begins kind) g.3 (comma_tail more) in
    let next = at_start (done ++ g.0 ∷ []) in
    let rest = parts_walk kind qs q (done ++ g.0 ∷ []) g.1 g.4 in
    record {
      state = rest.state;
      walk = walk_on kind false false false (at_start done) inner.state rest.state (first ++ (44 ∷ more)) (44 ∷ more) [] inner.walk (walk_on kind false false false inner.state next rest.state (44 ∷ more) more [] (walk_comma kind inner.state next more inner.then) rest.walk);
      then = rest.then ∙ ap Some (append_assoc done (g.0 ∷ []) g.1 ∙ ap (λ (all : List (List Alternative)). done ++ all) (sym g.2));
    }

pub reading_from_groups : (kind : Kind) (text : List ℕ) (groups : List (List Alternative)) → Groups kind text groups → IsReading kind text groups
reading_from_groups kind text groups is =
    let all = finish_as kind [] groups text (parted_by 44 is.first is.others) is.is (parts_walk kind is.others is.first [] groups is.each) in
    record { pieces = all.walk.pieces; state = all.state; are = (false, all.walk.cut); ran = all.walk.ran; gives = all.then }
