-- The place of a fault is that of the grammar.
use Rattle.std.proofs.Common.{◌≡◌, ℕ, suc, ◌<◌, Bool, true, false, cond, List, [], ◌∷◌, ◌++◌, length, get_or, Option, Some, None, refl, ap, subst, sym, ◌∙◌, arith, inl, inr, codes}
use Rattle.std.specs.List.{list_all}
use Rattle.std.proofs.lemmas.Option.{same_Some}
use Rattle.std.proofs.lemmas.Bool.{false≢true, cases_Bool}
use Rattle.ap_text.specs.Names.{is_package_name, is_architecture}
use Rattle.deb_version.specs.declared.order.Relation.{Relation}
use Rattle.deb_version.specs.declared.order.Relation.TheVariants.{Equal}
use Rattle.deb_version.specs.VersionText.{is_version, fault_of, epoch_of, start_of, upstream_in, revision_in, is_epoch, bad_in_upstream, bad_in_revision, is_revision_byte, is_upstream_byte}
use Rattle.deb_version.specs.Cuts.{is_digit}
use Rattle.depends_field.specs.declared.alternative.Alternative.{Alternative}
use Rattle.depends_field.specs.declared.phase.Kind.{Kind}
use Rattle.depends_field.specs.declared.phase.Kind.TheVariants.{Depends, Provides}
use Rattle.depends_field.specs.declared.phase.Phase.{Phase}
use Rattle.depends_field.specs.declared.phase.Phase.TheVariants.{Start, Barred, Named, Colon, Parted, Opened, Compared, Versioned, Closed}
use Rattle.depends_field.specs.Pieces.{is_blank, is_word_byte, piece_len, IsCut, front, behind, inside_after}
use Rattle.depends_field.specs.Reading.{Read, start, is_piece, is_no_qualifier, is_blanks, is_version_word, is_allowed, relation_of, plain, with_arch, with_relation, rested, named, qualified, compared, compared_by, versioned, advanced, ended, is_start, grouped, parted, alternated, barred, with_phase, phased, stepped, run, finished}
use Rattle.depends_field.specs.Groups.{AllBlank}
use Rattle.depends_field.specs.Faults.{IsFirstUnfit}
use Rattle.depends_field.specs.Places.{BeginsReadable, IsPlace}
use Rattle.depends_field.proofs.Found.{same_bytes}
use Rattle.depends_field.proofs.FoundGroups.{blank_front, run_first, groups_from_reading}
use Rattle.depends_field.proofs.Walks.{Walk, walk_on, no_walk, cut_append, run_append, walk_blanks, walk_name, walk_closing, colon_len}
use Rattle.depends_field.proofs.Operators.{walk_operator, walk_version}
use Rattle.depends_field.proofs.Only.{any_open, none_is}
use Rattle.depends_field.proofs.OnlyGroups.{parted_is, finish_from_parted}
use Rattle.depends_field.proofs.Unique.{no_front, runs_of_pieces, unreadable_from}
use Rattle.depends_field.proofs.Fronts.{MayFollow, follows, piece_of, cut_one, cut_again}
use Rattle.depends_field.proofs.Completions.{is_inside, step_turn}

-- the colon is a piece of its own

abbrev is_colon : Phase → Bool
is_colon Start = false
is_colon Barred = false
is_colon (Named name) = false
is_colon (Colon name) = true
is_colon (Parted base) = false
is_colon (Opened base) = false
is_colon (Compared base relation) = false
is_colon (Versioned base) = false
is_colon (Closed base) = false

abbrev IsColonPiece : List ℕ → Phase → Type 0
IsColonPiece p next = is_colon next ≡ true → p ≡ 58 ∷ []

no_colon : (p : List ℕ) (x next : Phase) → x ≡ next → is_colon x ≡ false → IsColonPiece p next
no_colon p x next e h = λ c. absurd (false≢true (sym h ∙ ap is_colon e ∙ c))

colon_if : (b : Bool) (p : List ℕ) (x next : Phase) (other : Option Phase) → (b ≡ true → is_colon x ≡ false) → (other ≡ Some next → IsColonPiece p next) → cond b (Some x) other ≡ Some next → IsColonPiece p next
colon_if true p x next other h k e = no_colon p x next (same_Some x next e) (h refl)
colon_if false p x next other h k e = k e

nothing_else : (p : List ℕ) (next : Phase) → None ≡ Some next → IsColonPiece p next
nothing_else p next e = cc

name_colon : (b : Bool) (p : List ℕ) (name : List ℕ) (next : Phase) (other : Option Phase) → is_piece 58 p ≡ b → (other ≡ Some next → IsColonPiece p next) → cond b (Some (Colon name)) other ≡ Some next → IsColonPiece p next
name_colon true p name next other h k e = λ c. same_bytes p (58 ∷ []) h
name_colon false p name next other h k e = k e

named_colon : (p : List ℕ) (next : Phase) → named p ≡ Some next → IsColonPiece p next
unfolding named
named_colon p next e = colon_if (is_package_name p) p (Named p) next None (λ h. refl) (nothing_else p next) e

qualified_colon : (kind : Kind) (name p : List ℕ) (next : Phase) → qualified kind name p ≡ Some next → IsColonPiece p next
unfolding qualified
qualified_colon kind name p next e =
    colon_if (is_no_qualifier kind p) p (Parted (plain name)) next _ (λ h. refl) (λ o. colon_if (is_architecture p) p (Parted (with_arch name p)) next None (λ h. refl) (nothing_else p next) o) e

compared_by_colon : (kind : Kind) (base : Alternative) (p : List ℕ) (o : Option Relation) (next : Phase) → compared_by kind base o ≡ Some next → IsColonPiece p next
compared_by_colon kind base p None next e = cc
compared_by_colon kind base p (Some relation) next e = colon_if (is_allowed kind relation) p (Compared base relation) next None (λ h. refl) (nothing_else p next) e

compared_colon : (kind : Kind) (base : Alternative) (p : List ℕ) (next : Phase) → compared kind base p ≡ Some next → IsColonPiece p next
unfolding compared
compared_colon kind base p next e = compared_by_colon kind base p (relation_of p) next e

versioned_colon : (base : Alternative) (relation : Relation) (p : List ℕ) (next : Phase) → versioned base relation p ≡ Some next → IsColonPiece p next
unfolding versioned
versioned_colon base relation p next e = colon_if (is_version_word p) p (Versioned (with_relation base relation p)) next None (λ h. refl) (nothing_else p next) e

advanced_colon : (kind : Kind) (phase next : Phase) (p : List ℕ) → advanced kind phase p ≡ Some next → IsColonPiece p next
advanced_colon kind Start next p e = named_colon p next e
advanced_colon kind Barred next p e = named_colon p next e
advanced_colon kind (Named name) next p e =
    name_colon (is_piece 58 p) p name next _ refl (λ o. colon_if (is_piece 40 p) p (Opened (plain name)) next None (λ h. refl) (nothing_else p next) o) e
advanced_colon kind (Colon name) next p e = qualified_colon kind name p next e
advanced_colon kind (Parted base) next p e = colon_if (is_piece 40 p) p (Opened base) next None (λ h. refl) (nothing_else p next) e
advanced_colon kind (Opened base) next p e = compared_colon kind base p next e
advanced_colon kind (Compared base relation) next p e = versioned_colon base relation p next e
advanced_colon kind (Versioned base) next p e = colon_if (is_piece 41 p) p (Closed base) next None (λ h. refl) (nothing_else p next) e
advanced_colon kind (Closed base) next p e = cc

rested_colon : (phase next : Phase) → rested phase ≡ Some next → is_colon next ≡ false
rested_colon Start next e = ap is_colon (sym (same_Some Start next e))
rested_colon Barred next e = ap is_colon (sym (same_Some Barred next e))
rested_colon (Named name) next e = ap is_colon (sym (same_Some (Parted (plain name)) next e))
rested_colon (Colon name) next e = cc
rested_colon (Parted base) next e = ap is_colon (sym (same_Some (Parted base) next e))
rested_colon (Opened base) next e = ap is_colon (sym (same_Some (Opened base) next e))
rested_colon (Compared base relation) next e = ap is_colon (sym (same_Some (Compared base relation) next e))
rested_colon (Versioned base) next e = ap is_colon (sym (same_Some (Versioned base) next e))
rested_colon (Closed base) next e = ap is_colon (sym (same_Some (Closed base) next e))

abbrev IsColonStep : List ℕ → Read → Type 0
IsColonStep p u = is_colon u.phase ≡ true → p ≡ 58 ∷ []

colon_as : (p : List ℕ) (v u : Read) → v ≡ u → IsColonStep p v → IsColonStep p u
colon_as p v u e h = let P : Read → Type 0 = λ r. IsColonStep p r in subst P e h

phased_colon : (p : List ℕ) (s u : Read) (o : Option Phase) → ((next : Phase) → o ≡ Some next → IsColonPiece p next) → phased s o ≡ Some u → IsColonStep p u
phased_colon p s u None h e = cc
phased_colon p s u (Some next) h e = colon_as p (with_phase s next) u (same_Some (with_phase s next) u e) (h next refl)

grouped_colon : (p : List ℕ) (s u : Read) (o : Option Alternative) → grouped s o ≡ Some u → IsColonStep p u
grouped_colon p s u None e = cc
grouped_colon p s u (Some a) e = colon_as p _ u (same_Some _ u e) (λ c. absurd (false≢true c))

start_no_colon : (phase : Phase) → is_start phase ≡ true → is_colon phase ≡ false
start_no_colon Start e = refl
start_no_colon Barred e = refl
start_no_colon (Named name) e = refl
start_no_colon (Colon name) e = cc
start_no_colon (Parted base) e = refl
start_no_colon (Opened base) e = refl
start_no_colon (Compared base relation) e = refl
start_no_colon (Versioned base) e = refl
start_no_colon (Closed base) e = refl

parted_by_colon : (p : List ℕ) (s u : Read) (b : Bool) → is_start s.phase ≡ b → cond b (Some s) (grouped s (ended s.phase)) ≡ Some u → IsColonStep p u
parted_by_colon p s u true h e = colon_as p s u (same_Some s u e) (λ c. absurd (false≢true (sym (start_no_colon s.phase h) ∙ c)))
parted_by_colon p s u false h e = grouped_colon p s u (ended s.phase) e

parted_colon : (p : List ℕ) (s u : Read) → parted s ≡ Some u → IsColonStep p u
unfolding parted
parted_colon p s u e = parted_by_colon p s u (is_start s.phase) refl e

alternated_colon : (p : List ℕ) (s u : Read) (o : Option Alternative) → alternated s o ≡ Some u → IsColonStep p u
alternated_colon p s u None e = cc
alternated_colon p s u (Some a) e = colon_as p _ u (same_Some _ u e) (λ c. absurd (false≢true c))

barred_colon : (kind : Kind) (p : List ℕ) (s u : Read) → barred kind s ≡ Some u → IsColonStep p u
barred_colon Depends p s u e = alternated_colon p s u (ended s.phase) e
barred_colon Provides p s u e = cc

colon_by : (kind : Kind) (s u : Read) (p : List ℕ) (comma bar blanks : Bool) → cond comma (parted s) (cond bar (barred kind s) (cond blanks (phased s (rested s.phase)) (phased s (advanced kind s.phase p)))) ≡ Some u → IsColonStep p u
colon_by kind s u p true bar blanks e = parted_colon p s u e
colon_by kind s u p false true blanks e = barred_colon kind p s u e
colon_by kind s u p false false true e = phased_colon p s u (rested s.phase) (λ next r c. absurd (false≢true (sym (rested_colon s.phase next r) ∙ c))) e
colon_by kind s u p false false false e = phased_colon p s u (advanced kind s.phase p) (λ next a. advanced_colon kind s.phase next p a) e

colon_step : (kind : Kind) (s u : Read) (p : List ℕ) → stepped kind s p ≡ Some u → IsColonStep p u
unfolding stepped
colon_step kind s u p e = colon_by kind s u p (is_piece 44 p) (is_piece 124 p) (is_blanks p) e

-- texts that go on to the end

pub record Completion (kind : Kind) (t : Read) (w : List ℕ) : Type 0 where
  pub state : Read
  pub groups : List (List Alternative)
  pub walk : Walk kind (is_inside t.phase) t w false state []
  pub gives : finished state ≡ Some groups

ended_completion : (kind : Kind) (s : Read) (phase : Phase) (a : Alternative) → is_inside phase ≡ false → is_start phase ≡ false → ended phase ≡ Some a → Completion kind (with_phase s phase) []
ended_completion kind s phase a out on ends =
    let P : Bool → Type 0 = λ m. Walk kind m (with_phase s phase) [] false (with_phase s phase) [] in
    record {
      state = with_phase s phase;
      groups = s.groups ++ (s.alternatives ++ a ∷ []) ∷ [];
      walk = subst P (sym out) (no_walk kind false (with_phase s phase) []);
      gives = finish_from_parted (with_phase s phase) (s.groups ++ (s.alternatives ++ a ∷ []) ∷ []) _ (parted_is (with_phase s phase) a on ends) refl;
    }

started : (s : Read) → parted (with_phase s Start) ≡ Some (with_phase s Start)
unfolding parted
started s = refl

start_completion : (kind : Kind) (s : Read) → Completion kind (with_phase s Start) []
start_completion kind s = record {
  state = with_phase s Start;
  groups = s.groups;
  walk = no_walk kind false (with_phase s Start) [];
  gives = finish_from_parted (with_phase s Start) s.groups (with_phase s Start) (started s) refl;
}

walk_then : (kind : Kind) (t u : Read) (text w : List ℕ) → Walk kind (is_inside t.phase) t text (is_inside u.phase) u w → Completion kind u w → Completion kind t text
walk_then kind t u text w first c = record {
  state = c.state;
  groups = c.groups;
  walk = walk_on kind (is_inside t.phase) (is_inside u.phase) false t u c.state text w [] first c.walk;
  gives = c.gives;
}

aa_named : (kind : Kind) → advanced kind Barred (codes "aa") ≡ Some (Named (codes "aa"))
unfolding named
aa_named kind = refl

barred_completion : (kind : Kind) (s : Read) → Completion kind (with_phase s Barred) (codes "aa")
barred_completion kind s =
    walk_then kind (with_phase s Barred) (with_phase s (Named (codes "aa"))) (codes "aa") [] (walk_name kind s Barred (Named (codes "aa")) (codes "aa") [] refl (aa_named kind) refl) (ended_completion kind s (Named (codes "aa")) (plain (codes "aa")) refl refl refl)

colon_completion : (kind : Kind) (s : Read) (name : List ℕ) → Completion kind (with_phase s (Colon name)) (codes "any")
colon_completion kind s name =
    walk_then kind (with_phase s (Colon name)) (with_phase s (Parted (plain name))) (codes "any") [] (walk_name kind s (Colon name) (Parted (plain name)) (codes "any") [] refl (none_is kind name (codes "any") (any_open kind)) refl) (ended_completion kind s (Parted (plain name)) (plain name) refl refl refl)

versioned_completion : (kind : Kind) (s : Read) (base : Alternative) → Completion kind (with_phase s (Versioned base)) (codes ")")
versioned_completion kind s base =
    walk_then kind (with_phase s (Versioned base)) (with_phase s (Closed base)) (codes ")") [] (walk_closing kind s (Versioned base) (Closed base) [] refl) (ended_completion kind s (Closed base) base refl refl refl)

one_is_version : is_version_word (codes "1") ≡ true
unfolding is_version_word is_version fault_of epoch_of start_of upstream_in revision_in is_epoch bad_in_upstream bad_in_revision is_revision_byte is_upstream_byte is_digit
one_is_version = refl

compared_completion : (kind : Kind) (s : Read) (base : Alternative) (relation : Relation) → Completion kind (with_phase s (Compared base relation)) (codes "1)")
compared_completion kind s base relation =
    let whole = with_relation base relation (codes "1") in
    walk_then kind (with_phase s (Compared base relation)) (with_phase s (Versioned whole)) (codes "1)") (codes ")") (walk_version kind s base relation (codes "1") (codes ")") one_is_version refl) (versioned_completion kind s whole)

equal_is : relation_of (codes "=") ≡ Some Equal
unfolding relation_of
equal_is = refl

equal_allowed : (kind : Kind) → is_allowed kind Equal ≡ true
equal_allowed Depends = refl
equal_allowed Provides = refl

opened_completion : (kind : Kind) (s : Read) (base : Alternative) → Completion kind (with_phase s (Opened base)) (codes "=1)")
opened_completion kind s base =
    walk_then kind (with_phase s (Opened base)) (with_phase s (Compared base Equal)) (codes "=1)") (codes "1)") (walk_operator kind s base Equal (codes "=") (codes "1)") equal_is (equal_allowed kind) refl) (compared_completion kind s base Equal)

spaced_completion : (kind : Kind) (s : Read) (phase : Phase) (w : List ℕ) → rested phase ≡ Some phase → is_blank (get_or w 0 0) ≡ false → Completion kind (with_phase s phase) w → Completion kind (with_phase s phase) (32 ∷ w)
spaced_completion kind s phase w e stop c =
    walk_then kind (with_phase s phase) (with_phase s phase) (32 ∷ w) w (walk_blanks kind (is_inside phase) s phase (32 ∷ []) w e refl stop) c

-- the last piece, and what goes on

pub record GoesOn (kind : Kind) (inside : Bool) (p : List ℕ) (t : Read) : Type 0 where
  pub w : List ℕ
  pub fits : piece_len inside (p ++ w) ≡ length p
  pub completion : Completion kind t w

nothing_word : (inside : Bool) → is_word_byte inside 0 ≡ false
nothing_word true = refl
nothing_word false = refl

space_word : (inside : Bool) → is_word_byte inside 32 ≡ false
space_word true = refl
space_word false = refl

closing_word : (inside : Bool) → is_word_byte inside 41 ≡ false
closing_word true = refl
closing_word false = refl

ends_here : (kind : Kind) (inside : Bool) (b : ℕ) (v rest : List ℕ) (t : Read) → piece_len inside ((b ∷ v) ++ rest) ≡ suc (length v) → Completion kind t [] → GoesOn kind inside (b ∷ v) t
ends_here kind inside b v rest t len c =
    let may : MayFollow inside b (get_or rest 0 0) 0 = record { blank = λ h. refl; word = λ h k. nothing_word inside; operator = λ h. inl refl } in
    record { w = []; fits = follows inside b v rest [] may len; completion = c }

closes_here : (kind : Kind) (inside : Bool) (b : ℕ) (v rest : List ℕ) (t : Read) → piece_len inside ((b ∷ v) ++ rest) ≡ suc (length v) → Completion kind t (codes ")") → GoesOn kind inside (b ∷ v) t
closes_here kind inside b v rest t len c =
    let may : MayFollow inside b (get_or rest 0 0) 41 = record { blank = λ h. refl; word = λ h k. closing_word inside; operator = λ h. inl refl } in
    record { w = codes ")"; fits = follows inside b v rest (codes ")") may len; completion = c }

spaced_here : (kind : Kind) (inside : Bool) (b : ℕ) (v rest w : List ℕ) (s : Read) (phase : Phase) → rested phase ≡ Some phase → is_blank (get_or w 0 0) ≡ false → piece_len inside ((b ∷ v) ++ rest) ≡ suc (length v) → Completion kind (with_phase s phase) w → GoesOn kind inside (b ∷ v) (with_phase s phase)
spaced_here kind inside b v rest w s phase e stop len c =
    elim (cases_Bool (is_blank b)) [
      | inl h ↦ let may : MayFollow inside b (get_or rest 0 0) (get_or w 0 0) = record { blank = λ k. stop; word = λ k. absurd (false≢true (sym k ∙ h)); operator = λ k. absurd (false≢true (sym k ∙ h)) } in
          record { w = w; fits = follows inside b v rest w may len; completion = c }
      | inr h ↦ let may : MayFollow inside b (get_or rest 0 0) 32 = record { blank = λ k. absurd (false≢true (sym h ∙ k)); word = λ k l. space_word inside; operator = λ k. inl refl } in
          record { w = 32 ∷ w; fits = follows inside b v rest (32 ∷ w) may len; completion = spaced_completion kind s phase w e stop c }
    ]

colon_here : (kind : Kind) (inside : Bool) (p : List ℕ) (s : Read) (name : List ℕ) → p ≡ 58 ∷ [] → inside ≡ false → GoesOn kind inside p (with_phase s (Colon name))
colon_here kind inside p s name is out =
    let whole : piece_len inside (p ++ codes "any") ≡ length p = ap (λ m. piece_len m (p ++ codes "any")) out ∙ ap (λ (l : List ℕ). piece_len false (l ++ codes "any")) is ∙ colon_len (codes "any") ∙ ap length (sym is) in
    record { w = codes "any"; fits = whole; completion = colon_completion kind s name }

goes_on_at : (kind : Kind) (inside : Bool) (b : ℕ) (v rest : List ℕ) (s : Read) (phase : Phase) → (is_colon phase ≡ true → (b ∷ v ≡ 58 ∷ []) × (inside ≡ false)) → piece_len inside ((b ∷ v) ++ rest) ≡ suc (length v) → GoesOn kind inside (b ∷ v) (with_phase s phase)
goes_on_at kind inside b v rest s Start colon len = ends_here kind inside b v rest (with_phase s Start) len (start_completion kind s)
goes_on_at kind inside b v rest s Barred colon len = spaced_here kind inside b v rest (codes "aa") s Barred refl refl len (barred_completion kind s)
goes_on_at kind inside b v rest s (Named name) colon len =
    ends_here kind inside b v rest (with_phase s (Named name)) len (ended_completion kind s (Named name) (plain name) refl refl refl)
goes_on_at kind inside b v rest s (Colon name) colon len = let is = colon refl in colon_here kind inside (b ∷ v) s name is.0 is.1
goes_on_at kind inside b v rest s (Parted base) colon len =
    ends_here kind inside b v rest (with_phase s (Parted base)) len (ended_completion kind s (Parted base) base refl refl refl)
goes_on_at kind inside b v rest s (Opened base) colon len = spaced_here kind inside b v rest (codes "=1)") s (Opened base) refl refl len (opened_completion kind s base)
goes_on_at kind inside b v rest s (Compared base relation) colon len =
    spaced_here kind inside b v rest (codes "1)") s (Compared base relation) refl refl len (compared_completion kind s base relation)
goes_on_at kind inside b v rest s (Versioned base) colon len = closes_here kind inside b v rest (with_phase s (Versioned base)) len (versioned_completion kind s base)
goes_on_at kind inside b v rest s (Closed base) colon len =
    ends_here kind inside b v rest (with_phase s (Closed base)) len (ended_completion kind s (Closed base) base refl refl refl)

goes_on : (kind : Kind) (inside : Bool) (p rest : List ℕ) (t : Read) → 0 < length p → (is_colon t.phase ≡ true → (p ≡ 58 ∷ []) × (inside ≡ false)) → piece_len inside (p ++ rest) ≡ length p → GoesOn kind inside p t
goes_on kind inside [] rest t some colon len = absurd (omega arith)
goes_on kind inside (b ∷ v) rest t some colon len = goes_on_at kind inside b v rest t t.phase colon len

-- all the pieces so far

outside_colon : (phase : Phase) → is_colon phase ≡ true → is_inside phase ≡ false
outside_colon Start e = refl
outside_colon Barred e = refl
outside_colon (Named name) e = refl
outside_colon (Colon name) e = refl
outside_colon (Parted base) e = refl
outside_colon (Opened base) e = cc
outside_colon (Compared base relation) e = cc
outside_colon (Versioned base) e = cc
outside_colon (Closed base) e = refl

colon_outside : (inside : Bool) → inside_after inside (58 ∷ []) ≡ false → inside ≡ false
unfolding inside_after
colon_outside true h = cc
colon_outside false h = refl

pub record Readable (kind : Kind) (inside : Bool) (ps : List (List ℕ)) (t : Read) : Type 0 where
  pub text : List ℕ
  pub w : List ℕ
  pub cut : IsCut inside text ps (is_inside t.phase) w
  pub completion : Completion kind t w

blank_piece : (inside : Bool) (text p : List ℕ) → 0 < length text → p ≡ front inside text → is_blanks p ≡ true → AllBlank p
blank_piece inside text p some is h = ap (list_all is_blank) is ∙ blank_front inside text some (ap is_blanks (sym is) ∙ h)

colon_both : (kind : Kind) (inside : Bool) (p : List ℕ) (s t : Read) → stepped kind s p ≡ Some t → inside_after inside p ≡ is_inside t.phase → is_colon t.phase ≡ true → (p ≡ 58 ∷ []) × (inside ≡ false)
colon_both kind inside p s t step turn k =
    let is = colon_step kind s t p step k in
    (is, colon_outside inside (ap (inside_after inside) (sym is) ∙ turn ∙ outside_colon t.phase k))

one_readable : (kind : Kind) (inside m : Bool) (p text rest : List ℕ) (s t : Read) → IsCut inside text (p ∷ []) m rest → stepped kind s p ≡ Some t → inside ≡ is_inside s.phase → Readable kind inside (p ∷ []) t
one_readable kind inside m p text rest s t c step mode =
    let here = piece_of inside text p c.0 c.1 in
    let turn : inside_after inside p ≡ is_inside t.phase = ap (λ b. inside_after b p) mode ∙ step_turn kind s t p (blank_piece inside text p c.0 c.1) step in
    let colon : is_colon t.phase ≡ true → (p ≡ 58 ∷ []) × (inside ≡ false) = λ k. colon_both kind inside p s t step turn k in
    let on = goes_on kind inside p (behind inside text) t here.2 colon here.1 in
    let P : Bool → Type 0 = λ b. IsCut inside (p ++ on.w) (p ∷ []) b on.w in
    record { text = p ++ on.w; w = on.w; cut = subst P turn (cut_one inside p on.w here.2 on.fits); completion = on.completion }

pub readable_from : (kind : Kind) (ps : List (List ℕ)) (p : List ℕ) (inside m : Bool) (text rest : List ℕ) (s t : Read) → IsCut inside text (p ∷ ps) m rest → run kind s (p ∷ ps) ≡ Some t → inside ≡ is_inside s.phase → Readable kind inside (p ∷ ps) t
readable_from kind [] p inside m text rest s t c r mode =
    let u = run_first kind [] (stepped kind s p) t r in
    one_readable kind inside m p text rest s t c (u.1 ∙ u.2) mode
readable_from kind (q ∷ ps) p inside m text rest s t c r mode =
    let u = run_first kind (q ∷ ps) (stepped kind s p) t r in
    let turn : inside_after inside p ≡ is_inside u.0.phase = ap (λ b. inside_after b p) mode ∙ step_turn kind s u.0 p (blank_piece inside text p c.0 c.1) u.1 in
    let more = readable_from kind ps q (inside_after inside p) m (behind inside text) rest u.0 t c.2 u.2 turn in
    record {
      text = p ++ more.text;
      w = more.w;
      cut = cut_again inside m (is_inside t.phase) p q text more.text rest more.w ps c.0 c.1 c.2 more.cut;
      completion = more.completion;
    }

nothing_readable : (kind : Kind) → BeginsReadable kind []
nothing_readable kind =
    let end = start_completion kind start in
    record {
      readable = [];
      groups = end.groups;
      more = end.walk.pieces;
      says = groups_from_reading kind [] end.groups (record { pieces = end.walk.pieces; state = end.state; are = (false, end.walk.cut); ran = end.walk.ran; gives = end.gives });
      are = (false, end.walk.cut);
    }

pub begins_readable : (kind : Kind) (ps : List (List ℕ)) (m : Bool) (text rest : List ℕ) (t : Read) → IsCut false text ps m rest → run kind start ps ≡ Some t → BeginsReadable kind ps
begins_readable kind [] m text rest t c r = nothing_readable kind
begins_readable kind (p ∷ ps) m text rest t c r =
    let so = readable_from kind ps p false m text rest start t c r refl in
    let end = so.completion in
    let cut = cut_append false (is_inside t.phase) false so.text so.w [] (p ∷ ps) end.walk.pieces so.cut end.walk.cut in
    record {
      readable = so.text;
      groups = end.groups;
      more = end.walk.pieces;
      says = groups_from_reading kind so.text end.groups (record {
        pieces = (p ∷ ps) ++ end.walk.pieces;
        state = end.state;
        are = (false, cut);
        ran = run_append kind start t end.state (p ∷ ps) end.walk.pieces r end.walk.ran;
        gives = end.gives;
      });
      are = (false, cut);
    }

no_longer : (kind : Kind) (ps : List (List ℕ)) (p : List ℕ) (t : Read) → run kind start ps ≡ Some t → stepped kind t p ≡ None → BeginsReadable kind (ps ++ p ∷ []) → ⊥
no_longer kind ps p t r unfit b =
    let so = runs_of_pieces kind b.readable b.groups b.are.0 ((ps ++ p ∷ []) ++ b.more) b.says b.are.1 in
    no_front kind false b.are.0 ps b.more p b.readable start so.0 t b.are.1 so.1 r unfit

pub place_from_unfit : (kind : Kind) (text : List ℕ) (place : ℕ) → IsFirstUnfit kind text place → IsPlace kind text place
place_from_unfit kind text place u = record {
  pieces = u.pieces;
  inside = u.inside;
  rest = u.rest;
  cut = u.cut;
  place_is = u.place_is;
  begins = begins_readable kind u.pieces u.inside text u.rest u.state u.cut u.ran;
  longest = λ some b. no_longer kind u.pieces (front u.inside u.rest) u.state u.ran (u.unfit.at_piece some) b;
  unreadable = unreadable_from kind text place u;
}
