-- What is spelled by the grammar is read so.
use Rattle.std.proofs.Common.{◌≡◌, ◌≢◌, ℕ, true, false, List, [], ◌∷◌, ◌++◌, get_or, Option, Some, None, refl, ap, ◌∙◌, arith, inl, inr, append_assoc, codes}
use Rattle.std.proofs.lemmas.Bool.{and_parts, cond-true, cond-false, false_from_ne_true}
use Rattle.std.proofs.lemmas.Bool.Decides.{nat_tests}
use Rattle.ap_text.specs.Names.{is_name_byte, is_name, is_architecture}
use Rattle.deb_version.specs.declared.order.Relation.{Relation}
use Rattle.depends_field.specs.declared.alternative.Alternative.{Alternative}
use Rattle.depends_field.specs.declared.phase.Kind.{Kind}
use Rattle.depends_field.specs.declared.phase.Kind.TheVariants.{Depends, Provides}
use Rattle.depends_field.specs.declared.phase.Phase.{Phase}
use Rattle.depends_field.specs.declared.phase.Phase.TheVariants.{Named, Colon, Parted, Opened, Compared, Versioned, Closed}
use Rattle.depends_field.specs.Pieces.{is_blank, is_version_byte}
use Rattle.depends_field.specs.Reading.{Read, is_no_qualifier, plain, with_arch, with_relation, rested, qualified, advanced, ended, is_start, with_phase}
use Rattle.depends_field.specs.Groups.{AllBlank, QualifierText, Restricts}
use Rattle.depends_field.proofs.Found.{same_bytes}
use Rattle.depends_field.proofs.Walks.{Walk, walk_on, no_walk, walk_as, some_blanks, walk_blanks, behind_blanks, walk_name, walk_colon, walk_opening, walk_closing}
use Rattle.depends_field.proofs.Operators.{is_operator_byte, walk_operator, operator_head, walk_version, version_head}

-- what may follow an alternative
pub record IsTail (t : List ℕ) : Type 0 where
  pub blank : is_blank (get_or t 0 0) ≡ false
  pub name : is_name_byte (get_or t 0 0) ≡ false

-- a phase in which a base alternative stands without a restriction
pub record IsBase (kind : Kind) (phase : Phase) (base : Alternative) : Type 0 where
  pub ends : ended phase ≡ Some base
  pub rests : rested phase ≡ Some (Parted base)
  pub opens : advanced kind phase (40 ∷ []) ≡ Some (Opened base)
  pub on : is_start phase ≡ false

named_base : (kind : Kind) (name : List ℕ) → IsBase kind (Named name) (plain name)
named_base kind name = record { ends = refl; rests = refl; opens = refl; on = refl }

parted_base : (kind : Kind) (base : Alternative) → IsBase kind (Parted base) base
parted_base kind base = record { ends = refl; rests = refl; opens = refl; on = refl }

pub blank_not_name : (b : ℕ) → is_blank b ≡ true → is_name_byte b ≡ false
blank_not_name b h = grind (arith, nat_tests)

blank_not_operator : (b : ℕ) → is_blank b ≡ true → is_operator_byte b ≡ false
blank_not_operator b h = grind (arith, nat_tests)

blank_not_version : (b : ℕ) → is_blank b ≡ true → is_version_byte b ≡ false
blank_not_version b h = grind (arith, nat_tests)

-- a walk to a base
pub record ToBase (kind : Kind) (s : Read) (phase : Phase) (base : Alternative) (text rest : List ℕ) : Type 0 where
  pub next : Phase
  pub is : IsBase kind next base
  pub walk : Walk kind false (with_phase s phase) text false (with_phase s next) rest

pub base_blanks : (kind : Kind) (s : Read) (phase : Phase) (base : Alternative) (w rest : List ℕ) → IsBase kind phase base → AllBlank w → is_blank (get_or rest 0 0) ≡ false → ToBase kind s phase base (w ++ rest) rest
base_blanks kind s phase base [] rest is all stop = record { next = phase; is = is; walk = no_walk kind false (with_phase s phase) rest }
base_blanks kind s phase base (b ∷ w) rest is all stop = record {
  next = Parted base;
  is = parted_base kind base;
  walk = some_blanks kind false s phase (Parted base) (b ∷ w) rest is.rests (omega arith) all stop;
}

-- the qualifier

pub architecture_name : (w : List ℕ) → is_architecture w ≡ true → is_name w ≡ true
architecture_name w h = (and_parts (is_name w) _ h).0

any_name : is_name (codes "any") ≡ true
any_name = refl

pub any_open : (kind : Kind) → is_no_qualifier kind (codes "any") ≡ true
any_open Depends = refl
any_open Provides = refl

-- what is read as no qualifier is a name
pub no_qualifier_name : (kind : Kind) (w : List ℕ) → is_no_qualifier kind w ≡ true → is_name w ≡ true
no_qualifier_name Depends w h = ap is_name (same_bytes w (codes "any") h) ∙ any_name
no_qualifier_name Provides w h = ap is_name (same_bytes w (codes "any") h) ∙ any_name

pub none_is : (kind : Kind) (name w : List ℕ) → is_no_qualifier kind w ≡ true → advanced kind (Colon name) w ≡ Some (Parted (plain name))
unfolding qualified
none_is kind name w h = cond-true (is_no_qualifier kind w) _ _ h

arch_is : (kind : Kind) (name w : List ℕ) → is_architecture w ≡ true → is_no_qualifier kind w ≡ false → advanced kind (Colon name) w ≡ Some (Parted (with_arch name w))
unfolding qualified
arch_is kind name w h other = cond-false (is_no_qualifier kind w) _ _ other ∙ cond-true (is_architecture w) _ _ h

pub qualifier_walk : (kind : Kind) (s : Read) (name qualifier : List ℕ) (arch : Option (List ℕ)) (rest : List ℕ) → QualifierText kind qualifier arch → is_name_byte (get_or rest 0 0) ≡ false → ToBase kind s (Named name) (record { name = name; arch = arch; relation = None }) (qualifier ++ rest) rest
qualifier_walk kind s name qualifier None rest (inl none) stop = record {
  next = Named name;
  is = named_base kind name;
  walk = walk_as kind false false (with_phase s (Named name)) (with_phase s (Named name)) (qualifier ++ rest) rest rest (ap (λ (l : List ℕ). l ++ rest) none) (no_walk kind false (with_phase s (Named name)) rest);
}
qualifier_walk kind s name qualifier None rest (inr (word, spelled, none)) stop = record {
  next = Parted (plain name);
  is = parted_base kind (plain name);
  walk = walk_as kind false false (with_phase s (Named name)) (with_phase s (Parted (plain name))) (qualifier ++ rest) (58 ∷ (word ++ rest)) rest (ap (λ (l : List ℕ). l ++ rest) spelled) (
      walk_on kind false false false (with_phase s (Named name)) (with_phase s (Colon name)) (with_phase s (Parted (plain name))) (58 ∷ (word ++ rest)) (word ++ rest) rest (walk_colon kind s (Named name) (Colon name) (word ++ rest) refl) (walk_name kind s (Colon name) (Parted (plain name)) word rest (no_qualifier_name kind word none) (none_is kind name word none) stop)
      );
}
qualifier_walk kind s name qualifier (Some arch) rest q stop = record {
  next = Parted (with_arch name arch);
  is = parted_base kind (with_arch name arch);
  walk = walk_as kind false false (with_phase s (Named name)) (with_phase s (Parted (with_arch name arch))) (qualifier ++ rest) (58 ∷ (arch ++ rest)) rest (ap (λ (l : List ℕ). l ++ rest) q.0) (
      walk_on kind false false false (with_phase s (Named name)) (with_phase s (Colon name)) (with_phase s (Parted (with_arch name arch))) (58 ∷ (arch ++ rest)) (arch ++ rest) rest (walk_colon kind s (Named name) (Colon name) (arch ++ rest) refl) (walk_name kind s (Colon name) (Parted (with_arch name arch)) arch rest (architecture_name arch q.1) (arch_is kind name arch q.1 q.2) stop)
      );
}

-- the restriction

closing_not_version : is_version_byte 41 ≡ false
closing_not_version = refl

opened_then : (b o t v c rest : List ℕ) → (40 ∷ (b ++ (o ++ (t ++ (v ++ (c ++ 41 ∷ [])))))) ++ rest ≡ 40 ∷ (b ++ (o ++ (t ++ (v ++ (c ++ 41 ∷ rest)))))
opened_then b o t v c rest = simp append_assoc

pub restriction_walk : (kind : Kind) (s : Read) (phase : Phase) (base : Alternative) (relation : Relation) (version restriction rest : List ℕ) → IsBase kind phase base → Restricts kind restriction relation version → Walk kind false (with_phase s phase) (restriction ++ rest) false (with_phase s (Closed (with_relation base relation version))) rest
restriction_walk kind s phase base relation version restriction rest is r =
    let whole = with_relation base relation version in
    let t5 : List ℕ = 41 ∷ rest in
    let t4 : List ℕ = r.after ++ t5 in
    let t3 : List ℕ = version ++ t4 in
    let t2 : List ℕ = r.between ++ t3 in
    let t1 : List ℕ = r.operator ++ t2 in
    let t0 : List ℕ = r.before ++ t1 in
    let same : restriction ++ rest ≡ 40 ∷ t0 = ap (λ (l : List ℕ). l ++ rest) r.is ∙ opened_then r.before r.operator r.between version r.after rest in
    let v = version_head version t4 r.version_is in
    walk_as kind false false (with_phase s phase) (with_phase s (Closed whole)) (restriction ++ rest) (40 ∷ t0) rest same (
    walk_on kind false true false (with_phase s phase) (with_phase s (Opened base)) (with_phase s (Closed whole)) (40 ∷ t0) t0 rest (walk_opening kind s phase (Opened base) t0 is.opens) (
    walk_on kind true true false (with_phase s (Opened base)) (with_phase s (Opened base)) (with_phase s (Closed whole)) t0 t1 rest (walk_blanks kind true s (Opened base) r.before t1 refl r.blank_before (operator_head r.operator t2 relation r.operator_is)) (
    walk_on kind true true false (with_phase s (Opened base)) (with_phase s (Compared base relation)) (with_phase s (Closed whole)) t1 t2 rest (walk_operator kind s base relation r.operator t2 r.operator_is r.allowed (behind_blanks is_operator_byte r.between t3 blank_not_operator r.blank_between v.1)) (
    walk_on kind true true false (with_phase s (Compared base relation)) (with_phase s (Compared base relation)) (with_phase s (Closed whole)) t2 t3 rest (walk_blanks kind true s (Compared base relation) r.between t3 refl r.blank_between v.0) (
    walk_on kind true true false (with_phase s (Compared base relation)) (with_phase s (Versioned whole)) (with_phase s (Closed whole)) t3 t4 rest (walk_version kind s base relation version t4 r.version_is (behind_blanks is_version_byte r.after t5 blank_not_version r.blank_after closing_not_version)) (
    walk_on kind true true false (with_phase s (Versioned whole)) (with_phase s (Versioned whole)) (with_phase s (Closed whole)) t4 t5 rest (walk_blanks kind true s (Versioned whole) r.after t5 refl r.blank_after refl) (walk_closing kind s (Versioned whole) (Closed whole) rest refl)
    )
    )
    )
    )
    )
    )
