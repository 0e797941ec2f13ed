-- What was read piece by piece is spelled by the text: from each state, what is left of the text spells the rest.
use Rattle.std.proofs.Common.{◌≡◌, ℕ, Bool, true, false, cond, List, [], ◌∷◌, ◌++◌, Option, Some, None, refl, ap, subst, sym, ◌∙◌, inl, inr, ◌⊎◌, append_assoc, codes}
use Rattle.std.specs.List.{list_all}
use Rattle.std.specs.Str.{bytes_eq}
use Rattle.std.proofs.lemmas.Option.{same_Some}
use Rattle.std.proofs.lemmas.Slice.Eq.{bytes_eq-Decides}
use Rattle.std.proofs.lemmas.Bool.{false≢true, and_from}
use Rattle.std.proofs.lemmas.List.Folds.{list_all-append}
use Rattle.ap_text.specs.Names.{is_package_name, is_architecture}
use Rattle.deb_version.specs.declared.order.Relation.{Relation}
use Rattle.depends_field.specs.declared.alternative.Alternative.{Alternative}
use Rattle.depends_field.specs.declared.phase.Kind.{Kind}
use Rattle.depends_field.specs.declared.phase.Phase.{Phase}
use Rattle.depends_field.specs.declared.phase.Phase.TheVariants.{Start, Barred, Named, Colon, Parted, Opened, Compared, Versioned, Closed}
use Rattle.depends_field.specs.Pieces.{is_blank}
use Rattle.depends_field.specs.Reading.{is_piece, is_no_qualifier, relation_of, is_allowed, is_version_word, plain, with_arch, with_relation, rested, named, qualified, compared, compared_by, versioned, advanced, ended}
use Rattle.depends_field.specs.Groups.{AllBlank, QualifierText, Restricts, RestrictionText, AlternativeText}

-- what completes an alternative behind each phase

pub record BehindName (kind : Kind) (name : List ℕ) (text : List ℕ) (a : Alternative) : Type 0 where
  pub qualifier : List ℕ
  pub between : List ℕ
  pub restriction : List ℕ
  pub after : List ℕ
  pub is : text ≡ qualifier ++ (between ++ (restriction ++ after))
  pub blank_between : AllBlank between
  pub blank_after : AllBlank after
  pub same_name : a.name ≡ name
  pub qualifier_is : QualifierText kind qualifier a.arch
  pub restriction_is : RestrictionText kind restriction a.relation

pub record BehindColon (kind : Kind) (name : List ℕ) (text : List ℕ) (a : Alternative) : Type 0 where
  pub qualifier : List ℕ
  pub between : List ℕ
  pub restriction : List ℕ
  pub after : List ℕ
  pub is : text ≡ qualifier ++ (between ++ (restriction ++ after))
  pub blank_between : AllBlank between
  pub blank_after : AllBlank after
  pub same_name : a.name ≡ name
  pub qualifier_is : QualifierText kind (58 ∷ qualifier) a.arch
  pub restriction_is : RestrictionText kind restriction a.relation

pub record BehindQualifier (kind : Kind) (base : Alternative) (text : List ℕ) (a : Alternative) : Type 0 where
  pub between : List ℕ
  pub restriction : List ℕ
  pub after : List ℕ
  pub is : text ≡ between ++ (restriction ++ after)
  pub blank_between : AllBlank between
  pub blank_after : AllBlank after
  pub same_name : a.name ≡ base.name
  pub same_arch : a.arch ≡ base.arch
  pub restriction_is : RestrictionText kind restriction a.relation

pub record BehindOpening (kind : Kind) (base : Alternative) (text : List ℕ) (a : Alternative) : Type 0 where
  pub before : List ℕ
  pub operator : List ℕ
  pub between : List ℕ
  pub relation : Relation
  pub version : List ℕ
  pub closing : List ℕ
  pub after : List ℕ
  pub is : text ≡ before ++ (operator ++ (between ++ (version ++ (closing ++ 41 ∷ after))))
  pub blank_before : AllBlank before
  pub blank_between : AllBlank between
  pub blank_closing : AllBlank closing
  pub blank_after : AllBlank after
  pub operator_is : relation_of operator ≡ Some relation
  pub allowed : is_allowed kind relation ≡ true
  pub version_is : is_version_word version ≡ true
  pub whole : a ≡ with_relation base relation version

pub record BehindOperator (base : Alternative) (relation : Relation) (text : List ℕ) (a : Alternative) : Type 0 where
  pub between : List ℕ
  pub version : List ℕ
  pub closing : List ℕ
  pub after : List ℕ
  pub is : text ≡ between ++ (version ++ (closing ++ 41 ∷ after))
  pub blank_between : AllBlank between
  pub blank_closing : AllBlank closing
  pub blank_after : AllBlank after
  pub version_is : is_version_word version ≡ true
  pub whole : a ≡ with_relation base relation version

pub record BehindVersion (base : Alternative) (text : List ℕ) (a : Alternative) : Type 0 where
  pub closing : List ℕ
  pub after : List ℕ
  pub is : text ≡ closing ++ 41 ∷ after
  pub blank_closing : AllBlank closing
  pub blank_after : AllBlank after
  pub whole : a ≡ base

abbrev pub Completes : Kind → Phase → List ℕ → Alternative → Type 0
Completes kind Start text a = AlternativeText kind text a
Completes kind Barred text a = AlternativeText kind text a
Completes kind (Named name) text a = BehindName kind name text a
Completes kind (Colon name) text a = BehindColon kind name text a
Completes kind (Parted base) text a = BehindQualifier kind base text a
Completes kind (Opened base) text a = BehindOpening kind base text a
Completes kind (Compared base relation) text a = BehindOperator base relation text a
Completes kind (Versioned base) text a = BehindVersion base text a
Completes kind (Closed base) text a = AllBlank text × (a ≡ base)

more_blank : (p text : List ℕ) → AllBlank p → AllBlank text → AllBlank (p ++ text)
more_blank p text hp ht = list_all-append is_blank p text ∙ and_from (list_all is_blank p) (list_all is_blank text) hp ht

-- blanks may be put before

pub blank_alternative : (kind : Kind) (p text : List ℕ) (a : Alternative) → AllBlank p → AlternativeText kind text a → AlternativeText kind (p ++ text) a
blank_alternative kind p text a h t = record {
  before = p ++ t.before;
  qualifier = t.qualifier;
  between = t.between;
  restriction = t.restriction;
  after = t.after;
  is = ap (λ (l : List ℕ). p ++ l) t.is ∙ sym (append_assoc p t.before (a.name ++ (t.qualifier ++ (t.between ++ (t.restriction ++ t.after)))));
  blank_before = more_blank p t.before h t.blank_before;
  blank_between = t.blank_between;
  blank_after = t.blank_after;
  name_is = t.name_is;
  qualifier_is = t.qualifier_is;
  restriction_is = t.restriction_is;
}

blank_qualified : (kind : Kind) (base : Alternative) (p text : List ℕ) (a : Alternative) → AllBlank p → BehindQualifier kind base text a → BehindQualifier kind base (p ++ text) a
blank_qualified kind base p text a h t = record {
  between = p ++ t.between;
  restriction = t.restriction;
  after = t.after;
  is = ap (λ (l : List ℕ). p ++ l) t.is ∙ sym (append_assoc p t.between (t.restriction ++ t.after));
  blank_between = more_blank p t.between h t.blank_between;
  blank_after = t.blank_after;
  same_name = t.same_name;
  same_arch = t.same_arch;
  restriction_is = t.restriction_is;
}

no_qualifier : (kind : Kind) (arch : Option (List ℕ)) → arch ≡ None → QualifierText kind [] arch
no_qualifier kind None e = inl refl
no_qualifier kind (Some x) e = cc

name_from_qualified : (kind : Kind) (name text : List ℕ) (a : Alternative) → BehindQualifier kind (plain name) text a → BehindName kind name text a
name_from_qualified kind name text a t = record {
  qualifier = [];
  between = t.between;
  restriction = t.restriction;
  after = t.after;
  is = t.is;
  blank_between = t.blank_between;
  blank_after = t.blank_after;
  same_name = t.same_name;
  qualifier_is = no_qualifier kind a.arch t.same_arch;
  restriction_is = t.restriction_is;
}

blank_opened : (kind : Kind) (base : Alternative) (p text : List ℕ) (a : Alternative) → AllBlank p → BehindOpening kind base text a → BehindOpening kind base (p ++ text) a
blank_opened kind base p text a h t = record {
  before = p ++ t.before;
  operator = t.operator;
  between = t.between;
  relation = t.relation;
  version = t.version;
  closing = t.closing;
  after = t.after;
  is = ap (λ (l : List ℕ). p ++ l) t.is ∙ sym (append_assoc p t.before (t.operator ++ (t.between ++ (t.version ++ (t.closing ++ 41 ∷ t.after)))));
  blank_before = more_blank p t.before h t.blank_before;
  blank_between = t.blank_between;
  blank_closing = t.blank_closing;
  blank_after = t.blank_after;
  operator_is = t.operator_is;
  allowed = t.allowed;
  version_is = t.version_is;
  whole = t.whole;
}

blank_compared : (base : Alternative) (relation : Relation) (p text : List ℕ) (a : Alternative) → AllBlank p → BehindOperator base relation text a → BehindOperator base relation (p ++ text) a
blank_compared base relation p text a h t = record {
  between = p ++ t.between;
  version = t.version;
  closing = t.closing;
  after = t.after;
  is = ap (λ (l : List ℕ). p ++ l) t.is ∙ sym (append_assoc p t.between (t.version ++ (t.closing ++ 41 ∷ t.after)));
  blank_between = more_blank p t.between h t.blank_between;
  blank_closing = t.blank_closing;
  blank_after = t.blank_after;
  version_is = t.version_is;
  whole = t.whole;
}

blank_versioned : (base : Alternative) (p text : List ℕ) (a : Alternative) → AllBlank p → BehindVersion base text a → BehindVersion base (p ++ text) a
blank_versioned base p text a h t = record {
  closing = p ++ t.closing;
  after = t.after;
  is = ap (λ (l : List ℕ). p ++ l) t.is ∙ sym (append_assoc p t.closing (41 ∷ t.after));
  blank_closing = more_blank p t.closing h t.blank_closing;
  blank_after = t.blank_after;
  whole = t.whole;
}

pub blank_completes : (kind : Kind) (phase next : Phase) (p text : List ℕ) (a : Alternative) → rested phase ≡ Some next → AllBlank p → Completes kind next text a → Completes kind phase (p ++ text) a
blank_completes kind Start next p text a e h t =
    blank_alternative kind p text a h (let P : Phase → Type 0 = λ ph. Completes kind ph text a in subst P (sym (same_Some Start next e)) t)
blank_completes kind Barred next p text a e h t =
    blank_alternative kind p text a h (let P : Phase → Type 0 = λ ph. Completes kind ph text a in subst P (sym (same_Some Barred next e)) t)
blank_completes kind (Named name) next p text a e h t =
    name_from_qualified kind name (p ++ text) a (blank_qualified kind (plain name) p text a h (let P : Phase → Type 0 = λ ph. Completes kind ph text a in subst P (sym (same_Some (Parted (plain name)) next e)) t))
blank_completes kind (Colon name) next p text a e h t = cc
blank_completes kind (Parted base) next p text a e h t =
    blank_qualified kind base p text a h (let P : Phase → Type 0 = λ ph. Completes kind ph text a in subst P (sym (same_Some (Parted base) next e)) t)
blank_completes kind (Opened base) next p text a e h t =
    blank_opened kind base p text a h (let P : Phase → Type 0 = λ ph. Completes kind ph text a in subst P (sym (same_Some (Opened base) next e)) t)
blank_completes kind (Compared base relation) next p text a e h t =
    blank_compared base relation p text a h (let P : Phase → Type 0 = λ ph. Completes kind ph text a in subst P (sym (same_Some (Compared base relation) next e)) t)
blank_completes kind (Versioned base) next p text a e h t =
    blank_versioned base p text a h (let P : Phase → Type 0 = λ ph. Completes kind ph text a in subst P (sym (same_Some (Versioned base) next e)) t)
blank_completes kind (Closed base) next p text a e h t =
    let P : Phase → Type 0 = λ ph. Completes kind ph text a in
    let closed = subst P (sym (same_Some (Closed base) next e)) t in
    (more_blank p text h closed.0, closed.1)

-- a piece that isn't blank may be put before

pub same_bytes : (p q : List ℕ) → bytes_eq p q ≡ true → p ≡ q
same_bytes p q h = (bytes_eq-Decides p q).0 h

chosen : (b : Bool) (x : Phase) (other : Option Phase) (next : Phase) → cond b (Some x) other ≡ Some next → ((b ≡ true) × (x ≡ next)) ⊎ ((b ≡ false) × (other ≡ Some next))
chosen true x other next e = inl (refl, same_Some x next e)
chosen false x other next e = inr (refl, e)

only_chosen : (b : Bool) (x next : Phase) → cond b (Some x) None ≡ Some next → (b ≡ true) × (x ≡ next)
only_chosen true x next e = (refl, same_Some x next e)
only_chosen false x next e = cc

at_phase : (kind : Kind) (text : List ℕ) (a : Alternative) (x next : Phase) → x ≡ next → Completes kind next text a → Completes kind x text a
at_phase kind text a x next e t = let P : Phase → Type 0 = λ ph. Completes kind ph text a in subst P (sym e) t

named_completes : (kind : Kind) (p text : List ℕ) (a : Alternative) → is_package_name p ≡ true → BehindName kind p text a → AlternativeText kind (p ++ text) a
named_completes kind p text a h t = record {
  before = [];
  qualifier = t.qualifier;
  between = t.between;
  restriction = t.restriction;
  after = t.after;
  is = ap (λ (l : List ℕ). p ++ l) t.is ∙ ap (λ (n : List ℕ). n ++ (t.qualifier ++ (t.between ++ (t.restriction ++ t.after)))) (sym t.same_name);
  blank_before = refl;
  blank_between = t.blank_between;
  blank_after = t.blank_after;
  name_is = ap is_package_name t.same_name ∙ h;
  qualifier_is = t.qualifier_is;
  restriction_is = t.restriction_is;
}

named_at : (kind : Kind) (p text : List ℕ) (a : Alternative) (next : Phase) → named p ≡ Some next → Completes kind next text a → AlternativeText kind (p ++ text) a
unfolding named
named_at kind p text a next e t =
    let c = only_chosen (is_package_name p) (Named p) next e in
    named_completes kind p text a c.0 (at_phase kind text a (Named p) next c.1 t)

colon_completes : (kind : Kind) (name text : List ℕ) (a : Alternative) → BehindColon kind name text a → BehindName kind name (58 ∷ text) a
colon_completes kind name text a t = record {
  qualifier = 58 ∷ t.qualifier;
  between = t.between;
  restriction = t.restriction;
  after = t.after;
  is = ap (λ (l : List ℕ). 58 ∷ l) t.is;
  blank_between = t.blank_between;
  blank_after = t.blank_after;
  same_name = t.same_name;
  qualifier_is = t.qualifier_is;
  restriction_is = t.restriction_is;
}

closed_then : (b o t v c after : List ℕ) → (b ++ (o ++ (t ++ (v ++ (c ++ 41 ∷ []))))) ++ after ≡ b ++ (o ++ (t ++ (v ++ (c ++ 41 ∷ after))))
closed_then b o t v c after = simp append_assoc

restricts_of : (kind : Kind) (base : Alternative) (text : List ℕ) (a : Alternative) (t : BehindOpening kind base text a) → RestrictionText kind (40 ∷ (t.before ++ (t.operator ++ (t.between ++ (t.version ++ (t.closing ++ 41 ∷ [])))))) a.relation
restricts_of kind base text a t =
    let whole : Restricts kind (40 ∷ (t.before ++ (t.operator ++ (t.between ++ (t.version ++ (t.closing ++ 41 ∷ [])))))) t.relation t.version = record {
      before = t.before;
      operator = t.operator;
      between = t.between;
      after = t.closing;
      is = refl;
      blank_before = t.blank_before;
      blank_between = t.blank_between;
      blank_after = t.blank_closing;
      operator_is = t.operator_is;
      allowed = t.allowed;
      version_is = t.version_is;
    } in
    let P : Alternative → Type 0 = λ x. RestrictionText kind (40 ∷ (t.before ++ (t.operator ++ (t.between ++ (t.version ++ (t.closing ++ 41 ∷ [])))))) x.relation in
    subst P (sym t.whole) whole

opened_completes : (kind : Kind) (base : Alternative) (text : List ℕ) (a : Alternative) → BehindOpening kind base text a → BehindQualifier kind base (40 ∷ text) a
opened_completes kind base text a t = record {
  between = [];
  restriction = 40 ∷ (t.before ++ (t.operator ++ (t.between ++ (t.version ++ (t.closing ++ 41 ∷ [])))));
  after = t.after;
  is = ap (λ (l : List ℕ). 40 ∷ l) (t.is ∙ sym (closed_then t.before t.operator t.between t.version t.closing t.after));
  blank_between = refl;
  blank_after = t.blank_after;
  same_name = ap (λ (x : Alternative). x.name) t.whole;
  same_arch = ap (λ (x : Alternative). x.arch) t.whole;
  restriction_is = restricts_of kind base text a t;
}

opened_name : (kind : Kind) (name text : List ℕ) (a : Alternative) → BehindOpening kind (plain name) text a → BehindName kind name (40 ∷ text) a
opened_name kind name text a t = name_from_qualified kind name (40 ∷ text) a (opened_completes kind (plain name) text a t)

put_before : (kind : Kind) (phase : Phase) (p q text : List ℕ) (a : Alternative) → p ≡ q → Completes kind phase (q ++ text) a → Completes kind phase (p ++ text) a
put_before kind phase p q text a e t = let P : List ℕ → Type 0 = λ l. Completes kind phase (l ++ text) a in subst P (sym e) t

name_at : (kind : Kind) (name p text : List ℕ) (a : Alternative) (next : Phase) → cond (is_piece 58 p) (Some (Colon name)) (cond (is_piece 40 p) (Some (Opened (plain name))) None) ≡ Some next → Completes kind next text a → BehindName kind name (p ++ text) a
name_at kind name p text a next e t =
    elim (chosen (is_piece 58 p) (Colon name) _ next e) [
      | inl c ↦ put_before kind (Named name) p (58 ∷ []) text a (same_bytes p (58 ∷ []) c.0) (colon_completes kind name text a (at_phase kind text a (Colon name) next c.1 t))
      | inr d ↦ let c = only_chosen (is_piece 40 p) (Opened (plain name)) next d.1 in
          put_before kind (Named name) p (40 ∷ []) text a (same_bytes p (40 ∷ []) c.0) (opened_name kind name text a (at_phase kind text a (Opened (plain name)) next c.1 t))
    ]

qualifier_none : (kind : Kind) (p : List ℕ) (arch : Option (List ℕ)) → is_no_qualifier kind p ≡ true → arch ≡ None → QualifierText kind (58 ∷ p) arch
qualifier_none kind p None h e = inr (p, refl, h)
qualifier_none kind p (Some x) h e = cc

qualifier_arch : (kind : Kind) (p : List ℕ) (arch : Option (List ℕ)) → is_no_qualifier kind p ≡ false → is_architecture p ≡ true → arch ≡ Some p → QualifierText kind (58 ∷ p) arch
qualifier_arch kind p None other is h = cc
qualifier_arch kind p (Some x) other is h =
    let same = same_Some x p h in
    (ap (λ (l : List ℕ). 58 ∷ l) (sym same), ap is_architecture same ∙ is, ap (is_no_qualifier kind) same ∙ other)

colon_behind : (kind : Kind) (name p text : List ℕ) (base a : Alternative) → base.name ≡ name → QualifierText kind (58 ∷ p) a.arch → BehindQualifier kind base text a → BehindColon kind name (p ++ text) a
colon_behind kind name p text base a n q t = record {
  qualifier = p;
  between = t.between;
  restriction = t.restriction;
  after = t.after;
  is = ap (λ (l : List ℕ). p ++ l) t.is;
  blank_between = t.blank_between;
  blank_after = t.blank_after;
  same_name = t.same_name ∙ n;
  qualifier_is = q;
  restriction_is = t.restriction_is;
}

colon_at : (kind : Kind) (name p text : List ℕ) (a : Alternative) (next : Phase) → qualified kind name p ≡ Some next → Completes kind next text a → BehindColon kind name (p ++ text) a
unfolding qualified
colon_at kind name p text a next e t =
    elim (chosen (is_no_qualifier kind p) (Parted (plain name)) _ next e) [
      | inl c ↦ let u = at_phase kind text a (Parted (plain name)) next c.1 t in
          colon_behind kind name p text (plain name) a refl (qualifier_none kind p a.arch c.0 u.same_arch) u
      | inr d ↦ let c = only_chosen (is_architecture p) (Parted (with_arch name p)) next d.1 in
          let u = at_phase kind text a (Parted (with_arch name p)) next c.1 t in
          colon_behind kind name p text (with_arch name p) a refl (qualifier_arch kind p a.arch d.0 c.0 u.same_arch) u
    ]

parted_at : (kind : Kind) (base : Alternative) (p text : List ℕ) (a : Alternative) (next : Phase) → cond (is_piece 40 p) (Some (Opened base)) None ≡ Some next → Completes kind next text a → BehindQualifier kind base (p ++ text) a
parted_at kind base p text a next e t =
    let c = only_chosen (is_piece 40 p) (Opened base) next e in
    put_before kind (Parted base) p (40 ∷ []) text a (same_bytes p (40 ∷ []) c.0) (opened_completes kind base text a (at_phase kind text a (Opened base) next c.1 t))

operator_completes : (kind : Kind) (base : Alternative) (relation : Relation) (p text : List ℕ) (a : Alternative) → relation_of p ≡ Some relation → is_allowed kind relation ≡ true → BehindOperator base relation text a → BehindOpening kind base (p ++ text) a
operator_completes kind base relation p text a o allowed t = record {
  before = [];
  operator = p;
  between = t.between;
  relation = relation;
  version = t.version;
  closing = t.closing;
  after = t.after;
  is = ap (λ (l : List ℕ). p ++ l) t.is;
  blank_before = refl;
  blank_between = t.blank_between;
  blank_closing = t.blank_closing;
  blank_after = t.blank_after;
  operator_is = o;
  allowed = allowed;
  version_is = t.version_is;
  whole = t.whole;
}

opened_by : (kind : Kind) (base : Alternative) (p text : List ℕ) (a : Alternative) (next : Phase) (o : Option Relation) → relation_of p ≡ o → compared_by kind base o ≡ Some next → Completes kind next text a → BehindOpening kind base (p ++ text) a
opened_by kind base p text a next None o e t = cc
opened_by kind base p text a next (Some relation) o e t =
    let c = only_chosen (is_allowed kind relation) (Compared base relation) next e in
    operator_completes kind base relation p text a o c.0 (at_phase kind text a (Compared base relation) next c.1 t)

opened_at : (kind : Kind) (base : Alternative) (p text : List ℕ) (a : Alternative) (next : Phase) → compared kind base p ≡ Some next → Completes kind next text a → BehindOpening kind base (p ++ text) a
unfolding compared
opened_at kind base p text a next e t = opened_by kind base p text a next (relation_of p) refl e t

version_completes : (base : Alternative) (relation : Relation) (p text : List ℕ) (a : Alternative) → is_version_word p ≡ true → BehindVersion (with_relation base relation p) text a → BehindOperator base relation (p ++ text) a
version_completes base relation p text a h t = record {
  between = [];
  version = p;
  closing = t.closing;
  after = t.after;
  is = ap (λ (l : List ℕ). p ++ l) t.is;
  blank_between = refl;
  blank_closing = t.blank_closing;
  blank_after = t.blank_after;
  version_is = h;
  whole = t.whole;
}

compared_at : (kind : Kind) (base : Alternative) (relation : Relation) (p text : List ℕ) (a : Alternative) (next : Phase) → versioned base relation p ≡ Some next → Completes kind next text a → BehindOperator base relation (p ++ text) a
unfolding versioned
compared_at kind base relation p text a next e t =
    let c = only_chosen (is_version_word p) (Versioned (with_relation base relation p)) next e in
    version_completes base relation p text a c.0 (at_phase kind text a (Versioned (with_relation base relation p)) next c.1 t)

closing_completes : (base : Alternative) (text : List ℕ) (a : Alternative) → AllBlank text → a ≡ base → BehindVersion base (41 ∷ text) a
closing_completes base text a h e = record { closing = []; after = text; is = refl; blank_closing = refl; blank_after = h; whole = e }

versioned_at : (kind : Kind) (base : Alternative) (p text : List ℕ) (a : Alternative) (next : Phase) → cond (is_piece 41 p) (Some (Closed base)) None ≡ Some next → Completes kind next text a → BehindVersion base (p ++ text) a
versioned_at kind base p text a next e t =
    let c = only_chosen (is_piece 41 p) (Closed base) next e in
    let closed = at_phase kind text a (Closed base) next c.1 t in
    put_before kind (Versioned base) p (41 ∷ []) text a (same_bytes p (41 ∷ []) c.0) (closing_completes base text a closed.0 closed.1)

pub piece_completes : (kind : Kind) (phase next : Phase) (p text : List ℕ) (a : Alternative) → advanced kind phase p ≡ Some next → Completes kind next text a → Completes kind phase (p ++ text) a
piece_completes kind Start next p text a e t = named_at kind p text a next e t
piece_completes kind Barred next p text a e t = named_at kind p text a next e t
piece_completes kind (Named name) next p text a e t = name_at kind name p text a next e t
piece_completes kind (Colon name) next p text a e t = colon_at kind name p text a next e t
piece_completes kind (Parted base) next p text a e t = parted_at kind base p text a next e t
piece_completes kind (Opened base) next p text a e t = opened_at kind base p text a next e t
piece_completes kind (Compared base relation) next p text a e t = compared_at kind base relation p text a next e t
piece_completes kind (Versioned base) next p text a e t = versioned_at kind base p text a next e t
piece_completes kind (Closed base) next p text a e t = cc

-- nothing more is needed where an alternative may end

-- no restriction was read yet
abbrev pub IsBare : Phase → Type 0
IsBare Start = Unit {0}
IsBare Barred = Unit {0}
IsBare (Named name) = Unit {0}
IsBare (Colon name) = Unit {0}
IsBare (Parted base) = base.relation ≡ None
IsBare (Opened base) = Unit {0}
IsBare (Compared base relation) = Unit {0}
IsBare (Versioned base) = Unit {0}
IsBare (Closed base) = Unit {0}

no_restriction : (kind : Kind) (relation : Option (Relation × List ℕ)) → relation ≡ None → RestrictionText kind [] relation
no_restriction kind None e = refl
no_restriction kind (Some x) e = cc

qualified_ends : (kind : Kind) (base a : Alternative) → base.relation ≡ None → base ≡ a → BehindQualifier kind base [] a
qualified_ends kind base a bare e = record {
  between = [];
  restriction = [];
  after = [];
  is = refl;
  blank_between = refl;
  blank_after = refl;
  same_name = ap (λ (x : Alternative). x.name) (sym e);
  same_arch = ap (λ (x : Alternative). x.arch) (sym e);
  restriction_is = no_restriction kind a.relation (ap (λ (x : Alternative). x.relation) (sym e) ∙ bare);
}

pub ended_completes : (kind : Kind) (phase : Phase) (a : Alternative) → IsBare phase → ended phase ≡ Some a → Completes kind phase [] a
ended_completes kind Start a bare e = cc
ended_completes kind Barred a bare e = cc
ended_completes kind (Named name) a bare e =
    name_from_qualified kind name [] a (qualified_ends kind (plain name) a refl (same_Some (plain name) a e))
ended_completes kind (Colon name) a bare e = cc
ended_completes kind (Parted base) a bare e = qualified_ends kind base a bare (same_Some base a e)
ended_completes kind (Opened base) a bare e = cc
ended_completes kind (Compared base relation) a bare e = cc
ended_completes kind (Versioned base) a bare e = cc
ended_completes kind (Closed base) a bare e = (refl, sym (same_Some base a e))
