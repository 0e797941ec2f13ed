-- What holds of the words and values of a query's text holds of the query's written text: it is one line, and it is text.
use Rattle.std.proofs.Common.{◌≡◌, inl, inr, ℕ, suc, zero, ◌<◌, ◌≤◌, ◌==◌, Bool, true, false, not, ◌||◌, List, [], ◌∷◌, ◌++◌, length, take, drop, Option, Some, None, refl, sym, ◌∙◌, subst, arith, lit≤, lit<}
use Rattle.std.specs.List.{list_all}
use Rattle.std.specs.Str.{IsUtf8}
use Rattle.std.proofs.lemmas.Bool.{cond_both, and_parts, and_from, not_from_false}
use Rattle.std.proofs.lemmas.Bool.Decides.{nat_tests}
use Rattle.std.proofs.lemmas.List.Folds.{list_all-append}
use Rattle.std.proofs.lemmas.Str.{IsUtf8-append, IsUtf8-nil, IsUtf8-take, IsUtf8-drop}
use Rattle.deb_version.specs.declared.order.Relation.{Relation}
use Rattle.query_tree.specs.declared.piece.Place.{Place}
use Rattle.query_tree.specs.declared.piece.Place.TheVariants.{Outside}
use Rattle.query_tree.specs.declared.piece.Shape.{Shape}
use Rattle.query_tree.specs.declared.piece.Shape.TheVariants.{Blank, Word, Operator, Lone, Quoted, Broken, Mark}
use Rattle.query_tree.specs.declared.query.Test.{Test}
use Rattle.query_tree.specs.declared.query.Test.TheVariants as test
use Rattle.query_tree.specs.Tree.{Tree, Trees, listed, any, all, negated, reference, wanted, field, nil, cons}
use Rattle.query_tree.specs.Pieces.{Token, token, tokens, behind, gap, word, operator, lone, quoted, broken, mark, is_control, quoted_value, first_cut, next_place, cuts, pieces}
use Rattle.query_tree.specs.Grammar.{One, AllOf, AnyOf, Between, Followed, Term, Related, Bound, Tested, IsValue, all_of, any_of, QueryText}
use Rattle.query_tree.specs.Written.{test_text, test_of, tested_text, is_plain, escaped, value_text, relation_text, arch_text, field_text, is_any, is_all, in_parentheses, written, alternatives, more_alternatives, members, more_members}
use Rattle.query_tree.proofs.QuotedText.{ascii_more, escaped-IsUtf8}
use Rattle.query_tree.proofs.PieceText.{first_cut-good}
use Rattle.query_tree.proofs.Fronts.{text_front}
use Rattle.query_tree.proofs.Shown.{HasNoControl, backslash_low}
use Rattle.query_tree.proofs.Lexed.{AllLexed, run-clean, front-lexed}

-- it holds of the printed characters of ASCII, of what is joined, and of what is escaped
record IsKept (P : List ℕ → Type 0) : Type 0 where
  none : P []
  both : (xs ys : List ℕ) → P xs → P ys → P (xs ++ ys)
  one : (c : ℕ) → 32 ≤ c → c < 127 → P (c ∷ [])
  escapes : (xs : List ℕ) → P xs → P (escaped xs)

-- it holds of the words and of the quoted values
abbrev HoldsIn : (List ℕ → Type 0) → Token → Type 0
HoldsIn P (word text) = P text
HoldsIn P (quoted value) = P value
HoldsIn P t = Unit {0}

abbrev AllHold : (List ℕ → Type 0) → List Token → Type 0
AllHold P [] = Unit {0}
AllHold P (t ∷ ts) = HoldsIn P t × AllHold P ts

abbrev InRelation : (List ℕ → Type 0) → Option (Relation × List ℕ) → Type 0
InRelation P None = Unit {0}
InRelation P (Some (asked, version)) = P version

abbrev InArch : (List ℕ → Type 0) → Option (List ℕ) → Type 0
InArch P None = Unit {0}
InArch P (Some arch) = P arch

abbrev InTest : (List ℕ → Type 0) → Option (Test × List ℕ) → Type 0
InTest P None = Unit {0}
InTest P (Some (how, value)) = P value

-- it holds of each text in a tree
abbrev mutual
  EachText : (List ℕ → Type 0) → Tree → Type 0
  EachText P (any ts) = EachTexts P ts
  EachText P (all ts) = EachTexts P ts
  EachText P (negated t) = EachText P t
  EachText P (reference name version arch) = P (name ++ 95 ∷ (version ++ 95 ∷ arch))
  EachText P (wanted name asked arch) = P name × InRelation P asked × InArch P arch
  EachText P (field name how) = P name × InTest P how

  EachTexts : (List ℕ → Type 0) → Trees → Type 0
  EachTexts P nil = Unit {0}
  EachTexts P (cons t ts) = EachText P t × EachTexts P ts

hold-split : (P : List ℕ → Type 0) (xs ys : List Token) → AllHold P (xs ++ ys) → AllHold P xs × AllHold P ys
hold-split P [] ys h = (tt, h)
hold-split P (x ∷ xs) ys h = let r = hold-split P xs ys h.1 in ((h.0, r.0), r.1)

hold-behind : (P : List ℕ → Type 0) (t : Token) (ts : List Token) → HoldsIn P t → AllHold P ts → AllHold P (behind t ts)
hold-behind P gap ts h r = r
hold-behind P (word text) ts h r = (h, r)
hold-behind P (operator how) ts h r = (h, r)
hold-behind P lone ts h r = (h, r)
hold-behind P (quoted value) ts h r = (h, r)
hold-behind P broken ts h r = (h, r)
hold-behind P (mark c) ts h r = (h, r)

-- the texts in a tree are words and values of the text that spells it
module _ (P : List ℕ → Type 0) where
  abbrev Gives : (List Token → Tree → Type 0) → Type 0
  Gives Item = (ps : List Token) (t : Tree) → Item ps t → AllHold P ps → EachText P t

  related-texts : (ps : List Token) (asked : Option (Relation × List ℕ)) → Related ps asked → AllHold P ps → InRelation P asked
  related-texts ps None r h = tt
  related-texts ps (Some (asked, version)) (v, inl (r, e)) h = (subst (λ qs. AllHold P qs) e h).1.0
  related-texts ps (Some (asked, version)) (v, inr (how, r, e)) h = (subst (λ qs. AllHold P qs) e h).1.1.0

  bound-texts : (ps : List Token) (arch : Option (List ℕ)) → Bound ps arch → AllHold P ps → InArch P arch
  bound-texts ps None b h = tt
  bound-texts ps (Some arch) (a, e) h = (subst (λ qs. AllHold P qs) e h).1.0

  value-texts : (p : Token) (value : List ℕ) → IsValue p value → HoldsIn P p → P value
  value-texts p value (inl e) h = subst (λ q. HoldsIn P q) e h
  value-texts p value (inr e) h = subst (λ q. HoldsIn P q) e h

  tested-texts : (name : List ℕ) (ps : List Token) (how : Option (Test × List ℕ)) → Tested name ps how → AllHold P ps → InTest P how
  tested-texts name ps None t h = tt
  tested-texts name ps (Some (how, value)) (v, p, is, inl (r, e)) h = value-texts p value is (subst (λ qs. AllHold P qs) e h).1.0
  tested-texts name ps (Some (how, value)) (v, p, is, inr e) h = value-texts p value is (subst (λ qs. AllHold P qs) e h).1.1.0

  term-texts : (ps : List Token) (t : Tree) → Term ps t → AllHold P ps → EachText P t
  term-texts ps (reference name version arch) (text, r, e) h = subst P r.parts (subst (λ qs. AllHold P qs) e h).0
  term-texts ps (wanted name asked arch) (n, front, back, r, b, e) h =
      let all = subst (λ qs. AllHold P qs) e h in
      let parts = hold-split P front back all.1 in
      (all.0, related-texts front asked r parts.0, bound-texts back arch b parts.1)
  term-texts ps (field name how) (n, back, t, e) h = let all = subst (λ qs. AllHold P qs) e h in (all.0, tested-texts name back how t all.1)
  term-texts ps (any ts) t h = absurd t
  term-texts ps (all ts) t h = absurd t
  term-texts ps (negated u) t h = absurd t

  snoc-texts : (ts : List Tree) (t : Tree) → EachTexts P (listed ts) → EachText P t → EachTexts P (listed (ts ++ t ∷ []))
  snoc-texts [] t e h = (h, tt)
  snoc-texts (u ∷ us) t e h = (e.0, snoc-texts us t e.1 h)

  followed-texts : (c : ℕ) (Item : List Token → Tree → Type 0) → Gives Item → (ps : List Token) (ts : List Tree) → Followed c Item ps ts → AllHold P ps → EachTexts P (listed ts)
  followed-texts c Item g ps [] f h = tt
  followed-texts c Item g ps (t ∷ ts) (front, rest, e, i, more) h =
      let parts = hold-split P front (mark c ∷ rest) (subst (λ qs. AllHold P qs) e h) in
      (g front t i parts.0, followed-texts c Item g rest ts more parts.1.1)

  between-texts : (c : ℕ) (Item : List Token → Tree → Type 0) → Gives Item → (ps : List Token) (ts : List Tree) → Between c Item ps ts → AllHold P ps → EachTexts P (listed ts)
  between-texts c Item g ps ts b h =
      let parts = hold-split P b.front b.last (subst (λ qs. AllHold P qs) b.split h) in
      subst (λ us. EachTexts P (listed us)) (sym b.trees)
      (snoc-texts b.firsts b.final (followed-texts c Item g b.front b.firsts b.each parts.0) (g b.last b.final b.end parts.1))

  all_of-texts : (ts : List Tree) → EachTexts P (listed ts) → EachText P (all_of ts)
  all_of-texts [] h = h
  all_of-texts (t ∷ []) h = h.0
  all_of-texts (t ∷ u ∷ us) h = h

  any_of-texts : (ts : List Tree) → EachTexts P (listed ts) → EachText P (any_of ts)
  any_of-texts [] h = h
  any_of-texts (t ∷ []) h = h.0
  any_of-texts (t ∷ u ∷ us) h = h

  all-texts : (Item : List Token → Tree → Type 0) → Gives Item → Gives (AllOf Item)
  all-texts Item g ps t (ts, b, e) h = subst (λ u. EachText P u) (sym e) (all_of-texts ts (between-texts 44 Item g ps ts b h))

  any-texts : (Item : List Token → Tree → Type 0) → Gives Item → Gives (AnyOf Item)
  any-texts Item g ps t (ts, b, e) h = subst (λ u. EachText P u) (sym e) (any_of-texts ts (between-texts 124 (AllOf Item) (all-texts Item g) ps ts b h))

  one-texts : (n : ℕ) → Gives (One n)
  one-texts zero ps t o h = term-texts ps t o h
  one-texts (suc n) ps t (inl o) h = term-texts ps t o h
  one-texts (suc n) ps t (inr (inl (rest, u, e, made, o))) h = subst (λ v. EachText P v) (sym made) (one-texts n rest u o (subst (λ qs. AllHold P qs) e h).1)
  one-texts (suc n) ps t (inr (inr (inner, e, o))) h =
      let parts = hold-split P inner (mark 41 ∷ []) (subst (λ qs. AllHold P qs) e h).1 in
      any-texts (One n) (one-texts n) inner t o parts.0

-- what is written is made of the texts in the tree
module _ (P : List ℕ → Type 0) (k : IsKept P) where
  ahead : (c : ℕ) (xs : List ℕ) → 32 ≤ c → c < 127 → P xs → P (c ∷ xs)
  ahead c xs low high h = k.both (c ∷ []) xs (k.one c low high) h

  closed : (c : ℕ) (xs : List ℕ) → 32 ≤ c → c < 127 → P xs → P (xs ++ c ∷ [])
  closed c xs low high h = k.both xs (c ∷ []) h (k.one c low high)

  test-kept : (how : Test) → P (test_text how)
  test-kept test.Equal = k.one 61 (lit≤ tt) (lit< tt)
  test-kept test.Less = ahead 60 (60 ∷ []) (lit≤ tt) (lit< tt) (k.one 60 (lit≤ tt) (lit< tt))
  test-kept test.LessEqual = ahead 60 (61 ∷ []) (lit≤ tt) (lit< tt) (k.one 61 (lit≤ tt) (lit< tt))
  test-kept test.GreaterEqual = ahead 62 (61 ∷ []) (lit≤ tt) (lit< tt) (k.one 61 (lit≤ tt) (lit< tt))
  test-kept test.Greater = ahead 62 (62 ∷ []) (lit≤ tt) (lit< tt) (k.one 62 (lit≤ tt) (lit< tt))
  test-kept test.Glob = k.one 37 (lit≤ tt) (lit< tt)
  test-kept test.Pattern = k.one 126 (lit≤ tt) (lit< tt)

  tested-kept : (how : Test) (value : List ℕ) → P value → P (tested_text how value)
  tested-kept how value h =
      ahead 32 _ (lit≤ tt) (lit< tt)
      (ahead 40 _ (lit≤ tt) (lit< tt)
      (k.both (test_text how) (32 ∷ (value ++ 41 ∷ [])) (test-kept how) (ahead 32 _ (lit≤ tt) (lit< tt) (closed 41 value (lit≤ tt) (lit< tt) h))))

  relation-kept : (asked : Option (Relation × List ℕ)) → InRelation P asked → P (relation_text asked)
  relation-kept None h = k.none
  relation-kept (Some (asked, version)) h = tested-kept (test_of asked) version h

  arch-kept : (arch : Option (List ℕ)) → InArch P arch → P (arch_text arch)
  arch-kept None h = k.none
  arch-kept (Some arch) h = ahead 32 _ (lit≤ tt) (lit< tt) (ahead 123 _ (lit≤ tt) (lit< tt) (closed 125 arch (lit≤ tt) (lit< tt) h))

  value-kept : (value : List ℕ) → P value → P (value_text value)
  unfolding value_text
  value-kept value h =
      cond_both (is_plain value) value (34 ∷ (escaped value ++ 34 ∷ [])) P (λ _. h)
      (λ _. ahead 34 _ (lit≤ tt) (lit< tt) (closed 34 (escaped value) (lit≤ tt) (lit< tt) (k.escapes value h)))

  field-kept : (how : Option (Test × List ℕ)) → InTest P how → P (field_text how)
  field-kept None h = k.none
  field-kept (Some (how, value)) h = tested-kept how (value_text value) (value-kept value h)

  parentheses-kept : (b : Bool) (text : List ℕ) → P text → P (in_parentheses b text)
  parentheses-kept true text h = ahead 40 _ (lit≤ tt) (lit< tt) (closed 41 text (lit≤ tt) (lit< tt) h)
  parentheses-kept false text h = h

  mutual
    written-kept : (t : Tree) → EachText P t → P (written t)
    written-kept (any ts) h = alternatives-kept ts h
    written-kept (all ts) h = members-kept ts h
    written-kept (negated t) h = ahead 33 _ (lit≤ tt) (lit< tt) (parentheses-kept (is_any t || is_all t) (written t) (written-kept t h))
    written-kept (reference name version arch) h = h
    written-kept (wanted name asked arch) h = k.both name _ h.0 (k.both (relation_text asked) (arch_text arch) (relation-kept asked h.1) (arch-kept arch h.2))
    written-kept (field name how) h = k.both name (field_text how) h.0 (field-kept how h.1)

    alternatives-kept : (ts : Trees) → EachTexts P ts → P (alternatives ts)
    alternatives-kept nil h = k.none
    alternatives-kept (cons t ts) h = k.both _ (more_alternatives ts) (parentheses-kept (is_any t) (written t) (written-kept t h.0)) (more_alternatives-kept ts h.1)

    more_alternatives-kept : (ts : Trees) → EachTexts P ts → P (more_alternatives ts)
    more_alternatives-kept nil h = k.none
    more_alternatives-kept (cons t ts) h =
        ahead 32 _ (lit≤ tt) (lit< tt)
        (ahead 124 _ (lit≤ tt) (lit< tt)
        (ahead 32 _ (lit≤ tt) (lit< tt)
        (k.both _ (more_alternatives ts) (parentheses-kept (is_any t) (written t) (written-kept t h.0)) (more_alternatives-kept ts h.1))))

    members-kept : (ts : Trees) → EachTexts P ts → P (members ts)
    members-kept nil h = k.none
    members-kept (cons t ts) h = k.both _ (more_members ts) (parentheses-kept (is_any t || is_all t) (written t) (written-kept t h.0)) (more_members-kept ts h.1)

    more_members-kept : (ts : Trees) → EachTexts P ts → P (more_members ts)
    more_members-kept nil h = k.none
    more_members-kept (cons t ts) h =
        ahead 44 _ (lit≤ tt) (lit< tt)
        (ahead 32 _ (lit≤ tt) (lit< tt) (k.both _ (more_members ts) (parentheses-kept (is_any t || is_all t) (written t) (written-kept t h.0)) (more_members-kept ts h.1)))

  written-holds : (levels : ℕ) (text : List ℕ) (t : Tree) → QueryText levels text t → AllHold P (tokens (pieces text)) → P (written t)
  unfolding QueryText
  written-holds levels text t q h = written-kept t (any-texts P (One levels) (one-texts P levels) (tokens (pieces text)) t q h)

-- no control character
abbrev clean : ℕ → Bool
clean c = not (is_control c)

printed-clean : (c : ℕ) → 32 ≤ c → c < 127 → is_control c ≡ false
unfolding is_control
printed-clean c low high = grind (arith, nat_tests)

escaped-clean : (xs : List ℕ) → HasNoControl xs → HasNoControl (escaped xs)
escaped-clean [] h = refl
escaped-clean (c ∷ cs) h =
    let p = and_parts (clean c) (list_all clean cs) h in
    let more = and_from _ _ p.0 (escaped-clean cs p.1) in
    cond_both (c == 34 || c == 92) (92 ∷ c ∷ escaped cs) (c ∷ escaped cs) HasNoControl (λ _. and_from _ _ (not_from_false _ backslash_low) more) (λ _. more)

line-kept : IsKept HasNoControl
line-kept = record {
  none = refl;
  both = λ xs ys a b. list_all-append clean xs ys ∙ and_from _ _ a b;
  one = λ c low high. and_from _ _ (not_from_false _ (printed-clean c low high)) refl;
  escapes = escaped-clean;
}

lexed-clean : (ts : List Token) → AllLexed ts → AllHold HasNoControl ts
lexed-clean [] h = tt
lexed-clean (gap ∷ ts) h = (tt, lexed-clean ts h.1)
lexed-clean (word text ∷ ts) h = (run-clean text h.0.each, lexed-clean ts h.1)
lexed-clean (operator how ∷ ts) h = (tt, lexed-clean ts h.1)
lexed-clean (lone ∷ ts) h = (tt, lexed-clean ts h.1)
lexed-clean (quoted value ∷ ts) h = (h.0, lexed-clean ts h.1)
lexed-clean (broken ∷ ts) h = (tt, lexed-clean ts h.1)
lexed-clean (mark c ∷ ts) h = (tt, lexed-clean ts h.1)

-- what is written is one line
pub written_line : (levels : ℕ) (text : List ℕ) (t : Tree) → QueryText levels text t → HasNoControl (written t)
written_line levels text t q = written-holds HasNoControl line-kept levels text t q (lexed-clean (tokens (pieces text)) (front-lexed (pieces text) Outside [] (text_front text)))

utf8-kept : IsKept IsUtf8
utf8-kept = record {
  none = IsUtf8-nil;
  both = λ xs ys a b. IsUtf8-append xs ys a b;
  one = λ c low high. ascii_more c [] (omega arith) IsUtf8-nil;
  escapes = escaped-IsUtf8;
}

token-text : (shape : Shape) (bytes : List ℕ) → IsUtf8 bytes → (shape ≡ Quoted → IsUtf8 (quoted_value bytes)) → HoldsIn IsUtf8 (token shape bytes)
token-text Blank bytes u q = tt
token-text Word bytes u q = u
token-text (Operator how) bytes u q = tt
token-text Lone bytes u q = tt
token-text Quoted bytes u q = q refl
token-text Broken bytes u q = tt
token-text (Mark c) bytes u q = tt

cuts-text : (n : ℕ) (place : Place) (text : List ℕ) → IsUtf8 text → AllHold IsUtf8 (tokens (cuts n place text))
cuts-text zero place text u = tt
cuts-text (suc n) place [] u = tt
cuts-text (suc n) place (c ∷ cs) u =
    let cut = first_cut place c cs in
    let good = first_cut-good place c cs u in
    hold-behind IsUtf8 (token cut.shape (take cut.size (c ∷ cs))) (tokens (cuts n (next_place place cut.shape) (drop cut.size (c ∷ cs))))
    (token-text cut.shape (take cut.size (c ∷ cs)) (IsUtf8-take (c ∷ cs) cut.size u good.boundary) good.quoted)
    (cuts-text n (next_place place cut.shape) (drop cut.size (c ∷ cs)) (IsUtf8-drop (c ∷ cs) cut.size u good.boundary))

-- what is written of a text's tree is text
pub written_text : (levels : ℕ) (text : List ℕ) (t : Tree) → IsUtf8 text → QueryText levels text t → IsUtf8 (written t)
unfolding pieces
written_text levels text t u q = written-holds IsUtf8 utf8-kept levels text t q (cuts-text (length text) Outside text u)
