-- What is spelled so is read: the reader takes each term, each group and each list of members.
use Rattle.std.proofs.Common.{◌≡◌, ◌⊎◌, inl, inr, ℕ, suc, zero, ◌+◌, ◌≤◌, cond, List, [], ◌∷◌, ◌++◌, length, Option, Some, None, IsTrue, refl, sym, ap, ◌∙◌, subst, append_assoc, append-nil, add-zero, arith}
use Rattle.ap_text.specs.Names.{is_architecture}
use Rattle.deb_version.specs.VersionText.{is_version}
use Rattle.deb_version.specs.declared.order.Relation.{Relation}
use Rattle.deb_version.specs.declared.order.Relation.TheVariants as relation
use Rattle.query_tree.specs.declared.query.Test.{Test}
use Rattle.query_tree.specs.declared.query.Test.TheVariants as test
use Rattle.query_grammar.specs.declared.term.Begun.{Begun}
use Rattle.query_grammar.specs.declared.term.Begun.TheVariants as so_far
use Rattle.query_grammar.specs.declared.level.Next.{Next}
use Rattle.query_grammar.specs.declared.level.Next.TheVariants.{Wanting, Having, Within}
use Rattle.query_grammar.specs.declared.fault.QueryKind.TheVariants as QueryKind_is
use Rattle.query_tree.specs.Tree.{Tree, any, all, negated, reference, wanted, field}
use Rattle.query_tree.specs.Pieces.{Token, Piece, token, tokens, behind, gap, word, operator, lone, quoted, broken, mark}
use Rattle.query_tree.specs.Words.{relation_of, may_test}
use Rattle.query_tree.specs.Grammar.{One, AllOf, AnyOf, Between, Followed, Term, Related, Bound, Tested, IsValue, any_of}
use Rattle.query_grammar.specs.Reading.{Progress, goes_on, whole, ended, wrong, progress, compared, value_at, test_at, at_end, begun, Level, State, Step, goes, stops, with_member, with_alternative, whole_level, empty_level, having_one, step_having, step_progress, begin_negation, begin_group, step_wanting, step, Reading, tree, fault, finish_having, finish_progress, finish, start, run, negate}
use Rattle.query_grammar.proofs.WordFacts.{begun-package, begun-field, begun-reference}

abbrev tree_read : Reading → Option Tree
tree_read (tree t) = Some t
tree_read (fault at kind) = None

-- the tree that a state reads tokens as, if it does
abbrev pub result_of : State → List Token → Option Tree
result_of s [] = tree_read (finish 0 s)
result_of s (p ∷ ps) = elim (step s p) [ goes t ↦ result_of t ps | stops kind ↦ None ]

abbrev pub state : List Level → Level → Next → State
state outer l next = record { outer = outer; level = l; next = next }

pub result-step : (s t : State) (p : Token) (ps : List Token) → step s p ≡ goes t → result_of s (p ∷ ps) ≡ result_of t ps
result-step s t p ps e = ap (λ n. let r : Option Tree = elim n [ goes u ↦ result_of u ps | stops kind ↦ None ] in r) e

-- what may follow a whole member
abbrev pub Follows : List Token → Type 0
Follows [] = Unit {0}
Follows (mark c ∷ ts) = (c ≡ 44) ⊎ ((c ≡ 124) ⊎ (c ≡ 41))
Follows (p ∷ ts) = ⊥

-- a term that is whole where a member may be followed
pub record Pauses (b : Begun) (t : Tree) : Type 0 where
  pub at_end_of_text : at_end b ≡ ended t
  pub at_comma : progress b (mark 44) ≡ ended t
  pub at_bar : progress b (mark 124) ≡ ended t
  pub at_close : progress b (mark 41) ≡ ended t

module _ (outer : List Level) (l : Level) where
  paused-mark : (b : Begun) (t : Tree) (c : ℕ) (ts : List Token) → progress b (mark c) ≡ ended t → result_of (state outer l (Within b)) (mark c ∷ ts) ≡ result_of (having_one outer l t) (mark c ∷ ts)
  unfolding step
  paused-mark b t c ts e = ap (λ n. let r : Option Tree = elim (step_progress outer l (mark c) n) [ goes u ↦ result_of u ts | stops kind ↦ None ] in r) e

  paused-at : (b : Begun) (t : Tree) (c : ℕ) (ts : List Token) → Pauses b t → (c ≡ 44) ⊎ ((c ≡ 124) ⊎ (c ≡ 41)) → progress b (mark c) ≡ ended t
  paused-at b t c ts p (inl e) = ap (λ n. progress b (mark n)) e ∙ p.at_comma
  paused-at b t c ts p (inr (inl e)) = ap (λ n. progress b (mark n)) e ∙ p.at_bar
  paused-at b t c ts p (inr (inr e)) = ap (λ n. progress b (mark n)) e ∙ p.at_close

  paused-end : (b : Begun) (t : Tree) → at_end b ≡ ended t → result_of (state outer l (Within b)) [] ≡ result_of (having_one outer l t) []
  unfolding finish
  paused-end b t e = ap (λ n. tree_read (finish_progress 0 outer l n)) e

  pub paused : (b : Begun) (t : Tree) (ts : List Token) → Pauses b t → Follows ts → result_of (state outer l (Within b)) ts ≡ result_of (having_one outer l t) ts
  paused b t [] p f = paused-end b t p.at_end_of_text
  paused b t (mark c ∷ ts) p f = paused-mark b t c ts (paused-at b t c ts p f)
  paused b t (gap ∷ ts) p f = absurd f
  paused b t (word w ∷ ts) p f = absurd f
  paused b t (operator how ∷ ts) p f = absurd f
  paused b t (lone ∷ ts) p f = absurd f
  paused b t (quoted v ∷ ts) p f = absurd f
  paused b t (broken ∷ ts) p f = absurd f

  -- a term goes on
  pub on-word : (b c : Begun) (w : List ℕ) (ts : List Token) → progress b (word w) ≡ goes_on c → result_of (state outer l (Within b)) (word w ∷ ts) ≡ result_of (state outer l (Within c)) ts
  unfolding step
  on-word b c w ts e = ap (λ n. let r : Option Tree = elim (step_progress outer l (word w) n) [ goes u ↦ result_of u ts | stops kind ↦ None ] in r) e

  pub on-quoted : (b c : Begun) (w : List ℕ) (ts : List Token) → progress b (quoted w) ≡ goes_on c → result_of (state outer l (Within b)) (quoted w ∷ ts) ≡ result_of (state outer l (Within c)) ts
  unfolding step
  on-quoted b c w ts e = ap (λ n. let r : Option Tree = elim (step_progress outer l (quoted w) n) [ goes u ↦ result_of u ts | stops kind ↦ None ] in r) e

  pub on-operator : (b c : Begun) (how : Test) (ts : List Token) → progress b (operator how) ≡ goes_on c → result_of (state outer l (Within b)) (operator how ∷ ts) ≡ result_of (state outer l (Within c)) ts
  unfolding step
  on-operator b c how ts e = ap (λ n. let r : Option Tree = elim (step_progress outer l (operator how) n) [ goes u ↦ result_of u ts | stops kind ↦ None ] in r) e

  pub on-mark : (b c : Begun) (m : ℕ) (ts : List Token) → progress b (mark m) ≡ goes_on c → result_of (state outer l (Within b)) (mark m ∷ ts) ≡ result_of (state outer l (Within c)) ts
  unfolding step
  on-mark b c m ts e = ap (λ n. let r : Option Tree = elim (step_progress outer l (mark m) n) [ goes u ↦ result_of u ts | stops kind ↦ None ] in r) e

  pub ends-mark : (b : Begun) (t : Tree) (m : ℕ) (ts : List Token) → progress b (mark m) ≡ whole t → result_of (state outer l (Within b)) (mark m ∷ ts) ≡ result_of (having_one outer l t) ts
  unfolding step
  ends-mark b t m ts e = ap (λ n. let r : Option Tree = elim (step_progress outer l (mark m) n) [ goes u ↦ result_of u ts | stops kind ↦ None ] in r) e

  pub begins-word : (b : Begun) (w : List ℕ) (ts : List Token) → begun w ≡ goes_on b → result_of (state outer l Wanting) (word w ∷ ts) ≡ result_of (state outer l (Within b)) ts
  unfolding step step_wanting
  begins-word b w ts e = ap (λ n. let r : Option Tree = elim (step_progress outer l (word w) n) [ goes u ↦ result_of u ts | stops kind ↦ None ] in r) e

  pub whole-word : (t : Tree) (w : List ℕ) (ts : List Token) → begun w ≡ whole t → result_of (state outer l Wanting) (word w ∷ ts) ≡ result_of (having_one outer l t) ts
  unfolding step step_wanting
  whole-word t w ts e = ap (λ n. let r : Option Tree = elim (step_progress outer l (word w) n) [ goes u ↦ result_of u ts | stops kind ↦ None ] in r) e

pub pauses-package : (name : List ℕ) → Pauses (so_far.Package name) (wanted name None None)
unfolding progress at_end
pauses-package name = record { at_end_of_text = refl; at_comma = refl; at_bar = refl; at_close = refl }

pub pauses-related : (name : List ℕ) (asked : Relation) (version : List ℕ) → Pauses (so_far.Related name asked version) (wanted name (Some (asked, version)) None)
unfolding progress at_end
pauses-related name asked version = record { at_end_of_text = refl; at_comma = refl; at_bar = refl; at_close = refl }

pub pauses-field : (name : List ℕ) → Pauses (so_far.Field name) (field name None)
unfolding progress at_end
pauses-field name = record { at_end_of_text = refl; at_comma = refl; at_bar = refl; at_close = refl }

pub opened-version : (name version : List ℕ) → IsTrue (is_version version) → progress (so_far.PackageOpened name) (word version) ≡ goes_on (so_far.Versioned name relation.Equal version)
unfolding progress
opened-version name version v = ap (λ c. cond c (goes_on (so_far.Versioned name relation.Equal version)) (wrong QueryKind_is.BadVersion)) v

pub compared-version : (name : List ℕ) (asked : Relation) (version : List ℕ) → IsTrue (is_version version) → progress (so_far.Compared name asked) (word version) ≡ goes_on (so_far.Versioned name asked version)
unfolding progress
compared-version name asked version v = ap (λ c. cond c (goes_on (so_far.Versioned name asked version)) (wrong QueryKind_is.BadVersion)) v

operator-progress : (name : List ℕ) (how : Test) (asked : Relation) → relation_of how ≡ Some asked → progress (so_far.PackageOpened name) (operator how) ≡ goes_on (so_far.Compared name asked)
unfolding progress
operator-progress name how asked e = ap (λ o. compared name o) e

pub arch-progress : (name : List ℕ) (asked : Option (Relation × List ℕ)) (arch : List ℕ) → IsTrue (is_architecture arch) → progress (so_far.Braced name asked) (word arch) ≡ goes_on (so_far.Bound name asked arch)
unfolding progress
arch-progress name asked arch a = ap (λ c. cond c (goes_on (so_far.Bound name asked arch)) (wrong QueryKind_is.WantValue)) a

pub value-progress : (name : List ℕ) (how : Test) (p : Token) (value : List ℕ) → IsValue p value → IsTrue (may_test name how value) → progress (so_far.Tested name how) p ≡ goes_on (so_far.Valued name how value)
unfolding progress
value-progress name how p value (inl e) v = ap (λ q. value_at name how q) e ∙ ap (λ c. cond c (goes_on (so_far.Valued name how value)) (wrong QueryKind_is.BadVersion)) v
value-progress name how p value (inr e) v = ap (λ q. value_at name how q) e ∙ ap (λ c. cond c (goes_on (so_far.Valued name how value)) (wrong QueryKind_is.BadVersion)) v

pub opened-value : (name : List ℕ) (p : Token) (value : List ℕ) → IsValue p value → IsTrue (may_test name test.Equal value) → progress (so_far.FieldOpened name) p ≡ goes_on (so_far.Valued name test.Equal value)
unfolding progress
opened-value name p value (inl e) v = ap (λ q. test_at name q) e ∙ ap (λ c. cond c (goes_on (so_far.Valued name test.Equal value)) (wrong QueryKind_is.BadVersion)) v
opened-value name p value (inr e) v = ap (λ q. test_at name q) e ∙ ap (λ c. cond c (goes_on (so_far.Valued name test.Equal value)) (wrong QueryKind_is.BadVersion)) v

module _ (outer : List Level) (l : Level) where
  pub on-value : (b c : Begun) (p : Token) (value : List ℕ) (ts : List Token) → IsValue p value → progress b p ≡ goes_on c → result_of (state outer l (Within b)) (p ∷ ts) ≡ result_of (state outer l (Within c)) ts
  on-value b c p value ts (inl e) h =
      ap (λ q. result_of (state outer l (Within b)) (q ∷ ts)) e ∙ on-word outer l b c value ts (ap (λ q. progress b q) (sym e) ∙ h)
  on-value b c p value ts (inr e) h =
      ap (λ q. result_of (state outer l (Within b)) (q ∷ ts)) e ∙ on-quoted outer l b c value ts (ap (λ q. progress b q) (sym e) ∙ h)

  bound-takes : (b : Begun) (name : List ℕ) (asked : Option (Relation × List ℕ)) (arch : Option (List ℕ)) (back rest : List Token) → Pauses b (wanted name asked None) → progress b (mark 123) ≡ goes_on (so_far.Braced name asked) → Bound back arch → Follows rest → result_of (state outer l (Within b)) (back ++ rest) ≡ result_of (having_one outer l (wanted name asked arch)) rest
  unfolding progress
  bound-takes b name asked None back rest p q e f = ap (λ ts. result_of (state outer l (Within b)) (ts ++ rest)) e ∙ paused outer l b (wanted name asked None) rest p f
  bound-takes b name asked (Some arch) back rest p q (a, e) f =
      ap (λ ts. result_of (state outer l (Within b)) (ts ++ rest)) e
      ∙ on-mark outer l b (so_far.Braced name asked) 123 (word arch ∷ mark 125 ∷ rest) q
      ∙ on-word outer l (so_far.Braced name asked) (so_far.Bound name asked arch) arch (mark 125 ∷ rest) (arch-progress name asked arch a)
      ∙ ends-mark outer l (so_far.Bound name asked arch) (wanted name asked (Some arch)) 125 rest refl

  related-takes : (name : List ℕ) (asked : Relation) (version : List ℕ) (front rest : List Token) → Related front (Some (asked, version)) → result_of (state outer l (Within (so_far.Package name))) (front ++ rest) ≡ result_of (state outer l (Within (so_far.Related name asked version))) rest
  unfolding progress
  related-takes name asked version front rest (v, inl (r, e)) =
      ap (λ ts. result_of (state outer l (Within (so_far.Package name))) (ts ++ rest)) e
      ∙ on-mark outer l (so_far.Package name) (so_far.PackageOpened name) 40 (word version ∷ mark 41 ∷ rest) refl
      ∙ on-word outer l (so_far.PackageOpened name) (so_far.Versioned name relation.Equal version) version (mark 41 ∷ rest) (opened-version name version v)
      ∙ on-mark outer l (so_far.Versioned name relation.Equal version) (so_far.Related name relation.Equal version) 41 rest refl
      ∙ ap (λ a. result_of (state outer l (Within (so_far.Related name a version))) rest) (sym r)
  related-takes name asked version front rest (v, inr (how, r, e)) =
      ap (λ ts. result_of (state outer l (Within (so_far.Package name))) (ts ++ rest)) e
      ∙ on-mark outer l (so_far.Package name) (so_far.PackageOpened name) 40 (operator how ∷ word version ∷ mark 41 ∷ rest) refl
      ∙ on-operator outer l (so_far.PackageOpened name) (so_far.Compared name asked) how (word version ∷ mark 41 ∷ rest) (operator-progress name how asked r)
      ∙ on-word outer l (so_far.Compared name asked) (so_far.Versioned name asked version) version (mark 41 ∷ rest) (compared-version name asked version v)
      ∙ on-mark outer l (so_far.Versioned name asked version) (so_far.Related name asked version) 41 rest refl

  wanted-takes : (name : List ℕ) (asked : Option (Relation × List ℕ)) (arch : Option (List ℕ)) (front back rest : List Token) → Related front asked → Bound back arch → Follows rest → result_of (state outer l (Within (so_far.Package name))) (front ++ (back ++ rest)) ≡ result_of (having_one outer l (wanted name asked arch)) rest
  unfolding progress
  wanted-takes name None arch front back rest r b f =
      ap (λ ts. result_of (state outer l (Within (so_far.Package name))) (ts ++ (back ++ rest))) r
      ∙ bound-takes (so_far.Package name) name None arch back rest (pauses-package name) refl b f
  wanted-takes name (Some (asked, version)) arch front back rest r b f =
      related-takes name asked version front (back ++ rest) r
      ∙ bound-takes (so_far.Related name asked version) name (Some (asked, version)) arch back rest (pauses-related name asked version) refl b f

  tested-takes : (name : List ℕ) (how : Option (Test × List ℕ)) (back rest : List Token) → Tested name back how → Follows rest → result_of (state outer l (Within (so_far.Field name))) (back ++ rest) ≡ result_of (having_one outer l (field name how)) rest
  unfolding progress
  tested-takes name None back rest e f = ap (λ ts. result_of (state outer l (Within (so_far.Field name))) (ts ++ rest)) e ∙ paused outer l (so_far.Field name) (field name None) rest (pauses-field name) f
  tested-takes name (Some (how, value)) back rest (v, p, is, inl (r, e)) f =
      ap (λ ts. result_of (state outer l (Within (so_far.Field name))) (ts ++ rest)) e
      ∙ on-mark outer l (so_far.Field name) (so_far.FieldOpened name) 40 (p ∷ mark 41 ∷ rest) refl
      ∙ on-value (so_far.FieldOpened name) (so_far.Valued name how value) p value (mark 41 ∷ rest) is (subst (λ h. progress (so_far.FieldOpened name) p ≡ goes_on (so_far.Valued name h value)) (sym r) (opened-value name p value is (subst (λ h. IsTrue (may_test name h value)) r v)))
      ∙ ends-mark outer l (so_far.Valued name how value) (field name (Some (how, value))) 41 rest refl
  tested-takes name (Some (how, value)) back rest (v, p, is, inr e) f =
      ap (λ ts. result_of (state outer l (Within (so_far.Field name))) (ts ++ rest)) e
      ∙ on-mark outer l (so_far.Field name) (so_far.FieldOpened name) 40 (operator how ∷ p ∷ mark 41 ∷ rest) refl
      ∙ on-operator outer l (so_far.FieldOpened name) (so_far.Tested name how) how (p ∷ mark 41 ∷ rest) refl
      ∙ on-value (so_far.Tested name how) (so_far.Valued name how value) p value (mark 41 ∷ rest) is (value-progress name how p value is v)
      ∙ ends-mark outer l (so_far.Valued name how value) (field name (Some (how, value))) 41 rest refl

  pub term-takes : (ps rest : List Token) (t : Tree) → Term ps t → Follows rest → result_of (state outer l Wanting) (ps ++ rest) ≡ result_of (having_one outer l t) rest
  term-takes ps rest (reference name version arch) (text, r, e) f =
      ap (λ ts. result_of (state outer l Wanting) (ts ++ rest)) e ∙ whole-word outer l (reference name version arch) text rest (begun-reference text name version arch r)
  term-takes ps rest (wanted name asked arch) (n, front, back, r, b, e) f =
      ap (λ ts. result_of (state outer l Wanting) (ts ++ rest)) e
      ∙ begins-word outer l (so_far.Package name) name ((front ++ back) ++ rest) (begun-package name n)
      ∙ ap (λ ts. result_of (state outer l (Within (so_far.Package name))) ts) (append_assoc front back rest)
      ∙ wanted-takes name asked arch front back rest r b f
  term-takes ps rest (field name how) (n, back, t, e) f =
      ap (λ ts. result_of (state outer l Wanting) (ts ++ rest)) e
      ∙ begins-word outer l (so_far.Field name) name (back ++ rest) (begun-field name n)
      ∙ tested-takes name how back rest t f
  term-takes ps rest (any ts) h f = absurd h
  term-takes ps rest (all ts) h f = absurd h
  term-takes ps rest (negated t) h f = absurd h

-- a state takes whatever spells a member, in so many levels
abbrev Takes : (List Token → Tree → Type 0) → ℕ → Type 0
Takes Item n = (outer : List Level) (l : Level) (ps rest : List Token) (t : Tree) → n ≤ l.room → Item ps t → Follows rest → result_of (state outer l Wanting) (ps ++ rest) ≡ result_of (having_one outer l t) rest

abbrev level_of : List Tree → List Tree → ℕ → Level
level_of alternatives members room = record { alternatives = alternatives; members = members; negations = 0; room = room }

-- a `,`, a `|` or a `)` behind a whole member
pub comma : (outer : List Level) (l : Level) (ts : List Token) → result_of (state outer l Having) (mark 44 ∷ ts) ≡ result_of (state outer l Wanting) ts
unfolding step step_having
comma outer l ts = refl

pub bar : (outer : List Level) (l : Level) (ts : List Token) → result_of (state outer l Having) (mark 124 ∷ ts) ≡ result_of (state outer (with_alternative l) Wanting) ts
unfolding step step_having
bar outer l ts = refl

pub close : (outer : List Level) (o l : Level) (ts : List Token) → result_of (state (o ∷ outer) l Having) (mark 41 ∷ ts) ≡ result_of (having_one outer o (whole_level l)) ts
unfolding step step_having
close outer o l ts = refl

module _ (Item : List Token → Tree → Type 0) (n : ℕ) (takes : Takes Item n) where
  -- one member more
  member : (outer : List Level) (before members : List Tree) (room : ℕ) (ps rest : List Token) (t : Tree) → n ≤ room → Item ps t → Follows rest → result_of (state outer (level_of before members room) Wanting) (ps ++ rest) ≡ result_of (state outer (level_of before (members ++ t ∷ []) room) Having) rest
  member outer before members room ps rest t fits h f =
      takes outer (level_of before members room) ps rest t fits h f
      ∙ ap (λ k. result_of (state outer (level_of before (members ++ t ∷ []) k) Having) rest) (add-zero room)

  members-followed : (ts : List Tree) (outer : List Level) (before members : List Tree) (room : ℕ) (ps rest : List Token) → n ≤ room → Followed 44 Item ps ts → result_of (state outer (level_of before members room) Wanting) (ps ++ rest) ≡ result_of (state outer (level_of before (members ++ ts) room) Wanting) rest
  members-followed [] outer before members room ps rest fits e =
      ap (λ qs. result_of (state outer (level_of before members room) Wanting) (qs ++ rest)) e
      ∙ ap (λ ms. result_of (state outer (level_of before ms room) Wanting) rest) (sym (append-nil members))
  members-followed (t ∷ ts) outer before members room ps rest fits (front, back, e, h, more) =
      ap (λ qs. result_of (state outer (level_of before members room) Wanting) qs) (ap (λ qs. qs ++ rest) e ∙ append_assoc front (mark 44 ∷ back) rest)
      ∙ member outer before members room front (mark 44 ∷ (back ++ rest)) t fits h (inl refl)
      ∙ comma outer (level_of before (members ++ t ∷ []) room) (back ++ rest)
      ∙ members-followed ts outer before (members ++ t ∷ []) room back rest fits more
      ∙ ap (λ ms. result_of (state outer (level_of before ms room) Wanting) rest) (append_assoc members (t ∷ []) ts)

  all-takes : (outer : List Level) (before : List Tree) (room : ℕ) (ps rest : List Token) (ts : List Tree) → n ≤ room → Between 44 Item ps ts → Follows rest → result_of (state outer (level_of before [] room) Wanting) (ps ++ rest) ≡ result_of (state outer (level_of before ts room) Having) rest
  all-takes outer before room ps rest ts fits b f =
      ap (λ qs. result_of (state outer (level_of before [] room) Wanting) qs) (ap (λ qs. qs ++ rest) b.split ∙ append_assoc b.front b.last rest)
      ∙ members-followed b.firsts outer before [] room b.front (b.last ++ rest) fits b.each
      ∙ member outer before b.firsts room b.last rest b.final fits b.end f
      ∙ ap (λ ms. result_of (state outer (level_of before ms room) Having) rest) (sym b.trees)

  alternatives-followed : (ts : List Tree) (outer : List Level) (before : List Tree) (room : ℕ) (ps rest : List Token) → n ≤ room → Followed 124 (AllOf Item) ps ts → result_of (state outer (level_of before [] room) Wanting) (ps ++ rest) ≡ result_of (state outer (level_of (before ++ ts) [] room) Wanting) rest
  alternatives-followed [] outer before room ps rest fits e =
      ap (λ qs. result_of (state outer (level_of before [] room) Wanting) (qs ++ rest)) e
      ∙ ap (λ ms. result_of (state outer (level_of ms [] room) Wanting) rest) (sym (append-nil before))
  alternatives-followed (t ∷ ts) outer before room ps rest fits (front, back, e, (us, b, made), more) =
      ap (λ qs. result_of (state outer (level_of before [] room) Wanting) qs) (ap (λ qs. qs ++ rest) e ∙ append_assoc front (mark 124 ∷ back) rest)
      ∙ all-takes outer before room front (mark 124 ∷ (back ++ rest)) us fits b (inr (inl refl))
      ∙ bar outer (level_of before us room) (back ++ rest)
      ∙ ap (λ u. result_of (state outer (level_of (before ++ u ∷ []) [] room) Wanting) (back ++ rest)) (sym made)
      ∙ alternatives-followed ts outer (before ++ t ∷ []) room back rest fits more
      ∙ ap (λ ms. result_of (state outer (level_of ms [] room) Wanting) rest) (append_assoc before (t ∷ []) ts)

  -- the level that is whole behind an `any`
  any-takes : (outer : List Level) (room : ℕ) (ps : List Token) (t : Tree) → n ≤ room → AnyOf Item ps t → (l : Level) × (whole_level l ≡ t) × ((rest : List Token) → Follows rest → result_of (state outer (empty_level room) Wanting) (ps ++ rest) ≡ result_of (state outer l Having) rest)
  any-takes outer room ps t fits (ts, b, made) = (
    level_of b.firsts b.end.0 room,
    ap (λ u. any_of (b.firsts ++ u ∷ [])) (sym b.end.2) ∙ ap any_of (sym b.trees) ∙ sym made,
    λ rest f.
        ap (λ qs. result_of (state outer (empty_level room) Wanting) qs) (ap (λ qs. qs ++ rest) b.split ∙ append_assoc b.front b.last rest)
        ∙ alternatives-followed b.firsts outer [] room b.front (b.last ++ rest) fits b.each
        ∙ all-takes outer b.firsts room b.last rest b.end.0 fits b.end.1 f,
  )

negate-inside : (n : ℕ) (t : Tree) → negate n (negated t) ≡ negated (negate n t)
negate-inside zero t = refl
negate-inside (suc n) t = ap negated (negate-inside n t)

room-below : (n room : ℕ) → suc n ≤ room → (r : ℕ) × (room ≡ suc r) × (n ≤ r)
room-below n zero h = absurd (omega arith)
room-below n (suc r) h = (r, refl, omega arith)

negation : (outer : List Level) (l : Level) (r : ℕ) (ts : List Token) → l.room ≡ suc r → result_of (state outer l Wanting) (mark 33 ∷ ts) ≡ result_of (state outer (record { alternatives = l.alternatives; members = l.members; negations = suc l.negations; room = r }) Wanting) ts
unfolding step step_wanting
negation outer l r ts e = ap (λ n. let read : Option Tree = elim (begin_negation outer l n) [ goes u ↦ result_of u ts | stops kind ↦ None ] in read) e

group : (outer : List Level) (l : Level) (r : ℕ) (ts : List Token) → l.room ≡ suc r → result_of (state outer l Wanting) (mark 40 ∷ ts) ≡ result_of (state (l ∷ outer) (empty_level r) Wanting) ts
unfolding step step_wanting
group outer l r ts e = ap (λ n. let read : Option Tree = elim (begin_group outer l n) [ goes u ↦ result_of u ts | stops kind ↦ None ] in read) e

negated-member : (outer : List Level) (l : Level) (r : ℕ) (u : Tree) (rest : List Token) → l.room ≡ suc r → result_of (having_one outer (record { alternatives = l.alternatives; members = l.members; negations = suc l.negations; room = r }) u) rest ≡ result_of (having_one outer l (negated u)) rest
negated-member outer l r u rest e =
    let same_room : r + suc l.negations ≡ l.room + l.negations = omega arith in
    λ i. result_of (state outer (level_of l.alternatives (l.members ++ sym (negate-inside l.negations u) i ∷ []) (same_room i)) Having) rest

pub One-takes : (n : ℕ) → Takes (One n) n
One-takes zero outer l ps rest t fits h f = term-takes outer l ps rest t h f
One-takes (suc n) outer l ps rest t fits (inl h) f = term-takes outer l ps rest t h f
One-takes (suc n) outer l ps rest t fits (inr (inl (inner, u, e, made, h))) f =
    let (r, rooms, below) = room-below n l.room fits in
    ap (λ qs. result_of (state outer l Wanting) (qs ++ rest)) e
    ∙ negation outer l r (inner ++ rest) rooms
    ∙ One-takes n outer (record { alternatives = l.alternatives; members = l.members; negations = suc l.negations; room = r }) inner rest u below h f
    ∙ negated-member outer l r u rest rooms
    ∙ ap (λ v. result_of (having_one outer l v) rest) (sym made)
One-takes (suc n) outer l ps rest t fits (inr (inr (inner, e, h))) f =
    let (r, rooms, below) = room-below n l.room fits in
    let (whole_one, same, reads) = any-takes (One n) n (One-takes n) (l ∷ outer) r inner t below h in
    ap (λ qs. result_of (state outer l Wanting) (qs ++ rest)) e
    ∙ group outer l r ((inner ++ mark 41 ∷ []) ++ rest) rooms
    ∙ ap (λ qs. result_of (state (l ∷ outer) (empty_level r) Wanting) qs) (append_assoc inner (mark 41 ∷ []) rest)
    ∙ reads (mark 41 ∷ rest) (inr (inr refl))
    ∙ close outer l whole_one rest
    ∙ ap (λ v. result_of (having_one outer l v) rest) same

finished : (l : Level) → result_of (state [] l Having) [] ≡ Some (whole_level l)
unfolding finish
finished l = refl

pub any-result : (most : ℕ) (ps : List Token) (t : Tree) → AnyOf (One most) ps t → result_of (start most) ps ≡ Some t
any-result most ps t h =
    let (l, same, reads) = any-takes (One most) most (One-takes most) [] most ps t (omega arith) h in
    ap (λ qs. result_of (start most) qs) (sym (append-nil ps)) ∙ reads [] tt ∙ finished l ∙ ap (λ u. Some u) same

-- tokens without gaps read as the pieces do
pub behind-result : (s : State) (p : Token) (ts : List Token) → result_of s (behind p ts) ≡ (let r : Option Tree = elim (step s p) [ goes u ↦ result_of u ts | stops kind ↦ None ] in r)
unfolding step
behind-result s gap ts = refl
behind-result s p ts = refl

having-anywhere : (at : ℕ) (outer : List Level) (l : Level) → tree_read (finish_having at outer l) ≡ tree_read (finish_having 0 outer l)
having-anywhere at [] l = refl
having-anywhere at (o ∷ os) l = refl

progress-anywhere : (at : ℕ) (outer : List Level) (l : Level) (next : Progress) → tree_read (finish_progress at outer l next) ≡ tree_read (finish_progress 0 outer l next)
progress-anywhere at outer l (goes_on b) = refl
progress-anywhere at outer l (whole t) = having-anywhere at outer (with_member l t)
progress-anywhere at outer l (ended t) = having-anywhere at outer (with_member l t)
progress-anywhere at outer l (wrong kind) = refl

finish-anywhere : (at : ℕ) (outer : List Level) (l : Level) (next : Next) → tree_read (finish at (state outer l next)) ≡ tree_read (finish 0 (state outer l next))
unfolding finish
finish-anywhere at outer l Wanting = refl
finish-anywhere at outer l Having = having-anywhere at outer l
finish-anywhere at outer l (Within b) = progress-anywhere at outer l (at_end b)

tree-read : (r : Reading) (t : Tree) → tree_read r ≡ Some t → r ≡ tree t
tree-read (tree u) t e = cc
tree-read (fault at kind) t e = cc

result-run-step : (place at : ℕ) (ps : List Piece) (t : Tree) (n : Step) → ((s : State) → result_of s (tokens ps) ≡ Some t → run at s ps ≡ tree t) → (let r : Option Tree = elim n [ goes u ↦ result_of u (tokens ps) | stops kind ↦ None ] in r) ≡ Some t → (let r : Reading = elim n [ goes u ↦ run at u ps | stops kind ↦ fault place kind ] in r) ≡ tree t
result-run-step place at ps t (goes s) again h = again s h
result-run-step place at ps t (stops kind) again h = cc

pub result-run : (ps : List Piece) (at : ℕ) (s : State) (t : Tree) → result_of s (tokens ps) ≡ Some t → run at s ps ≡ tree t
result-run [] at s t h = tree-read (finish at s) t (finish-anywhere at s.outer s.level s.next ∙ h)
result-run (p ∷ ps) at s t h =
    let here = token p.shape p.bytes in
    result-run-step at (at + length p.bytes) ps t (step s here) (λ u g. result-run ps (at + length p.bytes) u t g) (sym (behind-result s here (tokens ps)) ∙ h)
