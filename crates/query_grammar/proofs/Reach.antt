-- Where the reader stands behind the pieces that it read, and what may follow there.
use Rattle.std.proofs.Common.{◌≡◌, ℕ, suc, zero, ◌==◌, Bool, true, false, cond, List, [], ◌∷◌, ◌++◌, Option, Some, None, refl, sym, ap, ◌∙◌, subst}
use Rattle.std.proofs.lemmas.Bool.{eqb-true}
use Rattle.ap_text.specs.Names.{is_architecture}
use Rattle.deb_version.specs.declared.order.Relation.{Relation}
use Rattle.query_tree.specs.declared.piece.Place.{Place}
use Rattle.query_tree.specs.declared.piece.Place.TheVariants.{Outside, BehindWord, Opening, Inside}
use Rattle.query_tree.specs.declared.piece.Shape.{Shape}
use Rattle.query_tree.specs.declared.piece.Shape.TheVariants.{Blank, Word, Operator, Lone, Quoted, Broken, Mark}
use Rattle.query_tree.specs.declared.query.Test.{Test}
use Rattle.query_tree.specs.declared.query.Test.TheVariants as test
use Rattle.deb_version.specs.declared.order.Relation.TheVariants as relation
use Rattle.query_grammar.specs.declared.term.Begun.{Begun}
use Rattle.query_grammar.specs.declared.term.Begun.TheVariants as so_far
use Rattle.query_grammar.specs.declared.level.Next.{Next}
use Rattle.query_grammar.specs.declared.level.Next.TheVariants.{Wanting, Having, Within}
use Rattle.query_tree.specs.Tree.{wanted, field}
use Rattle.query_tree.specs.Pieces.{Piece, token, is_blank, next_place, quoted_value}
use Rattle.deb_version.specs.VersionText.{is_version}
use Rattle.query_tree.specs.Words.{is_package, is_field, relation_of, may_test}
use Rattle.query_grammar.specs.Reading.{Progress, goes_on, whole, ended, wrong, progress, braces_or, compared, version_at, relation_at, value_at, test_at, arch_at, closed_by, package_at, field_at, begun, is_reference, Level, State, Step, goes, stops, with_member, closed_group, step_having, step_progress, begin_negation, begin_group, step_wanting, step_next, step}
use Rattle.query_tree.proofs.Lexing.{IsOuter, NotFirst, Separates}
use Rattle.query_tree.proofs.Fronts.{LastSeparates}

-- behind these pieces a word may begin
abbrev pub Open : List Piece → Type 0
Open front = (rest : List ℕ) → NotFirst is_blank rest → LastSeparates front rest

-- where a term that has begun may stand
abbrev pub BegunAt : Begun → Place → List Piece → Type 0
BegunAt (so_far.Package name) place front = place ≡ BehindWord
BegunAt (so_far.PackageOpened name) place front = (place ≡ Opening) × Open front
BegunAt (so_far.Compared name asked) place front = (place ≡ Inside) × Open front
BegunAt (so_far.Versioned name asked version) place front = place ≡ Inside
BegunAt (so_far.Related name asked version) place front = place ≡ Outside
BegunAt (so_far.Braced name asked) place front = (place ≡ Outside) × Open front
BegunAt (so_far.Bound name asked arch) place front = place ≡ BehindWord
BegunAt (so_far.Field name) place front = place ≡ BehindWord
BegunAt (so_far.FieldOpened name) place front = (place ≡ Opening) × Open front
BegunAt (so_far.Tested name how) place front = (place ≡ Inside) × Open front
BegunAt (so_far.Valued name how value) place front = place ≡ Inside

abbrev pub NextAt : Next → Place → List Piece → Type 0
NextAt Wanting place front = (place ≡ Outside) × Open front
NextAt Having place front = IsOuter place
NextAt (Within b) place front = BegunAt b place front

-- the same behind a piece that makes this of a term; where the term had ended, before the piece
abbrev ProgressAt : Place → Progress → Place → List Piece → Type 0
ProgressAt before (goes_on b) place front = BegunAt b place front
ProgressAt before (whole t) place front = IsOuter place
ProgressAt before (ended t) place front = IsOuter before
ProgressAt before (wrong kind) place front = Unit {0}

abbrev pub StepAt : Step → Place → List Piece → Type 0
StepAt (goes s) place front = NextAt s.next place front
StepAt (stops kind) place front = Unit {0}

ProgressAt-if : (before : Place) (c : Bool) (here there : Progress) (place : Place) (front : List Piece) → (c ≡ true → ProgressAt before here place front) → (c ≡ false → ProgressAt before there place front) → ProgressAt before (cond c here there) place front
ProgressAt-if before true here there place front h g = h refl
ProgressAt-if before false here there place front h g = g refl

StepAt-if : (c : Bool) (here there : Step) (place : Place) (front : List Piece) → (c ≡ true → StepAt here place front) → (c ≡ false → StepAt there place front) → StepAt (cond c here there) place front
StepAt-if true here there place front h g = h refl
StepAt-if false here there place front h g = g refl

pub LastSeparates-push : (front : List Piece) (p : Piece) (rest : List ℕ) → Separates p.shape rest → LastSeparates (front ++ p ∷ []) rest
LastSeparates-push [] p rest h = h
LastSeparates-push (q ∷ []) p rest h = h
LastSeparates-push (q ∷ r ∷ qs) p rest h = LastSeparates-push (r ∷ qs) p rest h

open-mark : (front : List Piece) (c : ℕ) (bytes : List ℕ) → Open (front ++ record { shape = Mark c; bytes = bytes } ∷ [])
open-mark front c bytes rest n = LastSeparates-push front (record { shape = Mark c; bytes = bytes }) rest tt

open-operator : (front : List Piece) (how : Test) (bytes : List ℕ) → Open (front ++ record { shape = Operator how; bytes = bytes } ∷ [])
open-operator front how bytes rest n = LastSeparates-push front (record { shape = Operator how; bytes = bytes }) rest tt

open-blank : (front : List Piece) (bytes : List ℕ) → Open (front ++ record { shape = Blank; bytes = bytes } ∷ [])
open-blank front bytes rest n = LastSeparates-push front (record { shape = Blank; bytes = bytes }) rest n

outer-blank : (place : Place) → IsOuter place → next_place place Blank ≡ place
outer-blank Outside h = refl
outer-blank BehindWord h = refl
outer-blank Opening h = absurd h
outer-blank Inside h = absurd h

-- a run of blanks changes nothing
begun-blank : (b : Begun) (place : Place) (front : List Piece) (bytes : List ℕ) → BegunAt b place front → BegunAt b (next_place place Blank) (front ++ record { shape = Blank; bytes = bytes } ∷ [])
begun-blank (so_far.Package name) place front bytes h = ap (λ q. next_place q Blank) h
begun-blank (so_far.PackageOpened name) place front bytes h = (ap (λ q. next_place q Blank) h.0, open-blank front bytes)
begun-blank (so_far.Compared name asked) place front bytes h = (ap (λ q. next_place q Blank) h.0, open-blank front bytes)
begun-blank (so_far.Versioned name asked version) place front bytes h = ap (λ q. next_place q Blank) h
begun-blank (so_far.Related name asked version) place front bytes h = ap (λ q. next_place q Blank) h
begun-blank (so_far.Braced name asked) place front bytes h = (ap (λ q. next_place q Blank) h.0, open-blank front bytes)
begun-blank (so_far.Bound name asked arch) place front bytes h = ap (λ q. next_place q Blank) h
begun-blank (so_far.Field name) place front bytes h = ap (λ q. next_place q Blank) h
begun-blank (so_far.FieldOpened name) place front bytes h = (ap (λ q. next_place q Blank) h.0, open-blank front bytes)
begun-blank (so_far.Tested name how) place front bytes h = (ap (λ q. next_place q Blank) h.0, open-blank front bytes)
begun-blank (so_far.Valued name how value) place front bytes h = ap (λ q. next_place q Blank) h

next-blank : (next : Next) (place : Place) (front : List Piece) (bytes : List ℕ) → NextAt next place front → NextAt next (next_place place Blank) (front ++ record { shape = Blank; bytes = bytes } ∷ [])
next-blank Wanting place front bytes h = (ap (λ q. next_place q Blank) h.0, open-blank front bytes)
next-blank Having place front bytes h = subst IsOuter (sym (outer-blank place h)) h
next-blank (Within b) place front bytes h = begun-blank b place front bytes h

-- where the text behind a mark stands
behind-open : (place : Place) (c : ℕ) → place ≡ BehindWord → (c == 40) ≡ true → next_place place (Mark c) ≡ Opening
behind-open place c e h = ap (λ q. next_place q (Mark c)) e ∙ ap (λ b. cond b Opening Outside) h

behind-other : (place : Place) (c : ℕ) → place ≡ BehindWord → (c == 40) ≡ false → next_place place (Mark c) ≡ Outside
behind-other place c e h = ap (λ q. next_place q (Mark c)) e ∙ ap (λ b. cond b Opening Outside) h

outside-mark : (place : Place) (c : ℕ) → place ≡ Outside → next_place place (Mark c) ≡ Outside
outside-mark place c e = ap (λ q. next_place q (Mark c)) e

inside-close : (place : Place) (c : ℕ) → place ≡ Inside → (c == 41) ≡ true → next_place place (Mark c) ≡ Outside
inside-close place c e h = ap (λ q. next_place q (Mark c)) e ∙ ap (λ b. cond b Outside Inside) h

outer-mark : (place : Place) (c d : ℕ) → IsOuter place → (c == d) ≡ true → (d == 40) ≡ false → next_place place (Mark c) ≡ Outside
outer-mark Outside c d h e n = refl
outer-mark BehindWord c d h e n = ap (λ b. cond b Opening Outside) (ap (λ m. m == 40) (eqb-true c d e) ∙ n)
outer-mark Opening c d h e n = absurd h
outer-mark Inside c d h e n = absurd h

braces-at : (name : List ℕ) (asked : Option (Relation × List ℕ)) (p : Piece) (place : Place) (front : List Piece) → IsOuter place → ((c : ℕ) → p.shape ≡ Mark c → (c == 123) ≡ true → (next_place place p.shape ≡ Outside) × Open (front ++ p ∷ [])) → ProgressAt place (braces_or name asked (token p.shape p.bytes)) (next_place place p.shape) (front ++ p ∷ [])
braces-at name asked p place front o h = go p.shape refl
  where
    go : (shape : Shape) → p.shape ≡ shape → ProgressAt place (braces_or name asked (token shape p.bytes)) (next_place place p.shape) (front ++ p ∷ [])
    go (Mark c) e = ProgressAt-if place (c == 123) _ _ _ _ (λ f. h c e f) (λ _. o)
    go Blank e = o
    go Word e = o
    go (Operator how) e = o
    go Lone e = o
    go Quoted e = o
    go Broken e = o

abbrev piece : Shape → List ℕ → Piece
piece shape bytes = record { shape = shape; bytes = bytes }

module _ (front : List Piece) (bytes : List ℕ) where
  version-at : (name : List ℕ) (asked : Relation) (place : Place) (shape : Shape) → next_place place Word ≡ Inside → ProgressAt place (version_at name asked (token shape bytes)) (next_place place shape) (front ++ piece shape bytes ∷ [])
  version-at name asked place Word e = ProgressAt-if place (is_version bytes) _ _ _ _ (λ _. e) (λ _. tt)
  version-at name asked place Quoted e = tt
  version-at name asked place Broken e = tt
  version-at name asked place Blank e = tt
  version-at name asked place (Operator how) e = tt
  version-at name asked place Lone e = tt
  version-at name asked place (Mark c) e = tt

  compared-at : (name : List ℕ) (asked : Option Relation) (how : Test) (place : Place) → next_place place (Operator how) ≡ Inside → ProgressAt place (compared name asked) (next_place place (Operator how)) (front ++ piece (Operator how) bytes ∷ [])
  compared-at name None how place e = tt
  compared-at name (Some asked) how place e = (e, open-operator front how bytes)

  value-at : (name : List ℕ) (how : Test) (place : Place) (shape : Shape) → next_place place Word ≡ Inside → next_place place Quoted ≡ Inside → ProgressAt place (value_at name how (token shape bytes)) (next_place place shape) (front ++ piece shape bytes ∷ [])
  value-at name how place Word e f = ProgressAt-if place (may_test name how bytes) _ _ _ _ (λ _. e) (λ _. tt)
  value-at name how place Quoted e f = ProgressAt-if place (may_test name how (quoted_value bytes)) _ _ _ _ (λ _. f) (λ _. tt)
  value-at name how place Broken e f = tt
  value-at name how place Blank e f = tt
  value-at name how place (Operator other) e f = tt
  value-at name how place Lone e f = tt
  value-at name how place (Mark c) e f = tt

  relation-at : (name : List ℕ) (place : Place) (shape : Shape) → place ≡ Opening → ProgressAt place (relation_at name (token shape bytes)) (next_place place shape) (front ++ piece shape bytes ∷ [])
  relation-at name place (Operator how) e = compared-at name (relation_of how) how place (ap (λ q. next_place q (Operator how)) e)
  relation-at name place Lone e = tt
  relation-at name place Word e = version-at name relation.Equal place Word (ap (λ q. next_place q Word) e)
  relation-at name place Quoted e = tt
  relation-at name place Broken e = tt
  relation-at name place Blank e = tt
  relation-at name place (Mark c) e = tt

  test-at : (name : List ℕ) (place : Place) (shape : Shape) → place ≡ Opening → ProgressAt place (test_at name (token shape bytes)) (next_place place shape) (front ++ piece shape bytes ∷ [])
  test-at name place (Operator how) e = (ap (λ q. next_place q (Operator how)) e, open-operator front how bytes)
  test-at name place Lone e = tt
  test-at name place Word e = value-at name test.Equal place Word (ap (λ q. next_place q Word) e) (ap (λ q. next_place q Quoted) e)
  test-at name place Quoted e = value-at name test.Equal place Quoted (ap (λ q. next_place q Word) e) (ap (λ q. next_place q Quoted) e)
  test-at name place Broken e = tt
  test-at name place Blank e = tt
  test-at name place (Mark c) e = tt

  arch-at : (name : List ℕ) (asked : Option (Relation × List ℕ)) (place : Place) (shape : Shape) → place ≡ Outside → ProgressAt place (arch_at name asked (token shape bytes)) (next_place place shape) (front ++ piece shape bytes ∷ [])
  arch-at name asked place Word e = ProgressAt-if place (is_architecture bytes) _ _ _ _ (λ _. ap (λ q. next_place q Word) e) (λ _. tt)
  arch-at name asked place Quoted e = tt
  arch-at name asked place Broken e = tt
  arch-at name asked place Blank e = tt
  arch-at name asked place (Operator how) e = tt
  arch-at name asked place Lone e = tt
  arch-at name asked place (Mark c) e = tt

  closed-at : (c : ℕ) (next : Progress) (place : Place) (shape : Shape) → ((d : ℕ) → (d == c) ≡ true → ProgressAt place next (next_place place (Mark d)) (front ++ piece (Mark d) bytes ∷ [])) → ProgressAt place (closed_by c next (token shape bytes)) (next_place place shape) (front ++ piece shape bytes ∷ [])
  closed-at c next place (Mark d) h = ProgressAt-if place (d == c) _ _ _ _ (λ e. h d e) (λ _. tt)
  closed-at c next place Word h = tt
  closed-at c next place Quoted h = tt
  closed-at c next place Broken h = tt
  closed-at c next place Blank h = tt
  closed-at c next place (Operator how) h = tt
  closed-at c next place Lone h = tt

  outer-is : (place other : Place) → place ≡ other → IsOuter other → IsOuter place
  outer-is place other e h = subst IsOuter (sym e) h

  package-at : (name : List ℕ) (place : Place) (shape : Shape) → place ≡ BehindWord → ProgressAt place (package_at name (token shape bytes)) (next_place place shape) (front ++ piece shape bytes ∷ [])
  package-at name place (Mark c) e =
      ProgressAt-if place (c == 40) _ _ _ _ (λ h. (behind-open place c e h, open-mark front c bytes))
      (λ n. ProgressAt-if place (c == 123) _ _ _ _ (λ _. (behind-other place c e n, open-mark front c bytes)) (λ _. outer-is place BehindWord e tt))
  package-at name place Word e = outer-is place BehindWord e tt
  package-at name place Quoted e = outer-is place BehindWord e tt
  package-at name place Broken e = outer-is place BehindWord e tt
  package-at name place Blank e = outer-is place BehindWord e tt
  package-at name place (Operator how) e = outer-is place BehindWord e tt
  package-at name place Lone e = outer-is place BehindWord e tt

  field-at : (name : List ℕ) (place : Place) (shape : Shape) → place ≡ BehindWord → ProgressAt place (field_at name (token shape bytes)) (next_place place shape) (front ++ piece shape bytes ∷ [])
  field-at name place (Mark c) e =
      ProgressAt-if place (c == 40) _ _ _ _ (λ h. (behind-open place c e h, open-mark front c bytes)) (λ _. outer-is place BehindWord e tt)
  field-at name place Word e = outer-is place BehindWord e tt
  field-at name place Quoted e = outer-is place BehindWord e tt
  field-at name place Broken e = outer-is place BehindWord e tt
  field-at name place Blank e = outer-is place BehindWord e tt
  field-at name place (Operator how) e = outer-is place BehindWord e tt
  field-at name place Lone e = outer-is place BehindWord e tt

  progress-at : (b : Begun) (place : Place) (shape : Shape) → BegunAt b place front → ProgressAt place (progress b (token shape bytes)) (next_place place shape) (front ++ piece shape bytes ∷ [])
  unfolding progress
  progress-at (so_far.Package name) place shape h = package-at name place shape h
  progress-at (so_far.PackageOpened name) place shape h = relation-at name place shape h.0
  progress-at (so_far.Compared name asked) place shape h = version-at name asked place shape (ap (λ q. next_place q Word) h.0)
  progress-at (so_far.Versioned name asked version) place shape h = closed-at 41 (goes_on (so_far.Related name asked version)) place shape (λ d e. inside-close place d h e)
  progress-at (so_far.Related name asked version) place shape h = braces-at name (Some (asked, version)) (piece shape bytes) place front (outer-is place Outside h tt) (λ c e f. (ap (λ k. next_place place k) e ∙ outside-mark place c h, subst (λ k. Open (front ++ piece k bytes ∷ [])) (sym e) (open-mark front c bytes)))
  progress-at (so_far.Braced name asked) place shape h = arch-at name asked place shape h.0
  progress-at (so_far.Bound name asked arch) place shape h = closed-at 125 (whole (wanted name asked (Some arch))) place shape (λ d e. outer-is _ Outside (outer-mark place d 125 (outer-is place BehindWord h tt) e refl) tt)
  progress-at (so_far.Field name) place shape h = field-at name place shape h
  progress-at (so_far.FieldOpened name) place shape h = test-at name place shape h.0
  progress-at (so_far.Tested name how) place shape h = value-at name how place shape (ap (λ q. next_place q Word) h.0) (ap (λ q. next_place q Quoted) h.0)
  progress-at (so_far.Valued name how value) place shape h = closed-at 41 (whole (field name (Some (how, value)))) place shape (λ d e. outer-is _ Outside (inside-close place d h e) tt)

  having-at : (outer : List Level) (l : Level) (place : Place) (shape : Shape) → IsOuter place → StepAt (step_having outer l (token shape bytes)) (next_place place shape) (front ++ piece shape bytes ∷ [])
  unfolding step_having
  having-at outer l place (Mark c) o =
      StepAt-if (c == 44) _ _ _ _ (λ e. (outer-mark place c 44 o e refl, open-mark front c bytes))
      (λ _. StepAt-if (c == 124) _ _ _ _ (λ e. (outer-mark place c 124 o e refl, open-mark front c bytes))
      (λ _. StepAt-if (c == 41) _ _ _ _ (λ e. closed outer (outer-mark place c 41 o e refl)) (λ _. tt)))
    where
      closed : (outer : List Level) → next_place place (Mark c) ≡ Outside → StepAt (closed_group outer l) (next_place place (Mark c)) (front ++ piece (Mark c) bytes ∷ [])
      closed [] e = tt
      closed (k ∷ ks) e = outer-is _ Outside e tt
  having-at outer l place Word o = tt
  having-at outer l place Quoted o = tt
  having-at outer l place Broken o = tt
  having-at outer l place Blank o = tt
  having-at outer l place (Operator how) o = tt
  having-at outer l place Lone o = tt

  stepped-at : (outer : List Level) (l : Level) (place : Place) (shape : Shape) (next : Progress) → ProgressAt place next (next_place place shape) (front ++ piece shape bytes ∷ []) → StepAt (step_progress outer l (token shape bytes) next) (next_place place shape) (front ++ piece shape bytes ∷ [])
  stepped-at outer l place shape (goes_on b) h = h
  stepped-at outer l place shape (whole t) h = h
  stepped-at outer l place shape (ended t) h = having-at outer (with_member l t) place shape h
  stepped-at outer l place shape (wrong kind) h = tt

  begun-at : (place : Place) → place ≡ Outside → ProgressAt place (begun bytes) (next_place place Word) (front ++ piece Word bytes ∷ [])
  unfolding begun
  begun-at place e =
      ProgressAt-if place (is_package bytes) _ _ _ _ (λ _. ap (λ q. next_place q Word) e)
      (λ _. ProgressAt-if place (is_field bytes) _ _ _ _ (λ _. ap (λ q. next_place q Word) e)
      (λ _. ProgressAt-if place (is_reference bytes) _ _ _ _ (λ _. outer-is _ BehindWord (ap (λ q. next_place q Word) e) tt) (λ _. tt)))

  wanting-at : (outer : List Level) (l : Level) (place : Place) (shape : Shape) → place ≡ Outside → StepAt (step_wanting outer l (token shape bytes)) (next_place place shape) (front ++ piece shape bytes ∷ [])
  unfolding step_wanting
  wanting-at outer l place Word e = stepped-at outer l place Word (begun bytes) (begun-at place e)
  wanting-at outer l place (Mark c) e =
      StepAt-if (c == 33) _ _ _ _ (λ _. negation l.room) (λ _. StepAt-if (c == 40) _ _ _ _ (λ _. group l.room) (λ _. tt))
    where
      negation : (n : ℕ) → StepAt (begin_negation outer l n) (next_place place (Mark c)) (front ++ piece (Mark c) bytes ∷ [])
      negation zero = tt
      negation (suc n) = (outside-mark place c e, open-mark front c bytes)

      group : (n : ℕ) → StepAt (begin_group outer l n) (next_place place (Mark c)) (front ++ piece (Mark c) bytes ∷ [])
      group zero = tt
      group (suc n) = (outside-mark place c e, open-mark front c bytes)
  wanting-at outer l place Quoted e = tt
  wanting-at outer l place Broken e = tt
  wanting-at outer l place Blank e = tt
  wanting-at outer l place (Operator how) e = tt
  wanting-at outer l place Lone e = tt

  next-at : (outer : List Level) (l : Level) (next : Next) (place : Place) (shape : Shape) → NextAt next place front → StepAt (step_next outer l next (token shape bytes)) (next_place place shape) (front ++ piece shape bytes ∷ [])
  next-at outer l Wanting place shape h = wanting-at outer l place shape h.0
  next-at outer l Having place shape h = having-at outer l place shape h
  next-at outer l (Within b) place shape h = stepped-at outer l place shape (progress b (token shape bytes)) (progress-at b place shape h)

  -- a step leads to where the next may stand
  pub step-at : (s : State) (place : Place) (shape : Shape) → NextAt s.next place front → StepAt (step s (token shape bytes)) (next_place place shape) (front ++ piece shape bytes ∷ [])
  unfolding step
  step-at s place Blank h = next-blank s.next place front bytes h
  step-at s place Word h = next-at s.outer s.level s.next place Word h
  step-at s place (Operator how) h = next-at s.outer s.level s.next place (Operator how) h
  step-at s place Lone h = next-at s.outer s.level s.next place Lone h
  step-at s place Quoted h = next-at s.outer s.level s.next place Quoted h
  step-at s place Broken h = next-at s.outer s.level s.next place Broken h
  step-at s place (Mark c) h = next-at s.outer s.level s.next place (Mark c) h
