-- The kind of a fault is the first that fits its place.
use Rattle.std.proofs.Common.{◌≡◌, ◌⊎◌, inl, inr, ℕ, suc, zero, ◌==◌, Bool, true, false, cond, List, [], ◌∷◌, ◌++◌, Option, Some, None, refl, sym, ap, ◌∙◌, subst, arith, lit<}
use Rattle.std.proofs.lemmas.Bool.{or_right, true≢false, cond_both, eq-eqb, eqb-true}
use Rattle.ap_text.specs.Names.{is_architecture}
use Rattle.deb_version.specs.VersionText.{is_version, fault_of, epoch_of, start_of, upstream_in, revision_in, is_epoch, is_revision_byte, is_upstream_byte, bad_in_upstream, bad_in_revision}
use Rattle.deb_version.specs.Cuts.{is_digit}
use Rattle.deb_version.specs.declared.order.Relation.{Relation}
use Rattle.deb_version.specs.declared.order.Relation.TheVariants as relation
use Rattle.query_tree.specs.declared.query.Test.{Test}
use Rattle.query_tree.specs.declared.query.Test.TheVariants as test
use Rattle.query_tree.specs.declared.piece.Place.{Place}
use Rattle.query_tree.specs.declared.piece.Place.TheVariants.{Outside, BehindWord, Opening, Inside}
use Rattle.query_tree.specs.declared.piece.Shape.{Shape}
use Rattle.query_tree.specs.declared.piece.Shape.TheVariants.{Blank, Word, Operator, Lone, Quoted, Broken, Mark}
use Rattle.query_tree.specs.declared.piece.Cut.{Cut}
use Rattle.query_grammar.specs.declared.term.Begun.{Begun}
use Rattle.query_grammar.specs.declared.term.Begun.TheVariants as so_far
use Rattle.query_grammar.specs.declared.level.Next.{Next}
use Rattle.query_grammar.specs.declared.level.Next.TheVariants.{Wanting, Having, Within}
use Rattle.query_grammar.specs.declared.fault.QueryKind.{QueryKind}
use Rattle.query_grammar.specs.declared.fault.QueryKind.TheVariants.{TooDeep, WantTerm, BadOperator, BadVersion, WantClose, WantValue, Trailing}
use Rattle.query_tree.specs.Pieces.{Piece, Token, token, gap, word, operator, lone, quoted, broken, mark, is_blank, is_word, is_quote, closing, quoted_cut, plain_cut, inner_cut, opening_cut, cut_of, next_place, quoted_value, joined}
use Rattle.query_tree.specs.Tree.{Tree, wanted, field}
use Rattle.query_tree.specs.Words.{is_package, is_field, relation_of, may_test}
use Rattle.query_grammar.specs.Reading.{Progress, goes_on, wrong, progress, version_at, compared, relation_at, value_at, test_at, closed_by, ended, whole, at_end, step_progress, after_whole, begun, is_reference, begin_negation, begin_group, Level, State, Step, goes, stops, step, step_having, step_wanting, closed_group, having_one, whole_level, with_member, finish, finish_having, finish_progress, fault, reading}
use Rattle.query_grammar.specs.Places.{CanBegin}
use Rattle.query_grammar.specs.Kinds.{run_of, sign_of, TermBegins, ValueBegins, ArchBegins, MayClose, IsLevel, IsOperator, IsWordOrQuoted, IsBroken, operator_shape, Fits, NoEarlier, IsFirstKind}
use Rattle.query_grammar.proofs.WordFacts.{begun-package}
use Rattle.query_tree.proofs.Lexing.{IsOuter, IsCut, FrontCut, place_after-append}
use Rattle.query_tree.proofs.Fronts.{LastSeparates, front_split, text_front}
use Rattle.query_grammar.proofs.PlaceOf.{reading_stopped}
use Rattle.query_grammar.proofs.Complete.{opened-version, compared-version, value-progress, opened-value}
use Rattle.query_grammar.proofs.Reach.{BegunAt, Open, LastSeparates-push}
use Rattle.query_grammar.proofs.Viable.{Fails}
use Rattle.query_grammar.proofs.Ends.{shut}
use Rattle.query_grammar.proofs.May.{Stand, here, may-stand, may-one, may-two, never-one, never-two}

abbrev letter : List ℕ
letter = 97 ∷ []

abbrev dated : List ℕ
dated = 49 ∷ 58 ∷ 49 ∷ []

dated-version : is_version dated ≡ true
unfolding is_version fault_of epoch_of start_of upstream_in revision_in is_epoch is_revision_byte is_upstream_byte bad_in_upstream bad_in_revision is_digit
dated-version = refl

letter-version : is_version letter ≡ true
unfolding is_version fault_of epoch_of start_of upstream_in revision_in is_epoch is_revision_byte is_upstream_byte bad_in_upstream bad_in_revision is_digit
letter-version = refl

dated-tests : (name : List ℕ) (how : Test) → may_test name how dated ≡ true
unfolding may_test
dated-tests name how = or_right _ _ dated-version

letter-tests : (name : List ℕ) (how : Test) → may_test name how letter ≡ true
unfolding may_test
letter-tests name how = or_right _ _ letter-version

letter-package : is_package letter ≡ true
unfolding is_package
letter-package = refl

letter-arch : is_architecture letter ≡ true
letter-arch = refl

dated-no_arch : is_architecture dated ≡ false
dated-no_arch = refl

abbrev at_state : List Level → Level → Next → State
at_state outer l next = record { outer = outer; level = l; next = next }

abbrev Kind : QueryKind → List Piece → List Piece → Type 0
Kind kind front back = Fits kind front back × NoEarlier kind front back

-- shapes of pieces by their place
plain-shape : (c : ℕ) (cs : List ℕ) (shape : Shape) (n : ℕ) → plain_cut c cs ≡ record { shape = shape; size = n } → (operator_shape shape → ⊥) × (shape ≡ Broken → ⊥)
unfolding plain_cut
plain-shape c cs shape n =
    let P : Cut → Type 0 = λ k. k ≡ record { shape = shape; size = n } → (operator_shape shape → ⊥) × (shape ≡ Broken → ⊥) in
    cond_both (is_blank c) _ _ P (λ _. other Blank shape _ n (λ h. h) (λ e. cc))
    (λ _. cond_both (is_word c) _ _ P (λ _. other Word shape _ n (λ h. h) (λ e. cc)) (λ _. other (Mark c) shape _ n (λ h. h) (λ e. cc)))
  where
    other : (a shape : Shape) (m n : ℕ) → (operator_shape a → ⊥) → (a ≡ Broken → ⊥) → (let k : Cut = record { shape = a; size = m } in k ≡ record { shape = shape; size = n }) → (operator_shape shape → ⊥) × (shape ≡ Broken → ⊥)
    other a shape m n h g e =
        let same : a ≡ shape = ap (λ (k : Cut). k.shape) e in
        (subst (λ s. operator_shape s → ⊥) same h, subst (λ s. s ≡ Broken → ⊥) same g)

inner-shape : (c : ℕ) (cs : List ℕ) (shape : Shape) (n : ℕ) → inner_cut c cs ≡ record { shape = shape; size = n } → operator_shape shape → ⊥
unfolding inner_cut
inner-shape c cs shape n =
    let P : Cut → Type 0 = λ k. k ≡ record { shape = shape; size = n } → operator_shape shape → ⊥ in
    cond_both (is_quote c) _ _ P (λ _. quoted-shape (closing c false cs)) (λ _ e. (plain-shape c cs shape n e).0)
  where
    quoted-shape : (r : Option ℕ) → quoted_cut cs r ≡ record { shape = shape; size = n } → operator_shape shape → ⊥
    quoted-shape None e h = subst operator_shape (sym (ap (λ (k : Cut). k.shape) e)) h
    quoted-shape (Some m) e h = subst operator_shape (sym (ap (λ (k : Cut). k.shape) e)) h

outer-shape : (place : Place) (shape : Shape) (bytes rest : List ℕ) → IsOuter place → IsCut place (record { shape = shape; bytes = bytes }) rest → (operator_shape shape → ⊥) × (shape ≡ Broken → ⊥)
outer-shape place shape [] rest o h = absurd (omega (arith, h.0))
outer-shape Outside shape (c ∷ cs) rest o h = plain-shape c (cs ++ rest) shape _ h.1
outer-shape BehindWord shape (c ∷ cs) rest o h = plain-shape c (cs ++ rest) shape _ h.1
outer-shape Opening shape (c ∷ cs) rest o h = absurd o
outer-shape Inside shape (c ∷ cs) rest o h = absurd o

inside-shape : (shape : Shape) (bytes rest : List ℕ) → IsCut Inside (record { shape = shape; bytes = bytes }) rest → operator_shape shape → ⊥
inside-shape shape [] rest h = absurd (omega (arith, h.0))
inside-shape shape (c ∷ cs) rest h = inner-shape c (cs ++ rest) shape _ h.1

outer-back : (place : Place) (back : List Piece) → IsOuter place → FrontCut place back [] → (IsOperator back → ⊥) × (IsBroken back → ⊥)
outer-back place [] o h = (λ f. f, λ f. f)
outer-back place (p ∷ ps) o h = outer-shape place p.shape p.bytes _ o h.0

inside-back : (place : Place) (back : List Piece) → place ≡ Inside → FrontCut place back [] → IsOperator back → ⊥
inside-back place [] e h f = f
inside-back place (p ∷ ps) e h f = inside-shape p.shape p.bytes _ (subst (λ q. IsCut q p (joined ps ++ [])) e h.0) f

-- what no state but that where a term must begin takes
no-term : (front : List Piece) (outer : List Level) (l : Level) (b : Begun) → Stand front (at_state outer l (Within b)) → TermBegins front → ⊥
unfolding step progress step_having
no-term front outer l (so_far.Package name) d = never-one front _ (run_of letter) (sign_of 123 ∷ []) (after_whole outer) d refl
no-term front outer l (so_far.PackageOpened name) d =
    never-two front _ (at_state outer l (Within (so_far.Versioned name relation.Equal letter))) (run_of letter) (sign_of 123) WantClose d
    (ap (λ c. step_progress outer l (word letter) (cond c (goes_on (so_far.Versioned name relation.Equal letter)) (wrong BadVersion))) letter-version) refl
no-term front outer l (so_far.Compared name asked) d =
    never-two front _ (at_state outer l (Within (so_far.Versioned name asked letter))) (run_of letter) (sign_of 123) WantClose d
    (ap (λ c. step_progress outer l (word letter) (cond c (goes_on (so_far.Versioned name asked letter)) (wrong BadVersion))) letter-version) refl
no-term front outer l (so_far.Versioned name asked version) d = never-one front _ (run_of letter) (sign_of 123 ∷ []) WantClose d refl
no-term front outer l (so_far.Related name asked version) d = never-one front _ (run_of letter) (sign_of 123 ∷ []) (after_whole outer) d refl
no-term front outer l (so_far.Braced name asked) d =
    never-two front _ (at_state outer l (Within (so_far.Bound name asked letter))) (run_of letter) (sign_of 123) WantClose d
    (ap (λ c. step_progress outer l (word letter) (cond c (goes_on (so_far.Bound name asked letter)) (wrong WantValue))) letter-arch) refl
no-term front outer l (so_far.Bound name asked arch) d = never-one front _ (run_of letter) (sign_of 123 ∷ []) WantClose d refl
no-term front outer l (so_far.Field name) d = never-one front _ (run_of letter) (sign_of 123 ∷ []) (after_whole outer) d refl
no-term front outer l (so_far.FieldOpened name) d =
    never-two front _ (at_state outer l (Within (so_far.Valued name test.Equal letter))) (run_of letter) (sign_of 123) WantClose d
    (ap (λ c. step_progress outer l (word letter) (cond c (goes_on (so_far.Valued name test.Equal letter)) (wrong BadVersion))) (letter-tests name test.Equal)) refl
no-term front outer l (so_far.Tested name how) d =
    never-two front _ (at_state outer l (Within (so_far.Valued name how letter))) (run_of letter) (sign_of 123) WantClose d
    (ap (λ c. step_progress outer l (word letter) (cond c (goes_on (so_far.Valued name how letter)) (wrong BadVersion))) (letter-tests name how)) refl
no-term front outer l (so_far.Valued name how value) d = never-one front _ (run_of letter) (sign_of 123 ∷ []) WantClose d refl

no-term-having : (front : List Piece) (outer : List Level) (l : Level) → Stand front (at_state outer l Having) → TermBegins front → ⊥
unfolding step step_having
no-term-having front outer l d = never-one front _ (run_of letter) (sign_of 123 ∷ []) (after_whole outer) d refl

sign-cut : (place : Place) (c : ℕ) → IsOuter place → is_blank c ≡ false → is_word c ≡ false → IsCut place (sign_of c) []
unfolding plain_cut
sign-cut Outside c o b w = (lit< tt, ap (λ k. cond k (record { shape = Blank; size = 1 }) (cond (is_word c) (record { shape = Word; size = 1 }) (record { shape = Mark c; size = 1 }))) b ∙ ap (λ k. cond k (record { shape = Word; size = 1 }) (record { shape = Mark c; size = 1 })) w)
sign-cut BehindWord c o b w = (lit< tt, ap (λ k. cond k (record { shape = Blank; size = 1 }) (cond (is_word c) (record { shape = Word; size = 1 }) (record { shape = Mark c; size = 1 }))) b ∙ ap (λ k. cond k (record { shape = Word; size = 1 }) (record { shape = Mark c; size = 1 })) w)
sign-cut Opening c o b w = absurd o
sign-cut Inside c o b w = absurd o

close-no_word : is_word 41 ≡ false
unfolding is_word
close-no_word = refl

brace-no_word : is_word 125 ≡ false
unfolding is_word
brace-no_word = refl

-- behind a whole member
module _ (front back : List Piece) (outer : List Level) (s : State) (d : Stand front s) (o : IsOuter (here front)) (cut : FrontCut (here front) back []) (no_word : (w : List ℕ) → step s (word w) ≡ stops (after_whole outer)) (no_brace : step s (mark 125) ≡ stops (after_whole outer)) where
  whole-no-term : TermBegins front → ⊥
  whole-no-term h = never-one front s (run_of letter) (sign_of 123 ∷ []) (after_whole outer) d (no_word letter) h

  whole-no-value : ValueBegins front → ⊥
  whole-no-value h = never-one front s (run_of dated) [] (after_whole outer) d (no_word dated) h

  whole-no-arch : ArchBegins front → ⊥
  whole-no-arch h = never-one front s (run_of letter) (sign_of 125 ∷ []) (after_whole outer) d (no_word letter) h

  whole-top : after_whole outer ≡ Trailing → step s (mark 41) ≡ stops Trailing → Kind Trailing front back
  whole-top e stop = (
    tt,
    (
      (λ h. whole-no-term h.0),
      whole-no-term,
      (outer-back (here front) back o cut).0,
      (λ h. whole-no-value h.0),
      (λ h. elim h [ inl x ↦ (outer-back (here front) back o cut).1 x | inr may ↦ elim may [ inl close ↦ never-one front s (sign_of 41) [] Trailing d stop close | inr brace ↦ never-one front s (sign_of 125) [] (after_whole outer) d no_brace brace ] ]),
      (λ h. elim h [ inl value ↦ whole-no-value value | inr arch ↦ whole-no-arch arch ]),
    ),
  )

  whole-inside : (t : State) → step s (mark 41) ≡ goes t → Kind WantClose front back
  whole-inside t onward = (
    inr (inl (may-one front s t (sign_of 41) d onward (sign-cut (here front) 41 o refl close-no_word) (shut front (41 ∷ []) refl close-no_word))),
    ((λ h. whole-no-term h.0), whole-no-term, (outer-back (here front) back o cut).0, (λ h. whole-no-value h.0)),
  )

whole-kind : (front back : List Piece) (outer : List Level) (l : Level) (s : State) (kind : QueryKind) → Stand front s → IsOuter (here front) → FrontCut (here front) back [] → ((w : List ℕ) → step s (word w) ≡ stops (after_whole outer)) → step s (mark 125) ≡ stops (after_whole outer) → step s (mark 41) ≡ closed_group outer l → after_whole outer ≡ kind → Kind kind front back
whole-kind front back [] l s kind d o cut no_word no_brace close e = subst (λ k. Kind k front back) e (whole-top front back [] s d o cut no_word no_brace refl close)
whole-kind front back (k ∷ ks) l s kind d o cut no_word no_brace close e = subst (λ j. Kind j front back) e (whole-inside front back (k ∷ ks) s d o cut no_word no_brace (having_one ks k (whole_level l)) close)

stops-if : (c : Bool) (x y : Step) (kind : QueryKind) (P : Type 0) → (c ≡ true → x ≡ stops kind → P) → (c ≡ false → y ≡ stops kind → P) → cond c x y ≡ stops kind → P
stops-if true x y kind P h g e = h refl e
stops-if false x y kind P h g e = g refl e

closed-stops : (outer : List Level) (l : Level) (kind : QueryKind) → closed_group outer l ≡ stops kind → after_whole outer ≡ kind
closed-stops [] l kind e = cc
closed-stops (o ∷ os) l kind e = cc

having-stops : (outer : List Level) (l : Level) (t : Token) (kind : QueryKind) → step_having outer l t ≡ stops kind → after_whole outer ≡ kind
unfolding step_having
having-stops outer l (mark c) kind e =
    stops-if (c == 44) _ _ kind (after_whole outer ≡ kind) (λ _ f. cc)
    (λ _. stops-if (c == 124) _ _ kind (after_whole outer ≡ kind) (λ _ f. cc)
    (λ _. stops-if (c == 41) _ _ kind (after_whole outer ≡ kind) (λ _ f. closed-stops outer l kind f) (λ _ f. cc)))
    e
having-stops outer l t kind e = cc

-- the term went on or had ended before the token
abbrev Ends : Progress → Type 0
Ends (goes_on b) = Unit {0}
Ends (whole t) = ⊥
Ends (ended t) = Unit {0}
Ends (wrong kind) = ⊥

ends-stops : (outer : List Level) (l : Level) (t : Token) (next : Progress) (kind : QueryKind) → Ends next → step_progress outer l t next ≡ stops kind → after_whole outer ≡ kind
ends-stops outer l t (goes_on b) kind h e = cc
ends-stops outer l t (whole u) kind h e = absurd h
ends-stops outer l t (ended u) kind h e = having-stops outer (with_member l u) t kind e
ends-stops outer l t (wrong k) kind h e = absurd h

Ends-if : (c : Bool) (x y : Progress) → Ends x → Ends y → Ends (cond c x y)
Ends-if true x y h g = h
Ends-if false x y h g = g

package-ends : (name : List ℕ) (t : Token) → Ends (progress (so_far.Package name) t)
unfolding progress
package-ends name (mark c) = Ends-if (c == 40) _ _ tt (Ends-if (c == 123) _ _ tt tt)
package-ends name t = tt

related-ends : (name : List ℕ) (asked : Relation) (version : List ℕ) (t : Token) → Ends (progress (so_far.Related name asked version) t)
unfolding progress
related-ends name asked version (mark c) = Ends-if (c == 123) _ _ tt tt
related-ends name asked version t = tt

field-ends : (name : List ℕ) (t : Token) → Ends (progress (so_far.Field name) t)
unfolding progress
field-ends name (mark c) = Ends-if (c == 40) _ _ tt tt
field-ends name t = tt

having-finish : (place : ℕ) (outer : List Level) (l : Level) (kind : QueryKind) → finish_having place outer l ≡ fault place kind → after_whole outer ≡ kind
having-finish place [] l kind e = cc
having-finish place (o ∷ os) l kind e = cc

having-fails : (outer : List Level) (l : Level) (back : List Piece) (place : ℕ) (kind : QueryKind) → Fails (at_state outer l Having) back place kind → after_whole outer ≡ kind
unfolding finish step
having-fails outer l [] place kind e = having-finish place outer l kind e
having-fails outer l (p ∷ ps) place kind e = go (token p.shape p.bytes) e
  where
    go : (t : Token) → step (at_state outer l Having) t ≡ stops kind → after_whole outer ≡ kind
    go gap f = cc
    go (word w) f = having-stops outer l (word w) kind f
    go (operator how) f = having-stops outer l (operator how) kind f
    go lone f = having-stops outer l lone kind f
    go (quoted v) f = having-stops outer l (quoted v) kind f
    go broken f = having-stops outer l broken kind f
    go (mark c) f = having-stops outer l (mark c) kind f

within-fails : (outer : List Level) (l : Level) (b : Begun) (u : Tree) (back : List Piece) (place : ℕ) (kind : QueryKind) → at_end b ≡ ended u → ((t : Token) → Ends (progress b t)) → Fails (at_state outer l (Within b)) back place kind → after_whole outer ≡ kind
unfolding finish step
within-fails outer l b u [] place kind end ends e = having-finish place outer (with_member l u) kind (sym (ap (λ n. finish_progress place outer l n) end) ∙ e)
within-fails outer l b u (p ∷ ps) place kind end ends e = go (token p.shape p.bytes) e
  where
    go : (t : Token) → step (at_state outer l (Within b)) t ≡ stops kind → after_whole outer ≡ kind
    go gap f = cc
    go (word w) f = ends-stops outer l (word w) _ kind (ends (word w)) f
    go (operator how) f = ends-stops outer l (operator how) _ kind (ends (operator how)) f
    go lone f = ends-stops outer l lone _ kind (ends lone) f
    go (quoted v) f = ends-stops outer l (quoted v) _ kind (ends (quoted v)) f
    go broken f = ends-stops outer l broken _ kind (ends broken) f
    go (mark c) f = ends-stops outer l (mark c) _ kind (ends (mark c)) f

having-kind : (front back : List Piece) (outer : List Level) (l : Level) (place : ℕ) (kind : QueryKind) → Stand front (at_state outer l Having) → IsOuter (here front) → FrontCut (here front) back [] → Fails (at_state outer l Having) back place kind → Kind kind front back
unfolding step step_having
having-kind front back outer l place kind d o cut f =
    whole-kind front back outer l (at_state outer l Having) kind d o cut (λ w. refl) refl refl (having-fails outer l back place kind f)

ended-kind : (front back : List Piece) (outer : List Level) (l : Level) (b : Begun) (u : Tree) (place : ℕ) (kind : QueryKind) → Stand front (at_state outer l (Within b)) → IsOuter (here front) → FrontCut (here front) back [] → at_end b ≡ ended u → ((t : Token) → Ends (progress b t)) → ((w : List ℕ) → progress b (word w) ≡ ended u) → progress b (mark 125) ≡ ended u → progress b (mark 41) ≡ ended u → Fails (at_state outer l (Within b)) back place kind → Kind kind front back
unfolding step step_having
ended-kind front back outer l b u place kind d o cut end ends words brace close f =
    whole-kind front back outer (with_member l u) (at_state outer l (Within b)) kind d o cut (λ w. ap (λ n. step_progress outer l (word w) n) (words w)) (ap (λ n. step_progress outer l (mark 125) n) brace) (ap (λ n. step_progress outer l (mark 41) n) close) (within-fails outer l b u back place kind end ends f)

-- where a value or a version must stand
word-cut : (place : Place) → (place ≡ Opening) ⊎ (place ≡ Inside) → IsCut place (run_of dated) []
unfolding opening_cut inner_cut plain_cut is_word
word-cut place (inl e) = (lit< tt, ap (λ q. cut_of q dated) e)
word-cut place (inr e) = (lit< tt, ap (λ q. cut_of q dated) e)

module _ (front back : List Piece) (outer : List Level) (l : Level) (b c : Begun) (d : Stand front (at_state outer l (Within b))) (o : (here front ≡ Opening) ⊎ (here front ≡ Inside)) (apart : Open front) (takes : progress b (word dated) ≡ goes_on c) (no_close : progress b (mark 41) ≡ wrong WantValue) (no_brace : progress b (mark 125) ≡ wrong WantValue) where
  value-begins : ValueBegins front
  unfolding step
  value-begins = may-one front (at_state outer l (Within b)) (at_state outer l (Within c)) (run_of dated) d (ap (λ n. step_progress outer l (word dated) n) takes) (word-cut (here front) o) (apart dated refl)

  value-no-close : MayClose front → ⊥
  unfolding step
  value-no-close (inl h) = never-one front (at_state outer l (Within b)) (sign_of 41) [] WantValue d (ap (λ n. step_progress outer l (mark 41) n) no_close) h
  value-no-close (inr h) = never-one front (at_state outer l (Within b)) (sign_of 125) [] WantValue d (ap (λ n. step_progress outer l (mark 125) n) no_brace) h

  -- the kinds there
  want-value : (IsOperator back → ⊥) → (IsWordOrQuoted back → ⊥) → (IsBroken back → ⊥) → Kind WantValue front back
  want-value operators words broken_ones =
      let none = no-term front outer l b d in
      (inl value-begins, ((λ h. none h.0), none, operators, (λ h. words h.1), (λ h. elim h [ inl x ↦ broken_ones x | inr x ↦ value-no-close x ])))

  bad-version : (IsOperator back → ⊥) → IsWordOrQuoted back → Kind BadVersion front back
  bad-version operators words = let none = no-term front outer l b d in ((value-begins, words), ((λ h. none h.0), none, operators))

  want-close : (IsOperator back → ⊥) → (IsWordOrQuoted back → ⊥) → IsBroken back → Kind WantClose front back
  want-close operators words broken_one = let none = no-term front outer l b d in (inl broken_one, ((λ h. none h.0), none, operators, (λ h. words h.1)))

  bad-operator : IsOperator back → Kind BadOperator front back
  bad-operator operators = let none = no-term front outer l b d in (operators, ((λ h. none h.0), none))

-- a state that takes only what closes
closing-kind : (front back : List Piece) (outer : List Level) (l : Level) (b : Begun) (next : State) (c : ℕ) (kind : QueryKind) → Stand front (at_state outer l (Within b)) → (IsOperator back → ⊥) → (c ≡ 41) ⊎ (c ≡ 125) → ((w : List ℕ) → progress b (word w) ≡ wrong WantClose) → step (at_state outer l (Within b)) (mark c) ≡ goes next → IsCut (here front) (sign_of c) [] → LastSeparates front (c ∷ []) → kind ≡ WantClose → Kind kind front back
unfolding step
closing-kind front back outer l b next c kind d operators which words takes cut last e =
    let none = no-term front outer l b d in
    let may = may-one front (at_state outer l (Within b)) next (sign_of c) d takes cut last in
    let closes : MayClose front = elim which [ inl f ↦ inl (subst (λ m. CanBegin 64 (front ++ sign_of m ∷ [])) f may) | inr f ↦ inr (subst (λ m. CanBegin 64 (front ++ sign_of m ∷ [])) f may) ] in
    subst (λ k. Kind k front back) (sym e)
    (inr closes, ((λ h. none h.0), none, operators, (λ h. never-one front (at_state outer l (Within b)) (run_of dated) [] WantClose d (ap (λ n. step_progress outer l (word dated) n) (words dated)) h.0)))

-- where an architecture must stand
arch-kind : (front back : List Piece) (outer : List Level) (l : Level) (name : List ℕ) (asked : Option (Relation × List ℕ)) (kind : QueryKind) → Stand front (at_state outer l (Within (so_far.Braced name asked))) → here front ≡ Outside → Open front → FrontCut (here front) back [] → kind ≡ WantValue → Kind kind front back
unfolding step progress plain_cut is_word
arch-kind front back outer l name asked kind d place apart cut e =
    let s = at_state outer l (Within (so_far.Braced name asked)) in
    let t = at_state outer l (Within (so_far.Bound name asked letter)) in
    let none = no-term front outer l (so_far.Braced name asked) d in
    let o : IsOuter (here front) = subst IsOuter (sym place) tt in
    let onward : step s (word letter) ≡ goes t = ap (λ c. step_progress outer l (word letter) (cond c (goes_on (so_far.Bound name asked letter)) (wrong WantValue))) letter-arch in
    let first : IsCut (here front) (run_of letter) (125 ∷ []) = subst (λ q. IsCut q (run_of letter) (125 ∷ [])) (sym place) (lit< tt, refl) in
    let behind : here (front ++ run_of letter ∷ []) ≡ BehindWord = place_after-append Outside front (run_of letter ∷ []) ∙ ap (λ q. next_place q Word) place in
    let second : IsCut (here (front ++ run_of letter ∷ [])) (sign_of 125) [] = subst (λ q. IsCut q (sign_of 125) []) (sym behind) (lit< tt, refl) in
    let arch = may-two front s t (having_one outer l (wanted name asked (Some letter))) (run_of letter) (sign_of 125) d onward refl first (apart (letter ++ 125 ∷ []) refl) second (LastSeparates-push front (run_of letter) (125 ∷ []) refl) in
    subst (λ k. Kind k front back) (sym e) (
      inr arch,
      (
        (λ h. none h.0),
        none,
        (outer-back (here front) back o cut).0,
        (λ h. never-one front s (run_of dated) [] WantValue d (ap (λ c. step_progress outer l (word dated) (cond c (goes_on (so_far.Bound name asked dated)) (wrong WantValue))) dated-no_arch) h.0),
        (λ h. elim h [ inl x ↦ (outer-back (here front) back o cut).1 x | inr x ↦ elim x [ inl y ↦ never-one front s (sign_of 41) [] WantValue d refl y | inr y ↦ never-one front s (sign_of 125) [] WantValue d refl y ] ]),
      ),
    )

-- the kinds where a term must begin
want-term : (front back : List Piece) → TermBegins front → (IsLevel back → ⊥) → Kind WantTerm front back
want-term front back begins none = (begins, (λ h. none h.1))

BegunFails : List ℕ → Progress → Type 0
BegunFails bytes (goes_on b) = Unit {0}
BegunFails bytes (whole t) = Unit {0}
BegunFails bytes (ended t) = ⊥
BegunFails bytes (wrong kind) = kind ≡ WantTerm

begun-fails : (bytes : List ℕ) → BegunFails bytes (begun bytes)
unfolding begun BegunFails
begun-fails bytes =
    cond_both (is_package bytes) _ _ (BegunFails bytes) (λ _. tt) (λ _. cond_both (is_field bytes) _ _ (BegunFails bytes) (λ _. tt) (λ _. cond_both (is_reference bytes) _ _ (BegunFails bytes) (λ _. tt) (λ _. refl)))

begun-stops : (outer : List Level) (l : Level) (bytes : List ℕ) (next : Progress) (kind : QueryKind) → BegunFails bytes next → step_progress outer l (word bytes) next ≡ stops kind → WantTerm ≡ kind
unfolding BegunFails
begun-stops outer l bytes (goes_on b) kind h e = cc
begun-stops outer l bytes (whole t) kind h e = cc
begun-stops outer l bytes (ended t) kind h e = absurd h
begun-stops outer l bytes (wrong k) kind h e = let f : k ≡ kind = cc in sym h ∙ f

negation-stops : (outer : List Level) (l : Level) (n : ℕ) (kind : QueryKind) → begin_negation outer l n ≡ stops kind → TooDeep ≡ kind
negation-stops outer l zero kind e = cc
negation-stops outer l (suc n) kind e = cc

group-stops : (outer : List Level) (l : Level) (n : ℕ) (kind : QueryKind) → begin_group outer l n ≡ stops kind → TooDeep ≡ kind
group-stops outer l zero kind e = cc
group-stops outer l (suc n) kind e = cc

wanted-kinds : (front back : List Piece) (outer : List Level) (l : Level) (place : ℕ) (kind : QueryKind) → TermBegins front → Fails (at_state outer l Wanting) back place kind → Kind kind front back
unfolding finish step step_wanting
wanted-kinds front [] outer l place kind begins f = let e : WantTerm ≡ kind = cc in subst (λ k. Kind k front []) e (want-term front [] begins (λ h. h))
wanted-kinds front (p ∷ ps) outer l place kind begins f = go p.shape refl f
  where
    plain-kind : WantTerm ≡ kind → (IsLevel (p ∷ ps) → ⊥) → Kind kind front (p ∷ ps)
    plain-kind e none = subst (λ k. Kind k front (p ∷ ps)) e (want-term front (p ∷ ps) begins none)

    no-level : (shape : Shape) → p.shape ≡ shape → (shape ≡ Mark 33 → ⊥) → (shape ≡ Mark 40 → ⊥) → IsLevel (p ∷ ps) → ⊥
    no-level shape e n m (inl h) = n (sym e ∙ h)
    no-level shape e n m (inr h) = m (sym e ∙ h)

    deep-kind : TooDeep ≡ kind → IsLevel (p ∷ ps) → Kind kind front (p ∷ ps)
    deep-kind e level = subst (λ k. Kind k front (p ∷ ps)) e ((begins, level), tt)

    other-mark : (c d : ℕ) → (c == d) ≡ false → Mark c ≡ Mark d → ⊥
    other-mark c d e h = let same : c ≡ d = cc in true≢false (sym (eq-eqb c d same) ∙ e)

    this-mark : (c d : ℕ) → p.shape ≡ Mark c → (c == d) ≡ true → p.shape ≡ Mark d
    this-mark c d e h = e ∙ ap (λ m. Mark m) (eqb-true c d h)

    go : (shape : Shape) → p.shape ≡ shape → step (at_state outer l Wanting) (token p.shape p.bytes) ≡ stops kind → Kind kind front (p ∷ ps)
    go Blank e f = let g : step (at_state outer l Wanting) gap ≡ stops kind = subst (λ s. step (at_state outer l Wanting) (token s p.bytes) ≡ stops kind) e f in cc
    go Word e f =
        plain-kind (begun-stops outer l p.bytes (begun p.bytes) kind (begun-fails p.bytes) (subst (λ s. step (at_state outer l Wanting) (token s p.bytes) ≡ stops kind) e f)) (no-level Word e (λ h. cc) (λ h. cc))
    go (Operator how) e f = let g = subst (λ s. step (at_state outer l Wanting) (token s p.bytes) ≡ stops kind) e f in plain-kind (cc) (no-level (Operator how) e (λ h. cc) (λ h. cc))
    go Lone e f = let g = subst (λ s. step (at_state outer l Wanting) (token s p.bytes) ≡ stops kind) e f in plain-kind (cc) (no-level Lone e (λ h. cc) (λ h. cc))
    go Quoted e f = let g = subst (λ s. step (at_state outer l Wanting) (token s p.bytes) ≡ stops kind) e f in plain-kind (cc) (no-level Quoted e (λ h. cc) (λ h. cc))
    go Broken e f = let g = subst (λ s. step (at_state outer l Wanting) (token s p.bytes) ≡ stops kind) e f in plain-kind (cc) (no-level Broken e (λ h. cc) (λ h. cc))
    go (Mark c) e f =
        stops-if (c == 33) _ _ kind (Kind kind front (p ∷ ps)) (λ h g. deep-kind (negation-stops outer l l.room kind g) (inl (this-mark c 33 e h)))
        (λ n. stops-if (c == 40) _ _ kind (Kind kind front (p ∷ ps)) (λ h g. deep-kind (group-stops outer l l.room kind g) (inr (this-mark c 40 e h)))
        (λ m g. plain-kind (cc) (no-level (Mark c) e (other-mark c 33 n) (other-mark c 40 m))))
        (subst (λ s. step (at_state outer l Wanting) (token s p.bytes) ≡ stops kind) e f)

-- where a term must begin
wanting-kind : (front back : List Piece) (outer : List Level) (l : Level) (place : ℕ) (kind : QueryKind) → Stand front (at_state outer l Wanting) → here front ≡ Outside → Open front → Fails (at_state outer l Wanting) back place kind → Kind kind front back
unfolding step step_wanting progress plain_cut is_word
wanting-kind front back outer l place kind d outside apart f =
    let s = at_state outer l Wanting in
    let t = at_state outer l (Within (so_far.Package letter)) in
    let onward : step s (word letter) ≡ goes t = ap (λ n. step_progress outer l (word letter) n) (begun-package letter letter-package) in
    let first : IsCut (here front) (run_of letter) (123 ∷ []) = subst (λ q. IsCut q (run_of letter) (123 ∷ [])) (sym outside) (lit< tt, refl) in
    let behind : here (front ++ run_of letter ∷ []) ≡ BehindWord = place_after-append Outside front (run_of letter ∷ []) ∙ ap (λ q. next_place q Word) outside in
    let second : IsCut (here (front ++ run_of letter ∷ [])) (sign_of 123) [] = subst (λ q. IsCut q (sign_of 123) []) (sym behind) (lit< tt, refl) in
    let begins : TermBegins front = may-two front s t (at_state outer l (Within (so_far.Braced letter None))) (run_of letter) (sign_of 123) d onward refl first (apart (letter ++ 123 ∷ []) refl) second (LastSeparates-push front (run_of letter) (123 ∷ []) refl) in
    wanted-kinds front back outer l place kind begins f

-- the kinds where a value or a version must stand, by what stands there
record ValueKinds (front back : List Piece) : Type 0 where
  value : (IsOperator back → ⊥) → (IsWordOrQuoted back → ⊥) → (IsBroken back → ⊥) → Kind WantValue front back
  version : (IsOperator back → ⊥) → IsWordOrQuoted back → Kind BadVersion front back
  open_quote : (IsOperator back → ⊥) → (IsWordOrQuoted back → ⊥) → IsBroken back → Kind WantClose front back
  an_operator : IsOperator back → Kind BadOperator front back

abbrev Allowed : Type 0 → Shape → QueryKind → Type 0
Allowed Never Blank kind = Unit {0}
Allowed Never Word kind = kind ≡ BadVersion
Allowed Never (Operator how) kind = (kind ≡ BadOperator) ⊎ Never
Allowed Never Lone kind = (kind ≡ BadOperator) ⊎ Never
Allowed Never Quoted kind = kind ≡ BadVersion
Allowed Never Broken kind = kind ≡ WantClose
Allowed Never (Mark c) kind = kind ≡ WantValue

abbrev Class : Type 0 → Shape → Progress → Type 0
Class Never shape (goes_on b) = Unit {0}
Class Never shape (whole t) = ⊥
Class Never shape (ended t) = ⊥
Class Never shape (wrong kind) = Allowed Never shape kind

abbrev heads : Shape → List ℕ → List Piece → List Piece
heads shape bytes ps = record { shape = shape; bytes = bytes } ∷ ps

value-dispatch : (front : List Piece) (outer : List Level) (l : Level) (b : Begun) (shape : Shape) (bytes : List ℕ) (ps : List Piece) (kind : QueryKind) (next : Progress) → ValueKinds front (heads shape bytes ps) → Class (operator_shape shape → ⊥) shape next → (shape ≡ Blank → ⊥) → step_progress outer l (token shape bytes) next ≡ stops kind → Kind kind front (heads shape bytes ps)
value-dispatch front outer l b shape bytes ps kind (goes_on c) k h n e = cc
value-dispatch front outer l b shape bytes ps kind (whole t) k h n e = absurd h
value-dispatch front outer l b shape bytes ps kind (ended t) k h n e = absurd h
value-dispatch front outer l b Blank bytes ps kind (wrong j) k h n e = absurd (n refl)
value-dispatch front outer l b Word bytes ps kind (wrong j) k h n e = let f : j ≡ kind = cc in subst (λ m. Kind m front (heads Word bytes ps)) (sym h ∙ f) (k.version (λ x. x) tt)
value-dispatch front outer l b Quoted bytes ps kind (wrong j) k h n e = let f : j ≡ kind = cc in subst (λ m. Kind m front (heads Quoted bytes ps)) (sym h ∙ f) (k.version (λ x. x) tt)
value-dispatch front outer l b Broken bytes ps kind (wrong j) k h n e = let f : j ≡ kind = cc in subst (λ m. Kind m front (heads Broken bytes ps)) (sym h ∙ f) (k.open_quote (λ x. x) (λ x. x) refl)
value-dispatch front outer l b (Mark c) bytes ps kind (wrong j) k h n e = let f : j ≡ kind = cc in subst (λ m. Kind m front (heads (Mark c) bytes ps)) (sym h ∙ f) (k.value (λ x. x) (λ x. x) (λ x. cc))
value-dispatch front outer l b (Operator how) bytes ps kind (wrong j) k (inl h) n e = let f : j ≡ kind = cc in subst (λ m. Kind m front (heads (Operator how) bytes ps)) (sym h ∙ f) (k.an_operator tt)
value-dispatch front outer l b (Operator how) bytes ps kind (wrong j) k (inr never) n e = absurd (never tt)
value-dispatch front outer l b Lone bytes ps kind (wrong j) k (inl h) n e = let f : j ≡ kind = cc in subst (λ m. Kind m front (heads Lone bytes ps)) (sym h ∙ f) (k.an_operator tt)
value-dispatch front outer l b Lone bytes ps kind (wrong j) k (inr never) n e = absurd (never tt)

version-class : (Never : Type 0) (name : List ℕ) (asked : Relation) (shape : Shape) (bytes : List ℕ) → (operator_shape shape → Never) → Class Never shape (version_at name asked (token shape bytes))
version-class Never name asked Word bytes h = cond_both (is_version bytes) _ _ (Class Never Word) (λ _. tt) (λ _. refl)
version-class Never name asked Quoted bytes h = refl
version-class Never name asked Broken bytes h = refl
version-class Never name asked Blank bytes h = tt
version-class Never name asked (Operator how) bytes h = inr (h tt)
version-class Never name asked Lone bytes h = inr (h tt)
version-class Never name asked (Mark c) bytes h = refl

compared-class : (Never : Type 0) (name : List ℕ) (asked : Option Relation) (how : Test) → Class Never (Operator how) (compared name asked)
compared-class Never name None how = inl refl
compared-class Never name (Some asked) how = tt

relation-class : (Never : Type 0) (name : List ℕ) (shape : Shape) (bytes : List ℕ) → Class Never shape (relation_at name (token shape bytes))
relation-class Never name (Operator how) bytes = compared-class Never name (relation_of how) how
relation-class Never name Lone bytes = inl refl
relation-class Never name Word bytes = version-class Never name relation.Equal Word bytes (λ h. absurd h)
relation-class Never name Quoted bytes = refl
relation-class Never name Broken bytes = refl
relation-class Never name Blank bytes = tt
relation-class Never name (Mark c) bytes = refl

value-class : (Never : Type 0) (name : List ℕ) (how : Test) (shape : Shape) (bytes : List ℕ) → (operator_shape shape → Never) → Class Never shape (value_at name how (token shape bytes))
value-class Never name how Word bytes h = cond_both (may_test name how bytes) _ _ (Class Never Word) (λ _. tt) (λ _. refl)
value-class Never name how Quoted bytes h = cond_both (may_test name how (quoted_value bytes)) _ _ (Class Never Quoted) (λ _. tt) (λ _. refl)
value-class Never name how Broken bytes h = refl
value-class Never name how Blank bytes h = tt
value-class Never name how (Operator other) bytes h = inr (h tt)
value-class Never name how Lone bytes h = inr (h tt)
value-class Never name how (Mark c) bytes h = refl

test-class : (Never : Type 0) (name : List ℕ) (shape : Shape) (bytes : List ℕ) → Class Never shape (test_at name (token shape bytes))
test-class Never name (Operator how) bytes = tt
test-class Never name Lone bytes = inl refl
test-class Never name Word bytes = value-class Never name test.Equal Word bytes (λ h. absurd h)
test-class Never name Quoted bytes = value-class Never name test.Equal Quoted bytes (λ h. absurd h)
test-class Never name Broken bytes = refl
test-class Never name Blank bytes = tt
test-class Never name (Mark c) bytes = refl

value-fails : (front back : List Piece) (outer : List Level) (l : Level) (b : Begun) (place : ℕ) (kind : QueryKind) → ValueKinds front back → at_end b ≡ wrong WantValue → ((p : Piece) (ps : List Piece) → back ≡ p ∷ ps → Class (operator_shape p.shape → ⊥) p.shape (progress b (token p.shape p.bytes))) → Fails (at_state outer l (Within b)) back place kind → Kind kind front back
unfolding finish step
value-fails front [] outer l b place kind k end class f =
    let here_is : fault place WantValue ≡ fault place kind = sym (ap (λ n. finish_progress place outer l n) end) ∙ f in
    let e : WantValue ≡ kind = cc in
    subst (λ m. Kind m front []) e (k.value (λ x. x) (λ x. x) (λ x. x))
value-fails front (p ∷ ps) outer l b place kind k end class f = go p.shape refl
  where
    at_shape : (shape : Shape) → p.shape ≡ shape → step (at_state outer l (Within b)) (token shape p.bytes) ≡ stops kind
    at_shape shape e = subst (λ s. step (at_state outer l (Within b)) (token s p.bytes) ≡ stops kind) e f

    kinds : (shape : Shape) → p.shape ≡ shape → ValueKinds front (heads shape p.bytes ps)
    kinds shape e = subst (λ s. ValueKinds front (heads s p.bytes ps)) e k

    classes : (shape : Shape) → p.shape ≡ shape → Class (operator_shape shape → ⊥) shape (progress b (token shape p.bytes))
    classes shape e = subst (λ s. Class (operator_shape s → ⊥) s (progress b (token s p.bytes))) e (class p ps refl)

    back_to : (shape : Shape) → p.shape ≡ shape → Kind kind front (heads shape p.bytes ps) → Kind kind front (p ∷ ps)
    back_to shape e h = subst (λ s. Kind kind front (heads s p.bytes ps)) (sym e) h

    go : (shape : Shape) → p.shape ≡ shape → Kind kind front (p ∷ ps)
    go Blank e = let g : step (at_state outer l (Within b)) gap ≡ stops kind = at_shape Blank e in cc
    go Word e = back_to Word e (value-dispatch front outer l b Word p.bytes ps kind _ (kinds Word e) (classes Word e) (λ x. cc) (at_shape Word e))
    go (Operator how) e = back_to (Operator how) e (value-dispatch front outer l b (Operator how) p.bytes ps kind _ (kinds (Operator how) e) (classes (Operator how) e) (λ x. cc) (at_shape (Operator how) e))
    go Lone e = back_to Lone e (value-dispatch front outer l b Lone p.bytes ps kind _ (kinds Lone e) (classes Lone e) (λ x. cc) (at_shape Lone e))
    go Quoted e = back_to Quoted e (value-dispatch front outer l b Quoted p.bytes ps kind _ (kinds Quoted e) (classes Quoted e) (λ x. cc) (at_shape Quoted e))
    go Broken e = back_to Broken e (value-dispatch front outer l b Broken p.bytes ps kind _ (kinds Broken e) (classes Broken e) (λ x. cc) (at_shape Broken e))
    go (Mark c) e = back_to (Mark c) e (value-dispatch front outer l b (Mark c) p.bytes ps kind _ (kinds (Mark c) e) (classes (Mark c) e) (λ x. cc) (at_shape (Mark c) e))

value-kinds : (front back : List Piece) (outer : List Level) (l : Level) (b c : Begun) → Stand front (at_state outer l (Within b)) → (here front ≡ Opening) ⊎ (here front ≡ Inside) → Open front → progress b (word dated) ≡ goes_on c → progress b (mark 41) ≡ wrong WantValue → progress b (mark 125) ≡ wrong WantValue → ValueKinds front back
value-kinds front back outer l b c d o apart takes no_close no_brace = record {
  value = want-value front back outer l b c d o apart takes no_close no_brace;
  version = bad-version front back outer l b c d o apart takes no_close no_brace;
  open_quote = want-close front back outer l b c d o apart takes no_close no_brace;
  an_operator = bad-operator front back outer l b c d o apart takes no_close no_brace;
}

-- where only what closes may stand, each fault is that
closed-fails : (outer : List Level) (l : Level) (b : Begun) (c : ℕ) (next : Progress) (back : List Piece) (place : ℕ) (kind : QueryKind) → at_end b ≡ wrong WantClose → ((t : Token) → progress b t ≡ closed_by c next t) → (step_progress outer l (mark c) next ≡ stops kind → ⊥) → ((t : Token) → step_progress outer l t next ≡ stops kind → ⊥) → Fails (at_state outer l (Within b)) back place kind → kind ≡ WantClose
unfolding finish step
closed-fails outer l b c next [] place kind end closes n m f =
    let e : fault place WantClose ≡ fault place kind = sym (ap (λ q. finish_progress place outer l q) end) ∙ f in cc
closed-fails outer l b c next (p ∷ ps) place kind end closes n m f = go (token p.shape p.bytes) f
  where
    by : (t : Token) → step_progress outer l t (progress b t) ≡ stops kind → step_progress outer l t (closed_by c next t) ≡ stops kind
    by t g = sym (ap (λ q. step_progress outer l t q) (closes t)) ∙ g

    go : (t : Token) → step (at_state outer l (Within b)) t ≡ stops kind → kind ≡ WantClose
    go gap g = cc
    go (word w) g = let h = by (word w) g in cc
    go (operator how) g = let h = by (operator how) g in cc
    go lone g = let h = by lone g in cc
    go (quoted v) g = let h = by (quoted v) g in cc
    go broken g = let h = by broken g in cc
    go (mark d) g =
        cond_both (d == c) next (wrong WantClose) (λ q. step_progress outer l (mark d) q ≡ stops kind → kind ≡ WantClose) (λ _ h. absurd (m (mark d) h)) (λ _ h. cc) (by (mark d) g)

braced-fails : (outer : List Level) (l : Level) (name : List ℕ) (asked : Option (Relation × List ℕ)) (back : List Piece) (place : ℕ) (kind : QueryKind) → Fails (at_state outer l (Within (so_far.Braced name asked))) back place kind → kind ≡ WantValue
unfolding finish step progress at_end
braced-fails outer l name asked [] place kind f = cc
braced-fails outer l name asked (p ∷ ps) place kind f = go (token p.shape p.bytes) f
  where
    go : (t : Token) → step (at_state outer l (Within (so_far.Braced name asked))) t ≡ stops kind → kind ≡ WantValue
    go gap g = cc
    go (word w) g = cond_both (is_architecture w) (goes_on (so_far.Bound name asked w)) (wrong WantValue) (λ q. step_progress outer l (word w) q ≡ stops kind → kind ≡ WantValue) (λ _ h. cc) (λ _ h. cc) g
    go (operator how) g = cc
    go lone g = cc
    go (quoted v) g = cc
    go broken g = cc
    go (mark c) g = cc

inside-sign : (place : Place) → place ≡ Inside → IsCut place (sign_of 41) []
unfolding inner_cut plain_cut is_word
inside-sign place e = (lit< tt, ap (λ q. cut_of q (41 ∷ [])) e)

never-inside : (place : Place) (back : List Piece) (p : Piece) (ps : List Piece) → place ≡ Inside → FrontCut place back [] → back ≡ p ∷ ps → operator_shape p.shape → ⊥
never-inside place back p ps e cut f = subst (λ qs. IsOperator qs → ⊥) f (inside-back place back e cut)

begun-kind : (front back : List Piece) (outer : List Level) (l : Level) (b : Begun) (place : ℕ) (kind : QueryKind) → Stand front (at_state outer l (Within b)) → BegunAt b (here front) front → FrontCut (here front) back [] → Fails (at_state outer l (Within b)) back place kind → Kind kind front back
unfolding step progress at_end
begun-kind front back outer l (so_far.Package name) place kind d j cut f =
    ended-kind front back outer l (so_far.Package name) (wanted name None None) place kind d (subst IsOuter (sym j) tt) cut refl (package-ends name) (λ w. refl) refl refl f
begun-kind front back outer l (so_far.PackageOpened name) place kind d j cut f =
    value-fails front back outer l (so_far.PackageOpened name) place kind (value-kinds front back outer l (so_far.PackageOpened name) (so_far.Versioned name relation.Equal dated) d (inl j.0) j.1 (opened-version name dated dated-version) refl refl) refl (λ p ps e. relation-class _ name p.shape p.bytes) f
begun-kind front back outer l (so_far.Compared name asked) place kind d j cut f =
    value-fails front back outer l (so_far.Compared name asked) place kind (value-kinds front back outer l (so_far.Compared name asked) (so_far.Versioned name asked dated) d (inr j.0) j.1 (compared-version name asked dated dated-version) refl refl) refl
    (λ p ps e. version-class _ name asked p.shape p.bytes (λ h. never-inside (here front) back p ps j.0 cut e)) f
begun-kind front back outer l (so_far.Versioned name asked version) place kind d j cut f =
    closing-kind front back outer l (so_far.Versioned name asked version) (at_state outer l (Within (so_far.Related name asked version))) 41 kind d (inside-back (here front) back j cut) (inl refl) (λ w. refl) refl (inside-sign (here front) j) (shut front (41 ∷ []) refl close-no_word)
    (closed-fails outer l (so_far.Versioned name asked version) 41 (goes_on (so_far.Related name asked version)) back place kind refl (λ t. refl) (λ e. cc) (λ t e. cc) f)
begun-kind front back outer l (so_far.Related name asked version) place kind d j cut f =
    ended-kind front back outer l (so_far.Related name asked version) (wanted name (Some (asked, version)) None) place kind d (subst IsOuter (sym j) tt) cut refl (related-ends name asked version) (λ w. refl) refl refl f
begun-kind front back outer l (so_far.Braced name asked) place kind d j cut f = arch-kind front back outer l name asked kind d j.0 j.1 cut (braced-fails outer l name asked back place kind f)
begun-kind front back outer l (so_far.Bound name asked arch) place kind d j cut f =
    let o : IsOuter (here front) = subst IsOuter (sym j) tt in
    closing-kind front back outer l (so_far.Bound name asked arch) (having_one outer l (wanted name asked (Some arch))) 125 kind d (outer-back (here front) back o cut).0 (inr refl) (λ w. refl) refl (sign-cut (here front) 125 o refl brace-no_word) (shut front (125 ∷ []) refl brace-no_word)
    (closed-fails outer l (so_far.Bound name asked arch) 125 (whole (wanted name asked (Some arch))) back place kind refl (λ t. refl) (λ e. cc) (λ t e. cc) f)
begun-kind front back outer l (so_far.Field name) place kind d j cut f =
    ended-kind front back outer l (so_far.Field name) (field name None) place kind d (subst IsOuter (sym j) tt) cut refl (field-ends name) (λ w. refl) refl refl f
begun-kind front back outer l (so_far.FieldOpened name) place kind d j cut f =
    value-fails front back outer l (so_far.FieldOpened name) place kind (value-kinds front back outer l (so_far.FieldOpened name) (so_far.Valued name test.Equal dated) d (inl j.0) j.1 (opened-value name (word dated) dated (inl refl) (dated-tests name test.Equal)) refl refl) refl (λ p ps e. test-class _ name p.shape p.bytes) f
begun-kind front back outer l (so_far.Tested name how) place kind d j cut f =
    value-fails front back outer l (so_far.Tested name how) place kind (value-kinds front back outer l (so_far.Tested name how) (so_far.Valued name how dated) d (inr j.0) j.1 (value-progress name how (word dated) dated (inl refl) (dated-tests name how)) refl refl) refl
    (λ p ps e. value-class _ name how p.shape p.bytes (λ h. never-inside (here front) back p ps j.0 cut e)) f
begun-kind front back outer l (so_far.Valued name how value) place kind d j cut f =
    closing-kind front back outer l (so_far.Valued name how value) (having_one outer l (field name (Some (how, value)))) 41 kind d (inside-back (here front) back j cut) (inl refl) (λ w. refl) refl (inside-sign (here front) j) (shut front (41 ∷ []) refl close-no_word)
    (closed-fails outer l (so_far.Valued name how value) 41 (whole (field name (Some (how, value)))) back place kind refl (λ t. refl) (λ e. cc) (λ t e. cc) f)

kind-of : (front back : List Piece) (outer : List Level) (l : Level) (next : Next) (place : ℕ) (kind : QueryKind) → Stand front (at_state outer l next) → FrontCut (here front) back [] → Fails (at_state outer l next) back place kind → Kind kind front back
kind-of front back outer l Wanting place kind d cut f = let j = d.reach.joint in wanting-kind front back outer l place kind d j.0 j.1 f
kind-of front back outer l Having place kind d cut f = having-kind front back outer l place kind d d.reach.joint cut f
kind-of front back outer l (Within b) place kind d cut f = begun-kind front back outer l b place kind d d.reach.joint cut f

-- a fault is of the first kind that fits its place
pub reading_kind : (text : List ℕ) (place : ℕ) (kind : QueryKind) → reading text ≡ fault place kind → IsFirstKind text place kind
reading_kind text place kind e =
    let s = reading_stopped text place kind e in
    let cut = front_split s.front s.back Outside [] (subst (λ ps. FrontCut Outside ps []) s.split (text_front text)) in
    let d : Stand s.front s.state = record { reach = s.reach; rest = _; cut = cut.0 } in
    let kinds = kind-of s.front s.back s.state.outer s.state.level s.state.next place kind d cut.1 s.fails in
    record { front = s.front; back = s.back; split = s.split; size = s.size; begins = may-stand s.front s.state d; fits = kinds.0; first = kinds.1 }
