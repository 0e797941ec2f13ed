-- Some query begins with the pieces that the reader read: an end that completes them.
use Rattle.std.proofs.Common.{◌≡◌, ◌⊎◌, inl, inr, ℕ, suc, ◌+◌, Bool, true, cond, List, [], ◌∷◌, ◌++◌, Some, None, refl, sym, ap, ◌∙◌, subst, append-nil, lit<}
use Rattle.std.specs.List.{prefix_len}
use Rattle.std.proofs.lemmas.Bool.{or_right}
use Rattle.ap_text.specs.Names.{is_architecture}
use Rattle.deb_version.specs.VersionText.{is_version, fault_of, epoch_of, start_of, upstream_in, revision_in, is_epoch, is_revision_byte, is_upstream_byte, bad_in_upstream, bad_in_revision}
use Rattle.deb_version.specs.Cuts.{is_digit}
use Rattle.query_tree.specs.declared.piece.Place.{Place}
use Rattle.query_tree.specs.declared.piece.Place.TheVariants.{Outside, BehindWord, Opening, Inside}
use Rattle.query_tree.specs.declared.piece.Shape.{Shape}
use Rattle.query_tree.specs.declared.piece.Shape.TheVariants.{Blank, Word, Operator, Lone, Quoted, Broken, Mark}
use Rattle.query_tree.specs.declared.query.Test.{Test}
use Rattle.query_tree.specs.declared.query.Test.TheVariants as test
use Rattle.deb_version.specs.declared.order.Relation.{Relation}
use Rattle.deb_version.specs.declared.order.Relation.TheVariants as relation
use Rattle.query_grammar.specs.declared.term.Begun.{Begun}
use Rattle.query_grammar.specs.declared.term.Begun.TheVariants as so_far
use Rattle.query_grammar.specs.declared.level.Next.{Next}
use Rattle.query_grammar.specs.declared.level.Next.TheVariants.{Wanting, Having, Within}
use Rattle.query_tree.specs.Tree.{Tree, wanted, field}
use Rattle.query_tree.specs.Pieces.{Piece, tokens, word, mark, is_blank, is_word, plain_cut, inner_cut, opening_cut, cut_of, pieces, joined}
use Rattle.query_tree.specs.Words.{is_package, may_test}
use Rattle.query_tree.specs.Grammar.{One, AnyOf, QueryText}
use Rattle.query_grammar.specs.Reading.{goes_on, whole, progress, Level, State, with_member, whole_level, finish}
use Rattle.query_grammar.specs.Places.{CanBegin}
use Rattle.query_grammar.proofs.WordFacts.{begun-package}
use Rattle.query_grammar.proofs.Sound.{run_holds, ReadHolds}
use Rattle.query_grammar.proofs.Complete.{result_of, state, result-run, Follows, Pauses, paused, pauses-package, pauses-related, pauses-field, on-word, on-mark, ends-mark, begins-word, close, opened-version, compared-version, arch-progress, value-progress, opened-value}
use Rattle.query_tree.proofs.Lexing.{IsOuter, NotFirst, Separates, IsCut, FrontCut, place_after, pieces_are}
use Rattle.query_tree.proofs.Fronts.{LastSeparates, front_join, other_end, tokens-append}
use Rattle.query_grammar.proofs.Reach.{NextAt, BegunAt}
use Rattle.query_grammar.proofs.Viable.{Reach}

abbrev one : List ℕ
one = 49 ∷ []

abbrev letter : List ℕ
letter = 97 ∷ []

abbrev word_piece : List ℕ → Piece
word_piece bytes = record { shape = Word; bytes = bytes }

abbrev mark_piece : ℕ → Piece
mark_piece c = record { shape = Mark c; bytes = c ∷ [] }

one-version : is_version one ≡ true
unfolding is_version fault_of epoch_of start_of upstream_in revision_in is_epoch is_revision_byte is_upstream_byte bad_in_upstream bad_in_revision is_digit
one-version = refl

one-tests : (name : List ℕ) (how : Test) → may_test name how one ≡ true
unfolding may_test
one-tests name how = or_right _ _ one-version

letter-package : is_package letter ≡ true
unfolding is_package
letter-package = refl

letter-arch : is_architecture letter ≡ true
letter-arch = refl

-- a `)` for each group around
abbrev closers : List Level → List Piece
closers [] = []
closers (o ∷ os) = mark_piece 41 ∷ closers os

closers-follow : (outer : List Level) → Follows (tokens (closers outer))
closers-follow [] = tt
closers-follow (o ∷ os) = inr (inr refl)

Reads : List Level → Level → Next → List Piece → Type 0
Reads outer l next ends = (t : Tree) × (result_of (state outer l next) (tokens ends) ≡ Some t)

closers-read : (outer : List Level) (l : Level) → Reads outer l Having (closers outer)
unfolding finish Reads
closers-read [] l = (whole_level l, refl)
closers-read (o ∷ os) l =
    let (t, e) = closers-read os (with_member o (whole_level l)) in
    (t, close os o l (tokens (closers os)) ∙ e)

module _ (outer : List Level) (l : Level) where
  ended-read : (b : Begun) (t : Tree) → Pauses b t → Reads outer l (Within b) (closers outer)
  unfolding Reads
  ended-read b t p = let (u, e) = closers-read outer (with_member l t) in (u, paused outer l b t (tokens (closers outer)) p (closers-follow outer) ∙ e)

  closed-read : (b : Begun) (t : Tree) (c : ℕ) → progress b (mark c) ≡ whole t → Reads outer l (Within b) (mark_piece c ∷ closers outer)
  unfolding Reads
  closed-read b t c h = let (u, e) = closers-read outer (with_member l t) in (u, ends-mark outer l b t c (tokens (closers outer)) h ∙ e)

  versioned-read : (name : List ℕ) (asked : Relation) (version : List ℕ) → Reads outer l (Within (so_far.Versioned name asked version)) (mark_piece 41 ∷ closers outer)
  unfolding Reads progress
  versioned-read name asked version =
      let (u, e) = ended-read (so_far.Related name asked version) (wanted name (Some (asked, version)) None) (pauses-related name asked version) in
      (u, on-mark outer l (so_far.Versioned name asked version) (so_far.Related name asked version) 41 (tokens (closers outer)) refl ∙ e)

  word-read : (b c : Begun) (w : List ℕ) (ends : List Piece) → progress b (word w) ≡ goes_on c → Reads outer l (Within c) ends → Reads outer l (Within b) (word_piece w ∷ ends)
  unfolding Reads
  word-read b c w ends h (u, e) = (u, on-word outer l b c w (tokens ends) h ∙ e)

  -- the end that completes what stands
  abbrev begun-ends : Begun → List Piece
  begun-ends (so_far.Package name) = closers outer
  begun-ends (so_far.PackageOpened name) = word_piece one ∷ mark_piece 41 ∷ closers outer
  begun-ends (so_far.Compared name asked) = word_piece one ∷ mark_piece 41 ∷ closers outer
  begun-ends (so_far.Versioned name asked version) = mark_piece 41 ∷ closers outer
  begun-ends (so_far.Related name asked version) = closers outer
  begun-ends (so_far.Braced name asked) = word_piece letter ∷ mark_piece 125 ∷ closers outer
  begun-ends (so_far.Bound name asked arch) = mark_piece 125 ∷ closers outer
  begun-ends (so_far.Field name) = closers outer
  begun-ends (so_far.FieldOpened name) = word_piece one ∷ mark_piece 41 ∷ closers outer
  begun-ends (so_far.Tested name how) = word_piece one ∷ mark_piece 41 ∷ closers outer
  begun-ends (so_far.Valued name how value) = mark_piece 41 ∷ closers outer

  begun-read : (b : Begun) → Reads outer l (Within b) (begun-ends b)
  unfolding progress
  begun-read (so_far.Package name) = ended-read (so_far.Package name) (wanted name None None) (pauses-package name)
  begun-read (so_far.PackageOpened name) = word-read _ (so_far.Versioned name relation.Equal one) one _ (opened-version name one one-version) (versioned-read name relation.Equal one)
  begun-read (so_far.Compared name asked) = word-read _ (so_far.Versioned name asked one) one _ (compared-version name asked one one-version) (versioned-read name asked one)
  begun-read (so_far.Versioned name asked version) = versioned-read name asked version
  begun-read (so_far.Related name asked version) = ended-read (so_far.Related name asked version) (wanted name (Some (asked, version)) None) (pauses-related name asked version)
  begun-read (so_far.Braced name asked) = word-read _ (so_far.Bound name asked letter) letter _ (arch-progress name asked letter letter-arch) (closed-read (so_far.Bound name asked letter) (wanted name asked (Some letter)) 125 refl)
  begun-read (so_far.Bound name asked arch) = closed-read (so_far.Bound name asked arch) (wanted name asked (Some arch)) 125 refl
  begun-read (so_far.Field name) = ended-read (so_far.Field name) (field name None) (pauses-field name)
  begun-read (so_far.FieldOpened name) = word-read _ (so_far.Valued name test.Equal one) one _ (opened-value name (word one) one (inl refl) (one-tests name test.Equal)) (closed-read (so_far.Valued name test.Equal one) (field name (Some (test.Equal, one))) 41 refl)
  begun-read (so_far.Tested name how) = word-read _ (so_far.Valued name how one) one _ (value-progress name how (word one) one (inl refl) (one-tests name how)) (closed-read (so_far.Valued name how one) (field name (Some (how, one))) 41 refl)
  begun-read (so_far.Valued name how value) = closed-read (so_far.Valued name how value) (field name (Some (how, value))) 41 refl

  abbrev next-ends : Next → List Piece
  next-ends Wanting = word_piece letter ∷ closers outer
  next-ends Having = closers outer
  next-ends (Within b) = begun-ends b

  next-read : (next : Next) → Reads outer l next (next-ends next)
  unfolding Reads
  next-read Wanting =
      let (u, e) = ended-read (so_far.Package letter) (wanted letter None None) (pauses-package letter) in
      (u, begins-word outer l (so_far.Package letter) letter (tokens (closers outer)) (begun-package letter letter-package) ∙ e)
  next-read Having = closers-read outer l
  next-read (Within b) = begun-read b

-- how the ends are cut
close-cut : (place : Place) (rest : List ℕ) → IsOuter place → IsCut place (mark_piece 41) rest
unfolding plain_cut is_word
close-cut Outside rest h = (lit< tt, refl)
close-cut BehindWord rest h = (lit< tt, refl)
close-cut Opening rest h = absurd h
close-cut Inside rest h = absurd h

closers-cut : (outer : List Level) (place : Place) → IsOuter place → FrontCut place (closers outer) []
closers-cut [] place h = tt
closers-cut (o ∷ os) Outside h = (close-cut Outside _ tt, closers-cut os Outside tt)
closers-cut (o ∷ os) BehindWord h = (close-cut BehindWord _ tt, closers-cut os Outside tt)
closers-cut (o ∷ os) Opening h = absurd h
closers-cut (o ∷ os) Inside h = absurd h

prefix-none : (p : ℕ → Bool) (rest : List ℕ) → NotFirst p rest → prefix_len p rest ≡ 0
prefix-none p [] h = refl
prefix-none p (c ∷ cs) h = ap (λ b. cond b (1 + prefix_len p cs) 0) h

closers-no_word : (outer : List Level) (rest : List ℕ) → rest ≡ [] → NotFirst is_word (joined (closers outer) ++ rest)
unfolding is_word
closers-no_word [] rest e = subst (λ xs. NotFirst is_word xs) (sym e) tt
closers-no_word (o ∷ os) rest e = refl

closers-no_blank : (outer : List Level) → NotFirst is_blank (joined (closers outer))
closers-no_blank [] = tt
closers-no_blank (o ∷ os) = refl

letter-cut : (rest : List ℕ) → NotFirst is_word rest → IsCut Outside (word_piece letter) rest
unfolding plain_cut is_word
letter-cut rest h = (lit< tt, ap (λ n. record { shape = Word; size = suc n }) (prefix-none is_word rest h))

one-cut : (place : Place) (rest : List ℕ) → (place ≡ Opening) ⊎ (place ≡ Inside) → NotFirst is_word rest → IsCut place (word_piece one) rest
unfolding opening_cut inner_cut plain_cut is_word
one-cut place rest (inl e) h = (lit< tt, ap (λ q. cut_of q (one ++ rest)) e ∙ ap (λ n. record { shape = Word; size = suc n }) (prefix-none is_word rest h))
one-cut place rest (inr e) h = (lit< tt, ap (λ q. cut_of q (one ++ rest)) e ∙ ap (λ n. record { shape = Word; size = suc n }) (prefix-none is_word rest h))

inside-cut : (outer : List Level) → FrontCut Inside (mark_piece 41 ∷ closers outer) []
unfolding inner_cut plain_cut is_word
inside-cut outer = ((lit< tt, refl), closers-cut outer Outside tt)

brace-cut : (outer : List Level) → FrontCut BehindWord (mark_piece 125 ∷ closers outer) []
unfolding plain_cut is_word
brace-cut outer = ((lit< tt, refl), closers-cut outer Outside tt)

no_word-mark : NotFirst is_word (41 ∷ [])
unfolding is_word
no_word-mark = refl

no_word-brace : NotFirst is_word (125 ∷ [])
unfolding is_word
no_word-brace = refl

opened-ends-cut : (outer : List Level) → FrontCut Opening (word_piece one ∷ mark_piece 41 ∷ closers outer) []
opened-ends-cut outer = (one-cut Opening _ (inl refl) no_word-mark, inside-cut outer)

inside-ends-cut : (outer : List Level) → FrontCut Inside (word_piece one ∷ mark_piece 41 ∷ closers outer) []
inside-ends-cut outer = (one-cut Inside _ (inr refl) no_word-mark, inside-cut outer)

letter-ends-cut : (outer : List Level) → FrontCut Outside (word_piece letter ∷ mark_piece 125 ∷ closers outer) []
letter-ends-cut outer = (letter-cut _ no_word-brace, brace-cut outer)

begun-cut : (outer : List Level) (l : Level) (b : Begun) (place : Place) (front : List Piece) → BegunAt b place front → FrontCut place (begun-ends outer l b) []
begun-cut outer l (so_far.Package name) place front h = closers-cut outer place (subst IsOuter (sym h) tt)
begun-cut outer l (so_far.PackageOpened name) place front h = subst (λ q. FrontCut q (word_piece one ∷ mark_piece 41 ∷ closers outer) []) (sym h.0) (opened-ends-cut outer)
begun-cut outer l (so_far.Compared name asked) place front h = subst (λ q. FrontCut q (word_piece one ∷ mark_piece 41 ∷ closers outer) []) (sym h.0) (inside-ends-cut outer)
begun-cut outer l (so_far.Versioned name asked version) place front h = subst (λ q. FrontCut q (mark_piece 41 ∷ closers outer) []) (sym h) (inside-cut outer)
begun-cut outer l (so_far.Related name asked version) place front h = closers-cut outer place (subst IsOuter (sym h) tt)
begun-cut outer l (so_far.Braced name asked) place front h = subst (λ q. FrontCut q (word_piece letter ∷ mark_piece 125 ∷ closers outer) []) (sym h.0) (letter-ends-cut outer)
begun-cut outer l (so_far.Bound name asked arch) place front h = subst (λ q. FrontCut q (mark_piece 125 ∷ closers outer) []) (sym h) (brace-cut outer)
begun-cut outer l (so_far.Field name) place front h = closers-cut outer place (subst IsOuter (sym h) tt)
begun-cut outer l (so_far.FieldOpened name) place front h = subst (λ q. FrontCut q (word_piece one ∷ mark_piece 41 ∷ closers outer) []) (sym h.0) (opened-ends-cut outer)
begun-cut outer l (so_far.Tested name how) place front h = subst (λ q. FrontCut q (word_piece one ∷ mark_piece 41 ∷ closers outer) []) (sym h.0) (inside-ends-cut outer)
begun-cut outer l (so_far.Valued name how value) place front h = subst (λ q. FrontCut q (mark_piece 41 ∷ closers outer) []) (sym h) (inside-cut outer)

next-cut : (outer : List Level) (l : Level) (next : Next) (place : Place) (front : List Piece) → NextAt next place front → FrontCut place (next-ends outer l next) []
next-cut outer l Wanting place front h = subst (λ q. FrontCut q (word_piece letter ∷ closers outer) []) (sym h.0) (letter-cut _ (closers-no_word outer [] refl), closers-cut outer BehindWord tt)
next-cut outer l Having place front h = closers-cut outer place h
next-cut outer l (Within b) place front h = begun-cut outer l b place front h

-- a mark may stand behind any piece
shut-shape : (shape : Shape) (rest : List ℕ) → NotFirst is_blank rest → NotFirst is_word rest → Separates shape rest
shut-shape Blank rest b w = b
shut-shape Word rest b w = w
shut-shape (Operator how) rest b w = tt
shut-shape Lone rest b w = tt
shut-shape Quoted rest b w = tt
shut-shape Broken rest b w = tt
shut-shape (Mark c) rest b w = tt

pub shut : (front : List Piece) (rest : List ℕ) → NotFirst is_blank rest → NotFirst is_word rest → LastSeparates front rest
shut [] rest b w = tt
shut (p ∷ []) rest b w = shut-shape p.shape rest b w
shut (p ∷ q ∷ ps) rest b w = shut (q ∷ ps) rest b w

closers-separate : (outer : List Level) (front : List Piece) → LastSeparates front (joined (closers outer))
closers-separate outer front = shut front _ (closers-no_blank outer) (subst (λ xs. NotFirst is_word xs) (append-nil _) (closers-no_word outer [] refl))

close-separate : (outer : List Level) (front : List Piece) → LastSeparates front (joined (mark_piece 41 ∷ closers outer))
unfolding is_word
close-separate outer front = shut front _ refl refl

brace-separate : (outer : List Level) (front : List Piece) → LastSeparates front (joined (mark_piece 125 ∷ closers outer))
unfolding is_word
brace-separate outer front = shut front _ refl refl

begun-separate : (outer : List Level) (l : Level) (b : Begun) (place : Place) (front : List Piece) → BegunAt b place front → LastSeparates front (joined (begun-ends outer l b))
begun-separate outer l (so_far.Package name) place front h = closers-separate outer front
begun-separate outer l (so_far.PackageOpened name) place front h = h.1 _ refl
begun-separate outer l (so_far.Compared name asked) place front h = h.1 _ refl
begun-separate outer l (so_far.Versioned name asked version) place front h = close-separate outer front
begun-separate outer l (so_far.Related name asked version) place front h = closers-separate outer front
begun-separate outer l (so_far.Braced name asked) place front h = h.1 _ refl
begun-separate outer l (so_far.Bound name asked arch) place front h = brace-separate outer front
begun-separate outer l (so_far.Field name) place front h = closers-separate outer front
begun-separate outer l (so_far.FieldOpened name) place front h = h.1 _ refl
begun-separate outer l (so_far.Tested name how) place front h = h.1 _ refl
begun-separate outer l (so_far.Valued name how value) place front h = close-separate outer front

next-separate : (outer : List Level) (l : Level) (next : Next) (place : Place) (front : List Piece) → NextAt next place front → LastSeparates front (joined (next-ends outer l next))
next-separate outer l Wanting place front h = h.1 _ refl
next-separate outer l Having place front h = closers-separate outer front
next-separate outer l (Within b) place front h = begun-separate outer l b place front h

-- some query begins with these pieces and goes on with such an end
pub begins-with : (levels : ℕ) (front ends : List Piece) (s : State) (rest : List ℕ) (t : Tree) → Reach levels front s → FrontCut Outside front rest → FrontCut (place_after Outside front) ends [] → LastSeparates front (joined ends) → result_of s (tokens ends) ≡ Some t → (text : List ℕ) × (pieces text ≡ front ++ ends) × QueryText levels text t
unfolding QueryText pieces
begins-with levels front ends s rest t r cut more separates reads =
    let here = other_end front Outside rest (joined ends) r.sound cut separates in
    let all = front_join front ends Outside [] (subst (λ xs. FrontCut Outside front xs) (sym (append-nil (joined ends))) here) more in
    let is = pieces_are (front ++ ends) Outside all in
    let read = subst (λ q. ReadHolds levels (tokens front ++ tokens ends) q) (result-run ends 0 s t reads) (run_holds ends levels 0 s (tokens front) r.stands) in
    (joined (front ++ ends), is, subst (λ ts. AnyOf (One levels) ts t) (sym (ap tokens is ∙ tokens-append front ends)) read)

pub viable : (levels : ℕ) (front : List Piece) (s : State) (rest : List ℕ) → Reach levels front s → FrontCut Outside front rest → CanBegin levels front
unfolding Reads
viable levels front s rest r cut =
    let ends = next-ends s.outer s.level s.next in
    let (t, reads) = next-read s.outer s.level s.next in
    let (text, is, spells) = begins-with levels front ends s rest t r cut (next-cut s.outer s.level s.next (place_after Outside front) front r.joint) (next-separate s.outer s.level s.next (place_after Outside front) front r.joint) reads in
    (text, ends, t, is, spells)
