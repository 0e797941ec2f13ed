-- The text of a term is cut into pieces that spell it.
use Rattle.std.proofs.Common.{◌≡◌, ◌⊎◌, inl, inr, ℕ, suc, ◌+◌, Bool, true, false, cond, List, [], ◌∷◌, ◌++◌, Option, Some, None, IsTrue, refl, sym, ap, ◌∙◌, subst, append_assoc, append-nil, arith, lit<}
use Rattle.std.specs.List.{list_all, prefix_len}
use Rattle.std.proofs.lemmas.Bool.{and_parts, and_from, cond-true, cond-false}
use Rattle.deb_version.specs.declared.order.Relation.{Relation}
use Rattle.deb_version.specs.declared.order.Relation.TheVariants as relation
use Rattle.query_tree.specs.declared.query.Test.{Test}
use Rattle.query_tree.specs.declared.query.Test.TheVariants as test
use Rattle.query_tree.specs.declared.piece.Place.{Place}
use Rattle.query_tree.specs.declared.piece.Place.TheVariants.{Outside, BehindWord, Opening, Inside}
use Rattle.query_tree.specs.declared.piece.Shape.TheVariants.{Blank, Operator, Quoted, Mark}
use Rattle.query_tree.specs.Tree.{Tree, any, all, negated, reference, wanted, field}
use Rattle.query_tree.specs.Pieces.{Piece, Token, token, tokens, word, operator, quoted, mark, is_blank, is_word, plain_cut, inner_cut, next_place, joined}
use Rattle.query_tree.specs.Words.{IsReference, is_package, is_field, relation_of}
use Rattle.query_tree.specs.Grammar.{Term, Related, Bound, Tested, IsValue}
use Rattle.query_tree.specs.Written.{test_text, test_of, is_plain, is_plain_character, value_text, relation_text, arch_text, field_text, written}
use Rattle.query_tree.proofs.Lexing.{IsOuter, NotFirst, IsCut, FrontCut, place_after, place_after-append}
use Rattle.query_tree.proofs.Fronts.{joined-append, front_join, tokens-append}
use Rattle.query_tree.proofs.Shown.{IsRun, HasNoControl, run_piece, sign, space, outer-run-cut, inner-run-cut, test-cut, quoted_text, quoted-means, quoted-cut, word-no_blank}
use Rattle.query_tree.proofs.Lexed.{LexedToken, AllLexed, lexed-split, run-clean}

-- pieces that a text is cut into, whatever follows it but a word character, and that spell a tree
pub record Shows (Item : List Token → Tree → Type 0) (text : List ℕ) (t : Tree) : Type 0 where
  pub pieces : List Piece
  pub texts : joined pieces ≡ text
  pub begins : (rest : List ℕ) → NotFirst is_blank (joined pieces ++ rest)
  pub cut : (rest : List ℕ) → NotFirst is_word rest → FrontCut Outside pieces rest
  pub after : IsOuter (place_after Outside pieces)
  pub spells : Item (tokens pieces) t

pub run-begins : (text rest : List ℕ) → IsRun text → NotFirst is_blank (text ++ rest)
run-begins [] rest r = absurd (omega (arith, r.some))
run-begins (c ∷ cs) rest r = word-no_blank c (and_parts (is_word c) (list_all is_word cs) r.each).0

abbrev test_piece : Test → Piece
test_piece how = record { shape = Operator how; bytes = test_text how }

-- ` (op value)` round a piece
abbrev tested_pieces : Test → Piece → List Piece
tested_pieces how p = space ∷ sign 40 ∷ test_piece how ∷ space ∷ p ∷ sign 41 ∷ []

arch_pieces : Option (List ℕ) → List Piece
arch_pieces None = []
arch_pieces (Some arch) = space ∷ sign 123 ∷ run_piece arch ∷ sign 125 ∷ []

no_word-space : (rest : List ℕ) → NotFirst is_word (32 ∷ rest)
unfolding is_word
no_word-space rest = refl

test-no_blank : (how : Test) (rest : List ℕ) → NotFirst is_blank (test_text how ++ rest)
test-no_blank test.Equal rest = refl
test-no_blank test.Less rest = refl
test-no_blank test.LessEqual rest = refl
test-no_blank test.GreaterEqual rest = refl
test-no_blank test.Greater rest = refl
test-no_blank test.Glob rest = refl
test-no_blank test.Pattern rest = refl

blank-size : (rest : List ℕ) → NotFirst is_blank rest → IsCut Outside space rest
unfolding plain_cut
blank-size [] h = (lit< tt, refl)
blank-size (c ∷ cs) h = (lit< tt, ap (λ b. record { shape = Blank; size = suc (cond b (1 + prefix_len is_blank cs) 0) }) h)

behind-blank : (rest : List ℕ) → NotFirst is_blank rest → IsCut BehindWord space rest
behind-blank rest h = blank-size rest h

pub outside-blank : (rest : List ℕ) → NotFirst is_blank rest → IsCut Outside space rest
outside-blank rest h = blank-size rest h

inside-blank : (rest : List ℕ) → NotFirst is_blank rest → IsCut Inside space rest
unfolding inner_cut
inside-blank rest h = blank-size rest h

-- how ` (op value)` is cut behind a word
tested-cut : (how : Test) (p : Piece) (rest : List ℕ) → NotFirst is_blank (p.bytes ++ (41 ∷ rest)) → IsCut Inside p (41 ∷ rest) → next_place Inside p.shape ≡ Inside → FrontCut BehindWord (tested_pieces how p) rest
unfolding plain_cut inner_cut is_word
tested-cut how p rest b h e =
    let value = (p.bytes ++ 41 ∷ []) ++ rest in
    let inner = subst (λ xs. NotFirst is_blank xs) (sym (append_assoc p.bytes (41 ∷ []) rest)) b in
    let text : (test_text how ++ (32 ∷ (p.bytes ++ 41 ∷ []))) ++ rest ≡ test_text how ++ (32 ∷ value) = append_assoc (test_text how) (32 ∷ (p.bytes ++ 41 ∷ [])) rest in (
      behind-blank (40 ∷ ((test_text how ++ (32 ∷ (p.bytes ++ 41 ∷ []))) ++ rest)) refl,
      (
        (lit< tt, refl),
        (
          test-cut how value,
          (inside-blank value inner, (h, subst (λ q. FrontCut q (sign 41 ∷ []) rest) (sym e) ((lit< tt, refl), tt))),
        ),
      ),
    )

tested-after : (how : Test) (p : Piece) → next_place Inside p.shape ≡ Inside → place_after BehindWord (tested_pieces how p) ≡ Outside
tested-after how p e = ap (λ q. next_place q (Mark 41)) e

arch-cut : (arch : Option (List ℕ)) (place : Place) (rest : List ℕ) → IsOuter place → ((a : List ℕ) → arch ≡ Some a → IsRun a) → FrontCut place (arch_pieces arch) rest
unfolding arch_pieces plain_cut is_word
arch-cut None place rest o r = tt
arch-cut (Some arch) Outside rest o r = (outside-blank (123 ∷ ((arch ++ 125 ∷ []) ++ rest)) refl, ((lit< tt, refl), (outer-run-cut Outside arch (125 ∷ rest) (inl refl) (r arch refl) refl, ((lit< tt, refl), tt))))
arch-cut (Some arch) BehindWord rest o r = (behind-blank (123 ∷ ((arch ++ 125 ∷ []) ++ rest)) refl, ((lit< tt, refl), (outer-run-cut Outside arch (125 ∷ rest) (inl refl) (r arch refl) refl, ((lit< tt, refl), tt))))
arch-cut (Some arch) Opening rest o r = absurd o
arch-cut (Some arch) Inside rest o r = absurd o

arch-after : (arch : Option (List ℕ)) (place : Place) → IsOuter place → IsOuter (place_after place (arch_pieces arch))
unfolding arch_pieces
arch-after None place o = o
arch-after (Some arch) Outside o = tt
arch-after (Some arch) BehindWord o = tt
arch-after (Some arch) Opening o = absurd o
arch-after (Some arch) Inside o = absurd o

arch-texts : (arch : Option (List ℕ)) → joined (arch_pieces arch) ≡ arch_text arch
unfolding arch_pieces
arch-texts None = refl
arch-texts (Some arch) = refl

arch-spells : (arch : Option (List ℕ)) (back : List Token) → Bound back arch → Bound (tokens (arch_pieces arch)) arch
unfolding arch_pieces
arch-spells None back h = refl
arch-spells (Some arch) back (a, e) = (a, refl)

arch-run : (arch : Option (List ℕ)) (back : List Token) → Bound back arch → AllLexed back → (a : List ℕ) → arch ≡ Some a → IsRun a
arch-run None back h l a e = cc
arch-run (Some arch) back (h, f) l a e = let same : arch ≡ a = cc in subst IsRun same (subst AllLexed f l).1.0

related_pieces : Option (Relation × List ℕ) → List Piece
related_pieces None = []
related_pieces (Some (asked, version)) = tested_pieces (test_of asked) (run_piece version)

related-run : (asked : Relation) (version : List ℕ) (front : List Token) → Related front (Some (asked, version)) → AllLexed front → IsRun version
related-run asked version front (v, inl (r, e)) l = (subst AllLexed e l).1.0
related-run asked version front (v, inr (how, r, e)) l = (subst AllLexed e l).1.1.0

related-cut : (asked : Option (Relation × List ℕ)) (front : List Token) (rest : List ℕ) → Related front asked → AllLexed front → FrontCut BehindWord (related_pieces asked) rest × IsOuter (place_after BehindWord (related_pieces asked))
unfolding related_pieces is_word
related-cut None front rest h l = (tt, tt)
related-cut (Some (asked, version)) front rest h l =
    let run = related-run asked version front h l in
    (tested-cut (test_of asked) (run_piece version) rest (run-begins version (41 ∷ rest) run) (inner-run-cut version (41 ∷ rest) run refl) refl, tt)

asked-again : (asked : Relation) → relation_of (test_of asked) ≡ Some asked
asked-again relation.Earlier = refl
asked-again relation.EarlierEqual = refl
asked-again relation.Equal = refl
asked-again relation.LaterEqual = refl
asked-again relation.Later = refl

related-spells : (asked : Option (Relation × List ℕ)) (front : List Token) → Related front asked → Related (tokens (related_pieces asked)) asked
unfolding related_pieces
related-spells None front h = refl
related-spells (Some (asked, version)) front h = (h.0, inr (test_of asked, asked-again asked, refl))

related-texts : (asked : Option (Relation × List ℕ)) → joined (related_pieces asked) ≡ relation_text asked
unfolding related_pieces
related-texts None = refl
related-texts (Some (asked, version)) = refl

-- a value as it is written
value_piece : List ℕ → Bool → Piece
value_piece value true = run_piece value
value_piece value false = record { shape = Quoted; bytes = quoted_text value }

plain-run-of : (value : List ℕ) → is_plain value ≡ true → IsRun value
unfolding is_plain
plain-run-of [] h = cc
plain-run-of (c ∷ cs) h = record { some = omega arith; each = words (c ∷ cs) h }
  where
    words : (xs : List ℕ) → list_all is_plain_character xs ≡ true → list_all is_word xs ≡ true
    words [] e = refl
    words (x ∷ xs) e =
        let p = and_parts (is_plain_character x) (list_all is_plain_character xs) e in
        and_from _ _ (and_parts (is_word x) _ p.0).0 (words xs p.1)

value-texts : (value : List ℕ) (plain : Bool) → is_plain value ≡ plain → (value_piece value plain).bytes ≡ value_text value
unfolding value_piece value_text
value-texts value true e = sym (cond-true (is_plain value) _ _ e)
value-texts value false e = sym (cond-false (is_plain value) _ _ e)

value-cut : (value : List ℕ) (plain : Bool) (rest : List ℕ) → is_plain value ≡ plain → HasNoControl value → IsCut Inside (value_piece value plain) (41 ∷ rest) × NotFirst is_blank ((value_piece value plain).bytes ++ (41 ∷ rest)) × (next_place Inside (value_piece value plain).shape ≡ Inside)
unfolding value_piece is_word
value-cut value true rest e h = let run = plain-run-of value e in (inner-run-cut value (41 ∷ rest) run refl, run-begins value (41 ∷ rest) run, refl)
value-cut value false rest e h = (quoted-cut value (41 ∷ rest) h, refl, refl)

value-token : (value : List ℕ) (plain : Bool) → IsValue (token (value_piece value plain).shape (value_piece value plain).bytes) value
unfolding value_piece
value-token value true = inl refl
value-token value false = inr (ap quoted (quoted-means value))

tested-tokens : (how : Test) (value : List ℕ) (plain : Bool) → tokens (tested_pieces how (value_piece value plain)) ≡ mark 40 ∷ operator how ∷ token (value_piece value plain).shape (value_piece value plain).bytes ∷ mark 41 ∷ []
unfolding value_piece
tested-tokens how value true = refl
tested-tokens how value false = refl

field_pieces : Option (Test × List ℕ) → List Piece
field_pieces None = []
field_pieces (Some (how, value)) = tested_pieces how (value_piece value (is_plain value))

value-clean : (p : Token) (value : List ℕ) → IsValue p value → LexedToken p → HasNoControl value
value-clean p value (inl e) l = run-clean value (subst LexedToken e l).each
value-clean p value (inr e) l = subst LexedToken e l

tested-clean : (name : List ℕ) (how : Test) (value : List ℕ) (back : List Token) → Tested name back (Some (how, value)) → AllLexed back → HasNoControl value
tested-clean name how value back (v, p, is, inl (r, e)) l = value-clean p value is (subst AllLexed e l).1.0
tested-clean name how value back (v, p, is, inr e) l = value-clean p value is (subst AllLexed e l).1.1.0

field-cut : (name : List ℕ) (how : Option (Test × List ℕ)) (back : List Token) (rest : List ℕ) → Tested name back how → AllLexed back → FrontCut BehindWord (field_pieces how) rest × IsOuter (place_after BehindWord (field_pieces how))
unfolding field_pieces
field-cut name None back rest h l = (tt, tt)
field-cut name (Some (how, value)) back rest h l =
    let (cut, begins, stays) = value-cut value (is_plain value) rest refl (tested-clean name how value back h l) in
    (tested-cut how (value_piece value (is_plain value)) rest begins cut stays, subst IsOuter (sym (tested-after how (value_piece value (is_plain value)) stays)) tt)

field-spells : (name : List ℕ) (how : Option (Test × List ℕ)) (back : List Token) → Tested name back how → Tested name (tokens (field_pieces how)) how
unfolding field_pieces
field-spells name None back h = refl
field-spells name (Some (how, value)) back (v, p, is, h) =
    (v, token (value_piece value (is_plain value)).shape (value_piece value (is_plain value)).bytes, value-token value (is_plain value), inr (tested-tokens how value (is_plain value)))

field-texts : (how : Option (Test × List ℕ)) → joined (field_pieces how) ≡ field_text how
unfolding field_pieces
field-texts None = refl
field-texts (Some (how, value)) =
    ap (λ xs. 32 ∷ 40 ∷ (test_text how ++ 32 ∷ (xs ++ 41 ∷ []))) (value-texts value (is_plain value) refl)

no_word-pieces : (ps : List Piece) (rest : List ℕ) → (ps ≡ []) ⊎ ((qs : List Piece) × (ps ≡ space ∷ qs)) → NotFirst is_word rest → NotFirst is_word (joined ps ++ rest)
unfolding is_word
no_word-pieces ps rest (inl e) n = subst (λ qs. NotFirst is_word (joined qs ++ rest)) (sym e) n
no_word-pieces ps rest (inr (qs, e)) n = subst (λ rs. NotFirst is_word (joined rs ++ rest)) (sym e) refl

related-first : (asked : Option (Relation × List ℕ)) → (related_pieces asked ≡ []) ⊎ ((qs : List Piece) × (related_pieces asked ≡ space ∷ qs))
unfolding related_pieces
related-first None = inl refl
related-first (Some (asked, version)) = inr (_, refl)

arch-first : (arch : Option (List ℕ)) → (arch_pieces arch ≡ []) ⊎ ((qs : List Piece) × (arch_pieces arch ≡ space ∷ qs))
unfolding arch_pieces
arch-first None = inl refl
arch-first (Some arch) = inr (_, refl)

field-first : (how : Option (Test × List ℕ)) → (field_pieces how ≡ []) ⊎ ((qs : List Piece) × (field_pieces how ≡ space ∷ qs))
unfolding field_pieces
field-first None = inl refl
field-first (Some (how, value)) = inr (_, refl)

reference-shows : (text name version arch : List ℕ) → IsReference text name version arch → IsRun text → Shows Term (written (reference name version arch)) (reference name version arch)
reference-shows text name version arch r run = record {
  pieces = run_piece text ∷ [];
  texts = append-nil text ∙ r.parts;
  begins = λ rest. subst (λ xs. NotFirst is_blank xs) (sym (ap (λ xs. xs ++ rest) (append-nil text))) (run-begins text rest run);
  cut = λ rest n. (outer-run-cut Outside text rest (inl refl) run n, tt);
  after = tt;
  spells = (text, r, refl);
}

wanted-shows : (name : List ℕ) (asked : Option (Relation × List ℕ)) (arch : Option (List ℕ)) (front back : List Token) → IsTrue (is_package name) → IsRun name → Related front asked → AllLexed front → Bound back arch → AllLexed back → Shows Term (written (wanted name asked arch)) (wanted name asked arch)
wanted-shows name asked arch front back n run r lr b lb =
    let rel = related_pieces asked in
    let bound = arch_pieces arch in
    record {
      pieces = run_piece name ∷ (rel ++ bound);
      texts = ap (λ xs. name ++ xs) (joined-append rel bound ∙ ap (λ xs. xs ++ joined bound) (related-texts asked) ∙ ap (λ xs. relation_text asked ++ xs) (arch-texts arch));
      begins = λ rest. subst (λ xs. NotFirst is_blank xs) (sym (append_assoc name (joined (rel ++ bound)) rest)) (run-begins name (joined (rel ++ bound) ++ rest) run);
      cut = λ rest m.
          let later = no_word-pieces bound rest (arch-first arch) m in
          let text : joined (rel ++ bound) ++ rest ≡ joined rel ++ (joined bound ++ rest) = ap (λ xs. xs ++ rest) (joined-append rel bound) ∙ append_assoc (joined rel) (joined bound) rest in
          let parts = related-cut asked front (joined bound ++ rest) r lr in (
            outer-run-cut Outside name (joined (rel ++ bound) ++ rest) (inl refl) run (subst (λ xs. NotFirst is_word xs) (sym text) (no_word-pieces rel (joined bound ++ rest) (related-first asked) later)),
            front_join rel bound BehindWord rest parts.0 (arch-cut arch _ rest parts.1 (arch-run arch back b lb)),
          );
      after = subst IsOuter (sym (place_after-append BehindWord rel bound)) (arch-after arch _ (related-cut asked front [] r lr).1);
      spells = (n, tokens rel, tokens bound, related-spells asked front r, arch-spells arch back b, ap (λ ts. word name ∷ ts) (tokens-append rel bound));
    }

field-shows : (name : List ℕ) (how : Option (Test × List ℕ)) (back : List Token) → IsTrue (is_field name) → IsRun name → Tested name back how → AllLexed back → Shows Term (written (field name how)) (field name how)
field-shows name how back n run t l =
    let ps = field_pieces how in
    record {
      pieces = run_piece name ∷ ps;
      texts = ap (λ xs. name ++ xs) (field-texts how);
      begins = λ rest. subst (λ xs. NotFirst is_blank xs) (sym (append_assoc name (joined ps) rest)) (run-begins name (joined ps ++ rest) run);
      cut = λ rest m. (outer-run-cut Outside name (joined ps ++ rest) (inl refl) run (no_word-pieces ps rest (field-first how) m), (field-cut name how back rest t l).0);
      after = (field-cut name how back [] t l).1;
      spells = (n, tokens ps, field-spells name how back t, refl);
    }

pub term-shows : (ts : List Token) (t : Tree) → Term ts t → AllLexed ts → Shows Term (written t) t
term-shows ts (reference name version arch) (text, r, e) l = reference-shows text name version arch r (subst AllLexed e l).0
term-shows ts (wanted name asked arch) (n, front, back, r, b, e) l =
    let lexed = subst AllLexed e l in
    let parts = lexed-split front back lexed.1 in
    wanted-shows name asked arch front back n lexed.0 r parts.0 b parts.1
term-shows ts (field name how) (n, back, t, e) l = let lexed = subst AllLexed e l in field-shows name how back n lexed.0 t lexed.1
term-shows ts (any us) h l = absurd h
term-shows ts (all us) h l = absurd h
term-shows ts (negated u) h l = absurd h
