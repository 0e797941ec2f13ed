-- Walks over a text, piece by piece.
use Rattle.std.proofs.Common.{◌≡◌, ℕ, ◌<◌, ◌+◌, Bool, true, false, not, List, [], ◌∷◌, ◌++◌, length, take, drop, get_or, Option, Some, None, refl, ap, subst, sym, ◌∙◌, arith, lit<, length-append}
use Rattle.std.specs.List.{list_all, prefix_len}
use Rattle.std.specs.Option.{option_and_then}
use Rattle.std.specs.Str.{bytes_eq}
use Rattle.std.proofs.lemmas.Option.{same_Some}
use Rattle.std.proofs.lemmas.List.{take_at, drop_at}
use Rattle.std.proofs.lemmas.Slice.Eq.{bytes_eq-Decides}
use Rattle.std.proofs.lemmas.Bool.{false≢true, and_parts, cond-true, cond-false, false_from_ne_true}
use Rattle.std.proofs.lemmas.Bool.Decides.{nat_tests}
use Rattle.ap_text.specs.Names.{is_alphanumeric, is_name_byte, is_name, begins_alphanumeric}
use Rattle.depends_field.specs.declared.phase.Kind.{Kind}
use Rattle.depends_field.specs.declared.phase.Phase.{Phase}
use Rattle.depends_field.specs.Pieces.{is_blank, is_word_byte, piece_len, IsCut, behind, inside_after}
use Rattle.depends_field.specs.Reading.{Read, is_piece, is_blanks, rested, advanced, with_phase, phased, stepped, run, parted, barred}
use Rattle.depends_field.specs.Groups.{AllBlank}

-- from a state before a text to a state before the rest of it
pub record Walk (kind : Kind) (inside : Bool) (s : Read) (text : List ℕ) (inside_rest : Bool) (t : Read) (rest : List ℕ) : Type 0 where
  pub pieces : List (List ℕ)
  pub cut : IsCut inside text pieces inside_rest rest
  pub ran : run kind s pieces ≡ Some t

pub cut_append : (inside inside1 inside2 : Bool) (text text1 text2 : List ℕ) (ps qs : List (List ℕ)) → IsCut inside text ps inside1 text1 → IsCut inside1 text1 qs inside2 text2 → IsCut inside text (ps ++ qs) inside2 text2
cut_append inside inside1 inside2 text text1 text2 [] qs c d =
    let P : Bool → Type 0 = λ m. IsCut m text1 qs inside2 text2 in
    let Q : List ℕ → Type 0 = λ l. IsCut inside l qs inside2 text2 in
    subst Q (sym c.1) (subst P (sym c.0) d)
cut_append inside inside1 inside2 text text1 text2 (p ∷ ps) qs c d =
    (c.0, c.1, cut_append (inside_after inside p) inside1 inside2 (behind inside text) text1 text2 ps qs c.2 d)

append_in : (kind : Kind) (ps qs : List (List ℕ)) (t u : Read) (o : Option Read) → ((v : Read) → run kind v ps ≡ Some t → run kind v (ps ++ qs) ≡ Some u) → option_and_then (λ v. run kind v ps) o ≡ Some t → option_and_then (λ v. run kind v (ps ++ qs)) o ≡ Some u
append_in kind ps qs t u None more e = cc
append_in kind ps qs t u (Some v) more e = more v e

pub run_append : (kind : Kind) (s t u : Read) (ps qs : List (List ℕ)) → run kind s ps ≡ Some t → run kind t qs ≡ Some u → run kind s (ps ++ qs) ≡ Some u
run_append kind s t u [] qs e f = ap (λ x. run kind x qs) (same_Some s t e) ∙ f
run_append kind s t u (p ∷ ps) qs e f =
    append_in kind ps qs t u (stepped kind s p) (λ v r. run_append kind v t u ps qs r f) e

pub walk_on : (kind : Kind) (inside inside1 inside2 : Bool) (s s1 s2 : Read) (text text1 text2 : List ℕ) → Walk kind inside s text inside1 s1 text1 → Walk kind inside1 s1 text1 inside2 s2 text2 → Walk kind inside s text inside2 s2 text2
walk_on kind inside inside1 inside2 s s1 s2 text text1 text2 a b = record {
  pieces = a.pieces ++ b.pieces;
  cut = cut_append inside inside1 inside2 text text1 text2 a.pieces b.pieces a.cut b.cut;
  ran = run_append kind s s1 s2 a.pieces b.pieces a.ran b.ran;
}

pub no_walk : (kind : Kind) (inside : Bool) (s : Read) (text : List ℕ) → Walk kind inside s text inside s text
no_walk kind inside s text = record { pieces = []; cut = (refl, refl); ran = refl }

pub one_walk : (kind : Kind) (inside after : Bool) (s t : Read) (p rest : List ℕ) → 0 < length p → piece_len inside (p ++ rest) ≡ length p → inside_after inside p ≡ after → stepped kind s p ≡ Some t → Walk kind inside s (p ++ rest) after t rest
one_walk kind inside after s t p rest some len turn step = record {
  pieces = p ∷ [];
  cut = (
    omega (arith, length-append p rest),
    sym (ap (λ n. take n (p ++ rest)) len ∙ take_at p rest (length p) refl),
    (turn, ap (λ n. drop n (p ++ rest)) len ∙ drop_at p rest (length p) refl),
  );
  ran = ap (option_and_then (λ u. run kind u [])) step;
}

pub walk_as : (kind : Kind) (inside after : Bool) (s t : Read) (text same rest : List ℕ) → text ≡ same → Walk kind inside s same after t rest → Walk kind inside s text after t rest
walk_as kind inside after s t text same rest e w = let P : List ℕ → Type 0 = λ l. Walk kind inside s l after t rest in subst P (sym e) w

-- how long pieces are

prefix_stops : (q : ℕ → Bool) (rest : List ℕ) → q (get_or rest 0 0) ≡ false → prefix_len q rest ≡ 0
prefix_stops q [] h = refl
prefix_stops q (b ∷ bs) h = cond-false (q b) (1 + prefix_len q bs) 0 h

pub prefix_len_append : (q : ℕ → Bool) (w rest : List ℕ) → list_all q w ≡ true → q (get_or rest 0 0) ≡ false → prefix_len q (w ++ rest) ≡ length w
prefix_len_append q [] rest all stop = prefix_stops q rest stop
prefix_len_append q (b ∷ w) rest all stop =
    let parts = and_parts (q b) (list_all q w) all in
    let more = prefix_len_append q w rest parts.1 stop in
    cond-true (q b) (1 + prefix_len q (w ++ rest)) 0 parts.0 ∙ omega (arith, more)

word_not_blank : (inside : Bool) (b : ℕ) → is_word_byte inside b ≡ true → is_blank b ≡ false
word_not_blank true b h = grind (arith, nat_tests)
word_not_blank false b h = grind (arith, nat_tests)

pub blanks_len : (inside : Bool) (w rest : List ℕ) → 0 < length w → AllBlank w → is_blank (get_or rest 0 0) ≡ false → piece_len inside (w ++ rest) ≡ length w
unfolding piece_len
blanks_len inside [] rest some all stop = absurd (omega arith)
blanks_len inside (b ∷ w) rest some all stop =
    cond-true (is_blank b) _ _ (and_parts (is_blank b) (list_all is_blank w) all).0 ∙ prefix_len_append is_blank (b ∷ w) rest all stop

pub word_len : (inside : Bool) (w rest : List ℕ) → 0 < length w → list_all (is_word_byte inside) w ≡ true → is_word_byte inside (get_or rest 0 0) ≡ false → piece_len inside (w ++ rest) ≡ length w
unfolding piece_len
word_len inside [] rest some all stop = absurd (omega arith)
word_len inside (b ∷ w) rest some all stop =
    let first = (and_parts (is_word_byte inside b) (list_all (is_word_byte inside) w) all).0 in
    cond-false (is_blank b) _ _ (word_not_blank inside b first) ∙ (cond-true (is_word_byte inside b) _ _ first ∙ prefix_len_append (is_word_byte inside) (b ∷ w) rest all stop)

pub colon_len : (rest : List ℕ) → piece_len false (58 ∷ rest) ≡ 1
unfolding piece_len
colon_len rest = refl

pub opening_len : (rest : List ℕ) → piece_len false (40 ∷ rest) ≡ 1
unfolding piece_len
opening_len rest = refl

pub comma_len : (rest : List ℕ) → piece_len false (44 ∷ rest) ≡ 1
unfolding piece_len
comma_len rest = refl

pub bar_len : (rest : List ℕ) → piece_len false (124 ∷ rest) ≡ 1
unfolding piece_len
bar_len rest = refl

pub closing_len : (rest : List ℕ) → piece_len true (41 ∷ rest) ≡ 1
unfolding piece_len
closing_len rest = refl

-- what a piece does

pub other_piece : (test : List ℕ → Bool) (p q : List ℕ) → test p ≡ true → test q ≡ false → bytes_eq p q ≡ false
other_piece test p q is isnt = false_from_ne_true (bytes_eq p q) (λ h. false≢true (sym isnt ∙ ap test (sym ((bytes_eq-Decides p q).0 h)) ∙ is))

pub comma_step : (kind : Kind) (s : Read) → stepped kind s (44 ∷ []) ≡ parted s
unfolding stepped
comma_step kind s = refl

pub bar_step : (kind : Kind) (s : Read) → stepped kind s (124 ∷ []) ≡ barred kind s
unfolding stepped
bar_step kind s = refl

pub blank_step : (kind : Kind) (s : Read) (p : List ℕ) → is_piece 44 p ≡ false → is_piece 124 p ≡ false → is_blanks p ≡ true → stepped kind s p ≡ phased s (rested s.phase)
unfolding stepped
blank_step kind s p comma bar blank =
    cond-false (is_piece 44 p) _ _ comma ∙ (cond-false (is_piece 124 p) _ _ bar ∙ cond-true (is_blanks p) _ _ blank)

pub other_step : (kind : Kind) (s : Read) (p : List ℕ) → is_piece 44 p ≡ false → is_piece 124 p ≡ false → is_blanks p ≡ false → stepped kind s p ≡ phased s (advanced kind s.phase p)
unfolding stepped
other_step kind s p comma bar blank =
    cond-false (is_piece 44 p) _ _ comma ∙ (cond-false (is_piece 124 p) _ _ bar ∙ cond-false (is_blanks p) _ _ blank)

-- blanks

pub blanks_turn : (inside : Bool) (w : List ℕ) → AllBlank w → inside_after inside w ≡ inside
unfolding inside_after
blanks_turn true w all = ap not (other_piece (list_all is_blank) w (41 ∷ []) all refl)
blanks_turn false w all = other_piece (list_all is_blank) w (40 ∷ []) all refl

blanks_first : (w : List ℕ) → 0 < length w → AllBlank w → is_blanks w ≡ true
blanks_first [] some all = absurd (omega arith)
blanks_first (b ∷ w) some all = (and_parts (is_blank b) (list_all is_blank w) all).0

pub some_blanks : (kind : Kind) (inside : Bool) (s : Read) (phase next : Phase) (w rest : List ℕ) → rested phase ≡ Some next → 0 < length w → AllBlank w → is_blank (get_or rest 0 0) ≡ false → Walk kind inside (with_phase s phase) (w ++ rest) inside (with_phase s next) rest
some_blanks kind inside s phase next w rest e some all stop =
    one_walk kind inside inside (with_phase s phase) (with_phase s next) w rest some (blanks_len inside w rest some all stop) (blanks_turn inside w all) (
    blank_step kind (with_phase s phase) w (other_piece (list_all is_blank) w (44 ∷ []) all refl) (other_piece (list_all is_blank) w (124 ∷ []) all refl) (blanks_first w some all) ∙ ap (phased (with_phase s phase)) e
    )

pub walk_blanks : (kind : Kind) (inside : Bool) (s : Read) (phase : Phase) (w rest : List ℕ) → rested phase ≡ Some phase → AllBlank w → is_blank (get_or rest 0 0) ≡ false → Walk kind inside (with_phase s phase) (w ++ rest) inside (with_phase s phase) rest
walk_blanks kind inside s phase [] rest e all stop = no_walk kind inside (with_phase s phase) rest
walk_blanks kind inside s phase (b ∷ w) rest e all stop = some_blanks kind inside s phase phase (b ∷ w) rest e (omega arith) all stop

-- a test that no blank passes fails behind blanks as it does behind none
pub behind_blanks : (q : ℕ → Bool) (w rest : List ℕ) → ((b : ℕ) → is_blank b ≡ true → q b ≡ false) → AllBlank w → q (get_or rest 0 0) ≡ false → q (get_or (w ++ rest) 0 0) ≡ false
behind_blanks q [] rest apart all stop = stop
behind_blanks q (b ∷ w) rest apart all stop = apart b (and_parts (is_blank b) (list_all is_blank w) all).0

-- words outside parentheses

alphanumeric_not_blank : (b : ℕ) → is_alphanumeric b ≡ true → is_blank b ≡ false
alphanumeric_not_blank b h = grind (arith, nat_tests)

name_some : (w : List ℕ) → is_name w ≡ true → 0 < length w
name_some [] h = cc
name_some (b ∷ w) h = omega arith

name_bytes : (w : List ℕ) → is_name w ≡ true → list_all is_name_byte w ≡ true
name_bytes w h = (and_parts _ (list_all is_name_byte w) h).1

name_begins : (w : List ℕ) → is_name w ≡ true → begins_alphanumeric w ≡ true
name_begins w h = (and_parts _ (begins_alphanumeric w) (and_parts _ (list_all is_name_byte w) h).0).1

pub name_turn : (w : List ℕ) → is_name w ≡ true → inside_after false w ≡ false
unfolding inside_after
name_turn w h = other_piece is_name w (40 ∷ []) h refl

pub name_head : (w rest : List ℕ) → is_name w ≡ true → is_blank (get_or (w ++ rest) 0 0) ≡ false
name_head [] rest h = cc
name_head (b ∷ w) rest h = alphanumeric_not_blank b (name_begins (b ∷ w) h)

pub walk_name : (kind : Kind) (s : Read) (phase next : Phase) (w rest : List ℕ) → is_name w ≡ true → advanced kind phase w ≡ Some next → is_name_byte (get_or rest 0 0) ≡ false → Walk kind false (with_phase s phase) (w ++ rest) false (with_phase s next) rest
walk_name kind s phase next w rest h e stop =
    one_walk kind false false (with_phase s phase) (with_phase s next) w rest (name_some w h) (word_len false w rest (name_some w h) (name_bytes w h) stop) (name_turn w h) (
    other_step kind (with_phase s phase) w (other_piece is_name w (44 ∷ []) h refl) (other_piece is_name w (124 ∷ []) h refl) (alphanumeric_not_blank (get_or w 0 0) (name_begins w h)) ∙ ap (phased (with_phase s phase)) e
    )

-- single bytes outside parentheses, and the closing one

pub walk_colon : (kind : Kind) (s : Read) (phase next : Phase) (rest : List ℕ) → advanced kind phase (58 ∷ []) ≡ Some next → Walk kind false (with_phase s phase) (58 ∷ rest) false (with_phase s next) rest
unfolding inside_after
walk_colon kind s phase next rest e =
    one_walk kind false false (with_phase s phase) (with_phase s next) (58 ∷ []) rest (lit< tt) (colon_len rest) refl (other_step kind (with_phase s phase) (58 ∷ []) refl refl refl ∙ ap (phased (with_phase s phase)) e)

pub walk_opening : (kind : Kind) (s : Read) (phase next : Phase) (rest : List ℕ) → advanced kind phase (40 ∷ []) ≡ Some next → Walk kind false (with_phase s phase) (40 ∷ rest) true (with_phase s next) rest
unfolding inside_after
walk_opening kind s phase next rest e =
    one_walk kind false true (with_phase s phase) (with_phase s next) (40 ∷ []) rest (lit< tt) (opening_len rest) refl (other_step kind (with_phase s phase) (40 ∷ []) refl refl refl ∙ ap (phased (with_phase s phase)) e)

pub walk_closing : (kind : Kind) (s : Read) (phase next : Phase) (rest : List ℕ) → advanced kind phase (41 ∷ []) ≡ Some next → Walk kind true (with_phase s phase) (41 ∷ rest) false (with_phase s next) rest
unfolding inside_after
walk_closing kind s phase next rest e =
    one_walk kind true false (with_phase s phase) (with_phase s next) (41 ∷ []) rest (lit< tt) (closing_len rest) refl (other_step kind (with_phase s phase) (41 ∷ []) refl refl refl ∙ ap (phased (with_phase s phase)) e)

pub walk_comma : (kind : Kind) (s t : Read) (rest : List ℕ) → parted s ≡ Some t → Walk kind false s (44 ∷ rest) false t rest
unfolding inside_after
walk_comma kind s t rest e = one_walk kind false false s t (44 ∷ []) rest (lit< tt) (comma_len rest) refl (comma_step kind s ∙ e)

pub walk_bar : (kind : Kind) (s t : Read) (rest : List ℕ) → barred kind s ≡ Some t → Walk kind false s (124 ∷ rest) false t rest
unfolding inside_after
walk_bar kind s t rest e = one_walk kind false false s t (124 ∷ []) rest (lit< tt) (bar_len rest) refl (bar_step kind s ∙ e)
