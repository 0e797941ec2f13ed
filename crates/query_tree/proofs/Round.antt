-- What is written is read back: the text of a tree that some text spells spells it.
use Rattle.std.proofs.Common.{◌≡◌, inl, inr, ℕ, suc, zero, false, cond, ◌||◌, List, [], ◌∷◌, ◌++◌, refl, sym, ap, ◌∙◌, subst, append_assoc, append-nil, lit<}
use Rattle.std.specs.List.{prefix_len}
use Rattle.std.proofs.Common.{◌==◌}
use Rattle.query_tree.specs.declared.piece.Place.{Place}
use Rattle.query_tree.specs.declared.piece.Place.TheVariants.{Outside, BehindWord, Opening, Inside}
use Rattle.query_tree.specs.declared.piece.Shape.TheVariants.{Blank, Word, Mark}
use Rattle.query_tree.specs.Tree.{Tree, listed, any, all, negated, reference, wanted, field, nil}
use Rattle.query_tree.specs.Pieces.{Piece, Token, tokens, mark, is_blank, is_word, plain_cut, next_place, pieces, joined}
use Rattle.query_tree.specs.Grammar.{One, AllOf, AnyOf, Between, Followed, Term, all_of, any_of, QueryText}
use Rattle.query_tree.specs.Written.{is_any, is_all, in_parentheses, written, alternatives, members}
use Rattle.query_tree.proofs.Lexing.{IsOuter, NotFirst, IsCut, FrontCut, place_after, place_after-append, pieces_are}
use Rattle.query_tree.proofs.Fronts.{joined-append, front_join, tokens-append, text_front}
use Rattle.query_tree.proofs.Shown.{sign, space}
use Rattle.query_tree.proofs.Lexed.{AllLexed, lexed-split, front-lexed}
use Rattle.query_tree.proofs.Again.{Shows, term-shows, outside-blank}

-- the same text for what means as much
weaker : (R S : List Token → Tree → Type 0) (text : List ℕ) (t u : Tree) → Shows R text t → ((ts : List Token) → R ts t → S ts u) → Shows S text u
weaker R S text t u s h = record { pieces = s.pieces; texts = s.texts; begins = s.begins; cut = s.cut; after = s.after; spells = h (tokens s.pieces) s.spells }

-- more levels do no harm
Followed-map : (c : ℕ) (R S : List Token → Tree → Type 0) (ps : List Token) (ts : List Tree) → ((qs : List Token) (t : Tree) → R qs t → S qs t) → Followed c R ps ts → Followed c S ps ts
Followed-map c R S ps [] h f = f
Followed-map c R S ps (t ∷ ts) h (front, rest, e, r, more) = (front, rest, e, h front t r, Followed-map c R S rest ts h more)

Between-map : (c : ℕ) (R S : List Token → Tree → Type 0) (ps : List Token) (ts : List Tree) → ((qs : List Token) (t : Tree) → R qs t → S qs t) → Between c R ps ts → Between c S ps ts
Between-map c R S ps ts h b = record { front = b.front; last = b.last; firsts = b.firsts; final = b.final; split = b.split; trees = b.trees; each = Followed-map c R S b.front b.firsts h b.each; end = h b.last b.final b.end }

AllOf-map : (R S : List Token → Tree → Type 0) (ps : List Token) (t : Tree) → ((qs : List Token) (u : Tree) → R qs u → S qs u) → AllOf R ps t → AllOf S ps t
AllOf-map R S ps t h (ts, b, e) = (ts, Between-map 44 R S ps ts h b, e)

AnyOf-map : (R S : List Token → Tree → Type 0) (ps : List Token) (t : Tree) → ((qs : List Token) (u : Tree) → R qs u → S qs u) → AnyOf R ps t → AnyOf S ps t
AnyOf-map R S ps t h (ts, b, e) = (ts, Between-map 124 (AllOf R) (AllOf S) ps ts (λ qs u a. AllOf-map R S qs u h a) b, e)

One-more : (n : ℕ) (ps : List Token) (t : Tree) → One n ps t → One (suc n) ps t
One-more zero ps t h = inl h
One-more (suc n) ps t (inl h) = inl h
One-more (suc n) ps t (inr (inl (rest, u, e, made, h))) = inr (inl (rest, u, e, made, One-more n rest u h))
One-more (suc n) ps t (inr (inr (inner, e, h))) = inr (inr (inner, e, AnyOf-map (One n) (One (suc n)) inner t (One-more n) h))

single : (c : ℕ) (R : List Token → Tree → Type 0) (ps : List Token) (t : Tree) → R ps t → Between c R ps (t ∷ [])
single c R ps t h = record { front = []; last = ps; firsts = []; final = t; split = refl; trees = refl; each = refl; end = h }

one-all : (R : List Token → Tree → Type 0) (text : List ℕ) (t : Tree) → Shows R text t → Shows (AllOf R) text t
one-all R text t s = weaker R (AllOf R) text t t s (λ ts h. (t ∷ [], single 44 R ts t h, refl))

all-any : (R : List Token → Tree → Type 0) (text : List ℕ) (t : Tree) → Shows (AllOf R) text t → Shows (AnyOf R) text t
all-any R text t s = weaker (AllOf R) (AnyOf R) text t t s (λ ts h. (t ∷ [], single 124 (AllOf R) ts t h, refl))

-- one item more in front
Between-cons : (c : ℕ) (R : List Token → Tree → Type 0) (xs ys : List Token) (t : Tree) (ts : List Tree) → R xs t → Between c R ys ts → Between c R (xs ++ mark c ∷ ys) (t ∷ ts)
Between-cons c R xs ys t ts h b = record {
  front = xs ++ mark c ∷ b.front;
  last = b.last;
  firsts = t ∷ b.firsts;
  final = b.final;
  split = ap (λ zs. xs ++ mark c ∷ zs) b.split ∙ sym (append_assoc xs (mark c ∷ b.front) b.last);
  trees = ap (λ us. t ∷ us) b.trees;
  each = (xs, b.front, refl, h, b.each);
  end = b.end;
}

outer-sign : (place : Place) (c : ℕ) (rest : List ℕ) → IsOuter place → is_blank c ≡ false → is_word c ≡ false → IsCut place (sign c) rest
unfolding plain_cut
outer-sign Outside c rest o b w = (lit< tt, ap (λ k. cond k (record { shape = Blank; size = suc (prefix_len is_blank rest) }) (cond (is_word c) (record { shape = Word; size = suc (prefix_len is_word rest) }) (record { shape = Mark c; size = 1 }))) b ∙ ap (λ k. cond k (record { shape = Word; size = suc (prefix_len is_word rest) }) (record { shape = Mark c; size = 1 })) w)
outer-sign BehindWord c rest o b w = (lit< tt, ap (λ k. cond k (record { shape = Blank; size = suc (prefix_len is_blank rest) }) (cond (is_word c) (record { shape = Word; size = suc (prefix_len is_word rest) }) (record { shape = Mark c; size = 1 }))) b ∙ ap (λ k. cond k (record { shape = Word; size = suc (prefix_len is_word rest) }) (record { shape = Mark c; size = 1 })) w)
outer-sign Opening c rest o b w = absurd o
outer-sign Inside c rest o b w = absurd o

special : (c : ℕ) → Type 0
special c = (is_blank c ≡ false) × (is_word c ≡ false) × ((c == 40) ≡ false)

comma-special : special 44
unfolding is_word special
comma-special = (refl, refl, refl)

bar-special : special 124
unfolding is_word special
bar-special = (refl, refl, refl)

close-special : special 41
unfolding is_word special
close-special = (refl, refl, refl)

sign-after : (place : Place) (c : ℕ) → IsOuter place → (c == 40) ≡ false → next_place place (Mark c) ≡ Outside
sign-after Outside c o e = refl
sign-after BehindWord c o e = ap (λ b. cond b Opening Outside) e
sign-after Opening c o e = absurd o
sign-after Inside c o e = absurd o

outer-space : (place : Place) (rest : List ℕ) → IsOuter place → NotFirst is_blank rest → IsCut place space rest
outer-space Outside rest o h = outside-blank rest h
outer-space BehindWord rest o h = outside-blank rest h
outer-space Opening rest o h = absurd o
outer-space Inside rest o h = absurd o

space-after : (place : Place) → IsOuter place → IsOuter (next_place place Blank)
space-after Outside o = tt
space-after BehindWord o = tt
space-after Opening o = absurd o
space-after Inside o = absurd o

-- what stands between two members, by the pieces of `, ` and of ` | `
record Separator (c : ℕ) (sep : List Piece) : Type 0 where
  cut : (place : Place) (rest : List ℕ) → IsOuter place → NotFirst is_blank rest → FrontCut place sep rest
  after : (place : Place) → IsOuter place → place_after place sep ≡ Outside
  no_word : (rest : List ℕ) → NotFirst is_word (joined sep ++ rest)
  is_mark : tokens sep ≡ mark c ∷ []

comma-separator : Separator 44 (sign 44 ∷ space ∷ [])
unfolding is_word special
comma-separator = record {
  cut = λ place rest o b. (outer-sign place 44 (32 ∷ rest) o refl refl, subst (λ q. FrontCut q (space ∷ []) rest) (sym (sign-after place 44 o refl)) (outside-blank rest b, tt));
  after = λ place o. ap (λ q. next_place q Blank) (sign-after place 44 o refl);
  no_word = λ rest. refl;
  is_mark = refl;
}

bar-separator : Separator 124 (space ∷ sign 124 ∷ space ∷ [])
unfolding is_word special
bar-separator = record {
  cut = λ place rest o b. (
    outer-space place (124 ∷ 32 ∷ rest) o refl,
    (
      outer-sign (next_place place Blank) 124 (32 ∷ rest) (space-after place o) refl refl,
      subst (λ q. FrontCut q (space ∷ []) rest) (sym (sign-after (next_place place Blank) 124 (space-after place o) refl)) (outside-blank rest b, tt),
    ),
  );
  after = λ place o. ap (λ q. next_place q Blank) (sign-after (next_place place Blank) 124 (space-after place o) refl);
  no_word = λ rest. refl;
  is_mark = refl;
}

-- pieces that a text is cut into and that spell members with a mark between each two
abbrev ListOf : ℕ → (List Token → Tree → Type 0) → List Tree → List ℕ → Type 0
ListOf c R ts text = Shows (λ ps u. Between c R ps ts) text (all nil)

list-cons : (c : ℕ) (sep : List Piece) (R : List Token → Tree → Type 0) (text more : List ℕ) (t : Tree) (ts : List Tree) → Separator c sep → Shows R text t → ListOf c R ts more → ListOf c R (t ∷ ts) (text ++ (joined sep ++ more))
list-cons c sep R text more t ts between s m = record {
  pieces = s.pieces ++ (sep ++ m.pieces);
  texts =
      joined-append s.pieces (sep ++ m.pieces) ∙ ap (λ xs. xs ++ joined (sep ++ m.pieces)) s.texts
      ∙ ap (λ xs. text ++ xs) (joined-append sep m.pieces ∙ ap (λ xs. joined sep ++ xs) m.texts);
  begins = λ rest.
      subst (λ xs. NotFirst is_blank xs) (sym (ap (λ xs. xs ++ rest) (joined-append s.pieces (sep ++ m.pieces)) ∙ append_assoc (joined s.pieces) (joined (sep ++ m.pieces)) rest)) (s.begins (joined (sep ++ m.pieces) ++ rest));
  cut = λ rest n.
      let later : joined (sep ++ m.pieces) ++ rest ≡ joined sep ++ (joined m.pieces ++ rest) = ap (λ xs. xs ++ rest) (joined-append sep m.pieces) ∙ append_assoc (joined sep) (joined m.pieces) rest in
      let place = place_after Outside s.pieces in
      front_join s.pieces (sep ++ m.pieces) Outside rest (s.cut (joined (sep ++ m.pieces) ++ rest) (subst (λ xs. NotFirst is_word xs) (sym later) (between.no_word (joined m.pieces ++ rest))))
      (front_join sep m.pieces place rest (between.cut place (joined m.pieces ++ rest) s.after (m.begins rest)) (subst (λ q. FrontCut q m.pieces rest) (sym (between.after place s.after)) (m.cut rest n)));
  after =
      subst IsOuter
      (sym (place_after-append Outside s.pieces (sep ++ m.pieces) ∙ place_after-append (place_after Outside s.pieces) sep m.pieces ∙ ap (λ q. place_after q m.pieces) (between.after (place_after Outside s.pieces) s.after)))
      m.after;
  spells =
      subst (λ qs. Between c R qs (t ∷ ts))
      (sym (tokens-append s.pieces (sep ++ m.pieces) ∙ ap (λ qs. tokens s.pieces ++ qs) (tokens-append sep m.pieces ∙ ap (λ qs. qs ++ tokens m.pieces) between.is_mark)))
      (Between-cons c R (tokens s.pieces) (tokens m.pieces) t ts s.spells m.spells);
}

list-one : (c : ℕ) (R : List Token → Tree → Type 0) (text : List ℕ) (t : Tree) → Shows R text t → ListOf c R (t ∷ []) (text ++ [])
list-one c R text t s = record {
  pieces = s.pieces;
  texts = s.texts ∙ sym (append-nil text);
  begins = s.begins;
  cut = s.cut;
  after = s.after;
  spells = single c R (tokens s.pieces) t s.spells;
}

-- each tree with such a text
abbrev Each : (List Token → Tree → Type 0) → (Tree → List ℕ) → List Tree → Type 0
Each R text [] = Unit {0}
Each R text (t ∷ ts) = Shows R (text t) t × Each R text ts

abbrev member_text : Tree → List ℕ
member_text t = in_parentheses (is_any t || is_all t) (written t)

abbrev alternative_text : Tree → List ℕ
alternative_text t = in_parentheses (is_any t) (written t)

members-list : (R : List Token → Tree → Type 0) (ts : List Tree) (t : Tree) → Shows R (member_text t) t → Each R member_text ts → ListOf 44 R (t ∷ ts) (members (listed (t ∷ ts)))
members-list R [] t s e = list-one 44 R (member_text t) t s
members-list R (u ∷ us) t s e = list-cons 44 (sign 44 ∷ space ∷ []) R (member_text t) (members (listed (u ∷ us))) t (u ∷ us) comma-separator s (members-list R us u e.0 e.1)

alternatives-list : (R : List Token → Tree → Type 0) (ts : List Tree) (t : Tree) → Shows R (alternative_text t) t → Each R alternative_text ts → ListOf 124 R (t ∷ ts) (alternatives (listed (t ∷ ts)))
alternatives-list R [] t s e = list-one 124 R (alternative_text t) t s
alternatives-list R (u ∷ us) t s e = list-cons 124 (space ∷ sign 124 ∷ space ∷ []) R (alternative_text t) (alternatives (listed (u ∷ us))) t (u ∷ us) bar-separator s (alternatives-list R us u e.0 e.1)

-- parentheses, and a `!`
enclosed : (n : ℕ) (text : List ℕ) (t : Tree) → Shows (AnyOf (One n)) text t → Shows (One (suc n)) (40 ∷ (text ++ 41 ∷ [])) t
unfolding is_word special
enclosed n text t s = record {
  pieces = sign 40 ∷ (s.pieces ++ sign 41 ∷ []);
  texts = ap (λ xs. 40 ∷ xs) (joined-append s.pieces (sign 41 ∷ []) ∙ ap (λ xs. xs ++ 41 ∷ []) s.texts);
  begins = λ rest. refl;
  cut = λ rest m. (
    outer-sign Outside 40 (joined (s.pieces ++ sign 41 ∷ []) ++ rest) tt refl refl,
    front_join s.pieces (sign 41 ∷ []) Outside rest (s.cut (41 ∷ rest) refl) (outer-sign (place_after Outside s.pieces) 41 rest s.after refl refl, tt),
  );
  after = subst IsOuter (sym (place_after-append Outside s.pieces (sign 41 ∷ []) ∙ sign-after (place_after Outside s.pieces) 41 s.after refl)) tt;
  spells = inr (inr (tokens s.pieces, ap (λ qs. mark 40 ∷ qs) (tokens-append s.pieces (sign 41 ∷ [])), s.spells));
}

denied : (n : ℕ) (text : List ℕ) (u : Tree) → Shows (One n) text u → Shows (One (suc n)) (33 ∷ text) (negated u)
unfolding is_word
denied n text u s = record {
  pieces = sign 33 ∷ s.pieces;
  texts = ap (λ xs. 33 ∷ xs) s.texts;
  begins = λ rest. refl;
  cut = λ rest m. (outer-sign Outside 33 (joined s.pieces ++ rest) tt refl refl, s.cut rest m);
  after = s.after;
  spells = inr (inl (tokens s.pieces, u, refl, refl, s.spells));
}

-- a tree as a member, as an alternative and by itself
record Triple (n : ℕ) (t : Tree) : Type 0 where
  member : Shows (One n) (member_text t) t
  alternative : Shows (AllOf (One n)) (alternative_text t) t
  alone : Shows (AnyOf (One n)) (written t) t

triple-more : (n : ℕ) (t : Tree) → Triple n t → Triple (suc n) t
triple-more n t r = record {
  member = weaker (One n) (One (suc n)) (member_text t) t t r.member (λ ts h. One-more n ts t h);
  alternative = weaker (AllOf (One n)) (AllOf (One (suc n))) (alternative_text t) t t r.alternative (λ ts h. AllOf-map (One n) (One (suc n)) ts t (One-more n) h);
  alone = weaker (AnyOf (One n)) (AnyOf (One (suc n))) (written t) t t r.alone (λ ts h. AnyOf-map (One n) (One (suc n)) ts t (One-more n) h);
}

-- a tree that is written without parentheses everywhere
triple-bare : (n : ℕ) (t : Tree) → is_any t ≡ false → is_all t ≡ false → Shows (One n) (written t) t → Triple n t
triple-bare n t a b s =
    let bare : member_text t ≡ written t = ap (λ c. in_parentheses (c || is_all t) (written t)) a ∙ ap (λ c. in_parentheses c (written t)) b in
    let same : alternative_text t ≡ written t = ap (λ c. in_parentheses c (written t)) a in
    record {
      member = subst (λ xs. Shows (One n) xs t) (sym bare) s;
      alternative = subst (λ xs. Shows (AllOf (One n)) xs t) (sym same) (one-all (One n) (written t) t s);
      alone = all-any (One n) (written t) t (one-all (One n) (written t) t s);
    }

term-kind : (ts : List Token) (t : Tree) → Term ts t → (is_any t ≡ false) × (is_all t ≡ false)
term-kind ts (reference name version arch) h = (refl, refl)
term-kind ts (wanted name asked arch) h = (refl, refl)
term-kind ts (field name how) h = (refl, refl)
term-kind ts (any us) h = absurd h
term-kind ts (all us) h = absurd h
term-kind ts (negated u) h = absurd h

One-of-term : (n : ℕ) (ps : List Token) (t : Tree) → Term ps t → One n ps t
One-of-term zero ps t h = h
One-of-term (suc n) ps t h = inl h

term-triple : (n : ℕ) (ts : List Token) (t : Tree) → Term ts t → AllLexed ts → Triple n t
term-triple n ts t h l =
    let kind = term-kind ts t h in
    triple-bare n t kind.0 kind.1 (weaker Term (One n) (written t) t t (term-shows ts t h l) (λ qs g. One-of-term n qs t g))

-- the members that are spelled
module _ (n : ℕ) (again : (ts : List Token) (t : Tree) → One n ts t → AllLexed ts → Triple n t) where
  each-again : (ps : List Token) (ts : List Tree) → Followed 44 (One n) ps ts → AllLexed ps → Each (One n) member_text ts
  each-again ps [] f l = tt
  each-again ps (t ∷ ts) (front, rest, e, h, more) l =
      let parts = lexed-split front (mark 44 ∷ rest) (subst AllLexed e l) in
      ((again front t h parts.0).member, each-again rest ts more parts.1.1)

  each-snoc : (R : List Token → Tree → Type 0) (text : Tree → List ℕ) (ts : List Tree) (t : Tree) → Each R text ts → Shows R (text t) t → Each R text (ts ++ t ∷ [])
  each-snoc R text [] t e s = (s, tt)
  each-snoc R text (u ∷ us) t e s = (e.0, each-snoc R text us t e.1 s)

  -- an `all` of one or more members, as an alternative of an `any`
  record Alternative (t : Tree) : Type 0 where
    shown : Shows (AllOf (One n)) (alternative_text t) t
    alone : Shows (AnyOf (One n)) (written t) t
    deeper : Triple (suc n) t

  all-again : (us : List Tree) → Each (One n) member_text us → ((u : Tree) → us ≡ u ∷ [] → Triple n u) → (us ≡ [] → ⊥) → Alternative (all_of us)
  all-again [] e one some = absurd (some refl)
  all-again (u ∷ []) e one some = let r = one u refl in record { shown = r.alternative; alone = r.alone; deeper = triple-more n u r }
  all-again (u ∷ v ∷ us) e one some =
      let ts = u ∷ v ∷ us in
      let t = all (listed ts) in
      let shown = weaker (λ ps x. Between 44 (One n) ps ts) (AllOf (One n)) (written t) (all nil) t (members-list (One n) (v ∷ us) u e.0 e.1) (λ qs b. (ts, b, refl)) in
      let alone = all-any (One n) (written t) t shown in
      record {
        shown = shown;
        alone = alone;
        deeper = record {
          member = enclosed n (written t) t alone;
          alternative = weaker (AllOf (One n)) (AllOf (One (suc n))) (written t) t t shown (λ qs h. AllOf-map (One n) (One (suc n)) qs t (One-more n) h);
          alone = weaker (AnyOf (One n)) (AnyOf (One (suc n))) (written t) t t alone (λ qs h. AnyOf-map (One n) (One (suc n)) qs t (One-more n) h);
        };
      }

  alternative-again : (ps : List Token) (t : Tree) → AllOf (One n) ps t → AllLexed ps → Alternative t
  alternative-again ps t (us, b, made) l =
      let parts = lexed-split b.front b.last (subst AllLexed b.split l) in
      let last = again b.last b.final b.end parts.1 in
      let each = subst (λ vs. Each (One n) member_text vs) (sym b.trees) (each-snoc (One n) member_text b.firsts b.final (each-again b.front b.firsts b.each parts.0) last.member) in
      subst Alternative (sym made) (all-again us each (λ u e. only b.firsts b.final u (sym b.trees ∙ e) last) (λ e. not-nil b.firsts b.final (sym b.trees ∙ e)))
    where
      only : (xs : List Tree) (x u : Tree) → xs ++ x ∷ [] ≡ u ∷ [] → Triple n x → Triple n u
      only [] x u e r = let f : x ≡ u = cc in subst (Triple n) f r
      only (y ∷ []) x u e r = cc
      only (y ∷ z ∷ zs) x u e r = cc

      not-nil : (xs : List Tree) (x : Tree) → xs ++ x ∷ [] ≡ [] → ⊥
      not-nil [] x e = cc
      not-nil (y ∷ ys) x e = cc

  each-alternative : (ps : List Token) (ts : List Tree) → Followed 124 (AllOf (One n)) ps ts → AllLexed ps → Each (AllOf (One n)) alternative_text ts
  each-alternative ps [] f l = tt
  each-alternative ps (t ∷ ts) (front, rest, e, h, more) l =
      let parts = lexed-split front (mark 124 ∷ rest) (subst AllLexed e l) in
      ((alternative-again front t h parts.0).shown, each-alternative rest ts more parts.1.1)

  -- an `any`, by itself and in parentheses
  record Whole (t : Tree) : Type 0 where
    alone : Shows (AnyOf (One n)) (written t) t
    deeper : Triple (suc n) t

  any-of-again : (ts : List Tree) → Each (AllOf (One n)) alternative_text ts → ((a : Tree) → ts ≡ a ∷ [] → Alternative a) → (ts ≡ [] → ⊥) → Whole (any_of ts)
  any-of-again [] e one some = absurd (some refl)
  any-of-again (a ∷ []) e one some = let r = one a refl in record { alone = r.alone; deeper = r.deeper }
  any-of-again (a ∷ b ∷ cs) e one some =
      let ts = a ∷ b ∷ cs in
      let t = any (listed ts) in
      let alone = weaker (λ ps x. Between 124 (AllOf (One n)) ps ts) (AnyOf (One n)) (written t) (all nil) t (alternatives-list (AllOf (One n)) (b ∷ cs) a e.0 e.1) (λ qs h. (ts, h, refl)) in
      let member = enclosed n (written t) t alone in
      record {
        alone = alone;
        deeper = record {
          member = member;
          alternative = one-all (One (suc n)) (40 ∷ (written t ++ 41 ∷ [])) t member;
          alone = weaker (AnyOf (One n)) (AnyOf (One (suc n))) (written t) t t alone (λ qs h. AnyOf-map (One n) (One (suc n)) qs t (One-more n) h);
        };
      }

  any-again : (ps : List Token) (t : Tree) → AnyOf (One n) ps t → AllLexed ps → Whole t
  any-again ps t (ts, b, made) l =
      let parts = lexed-split b.front b.last (subst AllLexed b.split l) in
      let last = alternative-again b.last b.final b.end parts.1 in
      let each = subst (λ vs. Each (AllOf (One n)) alternative_text vs) (sym b.trees) (each-snoc (AllOf (One n)) alternative_text b.firsts b.final (each-alternative b.front b.firsts b.each parts.0) last.shown) in
      subst Whole (sym made) (any-of-again ts each (λ a e. only-alternative b.firsts b.final a (sym b.trees ∙ e) last) (λ e. some-alternative b.firsts b.final (sym b.trees ∙ e)))
    where
      only-alternative : (xs : List Tree) (x a : Tree) → xs ++ x ∷ [] ≡ a ∷ [] → Alternative x → Alternative a
      only-alternative [] x a e r = let f : x ≡ a = cc in subst Alternative f r
      only-alternative (y ∷ []) x a e r = cc
      only-alternative (y ∷ z ∷ zs) x a e r = cc

      some-alternative : (xs : List Tree) (x : Tree) → xs ++ x ∷ [] ≡ [] → ⊥
      some-alternative [] x e = cc
      some-alternative (y ∷ ys) x e = cc

One-again : (n : ℕ) (ts : List Token) (t : Tree) → One n ts t → AllLexed ts → Triple n t
One-again zero ts t h l = term-triple zero ts t h l
One-again (suc n) ts t (inl h) l = term-triple (suc n) ts t h l
One-again (suc n) ts t (inr (inl (rest, u, e, made, h))) l =
    let inner = One-again n rest u h (subst AllLexed e l).1 in
    subst (Triple (suc n)) (sym made) (triple-bare (suc n) (negated u) refl refl (denied n (member_text u) u inner.member))
One-again (suc n) ts t (inr (inr (inner, e, h))) l =
    let parts = lexed-split inner (mark 41 ∷ []) (subst AllLexed e l).1 in
    (any-again n (One-again n) inner t h parts.0).deeper

shown-text : (levels : ℕ) (text : List ℕ) (t : Tree) → Shows (AnyOf (One levels)) text t → QueryText levels text t
unfolding QueryText pieces
shown-text levels text t s =
    subst (λ xs. AnyOf (One levels) (tokens (pieces xs)) t) s.texts
    (subst (λ ps. AnyOf (One levels) (tokens ps) t) (sym (pieces_are s.pieces Outside (s.cut [] tt))) s.spells)

-- what is written of a tree that some text spells spells the tree
pub written_again : (levels : ℕ) (text : List ℕ) (t : Tree) → QueryText levels text t → QueryText levels (written t) t
unfolding QueryText
written_again levels text t h =
    shown-text levels (written t) t (any-again levels (One-again levels) (tokens (pieces text)) t h (front-lexed (pieces text) Outside [] (text_front text))).alone

-- what is spelled in so many levels is spelled in one more
pub one_level_more : (levels : ℕ) (text : List ℕ) (t : Tree) → QueryText levels text t → QueryText (suc levels) text t
unfolding QueryText
one_level_more levels text t h = AnyOf-map (One levels) (One (suc levels)) (tokens (pieces text)) t (One-more levels) h
