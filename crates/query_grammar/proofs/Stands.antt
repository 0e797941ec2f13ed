-- Which tokens stand behind a state of the reader: whatever the reader has read so far, some query begins with it.
use Rattle.std.proofs.Common.{◌≡◌, inl, inr, ℕ, suc, zero, ◌+◌, List, [], ◌∷◌, ◌++◌, refl, sym, ap, ◌∙◌, subst, append_assoc, append-nil, add-zero, add-suc, arith}
use Rattle.query_tree.specs.Tree.{Tree}
use Rattle.query_tree.specs.Pieces.{Token, mark}
use Rattle.query_tree.specs.Grammar.{One, AllOf, AnyOf, Between, Followed, all_of}
use Rattle.query_grammar.specs.Reading.{Level, with_member, with_alternative, whole_level, empty_level, negate}

abbrev pub Item : Type 1
Item = List Token → Tree → Type 0

-- one more item with its mark
pub Followed-more : (c : ℕ) (R : List Token → Tree → Type 0) (front last : List Token) (firsts : List Tree) (final : Tree) → Followed c R front firsts → R last final → Followed c R (front ++ (last ++ mark c ∷ [])) (firsts ++ final ∷ [])
Followed-more c R front last [] final e h = (last, [], ap (λ f. f ++ (last ++ mark c ∷ [])) e, h, refl)
Followed-more c R front last (t ∷ ts) final (xs, ys, e, first, rest) h =
    (xs, ys ++ (last ++ mark c ∷ []), ap (λ f. f ++ (last ++ mark c ∷ [])) e ∙ append_assoc xs (mark c ∷ ys) (last ++ mark c ∷ []), first, Followed-more c R ys last ts final rest h)

pub Between-more : (c : ℕ) (R : List Token → Tree → Type 0) (ps : List Token) (ts : List Tree) → Between c R ps ts → Followed c R (ps ++ mark c ∷ []) ts
Between-more c R ps ts b =
    subst (λ us. Followed c R (ps ++ mark c ∷ []) us) (sym b.trees)
    (subst (λ qs. Followed c R qs (b.firsts ++ b.final ∷ [])) (sym (append_assoc b.front b.last (mark c ∷ [])) ∙ ap (λ f. f ++ mark c ∷ []) (sym b.split))
    (Followed-more c R b.front b.last b.firsts b.final b.each b.end))

abbrev pub bangs : ℕ → List Token
bangs zero = []
bangs (suc n) = mark 33 ∷ bangs n

pub bangs-more : (n : ℕ) (ps : List Token) → bangs n ++ (mark 33 ∷ ps) ≡ bangs (suc n) ++ ps
bangs-more zero ps = refl
bangs-more (suc n) ps = ap (λ qs. mark 33 ∷ qs) (bangs-more n ps)

-- each `!` is a level
pub One-negated : (room n : ℕ) (ps : List Token) (t : Tree) → One room ps t → One (room + n) (bangs n ++ ps) (negate n t)
One-negated room zero ps t h = rw add-zero h
One-negated room (suc n) ps t h = rw add-suc (inr (inl (bangs n ++ ps, negate n t, refl, refl, One-negated room n ps t h)))

-- the tokens of a level where a term must begin
pub record Ready (room : ℕ) (l : Level) (ps : List Token) : Type 0 where
  pub alternatives : List Token
  pub members : List Token
  pub split : ps ≡ alternatives ++ (members ++ bangs l.negations)
  pub rooms : l.room + l.negations ≡ room
  pub each_alternative : Followed 124 (AllOf (One room)) alternatives l.alternatives
  pub each_member : Followed 44 (One room) members l.members

-- the tokens of a level where a member is whole
pub record Done (room : ℕ) (l : Level) (ps : List Token) : Type 0 where
  pub alternatives : List Token
  pub members : List Token
  pub split : ps ≡ alternatives ++ members
  pub rooms : l.room ≡ room
  pub none_open : l.negations ≡ 0
  pub each_alternative : Followed 124 (AllOf (One room)) alternatives l.alternatives
  pub between : Between 44 (One room) members l.members

pub Ready-member : (room : ℕ) (l : Level) (here ps : List Token) (t : Tree) → Ready room l here → One l.room ps t → Done room (with_member l t) (here ++ ps)
Ready-member room l here ps t r h = record {
  alternatives = r.alternatives;
  members = r.members ++ (bangs l.negations ++ ps);
  split = ap (λ f. f ++ ps) r.split ∙ append_assoc r.alternatives _ ps ∙ ap (λ f. r.alternatives ++ f) (append_assoc r.members _ ps);
  rooms = r.rooms;
  none_open = refl;
  each_alternative = r.each_alternative;
  between = record {
    front = r.members;
    last = bangs l.negations ++ ps;
    firsts = l.members;
    final = negate l.negations t;
    split = refl;
    trees = refl;
    each = r.each_member;
    end = subst (λ n. One n (bangs l.negations ++ ps) (negate l.negations t)) r.rooms (One-negated l.room l.negations ps t h);
  };
}

-- a `,` behind it
pub Done-comma : (room : ℕ) (l : Level) (here : List Token) → Done room l here → Ready room l (here ++ mark 44 ∷ [])
Done-comma room l here d = record {
  alternatives = d.alternatives;
  members = d.members ++ mark 44 ∷ [];
  split = rw d.none_open (ap (λ f. f ++ mark 44 ∷ []) d.split ∙ append_assoc d.alternatives d.members _ ∙ ap (λ f. d.alternatives ++ f) (sym (append-nil (d.members ++ mark 44 ∷ []))));
  rooms = omega (arith, d.rooms, d.none_open);
  each_alternative = d.each_alternative;
  each_member = Between-more 44 (One room) d.members l.members d.between;
}

-- a `|` behind it
pub Done-bar : (room : ℕ) (l : Level) (here : List Token) → Done room l here → Ready room (with_alternative l) (here ++ mark 124 ∷ [])
Done-bar room l here d = record {
  alternatives = d.alternatives ++ (d.members ++ mark 124 ∷ []);
  members = [];
  split = rw d.none_open (ap (λ f. f ++ mark 124 ∷ []) d.split ∙ append_assoc d.alternatives d.members _ ∙ sym (append-nil (d.alternatives ++ (d.members ++ mark 124 ∷ []))));
  rooms = omega (arith, d.rooms, d.none_open);
  each_alternative = Followed-more 124 (AllOf (One room)) d.alternatives d.members l.alternatives (all_of l.members) d.each_alternative (l.members, d.between, refl);
  each_member = refl;
}

-- a level that is whole
pub Done-whole : (room : ℕ) (l : Level) (here : List Token) → Done room l here → AnyOf (One room) here (whole_level l)
Done-whole room l here d = (
  l.alternatives ++ all_of l.members ∷ [],
  record { front = d.alternatives; last = d.members; firsts = l.alternatives; final = all_of l.members; split = d.split; trees = refl; each = d.each_alternative; end = (l.members, d.between, refl) },
  refl,
)

pub Ready-empty : (room : ℕ) → Ready room (empty_level room) []
Ready-empty room = record { alternatives = []; members = []; split = refl; rooms = add-zero room; each_alternative = refl; each_member = refl }
