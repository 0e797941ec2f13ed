-- Parts of a root: how one goes on behind another, and where the reading of both stops.
use Rattle.std.proofs.Common.{◌≡◌, ℕ, zero, suc, ◌+◌, ◌-◌, ◌<◌, false, List, [], ◌∷◌, ◌++◌, length, take, codes, refl, sym, subst, arith, append-nil, append_assoc}
use Rattle.std.specs.List.{flat_map}
use Rattle.std.specs.Str.{bytes_eq}
use Rattle.catalogue_lines.specs.Lines.{IsLine}
use Rattle.catalogue_lines.specs.Pieces.{Piece, alone, packed, Takes}
use Rattle.catalogue_lines.specs.PartForms.{Line, Series, Then}
use Rattle.catalogue_lines.specs.Reading.{NoLine, ReadsLine, ReadsPart, Stops, Never, Always, Each}

-- the line isn't the line of a package
abbrev pub IsOther : List ℕ → Type 0
IsOther line = bytes_eq (take 8 line) (codes "package ") ≡ false

-- no line among the pieces is the line of a package
abbrev pub Others : List Piece → Type 0
Others [] = Unit {0}
Others (alone line ∷ pieces) = IsOther line × Others pieces
Others (packed p ∷ pieces) = Others pieces

-- a part goes on behind its pieces, and so does what can stand first in it
pub record IsPart {A : Type 0} (Part : (A → List Piece → Type 0) → List Piece → Type 0) (pieces : A → List Piece) (Good : A → Type 0) : Type 1 where
  pub along : (K : A → List Piece → Type 0) (a : A) (more : List Piece) → Good a → K a more → Part K (pieces a ++ more)
  pub mono : (K L : A → List Piece → Type 0) → ((a : A) (xs : List Piece) → K a xs → L a xs) → (xs : List Piece) → Part K xs → Part L xs
  pub front : (K : A → List Piece → Type 0) → ((a : A) (xs ys : List Piece) → K a (xs ++ ys) → K a xs) → (xs ys : List Piece) → Part K (xs ++ ys) → Part K xs
  pub others : (K : A → List Piece → Type 0) → ((a : A) (xs : List Piece) → K a xs → Others xs) → (xs : List Piece) → Part K xs → Others xs

-- the pieces of a part tell its value
abbrev pub IsTold : {A : Type 0} → ((A → List Piece → Type 0) → List Piece → Type 0) → (A → List Piece) → (A → Type 0) → Type 1
IsTold {A} Part pieces Good = (K : A → List Piece → Type 0) (a : A) (more : List Piece) → Good a → Part K (pieces a ++ more) → K a more

pub takes_both : (text mid rest : List ℕ) (xs ys : List Piece) → Takes text xs mid → Takes mid ys rest → Takes text (xs ++ ys) rest
takes_both text mid rest [] ys t u = subst (λ (x : List ℕ). Takes x ys rest) (sym t) u
takes_both text mid rest (x ∷ xs) ys t u = (t.0, t.1, takes_both t.0 mid rest xs ys t.2 u)

-- ---- one line
abbrev pub line_of : {A : Type 0} → (A → List ℕ) → A → List Piece
line_of spelled a = alone (spelled a) ∷ []

module _ {A : Type 0} (spelled : A → List ℕ) (Good : A → Type 0) where
  pub line_mono : (K L : A → List Piece → Type 0) → ((a : A) (xs : List Piece) → K a xs → L a xs) → (xs : List Piece) → Line spelled Good K xs → Line spelled Good L xs
  line_mono K L h [] l = tt
  line_mono K L h (alone x ∷ xs) l = (l.0, l.1, l.2, h l.0 xs l.3)
  line_mono K L h (packed p ∷ xs) l = l

  line_front : (K : A → List Piece → Type 0) → ((a : A) (xs ys : List Piece) → K a (xs ++ ys) → K a xs) → (xs ys : List Piece) → Line spelled Good K (xs ++ ys) → Line spelled Good K xs
  line_front K h [] ys l = tt
  line_front K h (alone x ∷ xs) ys l = (l.0, l.1, l.2, h l.0 xs ys l.3)
  line_front K h (packed p ∷ xs) ys l = l

  line_others : ((a : A) → Good a → IsOther (spelled a)) → (K : A → List Piece → Type 0) → ((a : A) (xs : List Piece) → K a xs → Others xs) → (xs : List Piece) → Line spelled Good K xs → Others xs
  line_others o K h [] l = tt
  line_others o K h (alone x ∷ xs) l = (subst IsOther (sym l.2) (o l.0 l.1), h l.0 xs l.3)
  line_others o K h (packed p ∷ xs) l = absurd l

  pub line_part : ((a : A) → Good a → IsOther (spelled a)) → IsPart (Line spelled Good) (line_of spelled) Good
  line_part o = record {
    along = λ K a more g k. (a, g, refl, k);
    mono = line_mono;
    front = line_front;
    others = line_others o;
  }

  pub line_told : ((a b : A) → Good a → Good b → spelled a ≡ spelled b → b ≡ a) → IsTold (Line spelled Good) (line_of spelled) Good
  line_told inj K a more g l = subst (λ (b : A). K b more) (inj a l.0 g l.1 l.2) l.3

  -- no good line stands there
  pub stops_line : (text : List ℕ) → NoLine spelled Good text → Stops (Line spelled Good) text (length text)
  stops_line text none = record {
    good = [];
    rest = text;
    takes = refl;
    left_is = refl;
    stand = tt;
    bad = never;
  }
    where
      never : (next : Piece) (behind : List ℕ) → Takes text (next ∷ []) behind → Line spelled Good Always (next ∷ []) → ⊥
      never (alone line) behind t l = none l.0 t.0 l.1 (subst (λ (x : List ℕ). IsLine text x t.0) l.2 t.1)
      never (packed p) behind t l = l

-- ---- one part behind another, whose value tells that of the first
module _ {A B : Type 0} (F : (A → List Piece → Type 0) → List Piece → Type 0) (G : A → (B → List Piece → Type 0) → List Piece → Type 0)
    (first : A → List Piece) (then : B → List Piece) (GoodF : A → Type 0) (GoodG : A → B → Type 0) (of : B → A) (f : IsPart F first GoodF) (g : (a : A) → IsPart (G a) then (GoodG a)) where
  abbrev pub Both : (B → List Piece → Type 0) → List Piece → Type 0
  Both K = F (λ a. G a K)

  abbrev pub both_pieces : B → List Piece
  both_pieces b = first (of b) ++ then b

  abbrev pub GoodBoth : B → Type 0
  GoodBoth b = GoodF (of b) × GoodG (of b) b

  pub both_part : IsPart Both both_pieces GoodBoth
  both_part = record {
    along = λ K b more good k. subst (Both K) (sym (append_assoc (first (of b)) (then b) more)) (f.along (λ a. G a K) (of b) (then b ++ more) good.0 ((g (of b)).along K b more good.1 k));
    mono = λ K L h xs p. f.mono (λ a. G a K) (λ a. G a L) (λ a ys q. (g a).mono K L h ys q) xs p;
    front = λ K h xs ys p. f.front (λ a. G a K) (λ a us vs q. (g a).front K h us vs q) xs ys p;
    others = λ K h xs p. f.others (λ a. G a K) (λ a ys q. (g a).others K h ys q) xs p;
  }

  pub both_told : IsTold F first GoodF → ((a : A) → IsTold (G a) then (GoodG a)) → IsTold Both both_pieces GoodBoth
  both_told ft gt K b more good p =
      gt (of b) K b more good.1 (ft (λ a. G a K) (of b) (then b ++ more) good.0 (subst (Both K) (append_assoc (first (of b)) (then b) more) p))

  pub stops_first : (text : List ℕ) (left : ℕ) → Stops F text left → Stops Both text left
  stops_first text left s = record {
    good = s.good;
    rest = s.rest;
    takes = s.takes;
    left_is = s.left_is;
    stand = f.mono Never (λ a. G a Never) (λ a xs n. absurd n) s.good s.stand;
    bad = λ next behind t p. s.bad next behind t (f.mono (λ a. G a Always) Always (λ a xs n. tt) (s.good ++ next ∷ []) p);
  }

  pub stops_then : IsTold F first GoodF → (text rest : List ℕ) (left : ℕ) (a : A) → GoodF a → Takes text (first a) rest → Stops (G a) rest left → Stops Both text left
  stops_then ft text rest left a good t s = record {
    good = first a ++ s.good;
    rest = s.rest;
    takes = takes_both text rest s.rest (first a) s.good t s.takes;
    left_is = s.left_is;
    stand = f.along (λ a. G a Never) a s.good good s.stand;
    bad = λ next behind u p. s.bad next behind u (ft (λ a. G a Always) a (s.good ++ next ∷ []) good (subst (Both Always) (append_assoc (first a) s.good (next ∷ [])) p));
  }

-- ---- one part behind another that doesn't depend on it
module _ {A B : Type 0} (F : (A → List Piece → Type 0) → List Piece → Type 0) (G : (B → List Piece → Type 0) → List Piece → Type 0)
    (first : A → List Piece) (second : B → List Piece) (GoodF : A → Type 0) (GoodG : B → Type 0) (f : IsPart F first GoodF) where
  abbrev pub then_pieces : A × B → List Piece
  then_pieces p = first p.0 ++ second p.1

  abbrev pub GoodThen : A × B → Type 0
  GoodThen p = GoodF p.0 × GoodG p.1

  pub then_part : IsPart G second GoodG → IsPart (Then F G) then_pieces GoodThen
  then_part g = record {
    along = λ K p more good k. subst (Then F G K) (sym (append_assoc (first p.0) (second p.1) more)) (f.along (λ a. G (λ b. K (a, b))) p.0 (second p.1 ++ more) good.0 (g.along (λ b. K (p.0, b)) p.1 more good.1 k));
    mono = λ K L h xs q. f.mono (λ a. G (λ b. K (a, b))) (λ a. G (λ b. L (a, b))) (λ a ys r. g.mono (λ b. K (a, b)) (λ b. L (a, b)) (λ b zs t. h (a, b) zs t) ys r) xs q;
    front = λ K h xs ys q. f.front (λ a. G (λ b. K (a, b))) (λ a us vs r. g.front (λ b. K (a, b)) (λ b ws zs t. h (a, b) ws zs t) us vs r) xs ys q;
    others = λ K h xs q. f.others (λ a. G (λ b. K (a, b))) (λ a ys r. g.others (λ b. K (a, b)) (λ b zs t. h (a, b) zs t) ys r) xs q;
  }

  pub then_told : IsTold F first GoodF → IsTold G second GoodG → IsTold (Then F G) then_pieces GoodThen
  then_told ft gt K p more good q =
      gt (λ b. K (p.0, b)) p.1 more good.1 (ft (λ a. G (λ b. K (a, b))) p.0 (second p.1 ++ more) good.0 (subst (Then F G K) (append_assoc (first p.0) (second p.1) more) q))

  pub stops_in_first : IsPart G second GoodG → (text : List ℕ) (left : ℕ) → Stops F text left → Stops (Then F G) text left
  stops_in_first g text left s = record {
    good = s.good;
    rest = s.rest;
    takes = s.takes;
    left_is = s.left_is;
    stand = f.mono Never (λ a. G (λ b. Never {A = A × B} (a, b))) (λ a xs n. absurd n) s.good s.stand;
    bad = λ next behind t p. s.bad next behind t (f.mono (λ a. G (λ b. Always {A = A × B} (a, b))) Always (λ a xs n. tt) (s.good ++ next ∷ []) p);
  }

  pub stops_in_second : IsTold F first GoodF → (text rest : List ℕ) (left : ℕ) (a : A) → ReadsPart first GoodF text a rest → Stops G rest left → Stops (Then F G) text left
  stops_in_second ft text rest left a r s = record {
    good = first a ++ s.good;
    rest = s.rest;
    takes = takes_both text rest s.rest (first a) s.good r.takes s.takes;
    left_is = s.left_is;
    stand = f.along (λ a. G (λ b. Never {A = A × B} (a, b))) a s.good r.good s.stand;
    bad = λ next behind u p. s.bad next behind u (ft (λ a. G (λ b. Always {A = A × B} (a, b))) a (s.good ++ next ∷ []) r.good (subst (Then F G Always) (append_assoc (first a) s.good (next ∷ [])) p));
  }

pub reads_then : {A B : Type 0} (first : A → List Piece) (second : B → List Piece) (GoodF : A → Type 0) (GoodG : B → Type 0) (text mid rest : List ℕ) (a : A) (b : B) → ReadsPart first GoodF text a mid → ReadsPart second GoodG mid b rest
    → ReadsPart {A = A × B} (λ p. first p.0 ++ second p.1) (λ p. GoodF p.0 × GoodG p.1) text (a, b) rest
reads_then first second GoodF GoodG text mid rest a b r s = record { good = (r.good, s.good); takes = takes_both text mid rest (first a) (second b) r.takes s.takes }

pub line_read : {A : Type 0} (spelled : A → List ℕ) (Good : A → Type 0) (text rest : List ℕ) (a : A) → ReadsLine spelled Good text a rest → ReadsPart (line_of spelled) Good text a rest
line_read spelled Good text rest a r = record { good = r.0; takes = (rest, r.1, refl) }

-- a line before a part that doesn't depend on it
module _ {A B : Type 0} (spelled : A → List ℕ) (Good : A → Type 0) (G : (B → List Piece → Type 0) → List Piece → Type 0) (second : B → List Piece) (GoodG : B → Type 0)
    (f : IsPart (Line spelled Good) (line_of spelled) Good) (g : IsPart G second GoodG) where
  pub line_in : (text : List ℕ) → NoLine spelled Good text → Stops (Then (Line spelled Good) G) text (length text)
  line_in text none = stops_in_first (Line spelled Good) G (line_of spelled) second Good GoodG f g text (length text) (stops_line spelled Good text none)

  pub line_up : IsTold (Line spelled Good) (line_of spelled) Good → (text rest : List ℕ) (left : ℕ) (a : A) → ReadsLine spelled Good text a rest → Stops G rest left → Stops (Then (Line spelled Good) G) text left
  line_up told text rest left a r s = stops_in_second (Line spelled Good) G (line_of spelled) second Good GoodG f told text rest left a (line_read spelled Good text rest a r) s

-- ---- a part whose value is read as another
module _ {A B : Type 0} (F : (A → List Piece → Type 0) → List Piece → Type 0) (first : A → List Piece) (GoodF : A → Type 0) (to : A → B) (of : B → A) (f : IsPart F first GoodF) where
  abbrev pub As : (B → List Piece → Type 0) → List Piece → Type 0
  As K = F (λ a. K (to a))

  abbrev pub GoodAs : B → Type 0
  GoodAs b = GoodF (of b) × (to (of b) ≡ b)

  pub as_part : IsPart As (λ b. first (of b)) GoodAs
  as_part = record {
    along = λ K b more good k. f.along (λ a. K (to a)) (of b) more good.0 (subst (λ (c : B). K c more) (sym good.1) k);
    mono = λ K L h xs p. f.mono (λ a. K (to a)) (λ a. L (to a)) (λ a ys q. h (to a) ys q) xs p;
    front = λ K h xs ys p. f.front (λ a. K (to a)) (λ a us vs q. h (to a) us vs q) xs ys p;
    others = λ K h xs p. f.others (λ a. K (to a)) (λ a ys q. h (to a) ys q) xs p;
  }

  pub as_told : IsTold F first GoodF → IsTold As (λ b. first (of b)) GoodAs
  as_told ft K b more good p = subst (λ (c : B). K c more) good.1 (ft (λ a. K (to a)) (of b) more good.0 p)

  pub stops_as : (text : List ℕ) (left : ℕ) → Stops F text left → Stops As text left
  stops_as text left s = record {
    good = s.good;
    rest = s.rest;
    takes = s.takes;
    left_is = s.left_is;
    stand = s.stand;
    bad = s.bad;
  }

-- ---- goodness said otherwise
pub part_when : {A : Type 0} (F : (A → List Piece → Type 0) → List Piece → Type 0) (pieces : A → List Piece) (Good Also : A → Type 0) → ((a : A) → Also a → Good a) → IsPart F pieces Good → IsPart F pieces Also
part_when F pieces Good Also w f = record {
  along = λ K a more g k. f.along K a more (w a g) k;
  mono = f.mono;
  front = f.front;
  others = f.others;
}

-- ---- a series
module _ {X : Type 0} (One : List X → (X → List Piece → Type 0) → List Piece → Type 0) (pieces : X → List Piece) (Good : List X → X → Type 0) (one : (done : List X) → IsPart (One done) pieces (Good done)) where
  pub series_into : (xs : List X) (n m : ℕ) (done : List X) (K : List X → List Piece → Type 0) (more : List Piece) → n ≡ length xs + m → Each Good done xs → Series m One (done ++ xs) K more → Series n One done K (flat_map pieces xs ++ more)
  series_into [] n m done K more e g h =
      let same : m ≡ n = omega arith in
      subst (λ (k : ℕ). Series k One done K more) same (subst (λ (d : List X). Series m One d K more) (append-nil done) h)
  series_into (x ∷ xs) zero m done K more e g h = absurd (omega arith)
  series_into (x ∷ xs) (suc n) m done K more e g h =
      subst (Series (suc n) One done K) (sym (append_assoc (pieces x) (flat_map pieces xs) more))
      ((one done).along (λ y. Series n One (done ++ y ∷ []) K) x (flat_map pieces xs ++ more) g.0
      (series_into xs n m (done ++ x ∷ []) K more (omega arith) g.1 (subst (λ (d : List X). Series m One d K more) (sym (append_assoc done (x ∷ []) xs)) h)))

  pub series_out : ((done : List X) → IsTold (One done) pieces (Good done)) → (xs : List X) (n m : ℕ) (done : List X) (K : List X → List Piece → Type 0) (more : List Piece) → n ≡ length xs + m → Each Good done xs → Series n One done K (flat_map pieces xs ++ more) → Series m One (done ++ xs) K more
  series_out told [] n m done K more e g h =
      let same : n ≡ m = omega arith in
      subst (λ (k : ℕ). Series k One (done ++ []) K more) same (subst (λ (d : List X). Series n One d K more) (sym (append-nil done)) h)
  series_out told (x ∷ xs) zero m done K more e g h = absurd (omega arith)
  series_out told (x ∷ xs) (suc n) m done K more e g h =
      subst (λ (d : List X). Series m One d K more) (append_assoc done (x ∷ []) xs)
      (series_out told xs n m (done ++ x ∷ []) K more (omega arith) g.1
      (told done (λ y. Series n One (done ++ y ∷ []) K) x (flat_map pieces xs ++ more) g.0
      (subst (Series (suc n) One done K) (append_assoc (pieces x) (flat_map pieces xs) more) h)))

  series_mono : (n : ℕ) (done : List X) (K L : List X → List Piece → Type 0) → ((ys : List X) (xs : List Piece) → K ys xs → L ys xs) → (xs : List Piece) → Series n One done K xs → Series n One done L xs
  series_mono zero done K L h xs p = h done xs p
  series_mono (suc n) done K L h xs p =
      (one done).mono (λ x. Series n One (done ++ x ∷ []) K) (λ x. Series n One (done ++ x ∷ []) L) (λ x ys q. series_mono n (done ++ x ∷ []) K L h ys q) xs p

  series_front : (n : ℕ) (done : List X) (K : List X → List Piece → Type 0) → ((zs : List X) (xs ys : List Piece) → K zs (xs ++ ys) → K zs xs) → (xs ys : List Piece) → Series n One done K (xs ++ ys) → Series n One done K xs
  series_front zero done K h xs ys p = h done xs ys p
  series_front (suc n) done K h xs ys p =
      (one done).front (λ x. Series n One (done ++ x ∷ []) K) (λ x us vs q. series_front n (done ++ x ∷ []) K h us vs q) xs ys p

  series_others : (n : ℕ) (done : List X) (K : List X → List Piece → Type 0) → ((ys : List X) (xs : List Piece) → K ys xs → Others xs) → (xs : List Piece) → Series n One done K xs → Others xs
  series_others zero done K h xs p = h done xs p
  series_others (suc n) done K h xs p =
      (one done).others (λ x. Series n One (done ++ x ∷ []) K) (λ x ys q. series_others n (done ++ x ∷ []) K h ys q) xs p

  abbrev pub GoodSeries : ℕ → List X → Type 0
  GoodSeries n xs = (n ≡ length xs) × Each Good [] xs

  pub series_part : (n : ℕ) → IsPart (Series n One []) (flat_map pieces) (GoodSeries n)
  series_part n = record {
    along = λ K xs more g k. series_into xs n 0 [] K more (let e = g.0 in omega arith) g.1 k;
    mono = series_mono n [];
    front = series_front n [];
    others = series_others n [];
  }

  pub series_told : ((done : List X) → IsTold (One done) pieces (Good done)) → (n : ℕ) → IsTold (Series n One []) (flat_map pieces) (GoodSeries n)
  series_told told n K xs more g p = series_out told xs n 0 [] K more (let e = g.0 in omega arith) g.1 p

  -- the reading of one stops behind those before it
  pub stops_series : ((done : List X) → IsTold (One done) pieces (Good done)) → (count : ℕ) (text rest : List ℕ) (xs : List X) (left : ℕ) → length xs < count → Each Good [] xs → Takes text (flat_map pieces xs) rest
      → Stops (One xs) rest left → Stops (Series count One []) text left
  stops_series told count text rest xs left few g t s = at count few
    where
      at : (count : ℕ) → length xs < count → Stops (Series count One []) text left
      at count few =
          let m = count - length xs - 1 in
          let e : count ≡ length xs + suc m = omega arith in
          record {
            good = flat_map pieces xs ++ s.good;
            rest = s.rest;
            takes = takes_both text rest s.rest (flat_map pieces xs) s.good t s.takes;
            left_is = s.left_is;
            stand = series_into xs count (suc m) [] Never s.good e g ((one xs).mono Never (λ x. Series m One (xs ++ x ∷ []) Never) (λ x ys n. absurd n) s.good s.stand);
            bad = λ next behind u p. s.bad next behind u
                ((one xs).mono (λ x. Series m One (xs ++ x ∷ []) Always) Always (λ x ys q. tt) (s.good ++ next ∷ [])
                (series_out told xs count (suc m) [] Always (s.good ++ next ∷ []) e g (subst (Series count One [] Always) (append_assoc (flat_map pieces xs) s.good (next ∷ [])) p)));
          }
