-- What is read is spelled so: the tokens behind each state of the reader, kept by each step.
use Rattle.std.proofs.Common.{◌≡◌, inl, inr, ℕ, suc, zero, ◌+◌, ◌==◌, Bool, true, false, cond, List, [], ◌∷◌, ◌++◌, length, refl, sym, ap, ◌∙◌, subst, append_assoc, append-nil, arith}
use Rattle.std.proofs.lemmas.Bool.{eqb-true}
use Rattle.query_grammar.specs.declared.level.Next.{Next}
use Rattle.query_grammar.specs.declared.level.Next.TheVariants.{Wanting, Having, Within}
use Rattle.query_tree.specs.Tree.{Tree}
use Rattle.query_tree.specs.Pieces.{Token, Piece, token, tokens, behind, gap, word, mark}
use Rattle.query_tree.specs.Grammar.{One, AnyOf, Term}
use Rattle.query_tree.proofs.Fronts.{behind_append}
use Rattle.query_grammar.specs.Reading.{Progress, goes_on, whole, ended, wrong, progress, at_end, begun, Level, State, Step, goes, stops, with_member, with_alternative, whole_level, closed_group, step_having, step_progress, begin_negation, begin_group, step_wanting, step_next, step, Reading, tree, fault, finish_having, finish_progress, finish, start, run}
use Rattle.query_grammar.proofs.Stands.{Ready, Done, Ready-member, Ready-empty, Done-comma, Done-bar, Done-whole, bangs, bangs-more}
use Rattle.query_grammar.proofs.Terms.{Begins, Makes, progress_makes, Ends, at_end-ends, begun_makes}

-- the tokens around a level that has so many levels left at its start
abbrev pub Around : ℕ → List Level → ℕ → List Token → Type 0
Around most [] room ps = (room ≡ most) × (ps ≡ [])
Around most (l ∷ ls) room ps =
    (outer_room : ℕ) × (before : List Token) × (here : List Token) × (ps ≡ before ++ (here ++ mark 40 ∷ [])) × (l.room ≡ suc room) × Ready outer_room l here × Around most ls outer_room before

abbrev pub Here : ℕ → Level → Next → List Token → Type 0
Here room l Wanting here = Ready room l here
Here room l Having here = Done room l here
Here room l (Within b) here = (front : List Token) × (term : List Token) × (here ≡ front ++ term) × Ready room l front × Begins b term

-- the tokens behind a state
pub record Stands (most : ℕ) (s : State) (ps : List Token) : Type 0 where
  pub room : ℕ
  pub before : List Token
  pub here : List Token
  pub split : ps ≡ before ++ here
  pub around : Around most s.outer room before
  pub inside : Here room s.level s.next here

abbrev pub StepHolds : ℕ → List Token → Step → Type 0
StepHolds most ps (goes s) = Stands most s ps
StepHolds most ps (stops kind) = Unit {0}

StepHolds-if : (most : ℕ) (ps : List Token) (c : Bool) (here there : Step) → (c ≡ true → StepHolds most ps here) → (c ≡ false → StepHolds most ps there) → StepHolds most ps (cond c here there)
StepHolds-if most ps true here there h g = h refl
StepHolds-if most ps false here there h g = g refl

at_mark : (most : ℕ) (ps : List Token) (c d : ℕ) (next : Step) → (d == c) ≡ true → StepHolds most (ps ++ mark c ∷ []) next → StepHolds most (ps ++ mark d ∷ []) next
at_mark most ps c d next e h = subst (λ n. StepHolds most (ps ++ mark n ∷ []) next) (sym (eqb-true d c e)) h

pub One-term : (n : ℕ) (ps : List Token) (t : Tree) → Term ps t → One n ps t
One-term zero ps t h = h
One-term (suc n) ps t h = inl h

behind_split : (ps before here : List Token) (p : Token) → ps ≡ before ++ here → ps ++ p ∷ [] ≡ before ++ (here ++ p ∷ [])
behind_split ps before here p e = ap (λ qs. qs ++ p ∷ []) e ∙ append_assoc before here (p ∷ [])

closed_holds : (most room : ℕ) (outer : List Level) (l : Level) (ps before here : List Token) → ps ≡ before ++ here → Around most outer room before → Done room l here → StepHolds most (ps ++ mark 41 ∷ []) (closed_group outer l)
closed_holds most room [] l ps before here e a d = tt
closed_holds most room (o ∷ os) l ps before here e (outer_room, first, opened, f, rooms, ready, around) d =
    let group = mark 40 ∷ (here ++ mark 41 ∷ []) in
    record {
      room = outer_room;
      before = first;
      here = opened ++ group;
      split =
          behind_split ps before here (mark 41) e ∙ ap (λ qs. qs ++ (here ++ mark 41 ∷ [])) f
          ∙ append_assoc first (opened ++ mark 40 ∷ []) (here ++ mark 41 ∷ [])
          ∙ ap (λ qs. first ++ qs) (append_assoc opened (mark 40 ∷ []) (here ++ mark 41 ∷ []));
      around = around;
      inside = Ready-member outer_room o opened group (whole_level l) ready (subst (λ n. One n group (whole_level l)) (sym rooms) (inr (inr (here, refl, Done-whole room l here d))));
    }

having_holds : (most room : ℕ) (outer : List Level) (l : Level) (ps before here : List Token) (p : Token) → ps ≡ before ++ here → Around most outer room before → Done room l here → StepHolds most (ps ++ p ∷ []) (step_having outer l p)
unfolding step_having
having_holds most room outer l ps before here (mark c) e a d =
    StepHolds-if most _ (c == 44) _ _
    (λ h. at_mark most ps 44 c (goes (record { outer = outer; level = l; next = Wanting })) h
    (record { room = room; before = before; here = here ++ mark 44 ∷ []; split = behind_split ps before here (mark 44) e; around = a; inside = Done-comma room l here d }))
    (λ _. StepHolds-if most _ (c == 124) _ _
    (λ h. at_mark most ps 124 c (goes (record { outer = outer; level = with_alternative l; next = Wanting })) h
    (record { room = room; before = before; here = here ++ mark 124 ∷ []; split = behind_split ps before here (mark 124) e; around = a; inside = Done-bar room l here d }))
    (λ _. StepHolds-if most _ (c == 41) _ _
    (λ h. at_mark most ps 41 c (closed_group outer l) h (closed_holds most room outer l ps before here e a d))
    (λ _. tt)))
having_holds most room outer l ps before here p e a d = tt

progress_holds : (most room : ℕ) (outer : List Level) (l : Level) (ps before front term : List Token) (p : Token) (next : Progress) → ps ≡ before ++ (front ++ term) → Around most outer room before → Ready room l front → Makes term p next → StepHolds most (ps ++ p ∷ []) (step_progress outer l p next)
progress_holds most room outer l ps before front term p (goes_on b) e a r m =
    record { room = room; before = before; here = (front ++ term) ++ p ∷ []; split = behind_split ps before (front ++ term) p e; around = a; inside = (front, term ++ p ∷ [], append_assoc front term (p ∷ []), r, m) }
progress_holds most room outer l ps before front term p (whole t) e a r m =
    record { room = room; before = before; here = front ++ (term ++ p ∷ []); split = behind_split ps before (front ++ term) p e ∙ ap (λ qs. before ++ qs) (append_assoc front term (p ∷ [])); around = a; inside = Ready-member room l front (term ++ p ∷ []) t r (One-term l.room _ t m) }
progress_holds most room outer l ps before front term p (ended t) e a r m =
    having_holds most room outer (with_member l t) ps before (front ++ term) p e a (Ready-member room l front term t r (One-term l.room term t m))
progress_holds most room outer l ps before front term p (wrong kind) e a r m = tt

negation_holds : (most room : ℕ) (outer : List Level) (l : Level) (n : ℕ) (ps before here : List Token) → l.room ≡ n → ps ≡ before ++ here → Around most outer room before → Ready room l here → StepHolds most (ps ++ mark 33 ∷ []) (begin_negation outer l n)
negation_holds most room outer l zero ps before here rooms e a r = tt
negation_holds most room outer l (suc n) ps before here rooms e a r = record {
  room = room;
  before = before;
  here = here ++ mark 33 ∷ [];
  split = behind_split ps before here (mark 33) e;
  around = a;
  inside = record {
    alternatives = r.alternatives;
    members = r.members;
    split =
        ap (λ qs. qs ++ mark 33 ∷ []) r.split ∙ append_assoc r.alternatives _ (mark 33 ∷ [])
        ∙ ap (λ qs. r.alternatives ++ qs) (append_assoc r.members (bangs l.negations) (mark 33 ∷ []) ∙ ap (λ qs. r.members ++ qs) (bangs-more l.negations [] ∙ append-nil _));
    rooms = more_room l.room l.negations n room rooms r.rooms;
    each_alternative = r.each_alternative;
    each_member = r.each_member;
  };
}
  where
    more_room : (a b n room : ℕ) → a ≡ suc n → a + b ≡ room → n + suc b ≡ room
    more_room a b n room e h = omega arith

group_holds : (most room : ℕ) (outer : List Level) (l : Level) (n : ℕ) (ps before here : List Token) → l.room ≡ n → ps ≡ before ++ here → Around most outer room before → Ready room l here → StepHolds most (ps ++ mark 40 ∷ []) (begin_group outer l n)
group_holds most room outer l zero ps before here rooms e a r = tt
group_holds most room outer l (suc n) ps before here rooms e a r = record {
  room = n;
  before = before ++ (here ++ mark 40 ∷ []);
  here = [];
  split = behind_split ps before here (mark 40) e ∙ sym (append-nil _);
  around = (room, before, here, refl, rooms, r, a);
  inside = Ready-empty n;
}

wanting_holds : (most room : ℕ) (outer : List Level) (l : Level) (ps before here : List Token) (p : Token) → ps ≡ before ++ here → Around most outer room before → Ready room l here → StepHolds most (ps ++ p ∷ []) (step_wanting outer l p)
unfolding step_wanting
wanting_holds most room outer l ps before here (word text) e a r =
    progress_holds most room outer l ps before here [] (word text) (begun text) (e ∙ ap (λ qs. before ++ qs) (sym (append-nil here))) a r (begun_makes text)
wanting_holds most room outer l ps before here (mark c) e a r =
    StepHolds-if most _ (c == 33) _ _
    (λ h. at_mark most ps 33 c (begin_negation outer l l.room) h (negation_holds most room outer l l.room ps before here refl e a r))
    (λ _. StepHolds-if most _ (c == 40) _ _
    (λ h. at_mark most ps 40 c (begin_group outer l l.room) h (group_holds most room outer l l.room ps before here refl e a r))
    (λ _. tt))
wanting_holds most room outer l ps before here p e a r = tt

next_holds : (most room : ℕ) (outer : List Level) (l : Level) (next : Next) (ps before here : List Token) (p : Token) → ps ≡ before ++ here → Around most outer room before → Here room l next here → StepHolds most (ps ++ p ∷ []) (step_next outer l next p)
next_holds most room outer l Wanting ps before here p e a h = wanting_holds most room outer l ps before here p e a h
next_holds most room outer l Having ps before here p e a h = having_holds most room outer l ps before here p e a h
next_holds most room outer l (Within b) ps before here p e a (front, term, f, r, g) =
    progress_holds most room outer l ps before front term p (progress b p) (e ∙ ap (λ qs. before ++ qs) f) a r (progress_makes b term p g)

-- a step keeps what stands behind the state
pub step_holds : (most : ℕ) (s : State) (ps : List Token) (p : Token) → Stands most s ps → StepHolds most (ps ++ behind p []) (step s p)
unfolding step
step_holds most s ps gap h = subst (λ qs. Stands most s qs) (sym (append-nil ps)) h
step_holds most s ps p h = next_holds most h.room s.outer s.level s.next ps h.before h.here p h.split h.around h.inside

-- what is read is spelled by the tokens
abbrev pub ReadHolds : ℕ → List Token → Reading → Type 0
ReadHolds most ps (tree t) = AnyOf (One most) ps t
ReadHolds most ps (fault at kind) = Unit {0}

finish_having_holds : (most room at : ℕ) (outer : List Level) (l : Level) (ps before here : List Token) → ps ≡ before ++ here → Around most outer room before → Done room l here → ReadHolds most ps (finish_having at outer l)
finish_having_holds most room at [] l ps before here e (rooms, none) d =
    subst (λ qs. AnyOf (One most) qs (whole_level l)) (sym (e ∙ ap (λ qs. qs ++ here) none)) (subst (λ n. AnyOf (One n) here (whole_level l)) rooms (Done-whole room l here d))
finish_having_holds most room at (o ∷ os) l ps before here e a d = tt

finish_progress_holds : (most room at : ℕ) (outer : List Level) (l : Level) (ps before front term : List Token) (next : Progress) → ps ≡ before ++ (front ++ term) → Around most outer room before → Ready room l front → Ends term next → ReadHolds most ps (finish_progress at outer l next)
finish_progress_holds most room at outer l ps before front term (goes_on b) e a r h = tt
finish_progress_holds most room at outer l ps before front term (whole t) e a r h = absurd h
finish_progress_holds most room at outer l ps before front term (ended t) e a r h =
    finish_having_holds most room at outer (with_member l t) ps before (front ++ term) e a (Ready-member room l front term t r (One-term l.room term t h))
finish_progress_holds most room at outer l ps before front term (wrong kind) e a r h = tt

finish_next_holds : (most room at : ℕ) (outer : List Level) (l : Level) (next : Next) (ps before here : List Token) → ps ≡ before ++ here → Around most outer room before → Here room l next here → ReadHolds most ps (finish at (record { outer = outer; level = l; next = next }))
unfolding finish
finish_next_holds most room at outer l Wanting ps before here e a h = tt
finish_next_holds most room at outer l Having ps before here e a h = finish_having_holds most room at outer l ps before here e a h
finish_next_holds most room at outer l (Within b) ps before here e a (front, term, f, r, g) =
    finish_progress_holds most room at outer l ps before front term (at_end b) (e ∙ ap (λ qs. before ++ qs) f) a r (at_end-ends b term g)

goes_on_holds : (most place at : ℕ) (ps : List Piece) (done : List Token) (p : Token) (next : Step) → ((s : State) (more : List Token) → Stands most s more → ReadHolds most (more ++ tokens ps) (run at s ps)) → StepHolds most (done ++ behind p []) next → ReadHolds most (done ++ behind p (tokens ps)) (elim next as (λ x. Reading) [ goes t ↦ run at t ps | stops kind ↦ fault place kind ])
goes_on_holds most place at ps done p (goes s) rest h =
    subst (λ qs. ReadHolds most qs (run at s ps)) (append_assoc done (behind p []) (tokens ps) ∙ ap (λ qs. done ++ qs) (behind_append p (tokens ps))) (rest s (done ++ behind p []) h)
goes_on_holds most place at ps done p (stops kind) rest h = tt

pub run_holds : (ps : List Piece) (most at : ℕ) (s : State) (done : List Token) → Stands most s done → ReadHolds most (done ++ tokens ps) (run at s ps)
run_holds [] most at s done h = subst (λ qs. ReadHolds most qs (finish at s)) (sym (append-nil done)) (finish_next_holds most h.room at s.outer s.level s.next done h.before h.here h.split h.around h.inside)
run_holds (p ∷ ps) most at s done h =
    let here = token p.shape p.bytes in
    goes_on_holds most at (at + length p.bytes) ps done here (step s here) (λ t more g. run_holds ps most (at + length p.bytes) t more g) (step_holds most s done here h)

pub Stands-start : (most : ℕ) → Stands most (start most) []
Stands-start most = record { room = most; before = []; here = []; split = refl; around = (refl, refl); inside = Ready-empty most }
