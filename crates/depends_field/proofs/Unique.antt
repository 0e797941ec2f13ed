-- A text has one reading, or one place at which it can't go on.
use Rattle.std.proofs.Common.{◌≡◌, ℕ, Bool, false, List, [], ◌∷◌, ◌++◌, length, Option, Some, None, refl, ap, subst, sym, ◌∙◌, arith}
use Rattle.std.proofs.lemmas.Option.{same_Some}
use Rattle.depends_field.specs.declared.alternative.Alternative.{Alternative}
use Rattle.depends_field.specs.declared.phase.Kind.{Kind}
use Rattle.depends_field.specs.Pieces.{IsCut, front, behind, inside_after}
use Rattle.depends_field.specs.Reading.{Read, start, stepped, run, finished}
use Rattle.depends_field.specs.Faults.{IsReading, IsUnfit, IsFirstUnfit}
use Rattle.depends_field.specs.Groups.{Groups}
use Rattle.depends_field.proofs.FoundGroups.{run_first}
use Rattle.depends_field.proofs.OnlyGroups.{reading_from_groups}

some_is_none : {A : Type 0} (x : A) (o : Option A) → o ≡ Some x → o ≡ None → ⊥
some_is_none x o e f = let g = sym e ∙ f in cc

-- two whole cuts of a text give the same
pub same_groups : (kind : Kind) (inside m n : Bool) (ps qs : List (List ℕ)) (text : List ℕ) (s t u : Read) (groups others : List (List Alternative)) → IsCut inside text ps m [] → IsCut inside text qs n [] → run kind s ps ≡ Some t → run kind s qs ≡ Some u → finished t ≡ Some groups → finished u ≡ Some others → groups ≡ others
same_groups kind inside m n [] [] text s t u groups others c d r q f g =
    same_Some groups others (sym f ∙ ap finished (sym (same_Some s t r) ∙ same_Some s u q) ∙ g)
same_groups kind inside m n [] (q ∷ qs) text s t u groups others c d r e f g = absurd (omega (arith, ap length c.1, d.0))
same_groups kind inside m n (p ∷ ps) [] text s t u groups others c d r e f g = absurd (omega (arith, ap length d.1, c.0))
same_groups kind inside m n (p ∷ ps) (q ∷ qs) text s t u groups others c d r e f g =
    let same : p ≡ q = c.1 ∙ sym d.1 in
    let v = run_first kind ps (stepped kind s p) t r in
    let w = run_first kind qs (stepped kind s q) u e in
    let next : v.0 ≡ w.0 = same_Some v.0 w.0 (sym v.1 ∙ ap (stepped kind s) same ∙ w.1) in
    let P : List ℕ → Type 0 = λ l. IsCut (inside_after inside l) (behind inside text) qs n [] in
    same_groups kind (inside_after inside p) m n ps qs (behind inside text) v.0 t u groups others c.2 (subst P (sym same) d.2) v.2 (ap (λ x. run kind x qs) next ∙ w.2) f g

-- a text that can't go on has no reading
pub no_reading : (kind : Kind) (inside m n : Bool) (ps qs : List (List ℕ)) (text rest : List ℕ) (s t u : Read) (groups : List (List Alternative)) → IsCut inside text ps m [] → IsCut inside text qs n rest → run kind s ps ≡ Some t → run kind s qs ≡ Some u → finished t ≡ Some groups → IsUnfit kind u n rest → ⊥
no_reading kind inside m n [] [] text rest s t u groups c d r e f unfit =
    some_is_none groups (finished t) f (ap finished (sym (same_Some s t r) ∙ same_Some s u e) ∙ unfit.at_end (sym d.1 ∙ c.1))
no_reading kind inside m n [] (q ∷ qs) text rest s t u groups c d r e f unfit = omega (arith, ap length c.1, d.0)
no_reading kind inside m n (p ∷ ps) [] text rest s t u groups c d r e f unfit =
    let v = run_first kind ps (stepped kind s p) t r in
    let here : front n rest ≡ p = ap (front n) (sym d.1) ∙ ap (λ b. front b text) (sym d.0) ∙ sym c.1 in
    some_is_none v.0 (stepped kind s p) v.1 (ap (λ x. stepped kind x p) (same_Some s u e) ∙ ap (stepped kind u) (sym here) ∙ unfit.at_piece (omega (arith, ap length d.1, c.0)))
no_reading kind inside m n (p ∷ ps) (q ∷ qs) text rest s t u groups c d r e f unfit =
    let same : p ≡ q = c.1 ∙ sym d.1 in
    let v = run_first kind ps (stepped kind s p) t r in
    let w = run_first kind qs (stepped kind s q) u e in
    let next : v.0 ≡ w.0 = same_Some v.0 w.0 (sym v.1 ∙ ap (stepped kind s) same ∙ w.1) in
    let P : List ℕ → Type 0 = λ l. IsCut (inside_after inside l) (behind inside text) qs n rest in
    no_reading kind (inside_after inside p) m n ps qs (behind inside text) rest v.0 t u groups c.2 (subst P (sym same) d.2) v.2 (ap (λ x. run kind x qs) next ∙ w.2) f unfit

pub one_reading : (kind : Kind) (text : List ℕ) (groups others : List (List Alternative)) → IsReading kind text groups → Groups kind text others → groups ≡ others
one_reading kind text groups others r is =
    let o = reading_from_groups kind text others is in
    same_groups kind false r.are.0 o.are.0 r.pieces o.pieces text start r.state o.state groups others r.are.1 o.are.1 r.ran o.ran r.gives o.gives

pub unreadable_from : (kind : Kind) (text : List ℕ) (place : ℕ) → IsFirstUnfit kind text place → (groups : List (List Alternative)) → Groups kind text groups → ⊥
unreadable_from kind text place u groups is =
    let r = reading_from_groups kind text groups is in
    no_reading kind false r.are.0 u.inside r.pieces u.pieces text u.rest start r.state u.state groups r.are.1 u.cut r.ran u.ran r.gives u.unfit

-- the cuts of one text begin alike
pub no_front : (kind : Kind) (inside m : Bool) (ps more : List (List ℕ)) (p : List ℕ) (readable : List ℕ) (s t u : Read) → IsCut inside readable ((ps ++ p ∷ []) ++ more) m [] → run kind s ((ps ++ p ∷ []) ++ more) ≡ Some t → run kind s ps ≡ Some u → stepped kind u p ≡ None → ⊥
no_front kind inside m [] more p readable s t u c r e unfit =
    let v = run_first kind more (stepped kind s p) t r in
    some_is_none v.0 (stepped kind s p) v.1 (ap (λ x. stepped kind x p) (same_Some s u e) ∙ unfit)
no_front kind inside m (q ∷ ps) more p readable s t u c r e unfit =
    let v = run_first kind ((ps ++ p ∷ []) ++ more) (stepped kind s q) t r in
    let w = run_first kind ps (stepped kind s q) u e in
    let next : w.0 ≡ v.0 = same_Some w.0 v.0 (sym w.1 ∙ v.1) in
    no_front kind (inside_after inside q) m ps more p (behind inside readable) v.0 t u c.2 v.2 (ap (λ x. run kind x ps) (sym next) ∙ w.2) unfit

-- a reading of given pieces
pub same_pieces : (inside m n : Bool) (ps qs : List (List ℕ)) (text : List ℕ) → IsCut inside text ps m [] → IsCut inside text qs n [] → ps ≡ qs
same_pieces inside m n [] [] text c d = refl
same_pieces inside m n [] (q ∷ qs) text c d = absurd (omega (arith, ap length c.1, d.0))
same_pieces inside m n (p ∷ ps) [] text c d = absurd (omega (arith, ap length d.1, c.0))
same_pieces inside m n (p ∷ ps) (q ∷ qs) text c d =
    let same : p ≡ q = c.1 ∙ sym d.1 in
    let P : List ℕ → Type 0 = λ l. IsCut (inside_after inside l) (behind inside text) qs n [] in
    let rest = same_pieces (inside_after inside p) m n ps qs (behind inside text) c.2 (subst P (sym same) d.2) in
    ap (λ (l : List ℕ). l ∷ ps) same ∙ ap (λ (l : List (List ℕ)). q ∷ l) rest

pub runs_of_pieces : (kind : Kind) (readable : List ℕ) (groups : List (List Alternative)) (m : Bool) (ps : List (List ℕ)) → Groups kind readable groups → IsCut false readable ps m [] → (t : Read) × (run kind start ps ≡ Some t)
runs_of_pieces kind readable groups m ps is c =
    let r = reading_from_groups kind readable groups is in
    (r.state, ap (run kind start) (sym (same_pieces false r.are.0 m r.pieces ps readable r.are.1 c)) ∙ r.ran)
