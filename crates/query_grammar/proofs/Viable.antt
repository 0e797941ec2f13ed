-- The place of a fault: some query begins with the pieces that were read, and none with one piece more.
use Rattle.std.proofs.Common.{◌≡◌, ℕ, ◌+◌, List, [], ◌∷◌, ◌++◌, length, length-append, Option, None, refl, sym, ap, ◌∙◌, subst, append_assoc, append-nil, arith}
use Rattle.query_tree.specs.declared.piece.Place.{Place}
use Rattle.query_tree.specs.declared.piece.Place.TheVariants.{Outside}
use Rattle.query_tree.specs.declared.piece.Shape.{Shape}
use Rattle.query_tree.specs.declared.piece.Shape.TheVariants.{Blank, Word, Operator, Lone, Quoted, Broken, Mark}
use Rattle.query_grammar.specs.declared.term.Begun.{Begun}
use Rattle.query_grammar.specs.declared.term.Begun.TheVariants as so_far
use Rattle.query_grammar.specs.declared.level.Next.{Next}
use Rattle.query_grammar.specs.declared.level.Next.TheVariants.{Wanting, Having, Within}
use Rattle.query_grammar.specs.declared.fault.QueryKind.{QueryKind}
use Rattle.query_tree.specs.Tree.{Tree}
use Rattle.query_tree.specs.Pieces.{Piece, token, tokens, behind, lone, broken, next_place, joined}
use Rattle.query_grammar.specs.Reading.{Progress, goes_on, whole, ended, wrong, progress, at_end, Level, State, Step, goes, stops, with_member, step_having, step, start, Reading, fault, finish_having, finish_progress, finish, step_wanting, run}
use Rattle.query_grammar.proofs.Sound.{Stands, StepHolds, step_holds, Stands-start}
use Rattle.query_grammar.proofs.Complete.{result_of, behind-result}
use Rattle.query_tree.proofs.Lexing.{IsSound, place_after}
use Rattle.query_tree.proofs.Fronts.{joined-append, tokens-append, AllSound}
use Rattle.query_grammar.proofs.Reach.{NextAt, StepAt, step-at}

place_after-push : (place : Place) (front : List Piece) (p : Piece) → place_after place (front ++ p ∷ []) ≡ next_place (place_after place front) p.shape
place_after-push place [] p = refl
place_after-push place (q ∷ qs) p = place_after-push (next_place place q.shape) qs p

AllSound-push : (front : List Piece) (p : Piece) → AllSound front → IsSound p.shape → AllSound (front ++ p ∷ [])
AllSound-push [] p h s = (s, tt)
AllSound-push (q ∷ qs) p h s = (h.0, AllSound-push qs p h.1 s)

-- what the reader knows behind the pieces that it read
pub record Reach (levels : ℕ) (front : List Piece) (s : State) : Type 0 where
  pub stands : Stands levels s (tokens front)
  pub walks : (more : List Piece) → result_of (start levels) (tokens (front ++ more)) ≡ result_of s (tokens more)
  pub joint : NextAt s.next (place_after Outside front) front
  pub sound : AllSound front

SoundAfter : Shape → Step → Type 0
SoundAfter shape (goes s) = IsSound shape
SoundAfter shape (stops kind) = Unit {0}

lone-within : (outer : List Level) (l : Level) (b : Begun) → SoundAfter Lone (step (record { outer = outer; level = l; next = Within b }) lone)
unfolding step progress step_having SoundAfter
lone-within outer l (so_far.Package name) = tt
lone-within outer l (so_far.PackageOpened name) = tt
lone-within outer l (so_far.Compared name asked) = tt
lone-within outer l (so_far.Versioned name asked version) = tt
lone-within outer l (so_far.Related name asked version) = tt
lone-within outer l (so_far.Braced name asked) = tt
lone-within outer l (so_far.Bound name asked arch) = tt
lone-within outer l (so_far.Field name) = tt
lone-within outer l (so_far.FieldOpened name) = tt
lone-within outer l (so_far.Tested name how) = tt
lone-within outer l (so_far.Valued name how value) = tt

broken-within : (outer : List Level) (l : Level) (b : Begun) → SoundAfter Broken (step (record { outer = outer; level = l; next = Within b }) broken)
unfolding step progress step_having SoundAfter
broken-within outer l (so_far.Package name) = tt
broken-within outer l (so_far.PackageOpened name) = tt
broken-within outer l (so_far.Compared name asked) = tt
broken-within outer l (so_far.Versioned name asked version) = tt
broken-within outer l (so_far.Related name asked version) = tt
broken-within outer l (so_far.Braced name asked) = tt
broken-within outer l (so_far.Bound name asked arch) = tt
broken-within outer l (so_far.Field name) = tt
broken-within outer l (so_far.FieldOpened name) = tt
broken-within outer l (so_far.Tested name how) = tt
broken-within outer l (so_far.Valued name how value) = tt

lone-next : (outer : List Level) (l : Level) (next : Next) → SoundAfter Lone (step (record { outer = outer; level = l; next = next }) lone)
unfolding step step_wanting step_having SoundAfter
lone-next outer l Wanting = tt
lone-next outer l Having = tt
lone-next outer l (Within b) = lone-within outer l b

broken-next : (outer : List Level) (l : Level) (next : Next) → SoundAfter Broken (step (record { outer = outer; level = l; next = next }) broken)
unfolding step step_wanting step_having SoundAfter
broken-next outer l Wanting = tt
broken-next outer l Having = tt
broken-next outer l (Within b) = broken-within outer l b

easy : (shape : Shape) (n : Step) → IsSound shape → SoundAfter shape n
unfolding SoundAfter
easy shape (goes s) h = h
easy shape (stops kind) h = tt

sound-step : (s : State) (shape : Shape) (bytes : List ℕ) → SoundAfter shape (step s (token shape bytes))
sound-step s Lone bytes = lone-next s.outer s.level s.next
sound-step s Broken bytes = broken-next s.outer s.level s.next
sound-step s Blank bytes = easy Blank _ tt
sound-step s Word bytes = easy Word _ tt
sound-step s (Operator how) bytes = easy (Operator how) _ tt
sound-step s Quoted bytes = easy Quoted _ tt
sound-step s (Mark c) bytes = easy (Mark c) _ tt

sound-goes : (s t : State) (shape : Shape) (bytes : List ℕ) → step s (token shape bytes) ≡ goes t → IsSound shape
unfolding SoundAfter
sound-goes s t shape bytes e = subst (λ n. SoundAfter shape n) e (sound-step s shape bytes)

pub reach-step : (levels : ℕ) (front : List Piece) (s t : State) (p : Piece) → Reach levels front s → step s (token p.shape p.bytes) ≡ goes t → Reach levels (front ++ p ∷ []) t
reach-step levels front s t p r e =
    let here = token p.shape p.bytes in
    record {
      stands = subst (λ ts. Stands levels t ts) (sym (tokens-append front (p ∷ []))) (subst (λ n. StepHolds levels (tokens front ++ behind here []) n) e (step_holds levels s (tokens front) here r.stands));
      walks = λ more.
          ap (λ ps. result_of (start levels) (tokens ps)) (append_assoc front (p ∷ []) more) ∙ r.walks (p ∷ more)
          ∙ behind-result s here (tokens more) ∙ ap (λ n. let got : Option Tree = elim n [ goes u ↦ result_of u (tokens more) | stops kind ↦ None ] in got) e;
      joint = subst (λ place. NextAt t.next place (front ++ p ∷ [])) (sym (place_after-push Outside front p)) (subst (λ n. StepAt n (next_place (place_after Outside front) p.shape) (front ++ p ∷ [])) e (step-at front p.bytes s (place_after Outside front) p.shape r.joint));
      sound = AllSound-push front p r.sound (sound-goes s t p.shape p.bytes e);
    }

pub reach-start : (levels : ℕ) → Reach levels [] (start levels)
reach-start levels = record { stands = Stands-start levels; walks = λ more. refl; joint = (refl, λ rest n. tt); sound = tt }

-- how reading stops
abbrev pub Fails : State → List Piece → ℕ → QueryKind → Type 0
Fails s [] place kind = finish place s ≡ fault place kind
Fails s (p ∷ ps) place kind = step s (token p.shape p.bytes) ≡ stops kind

pub record Stopped (levels : ℕ) (all : List Piece) (place : ℕ) (kind : QueryKind) : Type 0 where
  pub front : List Piece
  pub back : List Piece
  pub state : State
  pub split : all ≡ front ++ back
  pub size : place ≡ length (joined front)
  pub reach : Reach levels front state
  pub fails : Fails state back place kind

fault-place : (at place : ℕ) (k kind : QueryKind) → fault at k ≡ fault place kind → at ≡ place
fault-place at place k kind e = cc

having-place : (at place : ℕ) (kind : QueryKind) (outer : List Level) (l : Level) → finish_having at outer l ≡ fault place kind → at ≡ place
having-place at place kind [] l e = cc
having-place at place kind (o ∷ os) l e = cc

progress-place : (at place : ℕ) (kind : QueryKind) (outer : List Level) (l : Level) (next : Progress) → finish_progress at outer l next ≡ fault place kind → at ≡ place
progress-place at place kind outer l (goes_on b) e = cc
progress-place at place kind outer l (whole t) e = having-place at place kind outer (with_member l t) e
progress-place at place kind outer l (ended t) e = having-place at place kind outer (with_member l t) e
progress-place at place kind outer l (wrong k) e = cc

finish-place : (at place : ℕ) (kind : QueryKind) (outer : List Level) (l : Level) (next : Next) → finish at (record { outer = outer; level = l; next = next }) ≡ fault place kind → at ≡ place
unfolding finish
finish-place at place kind outer l Wanting e = cc
finish-place at place kind outer l Having e = having-place at place kind outer l e
finish-place at place kind outer l (Within b) e = progress-place at place kind outer l (at_end b) e

module _ (levels place : ℕ) (kind : QueryKind) where
  stopped-step : (at next_at : ℕ) (s : State) (front : List Piece) (p : Piece) (ps : List Piece) (n : Step) → Reach levels front s → at ≡ length (joined front) → step s (token p.shape p.bytes) ≡ n → ((t : State) → Reach levels (front ++ p ∷ []) t → run next_at t ps ≡ fault place kind → Stopped levels ((front ++ p ∷ []) ++ ps) place kind) → (let r : Reading = elim n [ goes t ↦ run next_at t ps | stops k ↦ fault at k ] in r) ≡ fault place kind → Stopped levels (front ++ (p ∷ ps)) place kind
  stopped-step at next_at s front p ps (goes t) r size e again f =
      subst (λ all. Stopped levels all place kind) (append_assoc front (p ∷ []) ps) (again t (reach-step levels front s t p r e) f)
  stopped-step at next_at s front p ps (stops k) r size e again f =
      let here : at ≡ place = cc in
      let same : k ≡ kind = cc in
      record { front = front; back = p ∷ ps; state = s; split = refl; size = sym here ∙ size; reach = r; fails = e ∙ ap (λ j. stops j) same }

  pub run-stopped : (ps : List Piece) (at : ℕ) (s : State) (front : List Piece) → Reach levels front s → at ≡ length (joined front) → run at s ps ≡ fault place kind → Stopped levels (front ++ ps) place kind
  run-stopped [] at s front r size e =
      let here = finish-place at place kind s.outer s.level s.next e in
      record { front = front; back = []; state = s; split = refl; size = sym here ∙ size; reach = r; fails = subst (λ m. finish m s ≡ fault place kind) here e }
  run-stopped (p ∷ ps) at s front r size e =
      stopped-step at (at + length p.bytes) s front p ps (step s (token p.shape p.bytes)) r size refl
      (λ t q f. run-stopped ps (at + length p.bytes) t (front ++ p ∷ []) q (more-size at front p size) f) e
    where
      more-size : (at : ℕ) (front : List Piece) (p : Piece) → at ≡ length (joined front) → at + length p.bytes ≡ length (joined (front ++ p ∷ []))
      more-size at front p size = omega (arith, size, ap length (joined-append front (p ∷ [])), length-append (joined front) (p.bytes ++ []), ap length (append-nil p.bytes))
