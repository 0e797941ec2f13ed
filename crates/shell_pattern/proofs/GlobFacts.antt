-- Why trying the ends of a text behind the last `*` alone is enough.
use Rattle.std.proofs.Common.{◌≡◌, ℕ, Bool, true, false, ◌&&◌, ◌||◌, List, [], ◌∷◌, ◌++◌, refl, ap, subst, ◌∙◌, sym, inl, inr, ⊎_elim, ◌⊎◌}
use Rattle.std.specs.Str.{chars}
use Rattle.std.proofs.lemmas.Bool.{and_parts}
use Rattle.shell_pattern.specs.Glob.{Element, run, any_one, exactly, class, takes, IsOne, Pieces, Glob, elements_of}
use Rattle.shell_pattern.specs.GlobReading.{covers, any_tail, Front, whole, star, fails, front, go_if}
use Rattle.shell_pattern.specs.GlobSearch.{said}

-- one element more
pub front_takes : (e : Element) (es : List Element) (c : ℕ) (cs : List ℕ) → takes e c ≡ true → front (e ∷ es) (c ∷ cs) ≡ front es cs
front_takes run es c cs h = absurd (cc)
front_takes any_one es c cs h = refl
front_takes (exactly d) es c cs h = ap (λ b. go_if b (front es cs)) h
front_takes (class n ls) es c cs h = ap (λ b. go_if b (front es cs)) h

pub front_stops : (e : Element) (es : List Element) (c : ℕ) (cs : List ℕ) → (e ≡ run → ⊥) → takes e c ≡ false → front (e ∷ es) (c ∷ cs) ≡ fails
front_stops run es c cs n h = absurd (n refl)
front_stops any_one es c cs n h = absurd (cc)
front_stops (exactly d) es c cs n h = ap (λ b. go_if b (front es cs)) h
front_stops (class m ls) es c cs n h = ap (λ b. go_if b (front es cs)) h

pub front_ends : (e : Element) (es : List Element) → (e ≡ run → ⊥) → front (e ∷ es) [] ≡ fails
front_ends run es n = absurd (n refl)
front_ends any_one es n = refl
front_ends (exactly d) es n = refl
front_ends (class m ls) es n = refl

said_if : (b : Bool) (f : Front) → said (go_if b f) ≡ (b && said f)
said_if true f = refl
said_if false f = refl

-- what a front says of the whole
pub covers_said : (es : List Element) (cs : List ℕ) → covers es cs ≡ said (front es cs)
covers_said [] [] = refl
covers_said [] (c ∷ cs) = refl
covers_said (run ∷ es) cs = refl
covers_said (any_one ∷ es) [] = refl
covers_said (any_one ∷ es) (c ∷ cs) = covers_said es cs
covers_said (exactly d ∷ es) [] = refl
covers_said (exactly d ∷ es) (c ∷ cs) = ap (λ b. takes (exactly d) c && b) (covers_said es cs) ∙ sym (said_if (takes (exactly d) c) (front es cs))
covers_said (class n ls ∷ es) [] = refl
covers_said (class n ls ∷ es) (c ∷ cs) = ap (λ b. takes (class n ls) c && b) (covers_said es cs) ∙ sym (said_if (takes (class n ls) c) (front es cs))

pub covers_whole : (es : List Element) (cs : List ℕ) → whole ≡ front es cs → covers es cs ≡ true
covers_whole es cs h = covers_said es cs ∙ ap said (sym h)

pub covers_star : (es fs : List Element) (cs ds : List ℕ) → star fs ds ≡ front es cs → covers es cs ≡ any_tail (covers fs) ds
covers_star es fs cs ds h = covers_said es cs ∙ ap said (sym h)

pub covers_fails : (es : List Element) (cs : List ℕ) → fails ≡ front es cs → covers es cs ≡ false
covers_fails es cs h = covers_said es cs ∙ ap said (sym h)

pub tail_whole : (es : List Element) (cs : List ℕ) → whole ≡ front es cs → any_tail (covers es) cs ≡ true
tail_whole es [] h = covers_whole es [] h
tail_whole es (c ∷ cs) h = rw (covers_whole es (c ∷ cs) h) refl

pub tail_next : (es : List Element) (c : ℕ) (cs : List ℕ) → fails ≡ front es (c ∷ cs) → any_tail (covers es) (c ∷ cs) ≡ any_tail (covers es) cs
tail_next es c cs h = ap (λ b. b || any_tail (covers es) cs) (covers_fails es (c ∷ cs) h)

pub tail_last : (es : List Element) → fails ≡ front es [] → any_tail (covers es) [] ≡ false
tail_last es h = covers_fails es [] h

or_parts : (x y : Bool) → (x || y) ≡ true → (x ≡ true) ⊎ (y ≡ true)
or_parts true y h = inl refl
or_parts false y h = inr h

or_left : (x y : Bool) → x ≡ true → (x || y) ≡ true
or_left true y h = refl
or_left false y h = absurd (cc)

or_right : (x y : Bool) → y ≡ true → (x || y) ≡ true
or_right true y h = refl
or_right false y h = h

-- a test holds of some tail other than the whole
abbrev later : (List ℕ → Bool) → List ℕ → Bool
later holds [] = false
later holds (c ∷ cs) = any_tail holds cs

any_here : (f : List ℕ → Bool) (cs : List ℕ) → f cs ≡ true → any_tail f cs ≡ true
any_here f [] h = h
any_here f (c ∷ cs) h = or_left (f (c ∷ cs)) (any_tail f cs) h

any_later : (f : List ℕ → Bool) (cs : List ℕ) → later f cs ≡ true → any_tail f cs ≡ true
any_later f [] h = absurd (cc)
any_later f (c ∷ cs) h = or_right (f (c ∷ cs)) (any_tail f cs) h

absorbed : (f : List ℕ → Bool) (b : Bool) (cs : List ℕ) → f cs ≡ b → (later f cs ≡ true → b ≡ true) → any_tail f cs ≡ b
absorbed f b [] h k = h
absorbed f true (c ∷ cs) h k = or_left (f (c ∷ cs)) (any_tail f cs) h
absorbed f false (c ∷ cs) h k = ap (λ x. x || any_tail f cs) h ∙ not_true (any_tail f cs) k
  where
    not_true : (x : Bool) → (x ≡ true → false ≡ true) → x ≡ false
    not_true true k = sym (k refl)
    not_true false k = refl

tails_twice : (f : List ℕ → Bool) (cs : List ℕ) → any_tail (any_tail f) cs ≡ true → any_tail f cs ≡ true
tails_twice f [] h = h
tails_twice f (c ∷ cs) h = ⊎_elim (λ here. here) (λ there. or_right (f (c ∷ cs)) (any_tail f cs) (tails_twice f cs there)) (or_parts (any_tail f (c ∷ cs)) (any_tail (any_tail f) cs) h)

tails_later : (f : List ℕ → Bool) (cs : List ℕ) → later (any_tail f) cs ≡ true → any_tail f cs ≡ true
tails_later f [] h = absurd (cc)
tails_later f (c ∷ cs) h = or_right (f (c ∷ cs)) (any_tail f cs) (tails_twice f cs h)

-- a test that takes a character and leaves the rest to another
moved : (f g : List ℕ → Bool) → f [] ≡ false → ((c : ℕ) (cs : List ℕ) → f (c ∷ cs) ≡ true → g cs ≡ true) → (cs : List ℕ) → any_tail f cs ≡ true → later g cs ≡ true
moved f g none one [] h = absurd (cc)
moved f g none one (c ∷ cs) h =
    ⊎_elim (λ here. any_here g cs (one c cs here)) (λ there. any_later g cs (moved f g none one cs there)) (or_parts (f (c ∷ cs)) (any_tail f cs) h)

if_star : (b : Bool) (f : Front) (fs : List Element) (ds : List ℕ) → star fs ds ≡ go_if b f → star fs ds ≡ f
if_star true f fs ds h = h
if_star false f fs ds h = absurd (cc)

later_star : (es fs : List Element) (cs ds : List ℕ) → star fs ds ≡ front es cs → later (covers es) cs ≡ true → any_tail (covers fs) ds ≡ true
later_star [] fs [] ds h k = absurd (cc)
later_star [] fs (c ∷ cs) ds h k = absurd (cc)
later_star (run ∷ es) fs cs ds h k =
    let patterns : fs ≡ es = cc in
    let texts : ds ≡ cs = cc in
    rw (patterns, texts) (tails_later (covers es) cs k)
later_star (any_one ∷ es) fs [] ds h k = absurd (cc)
later_star (any_one ∷ es) fs (c ∷ cs) ds h k =
    later_star es fs cs ds h (moved (covers (any_one ∷ es)) (covers es) refl (λ d rest t. t) cs k)
later_star (exactly x ∷ es) fs [] ds h k = absurd (cc)
later_star (exactly x ∷ es) fs (c ∷ cs) ds h k =
    later_star es fs cs ds (if_star (takes (exactly x) c) (front es cs) fs ds h)
    (moved (covers (exactly x ∷ es)) (covers es) refl (λ d rest t. (and_parts (takes (exactly x) d) (covers es rest) t).1) cs k)
later_star (class n ls ∷ es) fs [] ds h k = absurd (cc)
later_star (class n ls ∷ es) fs (c ∷ cs) ds h k =
    later_star es fs cs ds (if_star (takes (class n ls) c) (front es cs) fs ds h)
    (moved (covers (class n ls ∷ es)) (covers es) refl (λ d rest t. (and_parts (takes (class n ls) d) (covers es rest) t).1) cs k)

pub tail_star : (es fs : List Element) (cs ds : List ℕ) → star fs ds ≡ front es cs → any_tail (covers es) cs ≡ any_tail (covers fs) ds
tail_star es fs cs ds h = absorbed (covers es) (any_tail (covers fs) ds) cs (covers_star es fs cs ds h) (later_star es fs cs ds h)

-- trying from the left finds the pieces, if there are any
pub record TailCut (f : List ℕ → Bool) (cs : List ℕ) : Type 0 where
  pub piece : List ℕ
  pub rest : List ℕ
  pub split : cs ≡ piece ++ rest
  pub holds : f rest ≡ true

more_cut : (f : List ℕ → Bool) (c : ℕ) (cs : List ℕ) → TailCut f cs → TailCut f (c ∷ cs)
more_cut f c cs t = record { piece = c ∷ t.piece; rest = t.rest; split = ap (λ x. c ∷ x) t.split; holds = t.holds }

pub tail_cut : (f : List ℕ → Bool) (cs : List ℕ) → any_tail f cs ≡ true → TailCut f cs
tail_cut f [] h = record { piece = []; rest = []; split = refl; holds = h }
tail_cut f (c ∷ cs) h =
    ⊎_elim (λ here. record { piece = []; rest = c ∷ cs; split = refl; holds = here }) (λ there. more_cut f c cs (tail_cut f cs there)) (or_parts (f (c ∷ cs)) (any_tail f cs) h)

in_tail : (f : List ℕ → Bool) (piece rest : List ℕ) → f rest ≡ true → any_tail f (piece ++ rest) ≡ true
in_tail f [] rest h = any_here f rest h
in_tail f (c ∷ piece) rest h = or_right (f (c ∷ (piece ++ rest))) (any_tail f (piece ++ rest)) (in_tail f piece rest h)

found : (es : List Element) (cs : List ℕ) → covers es cs ≡ true → Pieces es cs
found [] [] h = refl
found [] (c ∷ cs) h = absurd (cc)
found (run ∷ es) cs h =
    let t = tail_cut (covers es) cs h in
    record { piece = t.piece; rest = t.rest; split = t.split; stands = tt; left = found es t.rest t.holds }
found (any_one ∷ es) [] h = absurd (cc)
found (any_one ∷ es) (c ∷ cs) h = record { piece = c ∷ []; rest = cs; split = refl; stands = record { character = c; is = refl; passes = refl }; left = found es cs h }
found (exactly d ∷ es) [] h = absurd (cc)
found (exactly d ∷ es) (c ∷ cs) h =
    let parts = and_parts (takes (exactly d) c) (covers es cs) h in
    record { piece = c ∷ []; rest = cs; split = refl; stands = record { character = c; is = refl; passes = parts.0 }; left = found es cs parts.1 }
found (class n ls ∷ es) [] h = absurd (cc)
found (class n ls ∷ es) (c ∷ cs) h =
    let parts = and_parts (takes (class n ls) c) (covers es cs) h in
    record { piece = c ∷ []; rest = cs; split = refl; stands = record { character = c; is = refl; passes = parts.0 }; left = found es cs parts.1 }

and_both : (x y : Bool) → x ≡ true → y ≡ true → (x && y) ≡ true
and_both true y h k = k
and_both false y h k = absurd (cc)

one_split : (test : ℕ → Bool) (cs piece rest : List ℕ) → cs ≡ piece ++ rest → (o : IsOne test piece) → o.character ∷ rest ≡ cs
one_split test cs piece rest h o = sym (h ∙ ap (λ p. p ++ rest) o.is)

pub covered : (es : List Element) (cs : List ℕ) → Pieces es cs → covers es cs ≡ true
covered [] cs h = subst (λ x. covers [] x ≡ true) (sym h) refl
covered (run ∷ es) cs p = subst (λ x. any_tail (covers es) x ≡ true) (sym p.split) (in_tail (covers es) p.piece p.rest (covered es p.rest p.left))
covered (any_one ∷ es) cs p =
    subst (λ x. covers (any_one ∷ es) x ≡ true) (one_split (takes any_one) cs p.piece p.rest p.split p.stands) (covered es p.rest p.left)
covered (exactly d ∷ es) cs p =
    subst (λ x. covers (exactly d ∷ es) x ≡ true) (one_split (takes (exactly d)) cs p.piece p.rest p.split p.stands)
    (and_both (takes (exactly d) p.stands.character) (covers es p.rest) p.stands.passes (covered es p.rest p.left))
covered (class n ls ∷ es) cs p =
    subst (λ x. covers (class n ls ∷ es) x ≡ true) (one_split (takes (class n ls)) cs p.piece p.rest p.split p.stands)
    (and_both (takes (class n ls) p.stands.character) (covers es p.rest) p.stands.passes (covered es p.rest p.left))

pub glob_found : (pattern text : List ℕ) → covers (elements_of (chars pattern)) (chars text) ≡ true → Glob pattern text
unfolding Glob
glob_found pattern text h = found (elements_of (chars pattern)) (chars text) h

pub glob_covered : (pattern text : List ℕ) → Glob pattern text → covers (elements_of (chars pattern)) (chars text) ≡ true
unfolding Glob
glob_covered pattern text h = covered (elements_of (chars pattern)) (chars text) h
