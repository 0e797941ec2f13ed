-- The words of a whole command line.
use Rattle.std.proofs.Common.{◌≡◌, ℕ, ◌+◌, ◌<◌, suc, zero, leb, Bool, true, false, ◌&&◌, cond, List, [], ◌∷◌, ◌++◌, length, take, refl, sym, ap, ◌∙◌, subst, arith, ◌⊎◌, inl, inr, Option, Some, None, is_some, Result, length-append}
use Rattle.std.proofs.lemmas.Bool.{false≢true, lt-leb}
use Rattle.std.proofs.lemmas.Result.{IfErr-weaker}
use Rattle.std.proofs.lemmas.Slice.Eq.{bytes_eq-Decides}
use Rattle.std.specs.Prelude.{codes, MatchOption}
use Rattle.std.specs.Result.{IfErr}
use Rattle.std.specs.Str.{bytes_eq}
use Rattle.command_words.specs.declared.fault.WordFault.{WordFault}
use Rattle.command_words.specs.declared.fault.WordFault.TheVariants.{At, OutOfMemory}
use Rattle.command_words.specs.Commands.{Part, cut, with_first, each_spelled, listed, after_task_run, is_first, rest_of, single, list_or, demo_commands, is_demo_number, demonstration, demo_place, commands, Begins, IsLongestFront, is_readable, IsPlaceIn, IsListFault, IsUsagePlace}
use Rattle.command_words.specs.Fault.{IsAt, IsCommandFault}
use Rattle.command_value.specs.Plain.{Word, Words, PlainCommand}
use Rattle.command_words.specs.Spelled.{spelled, is_command, row_begins, row_ends}
use Rattle.command_table.specs.Table.{table}
use Rattle.command_words.proofs.Closed.{begins-from_command}
use Rattle.command_words.proofs.Completed.{command_from_begins}
use Rattle.command_words.proofs.Lifted.{unreadable}

-- ---- a list with a fault is none

nothing_first : (o : Option PlainCommand) → with_first o None ≡ None
nothing_first None = refl
nothing_first (Some command) = refl

each_none : (front : List Part) (p : Part) (back : List Part) → spelled p.words ≡ None → each_spelled (front ++ p ∷ back) ≡ None
each_none [] p back h = ap (λ o. with_first o (each_spelled back)) h
each_none (q ∷ front) p back h = ap (with_first (spelled q.words)) (each_none front p back h) ∙ nothing_first (spelled q.words)

either_none : (b : Bool) (o : Option (List PlainCommand)) → o ≡ None → cond b o None ≡ None
either_none true o h = h
either_none false o h = refl

pub unlisted : (parts : List Part) (place : ℕ) → IsListFault parts place → listed parts ≡ None
unlisted parts place (front, p, back, split, read, fault) = elim fault [ inl first ↦ too_many first.0 | inr h ↦ none h.1 ] where
  too_many : length front ≡ 1000 → listed parts ≡ None
  too_many n = ap (λ b. cond b (each_spelled parts) None) (lt-leb (length parts) 1000 (omega (arith, ap length split, length-append front (p ∷ back))))

  none : IsPlaceIn p place → listed parts ≡ None
  none h = either_none (leb (length parts) 1000) (each_spelled parts) (ap each_spelled split ∙ each_none front p back h.0)

pub only_memory : {T : Type 0} (parts : List Part) (done : List PlainCommand) (r : Result T WordFault) → listed parts ≡ Some done → IfErr r (IsAt (IsListFault parts)) → IfErr r (λ fault. fault ≡ OutOfMemory)
only_memory parts done r e h = IfErr-weaker r (IsAt (IsListFault parts)) (λ fault. fault ≡ OutOfMemory) at h where
  at : (y : WordFault) → IsAt (IsListFault parts) y → y ≡ OutOfMemory
  at (At place) fault = let no : None ≡ Some done = sym (unlisted parts place fault) ∙ e in cc
  at OutOfMemory fault = refl

-- ---- one command

abbrev IsOne : Words → Type 0
IsOne words = (is_first (codes "task") words ≡ false) × (is_first (codes "demo") words ≡ false)

no_list : (b c : Bool) (words : Words) → b ≡ false → cond (b && c) (Some words) None ≡ None
no_list b c words e = ap (λ d. cond (d && c) (Some words) None) e

not_task_run : (words : Words) → is_first (codes "task") words ≡ false → after_task_run words ≡ None
not_task_run [] h = refl
not_task_run (first ∷ []) h = refl
not_task_run (first ∷ second ∷ words) h = no_list (bytes_eq first (codes "task")) (bytes_eq second (codes "run")) words h

pub one_command : (words : Words) → IsOne words → commands words ≡ single (spelled words)
unfolding commands
one_command words h = ap (list_or words) (not_task_run words h.0) ∙ ap (λ b. cond b (demo_commands (rest_of words)) (single (spelled words))) h.1

single_some : (o : Option PlainCommand) → is_some (single o) ≡ is_some o
single_some None = refl
single_some (Some command) = refl

readable_one : (words : Words) → IsOne words → is_readable words ≡ is_command words
readable_one words h = ap is_some (one_command words h) ∙ single_some (spelled words)

some_readable : is_readable (codes "db" ∷ codes "cleanup" ∷ []) ≡ true
unfolding commands table row_begins row_ends
some_readable = refl

begins_one : (words : Words) (n : ℕ) → IsOne words → Begins is_command (take n words) → Begins is_readable (take n words)
begins_one words zero h more = (codes "db" ∷ codes "cleanup" ∷ [], some_readable)
begins_one [] (suc n) h more = (codes "db" ∷ codes "cleanup" ∷ [], some_readable)
begins_one (first ∷ words) (suc n) h more = (more.0, readable_one (first ∷ (take n words ++ more.0)) h ∙ more.1)

ends_one : (words : Words) (n : ℕ) → IsOne words → n < length words → Begins is_readable (take (n + 1) words) → Begins is_command (take (n + 1) words)
ends_one [] n h small more = absurd (omega arith)
ends_one (first ∷ words) n h small more =
    let next : n + 1 ≡ suc n = omega arith in
    let P : ℕ → Type 0 = λ k. Begins is_readable (take k (first ∷ words)) in
    let Q : ℕ → Type 0 = λ k. Begins is_command (take k (first ∷ words)) in
    let m = subst P next more in
    subst Q (sym next) (m.0, sym (readable_one (first ∷ (take n words ++ m.0)) h) ∙ m.1)

pub one_fault : (words : Words) (place : ℕ) → IsOne words → IsCommandFault words place → IsUsagePlace words place
one_fault words place h fault =
    let P : Option Words → Type 0 = λ o. MatchOption o (IsLongestFront is_readable words place) (λ rest. IsListFault (cut 2 rest) place) in
    let front = begins_one words place h (command_from_begins (take place words) fault.1) in
    let none = one_command words h ∙ ap single (unreadable words place fault) in
    let last = λ (small : place < length words) (more : Begins is_readable (take (place + 1) words)). let m = ends_one words place h small more in false≢true (sym (fault.2 small) ∙ begins-from_command (take (place + 1) words) m.0 m.1) in
    (none, subst P (sym (not_task_run words h.0)) (fault.0, front, last))

-- ---- `task`

task_alone : (ws : Words) → after_task_run (codes "task" ∷ ws) ≡ None → commands (codes "task" ∷ ws) ≡ None
unfolding commands table
task_alone [] h = refl
task_alone (second ∷ ws) h = ap (list_or (codes "task" ∷ second ∷ ws)) h

not_run : (b : Bool) (words : Words) → cond (true && b) (Some words) None ≡ None → b ≡ false
not_run true words h = cc
not_run false words h = refl

task_begins : is_readable (codes "task" ∷ codes "run" ∷ codes "db" ∷ codes "cleanup" ∷ []) ≡ true
unfolding commands table row_begins row_ends
task_begins = refl

task_ends : (ws : Words) → after_task_run (codes "task" ∷ ws) ≡ None → 1 < length (codes "task" ∷ ws) → Begins is_readable (take 2 (codes "task" ∷ ws)) → ⊥
task_ends [] h small more = absurd (omega arith)
task_ends (second ∷ ws) h small more =
    let other = no_list (bytes_eq second (codes "run")) true more.0 (not_run (bytes_eq second (codes "run")) ws h) in
    let same = ap (λ b. cond b (Some more.0) None) (not_run (bytes_eq second (codes "run")) ws h) in
    false≢true (sym (ap is_some (task_alone (second ∷ more.0) same)) ∙ more.1)

task_place : (ws : Words) → after_task_run (codes "task" ∷ ws) ≡ None → IsUsagePlace (codes "task" ∷ ws) 1
task_place ws h =
    let P : Option Words → Type 0 = λ o. MatchOption o (IsLongestFront is_readable (codes "task" ∷ ws) 1) (λ rest. IsListFault (cut 2 rest) 1) in
    (task_alone ws h, subst P (sym h) (omega arith, (codes "run" ∷ codes "db" ∷ codes "cleanup" ∷ [], task_begins), task_ends ws h))

first_is : (word : Word) (P : Words → Type 0) → ((ws : Words) → P (word ∷ ws)) → (words : Words) → is_first word words ≡ true → P words
first_is word P all [] h = absurd (false≢true h)
first_is word P all (first ∷ words) h =
    let Q : Word → Type 0 = λ w. P (w ∷ words) in
    subst Q (sym ((bytes_eq-Decides first word).0 h)) (all words)

pub task_fault : (words : Words) → is_first (codes "task") words ≡ true → after_task_run words ≡ None → IsUsagePlace words 1
task_fault words h = first_is (codes "task") (λ w. after_task_run w ≡ None → IsUsagePlace w 1) task_place words h

-- ---- `demo`

demo_run : (ws : Words) → after_task_run (codes "demo" ∷ ws) ≡ None
demo_run [] = refl
demo_run (second ∷ ws) = refl

demo_is : (ws : Words) → commands (codes "demo" ∷ ws) ≡ demo_commands ws
unfolding commands
demo_is ws = ap (list_or (codes "demo" ∷ ws)) (demo_run ws)

demo_begins : is_readable (codes "demo" ∷ codes "2" ∷ []) ≡ true
unfolding commands
demo_begins = refl

abbrev IsDemoPlace : Words → ℕ → Type 0
IsDemoPlace ws place = IsLongestFront is_readable (codes "demo" ∷ ws) place

demo_at : (ws : Words) (place : ℕ) → demo_commands ws ≡ None → IsDemoPlace ws place → IsUsagePlace (codes "demo" ∷ ws) place
demo_at ws place none front =
    let P : Option Words → Type 0 = λ o. MatchOption o (IsLongestFront is_readable (codes "demo" ∷ ws) place) (λ rest. IsListFault (cut 2 rest) place) in
    (demo_is ws ∙ none, subst P (sym (demo_run ws)) front)

no_demo : (ws : Words) → demo_commands ws ≡ None → is_readable (codes "demo" ∷ ws) ≡ true → ⊥
no_demo ws none read = false≢true (sym (ap is_some (demo_is ws ∙ none)) ∙ read)

no_number : (number : Word) (ws : Words) → is_demo_number number ≡ false → demo_commands (number ∷ ws) ≡ None
no_number number [] e = ap (λ b. cond b (Some demonstration) None) e
no_number number (more ∷ ws) e = refl

demo_chosen : (number : Word) (ws : Words) (b : Bool) → is_demo_number number ≡ b → IsUsagePlace (codes "demo" ∷ number ∷ ws) 1 ⊎ (b ≡ true)
demo_chosen number ws true e = inr refl
demo_chosen number ws false e =
    inl (demo_at (number ∷ ws) 1 (no_number number ws e) (omega arith, (codes "2" ∷ [], demo_begins), λ small more. no_demo (number ∷ more.0) (no_number number more.0 e) more.1))

demo_number : (number : Word) → is_demo_number number ≡ true → is_readable (codes "demo" ∷ number ∷ []) ≡ true
demo_number number e = ap is_some (demo_is (number ∷ []) ∙ ap (λ b. cond b (Some demonstration) None) e)

surplus : (number more : Word) (ws : Words) → is_demo_number number ≡ true → IsUsagePlace (codes "demo" ∷ number ∷ more ∷ ws) 2
surplus number more ws e =
    demo_at (number ∷ more ∷ ws) 2 refl (omega arith, ([], demo_number number e), λ small after. no_demo (number ∷ more ∷ after.0) refl after.1)

demo_place_right : (ws : Words) (place : ℕ) → demo_place ws ≡ Some place → IsUsagePlace (codes "demo" ∷ ws) place
demo_place_right [] place h =
    let P : ℕ → Type 0 = λ n. IsUsagePlace (codes "demo" ∷ []) n in
    let same : 1 ≡ place = cc in
    subst P same (demo_at [] 1 refl (omega arith, (codes "2" ∷ [], demo_begins), λ small more. absurd (omega arith)))
demo_place_right (number ∷ []) place h = chosen (is_demo_number number) refl h where
  chosen : (b : Bool) → is_demo_number number ≡ b → cond b None (Some 1) ≡ Some place → IsUsagePlace (codes "demo" ∷ number ∷ []) place
  chosen true e h = cc
  chosen false e h =
      let P : ℕ → Type 0 = λ n. IsUsagePlace (codes "demo" ∷ number ∷ []) n in
      let same : 1 ≡ place = cc in
      subst P same (elim (demo_chosen number [] false e) [ inl right ↦ right | inr wrong ↦ absurd (false≢true wrong) ])
demo_place_right (number ∷ more ∷ ws) place h = chosen (is_demo_number number) refl h where
  chosen : (b : Bool) → is_demo_number number ≡ b → cond b (Some 2) (Some 1) ≡ Some place → IsUsagePlace (codes "demo" ∷ number ∷ more ∷ ws) place
  chosen true e h =
      let P : ℕ → Type 0 = λ n. IsUsagePlace (codes "demo" ∷ number ∷ more ∷ ws) n in
      let same : 2 ≡ place = cc in
      subst P same (surplus number more ws e)
  chosen false e h =
      let P : ℕ → Type 0 = λ n. IsUsagePlace (codes "demo" ∷ number ∷ more ∷ ws) n in
      let same : 1 ≡ place = cc in
      subst P same (elim (demo_chosen number (more ∷ ws) false e) [ inl right ↦ right | inr wrong ↦ absurd (false≢true wrong) ])

pub demo_fault : (words : Words) (place : ℕ) → is_first (codes "demo") words ≡ true → demo_place (rest_of words) ≡ Some place → IsUsagePlace words place
demo_fault words place h = first_is (codes "demo") (λ w. demo_place (rest_of w) ≡ Some place → IsUsagePlace w place) (λ ws. demo_place_right ws place) words h

numbered : (ws : Words) → demo_place ws ≡ None → demo_commands ws ≡ Some demonstration
numbered [] h = cc
numbered (number ∷ []) h = chosen (is_demo_number number) h where
  chosen : (b : Bool) → cond {A = Option ℕ} b None (Some 1) ≡ None → cond b (Some demonstration) None ≡ Some demonstration
  chosen true h = refl
  chosen false h = cc
numbered (number ∷ more ∷ ws) h = chosen (is_demo_number number) h where
  chosen : (b : Bool) → cond {A = Option ℕ} b (Some 2) (Some 1) ≡ None → None ≡ Some demonstration
  chosen true h = cc
  chosen false h = cc

pub demo_read : (words : Words) → is_first (codes "demo") words ≡ true → demo_place (rest_of words) ≡ None → commands words ≡ Some demonstration
demo_read words h = first_is (codes "demo") (λ w. demo_place (rest_of w) ≡ None → commands w ≡ Some demonstration) (λ ws e. demo_is ws ∙ numbered ws e) words h

-- ---- a list

pub list_read : (words rest : Words) → Some rest ≡ after_task_run words → commands words ≡ listed (cut 2 rest)
unfolding commands
list_read words rest h = ap (list_or words) (sym h)

pub list_place : (words rest : Words) (place : ℕ) → Some rest ≡ after_task_run words → IsListFault (cut 2 rest) place → IsUsagePlace words place
list_place words rest place h fault =
    let P : Option Words → Type 0 = λ o. MatchOption o (IsLongestFront is_readable words place) (λ r. IsListFault (cut 2 r) place) in
    (list_read words rest h ∙ unlisted (cut 2 rest) place fault, subst P h fault)

-- ---- the same of results

pub faults_kept : {T : Type 0} (P Q : ℕ → Type 0) (r : Result T WordFault) → ((place : ℕ) → P place → Q place) → IfErr r (IsAt P) → IfErr r (IsAt Q)
faults_kept P Q r keep h = IfErr-weaker r (IsAt P) (IsAt Q) at h where
  at : (y : WordFault) → IsAt P y → IsAt Q y
  at (At place) fault = keep place fault
  at OutOfMemory fault = tt

pub at_kept : (P Q : ℕ → Type 0) → ((place : ℕ) → P place → Q place) → (y : WordFault) → IsAt P y → IsAt Q y
at_kept P Q keep (At place) fault = keep place fault
at_kept P Q keep OutOfMemory fault = tt
