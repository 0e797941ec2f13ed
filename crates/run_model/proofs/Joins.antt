-- A run of one command, and then a run of the others, is a run of all.
use Rattle.std.proofs.Common.{◌≡◌, ◌⊎◌, inl, inr, ℕ, zero, suc, ◌<◌, List, [], ◌∷◌, ◌++◌, length, Option, Some, None, MatchOption, IfSome, ◌+◌, ◌≤◌, min, drop, get_or, drop-cons, add-one, refl, sym, ◌∙◌, ap, subst, append_assoc, append-nil, arith, eq-eqb, unwrap_or, option_map}
use Rattle.std.proofs.Math.ListN.{drop_of_length-le}
use Rattle.ap_host.specs.declared.host.Op.{Op}
use Rattle.ap_host.specs.declared.host.Op.TheVariants.{Create, Append, Sync, Rename, Remove, Barrier, Say, Claim}
use Rattle.ap_host.specs.Disk.{Log, Image, Images, extended, live_of, said}
use Rattle.ap_host.proofs.ListLemmas.{cut, cut_at}
use Rattle.ap_host.proofs.DiskLemmas.{extended-append, extended-none}
use Rattle.ap_host.proofs.LegalLemmas.{law_of_live_image}
use Rattle.run_model.specs.Run.{Outcome, Machine, state_at, joined, after_reply, acked, EndsAs, EndsSaying, IsFront, Ran, Runs, Moments, Settles, Stands, StandsAt, Each, Between, AtRest, Lawful}
use Rattle.run_model.proofs.Indexes.{turned, turned_rises, turned_at}

-- the log, and then these operations
abbrev pub extend : Log → List Op → Log
extend l ops = extended ops l

pub said-append : (xs ys : List Op) → said (xs ++ ys) ≡ said xs ++ said ys
said-append [] ys = refl
said-append (Say b ∷ xs) ys = ap (λ (t : List ℕ). b ++ t) (said-append xs ys) ∙ sym (append_assoc b (said xs) (said ys))
said-append (Create p ∷ xs) ys = said-append xs ys
said-append (Append p b ∷ xs) ys = said-append xs ys
said-append (Sync p ∷ xs) ys = said-append xs ys
said-append (Rename a b ∷ xs) ys = said-append xs ys
said-append (Remove p ∷ xs) ys = said-append xs ys
said-append (Barrier ∷ xs) ys = said-append xs ys
said-append (Claim b ∷ xs) ys = said-append xs ys

pub extend-extend : (l : Log) (xs ys : List Op) → extend (extend l xs) ys ≡ extend l (xs ++ ys)
extend-extend l xs ys = extended-append xs ys l

pub extend-nil : (l : Log) → extend l [] ≡ l
extend-nil l = extended-none l

-- a whole reply, and more
pub after_reply_whole : (r t : List ℕ) → after_reply r (r ++ t) ≡ Some t
after_reply_whole [] t = refl
after_reply_whole (x ∷ xs) t = rw (eq-eqb x x refl) (after_reply_whole xs t)

-- the front of a reply is the whole, or too short
pub after_reply_front : (r b rest : List ℕ) → r ≡ b ++ rest → (b ≡ r) ⊎ (after_reply r b ≡ None)
after_reply_front [] [] rest e = inl refl
after_reply_front [] (y ∷ ys) rest e = absurd (cc)
after_reply_front (x ∷ xs) [] rest e = inr refl
after_reply_front (x ∷ xs) (y ∷ ys) rest e =
    let head : x ≡ y = cc in
    let tail : xs ≡ ys ++ rest = cc in
    elim (after_reply_front xs ys rest tail) [
      | inl w ↦ inl (let p : ys ≡ xs = w in cc)
      | inr w ↦ inr (rw (head, eq-eqb y y refl) w)
    ]

-- what holds whether the command was refused or not
pub either_way : {R A : Type 0} (x : Option R) → MatchOption x A (λ _. A) → A
either_way None h = h
either_way (Some r) h = h

pub both_ways : {R A : Type 0} (x : Option R) → A → MatchOption x A (λ _. A)
both_ways None h = h
both_ways (Some r) h = h

none_refused : {R : Type 0} (A B : Type 0) (x : Option R) → MatchOption x A (λ q. B × (None ≡ Some q)) → x ≡ None
none_refused A B None e = refl
none_refused A B (Some q) e = absurd (let p : None ≡ Some q = e.1 in cc)

module _ {S R : Type 0} where
  acked_whole : (o : Outcome S R) (os : List (Outcome S R)) (t : List ℕ) → acked (o ∷ os) (o.reply ++ t) ≡ suc (acked os t)
  acked_whole o os t = ap (λ x. unwrap_or (option_map (λ rest. suc (acked os rest)) x) 0) (after_reply_whole o.reply t)

  acked_all : (o : Outcome S R) (os : List (Outcome S R)) (b : List ℕ) → acked os [] ≡ 0 → b ≡ o.reply → acked (o ∷ os) b ≡ 1
  acked_all o os b none e = ap (acked (o ∷ os)) (e ∙ sym (append-nil o.reply)) ∙ acked_whole o os [] ∙ ap suc none

  -- while a reply is being said: not yet said, or said whole with nothing behind it
  pub acked_front : (o : Outcome S R) (os : List (Outcome S R)) → acked os [] ≡ 0 → (b rest : List ℕ) → o.reply ≡ b ++ rest
      → (acked (o ∷ os) b ≡ 0 × (acked (o ∷ []) b ≡ 0)) ⊎ ((acked (o ∷ os) b ≡ 1) × (acked (o ∷ []) b ≡ 1))
  acked_front o os none b rest e = elim (after_reply_front o.reply b rest e) [
    | inl w ↦ inr (acked_all o os b none w, acked_all o [] b refl w)
    | inr w ↦ inl (ap (λ x. unwrap_or (option_map (λ rest. suc (acked os rest)) x) 0) w, ap (λ x. unwrap_or (option_map (λ rest. suc (acked {S = S} {R = R} [] rest)) x) 0) w)
  ]

  -- the outcome of one command that was done
  one_outcome : {C : Type 0} (c : C) (os : List (Outcome S R)) → EndsAs (c ∷ []) os None → (o : Outcome S R) × (os ≡ o ∷ []) × (o.refusal ≡ None)
  one_outcome c [] e = absurd e
  one_outcome c (o ∷ []) e = (o, refl, none_refused _ _ o.refusal e)
  one_outcome c (o ∷ o2 ∷ os) e = absurd (elim o.refusal as (λ x. MatchOption x ⊥ (λ q. (o2 ∷ os ≡ []) × (None ≡ Some q)) → ⊥) [ None ↦ λ h. h | Some q ↦ λ h. let p : o2 ∷ os ≡ [] = h.0 in cc ] e)

module _ {K S C R : Type 0} (M : Machine K S C R) (lawful : Lawful M) (k : K) where
  -- where no reply was said, none is acknowledged
  pub acked_none : (s : S) (cs : List C) (os : List (Outcome S R)) → Runs M k s cs os → acked os [] ≡ 0
  acked_none s cs [] runs = refl
  acked_none s [] (o ∷ os) runs = absurd runs
  acked_none s (c ∷ cs) (o ∷ os) runs = elim (after_reply_front o.reply [] o.reply refl) [
    | inl w ↦ absurd (lawful.replies k s c o runs.0 (sym w))
    | inr w ↦ ap (λ x. unwrap_or (option_map (λ rest. suc (acked os rest)) x) 0) w
  ]

  -- the runs of one command, and then of the others
  module _ (l : Log) (s : S) (c : C) (o : Outcome S R) (done : o.refusal ≡ None) (step : M.Step k s c o) (first : List Op) (told : said first ≡ o.reply)
      (cs : List C) (os : List (Outcome S R)) (runs : Runs M k o.state cs os) (ops : List Op) where
    join_runs : Runs M k s (c ∷ cs) (o ∷ os)
    join_runs = (step, subst (λ x. MatchOption x (Runs M k o.state cs os) (λ _. os ≡ [])) (sym done) runs)

    join_moments : Moments M.store l s (o ∷ []) first → Moments M.store (extend l first) o.state os ops → Moments M.store l s (o ∷ os) (first ++ ops)
    join_moments one rest before after e = elim (cut before after first ops e) [
      | inl w ↦
          let whole : o.reply ≡ said before ++ said w.0 = sym told ∙ ap said (sym w.1) ∙ said-append before w.0 in
          let here = one before w.0 w.1 in
          elim (acked_front o os (acked_none o.state cs os runs) (said before) (said w.0) whole) [
            | inl k ↦ subst (λ n. Images (extend l before) (Between M.store (state_at s (o ∷ os) n) (state_at s (o ∷ os) (suc n)))) (sym k.0)
                (subst (λ n. Images (extend l before) (Between M.store (state_at s (o ∷ []) n) (state_at s (o ∷ []) (suc n)))) k.1 here)
            | inr k ↦ subst (λ n. Images (extend l before) (Between M.store (state_at s (o ∷ os) n) (state_at s (o ∷ os) (suc n)))) (sym k.0)
                (λ f image. let b = subst (λ n. Images (extend l before) (Between M.store (state_at s (o ∷ []) n) (state_at s (o ∷ []) (suc n)))) k.1 here f image in
                (elim b.0 [ inl x ↦ inl x | inr x ↦ inl x ], lawful.store.serves f o.state (state_at o.state os 1) b.1))
          ]
      | inr w ↦
          let k : acked (o ∷ os) (said before) ≡ suc (acked os (said w.0)) = ap (acked (o ∷ os)) (ap said w.1 ∙ said-append first w.0 ∙ ap (λ t. t ++ said w.0) told) ∙ acked_whole o os (said w.0) in
          let same : extend (extend l first) w.0 ≡ extend l before = extend-extend l first w.0 ∙ ap (extend l) (sym w.1) in
          subst (λ n. Images (extend l before) (Between M.store (state_at s (o ∷ os) n) (state_at s (o ∷ os) (suc n)))) (sym k)
          (subst (λ x. Images x (Between M.store (state_at o.state os (acked os (said w.0))) (state_at o.state os (suc (acked os (said w.0)))))) same (rest w.0 after w.2))
    ]

    join_settles : Settles M.store l s (o ∷ []) first → Settles M.store (extend l first) o.state os ops → Settles M.store l s (o ∷ os) (first ++ ops)
    join_settles one rest before op after e rises = elim (cut_at before op after first ops e) [
      | inl w ↦
          let grown : List Op = before ++ op ∷ [] in
          let same : grown ++ w.0 ≡ first = append_assoc before (op ∷ []) w.0 ∙ w.1 in
          let whole : o.reply ≡ said grown ++ said w.0 = sym told ∙ ap said (sym same) ∙ said-append grown w.0 in
          let whole2 : o.reply ≡ said before ++ said (op ∷ w.0) = sym told ∙ ap said (sym w.1) ∙ said-append before (op ∷ w.0) in
          elim (acked_front o os (acked_none o.state cs os runs) (said grown) (said w.0) whole) [
            | inl k ↦ absurd (omega (arith, k.0, rises))
            | inr k ↦ elim (acked_front o os (acked_none o.state cs os runs) (said before) (said (op ∷ w.0)) whole2) [
              | inl j ↦ subst (λ n. Images (extend l grown) (λ f. M.store.Settled f (state_at s (o ∷ os) n))) (sym k.0)
                  (subst (λ n. Images (extend l grown) (λ f. M.store.Settled f (state_at s (o ∷ []) n))) k.1 (one before op w.0 w.1 (omega (arith, k.1, j.1))))
              | inr j ↦ absurd (omega (arith, k.0, j.0, rises))
            ]
          ]
      | inr w ↦
          let grown : List Op = w.0 ++ op ∷ [] in
          let at_grown : before ++ op ∷ [] ≡ first ++ grown = ap (λ t. t ++ op ∷ []) w.1 ∙ append_assoc first w.0 (op ∷ []) in
          let k0 : acked (o ∷ os) (said before) ≡ suc (acked os (said w.0)) = ap (acked (o ∷ os)) (ap said w.1 ∙ said-append first w.0 ∙ ap (λ t. t ++ said w.0) told) ∙ acked_whole o os (said w.0) in
          let k : acked (o ∷ os) (said (before ++ op ∷ [])) ≡ suc (acked os (said grown)) = ap (acked (o ∷ os)) (ap said at_grown ∙ said-append first grown ∙ ap (λ t. t ++ said grown) told) ∙ acked_whole o os (said grown) in
          let same : extend (extend l first) grown ≡ extend l (before ++ op ∷ []) = extend-extend l first grown ∙ ap (extend l) (sym at_grown) in
          subst (λ n. Images (extend l (before ++ op ∷ [])) (λ f. M.store.Settled f (state_at s (o ∷ os) n))) (sym k)
          (subst (λ x. Images x (λ f. M.store.Settled f (state_at o.state os (acked os (said grown))))) same (rest w.0 op after w.2 (omega (arith, k, k0, rises))))
    ]

    -- what readers see, within the first command
    stands_first : (before after : List Op) → before ++ after ≡ first → (n : ℕ) → StandsAt M.store l s (o ∷ []) before n → StandsAt M.store l s (o ∷ os) before (min n 1)
    stands_first before after e n st =
        let whole : o.reply ≡ said before ++ said after = sym told ∙ ap said (sym e) ∙ said-append before after in
        record {
          least = elim (acked_front o os (acked_none o.state cs os runs) (said before) (said after) whole) [
            | inl z ↦ omega (arith, z.0)
            | inr z ↦ omega (arith, z.0, z.1, st.least)
          ];
          most = elim (acked_front o os (acked_none o.state cs os runs) (said before) (said after) whole) [
            | inl z ↦ omega (arith, z.0)
            | inr z ↦ omega (arith, z.0)
          ];
          stood = at n st.stood;
        }
      where
        at : (n : ℕ) → M.store.Open (live_of (extend l before)) (state_at s (o ∷ []) n) → M.store.Open (live_of (extend l before)) (state_at s (o ∷ os) (min n 1))
        at zero h = h
        at (suc zero) h = h
        at (suc (suc n)) h = let one : min (suc (suc n)) 1 ≡ 1 = omega arith in subst (λ (m : ℕ). M.store.Open (live_of (extend l before)) (state_at s (o ∷ os) m)) (sym one) h

    -- and behind it
    stands_rest : (before d : List Op) → before ≡ first ++ d → (n : ℕ) → StandsAt M.store (extend l first) o.state os d n → StandsAt M.store l s (o ∷ os) before (suc n)
    stands_rest before d e n st =
        let z : acked (o ∷ os) (said before) ≡ suc (acked os (said d)) = ap (acked (o ∷ os)) (ap said e ∙ said-append first d ∙ ap (λ t. t ++ said d) told) ∙ acked_whole o os (said d) in
        let same : extend (extend l first) d ≡ extend l before = extend-extend l first d ∙ ap (extend l) (sym e) in
        record {
          least = omega (arith, z, st.least);
          most = omega (arith, z, st.most);
          stood = subst (λ (x : Log). M.store.Open (live_of x) (state_at o.state os n)) same st.stood;
        }

    join_stands : Stands M.store l s (o ∷ []) first → Stands M.store (extend l first) o.state os ops → Stands M.store l s (o ∷ os) (first ++ ops)
    join_stands one rest = record {
      index = turned (length first) early late;
      rises = turned_rises (length first) early late (λ i j le. omega (arith, one.rises i j le)) (λ i j le. omega (arith, rest.rises i j le)) (λ i j lt. omega arith);
      at = turned_at (StandsAt M.store l s (o ∷ os)) first ops early late
          (λ before d e. stands_first before d e (one.index (length before)) (one.at before d e))
          (λ before d after e behind. stands_rest before d e (rest.index (length d)) (rest.at d after behind));
    }
      where
        early : ℕ → ℕ
        early i = min (one.index i) 1

        late : ℕ → ℕ
        late i = suc (rest.index i)

    join_each : Each M l s (c ∷ []) (o ∷ []) first → Each M (extend l first) o.state cs os ops → Each M l s (c ∷ cs) (o ∷ os) (first ++ ops)
    join_each one rest =
        let here_is : one.0 ≡ first = sym (append-nil one.0) ∙ ap (λ (t : List Op). one.0 ++ t) (sym (either_way o.refusal one.5)) ∙ one.2 in (
          first,
          ops,
          refl,
          record {
            front = ([], sym told ∙ sym (append-nil (said first)));
            whole = λ is. subst (EndsSaying o.reply) here_is (one.3.whole (ap said here_is ∙ is));
            before_next = inr told;
          },
          subst (M.Moves l s c (Some o)) here_is one.4,
          subst (λ (x : Option R). MatchOption x (Each M (extend l first) o.state cs os ops) (λ _. ops ≡ [])) (sym done) rest,
        )

    join : Moments M.store l s (o ∷ []) first → Settles M.store l s (o ∷ []) first → Stands M.store l s (o ∷ []) first → Each M l s (c ∷ []) (o ∷ []) first → (end : Option (S × Option R))
        → IsFront (said ops) (joined os) → Moments M.store (extend l first) o.state os ops → Settles M.store (extend l first) o.state os ops → Stands M.store (extend l first) o.state os ops → Each M (extend l first) o.state cs os ops
        → IfSome end (λ e. EndsAs cs os e.1 × (said ops ≡ joined os) × (e.0 ≡ state_at o.state os (length os)) × Images (extend (extend l first) ops) (λ f. M.store.Settled f e.0))
        → Ran M k l s (c ∷ cs) end (first ++ ops)
    join moments1 settles1 stands1 each1 end says moments2 settles2 stands2 each2 ends = record {
      outcomes = o ∷ os;
      runs = join_runs;
      says = (says.0, ap (λ t. t ++ joined os) (sym told) ∙ ap (λ t. said first ++ t) says.1 ∙ sym (append_assoc (said first) (said ops) says.0) ∙ ap (λ t. t ++ says.0) (sym (said-append first ops)));
      moments = join_moments moments1 moments2;
      settles = join_settles settles1 settles2;
      stands = join_stands stands1 stands2;
      each = join_each each1 each2;
      ends = join_ends end ends;
    } where
      join_ends : (end : Option (S × Option R)) → IfSome end (λ e. EndsAs cs os e.1 × (said ops ≡ joined os) × (e.0 ≡ state_at o.state os (length os)) × Images (extend (extend l first) ops) (λ f. M.store.Settled f e.0))
          → IfSome end (λ e. EndsAs (c ∷ cs) (o ∷ os) e.1 × (said (first ++ ops) ≡ joined (o ∷ os)) × (e.0 ≡ state_at s (o ∷ os) (length (o ∷ os))) × Images (extend l (first ++ ops)) (λ f. M.store.Settled f e.0))
      join_ends None h = tt
      join_ends (Some e) h = (
        subst (λ x. MatchOption x (EndsAs cs os e.1) (λ refusal. (os ≡ []) × (e.1 ≡ Some refusal))) (sym done) h.0,
        said-append first ops ∙ ap (λ t. t ++ said ops) told ∙ ap (λ t. o.reply ++ t) h.1,
        h.2,
        subst (λ x. Images x (λ f. M.store.Settled f e.0)) (extend-extend l first ops) h.3,
      )

  -- the first command was done, and then the others ran
  pub ran_then : (l : Log) (s : S) (c : C) (s1 : S) (a b : List Op) (cs : List C) (end : Option (S × Option R))
      → Ran M k l s (c ∷ []) (Some (s1, None)) a → Ran M k (extend l a) s1 cs end b → Ran M k l s (c ∷ cs) end (a ++ b)
  ran_then l s c s1 a b cs end x y =
      let one = one_outcome c x.outcomes x.ends.0 in
      let o : Outcome S R = one.0 in
      let is : x.outcomes ≡ o ∷ [] = one.1 in
      let told : said a ≡ o.reply = x.ends.1 ∙ ap joined is ∙ append-nil o.reply in
      let state : s1 ≡ o.state = x.ends.2 ∙ ap (λ (z : List (Outcome S R)). state_at s z (length z)) is in
      let step = subst (λ z. Runs M k s (c ∷ []) z) is x.runs in
      let rest = subst (λ t. Ran M k (extend l a) t cs end b) state y in
      join l s c o one.2 step.0 a told cs rest.outcomes rest.runs b
      (subst (λ z. Moments M.store l s z a) is x.moments) (subst (λ z. Settles M.store l s z a) is x.settles) (subst (λ z. Stands M.store l s z a) is x.stands) (subst (λ z. Each M l s (c ∷ []) z a) is x.each)
      end rest.says rest.moments rest.settles rest.stands rest.each rest.ends

  runs_more : (s : S) (c : C) (cs : List C) (os : List (Outcome S R)) → Runs M k s (c ∷ []) os → Runs M k s (c ∷ cs) os
  runs_more s c cs [] runs = tt
  runs_more s c cs (o ∷ []) runs = (runs.0, let none : List (Outcome S R) = [] in elim o.refusal as (λ x. MatchOption x (Unit {0}) (λ _. none ≡ [])) [ None ↦ tt | Some r ↦ refl ])
  runs_more s c cs (o ∷ o2 ∷ os) runs = (runs.0, elim o.refusal as (λ x. MatchOption x (Runs M k o.state [] (o2 ∷ os)) (λ _. o2 ∷ os ≡ []) → MatchOption x (Runs M k o.state cs (o2 ∷ os)) (λ _. o2 ∷ os ≡ [])) [ None ↦ λ h. absurd h | Some r ↦ λ h. h ] runs.1)

  pub each_none : (l : Log) (s : S) (cs : List C) (ops : List Op) → ops ≡ [] → Each M l s cs [] ops
  each_none l s [] ops none = none
  each_none l s (c ∷ cs) ops none = inl none

  each_more : (l : Log) (s : S) (c : C) (cs : List C) (os : List (Outcome S R)) (ops : List Op) → Each M l s (c ∷ []) os ops → Each M l s (c ∷ cs) os ops
  each_more l s c cs [] ops each = each
  each_more l s c cs (o ∷ []) ops each = (each.0, each.1, each.2, each.3, each.4, more o.refusal each.5)
    where
      more : (x : Option R) → MatchOption x (each.1 ≡ []) (λ _. each.1 ≡ []) → MatchOption x (Each M (extend l each.0) o.state cs [] each.1) (λ _. each.1 ≡ [])
      more None h = each_none (extend l each.0) o.state cs each.1 h
      more (Some r) h = h
  each_more l s c cs (o ∷ o2 ∷ os) ops each = (each.0, each.1, each.2, each.3, each.4, more o.refusal each.5)
    where
      more : (x : Option R) → MatchOption x ⊥ (λ _. each.1 ≡ []) → MatchOption x (Each M (extend l each.0) o.state cs (o2 ∷ os) each.1) (λ _. each.1 ≡ [])
      more None h = absurd h
      more (Some r) h = h

  -- the first command broke off, so the list does
  pub ran_broke : (l : Log) (s : S) (c : C) (cs : List C) (ops : List Op) → Ran M k l s (c ∷ []) None ops → Ran M k l s (c ∷ cs) None ops
  ran_broke l s c cs ops a = record {
    outcomes = a.outcomes;
    runs = runs_more s c cs a.outcomes a.runs;
    says = a.says;
    moments = a.moments;
    settles = a.settles;
    stands = a.stands;
    each = each_more l s c cs a.outcomes ops a.each;
    ends = tt;
  }

  -- the first command was refused, so the list ends with it
  pub ran_refused : (l : Log) (s : S) (c : C) (cs : List C) (t : S) (r : R) (ops : List Op) → Ran M k l s (c ∷ []) (Some (t, Some r)) ops → Ran M k l s (c ∷ cs) (Some (t, Some r)) ops
  ran_refused l s c cs t r ops a = record {
    outcomes = a.outcomes;
    runs = runs_more s c cs a.outcomes a.runs;
    says = a.says;
    moments = a.moments;
    settles = a.settles;
    stands = a.stands;
    each = each_more l s c cs a.outcomes ops a.each;
    ends = (more a.outcomes a.ends.0, a.ends.1, a.ends.2, a.ends.3);
  } where
    more : (os : List (Outcome S R)) → EndsAs (c ∷ []) os (Some r) → EndsAs (c ∷ cs) os (Some r)
    more [] e = e
    more (o ∷ []) e = elim o.refusal as (λ x. let none : List (Outcome S R) = [] in MatchOption x (Some r ≡ None) (λ q. (none ≡ []) × (Some r ≡ Some q)) → MatchOption x (EndsAs cs none (Some r)) (λ q. (none ≡ []) × (Some r ≡ Some q)))
        [ None ↦ λ h. absurd (let k = h in cc) | Some q ↦ λ h. h ] e
    more (o ∷ o2 ∷ os) e = elim o.refusal as (λ x. MatchOption x ⊥ (λ q. (o2 ∷ os ≡ []) × (Some r ≡ Some q)) → MatchOption x (EndsAs cs (o2 ∷ os) (Some r)) (λ q. (o2 ∷ os ≡ []) × (Some r ≡ Some q)))
        [ None ↦ λ h. absurd h | Some q ↦ λ h. h ] e

  -- at one moment, where nothing is known but the state at rest
  stands_nothing : (l : Log) (s : S) (before : List Op) → before ≡ [] → M.store.Open (live_of l) s → StandsAt M.store {R = R} l s [] before 0
  stands_nothing l s before none here = record { least = omega arith; most = omega arith; stood = subst (λ (x : Log). M.store.Open (live_of x) s) (sym (ap (extend l) none ∙ extend-nil l)) here }

  pub nil_front : (before after : List Op) → before ++ after ≡ [] → before ≡ []
  nil_front [] after e = refl
  nil_front (b ∷ bs) after e = absurd (cc)

  pub not_nil : (before : List Op) (op : Op) (after : List Op) → before ++ op ∷ after ≡ [] → ⊥
  not_nil [] op after e = cc
  not_nil (b ∷ bs) op after e = cc

  -- nothing was done
  pub ran_nothing : (l : Log) (s : S) (cs : List C) (end : Option (S × Option R)) → AtRest M.store s l → IfSome end (λ e. (cs ≡ []) × (e.0 ≡ s) × (e.1 ≡ None)) → Ran M k l s cs end []
  ran_nothing l s cs end rest is = record {
    outcomes = [];
    runs = tt;
    says = ([], refl);
    moments = λ before after e. subst (λ b. Images (extend l b) (Between M.store s s)) (sym (nil_front before after e)) (λ f image. let here = rest f (subst (λ x. Image x f) (extend-nil l) image) in (inl (lawful.store.opens f s here), lawful.store.settled_serves f s here));
    settles = λ before op after e. absurd (not_nil before op after e);
    stands = record {
      index = λ i. 0;
      rises = λ i j le. omega arith;
      at = λ before after e. stands_nothing l s before (nil_front before after e) (lawful.store.opens (live_of l) s (rest (live_of l) (law_of_live_image l)));
    };
    each = each_none l s cs [] refl;
    ends = ended end is;
  } where
    ended : (end : Option (S × Option R)) → IfSome end (λ e. (cs ≡ []) × (e.0 ≡ s) × (e.1 ≡ None)) → let none : List (Outcome S R) = [] in IfSome end (λ e. EndsAs cs none e.1 × (said [] ≡ joined none) × (e.0 ≡ state_at s none (length none)) × AtRest M.store e.0 (extended [] l))
    ended None h = tt
    ended (Some e) h = (subst (λ x. let none : List (Outcome S R) = [] in EndsAs x none e.1) (sym h.0) h.2, refl, h.1, subst (λ (x : Log). AtRest M.store e.0 x) (sym (extend-nil l)) (subst (λ t. AtRest M.store t l) (sym h.1) rest))

  -- A turn of the loop over a list of commands: so far these operations were done, the state is s, and whatever the commands from
  -- i on do from here, all of them do from the start.
  module _ (start : Log) (s0 : S) (all : List C) (sofar : List Op) (s : S) (i : ℕ) (d : C) where
    abbrev pub GoesOnFrom : List Op → S → List C → Type 0
    GoesOnFrom ops t rest = (end : Option (S × Option R)) (more : List Op) → Ran M k (extend start ops) t rest end more → Ran M k start s0 all end (ops ++ more)

    here : i < length all → GoesOnFrom sofar s (drop i all) → GoesOnFrom sofar s (get_or all i d ∷ drop (i + 1) all)
    here below so_far = subst (GoesOnFrom sofar s) (drop-cons all i d below ∙ ap (λ n. get_or all i d ∷ drop n all) (sym (add-one i))) so_far

    pub turn_done : i < length all → GoesOnFrom sofar s (drop i all) → (t : S) (r : Option R) → r ≡ None → (ops : List Op) → Ran M k (extend start sofar) s (get_or all i d ∷ []) (Some (t, r)) ops
        → GoesOnFrom (sofar ++ ops) t (drop (i + 1) all)
    turn_done below so_far t r none ops turn end more rest =
        let one : Ran M k (extend start sofar) s (get_or all i d ∷ []) (Some (t, None)) ops = subst (λ q. Ran M k (extend start sofar) s (get_or all i d ∷ []) (Some (t, q)) ops) none turn in
        let then : Ran M k (extend (extend start sofar) ops) t (drop (i + 1) all) end more = subst (λ (x : Log). Ran M k x t (drop (i + 1) all) end more) (sym (extend-extend start sofar ops)) rest in
        subst (λ (x : List Op). Ran M k start s0 all end x) (sym (append_assoc sofar ops more))
        (here below so_far end (ops ++ more) (ran_then (extend start sofar) s (get_or all i d) t ops more (drop (i + 1) all) end one then))

    pub turn_refused : i < length all → GoesOnFrom sofar s (drop i all) → (t : S) (q : Option R) (r : R) → q ≡ Some r → (ops : List Op) → Ran M k (extend start sofar) s (get_or all i d ∷ []) (Some (t, q)) ops → Ran M k start s0 all (Some (t, Some r)) (sofar ++ ops)
    turn_refused below so_far t q r is ops turn =
        here below so_far (Some (t, Some r)) ops (ran_refused (extend start sofar) s (get_or all i d) (drop (i + 1) all) t r ops (subst (λ x. Ran M k (extend start sofar) s (get_or all i d ∷ []) (Some (t, x)) ops) is turn))

    pub turn_broke : i < length all → GoesOnFrom sofar s (drop i all) → (ops : List Op) → Ran M k (extend start sofar) s (get_or all i d ∷ []) None ops → Ran M k start s0 all None (sofar ++ ops)
    turn_broke below so_far ops ran = here below so_far None ops (ran_broke (extend start sofar) s (get_or all i d) (drop (i + 1) all) ops ran)

    pub turns_over : length all ≤ i → GoesOnFrom sofar s (drop i all) → AtRest M.store s (extend start sofar) → Ran M k start s0 all (Some (s, None)) sofar
    turns_over over so_far rest =
        let none : List C = [] in
        subst (λ (x : List Op). Ran M k start s0 all (Some (s, None)) x) (append-nil sofar)
        (so_far (Some (s, None)) [] (subst (λ cs. Ran M k (extend start sofar) s cs (Some (s, None)) []) (sym (drop_of_length-le all over)) (ran_nothing (extend start sofar) s none (Some (s, None)) rest (refl, refl, refl))))

module _ {K S C R : Type 0} (M : Machine K S C R) (lawful : Lawful M) (j k : K) where
  -- a command that was done came to its outcome whatever the call tells
  pub done_told : (l : Log) (s : S) (c : C) (t : S) (r : Option R) (ops : List Op) → r ≡ None → Ran M j l s (c ∷ []) (Some (t, r)) ops → Ran M k l s (c ∷ []) (Some (t, r)) ops
  done_told l s c t r ops none a = record { outcomes = a.outcomes; runs = go a.outcomes a.runs (subst (λ x. EndsAs (c ∷ []) a.outcomes x) none a.ends.0); says = a.says; moments = a.moments; settles = a.settles; stands = a.stands; each = a.each; ends = a.ends } where
    go : (os : List (Outcome S R)) → Runs M j s (c ∷ []) os → EndsAs (c ∷ []) os None → Runs M k s (c ∷ []) os
    go [] r e = tt
    go (o ∷ []) r e = (lawful.plain j k s c o (none_refused _ _ o.refusal e) r.0, r.1)
    go (o ∷ o2 ∷ os) r e = absurd (elim o.refusal as (λ x. MatchOption x ⊥ (λ q. (o2 ∷ os ≡ []) × (None ≡ Some q)) → ⊥) [ None ↦ λ h. h | Some q ↦ λ h. let p : o2 ∷ os ≡ [] = h.0 in cc ] e)
