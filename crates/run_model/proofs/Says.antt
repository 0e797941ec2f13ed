-- A command that goes on without a word, and then says its reply.
use Rattle.std.proofs.Common.{◌≡◌, ◌⊎◌, inl, inr, ℕ, suc, ◌<◌, ◌≤◌, List, [], ◌∷◌, ◌++◌, take, drop, length, Option, Some, None, MatchOption, refl, sym, ◌∙◌, ap, subst, append_assoc, append-nil, arith}
use Rattle.std.proofs.lemmas.List.{take-append-drop}
use Rattle.ap_host.specs.declared.host.Op.{Op}
use Rattle.ap_host.specs.declared.host.Op.TheVariants.{Say}
use Rattle.ap_host.specs.Disk.{Files, Log, Image, Images, extended, live_of, said, Disk}
use Rattle.ap_host.proofs.ListLemmas.{cut, cut_at}
use Rattle.ap_host.proofs.DiskLemmas.{disk_of-step}
use Rattle.ap_host.proofs.LegalLemmas.{law_of_live_image}
use Rattle.run_model.specs.Run.{Outcome, Machine, state_at, joined, acked, NeverFalls, Ran, Runs, Moments, Settles, Stands, StandsAt, Each, Tells, Between, AtRest, Lawful, Grows}
use Rattle.run_model.proofs.Indexes.{turned, turned_rises, turned_at, switch, switch_most, switch_rises, switch_holds, front_taken, one_more}
use Rattle.run_model.proofs.Joins.{extend, said-append, extend-extend, extend-nil, acked_front, acked_none, nil_front, both_ways}

-- a say leaves what there was
pub image_said : (l : Log) (bytes : List ℕ) (f : Files) → Image (extend l (Say bytes ∷ [])) f → Image l f
image_said l bytes f image p = subst (λ (d : Disk). d.may p (f p)) (disk_of-step (Say bytes) l) (image p)

pub live_said : (l : Log) (bytes : List ℕ) → live_of (extend l (Say bytes ∷ [])) ≡ live_of l
live_said l bytes = ap (λ (d : Disk). d.live) (disk_of-step (Say bytes) l)

-- parts of nothing
pub both_nil : (xs ys : List ℕ) → xs ++ ys ≡ [] → (xs ≡ []) × (ys ≡ [])
both_nil [] ys e = (refl, e)
both_nil (x ∷ xs) ys e = absurd (cc)

-- what stands behind the front of a list of one
front_of_one : {A : Type 0} (xs : List A) (y : A) (ys : List A) (x : A) → xs ++ y ∷ ys ≡ x ∷ [] → (xs ≡ []) × (y ≡ x)
front_of_one [] y ys x e = (refl, cc)
front_of_one (z ∷ []) y ys x e = absurd (cc)
front_of_one (z ∷ z2 ∷ xs) y ys x e = absurd (cc)

cut_of_one : {A : Type 0} (xs ys : List A) (x : A) → xs ++ ys ≡ x ∷ [] → (xs ≡ []) ⊎ (xs ≡ x ∷ [])
cut_of_one [] ys x e = inl refl
cut_of_one (z ∷ []) ys x e = inr (let h : z ≡ x = cc in cc)
cut_of_one (z ∷ z2 ∷ xs) ys x e = absurd (cc)

module _ {K S C R : Type 0} (M : Machine K S C R) (lawful : Lawful M) (k : K) (l : Log) (s : S) (c : C) (o : Outcome S R) (step : M.Step k s c o) where
  runs_one : Runs M k s (c ∷ []) (o ∷ [])
  runs_one = (step, let none : List (Outcome S R) = [] in elim o.refusal as (λ x. MatchOption x (Unit {0}) (λ _. none ≡ [])) [ None ↦ tt | Some r ↦ refl ])

  unsaid : acked (o ∷ []) [] ≡ 0
  unsaid = acked_none M lawful k s (c ∷ []) (o ∷ []) runs_one

  quiet_before : (ops before after : List Op) → said ops ≡ [] → before ++ after ≡ ops → said before ≡ []
  quiet_before ops before after quiet e = (both_nil (said before) (said after) (sym (said-append before after) ∙ ap said e ∙ quiet)).0

  quiet_moment : (ops before after : List Op) → said ops ≡ [] → before ++ after ≡ ops → Images (extend l before) (Between M.store s o.state)
      → let n = acked (o ∷ []) (said before) in Images (extend l before) (Between M.store (state_at s (o ∷ []) n) (state_at s (o ∷ []) (suc n)))
  quiet_moment ops before after quiet e here =
      subst (λ k. Images (extend l before) (Between M.store (state_at s (o ∷ []) k) (state_at s (o ∷ []) (suc k)))) (sym (ap (acked (o ∷ [])) (quiet_before ops before after quiet e) ∙ unsaid)) here

  quiet_at : (ops before after : List Op) → said ops ≡ [] → before ++ after ≡ ops → acked (o ∷ []) (said before) ≡ 0
  quiet_at ops before after quiet e = ap (acked (o ∷ [])) (quiet_before ops before after quiet e) ∙ unsaid

  -- what reads give stands for the one state or the other
  stands_for : (ops before after : List Op) → Grows M.store s o.state l ops → before ++ after ≡ ops → M.store.Open (live_of (extend l before)) s ⊎ M.store.Open (live_of (extend l before)) o.state
  stands_for ops before after g e = (g.each before after e (live_of (extend l before)) (law_of_live_image (extend l before))).0

  at_old : (ops before after : List Op) → said ops ≡ [] → before ++ after ≡ ops → M.store.Open (live_of (extend l before)) s → StandsAt M.store l s (o ∷ []) before 0
  at_old ops before after quiet e here = record { least = omega (arith, quiet_at ops before after quiet e); most = omega arith; stood = here }

  at_new : (ops before after : List Op) → said ops ≡ [] → before ++ after ≡ ops → M.store.Open (live_of (extend l before)) o.state → StandsAt M.store l s (o ∷ []) before 1
  at_new ops before after quiet e here = record { least = omega (arith, quiet_at ops before after quiet e); most = omega arith; stood = here }

  module _ (ops : List Op) (g : Grows M.store s o.state l ops) where
    abbrev pub Old : ℕ → Type 0
    Old n = M.store.Open (live_of (extend l (take n ops))) s

    abbrev pub New : ℕ → Type 0
    New n = M.store.Open (live_of (extend l (take n ops))) o.state

    pub known : (n : ℕ) → Old n ⊎ New n
    known n = stands_for ops (take n ops) (drop n ops) g (take-append-drop n ops)

    -- once it is the new state it stays so
    onward : (n : ℕ) → New n → New (suc n)
    onward n new =
        let more = one_more n ops in
        let cut : (take n ops ++ more.0) ++ drop (suc n) ops ≡ ops = ap (λ (x : List Op). x ++ drop (suc n) ops) more.1 ∙ take-append-drop (suc n) ops in
        subst (λ (x : List Op). M.store.Open (live_of (extend l x)) o.state) more.1 (g.onward (take n ops) more.0 (drop (suc n) ops) cut new)

    abbrev pub quiet_index : ℕ → ℕ
    quiet_index = switch Old New known

    pub quiet_stands_at : (before after : List Op) → before ++ after ≡ ops → StandsAt M.store l s (o ∷ []) before (quiet_index (length before))
    quiet_stands_at before after e =
        let is = front_taken before after ops e in
        elim (switch_holds Old New known onward (length before)) [
          | inl w ↦ subst (StandsAt M.store l s (o ∷ []) before) (sym w.0) (at_old ops before after g.quiet e (subst (λ (x : List Op). M.store.Open (live_of (extend l x)) s) is w.1))
          | inr w ↦ subst (StandsAt M.store l s (o ∷ []) before) (sym w.0) (at_new ops before after g.quiet e (subst (λ (x : List Op). M.store.Open (live_of (extend l x)) o.state) is w.1))
        ]

    pub quiet_rises : NeverFalls quiet_index
    quiet_rises = switch_rises Old New known

    pub quiet_most : (n : ℕ) → quiet_index n ≤ 1
    quiet_most = switch_most Old New known

    pub quiet_stands : Stands M.store l s (o ∷ []) ops
    quiet_stands = record { index = quiet_index; rises = quiet_rises; at = quiet_stands_at }

  quiet_tells : (ops : List Op) → said ops ≡ [] → Tells o.reply ops []
  quiet_tells ops quiet = record { front = (o.reply, ap (λ t. t ++ o.reply) (sym quiet)); whole = λ is. absurd (lawful.replies k s c o step (sym is ∙ quiet)); before_next = inl refl }

  -- it broke off before it said a word
  pub ran_quiet : (ops : List Op) → Grows M.store s o.state l ops → M.Moves l s c (Some o) ops → Ran M k l s (c ∷ []) None ops
  ran_quiet ops g moves = record {
    outcomes = o ∷ [];
    runs = runs_one;
    says = (joined (o ∷ []), ap (λ t. t ++ joined (o ∷ [])) (sym g.quiet));
    moments = λ before after e. quiet_moment ops before after g.quiet e (g.each before after e);
    settles = λ before op after e rises. absurd (omega (arith, rises, quiet_at ops (before ++ op ∷ []) after g.quiet (append_assoc before (op ∷ []) after ∙ e)));
    stands = quiet_stands ops g;
    each = (ops, [], append-nil ops, quiet_tells ops g.quiet, moves, both_ways o.refusal refl);
    ends = tt;
  }

  -- it said the reply, or the front of it
  module _ (ops : List Op) (g : Grows M.store s o.state l ops) (rest : AtRest M.store o.state (extended ops l)) (b tail : List ℕ) (front : o.reply ≡ b ++ tail) (moves : M.Moves l s c (Some o) (ops ++ Say b ∷ [])) where
    quiet : said ops ≡ []
    quiet = g.quiet

    each : (before after : List Op) → before ++ after ≡ ops → Images (extend l before) (Between M.store s o.state)
    each = g.each

    abbrev pub all : List Op
    all = ops ++ Say b ∷ []

    said_all : said all ≡ b
    said_all = said-append ops (Say b ∷ []) ∙ ap (λ t. t ++ (b ++ [])) quiet ∙ append-nil b

    at_end : (f : Files) → Image (extend l all) f → Image (extend l ops) f
    at_end f image = image_said (extend l ops) b f (subst (λ x. Image x f) (sym (extend-extend l ops (Say b ∷ []))) image)

    end_moment : let n = acked (o ∷ []) b in Images (extend l all) (Between M.store (state_at s (o ∷ []) n) (state_at s (o ∷ []) (suc n)))
    end_moment f image = elim (acked_front o [] refl b tail front) [
      | inl k ↦ subst (λ n. Between M.store (state_at s (o ∷ []) n) (state_at s (o ∷ []) (suc n)) f) (sym k.1) (each ops [] (append-nil ops) f (at_end f image))
      | inr k ↦ subst (λ n. Between M.store (state_at s (o ∷ []) n) (state_at s (o ∷ []) (suc n)) f) (sym k.1)
          (let here = rest f (at_end f image) in (inl (lawful.store.opens f o.state here), lawful.store.settled_serves f o.state here))
    ]

    said_moments : Moments M.store l s (o ∷ []) all
    said_moments before after e = elim (cut before after ops (Say b ∷ []) e) [
      | inl w ↦ quiet_moment ops before w.0 quiet w.1 (each before w.0 w.1)
      | inr w ↦ elim (cut_of_one w.0 after (Say b) w.2) [
        | inl n ↦ let same : before ++ [] ≡ ops = append-nil before ∙ w.1 ∙ ap (λ t. ops ++ t) n ∙ append-nil ops in
            quiet_moment ops before [] quiet same (each before [] same)
        | inr n ↦ let same : all ≡ before = ap (λ t. ops ++ t) (sym n) ∙ sym w.1 in
            subst (λ x. let n = acked (o ∷ []) (said x) in Images (extend l x) (Between M.store (state_at s (o ∷ []) n) (state_at s (o ∷ []) (suc n)))) same
            (subst (λ t. let n = acked (o ∷ []) t in Images (extend l all) (Between M.store (state_at s (o ∷ []) n) (state_at s (o ∷ []) (suc n)))) (sym said_all) end_moment)
      ]
    ]

    said_settles : Settles M.store l s (o ∷ []) all
    said_settles before op after e rises = elim (cut_at before op after ops (Say b ∷ []) e) [
      | inl w ↦ absurd (omega (arith, rises, ap (acked (o ∷ [])) (quiet_before ops (before ++ op ∷ []) w.0 quiet (append_assoc before (op ∷ []) w.0 ∙ w.1)) ∙ unsaid))
      | inr w ↦ let one = front_of_one w.0 op after (Say b) w.2 in
          let same : all ≡ before ++ op ∷ [] = ap (λ t. ops ++ t ∷ []) (sym one.1) ∙ ap (λ t. t ++ op ∷ []) (sym (w.1 ∙ ap (λ t. ops ++ t) one.0 ∙ append-nil ops)) in
          subst (λ x. acked (o ∷ []) (said before) < acked (o ∷ []) (said x) → Images (extend l x) (λ f. M.store.Settled f (state_at s (o ∷ []) (acked (o ∷ []) (said x))))) same
          (subst (λ t. acked (o ∷ []) (said before) < acked (o ∷ []) t → Images (extend l all) (λ f. M.store.Settled f (state_at s (o ∷ []) (acked (o ∷ []) t)))) (sym said_all)
          (λ rose f image. elim (acked_front o [] refl b tail front) [
            | inl k ↦ absurd (omega (arith, rose, k.1))
            | inr k ↦ subst (λ n. M.store.Settled f (state_at s (o ∷ []) n)) (sym k.1) (rest f (at_end f image))
          ])) rises
    ]

    stands_whole : (before : List Op) → all ≡ before → StandsAt M.store l s (o ∷ []) before 1
    stands_whole before is = subst (λ (x : List Op). StandsAt M.store l s (o ∷ []) x 1) is (record {
      least = elim (acked_front o [] refl b tail front) [ inl z ↦ omega (arith, at_b, z.1) | inr z ↦ omega (arith, at_b, z.1) ];
      most = omega arith;
      stood = subst (λ (m : Files). M.store.Open m o.state) (sym (ap live_of (sym (extend-extend l ops (Say b ∷ []))) ∙ live_said (extend l ops) b)) (lawful.store.opens (live_of (extend l ops)) o.state (rest (live_of (extend l ops)) (law_of_live_image (extend l ops))));
    })
      where
        at_b : acked (o ∷ []) (said all) ≡ acked (o ∷ []) b
        at_b = ap (acked (o ∷ [])) said_all

    said_stands : Stands M.store l s (o ∷ []) all
    said_stands = record {
      index = turned (length ops) (quiet_index ops g) (λ i. 1);
      rises = turned_rises (length ops) (quiet_index ops g) (λ i. 1) (quiet_rises ops g) (λ i j le. omega arith) (λ i j lt. quiet_most ops g i);
      at = turned_at (StandsAt M.store l s (o ∷ [])) ops (Say b ∷ []) (quiet_index ops g) (λ i. 1) (quiet_stands_at ops g) (λ before d after e behind. elim (cut_of_one d after (Say b) behind) [
        | inl none ↦
            let same : before ≡ ops = e ∙ ap (λ (t : List Op). ops ++ t) none ∙ append-nil ops in
            at_new ops before [] quiet (append-nil before ∙ same) (subst (λ (x : List Op). M.store.Open (live_of (extend l x)) o.state) (sym same) (lawful.store.opens (live_of (extend l ops)) o.state (rest (live_of (extend l ops)) (law_of_live_image (extend l ops)))))
        | inr whole ↦ stands_whole before (ap (λ (t : List Op). ops ++ t) (sym whole) ∙ sym e)
      ]);
    }

    said_each : Each M l s (c ∷ []) (o ∷ []) all
    said_each = (
      all,
      [],
      append-nil all,
      record {
        front = (tail, front ∙ ap (λ t. t ++ tail) (sym said_all));
        whole = λ is. (ops, quiet, ap (λ (t : List ℕ). ops ++ Say t ∷ []) (sym said_all ∙ is));
        before_next = inl refl;
      },
      moves,
      both_ways o.refusal refl,
    )

    pub ran_front : Ran M k l s (c ∷ []) None all
    ran_front = record {
      outcomes = o ∷ [];
      runs = runs_one;
      says = (tail, append-nil o.reply ∙ front ∙ ap (λ t. t ++ tail) (sym said_all));
      moments = said_moments;
      settles = said_settles;
      stands = said_stands;
      each = said_each;
      ends = tt;
    }

    pub ran_whole : b ≡ o.reply → Ran M k l s (c ∷ []) (Some (o.state, o.refusal)) all
    ran_whole whole = record {
      outcomes = o ∷ [];
      runs = runs_one;
      says = (tail, append-nil o.reply ∙ front ∙ ap (λ t. t ++ tail) (sym said_all));
      moments = said_moments;
      settles = said_settles;
      stands = said_stands;
      each = said_each;
      ends = (ends_one o.refusal, said_all ∙ whole ∙ sym (append-nil o.reply), refl, λ f image. rest f (at_end f image));
    } where
      ends_one : (r : Option R) → (let none : List (Outcome S R) = [] in MatchOption r (r ≡ None) (λ q. (none ≡ []) × (r ≡ Some q)))
      ends_one None = refl
      ends_one (Some q) = (refl, refl)

module _ {K S C R : Type 0} (M : Machine K S C R) (lawful : Lawful M) (k : K) (l : Log) (s : S) (c : C) where
  -- a command broke off before it came to an outcome
  pub ran_begun : (ops : List Op) → Grows M.store s s l ops → M.Moves l s c None ops → Ran M k l s (c ∷ []) None ops
  ran_begun ops g moves = record {
    outcomes = [];
    runs = tt;
    says = ([], sym g.quiet ∙ sym (append-nil (said ops)));
    moments = g.each;
    settles = λ before op after e rises. absurd (omega (arith, rises));
    stands = record { index = λ i. 0; rises = λ i j le. omega arith; at = at };
    each = inr moves;
    ends = tt;
  }
    where
      at : (before after : List Op) → before ++ after ≡ ops → StandsAt M.store {R = R} l s [] before 0
      at before after e = record { least = omega arith; most = omega arith; stood = elim (g.each before after e (live_of (extend l before)) (law_of_live_image (extend l before))).0 [ inl x ↦ x | inr x ↦ x ] }

  -- where nothing is done
  pub grows_none : AtRest M.store s l → (t : S) → Grows M.store s t l []
  grows_none rest t = record {
    quiet = refl;
    each = λ before after e. subst (λ b. Images (extend l b) (Between M.store s t)) (sym (nil_front M lawful k before after e)) (λ f image. let here = rest f (subst (λ x. Image x f) (extend-nil l) image) in (inl (lawful.store.opens f s here), lawful.store.serves f s t (lawful.store.settled_serves f s here)));
    onward = λ earlier between after e here.
        let none : earlier ++ between ≡ [] = nil_front M lawful k (earlier ++ between) after e in
        subst (λ (b : List Op). M.store.Open (live_of (extend l b)) t) (nil_front M lawful k earlier between none ∙ sym none) here;
  }
