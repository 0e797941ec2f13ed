-- Indexes that never fall, over the moments of a run.
use Rattle.std.proofs.Common.{◌≡◌, ◌⊎◌, inl, inr, ℕ, zero, suc, ◌<◌, ◌≤◌, ◌+◌, ◌-◌, Bool, true, false, cond, nat_lt, nat_le, List, [], ◌∷◌, ◌++◌, take, length, refl, sym, ◌∙◌, ap, subst, append-nil, arith}
use Rattle.std.proofs.lemmas.Bool.{ltb-true, ltb-false, lt-ltb, le-ltb, leb-true, leb-false}
use Rattle.std.proofs.lemmas.List.{length-append}
use Rattle.std.proofs.Math.Seq.{take-append_seam}
use Rattle.ap_host.proofs.ListLemmas.{cut}
use Rattle.run_model.specs.Run.{NeverFalls}

-- up to n operations the one index, and from there on the other
abbrev pub turned : ℕ → (ℕ → ℕ) → (ℕ → ℕ) → ℕ → ℕ
turned n a b i = cond (nat_lt i n) (a i) (b (i - n))

module _ (n : ℕ) (a b : ℕ → ℕ) where
  pub turned_before : (i : ℕ) → i < n → turned n a b i ≡ a i
  turned_before i lt = ap (λ (x : Bool). cond x (a i) (b (i - n))) (lt-ltb i n lt)

  pub turned_behind : (i : ℕ) → n ≤ i → turned n a b i ≡ b (i - n)
  turned_behind i le = ap (λ (x : Bool). cond x (a i) (b (i - n))) (le-ltb i n le)

  pub turned_rises : NeverFalls a → NeverFalls b → ((i j : ℕ) → i < n → a i ≤ b j) → NeverFalls (turned n a b)
  turned_rises ra rb seam i j le = go (nat_lt i n) (nat_lt j n) refl refl
    where
      go : (x y : Bool) → nat_lt i n ≡ x → nat_lt j n ≡ y → cond x (a i) (b (i - n)) ≤ cond y (a j) (b (j - n))
      go true true e f = ra i j le
      go true false e f = seam i (j - n) (ltb-true i n e)
      go false true e f = absurd (omega (arith, ltb-false i n e, ltb-true j n f, le))
      go false false e f = rb (i - n) (j - n) (omega (arith, le))

-- 0 until the second is known, and 1 from there on
abbrev pub which : {X Y : Type 0} → X ⊎ Y → ℕ → ℕ
which (inl x) k = k
which (inr y) k = 1

which_most : {X Y : Type 0} (w : X ⊎ Y) (k : ℕ) → k ≤ 1 → which w k ≤ 1
which_most (inl x) k le = le
which_most (inr y) k le = omega arith

which_more : {X Y : Type 0} (w : X ⊎ Y) (k : ℕ) → k ≤ 1 → k ≤ which w k
which_more (inl x) k le = omega arith
which_more (inr y) k le = le

module _ (A B : ℕ → Type 0) (known : (n : ℕ) → A n ⊎ B n) where
  abbrev pub switch : ℕ → ℕ
  switch zero = which (known zero) 0
  switch (suc n) = which (known (suc n)) (switch n)

  pub switch_most : (n : ℕ) → switch n ≤ 1
  switch_most zero = which_most (known zero) 0 (omega arith)
  switch_most (suc n) = which_most (known (suc n)) (switch n) (switch_most n)

  pub switch_rises : NeverFalls switch
  switch_rises i zero le = let none : i ≡ 0 = omega (arith, le) in subst (λ (x : ℕ). switch x ≤ switch 0) (sym none) (omega arith)
  switch_rises i (suc j) le = go (nat_le i j) refl (switch_rises i j)
    where
      go : (b : Bool) → nat_le i j ≡ b → (i ≤ j → switch i ≤ switch j) → switch i ≤ switch (suc j)
      go true e before = omega (arith, before (leb-true i j e), which_more (known (suc j)) (switch j) (switch_most j))
      go false e before = let same : i ≡ suc j = omega (arith, leb-false i j e, le) in subst (λ (x : ℕ). switch x ≤ switch (suc j)) (sym same) (omega arith)

  -- what is known at each moment
  pub switch_holds : ((n : ℕ) → B n → B (suc n)) → (n : ℕ) → ((switch n ≡ 0) × A n) ⊎ ((switch n ≡ 1) × B n)
  switch_holds onward zero = go (known zero)
    where
      go : (w : A 0 ⊎ B 0) → ((which w 0 ≡ 0) × A 0) ⊎ ((which w 0 ≡ 1) × B 0)
      go (inl a) = inl (refl, a)
      go (inr b) = inr (refl, b)
  switch_holds onward (suc n) = go (known (suc n)) (switch_holds onward n)
    where
      go : (w : A (suc n) ⊎ B (suc n)) → ((switch n ≡ 0) × A n) ⊎ ((switch n ≡ 1) × B n) → ((which w (switch n) ≡ 0) × A (suc n)) ⊎ ((which w (switch n) ≡ 1) × B (suc n))
      go (inl a) (inl w) = inl (w.0, a)
      go (inl a) (inr w) = inr (w.0, onward n w.1)
      go (inr b) w = inr (refl, b)

-- a front of a list is what is taken of it
pub front_taken : {A : Type 0} (before after xs : List A) → before ++ after ≡ xs → take (length before) xs ≡ before
front_taken before after xs e = ap (take (length before)) (sym e) ∙ take-append_seam before after

-- one more is taken
pub one_more : {A : Type 0} (n : ℕ) (xs : List A) → (d : List A) × (take n xs ++ d ≡ take (suc n) xs)
one_more zero [] = ([], refl)
one_more (suc n) [] = ([], refl)
one_more zero (x ∷ xs) = (x ∷ [], refl)
one_more (suc n) (x ∷ xs) = let more = one_more n xs in (more.0, ap (λ ys. x ∷ ys) more.1)

-- a moment of two runs in a row is one of the first before its end, or one of the second
pub before_or_behind : {A : Type 0} (before after xs ys : List A) → before ++ after ≡ xs ++ ys
    → ((d : List A) × (before ++ d ≡ xs) × (length before < length xs)) ⊎ ((d : List A) × (before ≡ xs ++ d) × (d ++ after ≡ ys))
before_or_behind {A = A} before after xs ys e = elim (cut before after xs ys e) [
  | inl w ↦ go w.0 w.1 w.2
  | inr w ↦ inr w
]
  where
    go : (d : List A) → before ++ d ≡ xs → after ≡ d ++ ys → ((d : List A) × (before ++ d ≡ xs) × (length before < length xs)) ⊎ ((d : List A) × (before ≡ xs ++ d) × (d ++ after ≡ ys))
    go [] whole rest = inr ([], sym (append-nil before) ∙ whole ∙ sym (append-nil xs), rest)
    go (x ∷ d) whole rest = inl (x ∷ d, whole, omega (arith, length-append before (x ∷ d), ap length whole))

-- what holds at each moment of two runs in a row
pub turned_at : {A : Type 0} (P : List A → ℕ → Type 0) (xs ys : List A) (a b : ℕ → ℕ)
    → ((before d : List A) → before ++ d ≡ xs → P before (a (length before)))
    → ((before d after : List A) → before ≡ xs ++ d → d ++ after ≡ ys → P before (b (length d)))
    → (before after : List A) → before ++ after ≡ xs ++ ys → P before (turned (length xs) a b (length before))
turned_at P xs ys a b first second before after e = elim (before_or_behind before after xs ys e) [
  | inl w ↦ subst (P before) (sym (turned_before (length xs) a b (length before) w.2)) (first before w.0 w.1)
  | inr w ↦
      let long : length before ≡ length xs + length w.0 = ap length w.1 ∙ length-append xs w.0 in
      let is : length before - length xs ≡ length w.0 = omega (arith, long) in
      subst (P before) (sym (turned_behind (length xs) a b (length before) (omega (arith, long)) ∙ ap b is)) (second before w.0 after w.1 w.2)
]
