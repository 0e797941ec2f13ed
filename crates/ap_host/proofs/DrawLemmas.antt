-- An image is made path by path.
use Rattle.std.proofs.Common.{◌≡◌, ◌≢◌, ◌⊎◌, inl, inr, ℕ, zero, suc, ◌<◌, ◌+◌, Bool, true, false, take, drop, length, map, List, [], ◌∷◌, ◌++◌, Some, None, IsSome, bytes_eq, slice_get, refl, sym, ◌∙◌, ap, subst, arith, append-nil, append_assoc, add-one}
use Rattle.std.proofs.lemmas.List.{take-append-drop}
use Rattle.std.proofs.lemmas.Slice.Eq.{bytes_eq-Decides}
use Rattle.std.specs.Bool.{if◌then◌else◌}
use Rattle.std.specs.List.{AllByRecursion}
use Rattle.std.specs.Ordering.{ordering_reverse, nat_cmp}
use Rattle.std.specs.Cmp.Lexicographic.{slice_cmp, nat_list_cmp_total}
use Rattle.std.specs.declared.cmp.Ordering.TheVariants.{Less, Greater}
use Rattle.ap_host.specs.declared.host.Op.{Op}
use Rattle.ap_host.specs.declared.host.Op.TheVariants.{Barrier}
use Rattle.ap_host.specs.Disk.{Path, Content, Files, Log, live_of, Disk, after, settled, disk_of, Image}
use Rattle.ap_host.specs.Table.{Entries, files_of, IsOnce, SameFiles}
use Rattle.ap_host.specs.Names.{Before, IsAscending, IsOneOf}
use Rattle.ap_host.specs.Images.{AreNamed, kept_after, kept_of, takes_live, IsTaken, IsDrawn, IsChoice}
use Rattle.ap_host.specs.Drawing.{HaveNoBarrier, IsBarrierEnd, entry_of}
use Rattle.ap_host.proofs.DiskLemmas.{after-append}
use Rattle.ap_host.proofs.LegalLemmas.{law_of_live_image}
use Rattle.ap_host.proofs.KeptLemmas.{kept_or_none, kept_same, kept_behind, live_untouched}
use Rattle.ap_host.proofs.TableLemmas.{path_tells, files_of-push}

-- no path comes before itself
apart : (p q : Path) → Before p q → p ≢ q
apart p q b is =
    let here : slice_cmp nat_cmp p p ≡ Less = subst (λ (r : Path). Before p r) (sym is) b in
    let back : slice_cmp nat_cmp p p ≡ ordering_reverse (slice_cmp nat_cmp p p) = nat_list_cmp_total.antisymm p p in
    let both : Less ≡ Greater = sym here ∙ back ∙ ap ordering_reverse here in absurd (cc)

-- a path among these is at some place
place_of_one : (p : Path) (xs : List Path) → IsOneOf p xs → (i : ℕ) × (slice_get xs i ≡ Some p)
place_of_one p [] h = elim h [ ]
place_of_one p (x ∷ xs) (inl is) = (zero, ap (λ (r : Path). Some r) (sym is))
place_of_one p (x ∷ xs) (inr t) = let w = place_of_one p xs t in (suc w.0, w.1)

one_decides : (p : Path) (xs : List Path) → IsOneOf p xs ⊎ (IsOneOf p xs → ⊥)
one_decides p [] = inr (λ h. h)
one_decides p (x ∷ xs) = elim (path_tells p x) [
  | inl y ↦ inl (inl y.1)
  | inr n ↦ elim (one_decides p xs) [ inl t ↦ inl (inr t) | inr f ↦ inr (λ h. elim h [ inl is ↦ n.1 is | inr t ↦ f t ]) ]
]

one_take : (p : Path) (xs : List Path) (n : ℕ) → IsOneOf p (take n xs) → IsOneOf p xs
one_take p [] zero h = h
one_take p [] (suc n) h = h
one_take p (x ∷ xs) zero h = absurd h
one_take p (x ∷ xs) (suc n) (inl is) = inl is
one_take p (x ∷ xs) (suc n) (inr t) = inr (one_take p xs n t)

-- the paths in front of a place come before that path
all_at : (P : Path → Type 0) (xs : List Path) (n : ℕ) (p : Path) → AllByRecursion P xs → slice_get xs n ≡ Some p → P p
all_at P [] n p a at = let no : None ≡ Some p = at in absurd (cc)
all_at P (x ∷ xs) zero p a at = let e : Some x ≡ Some p = at in subst P (let f : x ≡ p = cc in f) a.0
all_at P (x ∷ xs) (suc n) p a at = all_at P xs n p a.1 at

front_before : (xs : List Path) (n : ℕ) (p q : Path) → IsAscending xs → slice_get xs n ≡ Some p → IsOneOf q (take n xs) → Before q p
front_before [] zero p q asc at h = absurd h
front_before [] (suc n) p q asc at h = absurd h
front_before (x ∷ xs) zero p q asc at h = absurd h
front_before (x ∷ xs) (suc n) p q asc at (inl is) = subst (λ (r : Path). Before r p) (sym is) (all_at (λ r. Before x r) xs n p asc.0 at)
front_before (x ∷ xs) (suc n) p q asc at (inr t) = front_before xs n p q asc.1 at t

-- a path at a place is among those in front of a later place
one_of_front : (xs : List Path) (i n : ℕ) (q : Path) → i < n → slice_get xs i ≡ Some q → IsOneOf q (take n xs)
one_of_front [] i n q lt at = let no : None ≡ Some q = at in absurd (cc)
one_of_front (x ∷ xs) i zero q lt at = absurd (omega arith)
one_of_front (x ∷ xs) zero (suc n) q lt at = let e : Some x ≡ Some q = at in inl (let f : q ≡ x = cc in f)
one_of_front (x ∷ xs) (suc i) (suc n) q lt at = inr (one_of_front xs i n q (omega arith) at)

all_map : (P Q : Path → Type 0) → ((q : Path) → P q → Q q) → (xs : List Path) → AllByRecursion P xs → AllByRecursion Q xs
all_map P Q f [] a = tt
all_map P Q f (x ∷ xs) a = (f x a.0, all_map P Q f xs a.1)

all_push : (P : Path → Type 0) (xs : List Path) (p : Path) → AllByRecursion P xs → P p → AllByRecursion P (xs ++ p ∷ [])
all_push P [] p a h = (h, tt)
all_push P (x ∷ xs) p a h = (a.0, all_push P xs p a.1 h)

ascending_push : (xs : List Path) (p : Path) → IsAscending xs → AllByRecursion (λ q. Before q p) xs → IsAscending (xs ++ p ∷ [])
ascending_push [] p asc a = (tt, tt)
ascending_push (x ∷ xs) p asc a = (all_push (λ q. Before x q) xs p asc.0 a.0, ascending_push xs p asc.1 a.1)

keys_push : (es : Entries) (e : List ℕ × List ℕ) → map (λ (x : List ℕ × List ℕ). x.0) (es ++ e ∷ []) ≡ map (λ (x : List ℕ × List ℕ). x.0) es ++ e.0 ∷ []
keys_push [] e = refl
keys_push (x ∷ es) e = ap (λ (l : List Path). x.0 ∷ l) (keys_push es e)

-- a path that comes behind all is none of them
free_behind : (es : Entries) (p : Path) → AllByRecursion (λ q. Before q p) (map (λ (x : List ℕ × List ℕ). x.0) es) → files_of es p ≡ None
free_behind [] p a = refl
free_behind (e ∷ es) p a = let ne = apart e.0 p a.0 in let rest = free_behind es p a.1 in grind (arith, path_tells)

-- a path that none of the entries has
free_other : (es : Entries) (p : Path) (P : Path → Type 0) → AllByRecursion P (map (λ (x : List ℕ × List ℕ). x.0) es) → (P p → ⊥) → files_of es p ≡ None
free_other [] p P a n = refl
free_other (e ∷ es) p P a n =
    let ne : p ≢ e.0 = λ is. n (subst P (sym is) a.0) in
    let rest = free_other es p P a.1 n in grind (arith, path_tells)

-- what is known when the first n paths are done
pub record Drawn (log : Log) (kept : Files) (choice : ℕ) (paths : List Path) (n : ℕ) (entries : Entries) : Type 0 where
  pub within : AllByRecursion (λ q. IsOneOf q (take n paths)) (map (λ (x : List ℕ × List ℕ). x.0) entries)
  pub ascending : IsAscending (map (λ (x : List ℕ × List ℕ). x.0) entries)
  pub taken : (i : ℕ) (p : Path) → i < n → slice_get paths i ≡ Some p → IsTaken log kept p (files_of entries p) (takes_live choice i)

pub drawn_none : (log : Log) (kept : Files) (choice : ℕ) (paths : List Path) → Drawn log kept choice paths 0 []
drawn_none log kept choice paths = record { within = tt; ascending = tt; taken = λ i p lt at. absurd (omega arith) }

take_wider : (paths : List Path) (n : ℕ) (q : Path) → IsOneOf q (take n paths) → IsOneOf q (take (n + 1) paths)
take_wider paths n q h = subst (λ (k : ℕ). IsOneOf q (take k paths)) (sym (add-one n)) (go paths n h)
  where
    go : (ys : List Path) (k : ℕ) → IsOneOf q (take k ys) → IsOneOf q (take (suc k) ys)
    go [] zero t = absurd t
    go [] (suc k) t = t
    go (y ∷ ys) zero t = absurd t
    go (y ∷ ys) (suc k) (inl is) = inl is
    go (y ∷ ys) (suc k) (inr t) = inr (go ys k t)

same_at : (paths : List Path) (n : ℕ) (p q : Path) → slice_get paths n ≡ Some p → slice_get paths n ≡ Some q → p ≡ q
same_at paths n p q a b = let e : Some p ≡ Some q = sym a ∙ b in cc

module _ (log : Log) (kept : Files) (choice : ℕ) (paths : List Path) (n : ℕ) (old new : Entries) (p : Path) (x : Content) where
  -- the new path has its value, and the others theirs
  taken_more : IsAscending paths → slice_get paths n ≡ Some p → Drawn log kept choice paths n old → IsTaken log kept p x (takes_live choice n)
      → files_of new p ≡ x → ((q : Path) → q ≢ p → files_of new q ≡ files_of old q)
      → (i : ℕ) (q : Path) → i < n + 1 → slice_get paths i ≡ Some q → IsTaken log kept q (files_of new q) (takes_live choice i)
  taken_more asc at d here is others i q lt found = elim (split i n lt) [
    | inl less ↦
        let ne : q ≢ p = apart q p (front_before paths n p q asc at (one_of_front paths i n q less found)) in
        subst (λ (y : Content). IsTaken log kept q y (takes_live choice i)) (sym (others q ne)) (d.taken i q less found)
    | inr eq ↦
        let where_p : slice_get paths i ≡ Some p = subst (λ (k : ℕ). slice_get paths k ≡ Some p) (sym eq) at in
        let same : q ≡ p = same_at paths i q p found where_p in
        let t : IsTaken log kept p (files_of new p) (takes_live choice i) = subst (λ (k : ℕ). IsTaken log kept p (files_of new p) (takes_live choice k)) (sym eq) (subst (λ (y : Content). IsTaken log kept p y (takes_live choice n)) (sym is) here) in
        subst (λ (r : Path). IsTaken log kept r (files_of new r) (takes_live choice i)) (sym same) t
  ]
    where
      split : (i n : ℕ) → i < n + 1 → (i < n) ⊎ (i ≡ n)
      split i n lt = grind arith

pub drawn_more : (log : Log) (kept : Files) (choice : ℕ) (paths : List Path) (n : ℕ) (old : Entries) (p : Path) (x : Content) → IsAscending paths → slice_get paths n ≡ Some p → Drawn log kept choice paths n old
    → IsTaken log kept p x (takes_live choice n) → Drawn log kept choice paths (n + 1) (old ++ entry_of p x)
drawn_more log kept choice paths n old p None asc at d here =
    let behind = all_map (λ q. IsOneOf q (take n paths)) (λ q. Before q p) (λ q t. front_before paths n p q asc at t) (map (λ (e : List ℕ × List ℕ). e.0) old) d.within in
    subst (λ (es : Entries). Drawn log kept choice paths (n + 1) es) (sym (append-nil old)) (record {
      within = all_map (λ q. IsOneOf q (take n paths)) (λ q. IsOneOf q (take (n + 1) paths)) (take_wider paths n) (map (λ (e : List ℕ × List ℕ). e.0) old) d.within;
      ascending = d.ascending;
      taken = taken_more log kept choice paths n old old p None asc at d here (free_behind old p behind) (λ q ne. refl);
    })
drawn_more log kept choice paths n old p (Some c) asc at d here =
    let behind = all_map (λ q. IsOneOf q (take n paths)) (λ q. Before q p) (λ q t. front_before paths n p q asc at t) (map (λ (e : List ℕ × List ℕ). e.0) old) d.within in
    let free = free_behind old p behind in
    record {
      within = subst (λ (l : List Path). AllByRecursion (λ q. IsOneOf q (take (n + 1) paths)) l) (sym (keys_push old (p, c)))
          (all_push (λ q. IsOneOf q (take (n + 1) paths)) (map (λ (e : List ℕ × List ℕ). e.0) old) p
          (all_map (λ q. IsOneOf q (take n paths)) (λ q. IsOneOf q (take (n + 1) paths)) (take_wider paths n) (map (λ (e : List ℕ × List ℕ). e.0) old) d.within)
          (one_of_front paths n (n + 1) p (omega arith) at));
      ascending = subst (λ (l : List Path). IsAscending l) (sym (keys_push old (p, c))) (ascending_push (map (λ (e : List ℕ × List ℕ). e.0) old) p d.ascending behind);
      taken = taken_more log kept choice paths n old (old ++ (p, c) ∷ []) p (Some c) asc at d here (here_is free) (λ q ne. other_is free q ne);
    }
  where
    here_is : files_of old p ≡ None → files_of (old ++ (p, c) ∷ []) p ≡ Some c
    here_is free = grind (arith, path_tells, files_of-push old p c free p)

    other_is : files_of old p ≡ None → (q : Path) → q ≢ p → files_of (old ++ (p, c) ∷ []) q ≡ files_of old q
    other_is free q ne = grind (arith, path_tells, files_of-push old p c free q)

pub drawn_all : (log : Log) (kept : Files) (choice : ℕ) (paths : List Path) (entries : Entries) → Drawn log kept choice paths (length paths) entries → IsDrawn log kept choice paths entries
drawn_all log kept choice paths entries d = record {
  ascending = d.ascending;
  taken = λ i p at. d.taken i p (below paths i p at) at;
  only = λ p not. free_other entries p (λ q. IsOneOf q (take (length paths) paths)) d.within (λ t. not (one_take p paths (length paths) t));
}
  where
    below : (xs : List Path) (i : ℕ) (p : Path) → slice_get xs i ≡ Some p → i < length xs
    below [] i p at = let no : None ≡ Some p = at in absurd (cc)
    below (x ∷ xs) zero p at = omega arith
    below (x ∷ xs) (suc i) p at = let rest = below xs i p at in omega arith

-- the same of a disk
abbrev TakenAt : Disk → Files → Path → Content → Bool → Type 0
TakenAt d kept p x true = x ≡ d.live p
TakenAt d kept p x false = (d.may p (kept p) × (x ≡ kept p)) ⊎ ((d.may p (kept p) → ⊥) × (x ≡ None))

taken_to : (log : Log) (kept : Files) (p : Path) (x : Content) (b : Bool) → IsTaken log kept p x b → TakenAt (disk_of log) kept p x b
taken_to log kept p x true t = t
taken_to log kept p x false t = t

taken_from : (log : Log) (kept : Files) (p : Path) (x : Content) (b : Bool) → TakenAt (disk_of log) kept p x b → IsTaken log kept p x b
taken_from log kept p x true t = t
taken_from log kept p x false t = t

-- up to a barrier the disk is settled
settled_there : (base : Files) (ops : List Op) (n : ℕ) → (n ≡ 0) ⊎ ((earlier : List Op) × (take n ops ≡ earlier ++ Barrier ∷ [])) → after (settled base) (take n ops) ≡ settled (after (settled base) (take n ops)).live
settled_there base ops n (inl is) = subst (λ (k : ℕ). after (settled base) (take k ops) ≡ settled (after (settled base) (take k ops)).live) (sym is) (none ops)
  where
    none : (o : List Op) → after (settled base) (take 0 o) ≡ settled (after (settled base) (take 0 o)).live
    none [] = refl
    none (x ∷ o) = refl
settled_there base ops n (inr w) =
    let e = after-append (settled base) w.0 (Barrier ∷ []) in
    subst (λ (o : List Op). after (settled base) o ≡ settled (after (settled base) o).live) (sym w.1)
    (subst (λ (d : Disk). d ≡ settled d.live) (sym e) refl)

-- a log that begins at its last barrier
cut_disk : (base : Files) (ops : List Op) (n : ℕ) → IsBarrierEnd ops n → (kept : Files) → kept ≡ (after (settled base) (take n ops)).live → after (settled kept) (drop n ops) ≡ after (settled base) ops
cut_disk base ops n b kept is =
    ap (λ (k : Files). after (settled k) (drop n ops)) is
    ∙ ap (λ (d : Disk). after d (drop n ops)) (sym (settled_there base ops n b.ends))
    ∙ sym (after-append (settled base) (take n ops) (drop n ops))
    ∙ ap (λ (o : List Op). after (settled base) o) (take-append-drop n ops)

cut_kept : (base : Files) (ops : List Op) (n : ℕ) → IsBarrierEnd ops n → kept_after base base ops ≡ (after (settled base) (take n ops)).live
cut_kept base ops n b = elim b.ends [
  | inl is ↦ subst (λ (k : ℕ). kept_after base base ops ≡ (after (settled base) (take k ops)).live) (sym is) (none ops (subst (λ (k : ℕ). HaveNoBarrier (drop k ops)) is b.since))
  | inr w ↦
      let whole : ops ≡ w.0 ++ Barrier ∷ drop n ops = sym (take-append-drop n ops) ∙ ap (λ (o : List Op). o ++ drop n ops) w.1 ∙ append_assoc w.0 (Barrier ∷ []) (drop n ops) in
      ap (λ (o : List Op). kept_after base base o) whole
      ∙ kept_behind (settled base) base w.0 (drop n ops) b.since
      ∙ sym (ap (λ (d : Disk). d.live) (after-append (settled base) w.0 (Barrier ∷ [])))
      ∙ ap (λ (o : List Op). (after (settled base) o).live) (sym w.1)
]
  where
    none : (o : List Op) → HaveNoBarrier (drop 0 o) → kept_after base base o ≡ (after (settled base) (take 0 o)).live
    none [] nb = refl
    none (x ∷ o) nb = kept_same base base (x ∷ o) nb

-- what is taken is among what a stop may leave
taken_may : (log : Log) (p : Path) (x : Content) (b : Bool) → IsTaken log (kept_of log) p x b → (disk_of log).may p x
taken_may log p x true t = subst ((disk_of log).may p) (sym t) (law_of_live_image log p)
taken_may log p x false (inl t) = subst ((disk_of log).may p) (sym t.1) t.0
taken_may log p x false (inr t) = elim (kept_or_none log p) [ inl y ↦ absurd (t.0 y) | inr y ↦ subst ((disk_of log).may p) (sym t.1) y ]

drawn_image : (log : Log) (choice : ℕ) (paths : List Path) (entries : Entries) → AreNamed log paths → IsDrawn log (kept_of log) choice paths entries → Image log (files_of entries)
drawn_image log choice paths entries named d p = elim (one_decides p paths) [
  | inl t ↦ let w = place_of_one p paths t in taken_may log p (files_of entries p) (takes_live choice w.0) (d.taken w.0 p w.1)
  | inr not ↦
      let reads : live_of log p ≡ log.base p = live_untouched (settled log.base) log.ops p (λ t. not ((named.each p).1 (inr t))) in
      let none : log.base p ≡ None = absent (log.base p) (λ some. not ((named.each p).1 (inl some))) in
      subst ((disk_of log).may p) (reads ∙ none ∙ sym (d.only p not)) (law_of_live_image log p)
]
  where
    absent : (x : Content) → (IsSome x → ⊥) → x ≡ None
    absent None n = refl
    absent (Some c) n = absurd (n refl)

drawn_along : (log cut : Log) (kept : Files) (choice : ℕ) (paths : List Path) (entries : Entries) → disk_of cut ≡ disk_of log → kept ≡ kept_of log → IsDrawn cut kept choice paths entries → IsDrawn log (kept_of log) choice paths entries
drawn_along log cut kept choice paths entries same is d = record {
  ascending = d.ascending;
  taken = λ i p at.
      let b = takes_live choice i in
      let x = files_of entries p in
      let t = taken_to cut kept p x b (d.taken i p at) in
      let u = subst (λ (e : Disk). TakenAt e kept p x b) same t in
      taken_from log (kept_of log) p x b (subst (λ (k : Files). TakenAt (disk_of log) k p x b) is u);
  only = d.only;
}

free : (p : Path) (es : Entries) → AllByRecursion (λ q. Before p q) (map (λ (e : List ℕ × List ℕ). e.0) es) → files_of es p ≡ None
free p [] all = refl
free p (e ∷ es) all = go (bytes_eq p e.0) refl (free p es all.1)
  where
    go : (b : Bool) → bytes_eq p e.0 ≡ b → files_of es p ≡ None → (if b then Some e.1 else files_of es p) ≡ None
    go false is rest = rest
    go true is rest = absurd (apart p e.0 all.0 ((bytes_eq-Decides p e.0).0 is))

-- files in the order of their paths stand once
ascending_once : (es : Entries) → IsAscending (map (λ (e : List ℕ × List ℕ). e.0) es) → IsOnce es
ascending_once [] a = tt
ascending_once (e ∷ es) a = (free e.0 es a.0, ascending_once es a.1)

-- the image of a choice, where `kept` is what reads gave at the last barrier
pub chosen : (base : Files) (ops : List Op) (n : ℕ) (kept : Files) (choice : ℕ) (paths : List Path) (entries : Entries) → IsBarrierEnd ops n → SameFiles kept (live_of (record { base = base; ops = take n ops }))
    → AreNamed (record { base = base; ops = ops }) paths → IsDrawn (record { base = kept; ops = drop n ops }) kept choice paths entries → IsChoice (record { base = base; ops = ops }) choice entries
chosen base ops n kept choice paths entries b same named d =
    let is : kept ≡ (after (settled base) (take n ops)).live = λ i p. same p i in
    let e : after (settled kept) (drop n ops) ≡ after (settled base) ops = cut_disk base ops n b kept is in
    let log : Log = record { base = base; ops = ops } in
    let all = drawn_along log (record { base = kept; ops = drop n ops }) kept choice paths entries e (is ∙ sym (cut_kept base ops n b)) d in
    record { image = drawn_image log choice paths entries named all; paths = paths; named = named; drawn = all; once = ascending_once entries all.ascending }
