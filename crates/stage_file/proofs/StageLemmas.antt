-- The operations of a staged file, and what a log is after them.
use Rattle.std.proofs.Common.{◌≡◌, ◌≢◌, ◌⊎◌, inl, inr, ℕ, List, [], ◌∷◌, ◌++◌, Option, Some, None, IsSome, IsFalse, IsTrue, Bool, MatchBool, true, false, Result, Ok, Err, OnOk, option_map, refl, sym, ◌∙◌, ap, subst, append_assoc, append-nil, take, drop, length, length-append, ◌≤◌, ◌<◌, ◌+◌, ◌-◌, arith}
use Rattle.std.proofs.Math.Seq.{take-add}
use Rattle.std.proofs.lemmas.List.{length-take}
use Rattle.std.specs.List.{AllByRecursion}
use Rattle.ap_host.specs.declared.host.Op.{Op}
use Rattle.ap_host.specs.declared.host.Op.TheVariants.{Create, Append, Sync, Rename, Remove, Barrier, Say, Claim}
use Rattle.ap_host.specs.declared.host.HostErr.{HostErr}
use Rattle.ap_host.specs.Disk.{Path, Content, Log, extended, live_of, disk_of, Disk, step, Durable, Throughout}
use Rattle.ap_host.specs.Calls.{Added, Did}
use Rattle.ap_host.specs.Changes.{TouchesOnly, EachOp, GoesOn}
use Rattle.ap_host.specs.Phases.{IsSynced}
use Rattle.ap_host.proofs.DiskLemmas.{with_file-same, moved-to, disk_of-step, extended-append, extended-none, Throughout-map}
use Rattle.ap_host.proofs.ChangeLemmas.{EachOp-append, EachOp-map, IsPart, part_each, part_moments, did_part, did_ok}
use Rattle.ap_host.proofs.LegalLemmas.{law_of_barrier}
use Rattle.stage_file.specs.Stage.{joined, IsCut, appends, IsLaid, Appends, AppendsSoFar, Lays, LaysAt, Places, Removes, Barriers, StageState, IsInStep}

-- a run whose operations are known
pub ran : (ops : List Op) (old new : Option Log) → Added ops old new → GoesOn old new (λ l a. a ≡ ops)
ran ops old new log = record { added = ops; log = log; holds = λ l told. refl }

abbrev pub creates : Path → List Op
creates p = Create p ∷ []

pub live_step_of : (l : Log) (op : Op) (p : Path) → live_of (extended (op ∷ []) l) p ≡ (step (disk_of l) op).live p
live_step_of l op p = ap (λ (d : Disk). d.live p) (disk_of-step op l)

pub created : (l : Log) (p : Path) (a : List Op) → a ≡ creates p → live_of (extended a l) p ≡ Some []
created l p a is = ap (λ (o : List Op). live_of (extended o l) p) is ∙ live_step_of l (Create p) p ∙ with_file-same (live_of l) p (Some [])

pub is_some : (x : Content) (bytes : List ℕ) → x ≡ Some bytes → IsSome x
is_some x bytes is = subst (λ (y : Content). IsSome y) (sym is) refl

pub appended_some : (bytes : List ℕ) (x y : Content) → IsSome x → y ≡ option_map (λ c. c ++ bytes) x → IsSome y
appended_some bytes None y some is = let none_is : IsSome {T = List ℕ} None = some in cc
appended_some bytes (Some c) y some is = is_some y _ is

-- the bytes up to a place, and a piece from there on
pub pieces : (i n : ℕ) (xs : List ℕ) → take i xs ++ take (i + n - i) (drop i xs) ≡ take (i + n) xs
pieces i n xs =
    let size : i + n - i ≡ n = omega arith in
    ap (λ (k : ℕ). take i xs ++ take k (drop i xs)) size ∙ sym (take-add i n xs)

-- an append of a piece
pub lays_part : (p : Path) (op : Op) → LaysAt p op → (o : Op) → IsPart op o → LaysAt p o
lays_part p (Create q) w o is = subst (LaysAt p) (sym is) w
lays_part p (Append q bytes) w o (inl is) = subst (LaysAt p) (sym is) w
lays_part p (Append q bytes) w o (inr is) = subst (LaysAt p) (sym is.1) (w.0, let size = length-take is.0 bytes in omega (arith, size, w.1))
lays_part p (Sync q) w o is = subst (LaysAt p) (sym is) w
lays_part p (Rename a b) w o is = absurd w
lays_part p (Remove q) w o is = absurd w
lays_part p Barrier w o is = absurd w
lays_part p (Say bytes) w o is = absurd w
lays_part p (Claim got) w o is = absurd w

pub lays_did : {T : Type 0} (p : Path) (op : Op) (r : Result T HostErr) (a : List Op) → LaysAt p op → Did op r a → EachOp (LaysAt p) a
lays_did p op r a w d = part_each (LaysAt p) op a (lays_part p op w) (did_part op r a d)

pub lays_ran : (p : Path) (op : Op) (a : List Op) → LaysAt p op → a ≡ op ∷ [] → EachOp (LaysAt p) a
lays_ran p op a w is = subst (EachOp (LaysAt p)) (sym is) (w, tt)

pub lays_then : (p : Path) (a b : List Op) → EachOp (LaysAt p) a → EachOp (LaysAt p) b → EachOp (LaysAt p) (a ++ b)
lays_then p = EachOp-append (LaysAt p)

-- a piece of at most so many bytes
pub piece : (n m : ℕ) (xs : List ℕ) → n ≤ 65536 → length (take n xs) ≤ 65536
piece n m xs le = let size = length-take n xs in omega (arith, size, le)

-- no path but the file's is touched
pub lays_only : (p : Path) (a : List Op) → EachOp (LaysAt p) a → EachOp (TouchesOnly (λ q. q ≡ p)) a
lays_only p a each = EachOp-map (LaysAt p) (TouchesOnly (λ q. q ≡ p)) one a each
  where
    one : (op : Op) → LaysAt p op → TouchesOnly (λ q. q ≡ p) op
    one (Create q) t = t
    one (Append q b) t = t.0
    one (Sync q) t = t
    one (Rename a b) t = absurd t
    one (Remove q) t = absurd t
    one Barrier t = absurd t
    one (Say b) t = tt
    one (Claim b) t = tt

joined-append : (xs ys : List (List ℕ)) → joined (xs ++ ys) ≡ joined xs ++ joined ys
joined-append [] ys = refl
joined-append (x ∷ xs) ys = ap (λ (t : List ℕ). x ++ t) (joined-append xs ys) ∙ sym (append_assoc x (joined xs) (joined ys))

appends-append : (p : Path) (xs ys : List (List ℕ)) → appends p (xs ++ ys) ≡ appends p xs ++ appends p ys
appends-append p [] ys = refl
appends-append p (x ∷ xs) ys = ap (λ (t : List Op). Append p x ∷ t) (appends-append p xs ys)

all-append : (P : List ℕ → Type 0) (xs ys : List (List ℕ)) → AllByRecursion P xs → AllByRecursion P ys → AllByRecursion P (xs ++ ys)
all-append P [] ys a b = b
all-append P (x ∷ xs) ys a b = (a.0, all-append P xs ys a.1 b)

-- one piece more
cut_more : (sofar piece bytes : List ℕ) (pieces : List (List ℕ)) → sofar ++ piece ≡ bytes → length piece ≤ 65536 → 0 < length piece → IsCut sofar pieces → IsCut bytes (pieces ++ piece ∷ [])
cut_more sofar piece bytes pieces is small some c = record {
  whole = joined-append pieces (piece ∷ []) ∙ ap (λ (t : List ℕ). t ++ (piece ++ [])) c.whole ∙ ap (λ (t : List ℕ). sofar ++ t) (append-nil piece) ∙ is;
  small = all-append (λ x. length x ≤ 65536) pieces (piece ∷ []) c.small (small, tt);
  some = let size = length-append pieces (piece ∷ []) in omega (arith, size, c.some);
  lone = λ none.
      let size = length-append sofar piece in
      let zero_long : length (sofar ++ piece) ≡ 0 = ap (λ (t : List ℕ). length t) (is ∙ none) in
      absurd (omega (arith, size, zero_long, some));
}

cut_first : (bytes : List ℕ) → length bytes ≤ 65536 → IsCut bytes (bytes ∷ [])
cut_first bytes small = record { whole = append-nil bytes; small = (small, tt); some = omega arith; lone = λ none. refl }

pub appends_more : (p : Path) (sofar piece bytes : List ℕ) (l : Log) (a b : List Op) → sofar ++ piece ≡ bytes → length piece ≤ 65536 → 0 < length piece → AppendsSoFar p sofar l a → b ≡ Append p piece ∷ [] → AppendsSoFar p bytes l (a ++ b)
appends_more p sofar piece bytes l a b whole small some s is = record {
  only = lays_then p a b s.only (lays_ran p (Append p piece) b (refl, small) is);
  wrote = (
    s.wrote.0 ++ piece ∷ [],
    cut_more sofar piece bytes s.wrote.0 whole small some s.wrote.1,
    ap (λ (t : List Op). t ++ b) s.wrote.2 ∙ ap (λ (t : List Op). appends p s.wrote.0 ++ t) is ∙ sym (appends-append p s.wrote.0 (piece ∷ [])),
  );
  live =
      ap (λ (m : Log). live_of m p) (sym (extended-append a b l))
      ∙ ap (λ (o : List Op). live_of (extended o (extended a l)) p) is
      ∙ live_step_of (extended a l) (Append p piece) p
      ∙ with_file-same (live_of (extended a l)) p _
      ∙ ap (option_map (λ c. c ++ piece)) s.live
      ∙ both (live_of l p);
}
  where
    both : (x : Content) → option_map (λ c. c ++ piece) (option_map (λ c. c ++ sofar) x) ≡ option_map (λ c. c ++ bytes) x
    both None = refl
    both (Some c) = ap (λ (t : List ℕ). Some t) (append_assoc c sofar piece ∙ ap (λ (t : List ℕ). c ++ t) whole)

pub appends_first : (p : Path) (bytes : List ℕ) (l : Log) (a : List Op) → length bytes ≤ 65536 → a ≡ Append p bytes ∷ [] → AppendsSoFar p bytes l a
appends_first p bytes l a small is = record {
  only = lays_ran p (Append p bytes) a (refl, small) is;
  wrote = (bytes ∷ [], cut_first bytes small, is);
  live = ap (λ (o : List Op). live_of (extended o l) p) is ∙ live_step_of l (Append p bytes) p ∙ with_file-same (live_of l) p _;
}

pub appends_err : {T : Type 0} (p : Path) (bytes : List ℕ) (r : Result T HostErr) (e : HostErr) (l : Log) (a : List Op) → r ≡ Err e → EachOp (LaysAt p) a → Appends p bytes r l a
appends_err p bytes r e l a is only = record {
  only = only;
  wrote = subst (λ v. OnOk v ((pieces : List (List ℕ)) × IsCut bytes pieces × (a ≡ appends p pieces))) (sym is) tt;
  live = subst (λ v. OnOk v (live_of (extended a l) p ≡ option_map (λ c. c ++ bytes) (live_of l p))) (sym is) tt;
}

pub on_ok : {X P : Type 0} (v : Result X HostErr) → P → OnOk v P
on_ok (Ok x) q = q
on_ok (Err x) q = tt

-- created and written
pub record Written (p : Path) (bytes : List ℕ) (l : Log) (ops : List Op) : Type 0 where
  pub only : EachOp (LaysAt p) ops
  pub wrote : (pieces : List (List ℕ)) × IsCut bytes pieces × (ops ≡ Create p ∷ appends p pieces)
  pub live : live_of (extended ops l) p ≡ Some bytes

pub written : (p : Path) (bytes : List ℕ) (l : Log) (a b : List Op) → a ≡ creates p → AppendsSoFar p bytes (extended a l) b → Written p bytes l (a ++ b)
written p bytes l a b is s = record {
  only = lays_then p a b (lays_ran p (Create p) a refl is) s.only;
  wrote = (s.wrote.0, s.wrote.1, ap (λ (t : List Op). t ++ b) is ∙ ap (λ (t : List Op). Create p ∷ t) s.wrote.2);
  live = ap (λ (m : Log). live_of m p) (sym (extended-append a b l)) ∙ s.live ∙ ap (option_map (λ c. c ++ bytes)) (created l p a is);
}

-- and synced
pub laid : {T : Type 0} (p : Path) (bytes : List ℕ) (r : Result T HostErr) (l : Log) (a b : List Op) → Written p bytes l a → b ≡ Sync p ∷ [] → Lays p bytes r l (a ++ b)
laid p bytes r l a b w is = record {
  only = lays_then p a b w.only (lays_ran p (Sync p) b refl is);
  wrote = on_ok r (w.wrote.0, w.wrote.1, ap (λ (t : List Op). t ++ b) w.wrote.2 ∙ ap (λ (t : List Op). Create p ∷ (appends p w.wrote.0 ++ t)) is);
  laid = on_ok r (subst (λ (m : Log). IsLaid p bytes m) (extended-append a b l) (subst (λ (o : List Op). IsLaid p bytes (extended o (extended a l))) (sym is) (record {
    live = live_step_of (extended a l) (Sync p) p ∙ w.live;
    may = λ x m. sync x (subst (λ (d : Disk). d.may p x) (disk_of-step (Sync p) (extended a l)) m);
  })));
  synced = on_ok r (record { before = a; since = []; split = ap (λ (o : List Op). a ++ o) is; untouched = tt });
}
  where
    sync : (x : Content) → ((p ≡ p) × ((x ≡ live_of (extended a l) p) ⊎ (x ≡ None))) ⊎ ((p ≢ p) × (disk_of (extended a l)).may p x) → (x ≡ Some bytes) ⊎ (x ≡ None)
    sync x (inl now) = elim now.1 [ inl x_is ↦ inl (x_is ∙ w.live) | inr none ↦ inr none ]
    sync x (inr not) = absurd (not.0 refl)

-- a call that failed
pub lays_err : {T : Type 0} (p : Path) (bytes : List ℕ) (r : Result T HostErr) (e : HostErr) (l : Log) (a : List Op) → r ≡ Err e → EachOp (LaysAt p) a → Lays p bytes r l a
lays_err p bytes r e l a is only = record {
  only = only;
  wrote = subst (λ v. OnOk v ((pieces : List (List ℕ)) × IsCut bytes pieces × (a ≡ Create p ∷ (appends p pieces ++ Sync p ∷ [])))) (sym is) tt;
  laid = subst (λ v. OnOk v (IsLaid p bytes (extended a l))) (sym is) tt;
  synced = subst (λ v. OnOk v (IsSynced a p)) (sym is) tt;
}

-- what a stage lays at one path, as of another result
pub lays_as : {T U : Type 0} (p : Path) (bytes : List ℕ) (s : Result T HostErr) (r : Result U HostErr) (l : Log) (a : List Op) → Lays p bytes s l a → (x : T) → s ≡ Ok x → Lays p bytes r l a
lays_as p bytes s r l a w x is = record {
  only = w.only;
  wrote = on_ok r (subst (λ v. OnOk v ((pieces : List (List ℕ)) × IsCut bytes pieces × (a ≡ Create p ∷ (appends p pieces ++ Sync p ∷ [])))) is w.wrote);
  laid = on_ok r (subst (λ v. OnOk v (IsLaid p bytes (extended a l))) is w.laid);
  synced = on_ok r (subst (λ v. OnOk v (IsSynced a p)) is w.synced);
}

module _ {T : Type 0} (a b : Path) (r : Result T HostErr) (l : Log) (ops : List Op) where
  pub places : IsSome (live_of l a) → Did (Rename a b) r ops → Places a b r l ops
  places there d = record {
    placed = did_ok (Rename a b) r ops d (λ is. ap (λ (o : List Op). live_of (extended o l) b) is ∙ live_step_of l (Rename a b) b ∙ moved-to (live_of l) a b (live_of l a) (live_of l a) refl there);
    any_moment = moments;
    whole = λ apart bytes from. Throughout-map At (λ m. (x : Content) → (disk_of m).may b x → (disk_of l).may b x ⊎ (x ≡ Some bytes)) (λ m at x may. whole_at bytes from x (at x may)) l ops (moments apart);
    did = d;
  }
    where
      whole_at : (bytes : List ℕ) → IsLaid a bytes l → (x : Content) → (disk_of l).may b x ⊎ (IsSome x × (disk_of l).may a x) → (disk_of l).may b x ⊎ (x ≡ Some bytes)
      whole_at bytes from x (inl was) = inl was
      whole_at bytes from x (inr staged) = elim (from.may x staged.1) [
        | inl is ↦ inr is
        | inr none ↦ absurd (let no : IsSome {T = List ℕ} None = subst (λ (y : Content). IsSome y) none staged.0 in cc)
      ]

      At : Log → Type 0
      At m = (x : Content) → (disk_of m).may b x → (disk_of l).may b x ⊎ (IsSome x × (disk_of l).may a x)

      here : At l
      here x m = inl m

      rename : a ≢ b → (x : Content) → (step (disk_of l) (Rename a b)).may b x → (disk_of l).may b x ⊎ (IsSome x × (disk_of l).may a x)
      rename apart x (inl was) = inl was
      rename apart x (inr (inl staged)) = inr (staged.1, staged.2)
      rename apart x (inr (inr gone)) = absurd (apart (sym gone.0))

      moved : a ≢ b → (o : Op) → IsPart (Rename a b) o → At (extended (o ∷ []) l)
      moved apart o is x m = rename apart x (subst (λ (e : Disk). e.may b x) (ap (λ (p : Op). disk_of (extended (p ∷ []) l)) is ∙ disk_of-step (Rename a b) l) m)

      moments : a ≢ b → Throughout At l ops
      moments apart = part_moments At l (Rename a b) ops here (moved apart) (did_part (Rename a b) r ops d)

module _ {T : Type 0} (a : Path) (r : Result T HostErr) (l : Log) (ops : List Op) where
  pub removes : Did (Remove a) r ops → Removes a r l ops
  removes d = record {
    removed = did_ok (Remove a) r ops d (λ is. ap (λ (o : List Op). live_of (extended o l) a) is ∙ live_step_of l (Remove a) a ∙ with_file-same (live_of l) a None);
    any_moment = part_moments At l (Remove a) ops here gone (did_part (Remove a) r ops d);
    did = d;
  }
    where
      At : Log → Type 0
      At m = (x : Content) → (disk_of m).may a x → (disk_of l).may a x ⊎ (x ≡ None)

      here : At l
      here x m = inl m

      one : (x : Content) → (step (disk_of l) (Remove a)).may a x → (disk_of l).may a x ⊎ (x ≡ None)
      one x (inl was) = inl was
      one x (inr none) = inr none.1

      gone : (o : Op) → IsPart (Remove a) o → At (extended (o ∷ []) l)
      gone o is x m = one x (subst (λ (e : Disk). e.may a x) (ap (λ (p : Op). disk_of (extended (p ∷ []) l)) is ∙ disk_of-step (Remove a) l) m)

-- a barrier of a stage that had touched the host, and one of a stage that hadn't
pub barriers_made : {T : Type 0} (s : StageState) (r : Result T HostErr) (l : Log) (ops : List Op) → IsTrue s.touched → Did Barrier r ops → Barriers s r l ops
barriers_made {T = T} s r l ops is d = record { made = go s.touched is; durable = sure r d }
  where
    go : (b : Bool) → IsTrue b → MatchBool b (Did Barrier r ops) (ops ≡ [])
    go true t = d
    go false t = absurd (cc)

    sure : (v : Result T HostErr) → Did Barrier v ops → OnOk v (IsInStep s l → Durable (extended ops l))
    sure (Ok x) did = λ step. subst (λ (o : List Op). Durable (extended o l)) (sym did) (law_of_barrier l)
    sure (Err e) did = tt

pub barriers_left : {T : Type 0} (s : StageState) (r : Result T HostErr) (l : Log) → IsFalse s.touched → Barriers s r l []
barriers_left s r l is = record { made = go s.touched is; durable = on_ok r (λ step. subst Durable (sym (extended-none l)) (step is)) }
  where
    go : (b : Bool) → IsFalse b → let none : List Op = [] in MatchBool b (Did Barrier r none) (none ≡ [])
    go true t = absurd (cc)
    go false t = refl
