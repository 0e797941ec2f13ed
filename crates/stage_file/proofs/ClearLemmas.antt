-- The clearing of the folder of staged files.
use Rattle.std.proofs.Common.{◌≡◌, ◌≢◌, ◌⊎◌, inl, inr, ℕ, zero, suc, ◌+◌, ◌<◌, List, [], ◌∷◌, ◌++◌, Option, Some, None, IsSome, IsTrue, Result, Ok, Err, OnOk, slice_get, refl, sym, ◌∙◌, ap, subst, arith}
use Rattle.std.specs.List.{AllByRecursion}
use Rattle.std.specs.Cmp.Lexicographic.{nat_list_cmp_total}
use Rattle.std.specs.Ordering.{ordering_reverse}
use Rattle.std.specs.declared.cmp.Ordering.TheVariants.{Less, Greater}
use Rattle.ap_host.specs.declared.host.Op.{Op}
use Rattle.ap_host.specs.declared.host.Op.TheVariants.{Create, Append, Sync, Rename, Remove, Barrier, Say, Claim}
use Rattle.ap_host.specs.declared.host.HostErr.{HostErr}
use Rattle.ap_host.specs.Disk.{Path, Content, with_file, Log, extended, live_of, disk_of, Disk, Throughout}
use Rattle.ap_host.specs.Calls.{Did}
use Rattle.ap_host.specs.Changes.{EachOp}
use Rattle.ap_host.specs.Names.{Before, IsAscending, IsOneOf, NamesOf}
use Rattle.ap_host.proofs.DiskLemmas.{one, two, same_path, with_file-same, with_file-other, disk_of-step, extended-append, extended-none}
use Rattle.ap_host.proofs.ChangeLemmas.{EachOp-append, EachOp-front, part_each, did_part}
use Rattle.stage_file.specs.Stage.{folder, is_staged, ClearsStaged, Clears, ClearsFirst, IsMarked, StageState}
use Rattle.stage_file.proofs.StageLemmas.{live_step_of}

not_before_itself : (p : Path) → Before p p → ⊥
not_before_itself p h = let clash : Less ≡ Greater = sym h ∙ nat_list_cmp_total.antisymm p p ∙ ap ordering_reverse h in cc

all_at : (P : Path → Type 0) (xs : List Path) (j : ℕ) (q : Path) → AllByRecursion P xs → slice_get xs j ≡ Some q → P q
all_at P [] zero q all at = absurd (let h = at in cc)
all_at P [] (suc j) q all at = absurd (let h = at in cc)
all_at P (x ∷ xs) zero q all at = let same : Some x ≡ Some q = at in subst P (let e : x ≡ q = cc in e) all.0
all_at P (x ∷ xs) (suc j) q all at = all_at P xs j q all.1 at

-- names in order stand once
pub at_once : (xs : List Path) (i j : ℕ) (p : Path) → IsAscending xs → slice_get xs i ≡ Some p → slice_get xs j ≡ Some p → i < j → ⊥
at_once [] i j p asc a b lt = absurd (all_at (λ q. ⊥) [] i p tt a)
at_once (x ∷ xs) i zero p asc a b lt = omega (arith, lt)
at_once (x ∷ xs) zero (suc j) p asc a b lt =
    let same : Some x ≡ Some p = a in
    let is : x ≡ p = cc in
    not_before_itself p (subst (λ (y : Path). Before y p) is (all_at (λ q. Before x q) xs j p asc.0 b))
at_once (x ∷ xs) (suc i) (suc j) p asc a b lt = at_once xs i j p asc.1 a b (omega (arith, lt))

pub one_of : (p : Path) (xs : List Path) → IsOneOf p xs → (k : ℕ) × (slice_get xs k ≡ Some p)
one_of p [] is = absurd is
one_of p (x ∷ xs) (inl is) = (0, ap (λ (y : Path). let s : Option Path = Some y in s) (sym is))
one_of p (x ∷ xs) (inr is) = let w = one_of p xs is in (suc w.0, w.1)

pub is_one_of : (p : Path) (xs : List Path) (k : ℕ) → slice_get xs k ≡ Some p → IsOneOf p xs
is_one_of p [] k at = absurd (all_at (λ q. ⊥) [] k p tt at)
is_one_of p (x ∷ xs) zero at = let same : Some x ≡ Some p = at in inl (let e : p ≡ x = cc in e)
is_one_of p (x ∷ xs) (suc k) at = inr (is_one_of p xs k at)

-- a removal takes away at most
lessened : (l : Log) (p q : Path) → (live_of (extended (Remove p ∷ []) l) q ≡ live_of l q) ⊎ (live_of (extended (Remove p ∷ []) l) q ≡ None)
lessened l p q = elim (same_path q p) [
  | one is t ↦ inr (live_step_of l (Remove p) q ∙ ap (with_file (live_of l) p None) is ∙ with_file-same (live_of l) p None)
  | two n f ↦ inl (live_step_of l (Remove p) q ∙ with_file-other (live_of l) p q None n)
]

may_removed : (l : Log) (p q : Path) (x : Content) → (disk_of (extended (Remove p ∷ []) l)).may q x → (disk_of l).may q x ⊎ (x ≡ None)
may_removed l p q x m = elim (subst (λ (d : Disk). d.may q x) (disk_of-step (Remove p) l) m) [ inl was ↦ inl was | inr gone ↦ inr gone.1 ]

-- over a run of removals
module _ (q : Path) where
  cons_log : (op : Op) (ops : List Op) (l : Log) → extended ops (extended (op ∷ []) l) ≡ extended (op ∷ ops) l
  cons_log op ops l = extended-append (op ∷ []) ops l

  pub less : (l : Log) (ops : List Op) → EachOp ClearsStaged ops → (live_of (extended ops l) q ≡ live_of l q) ⊎ (live_of (extended ops l) q ≡ None)
  less l [] only = inl (ap (λ (m : Log). live_of m q) (extended-none l))
  less l (Remove p ∷ ops) only =
      let same = ap (λ (m : Log). live_of m q) (sym (cons_log (Remove p) ops l)) in
      elim (less (extended (Remove p ∷ []) l) ops only.1) [
        | inl left ↦ elim (lessened l p q) [ inl e ↦ inl (same ∙ left ∙ e) | inr e ↦ inr (same ∙ left ∙ e) ]
        | inr none ↦ inr (same ∙ none)
      ]
  less l (Create p ∷ ops) only = absurd only.0
  less l (Append p b ∷ ops) only = absurd only.0
  less l (Sync p ∷ ops) only = absurd only.0
  less l (Rename a b ∷ ops) only = absurd only.0
  less l (Barrier ∷ ops) only = absurd only.0
  less l (Say b ∷ ops) only = absurd only.0
  less l (Claim b ∷ ops) only = absurd only.0

  pub may_less : (x : Content) (l : Log) (ops : List Op) → EachOp ClearsStaged ops → (disk_of (extended ops l)).may q x → (disk_of l).may q x ⊎ (x ≡ None)
  may_less x l [] only m = inl (subst (λ (k : Log). (disk_of k).may q x) (extended-none l) m)
  may_less x l (Remove p ∷ ops) only m =
      elim (may_less x (extended (Remove p ∷ []) l) ops only.1 (subst (λ (k : Log). (disk_of k).may q x) (sym (cons_log (Remove p) ops l)) m)) [
        | inl was ↦ may_removed l p q x was
        | inr none ↦ inr none
      ]
  may_less x l (Create p ∷ ops) only m = absurd only.0
  may_less x l (Append p b ∷ ops) only m = absurd only.0
  may_less x l (Sync p ∷ ops) only m = absurd only.0
  may_less x l (Rename a b ∷ ops) only m = absurd only.0
  may_less x l (Barrier ∷ ops) only m = absurd only.0
  may_less x l (Say b ∷ ops) only m = absurd only.0
  may_less x l (Claim b ∷ ops) only m = absurd only.0

pub clears_moments : (l : Log) (ops : List Op) → EachOp ClearsStaged ops → Throughout (λ m. (q : Path) (x : Content) → (disk_of m).may q x → (disk_of l).may q x ⊎ (x ≡ None)) l ops
clears_moments l ops only before since e q x m = may_less q x l before (EachOp-front ClearsStaged before since (subst (EachOp ClearsStaged) (sym e) only)) m

pub clears_err : {T : Type 0} (old new : StageState) (r : Result T HostErr) (e : HostErr) (l : Log) (a : List Op) → r ≡ Err e → IsMarked old new a → EachOp ClearsStaged a → Clears old new r l a
clears_err old new r e l a is marked only = record { marked = marked; only = only; cleared = subst (λ v. OnOk v ((q : Path) → IsTrue (is_staged q) → live_of (extended a l) q ≡ None)) (sym is) tt; any_moment = clears_moments l a only }

pub clears_none : (names : List Path) (l : Log) → ClearsFirst names 0 l []
clears_none names l = record { only = tt; gone = λ k q lt at. absurd (omega (arith, lt)); left = λ q not. ap (λ (m : Log). live_of m q) (extended-none l) }

-- a name that is listed
pub listed : (l : Log) (names : List Path) (i : ℕ) (p : Path) → NamesOf folder (live_of l) names → slice_get names i ≡ Some p → IsTrue (is_staged p) × IsSome (live_of l p)
listed l names i p n at = (n.each p).0 (is_one_of p names i at)

pub still_there : (l : Log) (names : List Path) (i : ℕ) (p : Path) (a : List Op) → NamesOf folder (live_of l) names → slice_get names i ≡ Some p → ClearsFirst names i l a → IsSome (live_of (extended a l) p)
still_there l names i p a n at c =
    subst (λ (x : Content). IsSome x) (sym (c.left p (λ k lt other. at_once names k i p n.ascending other at lt))) (listed l names i p n at).1

pub removed_staged : {T : Type 0} (p : Path) (r : Result T HostErr) (b : List Op) → IsTrue (is_staged p) → Did (Remove p) r b → EachOp ClearsStaged b
removed_staged p r b is d = part_each ClearsStaged (Remove p) b (λ o e. subst ClearsStaged (sym e) is) (did_part (Remove p) r b d)

pub clears_more : (l : Log) (names : List Path) (i : ℕ) (p : Path) (a b : List Op) → NamesOf folder (live_of l) names → slice_get names i ≡ Some p → ClearsFirst names i l a → b ≡ Remove p ∷ [] → ClearsFirst names (i + 1) l (a ++ b)
clears_more l names i p a b n at c is = record {
  only = EachOp-append ClearsStaged a b c.only (subst (EachOp ClearsStaged) (sym is) ((listed l names i p n at).0, tt));
  gone = λ k q lt here. go q ∙ elim (same_path q p) [
    | one e t ↦ ap (with_file (live_of m) p None) e ∙ with_file-same (live_of m) p None
    | two ne f ↦ with_file-other (live_of m) p q None ne ∙ c.gone k q (below k q lt here ne) here
  ];
  left = λ q not. go q ∙ with_file-other (live_of m) p q None (λ e. not i (omega arith) (at ∙ ap (λ (y : Path). let s : Option Path = Some y in s) (sym e))) ∙ c.left q (λ k lt here. not k (omega (arith, lt)) here);
}
  where
    m : Log
    m = extended a l

    go : (q : Path) → live_of (extended (a ++ b) l) q ≡ with_file (live_of m) p None q
    go q = ap (λ (x : Log). live_of x q) (sym (extended-append a b l)) ∙ ap (λ (o : List Op). live_of (extended o m) q) is ∙ live_step_of m (Remove p) q

    below : (k : ℕ) (q : Path) → k < i + 1 → slice_get names k ≡ Some q → q ≢ p → k < i
    below k q lt here ne =
        let other : k ≢ i = λ e. ne (let both : Some q ≡ Some p = sym here ∙ ap (λ (z : ℕ). slice_get names z) e ∙ at in cc) in
        omega (arith, lt, other)

pub clears_all : (old new : StageState) (l : Log) (names : List Path) (n : ℕ) (a : List Op) → IsMarked old new a → NamesOf folder (live_of l) names → ((k : ℕ) (q : Path) → slice_get names k ≡ Some q → k < n) → ClearsFirst names n l a → Clears {T = Unit {0}} old new (Ok tt) l a
clears_all old new l names n a marked of all c = record { marked = marked; only = c.only; cleared = λ q is. by q is (live_of l q) refl; any_moment = clears_moments l a c.only }
  where
    by : (q : Path) → IsTrue (is_staged q) → (x : Content) → live_of l q ≡ x → live_of (extended a l) q ≡ None
    by q is None e = elim (less q l a c.only) [ inl same ↦ same ∙ e | inr none ↦ none ]
    by q is (Some y) e =
        let w = one_of q names ((of.each q).1 (is, subst (λ (z : Content). IsSome z) (sym e) refl)) in
        c.gone w.0 q (all w.0 q w.1) w.1
