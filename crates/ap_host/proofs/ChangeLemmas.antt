-- Runs of calls, and what they leave as it was.
use Rattle.std.proofs.Common.{◌≡◌, ◌≢◌, ◌⊎◌, inl, inr, ℕ, take, List, [], ◌∷◌, ◌++◌, Option, Some, None, Result, Ok, Err, OnOk, option_map, refl, sym, ◌∙◌, ap, subst}
use Rattle.std.specs.Option.{ForSome}
use Rattle.ap_host.specs.declared.host.Op.{Op}
use Rattle.ap_host.specs.declared.host.Op.TheVariants.{Create, Append, Sync, Rename, Remove, Barrier, Say, Claim}
use Rattle.ap_host.specs.declared.host.HostErr.{HostErr}
use Rattle.ap_host.specs.declared.host.HostErr.TheVariants.{Failed, OutOfMemory}
use Rattle.ap_host.specs.Disk.{Path, Content, Log, extended, Disk, step, after, disk_of, Throughout}
use Rattle.ap_host.specs.Calls.{Added, PartOf, Did, Does}
use Rattle.ap_host.specs.Changes.{TouchesOnly, EachOp, SameExcept, GoesOn}
use Rattle.ap_host.proofs.DiskLemmas.{with_file-other, moved-other, disk_of-extended, Added-append, Added-none, Throughout-none, Throughout-one}

pub EachOp-append : (P : Op → Type 0) (a b : List Op) → EachOp P a → EachOp P b → EachOp P (a ++ b)
EachOp-append P [] b p q = q
EachOp-append P (op ∷ a) b p q = (p.0, EachOp-append P a b p.1 q)

pub EachOp-map : (P Q : Op → Type 0) → ((op : Op) → P op → Q op) → (a : List Op) → EachOp P a → EachOp Q a
EachOp-map P Q f [] p = p
EachOp-map P Q f (op ∷ a) p = (f op p.0, EachOp-map P Q f a p.1)

pub EachOp-front : (P : Op → Type 0) (a b : List Op) → EachOp P (a ++ b) → EachOp P a
EachOp-front P [] b p = tt
EachOp-front P (op ∷ a) b p = (p.0, EachOp-front P a b p.1)

-- of two disks, at the paths that have no P
pub record DiskSame (P : Path → Type 0) (before now : Disk) : Type 0 where
  pub live : (q : Path) → ¬ P q → now.live q ≡ before.live q
  pub may : (q : Path) (x : Content) → ¬ P q → now.may q x → before.may q x

module _ (P : Path → Type 0) where
  pub DiskSame-refl : (d : Disk) → DiskSame P d d
  DiskSame-refl d = record { live = λ q n. refl; may = λ q x n m. m }

  pub DiskSame-then : (d e f : Disk) → DiskSame P d e → DiskSame P e f → DiskSame P d f
  DiskSame-then d e f s t = record { live = λ q n. t.live q n ∙ s.live q n; may = λ q x n m. s.may q x n (t.may q x n m) }

  other : (q p : Path) → P p → ¬ P q → q ≢ p
  other q p has not is = not (subst P (sym is) has)

  pub disk_step_same : (d : Disk) (op : Op) → TouchesOnly P op → DiskSame P d (step d op)
  disk_step_same d (Create p) t = record {
    live = λ q n. with_file-other d.live p q _ (other q p t n);
    may = λ q x n m. elim m [ inl is ↦ absurd (other q p t n is) | inr was ↦ was ];
  }
  disk_step_same d (Append p bytes) t = record {
    live = λ q n. with_file-other d.live p q _ (other q p t n);
    may = λ q x n m. elim m [ inl is ↦ absurd (other q p t n is) | inr was ↦ was ];
  }
  disk_step_same d (Sync p) t = record {
    live = λ q n. refl;
    may = λ q x n m. elim m [ inl is ↦ absurd (other q p t n is.0) | inr was ↦ was.1 ];
  }
  disk_step_same d (Rename a b) t = record {
    live = λ q n. moved-other d.live a b q (d.live a) (other q a t.0 n) (other q b t.1 n);
    may = λ q x n m. elim m [ inl was ↦ was | inr (inl is) ↦ absurd (other q b t.1 n is.0) | inr (inr is) ↦ absurd (other q a t.0 n is.0) ];
  }
  disk_step_same d (Remove p) t = record {
    live = λ q n. with_file-other d.live p q None (other q p t n);
    may = λ q x n m. elim m [ inl was ↦ was | inr is ↦ absurd (other q p t n is.0) ];
  }
  disk_step_same d Barrier t = absurd t
  disk_step_same d (Say bytes) t = DiskSame-refl d
  disk_step_same d (Claim got) t = DiskSame-refl d

  disk_after_same : (d e : Disk) (ops : List Op) → DiskSame P d e → EachOp (TouchesOnly P) ops → DiskSame P d (after e ops)
  disk_after_same d e [] s t = s
  disk_after_same d e (op ∷ ops) s t = disk_after_same d (step e op) ops (DiskSame-then d e (step e op) s (disk_step_same e op t.0)) t.1

  pub SameExcept-refl : (l : Log) → SameExcept P l l
  SameExcept-refl l = record { live = λ q n. refl; may = λ q x n m. m }

  pub SameExcept-then : (k l m : Log) → SameExcept P k l → SameExcept P l m → SameExcept P k m
  SameExcept-then k l m s t = record { live = λ q n. t.live q n ∙ s.live q n; may = λ q x n may. s.may q x n (t.may q x n may) }

  -- what operations don't touch is the same
  pub same_after : (l : Log) (ops : List Op) → EachOp (TouchesOnly P) ops → SameExcept P l (extended ops l)
  same_after l ops t =
      let s = subst (λ (e : Disk). DiskSame P (disk_of l) e) (sym (disk_of-extended ops l)) (disk_after_same (disk_of l) (disk_of l) ops (DiskSame-refl (disk_of l)) t) in
      record { live = s.live; may = s.may }

  -- at each moment
  pub after_same : (l : Log) (ops : List Op) → EachOp (TouchesOnly P) ops → Throughout (SameExcept P l) l ops
  after_same l ops t before since e = same_after l before (EachOp-front (TouchesOnly P) before since (subst (EachOp (TouchesOnly P)) (sym e) t))

-- what a call may have done of its operation: all of it or a part
abbrev pub AllOrPart : Op → List Op → Type 0
AllOrPart op ops = (ops ≡ op ∷ []) ⊎ PartOf op ops

pub part_touches : (P : Path → Type 0) (op : Op) (ops : List Op) → TouchesOnly P op → AllOrPart op ops → EachOp (TouchesOnly P) ops
part_touches P op ops t (inl is) = subst (EachOp (TouchesOnly P)) (sym is) (t, tt)
part_touches P (Create p) ops t (inr (inl is)) = subst (EachOp (TouchesOnly P)) (sym is) tt
part_touches P (Create p) ops t (inr (inr is)) = subst (EachOp (TouchesOnly P)) (sym is) (t, tt)
part_touches P (Append p bytes) ops t (inr (inl is)) = subst (EachOp (TouchesOnly P)) (sym is) tt
part_touches P (Append p bytes) ops t (inr (inr is)) = subst (EachOp (TouchesOnly P)) (sym is.1) (t, tt)
part_touches P (Rename a b) ops t (inr (inl is)) = subst (EachOp (TouchesOnly P)) (sym is) tt
part_touches P (Rename a b) ops t (inr (inr is)) = subst (EachOp (TouchesOnly P)) (sym is) (t, tt)
part_touches P (Remove p) ops t (inr (inl is)) = subst (EachOp (TouchesOnly P)) (sym is) tt
part_touches P (Remove p) ops t (inr (inr is)) = subst (EachOp (TouchesOnly P)) (sym is) (t, tt)
part_touches P (Say bytes) ops t (inr (inl is)) = subst (EachOp (TouchesOnly P)) (sym is) tt
part_touches P (Say bytes) ops t (inr (inr is)) = subst (EachOp (TouchesOnly P)) (sym is.1) (tt, tt)
part_touches P (Sync p) ops t (inr is) = subst (EachOp (TouchesOnly P)) (sym is) tt
part_touches P Barrier ops t (inr is) = subst (EachOp (TouchesOnly P)) (sym is) tt
part_touches P (Claim got) ops t (inr is) = subst (EachOp (TouchesOnly P)) (sym is) tt

-- all of an operation, or one with fewer bytes
abbrev pub IsPart : Op → Op → Type 0
IsPart (Append p bytes) o = (o ≡ Append p bytes) ⊎ ((n : ℕ) × (o ≡ Append p (take n bytes)))
IsPart (Say bytes) o = (o ≡ Say bytes) ⊎ ((n : ℕ) × (o ≡ Say (take n bytes)))
IsPart op o = o ≡ op

-- a call did nothing, or all of its operation, or a part
pub part_cases : (op : Op) (ops : List Op) → AllOrPart op ops → (ops ≡ []) ⊎ ((o : Op) × IsPart op o × (ops ≡ o ∷ []))
part_cases op ops (inl is) = inr (op, itself op, is)
  where
    itself : (o : Op) → IsPart o o
    itself (Create p) = refl
    itself (Append p bytes) = inl refl
    itself (Sync p) = refl
    itself (Rename a b) = refl
    itself (Remove p) = refl
    itself Barrier = refl
    itself (Say bytes) = inl refl
    itself (Claim got) = refl
part_cases (Create p) ops (inr (inl is)) = inl is
part_cases (Create p) ops (inr (inr is)) = inr (Create p, refl, is)
part_cases (Append p bytes) ops (inr (inl is)) = inl is
part_cases (Append p bytes) ops (inr (inr is)) = inr (Append p (take is.0 bytes), inr (is.0, refl), is.1)
part_cases (Rename a b) ops (inr (inl is)) = inl is
part_cases (Rename a b) ops (inr (inr is)) = inr (Rename a b, refl, is)
part_cases (Remove p) ops (inr (inl is)) = inl is
part_cases (Remove p) ops (inr (inr is)) = inr (Remove p, refl, is)
part_cases (Say bytes) ops (inr (inl is)) = inl is
part_cases (Say bytes) ops (inr (inr is)) = inr (Say (take is.0 bytes), inr (is.0, refl), is.1)
part_cases (Sync p) ops (inr is) = inl is
part_cases Barrier ops (inr is) = inl is
part_cases (Claim got) ops (inr is) = inl is

-- K of what a call did
pub part_each : (K : Op → Type 0) (op : Op) (ops : List Op) → ((o : Op) → IsPart op o → K o) → AllOrPart op ops → EachOp K ops
part_each K op ops k w = elim (part_cases op ops w) [
  | inl none ↦ subst (EachOp K) (sym none) tt
  | inr some ↦ subst (EachOp K) (sym some.2) (k some.0 some.1, tt)
]

-- P at each moment of a call
pub part_moments : (P : Log → Type 0) (l : Log) (op : Op) (ops : List Op) → P l → ((o : Op) → IsPart op o → P (extended (o ∷ []) l)) → AllOrPart op ops → Throughout P l ops
part_moments P l op ops here there w = elim (part_cases op ops w) [
  | inl none ↦ subst (Throughout P l) (sym none) (Throughout-none P l here)
  | inr some ↦ subst (Throughout P l) (sym some.2) (Throughout-one P l some.0 here (there some.0 some.1))
]

nothing : (op : Op) → PartOf op []
nothing (Create p) = inl refl
nothing (Append p bytes) = inl refl
nothing (Sync p) = refl
nothing (Rename a b) = inl refl
nothing (Remove p) = inl refl
nothing Barrier = refl
nothing (Say bytes) = inl refl
nothing (Claim got) = refl

pub did_part : {T : Type 0} (op : Op) (r : Result T HostErr) (ops : List Op) → Did op r ops → AllOrPart op ops
did_part op (Ok v) ops d = inl d
did_part op (Err Failed) ops d = inr d
did_part op (Err OutOfMemory) ops d = inr (subst (PartOf op) (sym d) (nothing op))

-- what a call that was done did
pub did_ok : {T P : Type 0} (op : Op) (r : Result T HostErr) (ops : List Op) → Did op r ops → (ops ≡ op ∷ [] → P) → OnOk r P
did_ok op (Ok v) ops d f = f d
did_ok op (Err e) ops d f = tt

-- one call, whatever it answers
pub does : {T : Type 0} (op : Op) (result : Result T HostErr) (old new : Option Log) → Does op result old new → GoesOn old new (λ l ops. Did op result ops)
does op (Ok v) old new h = record { added = op ∷ []; log = h.ok; holds = λ l told. refl }
does op (Err Failed) old new h =
    let f = h.failed refl in
    record { added = f.0; log = f.2; holds = λ l told. f.1 }
does op (Err OutOfMemory) old new h = record { added = []; log = h.memory refl; holds = λ l told. refl }

-- one run after another
pub GoesOn-then : (old mid new : Option Log) (P Q R : Log → List Op → Type 0) → GoesOn old mid P → GoesOn mid new Q
    → ((l : Log) (a b : List Op) → P l a → Q (extended a l) b → R l (a ++ b)) → GoesOn old new R
GoesOn-then old mid new P Q R p q f = record {
  added = p.added ++ q.added;
  log = Added-append p.added q.added old mid new p.log q.log;
  holds = λ l told.
      let at_mid : mid ≡ Some (extended p.added l) = p.log ∙ ap (option_map (extended p.added)) told in
      f l p.added q.added (p.holds l told) (q.holds (extended p.added l) at_mid);
}

pub GoesOn-map : (old new : Option Log) (P Q : Log → List Op → Type 0) → GoesOn old new P → ((l : Log) (a : List Op) → P l a → Q l a) → GoesOn old new Q
GoesOn-map old new P Q p f = record { added = p.added; log = p.log; holds = λ l told. f l p.added (p.holds l told) }

-- before the first call, and where the log stayed
pub GoesOn-none : (old new : Option Log) (P : Log → List Op → Type 0) → new ≡ old → ((l : Log) → P l []) → GoesOn old new P
GoesOn-none old new P same f = record { added = []; log = same ∙ Added-none old; holds = λ l told. f l }

-- a log that is told after a run was told before it
pub Added-back : (ops : List Op) (old new : Option Log) (l : Log) → Added ops old new → new ≡ Some l → (k : Log) × (old ≡ Some k) × (extended ops k ≡ l)
Added-back ops None new l is told = let no : None ≡ Some l = sym is ∙ told in absurd (cc)
Added-back ops (Some k) new l is told = let e : Some (extended ops k) ≡ Some l = sym is ∙ told in (k, refl, cc)

-- what holds of the log at the end of a run
pub GoesOn-end : (old new : Option Log) (P : Log → List Op → Type 0) (Q : Log → Type 0) → GoesOn old new P → ((l : Log) (a : List Op) → P l a → Q (extended a l)) → ForSome new Q
GoesOn-end old new P Q p f = λ l told.
    let back = Added-back p.added old new l p.log told in
    subst Q back.2 (f back.0 p.added (p.holds back.0 back.1))

-- a run with what was known of the log before it
pub GoesOn-given : (old new : Option Log) (P : Log → List Op → Type 0) (Q : Log → Type 0) → GoesOn old new P → ForSome old Q → GoesOn old new (λ l a. Q l × P l a)
GoesOn-given old new P Q p q = record { added = p.added; log = p.log; holds = λ l told. (q l told, p.holds l told) }
