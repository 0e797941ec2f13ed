-- How a disk goes on.
use Rattle.std.proofs.Common.{◌≡◌, ◌≢◌, inl, inr, ℕ, IsSome, subst, Bool, true, false, List, [], ◌∷◌, ◌++◌, Option, Some, None, option_map, bytes_eq, if◌then◌else◌, refl, sym, ◌∙◌, ap, append_assoc, append-nil}
use Rattle.std.proofs.lemmas.Slice.Eq.{bytes_eq-Decides}
use Rattle.std.proofs.lemmas.Bool.Decides.{not_from_Decides}
use Rattle.ap_host.specs.declared.host.Op.{Op}
use Rattle.ap_host.specs.Disk.{Path, Content, Files, with_file, moved, Log, extended, Disk, step, after, settled, disk_of, Throughout}
use Rattle.ap_host.specs.Calls.{Added}
use Rattle.ap_host.proofs.ListLemmas.{cut}

-- two paths are one or they are not
pub data Same (q p : Path) : Type 0 where
  one : q ≡ p → bytes_eq q p ≡ true → Same q p
  two : q ≢ p → bytes_eq q p ≡ false → Same q p

pub same_path : (q p : Path) → Same q p
same_path q p = by_test (bytes_eq q p) refl
  where
    by_test : (b : Bool) → bytes_eq q p ≡ b → Same q p
    by_test true is = one ((bytes_eq-Decides q p).0 is) is
    by_test false is = two (not_from_Decides (bytes_eq q p) (bytes_eq-Decides q p) is) is

pub with_file-same : (files : Files) (p : Path) (x : Content) → with_file files p x p ≡ x
with_file-same files p x = ap (λ b. if b then x else files p) ((bytes_eq-Decides p p).1 refl)

pub with_file-other : (files : Files) (p q : Path) (x : Content) → q ≢ p → with_file files p x q ≡ files q
with_file-other files p q x ne = elim (same_path q p) [ one is t ↦ absurd (ne is) | two n f ↦ ap (λ b. if b then x else files q) f ]

pub after-append : (d : Disk) (a b : List Op) → after d (a ++ b) ≡ after (after d a) b
after-append d [] b = refl
after-append d (op ∷ a) b = after-append (step d op) a b

-- the disk of a log that goes on
pub disk_of-extended : (ops : List Op) (l : Log) → disk_of (extended ops l) ≡ after (disk_of l) ops
disk_of-extended ops l = after-append (settled l.base) l.ops ops

-- one call after another
pub Added-append : (a b : List Op) (old mid new : Option Log) → Added a old mid → Added b mid new → Added (a ++ b) old new
Added-append a b None mid new p q = q ∙ ap (option_map (extended b)) p
Added-append a b (Some l) mid new p q =
    q ∙ ap (option_map (extended b)) p ∙ ap (λ (ops : List Op). Some (record { base = l.base; ops = ops })) (append_assoc l.ops a b)

pub Added-none : (old : Option Log) → Added [] old old
Added-none None = refl
Added-none (Some l) = ap (λ (ops : List Op). Some (record { base = l.base; ops = ops })) (sym (append-nil l.ops))

-- a rename, at its two paths and at others
pub moved-other : (f : Files) (a b q : Path) (x : Content) → q ≢ a → q ≢ b → moved f a b x q ≡ f q
moved-other f a b q None na nb = refl
moved-other f a b q (Some c) na nb = with_file-other (with_file f a None) b q (Some c) nb ∙ with_file-other f a q None na

pub moved-to : (f : Files) (a b : Path) (y x : Content) → y ≡ x → IsSome x → moved f a b y b ≡ x
moved-to f a b None x is some = let no : IsSome {T = List ℕ} None = subst (λ (z : Content). IsSome z) (sym is) some in cc
moved-to f a b (Some c) x is some = with_file-same (with_file f a None) b (Some c) ∙ is

pub extended-append : (a b : List Op) (l : Log) → extended b (extended a l) ≡ extended (a ++ b) l
extended-append a b l = ap (λ (o : List Op). let e : Log = record { base = l.base; ops = o } in e) (append_assoc l.ops a b)

pub extended-none : (l : Log) → extended [] l ≡ l
extended-none l = ap (λ (o : List Op). let e : Log = record { base = l.base; ops = o } in e) (append-nil l.ops)

pub disk_of-step : (op : Op) (l : Log) → disk_of (extended (op ∷ []) l) ≡ step (disk_of l) op
disk_of-step op l = disk_of-extended (op ∷ []) l

module _ (P : Log → Type 0) where
  pub Throughout-none : (l : Log) → P l → Throughout P l []
  Throughout-none l here [] since e = subst P (sym (extended-none l)) here
  Throughout-none l here (b ∷ before) since e = absurd (cc)

  pub Throughout-append : (l : Log) (a b : List Op) → Throughout P l a → Throughout P (extended a l) b → Throughout P l (a ++ b)
  Throughout-append l a b p q before since e = elim (cut before since a b e) [
    | inl w ↦ p before w.0 w.1
    | inr w ↦ subst P (extended-append a w.0 l ∙ ap (λ (o : List Op). extended o l) (sym w.1)) (q w.0 since w.2)
  ]

  pub Throughout-end : (l : Log) (a : List Op) → Throughout P l a → P (extended a l)
  Throughout-end l a p = p a [] (append-nil a)

  pub Throughout-start : (l : Log) (a : List Op) → Throughout P l a → P l
  Throughout-start l a p = subst P (extended-none l) (p [] a refl)

  -- one operation
  pub Throughout-one : (l : Log) (op : Op) → P l → P (extended (op ∷ []) l) → Throughout P l (op ∷ [])
  Throughout-one l op here there [] since e = subst P (sym (extended-none l)) here
  Throughout-one l op here there (b ∷ []) since e = let h : b ≡ op = cc in subst (λ (o : Op). P (extended (o ∷ []) l)) (sym h) there
  Throughout-one l op here there (b ∷ c ∷ before) since e = absurd (cc)

pub Throughout-map : (P Q : Log → Type 0) → ((l : Log) → P l → Q l) → (l : Log) (a : List Op) → Throughout P l a → Throughout Q l a
Throughout-map P Q f l a p before since e = f (extended before l) (p before since e)
