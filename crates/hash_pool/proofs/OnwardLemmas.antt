-- What holds between each two moments of a run of operations.
use Rattle.std.proofs.Common.{◌≡◌, inl, inr, List, [], ◌∷◌, ◌++◌, sym, ◌∙◌, ap, subst, append_assoc, append-nil}
use Rattle.ap_host.specs.declared.host.Op.{Op}
use Rattle.ap_host.specs.Disk.{Path, Log, extended, Throughout}
use Rattle.ap_host.specs.Changes.{TouchesOnly, EachOp, SameExcept}
use Rattle.ap_host.proofs.ListLemmas.{cut}
use Rattle.ap_host.proofs.DiskLemmas.{extended-append, extended-none, Throughout-end}
use Rattle.ap_host.proofs.ChangeLemmas.{EachOp-front, same_after}
use Rattle.hash_pool.specs.Growth.{Onward}

module _ (R : Log → Log → Type 0) where
  -- from the start on
  pub Onward-start : (l : Log) (ops : List Op) → Onward R l ops → Throughout (R l) l ops
  Onward-start l ops o before since e = subst (λ (k : Log). R k (extended before l)) (extended-none l) (o [] before since e)

  pub Onward-whole : (l : Log) (ops : List Op) → Onward R l ops → R l (extended ops l)
  Onward-whole l ops o = Throughout-end (R l) l ops (Onward-start l ops o)

  -- from the start to a moment with another one behind it
  pub Onward-first : (l : Log) (before between since ops : List Op) → (before ++ between) ++ since ≡ ops → Onward R l ops → R l (extended before l)
  Onward-first l before between since ops e o = Onward-start l ops o before (between ++ since) (sym (append_assoc before between since) ∙ e)

  module _ (itself : (l : Log) → R l l) where
    pub Onward-none : (l : Log) → Onward R l []
    Onward-none l [] [] since e = itself (extended [] l)
    Onward-none l [] (b ∷ between) since e = absurd (cc)
    Onward-none l (b ∷ before) between since e = absurd (cc)

    pub Onward-one : (l : Log) (op : Op) → R l (extended (op ∷ []) l) → Onward R l (op ∷ [])
    Onward-one l op there [] [] since e = itself (extended [] l)
    Onward-one l op there [] (b ∷ []) since e =
        let h : b ≡ op = cc in
        subst (λ (k : Log). R k (extended (b ∷ []) l)) (sym (extended-none l)) (subst (λ (o : Op). R l (extended (o ∷ []) l)) (sym h) there)
    Onward-one l op there [] (b ∷ c ∷ between) since e = absurd (cc)
    Onward-one l op there (b ∷ []) [] since e = itself (extended (b ∷ []) l)
    Onward-one l op there (b ∷ []) (c ∷ between) since e = absurd (cc)
    Onward-one l op there (b ∷ c ∷ before) between since e = absurd (cc)

  module _ (then : (k l m : Log) → R k l → R l m → R k m) where
    pub Onward-append : (l : Log) (a b : List Op) → Onward R l a → Onward R (extended a l) b → Onward R l (a ++ b)
    Onward-append l a b p q before between since e = elim (cut (before ++ between) since a b e) [
      | inl w ↦ p before between w.0 w.1
      | inr w ↦ elim (cut before between a w.0 w.1) [
        | inl v ↦
            let first : R (extended before l) (extended a l) = subst (λ (o : List Op). R (extended before l) (extended o l)) v.1 (p before v.0 [] (append-nil (before ++ v.0) ∙ v.1)) in
            let second : R (extended a l) (extended w.0 (extended a l)) = subst (λ (k : Log). R k (extended w.0 (extended a l))) (extended-none (extended a l)) (q [] w.0 since w.2) in
            subst (λ (k : Log). R (extended before l) k) (extended-append a w.0 l ∙ ap (λ (o : List Op). extended o l) (sym w.1)) (then (extended before l) (extended a l) (extended w.0 (extended a l)) first second)
        | inr v ↦
            let both : (v.0 ++ between) ++ since ≡ b = ap (λ (o : List Op). o ++ since) v.2 ∙ w.2 in
            subst (λ (k : Log). R k (extended (before ++ between) l)) (extended-append a v.0 l ∙ ap (λ (o : List Op). extended o l) (sym v.1))
            (subst (λ (k : Log). R (extended v.0 (extended a l)) k) (extended-append a (v.0 ++ between) l ∙ ap (λ (o : List Op). extended (a ++ o) l) v.2 ∙ ap (λ (o : List Op). extended o l) (sym w.1)) (q v.0 between since both))
      ]
    ]

EachOp-back : (P : Op → Type 0) (a b : List Op) → EachOp P (a ++ b) → EachOp P b
EachOp-back P [] b p = p
EachOp-back P (op ∷ a) b p = EachOp-back P a b p.1

-- what operations don't touch is the same between each two moments
pub onward_same : (P : Path → Type 0) (l : Log) (ops : List Op) → EachOp (TouchesOnly P) ops → Onward (SameExcept P) l ops
onward_same P l ops each before between since e =
    let front : EachOp (TouchesOnly P) (before ++ between) = EachOp-front (TouchesOnly P) (before ++ between) since (subst (EachOp (TouchesOnly P)) (sym e) each) in
    subst (λ (k : Log). SameExcept P (extended before l) k) (extended-append before between l)
    (same_after P (extended before l) between (EachOp-back (TouchesOnly P) before between front))
