-- One phase of a command, and then the next.
use Rattle.std.proofs.Common.{◌≡◌, inl, inr, ℕ, List, [], ◌∷◌, ◌++◌, sym, ◌∙◌, ap, subst, append_assoc, append-nil}
use Rattle.ap_host.specs.declared.host.Op.{Op}
use Rattle.ap_host.specs.Disk.{Log, Images, extended, live_of, said}
use Rattle.ap_host.proofs.ListLemmas.{cut}
use Rattle.ap_host.proofs.DiskLemmas.{extended-append, extended-none, Throughout-append}
use Rattle.ap_host.proofs.ChangeLemmas.{AllOrPart, IsPart, part_cases}
use Rattle.run_model.specs.Run.{Store, Between, Grows, Keeps}
use Rattle.run_model.proofs.Joins.{said-append}

-- what holds on once it holds, over the operations of one call
module _ (Q : Log → Type 0) (l : Log) where
  onward_none : (earlier between after : List Op) → (earlier ++ between) ++ after ≡ [] → Q (extended earlier l) → Q (extended (earlier ++ between) l)
  onward_none [] [] after e h = h
  onward_none [] (b ∷ between) after e h = absurd (cc)
  onward_none (b ∷ earlier) between after e h = absurd (cc)

  onward_one : (o : Op) → (Q l → Q (extended (o ∷ []) l)) → (earlier between after : List Op) → (earlier ++ between) ++ after ≡ o ∷ [] → Q (extended earlier l) → Q (extended (earlier ++ between) l)
  onward_one o step [] [] after e h = h
  onward_one o step [] (b ∷ []) after e h = let is : b ≡ o = cc in subst (λ (x : Op). Q (extended (x ∷ []) l)) (sym is) (step (subst Q (extended-none l) h))
  onward_one o step [] (b ∷ c ∷ between) after e h = absurd (cc)
  onward_one o step (b ∷ []) [] after e h = h
  onward_one o step (b ∷ []) (c ∷ between) after e h = absurd (cc)
  onward_one o step (b ∷ c ∷ earlier) between after e h = absurd (cc)

  pub onward_part : (op : Op) (ops : List Op) → ((o : Op) → IsPart op o → Q l → Q (extended (o ∷ []) l)) → AllOrPart op ops
      → (earlier between after : List Op) → (earlier ++ between) ++ after ≡ ops → Q (extended earlier l) → Q (extended (earlier ++ between) l)
  onward_part op ops step w earlier between after e h = elim (part_cases op ops w) [
    | inl none ↦ onward_none earlier between after (e ∙ none) h
    | inr some ↦ onward_one some.0 (step some.0 some.1) earlier between after (e ∙ some.2) h
  ]

  pub onward_nothing : (ops : List Op) → ops ≡ [] → (earlier between after : List Op) → (earlier ++ between) ++ after ≡ ops → Q (extended earlier l) → Q (extended (earlier ++ between) l)
  onward_nothing ops none earlier between after e h = onward_none earlier between after (e ∙ none) h

-- what stays as it was at the start of a phase
pub onward_same : (Q : Log → Type 0) (l : Log) (ops : List Op) → ((before after : List Op) → before ++ after ≡ ops → (Q (extended before l) → Q l) × (Q l → Q (extended before l)))
    → (earlier between after : List Op) → (earlier ++ between) ++ after ≡ ops → Q (extended earlier l) → Q (extended (earlier ++ between) l)
onward_same Q l ops same earlier between after e h =
    (same (earlier ++ between) after e).1 ((same earlier (between ++ after) (sym (append_assoc earlier between after) ∙ e)).0 h)

module _ {S : Type 0} (T : Store S) (s t : S) (l : Log) (a b : List Op) where
  pub grows_then : Grows T s t l a → Grows T s t (extended a l) b → Grows T s t l (a ++ b)
  grows_then p q = record {
    quiet = said-append a b ∙ ap (λ (x : List ℕ). x ++ said b) p.quiet ∙ q.quiet;
    each = Throughout-append (λ m. Images m (Between T s t)) l a b p.each q.each;
    onward = λ earlier between after e here. elim (cut (earlier ++ between) after a b e) [
      | inl w ↦ p.onward earlier between w.0 w.1 here
      | inr w ↦ elim (cut earlier between a w.0 w.1) [
        | inl v ↦
            let ended = p.onward earlier v.0 [] (append-nil (earlier ++ v.0) ∙ v.1) here in
            let begun = subst Q (sym (extended-none (extended a l))) (subst (λ (x : List Op). Q (extended x l)) v.1 ended) in
            subst Q (extended-append a w.0 l ∙ ap (λ (x : List Op). extended x l) (sym w.1)) (q.onward [] w.0 after w.2 begun)
        | inr v ↦
            let whole : earlier ++ between ≡ a ++ (v.0 ++ between) = w.1 ∙ ap (λ (x : List Op). a ++ x) (sym v.2) in
            let begun = subst Q (ap (λ (x : List Op). extended x l) v.1 ∙ sym (extended-append a v.0 l)) here in
            subst Q (extended-append a (v.0 ++ between) l ∙ ap (λ (x : List Op). extended x l) (sym whole)) (q.onward v.0 between after (ap (λ (x : List Op). x ++ after) v.2 ∙ w.2) begun)
      ]
    ];
  }
    where
      Q : Log → Type 0
      Q m = T.Open (live_of m) t

-- what leads from a state to itself keeps it
pub keeps_of : {S : Type 0} (T : Store S) (s : S) (l : Log) (ops : List Op) → Grows T s s l ops → Keeps T s l ops
keeps_of T s l ops g = record { quiet = g.quiet; each = λ before after e f image. elim (g.each before after e f image).0 [ inl x ↦ x | inr x ↦ x ] }
