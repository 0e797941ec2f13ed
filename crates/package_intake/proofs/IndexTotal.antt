-- Each text is an index, or has a first line that can't stand there.
use Rattle.std.proofs.Common.{◌≡◌, ◌⊎◌, inl, inr, ℕ, List, [], ◌∷◌, map, codes, Option, Some, None, Result, Ok, Err, refl, sym, ap, ◌∙◌}
use Rattle.control_stanza.specs.declared.read.TheConstants.{MOST_STANZA_BYTES}
use Rattle.control_stanza.specs.declared.stanza.Field.{Field}
use Rattle.control_stanza.specs.Lines.{lines_of}
use Rattle.control_stanza.specs.Fields.{value_of}
use Rattle.control_stanza.specs.Reading.{Fault, stanzas_from}
use Rattle.control_stanza.proofs.Found.{found_all}
use Rattle.control_stanza.proofs.Least.{first_fault}
use Rattle.depends_field.specs.declared.alternative.Alternative.{Alternative}
use Rattle.depends_field.specs.declared.phase.Kind.{Kind}
use Rattle.depends_field.specs.declared.phase.Kind.TheVariants.{Depends, Provides}
use Rattle.depends_field.specs.Field.{groups_in}
use Rattle.depends_field.proofs.Said.{groups_from_said, said_from_groups}
use Rattle.package_core.specs.declared.fault.PackageFault.{PackageFault}
use Rattle.package_core.specs.Faults.{fault_of}
use Rattle.index_text.specs.Index.{AreEntries, HasRelations, IsEntry, IsFirstOther, IsMadeOf, IsReadable, entry_of}
use Rattle.package_intake.specs.Index.{IndexEntry, IsIndex}

-- it holds, or it doesn't
abbrev Decided : Type 0 → Type 0
Decided P = P ⊎ (P → ⊥)

both : (P Q : Type 0) → Decided P → Decided Q → Decided (P × Q)
both P Q (inl p) (inl q) = inl (p, q)
both P Q (inl p) (inr n) = inr (λ h. n h.1)
both P Q (inr n) q = inr (λ h. n h.0)

same_as : (P Q : Type 0) → (P → Q) → (Q → P) → Decided P → Decided Q
same_as P Q f g (inl p) = inl (f p)
same_as P Q f g (inr n) = inr (λ q. n (g q))

-- ---- one stanza
readable : (kind : Kind) (o : Option (List ℕ)) → Decided (IsReadable kind o)
readable kind None = inl tt
readable kind (Some text) = by_groups (groups_in kind text) refl
  where
    by_groups : (o : Option (List (List Alternative))) → groups_in kind text ≡ o → Decided (IsReadable kind (Some text))
    by_groups (Some groups) e = inl (groups, groups_from_said kind text groups e)
    by_groups None e = inr (λ g. never g.0 (sym e ∙ said_from_groups kind text g.0 g.1))
      where
        never : (groups : List (List Alternative)) → None ≡ Some groups → ⊥
        never groups h = cc

relations : (fields : List Field) → Decided (HasRelations fields)
relations fields =
    let a = readable Depends (value_of fields (codes "Pre-Depends")) in
    let b = readable Depends (value_of fields (codes "Depends")) in
    let c = readable Depends (value_of fields (codes "Recommends")) in
    let d = readable Depends (value_of fields (codes "Suggests")) in
    let e = readable Provides (value_of fields (codes "Provides")) in
    same_as _ (HasRelations fields) (λ h. record { pre_depends = h.0; depends = h.1.0; recommends = h.1.1.0; suggests = h.1.1.1.0; provides = h.1.1.1.1 }) (λ h. (h.pre_depends, (h.depends, (h.recommends, (h.suggests, h.provides))))) (both _ _ a (both _ _ b (both _ _ c (both _ _ d e))))

binary : (fields : List Field) → Decided (fault_of fields ≡ None)
binary fields = by_fault (fault_of fields)
  where
    by_fault : (o : Option PackageFault) → Decided (o ≡ None)
    by_fault None = inl refl
    by_fault (Some fault) = inr (λ h. never h)
      where
        never : Some fault ≡ None → ⊥
        never h = cc

entry : (fields : List Field) → Decided (IsEntry fields)
entry fields = same_as _ (IsEntry fields) (λ h. record { binary = h.0; relations = h.1 }) (λ h. (h.binary, h.relations)) (both (fault_of fields ≡ None) (HasRelations fields) (binary fields) (relations fields))

-- ---- all of them
all_or_first : (stanzas : List (ℕ × List Field)) → AreEntries stanzas ⊎ ((line : ℕ) × IsFirstOther stanzas line)
all_or_first [] = inl tt
all_or_first (s ∷ ss) = by_entry (entry s.1) (all_or_first ss)
  where
    by_entry : Decided (IsEntry s.1) → (AreEntries ss ⊎ ((line : ℕ) × IsFirstOther ss line)) → AreEntries (s ∷ ss) ⊎ ((line : ℕ) × IsFirstOther (s ∷ ss) line)
    by_entry (inl e) (inl es) = inl (e, es)
    by_entry (inl e) (inr (line, o)) = inr (line, record { before = s ∷ o.before; other = o.other; behind = o.behind; stanzas_are = ap (λ (l : List (ℕ × List Field)). s ∷ l) o.stanzas_are; are_entries = (e, o.are_entries); is_none = o.is_none; line_is = o.line_is })
    by_entry (inr none) r = inr (s.0, record { before = []; other = s; behind = ss; stanzas_are = refl; are_entries = tt; is_none = none; line_is = refl })

pub index_is : (text : List ℕ) → (index : Result (List IndexEntry) ℕ) × IsIndex text index
index_is text = by_stanzas (stanzas_from (Some MOST_STANZA_BYTES) 1 None (lines_of text)) refl
  where
    by_split : (out : List (ℕ × List Field)) → IsMadeOf text out → (AreEntries out ⊎ ((line : ℕ) × IsFirstOther out line)) → (index : Result (List IndexEntry) ℕ) × IsIndex text index
    by_split out made (inl es) = (Ok (map entry_of out), record { stanzas = out; made_of = made; are_entries = es; described = refl })
    by_split out made (inr (line, o)) = (Err line, inr (out, made, o))

    by_stanzas : (r : Result (List (ℕ × List Field)) Fault) → stanzas_from (Some MOST_STANZA_BYTES) 1 None (lines_of text) ≡ r → (index : Result (List IndexEntry) ℕ) × IsIndex text index
    by_stanzas (Ok out) e = by_split out (found_all (Some MOST_STANZA_BYTES) (lines_of text) out e) (all_or_first out)
    by_stanzas (Err fault) e = (Err fault.line, inl (fault.kind, first_fault (Some MOST_STANZA_BYTES) (lines_of text) fault e))
