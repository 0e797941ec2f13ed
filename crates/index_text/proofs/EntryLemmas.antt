-- Stanzas of an index one after another.
use Rattle.std.proofs.Common.{◌≡◌, ℕ, List, [], ◌∷◌, ◌++◌, map, Result, Ok, Err, refl, ap, sym, ◌∙◌, subst}
use Rattle.std.specs.Result.{IfOk, IfErr, MatchResult}
use Rattle.std.proofs.lemmas.List.{map-append}
use Rattle.control_stanza.specs.declared.stanza.Field.{Field}
use Rattle.package_core.specs.Card.{Card, IsPackage, card_of, path_in}
use Rattle.package_core.specs.Whole.{IsSaid}
use Rattle.index_text.specs.declared.fault.IndexFault.{IndexFault}
use Rattle.index_text.specs.declared.fault.IndexFault.TheVariants.{At, OutOfMemory}
use Rattle.index_text.specs.Index.{IsEntry, AreEntries, ArePackages, IsOtherOf, entry_of}
use Rattle.std.specs.Iterator.{Yields}
use Rattle.std.specs.List.{AllByRecursion}
use Rattle.std.specs.Vec.Iter.{into_iter_items, into_iter_steps}
use Rattle.std.specs.declared.vec.IntoIter.{IntoIter}

-- what the iterator of a vector has given is a front of its items
pub taken_front : {X A : Type 0} (s : IntoIter X A) (xs : List X) (t : IntoIter X A) → Yields into_iter_steps s xs t → into_iter_items s ≡ xs ++ into_iter_items t
taken_front s [] t y = ap into_iter_items y
taken_front s (x ∷ xs) t y = y.1.0 ∙ ap (λ ys. x ∷ ys) (taken_front y.0 xs t y.2)

-- one more at the end
pub all_last : {X : Type 0} (P : X → Type 0) (xs : List X) (x : X) → AllByRecursion P xs → P x → AllByRecursion P (xs ++ x ∷ [])
all_last P [] x h p = (p, tt)
all_last P (y ∷ ys) x h p = (h.0, all_last P ys x h.1 p)

pub entries_last : (xs : List (ℕ × List Field)) (x : ℕ × List Field) → AreEntries xs → IsEntry x.1 → AreEntries (xs ++ x ∷ [])
entries_last xs x h p = all_last (λ (s : ℕ × List Field). IsEntry s.1) xs x h p

pub one_more : (xs : List (ℕ × List Field)) (x : ℕ × List Field) (before : List (Card × List ℕ)) (made : Card × List ℕ) (after : List (Card × List ℕ)) → before ≡ map entry_of xs → made ≡ (card_of x.1, path_in x.1) → after ≡ before ++ made ∷ [] → after ≡ map entry_of (xs ++ x ∷ [])
one_more xs x before made after b m a = a ∙ (λ i. b i ++ m i ∷ []) ∙ sym (map-append entry_of xs (x ∷ []))

pub packages_last : (before : List (Card × List ℕ)) (made : Card × List ℕ) (after : List (Card × List ℕ)) → after ≡ before ++ made ∷ [] → ArePackages before → IsPackage made.0 × IsSaid made.0.said → ArePackages after
packages_last before made after e h p = subst ArePackages (sym e) (all_last (λ (m : Card × List ℕ). IsPackage m.0 × IsSaid m.0.said) before made h p)

-- an entry among entries
pub entry_at : (before : List (ℕ × List Field)) (other : ℕ × List Field) (behind : List (ℕ × List Field)) → AreEntries (before ++ other ∷ behind) → IsEntry other.1
entry_at [] other behind h = h.0
entry_at (s ∷ ss) other behind h = entry_at ss other behind h.1

-- what is read of entries is what they describe
pub only_listed : {V : Type 0} (seen : V → List (Card × List ℕ)) (stanzas others : List (ℕ × List Field)) (entries : List (Card × List ℕ)) (r : Result V IndexFault) → others ≡ stanzas → AreEntries others → entries ≡ map entry_of others → IfOk r (λ v. seen v ≡ map entry_of stanzas) → IfErr r (IsOtherOf stanzas) → MatchResult r (λ v. seen v ≡ entries) (λ e. e ≡ OutOfMemory)
only_listed seen stanzas others entries (Ok v) same all described e o = e ∙ ap (map entry_of) (sym same) ∙ sym described
only_listed seen stanzas others entries (Err OutOfMemory) same all described e o = refl
only_listed seen stanzas others entries (Err (At line)) same all described e o = absurd (o.is_none (entry_at o.before o.other o.behind (subst AreEntries (same ∙ o.stanzas_are) all)))
