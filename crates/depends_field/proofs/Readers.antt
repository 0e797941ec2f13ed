-- What the readers answer, by what their text spells.
use Rattle.std.proofs.Common.{◌≡◌, ℕ, List, [], ◌∷◌, Result, Ok, Err, map, refl, ap, subst, sym, ◌∙◌, inl, inr, MatchResult, IfOk, IfErr}
use Rattle.std.specs.List.{flat_map, AllZip}
use Rattle.depends_field.specs.declared.alternative.Alternative.{Alternative}
use Rattle.depends_field.specs.declared.fault.DependsFault.{DependsFault}
use Rattle.depends_field.specs.declared.fault.DependsFault.TheVariants.{At, OutOfMemory}
use Rattle.depends_field.specs.declared.phase.Kind.{Kind}
use Rattle.depends_field.specs.declared.phase.Kind.TheVariants.{Provides}
use Rattle.depends_field.specs.Groups.{AlternativeText, PartsText, Groups}
use Rattle.depends_field.specs.Faults.{IsReading, IsFaultOf}
use Rattle.depends_field.specs.Places.{IsFaultAt}
use Rattle.depends_field.proofs.FoundGroups.{groups_from_reading}
use Rattle.depends_field.proofs.Unique.{one_reading, unreadable_from}
use Rattle.depends_field.proofs.Places.{place_from_unfit}

abbrev Seen : Type 0 → Type 0
Seen X = X → List (List Alternative)

pub found_from : {X : Type 0} (seen : Seen X) (kind : Kind) (text : List ℕ) (r : Result X DependsFault) → IfOk r (λ x. IsReading kind text (seen x)) → IfOk r (λ x. Groups kind text (seen x))
found_from seen kind text (Ok x) h = groups_from_reading kind text (seen x) h
found_from seen kind text (Err e) h = tt

pub only_from : {X : Type 0} (seen : Seen X) (kind : Kind) (text : List ℕ) (r : Result X DependsFault) → IfOk r (λ x. IsReading kind text (seen x)) → IfErr r (IsFaultOf kind text) → (groups : List (List Alternative)) → Groups kind text groups → MatchResult r (λ x. seen x ≡ groups) (λ fault. fault ≡ OutOfMemory)
only_from seen kind text (Ok x) h k groups is = one_reading kind text (seen x) groups h is
only_from seen kind text (Err (At place)) h k groups is = absurd (unreadable_from kind text place k groups is)
only_from seen kind text (Err OutOfMemory) h k groups is = refl

fault_at : (kind : Kind) (text : List ℕ) (e : DependsFault) → IsFaultOf kind text e → IsFaultAt kind text e
fault_at kind text (At place) k = place_from_unfit kind text place k
fault_at kind text OutOfMemory k = tt

pub place_from : {X : Type 0} (kind : Kind) (text : List ℕ) (r : Result X DependsFault) → IfErr r (IsFaultOf kind text) → IfErr r (IsFaultAt kind text)
place_from kind text (Ok x) k = tt
place_from kind text (Err e) k = fault_at kind text e k

-- Provides has groups of one

abbrev single : Alternative → List Alternative
single a = a ∷ []

one_of : (kind : Kind) (first : List ℕ) (others : List (List ℕ)) (group : List Alternative) → others ≡ [] → AllZip (AlternativeText kind) (first ∷ others) group → (a : Alternative) × (group ≡ a ∷ [])
one_of kind first [] [] e each = absurd each
one_of kind first [] (a ∷ []) e each = (a, refl)
one_of kind first [] (a ∷ b ∷ group) e each = absurd each.1
one_of kind first (q ∷ qs) group e each = cc

singles_parts : (parts : List (List ℕ)) (groups : List (List Alternative)) → PartsText Provides parts groups → groups ≡ map single (flat_map (λ (g : List Alternative). g) groups)
singles_parts [] groups e = e ∙ ap (λ (gs : List (List Alternative)). map single (flat_map (λ (g : List Alternative). g) gs)) (sym e)
singles_parts (part ∷ parts) groups (inl blank) = singles_parts parts groups blank.1
singles_parts (part ∷ parts) groups (inr g) =
    let one = one_of Provides g.3.first g.3.others g.0 (g.3.single refl) g.3.each in
    let rest = singles_parts parts g.1 g.4 in
    let whole : groups ≡ single one.0 ∷ g.1 = g.2 ∙ ap (λ (h : List Alternative). h ∷ g.1) one.1 in
    whole ∙ ap (λ (gs : List (List Alternative)). single one.0 ∷ gs) rest ∙ ap (λ (gs : List (List Alternative)). map single (flat_map (λ (g : List Alternative). g) gs)) (sym whole)

singles : (text : List ℕ) (groups : List (List Alternative)) → Groups Provides text groups → groups ≡ map single (flat_map (λ (g : List Alternative). g) groups)
singles text groups is = singles_parts (is.first ∷ is.others) groups is.each

pub flat_singles : (list : List Alternative) → flat_map (λ (g : List Alternative). g) (map single list) ≡ list
flat_singles [] = refl
flat_singles (a ∷ list) = ap (λ (l : List Alternative). a ∷ l) (flat_singles list)

pub provides_found : (text : List ℕ) (groups : List (List Alternative)) (list : List Alternative) → Groups Provides text groups → list ≡ flat_map (λ (g : List Alternative). g) groups → Groups Provides text (map single list)
provides_found text groups list is e =
    let P : List (List Alternative) → Type 0 = λ gs. Groups Provides text gs in
    subst P (singles text groups is ∙ ap (map single) (sym e)) is

pub provides_only : (groups : List (List Alternative)) (list others : List Alternative) → groups ≡ map single others → list ≡ flat_map (λ (g : List Alternative). g) groups → list ≡ others
provides_only groups list others same e =
    e ∙ ap (flat_map (λ (g : List Alternative). g)) same ∙ flat_singles others
