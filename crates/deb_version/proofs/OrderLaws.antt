-- The order of versions is total.
use Rattle.std.specs.Prelude.{◌≡◌, ℕ, List, [], ◌∷◌, ◌⊎◌}
use Rattle.std.proofs.Common.{refl, sym, ◌∙◌, arith, inl, inr, Less, Equal, Greater}
use Rattle.std.specs.declared.cmp.Ordering.{Ordering}
use Rattle.std.specs.Ordering.{ordering_then, ordering_reverse}
use Rattle.std.specs.Cmp.{IsTotalOrder}
use Rattle.std.proofs.lemmas.Cmp.{nat_cmp_total, nat_list_cmp_total, on_total, then_total, tied_itself, alike_right}
use Rattle.deb_version.specs.Cuts.{padded_cmp, cut_cmp, no_cut, Cut, part_cmp, cuts, ranks}
use Rattle.deb_version.specs.VersionText.{epoch_of, upstream_of, revision_of}
use Rattle.deb_version.specs.VersionOrder.{epoch_number, revision_part, version_cmp}
use Rattle.std.specs.Str.Parse.{digits_value}

then_reverse : (a b : Ordering) → ordering_then (ordering_reverse a) (ordering_reverse b) ≡ ordering_reverse (ordering_then a b)
then_reverse Less b = refl
then_reverse Equal b = refl
then_reverse Greater b = refl

then_less : (a b : Ordering) → ordering_then a b ≡ Less → (a ≡ Less) ⊎ ((a ≡ Equal) × (b ≡ Less))
then_less Less b h = inl refl
then_less Equal b h = inr (refl, h)
then_less Greater b h = cc

then_less_left : (a b : Ordering) → a ≡ Less → ordering_then a b ≡ Less
then_less_left a b h = rw h refl

then_less_right : (a b : Ordering) → a ≡ Equal → b ≡ Less → ordering_then a b ≡ Less
then_less_right a b h g = rw (h, g) refl

then_equal : (a b : Ordering) → ordering_then a b ≡ Equal → (a ≡ Equal) × (b ≡ Equal)
then_equal Less b h = cc
then_equal Equal b h = (refl, h)
then_equal Greater b h = cc

module _ {X : Type 0} {R : X → X → Ordering} (o : IsTotalOrder R) where
  -- one more pair in front keeps the laws
  step_flip : (x y : X) (p q : Ordering) → p ≡ ordering_reverse q → ordering_then (R x y) p ≡ ordering_reverse (ordering_then (R y x) q)
  step_flip x y p q h = (λ i. ordering_then (o.antisymm x y i) (h i)) ∙ then_reverse (R y x) q

  flip : (e : X) (xs ys : List X) → padded_cmp R e xs ys ≡ ordering_reverse (padded_cmp R e ys xs)
  flip e [] [] = refl
  flip e [] (y ∷ ys) = step_flip e y _ _ (flip e [] ys)
  flip e (x ∷ xs) [] = step_flip x e _ _ (flip e xs [])
  flip e (x ∷ xs) (y ∷ ys) = step_flip x y _ _ (flip e xs ys)

  step_trans : (x y z : X) (p q r : Ordering) → (p ≡ Less → q ≡ Less → r ≡ Less) → ordering_then (R x y) p ≡ Less → ordering_then (R y z) q ≡ Less → ordering_then (R x z) r ≡ Less
  step_trans x y z p q r h f g = grind (arith, then_less, then_less_left, then_less_right, o.trans, o.congr, alike_right o)

  step_congr : (x y z : X) (p q r : Ordering) → (p ≡ Equal → q ≡ r) → ordering_then (R x y) p ≡ Equal → ordering_then (R x z) q ≡ ordering_then (R y z) r
  step_congr x y z p q r h f = let t = then_equal _ _ f in (λ i. ordering_then (o.congr x y z t.0 i) (h t.1 i))

  nothing : (e : X) → ordering_then (R e e) Equal ≡ Equal
  nothing e = rw (tied_itself o e) refl

  chain : (e : X) (xs ys zs : List X) → padded_cmp R e xs ys ≡ Less → padded_cmp R e ys zs ≡ Less → padded_cmp R e xs zs ≡ Less
  chain e [] [] zs f g = cc
  chain e [] (y ∷ ys) [] f g = sym (nothing e) ∙ step_trans e y e _ _ Equal (chain e [] ys []) f g
  chain e [] (y ∷ ys) (z ∷ zs) f g = step_trans e y z _ _ _ (chain e [] ys zs) f g
  chain e (x ∷ xs) [] [] f g = cc
  chain e (x ∷ xs) [] (z ∷ zs) f g = step_trans x e z _ _ _ (chain e xs [] zs) f g
  chain e (x ∷ xs) (y ∷ ys) [] f g = step_trans x y e _ _ _ (chain e xs ys []) f g
  chain e (x ∷ xs) (y ∷ ys) (z ∷ zs) f g = step_trans x y z _ _ _ (chain e xs ys zs) f g

  level : (e : X) (xs ys zs : List X) → padded_cmp R e xs ys ≡ Equal → padded_cmp R e xs zs ≡ padded_cmp R e ys zs
  level e [] [] zs f = refl
  level e [] (y ∷ ys) [] f = sym (nothing e) ∙ step_congr e y e _ Equal _ (level e [] ys []) f
  level e [] (y ∷ ys) (z ∷ zs) f = step_congr e y z _ _ _ (level e [] ys zs) f
  level e (x ∷ xs) [] [] f = step_congr x e e _ _ Equal (level e xs [] []) f ∙ nothing e
  level e (x ∷ xs) [] (z ∷ zs) f = step_congr x e z _ _ _ (level e xs [] zs) f
  level e (x ∷ xs) (y ∷ ys) [] f = step_congr x y e _ _ _ (level e xs ys []) f
  level e (x ∷ xs) (y ∷ ys) (z ∷ zs) f = step_congr x y z _ _ _ (level e xs ys zs) f

  pub padded_total : (e : X) → IsTotalOrder (padded_cmp R e)
  padded_total e = record { antisymm = flip e; trans = chain e; congr = level e }

cut_total : IsTotalOrder cut_cmp
cut_total = then_total (on_total (λ (p : Cut). ranks p.run) nat_list_cmp_total) (on_total (λ (p : Cut). digits_value 10 p.digits) nat_cmp_total)

pub part_total : IsTotalOrder part_cmp
unfolding part_cmp
part_total = on_total cuts (padded_total cut_total no_cut)

pub version_total : IsTotalOrder version_cmp
unfolding version_cmp
version_total =
    then_total
    (on_total (λ (text : List ℕ). epoch_number (epoch_of text)) nat_cmp_total)
    (then_total (on_total upstream_of part_total) (on_total (λ (text : List ℕ). revision_part (revision_of text)) part_total))
