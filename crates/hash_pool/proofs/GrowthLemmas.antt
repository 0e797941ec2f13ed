-- How the pool grows.
use Rattle.std.proofs.Common.{◌≡◌, inl, inr, ℕ, List, [], ◌∷◌, ◌++◌, Some, None, IsSome, IsTrue, IsFalse, refl, sym, ◌∙◌, ap, subst}
use Rattle.std.specs.List.{AllByRecursion}
use Rattle.sha2.specs.Sha256.{sha256}
use Rattle.ap_host.specs.declared.host.Op.{Op}
use Rattle.ap_host.specs.declared.host.Op.TheVariants.{Create, Append, Sync, Rename, Remove, Barrier, Say, Claim}
use Rattle.ap_host.specs.Disk.{Path, Content, Log, disk_of, live_of, extended, said}
use Rattle.ap_host.specs.Changes.{EachOp}
use Rattle.ap_host.proofs.DiskLemmas.{extended-append, Throughout-map}
use Rattle.ap_host.proofs.ChangeLemmas.{EachOp-append, EachOp-map}
use Rattle.ap_host.proofs.LegalLemmas.{image_at}
use Rattle.stage_file.specs.Stage.{is_staged}
use Rattle.hash_pool.specs.Names.{is_pooled, pool_name, Named}
use Rattle.hash_pool.specs.Growth.{IsTaking, targets, IsNot, IsOnce, IsBody, HasGrown, PoolGrows, Growths}
use Rattle.hash_pool.proofs.NameLemmas.{pooled_not_staged, name_pooled, not_both}
use Rattle.hash_pool.proofs.OnwardLemmas.{Onward-start, Onward-whole, Onward-none, Onward-append}

pub none_some : (x : Content) → x ≡ None → IsSome x → ⊥
none_some x none some = let no : IsSome {T = List ℕ} None = subst (λ (c : Content). IsSome c) none some in cc

body_some : (p : Path) (x : Content) → IsBody p x → IsSome x
body_some p x body = subst (λ (c : Content). IsSome c) (sym body.1) refl

body_pooled : (p : Path) (x : Content) → IsBody p x → IsTrue (is_pooled p)
body_pooled p x body = subst (λ (q : Path). IsTrue (is_pooled q)) (sym body.2) (name_pooled (sha256 body.0))

pub grown_refl : (l : Log) → HasGrown l l
grown_refl l = record { live = λ p out. inl refl; may = λ p x out m. inl m }

pub grown_then : (k l m : Log) → HasGrown k l → HasGrown l m → HasGrown k m
grown_then k l m s t = record {
  live = λ p out. elim (t.live p out) [
    | inl same ↦ elim (s.live p out) [ inl before ↦ inl (same ∙ before) | inr new ↦ inr (new.0, subst (IsBody p) (sym same) new.1) ]
    | inr new ↦ elim (s.live p out) [ inl before ↦ inr (sym before ∙ new.0, new.1) | inr was ↦ absurd (none_some (live_of l p) new.0 (body_some p (live_of l p) was.1)) ]
  ];
  may = λ p x out m. elim (t.may p x out m) [ inl was ↦ s.may p x out was | inr new ↦ inr new ];
}

stays : (l m : Log) (p : Path) → HasGrown l m → IsFalse (is_staged p) → IsSome (live_of l p) → live_of m p ≡ live_of l p
stays l m p g out some = elim (g.live p out) [ inl same ↦ same | inr new ↦ absurd (none_some (live_of l p) new.0 some) ]

elsewhere : (l m : Log) (p : Path) → HasGrown l m → IsFalse (is_staged p) → IsFalse (is_pooled p) → live_of m p ≡ live_of l p
elsewhere l m p g out other = elim (g.live p out) [ inl same ↦ same | inr new ↦ absurd (not_both (is_pooled p) (body_pooled p (live_of m p) new.1) other) ]

unmoved : (l m : Log) (p : Path) (x : Content) → HasGrown l m → IsFalse (is_staged p) → IsFalse (is_pooled p) → (disk_of m).may p x → (disk_of l).may p x
unmoved l m p x g out other may = elim (g.may p x out may) [ inl was ↦ was | inr new ↦ absurd (not_both (is_pooled p) (body_pooled p x new) other) ]

-- what wasn't there at a later moment wasn't at an earlier one
absent_before : (l m : Log) (p : Path) → HasGrown l m → IsTrue (is_pooled p) → live_of m p ≡ None → live_of l p ≡ None
absent_before l m p g pooled none = elim (g.live p (pooled_not_staged p pooled)) [ inl same ↦ sym same ∙ none | inr new ↦ new.0 ]

taking_before : (l m : Log) → HasGrown l m → (op : Op) → IsTaking m op → IsTaking l op
taking_before l m g (Create p) t = t
taking_before l m g (Append p bytes) t = t
taking_before l m g (Sync p) t = t
taking_before l m g (Rename a b) t = (t.0, t.1, absent_before l m b g t.1 t.2)
taking_before l m g (Remove p) t = t
taking_before l m g Barrier t = t
taking_before l m g (Say bytes) t = t
taking_before l m g (Claim got) t = t

-- of the targets

pub targets-append : (a b : List Op) → targets (a ++ b) ≡ targets a ++ targets b
targets-append [] b = refl
targets-append (Rename p q ∷ a) b = ap (λ (x : List Path). q ∷ x) (targets-append a b)
targets-append (Create p ∷ a) b = targets-append a b
targets-append (Append p bytes ∷ a) b = targets-append a b
targets-append (Sync p ∷ a) b = targets-append a b
targets-append (Remove p ∷ a) b = targets-append a b
targets-append (Barrier ∷ a) b = targets-append a b
targets-append (Say bytes ∷ a) b = targets-append a b
targets-append (Claim got ∷ a) b = targets-append a b

-- each is a pool name that wasn't there
pub targets_new : (l : Log) (ops : List Op) → EachOp (IsTaking l) ops → AllByRecursion (λ p. IsTrue (is_pooled p) × (live_of l p ≡ None)) (targets ops)
targets_new l [] each = tt
targets_new l (Rename p q ∷ a) each = ((each.0.1, each.0.2), targets_new l a each.1)
targets_new l (Create p ∷ a) each = targets_new l a each.1
targets_new l (Append p bytes ∷ a) each = targets_new l a each.1
targets_new l (Sync p ∷ a) each = targets_new l a each.1
targets_new l (Remove p ∷ a) each = absurd each.0
targets_new l (Barrier ∷ a) each = absurd each.0
targets_new l (Say bytes ∷ a) each = absurd each.0
targets_new l (Claim got ∷ a) each = absurd each.0

taking_quiet : (l : Log) (ops : List Op) → EachOp (IsTaking l) ops → said ops ≡ []
taking_quiet l [] each = refl
taking_quiet l (Rename p q ∷ a) each = taking_quiet l a each.1
taking_quiet l (Create p ∷ a) each = taking_quiet l a each.1
taking_quiet l (Append p bytes ∷ a) each = taking_quiet l a each.1
taking_quiet l (Sync p ∷ a) each = taking_quiet l a each.1
taking_quiet l (Remove p ∷ a) each = absurd each.0
taking_quiet l (Barrier ∷ a) each = absurd each.0
taking_quiet l (Say bytes ∷ a) each = absurd each.0
taking_quiet l (Claim got ∷ a) each = absurd each.0

all_append : (P : Path → Type 0) (a b : List Path) → AllByRecursion P a → AllByRecursion P b → AllByRecursion P (a ++ b)
all_append P [] b p q = q
all_append P (x ∷ a) b p q = (p.0, all_append P a b p.1 q)

all_map : (P Q S : Path → Type 0) → ((p : Path) → P p → Q p → S p) → (a : List Path) → AllByRecursion P a → AllByRecursion Q a → AllByRecursion S a
all_map P Q S f [] p q = tt
all_map P Q S f (x ∷ a) p q = (f x p.0 q.0, all_map P Q S f a p.1 q.1)

not_among : (p : Path) (m : Log) (ps : List Path) → IsSome (live_of m p) → AllByRecursion (λ q. IsTrue (is_pooled q) × (live_of m q ≡ None)) ps → IsNot p ps
not_among p m [] some new = tt
not_among p m (q ∷ qs) some new = (λ is. none_some (live_of m q) new.0.1 (subst (λ (y : Path). IsSome (live_of m y)) is some), not_among p m qs some new.1)

not_append : (p : Path) (a b : List Path) → IsNot p a → IsNot p b → IsNot p (a ++ b)
not_append p [] b x y = y
not_append p (q ∷ a) b x y = (x.0, not_append p a b x.1 y)

once_append : (m : Log) (a b : List Path) → IsOnce a → IsOnce b → AllByRecursion (λ p. IsSome (live_of m p)) a → AllByRecursion (λ q. IsTrue (is_pooled q) × (live_of m q ≡ None)) b → IsOnce (a ++ b)
once_append m [] b x y there new = y
once_append m (p ∷ a) b x y there new = (not_append p a b x.0 (not_among p m b there.0 new), once_append m a b x.1 y there.1 new)

-- growths

pub grows_whole : (l : Log) (ops : List Op) → PoolGrows l ops → HasGrown l (extended ops l)
grows_whole l ops g = Onward-whole HasGrown l ops g.onward

pub grows_none : (l : Log) → PoolGrows l []
grows_none l = record { kinds = tt; once = tt; there = tt; onward = Onward-none HasGrown grown_refl l }

pub grows_then : (l : Log) (a b : List Op) → PoolGrows l a → PoolGrows (extended a l) b → PoolGrows l (a ++ b)
grows_then l a b p q = record {
  kinds = EachOp-append (IsTaking l) a b p.kinds (EachOp-map (IsTaking m) (IsTaking l) (taking_before l m (grows_whole l a p)) b q.kinds);
  once = subst IsOnce (sym (targets-append a b)) (once_append m (targets a) (targets b) p.once q.once p.there (targets_new m b q.kinds));
  there = subst (λ (ps : List Path). AllByRecursion At ps) (sym (targets-append a b)) (all_append At (targets a) (targets b) before (all_map Later Later At (λ r x y. at_end r x) (targets b) q.there q.there));
  onward = Onward-append HasGrown grown_then l a b p.onward q.onward;
}
  where
    m : Log
    m = extended a l

    At : Path → Type 0
    At r = IsSome (live_of (extended (a ++ b) l) r)

    Later : Path → Type 0
    Later r = IsSome (live_of (extended b m) r)

    at_end : (r : Path) → Later r → At r
    at_end r = subst (λ (k : Log). IsSome (live_of k r)) (extended-append a b l)

    kept : (r : Path) → IsSome (live_of m r) → IsTrue (is_pooled r) × (live_of l r ≡ None) → At r
    kept r some new =
        at_end r (subst (λ (x : Content). IsSome x) (sym (stays m (extended b m) r (grows_whole m b q) (pooled_not_staged r new.0) some)) some)

    before : AllByRecursion At (targets a)
    before = all_map (λ r. IsSome (live_of m r)) (λ r. IsTrue (is_pooled r) × (live_of l r ≡ None)) At kept (targets a) p.there (targets_new l a p.kinds)

named_after : (l m : Log) → Named l → HasGrown l m → Named m
named_after l m named g f image p bytes pooled at =
    elim (g.may p (Some bytes) (pooled_not_staged p pooled) (subst ((disk_of m).may p) at (image p))) [
      | inl was ↦ let w = image_at l p (Some bytes) was in named w.0 w.1 p bytes pooled w.2
      | inr new ↦ let same : Some bytes ≡ Some new.0 = new.1 in let is : bytes ≡ new.0 = cc in new.2 ∙ ap (λ (b : List ℕ). pool_name (sha256 b)) (sym is)
    ]

pub law_of_growth : Growths
law_of_growth = record {
  none = grows_none;
  then = grows_then;
  moments = λ l ops g. Onward-start HasGrown l ops g.onward;
  images = λ l m g f image p out. g.may p (f p) out (image p);
  quiet = λ l ops g. taking_quiet l ops g.kinds;
  new = λ l ops g. targets_new l ops g.kinds;
  stays = stays;
  elsewhere = elsewhere;
  unmoved = unmoved;
  named = λ l ops named g. Throughout-map (HasGrown l) Named (λ m h. named_after l m named h) l ops (Onward-start HasGrown l ops g.onward);
}
