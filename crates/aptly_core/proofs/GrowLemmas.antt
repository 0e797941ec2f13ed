-- Files are taken into the pool: what that is of the operations of a command.
use Rattle.std.proofs.Common.{◌≡◌, ◌||◌, append-nil, ◌⊎◌, inl, inr, ℕ, Bool, true, false, List, [], ◌∷◌, ◌++◌, None, IsTrue, refl, sym, ◌∙◌, subst, codes}
use Rattle.std.specs.List.{AllByRecursion}
use Rattle.ap_text.specs.Paths.{is_below}
use Rattle.ap_host.specs.declared.host.Op.{Op}
use Rattle.ap_host.specs.Disk.{Path, Log, live_of}
use Rattle.ap_host.specs.Changes.{EachOp}
use Rattle.hash_pool.specs.Names.{is_pooled}
use Rattle.hash_pool.specs.Growth.{IsTaking, PoolGrows, targets, IsNot, IsOnce}
use Rattle.hash_pool.proofs.GrowthLemmas.{targets_new}
use Rattle.catalogue_root.specs.Commits.{IsTarget, Sets}
use Rattle.catalogue_root.specs.Store.{root}
use Rattle.catalogue_root.proofs.FitLemmas.{pooled_not_root}
use Rattle.catalogue_root.proofs.GrowLemmas.{taking_each}
use Rattle.aptly_core.specs.Machine.{IsWork, IsIdle, is_below_one, AreTargets}

below_pool : (b : Path) → IsTrue (is_pooled b) → IsTrue (is_below_one b)
below_pool b is = go (is_below (codes "db") b) (is_pooled b) (is_below (codes "public") b) is
  where
    go : (x y z : Bool) → y ≡ true → ((x || y) || z) ≡ true
    go true true z e = refl
    go false true z e = refl
    go x false z e = absurd (cc)

pub taking_work : (l : Log) (ops : List Op) → EachOp (IsTaking l) ops → EachOp IsWork ops
taking_work l ops each = taking_each l IsWork (λ p is. is) (λ p b w. w) (λ p is. is) (λ a b w. (w.0, below_pool b w.1)) ops each

pub taking_idle : (l : Log) (ops : List Op) → EachOp (IsTaking l) ops → EachOp (IsIdle l) ops
taking_idle l ops each = taking_each l (IsIdle l) (λ p is. tt) (λ p b w. tt) (λ p is. tt) (λ a b w. (w.1, w.2)) ops each

pub taking_sets : (l : Log) (ops : List Op) → EachOp (IsTaking l) ops → EachOp (λ op. ¬ Sets op) ops
taking_sets l ops each = taking_each l (λ op. ¬ Sets op) (λ p is no. no) (λ p b w no. no) (λ p is no. no) (λ a b w e. pooled_not_root b w.1 e) ops each

-- ---- targets: pool files that weren't there, and then those of a commit
abbrev pub IsNewPooled : Log → Path → Type 0
IsNewPooled l p = IsTrue (is_pooled p) × (live_of l p ≡ None)

target_not_pooled : (k : Log) (p q : Path) → IsTrue (is_pooled p) → IsTarget k q → p ≡ q → ⊥
target_not_pooled k p q pooled target same = pooled_not_root p pooled (same ∙ target)

once_then : (l k : Log) (xs ys : List Path) → IsOnce xs → IsOnce ys → AllByRecursion (IsNewPooled l) xs → AllByRecursion (IsTarget k) ys → IsOnce (xs ++ ys)
once_then l k [] ys once more all are = more
once_then l k (x ∷ xs) ys once more all are = (but x xs once.0 all.0.0, once_then l k xs ys once.1 more all.1 are)
  where
    others : (x : Path) → IsTrue (is_pooled x) → (zs : List Path) → AllByRecursion (IsTarget k) zs → IsNot x zs
    others x pooled [] are = tt
    others x pooled (z ∷ zs) are = (target_not_pooled k x z pooled are.0, others x pooled zs are.1)

    but : (x : Path) (zs : List Path) → IsNot x zs → IsTrue (is_pooled x) → IsNot x (zs ++ ys)
    but x [] is pooled = others x pooled ys are
    but x (z ∷ zs) is pooled = (is.0, but x zs is.1 pooled)

targets_then : (l : Log) (xs ys : List Path) → AllByRecursion (IsNewPooled l) xs → AllByRecursion (IsTarget l) ys → AreTargets l (xs ++ ys)
targets_then l [] [] all are = tt
targets_then l [] (y ∷ ys) all are = (inl are.0, targets_then l [] ys tt are.1)
targets_then l (x ∷ xs) ys all are = (inr all.0, targets_then l xs ys all.1 are)

pub once_all : (l k : Log) (a : List Op) (ys : List Path) → PoolGrows l a → IsOnce ys → AllByRecursion (IsTarget k) ys → IsOnce (targets a ++ ys)
once_all l k a ys grows once are = once_then l k (targets a) ys grows.once once (targets_new l a grows.kinds) are

pub targets_all : (l : Log) (a : List Op) (ys : List Path) → PoolGrows l a → AllByRecursion (IsTarget l) ys → AreTargets l (targets a ++ ys)
targets_all l a ys grows are = targets_then l (targets a) ys (targets_new l a grows.kinds) are
