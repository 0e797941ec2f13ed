-- The live files are an image; and what is sure.
use Rattle.std.proofs.Common.{◌≡◌, inl, inr, ℕ, option_map, ◌++◌, List, [], ◌∷◌, Some, None, IsSome, refl, sym, ◌∙◌, ap, subst}
use Rattle.ap_host.specs.declared.host.Op.{Op}
use Rattle.ap_host.specs.declared.host.Op.TheVariants.{Create, Append, Sync, Rename, Remove, Barrier, Say, Claim}
use Rattle.ap_host.specs.Disk.{Path, Content, Files, with_file, moved, Log, live_of, Disk, step, may_step, after, settled, disk_of, IsImage, Image, IsSure, Images, Durable}
use Rattle.ap_host.specs.Changes.{SameExcept}
use Rattle.ap_host.specs.Legal.{LawOfLiveImage, LawOfUntouched, LawOfBarrier, LawOfAbsent}
use Rattle.ap_host.proofs.DiskLemmas.{one, two, same_path, with_file-same, with_file-other, disk_of-step, Throughout-end}
use Rattle.ap_host.proofs.ChangeLemmas.{after_same}

at_path : (f : Files) (p q : Path) (x : Content) → q ≡ p → with_file f p x q ≡ x
at_path f p q x is = ap (with_file f p x) is ∙ with_file-same f p x

renamed : (d : Disk) (a b q : Path) (y : Content) → d.may q (d.live q) → d.may a y → may_step d (Rename a b) q (moved d.live a b y q)
renamed d a b q None was from = inl was
renamed d a b q (Some c) was from = elim (same_path q b) [
  | one is t ↦
      let live = at_path (with_file d.live a None) b q (Some c) is in
      inr (inl (is, subst (λ (x : Content). IsSome x) (sym live) refl, subst (d.may a) (sym live) from))
  | two n f ↦ elim (same_path q a) [
    | one is t ↦ inr (inr (is, with_file-other (with_file d.live a None) b q (Some c) n ∙ at_path d.live a q None is))
    | two m g ↦ inl (subst (d.may q) (sym (with_file-other (with_file d.live a None) b q (Some c) n ∙ with_file-other d.live a q None m)) was)
  ]
]

step_image : (d : Disk) (op : Op) → IsImage d d.live → IsImage (step d op) (step d op).live
step_image d (Create p) was q = elim (same_path q p) [ one is t ↦ inl is | two n f ↦ inr (subst (d.may q) (sym (with_file-other d.live p q _ n)) (was q)) ]
step_image d (Append p bytes) was q = elim (same_path q p) [ one is t ↦ inl is | two n f ↦ inr (subst (d.may q) (sym (with_file-other d.live p q _ n)) (was q)) ]
step_image d (Sync p) was q = elim (same_path q p) [ one is t ↦ inl (is, inl (ap d.live is)) | two n f ↦ inr (n, was q) ]
step_image d (Rename a b) was q = renamed d a b q (d.live a) (was q) (was a)
step_image d (Remove p) was q = elim (same_path q p) [
  | one is t ↦ inr (is, at_path d.live p q None is)
  | two n f ↦ inl (subst (d.may q) (sym (with_file-other d.live p q None n)) (was q))
]
step_image d Barrier was q = refl
step_image d (Say bytes) was q = was q
step_image d (Claim got) was q = was q

after_image : (d : Disk) (ops : List Op) → IsImage d d.live → IsImage (after d ops) (after d ops).live
after_image d [] was = was
after_image d (op ∷ ops) was = after_image (step d op) ops (step_image d op was)

pub law_of_live_image : LawOfLiveImage
law_of_live_image log = after_image (settled log.base) log.ops (λ p. refl)

pub law_of_untouched : LawOfUntouched
law_of_untouched log ops p only sure x may =
    let same = Throughout-end (SameExcept (λ q. q ≡ p → ⊥) log) log ops (after_same (λ q. q ≡ p → ⊥) log ops only) in
    sure x (same.may p x (λ not. not refl) may) ∙ sym (same.live p (λ not. not refl))

pub law_of_barrier : LawOfBarrier
law_of_barrier log p x = subst (λ (d : Disk). d.may p x → x ≡ d.live p) (sym (disk_of-step Barrier log)) (λ m. m)

-- a value that a stop may leave at one path stands there in some image
pub image_at : (l : Log) (p : Path) (x : Content) → (disk_of l).may p x → (f : Files) × Image l f × (f p ≡ x)
image_at l p x may = (with_file (live_of l) p x, at, with_file-same (live_of l) p x)
  where
    at : Image l (with_file (live_of l) p x)
    at q = elim (same_path q p) [
      | one is t ↦ subst (λ (r : Path). (disk_of l).may r (with_file (live_of l) p x r)) (sym is) (subst ((disk_of l).may p) (sym (with_file-same (live_of l) p x)) may)
      | two n f ↦ subst ((disk_of l).may q) (sym (with_file-other (live_of l) p q x n)) (law_of_live_image l q)
    ]

-- where each image agrees with what reads give, the path is sure, and the other way round
pub sure_of_images : (l : Log) (p : Path) → Images l (λ f. f p ≡ live_of l p) → IsSure l p
sure_of_images l p all x may = let w = image_at l p x may in sym w.2 ∙ all w.0 w.1

pub durable_image : (l : Log) → Durable l → Images l (λ f. (p : Path) → f p ≡ live_of l p)
durable_image l sure f image p = sure p (f p) (image p)

pub law_of_absent : LawOfAbsent
law_of_absent log p none = (
  λ to q. ap (λ (d : Disk). d.live q) (disk_of-step (Rename p to) log) ∙ ap (λ (x : Content). moved (live_of log) p to x q) none,
  λ bytes q.
      ap (λ (d : Disk). d.live q) (disk_of-step (Append p bytes) log) ∙ ap (λ (x : Content). with_file (live_of log) p (option_map (λ (c : List ℕ). c ++ bytes) x) q) none
      ∙ elim (same_path q p) [
        | one is t ↦ at_path (live_of log) p q None is ∙ sym none ∙ ap (live_of log) (sym is)
        | two n f ↦ with_file-other (live_of log) p q None n
      ],
)
