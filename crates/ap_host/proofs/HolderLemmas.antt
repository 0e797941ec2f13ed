-- Which paths may hold given bytes, operation by operation.
use Rattle.std.proofs.Common.{◌≡◌, ◌≢◌, ◌⊎◌, ◌↔◌, inl, inr, ℕ, zero, suc, ◌<◌, length, get_or, List, [], ◌∷◌, ◌++◌, Some, None, refl, sym, ◌∙◌, subst, arith}
use Rattle.ap_host.specs.declared.host.Op.{Op}
use Rattle.ap_host.specs.declared.host.Op.TheVariants.{Create, Append, Sync, Rename, Remove, Barrier, Say, Claim}
use Rattle.ap_host.specs.Disk.{Path, Content, Files, live_step, Log, Disk, step, disk_of}
use Rattle.ap_host.specs.Table.{Entries, files_of, IsOnce, SameFiles}
use Rattle.ap_host.specs.Names.{IsOneOf}
use Rattle.ap_host.specs.Mem.{IsTableOf}
use Rattle.ap_host.specs.Drawing.{HoldsAfter}
use Rattle.ap_host.proofs.DiskLemmas.{disk_of-step}
use Rattle.ap_host.proofs.TableLemmas.{path_tells, files_of-push}
use Rattle.ap_host.proofs.MemLemmas.{table_more}

-- one path more
pub one_of_push : (q p : Path) (xs : List Path) → IsOneOf q (xs ++ p ∷ []) ↔ ((q ≡ p) ⊎ IsOneOf q xs)
one_of_push q p [] = (λ h. h, λ h. h)
one_of_push q p (x ∷ xs) = (
  λ h. elim h [ inl is ↦ inr (inl is) | inr there ↦ elim ((one_of_push q p xs).0 there) [ inl is ↦ inl is | inr t ↦ inr (inr t) ] ],
  λ h. elim h [ inl is ↦ inr ((one_of_push q p xs).1 (inl is)) | inr there ↦ elim there [ inl is ↦ inl is | inr t ↦ inr ((one_of_push q p xs).1 (inr t)) ] ],
)

-- a path at a place
pub one_of_index : (q : Path) (xs : List Path) (i : ℕ) (x : Path) → i < length xs → x ≡ get_or xs i x → q ≡ x → IsOneOf q xs
one_of_index q [] i x lt is e = absurd (omega arith)
one_of_index q (y ∷ xs) zero x lt is e = inl (e ∙ is)
one_of_index q (y ∷ xs) (suc i) x lt is e = inr (one_of_index q xs i x (omega arith) is e)

-- an entry whose path is new
pub front_free : (xs ys : Entries) (e : List ℕ × List ℕ) → IsOnce (xs ++ e ∷ ys) → files_of xs e.0 ≡ None
front_free [] ys e o = refl
front_free (x ∷ xs) ys e o = free (front_free xs ys e o.1) (λ is. later xs ys x.0 o.0 (sym is))
  where
    later : (zs ys : Entries) (p : Path) → files_of (zs ++ e ∷ ys) p ≡ None → (p ≡ e.0) → ⊥
    later [] ys p n = grind (arith, path_tells)
    later (z ∷ zs) ys p n = let rest = later zs ys p in grind (arith, path_tells, rest)

    free : files_of xs e.0 ≡ None → (e.0 ≡ x.0 → ⊥) → files_of (x ∷ xs) e.0 ≡ None
    free n ne = grind (arith, path_tells)

-- which paths hold the bytes, one entry more
pub holders_more : (xs : Entries) (e : List ℕ × List ℕ) (bytes : List ℕ) (old new : List Path) → files_of xs e.0 ≡ None → e.1 ≡ bytes
    → ((q : Path) → IsOneOf q new ↔ ((q ≡ e.0) ⊎ IsOneOf q old)) → ((q : Path) → IsOneOf q old ↔ (files_of xs q ≡ Some bytes)) → (q : Path) → IsOneOf q new ↔ (files_of (xs ++ e ∷ []) q ≡ Some bytes)
holders_more xs e bytes old new free is each was q = (
  λ h. elim ((each q).0 h) [
    | inl here ↦ grind (arith, path_tells, files_of-push xs e.0 e.1 free q)
    | inr there ↦ let f = (was q).0 there in grind (arith, path_tells, files_of-push xs e.0 e.1 free q)
  ],
  λ f. (each q).1 (elim (path_tells q e.0) [
    | inl y ↦ inl y.1
    | inr n ↦ inr ((was q).1 (let g : files_of xs q ≡ Some bytes = grind (arith, files_of-push xs e.0 e.1 free q) in g))
  ]),
)

pub holders_same : (xs : Entries) (e : List ℕ × List ℕ) (bytes : List ℕ) (old : List Path) → files_of xs e.0 ≡ None → (e.1 ≡ bytes → ⊥)
    → ((q : Path) → IsOneOf q old ↔ (files_of xs q ≡ Some bytes)) → (q : Path) → IsOneOf q old ↔ (files_of (xs ++ e ∷ []) q ≡ Some bytes)
holders_same xs e bytes old free not was q = (
  λ h. let f = (was q).0 h in grind (arith, path_tells, files_of-push xs e.0 e.1 free q),
  λ f. (was q).1 (elim (path_tells q e.0) [
    | inl y ↦ let g : Some e.1 ≡ Some bytes = grind (arith, files_of-push xs e.0 e.1 free q) in absurd (not (cc))
    | inr n ↦ let g : files_of xs q ≡ Some bytes = grind (arith, files_of-push xs e.0 e.1 free q) in g
  ]),
)

-- all but one of the paths, one more
pub without_more : (xs : List Path) (x p : Path) (old new : List Path) → x ≢ p
    → ((q : Path) → IsOneOf q new ↔ ((q ≡ x) ⊎ IsOneOf q old)) → ((q : Path) → IsOneOf q old ↔ ((q ≢ p) × IsOneOf q xs)) → (q : Path) → IsOneOf q new ↔ ((q ≢ p) × IsOneOf q (xs ++ x ∷ []))
without_more xs x p old new ne each was q = (
  λ h. elim ((each q).0 h) [
    | inl here ↦ ((λ is. ne (sym here ∙ is)), (one_of_push q x xs).1 (inl here))
    | inr there ↦ (((was q).0 there).0, (one_of_push q x xs).1 (inr ((was q).0 there).1))
  ],
  λ h. (each q).1 (elim ((one_of_push q x xs).0 h.1) [ inl is ↦ inl is | inr t ↦ inr ((was q).1 (h.0, t)) ]),
)

pub without_same : (xs : List Path) (x p : Path) (old : List Path) → x ≡ p → ((q : Path) → IsOneOf q old ↔ ((q ≢ p) × IsOneOf q xs)) → (q : Path) → IsOneOf q old ↔ ((q ≢ p) × IsOneOf q (xs ++ x ∷ []))
without_same xs x p old is was q = (
  λ h. (((was q).0 h).0, (one_of_push q x xs).1 (inr ((was q).0 h).1)),
  λ h. (was q).1 (h.0, elim ((one_of_push q x xs).0 h.1) [ inl here ↦ absurd (h.0 (here ∙ is)) | inr t ↦ t ]),
)

-- the synced path is among them exactly where the file holds the bytes
pub resynced_yes : (x : Content) (bytes : List ℕ) (p : Path) (old mid new : List Path) → x ≡ Some bytes → ((q : Path) → IsOneOf q new ↔ ((q ≡ p) ⊎ IsOneOf q mid)) → ((q : Path) → IsOneOf q mid ↔ ((q ≢ p) × IsOneOf q old))
    → (q : Path) → IsOneOf q new ↔ (((q ≡ p) × (x ≡ Some bytes)) ⊎ ((q ≢ p) × IsOneOf q old))
resynced_yes x bytes p old mid new is each was q = (
  λ h. elim ((each q).0 h) [ inl e ↦ inl (e, is) | inr t ↦ inr ((was q).0 t) ],
  λ h. (each q).1 (elim h [ inl e ↦ inl e.0 | inr t ↦ inr ((was q).1 t) ]),
)

pub resynced_no : (x : Content) (bytes : List ℕ) (p : Path) (old mid : List Path) → (x ≡ Some bytes → ⊥) → ((q : Path) → IsOneOf q mid ↔ ((q ≢ p) × IsOneOf q old))
    → (q : Path) → IsOneOf q mid ↔ (((q ≡ p) × (x ≡ Some bytes)) ⊎ ((q ≢ p) × IsOneOf q old))
resynced_no x bytes p old mid not was q = (λ h. inr ((was q).0 h), λ h. (was q).1 (elim h [ inl e ↦ absurd (not e.1) | inr t ↦ t ]))

-- a rename of a path among them, or of another
pub renamed_yes : (a b : Path) (old new : List Path) → IsOneOf a old → ((q : Path) → IsOneOf q new ↔ ((q ≡ b) ⊎ IsOneOf q old)) → (q : Path) → IsOneOf q new ↔ (((q ≡ b) × IsOneOf a old) ⊎ IsOneOf q old)
renamed_yes a b old new has each q = (
  λ h. elim ((each q).0 h) [ inl e ↦ inl (e, has) | inr t ↦ inr t ],
  λ h. (each q).1 (elim h [ inl e ↦ inl e.0 | inr t ↦ inr t ]),
)

-- an operation, where the reads are those of the disk
pub holds_step : (d : Disk) (live : Files) (bytes : List ℕ) (held : List Path) → SameFiles live d.live → ((q : Path) → IsOneOf q held ↔ d.may q (Some bytes))
    → (op : Op) (q : Path) → HoldsAfter live bytes held op q ↔ (step d op).may q (Some bytes)
holds_step d live bytes held same was (Create p) q = (
  λ h. elim h [ inl is ↦ inl is | inr t ↦ inr ((was q).0 t) ],
  λ h. elim h [ inl is ↦ inl is | inr m ↦ inr ((was q).1 m) ],
)
holds_step d live bytes held same was (Append p more) q = (
  λ h. elim h [ inl is ↦ inl is | inr t ↦ inr ((was q).0 t) ],
  λ h. elim h [ inl is ↦ inl is | inr m ↦ inr ((was q).1 m) ],
)
holds_step d live bytes held same was (Sync p) q = (
  λ h. elim h [ inl is ↦ inl (is.0, inl (sym (sym (same p) ∙ is.1))) | inr t ↦ inr (t.0, (was q).0 t.1) ],
  λ h. elim h [
    | inl is ↦ elim is.1 [ inl live_is ↦ inl (is.0, same p ∙ sym live_is) | inr none ↦ let no : Some bytes ≡ None = none in absurd (cc) ]
    | inr m ↦ inr (m.0, (was q).1 m.1)
  ],
)
holds_step d live bytes held same was (Rename a b) q = (
  λ h. elim h [ inl is ↦ inr (inl (is.0, refl, (was a).0 is.1)) | inr t ↦ inl ((was q).0 t) ],
  λ h. elim h [
    | inl m ↦ inr ((was q).1 m)
    | inr (inl m) ↦ inl (m.0, (was a).1 m.2)
    | inr (inr m) ↦ let no : Some bytes ≡ None = m.1 in absurd (cc)
  ],
)
holds_step d live bytes held same was (Remove p) q = (
  λ h. inl ((was q).0 h),
  λ h. elim h [ inl m ↦ (was q).1 m | inr m ↦ let no : Some bytes ≡ None = m.1 in absurd (cc) ],
)
holds_step d live bytes held same was Barrier q = ((λ h. sym (sym (same q) ∙ h)), (λ h. same q ∙ sym h))
holds_step d live bytes held same was (Say more) q = ((was q).0, (was q).1)
holds_step d live bytes held same was (Claim got) q = ((was q).0, (was q).1)

-- what is known while the operations are gone through
pub record Holding (base table : Entries) (ops : List Op) (bytes : List ℕ) (held : List Path) : Type 0 where
  pub reads : IsTableOf base table ops
  pub each : (q : Path) → IsOneOf q held ↔ (disk_of (record { base = files_of base; ops = ops })).may q (Some bytes)

pub holding_more : (base old new : Entries) (ops : List Op) (op : Op) (bytes : List ℕ) (was now : List Path) → Holding base old ops bytes was → IsOnce new → SameFiles (files_of new) (live_step (files_of old) op)
    → ((q : Path) → IsOneOf q now ↔ HoldsAfter (files_of old) bytes was op q) → Holding base new (ops ++ op ∷ []) bytes now
holding_more base old new ops op bytes was now h once files each = record {
  reads = table_more base old new ops op h.reads once files;
  each = λ q.
      let l : Log = record { base = files_of base; ops = ops } in
      let s = holds_step (disk_of l) (files_of old) bytes was h.reads.live h.each op q in
      let e = disk_of-step op l in
      ((λ t. subst (λ (d : Disk). d.may q (Some bytes)) (sym e) (s.0 ((each q).0 t))), (λ m. (each q).1 (s.1 (subst (λ (d : Disk). d.may q (Some bytes)) e m))));
}
