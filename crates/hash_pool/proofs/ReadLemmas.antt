-- Files read piece by piece.
use Rattle.std.proofs.Common.{◌≡◌, inl, inr, ℕ, ◌+◌, ◌-◌, ◌<◌, ◌≤◌, min, List, [], ◌++◌, length, take, drop, take-take, Some, unwrap_or, sym, ◌∙◌, ap, arith, length-append, length-drop}
use Rattle.std.proofs.Math.Seq.{take-add}
use Rattle.std.proofs.lemmas.List.{length-take-le, take_all}
use Rattle.std.proofs.lemmas.Bool.{cases_lt}
use Rattle.ap_host.specs.Disk.{Content}
use Rattle.ap_host.specs.Calls.{Reads}
use Rattle.hash_pool.specs.Reading.{IsReadTo, IsReadSoFar, ReadsOn}

pub reads_on : (content : Content) (before out now : List ℕ) (given left n : ℕ) → Reads content (length before) out given → 0 < length out → given ≤ length out → n ≡ min given left → 0 < left → now ≡ before ++ take n out → ReadsOn content before now n
reads_on content before out now given left n reads some fits least more is so_far = (
  record {
    first = is ∙ ap (λ (t : List ℕ). t ++ take n out) so_far.first ∙ ap (λ (t : List ℕ). take at c ++ t) part ∙ sym (take-add at n c) ∙ ap (λ k. take k c) (sym size);
    within = omega (arith, size, behind, reads.within, so_far.within, least);
  },
  λ none. elim (cases_lt at (length c)) [ inl lt ↦ absurd (let one = reads.some some lt in omega (arith, one, none, least, more)) | inr ge ↦ ge ],
)
  where
    at : ℕ
    at = length before

    c : List ℕ
    c = unwrap_or content []

    size : length now ≡ at + n
    size = ap (λ (t : List ℕ). length t) is ∙ length-append before (take n out) ∙ ap (λ k. at + k) (length-take-le n out (omega (arith, least, fits)))

    behind : length (drop at c) ≡ length c - at
    behind = length-drop at c

    part : take n out ≡ take n (drop at c)
    part = sym (take-take n given out (omega (arith, least))) ∙ ap (λ (t : List ℕ). take n t) reads.bytes ∙ take-take n given (drop at c) (omega (arith, least))

-- the reading ends at the place that was asked for, or before it at the file's end
pub read_to : (upto : ℕ) (content : Content) (bytes : List ℕ) → IsReadSoFar content bytes → length bytes ≤ upto → upto ≤ length bytes → IsReadTo upto content bytes
read_to upto content bytes so_far le ge =
    let same : length bytes ≡ upto = omega (arith, le, ge) in
    so_far.first ∙ ap (λ k. take k (unwrap_or content [])) same

pub read_out : (upto : ℕ) (content : Content) (bytes : List ℕ) → IsReadSoFar content bytes → length bytes ≤ upto → length (unwrap_or content []) ≤ length bytes → IsReadTo upto content bytes
read_out upto content bytes so_far le ended =
    so_far.first ∙ take_all (length bytes) (unwrap_or content []) ended ∙ sym (take_all upto (unwrap_or content []) (omega (arith, le, ended)))

-- a file that is read to its length is read whole
pub read_whole : (content : Content) (len : ℕ) (bytes c : List ℕ) → content ≡ Some c → len ≡ length c → IsReadTo len content bytes → bytes ≡ c
read_whole content len bytes c is size read =
    read ∙ ap (λ (x : Content). take len (unwrap_or x [])) is ∙ take_all len c (omega (arith, size))
