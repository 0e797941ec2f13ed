-- How many bytes digests have.
use Rattle.std.proofs.Common.{ℕ, zero, suc, ◌*◌, List, [], ◌∷◌, ◌++◌, refl, arith, length-append}
use Rattle.std.specs.Prelude.{slice_index}
use Rattle.std.specs.Int.{to_be_bytes, to_le_bytes, w32}
use Rattle.sha1.specs.Sha1 as s1
use Rattle.md5.specs.Md5 as m5
use Rattle.hex.specs.Hex.{IsBytes}
use Rattle.package_core.specs.Whole.{IsDigest}

bytes-append : (xs ys : List ℕ) → IsBytes xs → IsBytes ys → IsBytes (xs ++ ys)
bytes-append [] ys a b i = b i
bytes-append (x ∷ xs) ys a b zero = a zero
bytes-append (x ∷ xs) ys a b (suc i) = bytes-append xs ys (λ k. a (suc k)) b i

no_bytes : IsBytes []
no_bytes zero = omega arith
no_bytes (suc i) = omega arith

be_bytes : (n : ℕ) → IsBytes (to_be_bytes w32 n)
be_bytes n zero = omega arith
be_bytes n (suc zero) = omega arith
be_bytes n (suc (suc zero)) = omega arith
be_bytes n (suc (suc (suc zero))) = omega arith
be_bytes n (suc (suc (suc (suc i)))) = no_bytes i

le_bytes : (n : ℕ) → IsBytes (to_le_bytes w32 n)
le_bytes n zero = omega arith
le_bytes n (suc zero) = omega arith
le_bytes n (suc (suc zero)) = omega arith
le_bytes n (suc (suc (suc zero))) = omega arith
le_bytes n (suc (suc (suc (suc i)))) = no_bytes i

of_sha1 : (h : List ℕ) (n : ℕ) → IsDigest (4 * n) (s1.digest_bytes h n)
unfolding s1.digest_bytes
of_sha1 h zero = record { size_is = refl; bytes_are = no_bytes }
of_sha1 h (suc n) =
    let more = of_sha1 h n in
    record {
      size_is = omega (arith, length-append (s1.digest_bytes h n) (to_be_bytes w32 (slice_index h n)), more.size_is);
      bytes_are = bytes-append (s1.digest_bytes h n) (to_be_bytes w32 (slice_index h n)) more.bytes_are (be_bytes (slice_index h n));
    }

of_md5 : (h : List ℕ) (n : ℕ) → IsDigest (4 * n) (m5.digest_bytes h n)
unfolding m5.digest_bytes
of_md5 h zero = record { size_is = refl; bytes_are = no_bytes }
of_md5 h (suc n) =
    let more = of_md5 h n in
    record {
      size_is = omega (arith, length-append (m5.digest_bytes h n) (to_le_bytes w32 (slice_index h n)), more.size_is);
      bytes_are = bytes-append (m5.digest_bytes h n) (to_le_bytes w32 (slice_index h n)) more.bytes_are (le_bytes (slice_index h n));
    }

pub sha1_digest : (bytes : List ℕ) → IsDigest 20 (s1.sha1 bytes)
unfolding s1.sha1
sha1_digest bytes = of_sha1 _ 5

pub md5_digest : (bytes : List ℕ) → IsDigest 16 (m5.md5 bytes)
unfolding m5.md5
md5_digest bytes = of_md5 _ 4
