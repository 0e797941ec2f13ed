-- The names of pool files.
use Rattle.std.proofs.Common.{◌≡◌, ℕ, zero, suc, ◌/◌, ◌%◌, ◌<◌, ◌≤◌, Bool, true, false, ◌&&◌, leb, eqb, nat_eq, ◌==◌, List, [], ◌∷◌, ◌++◌, length, drop, codes, Result, Ok, IsTrue, IsFalse, refl, sym, ◌∙◌, ap, subst, arith, length-append}
use Rattle.std.specs.Prelude.{slice_index}
use Rattle.std.specs.Int.{to_be_bytes, w32}
use Rattle.std.specs.List.{list_all, starts_with}
use Rattle.std.proofs.lemmas.Bool.{and_parts, and_from, le-leb, eqb-true}
use Rattle.sha2.specs.Sha256.{sha256, digest_bytes, final_hash, initial_hash_256}
use Rattle.sha2.proofs.Facts256.{length-sha256}
use Rattle.hex.specs.declared.error.FromHexError.{FromHexError}
use Rattle.hex.specs.Hex.{IsBytes, encode_with, encode_lower, lower_digits, decode_of}
use Rattle.hex.proofs.HexLemmas.{length-encode_with, decode_of-encode_lower}
use Rattle.ap_text.specs.Names.{is_alphanumeric, is_name_byte, begins_alphanumeric, is_name}
use Rattle.ap_text.specs.Paths.{below_folder, is_safe_path}
use Rattle.ap_text.proofs.JoinLemmas.{below_joined, safe_name}
use Rattle.ap_host.specs.Disk.{Path, live_of}
use Rattle.ap_host.proofs.LegalLemmas.{law_of_live_image}
use Rattle.stage_file.specs.Stage.{is_staged, stage_path}
use Rattle.hash_pool.specs.Names.{folder, is_pooled, pool_name, IsDigest, PoolNames}

-- a SHA-256 is 32 bytes

bytes-append : (xs ys : List ℕ) → IsBytes xs → IsBytes ys → IsBytes (xs ++ ys)
bytes-append [] ys a b i = b i
bytes-append (x ∷ xs) ys a b zero = a zero
bytes-append (x ∷ xs) ys a b (suc i) = bytes-append xs ys (λ k. a (suc k)) b i

no_bytes : IsBytes []
no_bytes zero = omega arith
no_bytes (suc i) = omega arith

word_bytes : (n : ℕ) → IsBytes (to_be_bytes w32 n)
word_bytes n zero = omega arith
word_bytes n (suc zero) = omega arith
word_bytes n (suc (suc zero)) = omega arith
word_bytes n (suc (suc (suc zero))) = omega arith
word_bytes n (suc (suc (suc (suc i)))) = no_bytes i

all_bytes : (h : List ℕ) (n : ℕ) → IsBytes (digest_bytes h n)
unfolding digest_bytes
all_bytes h zero = no_bytes
all_bytes h (suc n) = bytes-append (digest_bytes h n) (to_be_bytes w32 (slice_index h n)) (all_bytes h n) (word_bytes (slice_index h n))

sha256_bytes : (m : List ℕ) → IsBytes (sha256 m)
unfolding sha256
sha256_bytes m = all_bytes (final_hash initial_hash_256 m) 8

pub is_digest : (m : List ℕ) → IsDigest (sha256 m)
is_digest m = record { bytes = sha256_bytes m; size = length-sha256 m }

-- its digits are a name

digit_at : (n : ℕ) → n < 16 → is_alphanumeric (slice_index lower_digits n) ≡ true
digit_at n lt = at n lower_digits refl lt
  where
    at : (k : ℕ) (xs : List ℕ) → list_all is_alphanumeric xs ≡ true → k < length xs → is_alphanumeric (slice_index xs k) ≡ true
    at k [] h l = absurd (omega arith)
    at zero (x ∷ xs) h l = (and_parts (is_alphanumeric x) (list_all is_alphanumeric xs) h).0
    at (suc k) (x ∷ xs) h l = at k xs (and_parts (is_alphanumeric x) (list_all is_alphanumeric xs) h).1 (omega arith)

name_byte : (b : ℕ) → is_alphanumeric b ≡ true → is_name_byte b ≡ true
name_byte b h = grind arith

all_names : (xs : List ℕ) → IsBytes xs → list_all is_name_byte (encode_with lower_digits xs) ≡ true
unfolding encode_with
all_names [] h = refl
all_names (b ∷ rest) h =
    let fits : b < 256 = h 0 in
    and_from _ _ (name_byte (slice_index lower_digits (b / 16)) (digit_at (b / 16) (omega (arith, fits))))
    (and_from _ _ (name_byte (slice_index lower_digits (b % 16)) (digit_at (b % 16) (omega arith))) (all_names rest (λ k. h (suc k))))

begins : (xs : List ℕ) → IsBytes xs → 0 < length xs → begins_alphanumeric (encode_with lower_digits xs) ≡ true
unfolding encode_with
begins [] h some = absurd (omega arith)
begins (b ∷ rest) h some = let fits : b < 256 = h 0 in digit_at (b / 16) (omega (arith, fits))

digits_name : (d : List ℕ) → IsDigest d → is_name (encode_lower d) ≡ true
digits_name d is =
    let size = length-encode_with lower_digits d in
    and_from (leb (length (encode_lower d)) 200 && begins_alphanumeric (encode_lower d)) (list_all is_name_byte (encode_lower d))
    (and_from (leb (length (encode_lower d)) 200) (begins_alphanumeric (encode_lower d)) (le-leb (length (encode_lower d)) 200 (omega (arith, size, is.size))) (begins d is.bytes (omega (arith, is.size))))
    (all_names d is.bytes)

pub digits_safe : (d : List ℕ) → IsDigest d → is_safe_path (encode_lower d) ≡ true
digits_safe d is = safe_name (encode_lower d) (digits_name d is)

-- as the path that the program writes
pub name_is : (d : List ℕ) → below_folder folder (encode_lower d) ≡ pool_name d
unfolding pool_name
name_is d = refl

pub name_short : (d : List ℕ) → IsDigest d → length (below_folder folder (encode_lower d)) ≤ 1000
name_short d is =
    let size = length-encode_with lower_digits d in
    omega (arith, length-append folder (47 ∷ encode_lower d), size, is.size)

-- where it lies

pub name_pooled : (d : List ℕ) → is_pooled (pool_name d) ≡ true
unfolding pool_name
name_pooled d = below_joined folder (encode_lower d)

first_of_folder : (b : ℕ) (bs : List ℕ) → is_pooled (b ∷ bs) ≡ true → b ≡ 112
first_of_folder b bs h =
    let front : starts_with nat_eq (b ∷ bs) folder ≡ true = (and_parts (starts_with nat_eq (b ∷ bs) folder) (slice_index (b ∷ bs) (length folder) == 47) h).0 in
    sym (eqb-true 112 b (and_parts (eqb 112 b) (starts_with nat_eq bs (codes "ool")) front).0)

pub pooled_not_staged : (p : Path) → IsTrue (is_pooled p) → IsFalse (is_staged p)
pooled_not_staged [] h = absurd (let no : false ≡ true = h in cc)
pooled_not_staged (b ∷ bs) h = subst (λ (c : ℕ). is_staged (c ∷ bs) ≡ false) (sym (first_of_folder b bs h)) refl

pub name_not_staged : (d : List ℕ) → IsFalse (is_staged (pool_name d))
name_not_staged d = pooled_not_staged (pool_name d) (name_pooled d)

pub not_both : (b : Bool) → IsTrue b → IsFalse b → ⊥
not_both true t f = absurd (let no : true ≡ false = f in cc)
not_both false t f = absurd (let no : false ≡ true = t in cc)

pub staged_path : (n : ℕ) → IsTrue (is_staged (stage_path n))
staged_path n = refl

pub not_stage_path : (n : ℕ) (p : Path) → IsFalse (is_staged p) → p ≡ stage_path n → ⊥
not_stage_path n p out is = not_both (is_staged p) (subst (λ (q : Path). IsTrue (is_staged q)) (sym is) (staged_path n)) out

-- names of different digests differ

pub name_one : (a b : List ℕ) → IsDigest a → IsDigest b → pool_name a ≡ pool_name b → a ≡ b
unfolding pool_name
name_one a b da db e =
    let same : encode_lower a ≡ encode_lower b = ap (λ (p : List ℕ). drop 5 p) e in
    let ok : List ℕ → Result (List ℕ) FromHexError = λ x. Ok x in
    let both : ok a ≡ ok b = sym (decode_of-encode_lower a da.bytes) ∙ ap decode_of same ∙ decode_of-encode_lower b db.bytes in
    cc

pub law_of_pool_names : PoolNames
law_of_pool_names = record {
  digest = is_digest;
  below = name_pooled;
  one = name_one;
  found = λ f d bytes is named at. name_one (sha256 bytes) d (is_digest bytes) is (sym (named (pool_name d) bytes (name_pooled d) at));
  live = λ l named. named (live_of l) (law_of_live_image l);
}
