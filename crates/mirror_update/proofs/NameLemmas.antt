-- The folder of an architecture is a path.
use Rattle.std.proofs.Common.{◌≡◌, ◌≤◌, ℕ, true, false, not, ◌&&◌, List, [], ◌∷◌, length, sym, ap, ◌∙◌, arith, le-ltb, le-leb, leb-true}
use Rattle.std.specs.Prelude.{nat_le}
use Rattle.std.specs.List.{list_all, onto_first}
use Rattle.std.proofs.lemmas.Bool.{and_parts}
use Rattle.ap_text.specs.Names.{is_name, begins_alphanumeric, is_name_byte}
use Rattle.ap_text.specs.Paths.{is_long_segment, is_no_entry, is_path_byte, is_safe_path, is_segment, segments}
use Rattle.ap_text.proofs.JoinLemmas.{safe_name, segments_name}
use Rattle.mirror_update.specs.Wanted.{arch_folder}

pub name_short : (name : List ℕ) → is_name name ≡ true → length name ≤ 200
name_short name h =
    let begins = (and_parts (nat_le (length name) 200 && begins_alphanumeric name) (list_all is_name_byte name) h).0 in
    leb-true (length name) 200 (and_parts (nat_le (length name) 200) (begins_alphanumeric name) begins).0

-- behind a front without a slash
one_segment : (arch : List ℕ) → is_name arch ≡ true → segments (arch_folder arch) ≡ arch_folder arch ∷ []
one_segment arch h = ap (λ (ss : List (List ℕ)). onto_first 98 (onto_first 105 (onto_first 110 (onto_first 97 (onto_first 114 (onto_first 121 (onto_first 45 ss))))))) (segments_name arch h)

path_bytes : (arch : List ℕ) → is_name arch ≡ true → list_all is_path_byte arch ≡ true
path_bytes arch h =
    let all = (and_parts (nat_le (length arch) 1000) (list_all is_segment (segments arch)) (safe_name arch h)).1 in
    let one : (is_segment arch && true) ≡ true = ap (list_all is_segment) (sym (segments_name arch h)) ∙ all in
    let good = (and_parts (is_segment arch) true one).0 in
    (and_parts (not (is_long_segment arch) && not (is_no_entry arch)) (list_all is_path_byte arch) good).1

good_segment : (arch : List ℕ) → is_name arch ≡ true → is_segment (arch_folder arch) ≡ true
good_segment arch h =
    let short = name_short arch h in
    let long : is_long_segment (arch_folder arch) ≡ false = le-ltb 255 (length (arch_folder arch)) (omega (arith, short)) in
    (λ i. not (long i) && true && path_bytes arch h i)

pub arch_safe : (arch : List ℕ) → is_name arch ≡ true → is_safe_path (arch_folder arch) ≡ true
arch_safe arch h =
    let short = name_short arch h in
    let small : nat_le (length (arch_folder arch)) 1000 ≡ true = le-leb (length (arch_folder arch)) 1000 (omega (arith, short)) in
    let all : list_all is_segment (segments (arch_folder arch)) ≡ true = ap (list_all is_segment) (one_segment arch h) ∙ (λ i. good_segment arch h i && true) in
    (λ i. small i && all i)
