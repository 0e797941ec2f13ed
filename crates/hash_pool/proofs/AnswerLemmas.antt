-- What is answered of bytes that are compared.
use Rattle.std.proofs.Common.{◌≡◌, ◌≢◌, ℕ, Bool, true, false, List, [], length, Option, Some, None, nat_eq, bytes_eq, if◌then◌else◌, Result, Ok, Err, IfOk, option_map, refl, sym, ◌∙◌, ap, subst}
use Rattle.std.specs.Fmt.{decimal}
use Rattle.std.specs.Option.{option_or}
use Rattle.std.proofs.lemmas.Slice.Eq.{bytes_eq-Decides}
use Rattle.std.proofs.lemmas.Bool.{ne_eqb}
use Rattle.sha2.specs.Sha256.{sha256}
use Rattle.hex.specs.Hex.{encode_lower}
use Rattle.digest_set.specs.declared.facts.Digests.{Digests}
use Rattle.digest_set.specs.declared.facts.Said.{Said}
use Rattle.digest_set.specs.declared.facts.What.{What}
use Rattle.digest_set.specs.declared.facts.What.TheVariants.{Size, Sha256}
use Rattle.digest_set.specs.Difference.{difference, otherwise}
use Rattle.digest_set.specs.Facts.{digests_of}
use Rattle.ap_host.specs.Disk.{Content}
use Rattle.hash_pool.specs.declared.fault.PoolFault.{PoolFault}
use Rattle.hash_pool.specs.declared.fault.PoolFault.TheVariants.{Mismatch}
use Rattle.hash_pool.specs.Answers.{IsRefused, IsAnswer, IsDifference, IsPut}
use Rattle.hash_pool.specs.Reading.{IsReadTo}
use Rattle.hash_pool.proofs.ReadLemmas.{read_whole}

abbrev Different : Type 0
Different = Option (What × List ℕ × List ℕ)

first_none : (a b : Different) → option_or a b ≡ None → a ≡ None
first_none None b h = refl
first_none (Some x) b h = h

second_none : (a b : Different) → option_or a b ≡ None → b ≡ None
second_none None b h = h
second_none (Some x) b h = absurd (cc)

alike : (s f : List ℕ) → otherwise bytes_eq encode_lower Sha256 (Some s) f ≡ None → s ≡ f
alike s f h = by_test (bytes_eq s f) refl h
  where
    by_test : (b : Bool) → bytes_eq s f ≡ b → if◌then◌else◌ {A = Different} b None (Some (Sha256, encode_lower s, encode_lower f)) ≡ None → s ≡ f
    by_test true is e = (bytes_eq-Decides s f).0 is
    by_test false is e = absurd (cc)

-- facts that don't differ have the said SHA-256
pub agree : (said : Said) (d : Digests) → difference said d ≡ None → said.sha256 ≡ d.sha256
unfolding difference
agree said d h = alike said.sha256 d.sha256 (first_none _ _ (second_none _ _ h))

first_some : (a b : Different) (x : What × List ℕ × List ℕ) → a ≡ Some x → option_or a b ≡ Some x
first_some None b x h = absurd (cc)
first_some (Some y) b x h = h

sized : (s f : ℕ) → s ≢ f → otherwise nat_eq decimal Size (Some s) f ≡ Some (Size, decimal s, decimal f)
sized s f ne = ap (λ (b : Bool). if◌then◌else◌ {A = Different} b None (Some (Size, decimal s, decimal f))) (ne_eqb s f ne)

-- another size is the first difference
pub other_size : (said : Said) (d : Digests) → said.size ≢ d.size → difference said d ≡ Some (Size, decimal said.size, decimal d.size)
unfolding difference
other_size said d ne = first_some _ _ _ (sized said.size d.size ne)

pub sha_of : (said : Said) (bytes : List ℕ) (d : Digests) → IsAnswer (Some bytes) said (Ok d) → sha256 bytes ≡ said.sha256
sha_of said bytes d a =
    let same : Some bytes ≡ Some a.0 = a.1 in
    let is : bytes ≡ a.0 = cc in
    ap sha256 is ∙ sym (agree said d a.3 ∙ ap (λ (x : Digests). x.sha256) a.2)

-- a file of another length than the stated one

facts_of_size : ℕ → Digests
facts_of_size n = record { size = n; md5 = []; sha1 = []; sha256 = [] }

pub differs_in_size : (said : Said) (n : ℕ) (fault : PoolFault) → n ≢ said.size → fault ≡ Mismatch Size (decimal said.size) (decimal n) → IsDifference said fault
unfolding facts_of_size
differs_in_size said n fault ne is =
    subst (IsDifference said) (sym is) (facts_of_size n, other_size said (facts_of_size n) (λ e. ne (sym e)))

pub refused_for_size : (file : Content) (said : Said) (n : ℕ) (fault : PoolFault) → Some n ≡ option_map length file → n ≢ said.size → fault ≡ Mismatch Size (decimal said.size) (decimal n) → IsRefused file said fault
refused_for_size None said n fault len ne is = absurd (cc)
refused_for_size (Some bytes) said n fault len ne is =
    let size : n ≡ length bytes = cc in
    subst (IsRefused (Some bytes) said) (sym is)
    (bytes, refl, other_size said (digests_of bytes) (λ e. ne (size ∙ sym e)) ∙ ap (λ k. Some (Size, decimal said.size, decimal k)) (sym size))

-- and one of the stated length, read whole
pub found_whole : (file : Content) (n : ℕ) (bytes : List ℕ) → Some n ≡ option_map length file → IsReadTo n file bytes → file ≡ Some bytes
found_whole None n bytes len read = absurd (cc)
found_whole (Some c) n bytes len read =
    let size : n ≡ length c = cc in
    ap (λ (x : List ℕ). Some x) (sym (read_whole (Some c) n bytes c refl size read))

-- the facts that are answered of bytes

pub same_of : (said : Said) (bytes : List ℕ) (d : Digests) → IsAnswer (Some bytes) said (Ok d) → (b : List ℕ) → b ≡ bytes → IsPut bytes said b
same_of said bytes d a b is =
    let some : Some bytes ≡ Some a.0 = a.1 in
    let own : bytes ≡ a.0 = cc in
    (is, subst (λ (x : Digests). difference said x ≡ None) (a.2 ∙ ap (λ (x : List ℕ). digests_of x) (sym (is ∙ own))) a.3)

pub facts_of : (said : Said) (bytes : List ℕ) (r : Result Digests PoolFault) → IsAnswer (Some bytes) said r → (b : List ℕ) → b ≡ bytes → IfOk r (λ d. d ≡ digests_of b)
facts_of said bytes (Ok d) a b is =
    let some : Some bytes ≡ Some a.0 = a.1 in
    let own : bytes ≡ a.0 = cc in
    a.2 ∙ ap (λ (x : List ℕ). digests_of x) (sym (is ∙ own))
facts_of said bytes (Err e) a b is = tt

-- bytes whose facts are answered don't differ from what is said
pub no_difference : (said : Said) (bytes : List ℕ) (d : Digests) → IsAnswer (Some bytes) said (Ok d) → difference said (digests_of bytes) ≡ None
no_difference said bytes d a = (same_of said bytes d a bytes refl).1
