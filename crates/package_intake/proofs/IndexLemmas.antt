-- The index of a folder, as it is read.
use Rattle.std.proofs.Common.{◌∷◌, map, not, codes, leb-true, subst, ◌≡◌, ℕ, ◌≤◌, Bool, true, false, cond, List, [], length, take, Option, Some, None, unwrap_or, Ok, Err, refl, sym, ap, ◌∙◌, arith, le-ltb, lt-ltb, Result, ◌<◌}
use Rattle.std.proofs.Math.Seq.{take-length}
use Rattle.std.specs.Prelude.{nat_le}
use Rattle.std.specs.Option.{option_map, option_or}
use Rattle.std.proofs.lemmas.Bool.{and_parts}
use Rattle.ap_text.specs.Paths.{is_safe_path}
use Rattle.control_stanza.specs.declared.stanza.Field.{Field}
use Rattle.control_stanza.specs.Fields.{value_of}
use Rattle.package_core.specs.declared.fault.PackageFault.TheVariants.{Missing, BadPath}
use Rattle.package_core.specs.Fields.{is_other, is_file_path, without_dots}
use Rattle.package_core.specs.Faults.{first_missing, bad_identity, bad_path, bad_said, fault_of}
use Rattle.package_core.specs.Card.{path_in}
use Rattle.index_text.specs.Index.{AreEntries, Lists, entry_of}
use Rattle.package_intake.specs.Index.{AreShort}
use Rattle.ap_host.specs.Disk.{Path, Content}
use Rattle.hash_pool.specs.Reading.{IsReadTo}
use Rattle.machine_state.specs.declared.limit.Limit.{Limit as LimitKind}
use Rattle.machine_state.specs.declared.limit.Limit.TheVariants.{Index}
use Rattle.machine_state.specs.declared.refusal.Refusal.{Refusal}
use Rattle.machine_state.specs.declared.refusal.Refusal.TheVariants.{InputMismatch, Limit}
use Rattle.std.specs.Fmt.{decimal}
use Rattle.digest_set.specs.declared.facts.Said.{Said}
use Rattle.digest_set.specs.declared.facts.What.TheVariants.{Size}
use Rattle.digest_set.specs.Facts.{digests_of}
use Rattle.digest_set.specs.Difference.{difference}
use Rattle.hash_pool.proofs.AnswerLemmas.{other_size}
use Rattle.machine_state.specs.Limits.{limit_number}
use Rattle.package_intake.specs.Index.{IndexEntry, bytes_within, or_differs, stated_bytes}

-- what is there and was read to its end
pub whole_within : (limit : LimitKind) (path : Path) (content : Content) (size : ℕ) (bytes : List ℕ) → Some size ≡ option_map length content → size ≤ limit_number limit → IsReadTo size content bytes → bytes_within limit path content ≡ Ok bytes
whole_within limit path None size bytes e le r = cc
whole_within limit path (Some file) size bytes e le r =
    let n : size ≡ length file = cc in
    let all : bytes ≡ file = r ∙ ap (λ k. take k file) n ∙ take-length file in
    ap (λ b. cond b (Err (Limit limit)) (Ok file)) (le-ltb (limit_number limit) (length file) (omega arith)) ∙ ap Ok (sym all)

-- a file that is told has as many bytes as its length says
pub read_full : (content : Content) (size : ℕ) (bytes : List ℕ) → Some size ≡ option_map length content → IsReadTo size content bytes → length bytes ≡ size
read_full None size bytes e r = cc
read_full (Some file) size bytes e r =
    let n : size ≡ length file = cc in
    let all : bytes ≡ file = r ∙ ap (λ k. take k file) n ∙ take-length file in
    ap length all ∙ sym n

-- ---- an index that is read as stated
abbrev pub sized : List ℕ → Bool → Result (List ℕ) Refusal → Result (List ℕ) Refusal
sized bytes b next = cond b (Err (Limit Index)) next

-- a stated size that is too large
pub stated_large : (path : Path) (said : Said) (content : Content) (size : ℕ) → Some size ≡ option_map length content → limit_number Index < said.size → stated_bytes path said content ≡ Err (Limit Index)
stated_large path said None size e lt = cc
stated_large path said (Some file) size e lt = ap (λ b. sized file b (or_differs path file (difference said (digests_of file)))) (lt-ltb (limit_number Index) said.size lt)

stated_small : (path : Path) (said : Said) (file : List ℕ) → said.size ≤ limit_number Index → stated_bytes path said (Some file) ≡ or_differs path file (difference said (digests_of file))
stated_small path said file le = ap (λ b. sized file b (or_differs path file (difference said (digests_of file)))) (le-ltb (limit_number Index) said.size le)

-- another size
pub stated_other : (path : Path) (said : Said) (content : Content) (size : ℕ) → Some size ≡ option_map length content → said.size ≤ limit_number Index → (size ≡ said.size → ⊥) → stated_bytes path said content ≡ Err (InputMismatch path Size (decimal said.size) (decimal size))
stated_other path said None size e le differ = cc
stated_other path said (Some file) size e le differ =
    let n : size ≡ length file = cc in
    let differs = other_size said (digests_of file) (λ is. differ (n ∙ sym is)) in
    stated_small path said file le ∙ ap (or_differs path file) differs ∙ ap (λ k. Err (InputMismatch path Size (decimal said.size) (decimal k))) (sym n)

-- what was read to its end
pub stated_read : (path : Path) (said : Said) (content : Content) (size : ℕ) (bytes : List ℕ) → Some size ≡ option_map length content → said.size ≤ limit_number Index → IsReadTo size content bytes → stated_bytes path said content ≡ or_differs path bytes (difference said (digests_of bytes))
stated_read path said None size bytes e le r = cc
stated_read path said (Some file) size bytes e le r =
    let n : size ≡ length file = cc in
    let all : bytes ≡ file = r ∙ ap (λ k. take k file) n ∙ take-length file in
    stated_small path said file le ∙ ap (λ (b : List ℕ). or_differs path b (difference said (digests_of b))) (sym all)

-- ---- the paths of an index
both_none : {X : Type 0} (a b : Option X) → option_or a b ≡ None → (a ≡ None) × (b ≡ None)
both_none None b h = (refl, h)
both_none (Some x) b h = cc

not_first : {X : Type 0} (b : Bool) (x : X) (o : Option X) → cond b (Some x) o ≡ None → (b ≡ false) × (o ≡ None)
not_first true x o h = cc
not_first false x o h = (refl, h)

-- a path of a binary stanza, which may be none
short_text : (o : Option (List ℕ)) → is_other (λ text. is_file_path (without_dots text)) o ≡ false → length (without_dots (unwrap_or o [])) ≤ 700
short_text None h = omega arith
short_text (Some text) h = good (is_file_path (without_dots text)) refl h
  where
    good : (b : Bool) → is_file_path (without_dots text) ≡ b → not b ≡ false → length (without_dots text) ≤ 700
    good true e g = leb-true (length (without_dots text)) 700 (and_parts (nat_le (length (without_dots text)) 700) (is_safe_path (without_dots text)) e).0
    good false e g = cc

short_path : (fields : List Field) → fault_of fields ≡ None → length (path_in fields) ≤ 700
unfolding fault_of bad_path
short_path fields h =
    let all = both_none (option_map Missing (first_missing fields)) _ h in
    let rest = both_none (bad_identity fields) _ all.1 in
    let last = both_none (bad_path fields) (bad_said fields) rest.1 in
    let p = not_first (is_other (λ text. is_file_path (without_dots text)) (value_of fields (codes "Filename"))) BadPath _ last.0 in
    short_text (value_of fields (codes "Filename")) p.0

short_entries : (stanzas : List (ℕ × List Field)) → AreEntries stanzas → AreShort (map entry_of stanzas)
short_entries [] h = tt
short_entries (s ∷ ss) h = (short_path s.1 h.0.binary, short_entries ss h.1)

pub listed_short : (text : List ℕ) (entries : List IndexEntry) → Lists text entries → AreShort entries
listed_short text entries l = subst AreShort (sym l.described) (short_entries l.stanzas l.are_entries)
