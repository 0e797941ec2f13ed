-- What comes of a package whose file has the stated facts.
use Rattle.std.proofs.Common.{◌≡◌, inl, inr, ℕ, ◌≤◌, ◌<◌, ◌^◌, Bool, true, false, cond, List, [], ◌∷◌, ◌++◌, Option, Some, None, is_some, unwrap_or, Result, Ok, Err, refl, sym, ap, ◌∙◌, subst, nat_eq, eqb-true, find, Equal, lt-ltb, le-ltb}
use Rattle.std.specs.Option.{IfSome, option_or}
use Rattle.std.specs.Ordering.{ordering_reverse}
use Rattle.std.specs.List.{AllByRecursion}
use Rattle.std.specs.Str.{bytes_eq}
use Rattle.std.specs.Fmt.{decimal}
use Rattle.std.proofs.lemmas.Bool.{and_parts}
use Rattle.hex.specs.Hex.{encode_lower}
use Rattle.ap_host.specs.Disk.{Path, Files}
use Rattle.digest_set.specs.declared.facts.Digests.{Digests}
use Rattle.digest_set.specs.declared.facts.Said.{Said}
use Rattle.digest_set.specs.declared.facts.What.{What}
use Rattle.digest_set.specs.declared.facts.What.TheVariants.{Size, Sha256}
use Rattle.digest_set.specs.Facts.{digests_of}
use Rattle.digest_set.specs.Difference.{difference, otherwise}
use Rattle.package_core.specs.Card.{Card, IsPackage, completed}
use Rattle.package_core.specs.Order.{package_cmp}
use Rattle.package_core.specs.Whole.{IsDigest, IsSaid, IsWhole}
use Rattle.package_core.proofs.PackageLemmas.{eq_bytes}
use Rattle.package_core.proofs.OrderLaws.{package_total, packages_equal}
use Rattle.package_list.specs.Sorted.{equal_of}
use Rattle.machine_state.specs.declared.limit.Limit.TheVariants.{File}
use Rattle.machine_state.specs.declared.refusal.Refusal.{Refusal}
use Rattle.machine_state.specs.declared.refusal.Refusal.TheVariants.{Limit}
use Rattle.machine_state.specs.Limits.{limit_number}
use Rattle.machine_state.specs.State.{IsCatalogue}
use Rattle.package_intake.specs.Steps.{and_then}
use Rattle.package_intake.specs.Taking.{facts_of, known_of, of_known_or_file, standing, taken_file, each_taken}
use Rattle.machine_state.specs.declared.arrived.UpdateFault.{UpdateFault}
use Rattle.machine_state.specs.declared.arrived.UpdateFault.TheVariants as faults
use Rattle.package_intake.specs.Steps.{FaultGives}
use Rattle.package_intake.specs.Faults.{Tells}
use Rattle.package_intake.specs.Taking.{IsTakenIn, AreTakenIn}
use Rattle.package_intake.specs.Inside.{IsCompleted, IfWhole}
use Rattle.std.proofs.lemmas.Cmp.{tied_itself}
use Rattle.package_intake.proofs.ListLemmas.{each_of, found_holds, found_itself, found_equal, AreEqual}
use Rattle.package_intake.proofs.DigestLemmas.{sha1_digest, md5_digest}

-- ---- what doesn't differ
both_none : {X : Type 0} (a b : Option X) → option_or a b ≡ None → (a ≡ None) × (b ≡ None)
both_none None b h = (refl, h)
both_none (Some x) b h = cc

abbrev picked : {Y : Type 0} → Bool → Y → Option Y
picked b y = cond b None (Some y)

agrees : {X : Type 0} (same : X → X → Bool) (text : X → List ℕ) (what : What) (s f : X) → otherwise same text what (Some s) f ≡ None → same s f ≡ true
agrees same text what s f h = let t : What × List ℕ × List ℕ = (what, text s, text f) in by_test t (same s f) h
  where
    by_test : (t : What × List ℕ × List ℕ) (b : Bool) → picked b t ≡ None → b ≡ true
    by_test t true h = refl
    by_test t false h = cc

pub record Agrees (said : Said) (found : Digests) : Type 0 where
  pub size : said.size ≡ found.size
  pub sha256 : said.sha256 ≡ found.sha256

pub no_difference : (said : Said) (found : Digests) → difference said found ≡ None → Agrees said found
unfolding difference
no_difference said found h =
    let a = both_none (otherwise nat_eq decimal Size (Some said.size) found.size) _ h in
    let b = both_none (otherwise bytes_eq encode_lower Sha256 (Some said.sha256) found.sha256) _ a.1 in
    record { size = eqb-true said.size found.size (agrees nat_eq decimal Size said.size found.size a.0); sha256 = eq_bytes said.sha256 found.sha256 (agrees bytes_eq encode_lower Sha256 said.sha256 found.sha256 b.0) }

-- ---- facts
-- digests of the right sizes
pub record AreDigests (found : Digests) : Type 0 where
  pub sha1 : IsDigest 20 found.sha1
  pub md5 : IsDigest 16 found.md5

pub of_bytes : (bytes : List ℕ) → AreDigests (digests_of bytes)
of_bytes bytes = record { sha1 = sha1_digest bytes; md5 = md5_digest bytes }

there : (P : List ℕ → Type 0) (o : Option (List ℕ)) → is_some o ≡ true → IfSome o P → P (unwrap_or o [])
there P None h p = cc
there P (Some x) h p = p

pub of_card : (q : Card) → IsWhole q → AreDigests (facts_of q)
of_card q w =
    let parts = and_parts (is_some q.said.sha1) (is_some q.said.md5) w.complete in
    record { sha1 = there (IsDigest 20) q.said.sha1 parts.0 w.said.sha1; md5 = there (IsDigest 16) q.said.md5 parts.1 w.said.md5 }

-- ---- the completed package
pub completed_whole : (p : Card) (found : Digests) → IsPackage p → IsSaid p.said → AreDigests found → difference p.said found ≡ None → IsWhole (completed p found)
completed_whole p found d s f h =
    let a = no_difference p.said found h in
    record {
      described = record { stanza = d.stanza; own = d.own; name = d.name; name_is = d.name_is; version = d.version; version_is = d.version_is; arch = d.arch; arch_is = d.arch_is; source = d.source; file_is = d.file_is; one_segment = d.one_segment };
      said = record { size = subst (λ n. n < 2 ^ 64) a.size s.size; sha256 = subst (IsDigest 32) a.sha256 s.sha256; sha1 = f.sha1; md5 = f.md5 };
      complete = refl;
    }

pub completed_same : (p : Card) (found : Digests) → difference p.said found ≡ None → package_cmp p (completed p found) ≡ Equal
completed_same p found h =
    packages_equal p (completed p found) (record { triple = record { name = refl; version = refl; arch = refl }; stanza = refl; file = refl; sha256 = (no_difference p.said found h).sha256 })

-- ---- the package as it stands
pub standing_taken : (known : List Card) (p : Card) (found : Digests) → IsCatalogue known → IsPackage p → IsSaid p.said → AreDigests found → difference p.said found ≡ None → p.said.size ≤ limit_number File → IsTakenIn known p (standing known (completed p found))
standing_taken known p found c d s f h small = by_known (equal_of package_cmp known (completed p found)) refl
  where
    by_known : (o : Option Card) → equal_of package_cmp known (completed p found) ≡ o → IsTakenIn known p (unwrap_or o (completed p found))
    by_known None e = record {
      same = completed_same p found h;
      stands = inr e;
      whole = completed_whole p found d s f h;
      small = subst (λ n. n ≤ limit_number File) (no_difference p.said found h).size small;
    }
    by_known (Some q) e = record {
      same = package_total.congr p (completed p found) q (completed_same p found h) ∙ (package_total.antisymm (completed p found) q ∙ ap ordering_reverse (found_equal package_total known (completed p found) q e));
      stands = inl (found_itself package_total known (completed p found) q e);
      whole = found_holds package_total IsWhole known (completed p found) q (each_of IsWhole known c.packages) e;
      small = found_holds package_total (λ x. x.said.size ≤ limit_number File) known (completed p found) q (each_of (λ (x : Card). x.said.size ≤ limit_number File) known c.files) e;
    }

-- ---- one package, step by step
pub taken_large : (files : Files) (known : List Card) (path : Path) (p : Card) → limit_number File < p.said.size → taken_file files known path p ≡ Err (Limit File)
unfolding taken_file
taken_large files known path p h = ap (λ b. cond b (Err (Limit File)) (and_then (of_known_or_file path p (known_of known p.said.sha256) (files path)) (λ m. Ok (standing known m)))) (lt-ltb (limit_number File) p.said.size h)

small_is : (files : Files) (known : List Card) (path : Path) (p : Card) → p.said.size ≤ limit_number File → taken_file files known path p ≡ and_then (of_known_or_file path p (known_of known p.said.sha256) (files path)) (λ m. Ok (standing known m))
unfolding taken_file
small_is files known path p h = ap (λ b. cond b (Err (Limit File)) (and_then (of_known_or_file path p (known_of known p.said.sha256) (files path)) (λ m. Ok (standing known m)))) (le-ltb (limit_number File) p.said.size h)

pub taken_fault : (files : Files) (known : List Card) (path : Path) (p : Card) (o : Option Card) (fault : UpdateFault) → o ≡ known_of known p.said.sha256 → p.said.size ≤ limit_number File → FaultGives fault (of_known_or_file path p o (files path)) → FaultGives fault (taken_file files known path p)
taken_fault files known path p o faults.HostFault e h g = tt
taken_fault files known path p o faults.InboxFault e h g = tt
taken_fault files known path p o faults.OutOfMemory e h g = tt
taken_fault files known path p o (faults.Refused refusal) e h g =
    small_is files known path p h ∙ ap (λ r. and_then r (λ m. Ok (standing known m))) (ap (λ x. of_known_or_file path p x (files path)) (sym e) ∙ g)

pub taken_ok : (files : Files) (known : List Card) (path : Path) (p : Card) (o : Option Card) (made q : Card) → o ≡ known_of known p.said.sha256 → p.said.size ≤ limit_number File → of_known_or_file path p o (files path) ≡ Ok made → q ≡ standing known made → taken_file files known path p ≡ Ok q
taken_ok files known path p o made q e h g s =
    small_is files known path p h ∙ ap (λ r. and_then r (λ m. Ok (standing known m))) (ap (λ x. of_known_or_file path p x (files path)) (sym e) ∙ g) ∙ ap Ok (sym s)

pub find_holds : {X : Type 0} (P : X → Type 0) (test : X → Bool) (xs : List X) (x : X) → AllByRecursion P xs → find test xs ≡ Some x → P x
find_holds P test [] x h e = cc
find_holds P test (y ∷ ys) x h e = by_test (test y) e (find_holds P test ys x h.1)
  where
    by_test : (b : Bool) → cond b (Some y) (find test ys) ≡ Some x → (find test ys ≡ Some x → P x) → P x
    by_test true g more = let s : y ≡ x = cc in subst P s h.0
    by_test false g more = more g

pub where_whole : (P : Type 0) (known : List Card) (sha256 : List ℕ) (o : Option Card) → IsCatalogue known → o ≡ known_of known sha256 → IfWhole o P → P
where_whole P known sha256 None c e h = h
where_whole P known sha256 (Some q) c e h = h (find_holds IsWhole (λ x. bytes_eq x.said.sha256 sha256) known q (each_of IsWhole known c.packages) (sym e))

pub tells_gives : {Y : Type 0} (fault : UpdateFault) (refusal : Refusal) (wanted : Result Y Refusal) → Tells fault refusal → wanted ≡ Err refusal → FaultGives fault wanted
tells_gives (faults.Refused told) refusal wanted t e = e ∙ ap Err (sym t)
tells_gives faults.OutOfMemory refusal wanted t e = tt
tells_gives faults.HostFault refusal wanted t e = tt
tells_gives faults.InboxFault refusal wanted t e = tt

pub completed_taken : (known : List Card) (p made q : Card) → IsCatalogue known → IsPackage p → IsSaid p.said → p.said.size ≤ limit_number File → IsCompleted p made → q ≡ standing known made → IsTakenIn known p q
completed_taken known p made q c d s small m e =
    subst (IsTakenIn known p) (sym (e ∙ ap (standing known) m.is)) (standing_taken known p m.found c d s (record { sha1 = m.sha1; md5 = m.md5 }) m.agrees small)

-- ---- all packages in turn
and_then_on : {X Y : Type 0} (r : Result X Refusal) (f : X → Result Y Refusal) (y : Y) → and_then r f ≡ Ok y → (x : X) × (r ≡ Ok x) × (f x ≡ Ok y)
and_then_on (Ok x) f y h = (x, refl, h)
and_then_on (Err e) f y h = cc

pub went_on : {X Y : Type 0} (r : Result X Refusal) (f : X → Result Y Refusal) (y : Y) → and_then r f ≡ Ok y → (x : X) × (r ≡ Ok x) × (f x ≡ Ok y)
went_on = and_then_on

pub each_more : (take : Card → Result Card Refusal) (ps qs : List Card) (p q : Card) → each_taken take ps ≡ Ok qs → take p ≡ Ok q → each_taken take (ps ++ p ∷ []) ≡ Ok (qs ++ q ∷ [])
each_more take [] qs p q h e =
    let none : [] ≡ qs = cc in
    ap (λ r. and_then r (λ x. and_then (Ok []) (λ xs. Ok (x ∷ xs)))) e ∙ ap (λ l. Ok (l ++ q ∷ [])) none
each_more take (x ∷ xs) qs p q h e =
    let first = and_then_on (take x) (λ y. and_then (each_taken take xs) (λ ys. Ok (y ∷ ys))) qs h in
    let rest = and_then_on (each_taken take xs) (λ ys. Ok (first.0 ∷ ys)) qs first.2 in
    let is : first.0 ∷ rest.0 ≡ qs = let same = rest.2 in cc in
    let more = each_more take xs rest.0 p q rest.1 e in
    ap (λ r. and_then r (λ y. and_then (each_taken take (xs ++ p ∷ [])) (λ ys. Ok (y ∷ ys)))) first.1
    ∙ ap (λ r. and_then r (λ ys. Ok (first.0 ∷ ys))) more ∙ ap (λ l. Ok (l ++ q ∷ [])) is

pub each_stops : (take : Card → Result Card Refusal) (ps qs : List Card) (p : Card) (rest : List Card) (r : Refusal) → each_taken take ps ≡ Ok qs → take p ≡ Err r → each_taken take (ps ++ p ∷ rest) ≡ Err r
each_stops take [] qs p rest r h e = ap (λ w. and_then w (λ x. and_then (each_taken take rest) (λ xs. Ok (x ∷ xs)))) e
each_stops take (x ∷ xs) qs p rest r h e =
    let first = and_then_on (take x) (λ y. and_then (each_taken take xs) (λ ys. Ok (y ∷ ys))) qs h in
    let behind = and_then_on (each_taken take xs) (λ ys. Ok (first.0 ∷ ys)) qs first.2 in
    let more = each_stops take xs behind.0 p rest r behind.1 e in
    ap (λ w. and_then w (λ y. and_then (each_taken take (xs ++ p ∷ rest)) (λ ys. Ok (y ∷ ys)))) first.1
    ∙ ap (λ w. and_then w (λ ys. Ok (first.0 ∷ ys))) more

pub each_fault : (take : Card → Result Card Refusal) (ps qs : List Card) (p : Card) (rest : List Card) (fault : UpdateFault) → each_taken take ps ≡ Ok qs → FaultGives fault (take p) → FaultGives fault (each_taken take (ps ++ p ∷ rest))
each_fault take ps qs p rest faults.HostFault h e = tt
each_fault take ps qs p rest faults.InboxFault h e = tt
each_fault take ps qs p rest faults.OutOfMemory h e = tt
each_fault take ps qs p rest (faults.Refused r) h e = each_stops take ps qs p rest r h e

pub taken_more : (known ps qs : List Card) (p q : Card) → AreTakenIn known ps qs → IsTakenIn known p q → AreTakenIn known (ps ++ p ∷ []) (qs ++ q ∷ [])
taken_more known [] [] p q h t = (t, tt)
taken_more known [] (y ∷ ys) p q h t = absurd h
taken_more known (x ∷ xs) [] p q h t = absurd h
taken_more known (x ∷ xs) (y ∷ ys) p q h t = (h.0, taken_more known xs ys p q h.1 t)

pub equal_more : (ps qs : List Card) (p q : Card) → AreEqual package_total ps qs → package_cmp p q ≡ Equal → AreEqual package_total (ps ++ p ∷ []) (qs ++ q ∷ [])
equal_more [] [] p q h t = (t, tt)
equal_more [] (y ∷ ys) p q h t = absurd h
equal_more (x ∷ xs) [] p q h t = absurd h
equal_more (x ∷ xs) (y ∷ ys) p q h t = (h.0, equal_more xs ys p q h.1 t)

-- the known package that stands is equal
pub standing_same : (known : List Card) (p : Card) → package_cmp p (standing known p) ≡ Equal
standing_same known p = by_known (equal_of package_cmp known p) refl
  where
    by_known : (o : Option Card) → equal_of package_cmp known p ≡ o → package_cmp p (unwrap_or o p) ≡ Equal
    by_known None e = tied_itself package_total p
    by_known (Some q) e = package_total.antisymm p q ∙ ap ordering_reverse (found_equal package_total known p q e)
