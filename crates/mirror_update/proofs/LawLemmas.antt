-- What arrives of an archive fits, and what is refused is refused for a step of an arrival.
use Rattle.std.proofs.Common.{◌≡◌, ℕ, Bool, true, false, cond, List, [], ◌∷◌, length, Option, Some, None, IfErr, Result, Ok, Err, codes, refl, sym, ap, ◌∙◌, subst, nat_lt, ltb-false, find}
use Rattle.std.specs.List.{AllByRecursion, list_all}
use Rattle.std.specs.Option.{option_map}
use Rattle.std.specs.Prelude.{unwrap_or}
use Rattle.std.specs.Result.{MatchResult}
use Rattle.std.specs.Str.{IsUtf8, bytes_eq, is_utf8}
use Rattle.std.proofs.lemmas.Bool.{and_parts}
use Rattle.std.proofs.lemmas.Str.{IsUtf8-from_is_utf8, IsUtf8-nil}
use Rattle.ap_text.specs.Paths.{below_folder}
use Rattle.ap_host.specs.Disk.{Path, Content, Files}
use Rattle.control_stanza.specs.declared.read.TheConstants.{MOST_STANZA_BYTES}
use Rattle.control_stanza.specs.declared.stanza.Field.{Field}
use Rattle.control_stanza.specs.Fields.{are_distinct, is_field, is_stanza, same_name, value_of}
use Rattle.control_stanza.specs.Lines.{lines_of}
use Rattle.digest_set.specs.declared.facts.Digests.{Digests}
use Rattle.digest_set.specs.declared.facts.What.{What}
use Rattle.digest_set.specs.Difference.{difference}
use Rattle.digest_set.specs.Facts.{digests_of}
use Rattle.package_core.specs.Card.{Card, IsPackage}
use Rattle.package_core.specs.Fields.{text_in}
use Rattle.package_core.specs.Whole.{IsSaid, IsWhole}
use Rattle.package_list.specs.declared.fault.ListFault.{ListFault}
use Rattle.package_list.specs.declared.fault.ListFault.TheVariants as list_faults
use Rattle.package_list.specs.Answers.{join_answer}
use Rattle.package_list.specs.Lists.{joined, union}
use Rattle.release_file.specs.declared.listing.Listed.{Listed}
use Rattle.release_file.specs.Release.{ReleaseView}
use Rattle.index_text.specs.Index.{ArePackages}
use Rattle.machine_state.specs.declared.fetched.Fetched.{Fetched}
use Rattle.machine_state.specs.declared.limit.Limit.TheVariants.{Catalogue, File, Index, Known, Packages, ReleaseBytes}
use Rattle.machine_state.specs.declared.refusal.Refusal.{Refusal}
use Rattle.machine_state.specs.declared.refusal.Refusal.TheVariants.{InputMalformed, Limit}
use Rattle.machine_state.specs.declared.arrived.UpdateFault.TheVariants as faults
use Rattle.machine_state.specs.Limits.{limit_number}
use Rattle.machine_state.specs.State.{IsCatalogue, Valid, text_length}
use Rattle.machine_state.specs.Values.{MirrorView, StateView}
use Rattle.package_intake.specs.Catalogue.{within_catalogue}
use Rattle.package_intake.specs.Faults.{IsInputRefusal}
use Rattle.package_intake.specs.Index.{IndexEntry, IsIndex, bytes_within, cards_of, or_differs, or_malformed, path_of}
use Rattle.package_intake.specs.Inside.{IsCompleted}
use Rattle.package_intake.specs.Steps.{and_then, or_refused}
use Rattle.package_intake.specs.Taking.{AreTakenIn, IsTakenIn, agreed, compared, each_taken, facts_of, known_of, of_known_or_file, standing, taken_file}
use Rattle.package_intake.proofs.ArrivalLemmas.{joined_is}
use Rattle.package_intake.proofs.EntryLemmas.{listed_packages}
use Rattle.package_intake.proofs.ListLemmas.{all_append, each_of}
use Rattle.package_intake.proofs.StanzaLemmas.{all_good}
use Rattle.package_intake.proofs.TakenLemmas.{AreDigests, completed_taken, find_holds, of_bytes, of_card}
use Rattle.mirror_update.specs.Fetch.{IsFetched, distribution_folder, IsReleaseText, ReadBy, release_path}
use Rattle.mirror_update.specs.Indexes.{AreAllRead, AreRead, IsIndexRead, listed_bytes}
use Rattle.mirror_update.specs.Wanted.{listed_at, stated_of, wanted_indexes}
use Rattle.mirror_update.specs.Arrival.{Arrives, ReleaseArrives, chosen_of, dated, entries_arrive, knowable, list_arrives}
use Rattle.mirror_update.specs.Fits.{FitsIn, FitsWith, IsKnowable}
use Rattle.mirror_update.specs.Answers.{IsArchiveRefusal, IsSomeRelease, chosen_in}
use Rattle.mirror_update.proofs.TakeLemmas.{chosen_good, chosen_knowable}
use Rattle.mirror_update.proofs.UpdateLemmas.{any_archive, date_is, fits_state}

-- ---- steps in turn
-- what a step gives is as P says, and a refusal is one of an arrival
abbrev Comes : {X : Type 0} → (X → Type 0) → Result X Refusal → Type 0
Comes P r = MatchResult r P IsInputRefusal

then_comes : {X Y : Type 0} (P : X → Type 0) (Q : Y → Type 0) (r : Result X Refusal) (f : X → Result Y Refusal) → Comes P r → ((x : X) → P x → Comes Q (f x)) → Comes Q (and_then r f)
then_comes P Q (Ok x) f h g = g x h
then_comes P Q (Err refusal) f h g = h

as_given : {X : Type 0} (P : X → Type 0) (r : Result X Refusal) → Comes P r → Comes (λ x. P x × (r ≡ Ok x)) r
as_given P (Ok x) h = (h, refl)
as_given P (Err refusal) h = h

more_comes : {X : Type 0} (P Q : X → Type 0) (r : Result X Refusal) → ((x : X) → P x → Q x) → Comes P r → Comes Q r
more_comes P Q (Ok x) f h = f x h
more_comes P Q (Err refusal) f h = h

-- ---- one file
compared_comes : (path : Path) (p : Card) (found : Digests) → Comes (λ m. AreDigests found → IsCompleted p m) (compared path p found)
compared_comes path p found = by_difference (difference p.said found) refl
  where
    by_difference : (o : Option (What × List ℕ × List ℕ)) → difference p.said found ≡ o → Comes (λ m. AreDigests found → IsCompleted p m) (agreed path p found o)
    by_difference None e = λ d. record { found = found; sha1 = d.sha1; md5 = d.md5; agrees = e; is = refl }
    by_difference (Some (what, said, other)) e = (p.said, found, e)

module _ (known : List Card) where
  -- where what is known is a catalogue
  abbrev InCatalogue : {X : Type 0} → (X → Type 0) → X → Type 0
  InCatalogue P x = IsCatalogue known → P x

  file_comes : (path : Path) (p : Card) (o : Option Card) (content : Content) → known_of known p.said.sha256 ≡ o → Comes (InCatalogue (IsCompleted p)) (of_known_or_file path p o content)
  file_comes path p (Some q) content e =
      more_comes (λ m. AreDigests (facts_of q) → IsCompleted p m) (InCatalogue (IsCompleted p)) (compared path p (facts_of q))
      (λ m h c. h (of_card q (find_holds IsWhole (λ (x : Card). bytes_eq x.said.sha256 p.said.sha256) known q (each_of IsWhole known c.packages) e))) (compared_comes path p (facts_of q))
  file_comes path p None None e = tt
  file_comes path p None (Some bytes) e =
      more_comes (λ m. AreDigests (digests_of bytes) → IsCompleted p m) (InCatalogue (IsCompleted p)) (compared path p (digests_of bytes)) (λ m h c. h (of_bytes bytes)) (compared_comes path p (digests_of bytes))

  taken_comes : (files : Files) (path : Path) (p : Card) → IsPackage p → IsSaid p.said → Comes (InCatalogue (IsTakenIn known p)) (taken_file files known path p)
  unfolding taken_file
  taken_comes files path p d s = by_size (nat_lt (limit_number File) p.said.size) refl
    where
      made : Result Card Refusal
      made = of_known_or_file path p (known_of known p.said.sha256) (files path)

      by_size : (b : Bool) → nat_lt (limit_number File) p.said.size ≡ b → Comes (InCatalogue (IsTakenIn known p)) (cond b (Err (Limit File)) (and_then made (λ m. Ok (standing known m))))
      by_size true e = tt
      by_size false e =
          then_comes (InCatalogue (IsCompleted p)) (InCatalogue (IsTakenIn known p)) made (λ m. Ok (standing known m)) (file_comes path p (known_of known p.said.sha256) (files path) refl)
          (λ m g c. completed_taken known p m (standing known m) c d s (ltb-false (limit_number File) p.said.size e) (g c) refl)

  each_comes : (take : Card → Result Card Refusal) → ((p : Card) → IsPackage p → IsSaid p.said → Comes (InCatalogue (IsTakenIn known p)) (take p)) → (ps : List Card) → AllByRecursion (λ p. IsPackage p × IsSaid p.said) ps → Comes (InCatalogue (AreTakenIn known ps)) (each_taken take ps)
  each_comes take one [] d = λ c. tt
  each_comes take one (p ∷ ps) d =
      then_comes (InCatalogue (IsTakenIn known p)) (InCatalogue (AreTakenIn known (p ∷ ps))) (take p) (λ q. and_then (each_taken take ps) (λ qs. Ok (q ∷ qs))) (one p d.0.0 d.0.1)
      (λ q t. then_comes (InCatalogue (AreTakenIn known ps)) (InCatalogue (AreTakenIn known (p ∷ ps))) (each_taken take ps) (λ qs. Ok (q ∷ qs)) (each_comes take one ps d.1) (λ qs ts c. (t c, ts c)))

-- ---- what is known
abbrev measured : Bool → Result (Unit {0}) Refusal
measured long = cond long (Err (Limit Catalogue)) (Ok tt)

abbrev Anything : Unit {0} → Type 0
Anything u = Unit {0}

within_comes : (all : List Card) → Comes Anything (within_catalogue all)
within_comes all = by_count (nat_lt (limit_number Known) (length all))
  where
    by_length : (b : Bool) → Comes Anything (measured b)
    by_length true = tt
    by_length false = tt

    by_count : (b : Bool) → Comes Anything (and_then (cond b (Err (Limit Known)) (Ok all)) (λ l. measured (nat_lt (limit_number Catalogue) (text_length l))))
    by_count true = tt
    by_count false = by_length (nat_lt (limit_number Catalogue) (text_length all))

-- ---- the packages of the indexes
abbrev AreJoined : List Card → List Card → Type 0
AreJoined cards ps = (ps ≡ joined cards) × (or_refused Packages (join_answer cards) ≡ Ok (joined cards))

joins_comes : (cards : List Card) → Comes (AreJoined cards) (or_refused Packages (join_answer cards))
joins_comes cards = by_answer (join_answer cards) refl
  where
    by_answer : (r : Result (List Card) ListFault) → join_answer cards ≡ r → Comes (AreJoined cards) (or_refused Packages r)
    by_answer (Ok ps) e =
        let is : or_refused Packages (join_answer cards) ≡ Ok ps = ap (or_refused Packages) e in
        let same = joined_is Packages cards ps is in
        (same, is ∙ ap Ok same)
    by_answer (Err (list_faults.Conflict triple)) e = tt
    by_answer (Err list_faults.Full) e = tt
    by_answer (Err list_faults.OutOfMemory) e = tt

module _ (files : Files) (known : List Card) (mirror : MirrorView) (release : ReleaseView) (entries : List IndexEntry) (good : ArePackages entries) where
  abbrev chosen : List Card
  chosen = chosen_in mirror release entries

  abbrev take : Card → Result Card Refusal
  take p = taken_file files known (below_folder mirror.archive (path_of entries p)) p

  knowable_comes : (list : List Card) → or_refused Packages (join_answer (cards_of entries)) ≡ Ok (joined (cards_of entries)) → (IsCatalogue known → AreTakenIn known chosen list) → Comes (InCatalogue known (IsKnowable known)) (knowable known list)
  knowable_comes list j t =
      let all = union known list in
      then_comes (λ u. Anything u × (within_catalogue all ≡ Ok u)) (InCatalogue known (IsKnowable known)) (within_catalogue all) (λ u. Ok list) (as_given Anything (within_catalogue all) (within_comes all))
      (λ u w c. chosen_knowable mirror release entries chosen refl known list c j (t c) w.1)

  chosen_comes : or_refused Packages (join_answer (cards_of entries)) ≡ Ok (joined (cards_of entries)) → Comes (InCatalogue known (IsKnowable known)) (list_arrives files known mirror entries chosen)
  chosen_comes j =
      then_comes (InCatalogue known (AreTakenIn known chosen)) (InCatalogue known (IsKnowable known)) (each_taken take chosen) (knowable known)
      (each_comes known take (λ p d s. taken_comes known files (below_folder mirror.archive (path_of entries p)) p d s) chosen (each_of (λ p. IsPackage p × IsSaid p.said) chosen (chosen_good mirror release entries chosen refl good)))
      (λ list t. knowable_comes list j t)

  entries_comes : Comes (InCatalogue known (IsKnowable known)) (entries_arrive files known mirror release entries)
  unfolding entries_arrive
  entries_comes =
      then_comes (AreJoined (cards_of entries)) (InCatalogue known (IsKnowable known)) (or_refused Packages (join_answer (cards_of entries))) (λ ps. list_arrives files known mirror entries (chosen_of mirror release ps)) (joins_comes (cards_of entries))
      (λ ps j. subst (λ (l : List Card). Comes (InCatalogue known (IsKnowable known)) (list_arrives files known mirror entries (chosen_of mirror release l))) (sym j.0) (chosen_comes j.1))

-- ---- what is read
read_comes : {X : Type 0} (Says : List ℕ → Result X ℕ → Type 0) (path : Path) (Q : Refusal → Type 0) (content : Result (List ℕ) Refusal) (read : Result X Refusal) → IfErr content Q → ((line : ℕ) → Q (InputMalformed path line)) → ReadBy Says path content read → MatchResult read (λ x. (bytes : List ℕ) × Says bytes (Ok x)) Q
read_comes {X = X} Says path Q (Ok bytes) read c m h = subst (λ (r : Result X Refusal). MatchResult r (λ x. (b : List ℕ) × Says b (Ok x)) Q) (sym h.2) (by_said h.0 h.1)
  where
    by_said : (said : Result X ℕ) → Says bytes said → MatchResult (or_malformed path said) (λ x. (b : List ℕ) × Says b (Ok x)) Q
    by_said (Ok x) s = (bytes, s)
    by_said (Err line) s = m line
read_comes {X = X} Says path Q (Err refusal) read c m h = subst (λ (r : Result X Refusal). MatchResult r (λ x. (b : List ℕ) × Says b (Ok x)) Q) (sym h) c

-- ---- the Release
release_bytes : (path : Path) (content : Content) → IfErr (bytes_within ReleaseBytes path content) IsArchiveRefusal
release_bytes path None = tt
release_bytes path (Some bytes) = by_size (nat_lt (limit_number ReleaseBytes) (length bytes))
  where
    by_size : (b : Bool) → IfErr (cond b (Err (Limit ReleaseBytes)) (Ok bytes)) IsArchiveRefusal
    by_size true = tt
    by_size false = tt

fetched_comes : (files : Files) (mirror : MirrorView) (fetched : Result ReleaseView Refusal) → IsFetched files mirror fetched → MatchResult fetched IsSomeRelease IsArchiveRefusal
unfolding IsFetched
fetched_comes files mirror fetched h =
    as_release fetched (read_comes IsReleaseText (release_path mirror) IsArchiveRefusal (bytes_within ReleaseBytes (release_path mirror) (files (release_path mirror))) fetched (release_bytes (release_path mirror) (files (release_path mirror))) (λ line. tt) h)
  where
    as_release : (r : Result ReleaseView Refusal) → MatchResult r (λ x. (b : List ℕ) × IsReleaseText b (Ok x)) IsArchiveRefusal → MatchResult r IsSomeRelease IsArchiveRefusal
    as_release (Ok release) g = g
    as_release (Err refusal) g = g

-- ---- the indexes
listed_comes : (path : Path) (o : Option Listed) (content : Content) → IfErr (listed_bytes path o content) IsInputRefusal
listed_comes path None content = tt
listed_comes path (Some file) None = tt
listed_comes path (Some file) (Some bytes) = by_size (nat_lt (limit_number Index) (stated_of file).size)
  where
    by_difference : (o : Option (What × List ℕ × List ℕ)) → difference (stated_of file) (digests_of bytes) ≡ o → IfErr (or_differs path bytes o) IsInputRefusal
    by_difference None e = tt
    by_difference (Some (what, said, found)) e = (stated_of file, digests_of bytes, e)

    by_size : (b : Bool) → IfErr (cond b (Err (Limit Index)) (or_differs path bytes (difference (stated_of file) (digests_of bytes)))) IsInputRefusal
    by_size true = tt
    by_size false = by_difference (difference (stated_of file) (digests_of bytes)) refl

module _ (files : Files) (folder : Path) (listed : List Listed) where
  index_comes : (name : Path) (read : Result (List IndexEntry) Refusal) → IsIndexRead files folder listed name read → Comes ArePackages read
  index_comes name read h =
      let path = below_folder folder name in
      packages read (read_comes IsIndex path IsInputRefusal (listed_bytes path (listed_at listed name) (files path)) read (listed_comes path (listed_at listed name) (files path)) (λ line. tt) h)
    where
      packages : (r : Result (List IndexEntry) Refusal) → MatchResult r (λ x. (b : List ℕ) × IsIndex b (Ok x)) IsInputRefusal → Comes ArePackages r
      packages (Ok entries) g = listed_packages g.0 entries g.1
      packages (Err refusal) g = g

  all_packages : (names : List Path) (all : List IndexEntry) → AreRead (IsIndexRead files folder listed) names all → ArePackages all
  all_packages [] all h = subst ArePackages (sym h) tt
  all_packages (name ∷ names) all h =
      subst ArePackages (sym h.4) (all_append (λ (e : IndexEntry). IsPackage e.0 × IsSaid e.0.said) h.0 h.1 (index_comes name (Ok h.0) h.2) (all_packages names h.1 h.3))

  indexes_come : (names : List Path) (read : Result (List IndexEntry) Refusal) → AreAllRead files folder listed names read → Comes ArePackages read
  unfolding AreAllRead
  indexes_come names (Ok all) h = all_packages names all h
  indexes_come names (Err refusal) h = index_comes h.name (Err refusal) h.refused

-- ---- the date
value_utf8 : (fields : List Field) (name : List ℕ) → is_stanza fields ≡ true → IsUtf8 (text_in fields name)
unfolding is_stanza value_of
value_utf8 fields name s = by_field (find (λ f. same_name f.name name) fields) refl
  where
    each : (fs : List Field) → list_all is_field fs ≡ true → AllByRecursion (λ f. is_field f ≡ true) fs
    each [] h = tt
    each (f ∷ fs) h = let parts = and_parts (is_field f) (list_all is_field fs) h in (parts.0, each fs parts.1)

    by_field : (o : Option Field) → find (λ f. same_name f.name name) fields ≡ o → IsUtf8 (unwrap_or (option_map (λ (f : Field). f.value) o) [])
    by_field None e = IsUtf8-nil
    by_field (Some f) e =
        let is = find_holds (λ f. is_field f ≡ true) (λ f. same_name f.name name) fields f (each fields (and_parts (list_all is_field fields) (are_distinct fields) s).0) e in
        let value = and_parts _ _ is in
        IsUtf8-from_is_utf8 f.value (and_parts _ (is_utf8 f.value) value.1).1

date_utf8 : (release : ReleaseView) → IsSomeRelease release → IsUtf8 release.date
date_utf8 release said =
    let alone = said.1.alone in
    let good = subst (AllByRecursion (λ (s : ℕ × List Field). is_stanza s.1 ≡ true)) alone.alone (all_good (Some MOST_STANZA_BYTES) 1 (lines_of said.0) said.1.stanzas said.1.made_of) in
    subst IsUtf8 (sym alone.says.date) (value_utf8 alone.stanza.1 (codes "Date") good.0)

-- ---- all of it
-- what arrives fits, and a refusal is one of an arrival of an archive
abbrev Fit : List Card → Result Fetched Refusal → Type 0
Fit known r = MatchResult r (λ fetched. IsCatalogue known → FitsWith known fetched) IsArchiveRefusal

arrival_comes : (files : Files) (known : List Card) (mirror : MirrorView) (arrived : Result Fetched Refusal) → Arrives files known mirror arrived → Fit known arrived
unfolding Arrives
arrival_comes files known mirror arrived h = by_release h.0 (fetched_comes files mirror h.0 h.1) h.2
  where
    as_archive : (r : Result Fetched Refusal) → Comes (λ fetched. IsCatalogue known → FitsWith known fetched) r → Fit known r
    as_archive (Ok fetched) g = g
    as_archive (Err refusal) g = any_archive (faults.Refused refusal) g

    by_release : (fetched : Result ReleaseView Refusal) → MatchResult fetched IsSomeRelease IsArchiveRefusal → ReleaseArrives files known mirror fetched arrived → Fit known arrived
    by_release (Err refusal) g is = subst (Fit known) (sym is) g
    by_release (Ok release) said (read, says, is) =
        let arrives = entries_arrive files known mirror release in
        let list = then_comes ArePackages (λ l. IsCatalogue known → IsKnowable known l) read arrives (indexes_come files (distribution_folder mirror) release.files (wanted_indexes mirror release) read says) (λ entries good. entries_comes files known mirror release entries good) in
        let fits = then_comes (λ l. IsCatalogue known → IsKnowable known l) (λ fetched. IsCatalogue known → FitsWith known fetched) (and_then read arrives) (dated release) list (λ l k c. record { date = date_is release release.date said refl (date_utf8 release said); list = k c }) in
        subst (Fit known) (sym is) (as_archive (and_then (and_then read arrives) (dated release)) fits)

pub arrives_fit : (files : Files) (state : StateView) (name : List ℕ) (mirror : MirrorView) (fetched : Fetched) → Valid state → Arrives files state.known mirror (Ok fetched) → FitsIn state name fetched
arrives_fit files state name mirror fetched v h = fits_state state name fetched v (arrival_comes files state.known mirror (Ok fetched) h v.known)

pub refuses_archive : (files : Files) (known : List Card) (mirror : MirrorView) (refusal : Refusal) → Arrives files known mirror (Err refusal) → IsArchiveRefusal refusal
refuses_archive files known mirror refusal h = arrival_comes files known mirror (Err refusal) h
