-- Whole root texts: the pieces of a valid state, and where a text stops being one.
use Rattle.std.proofs.Common.{◌≡◌, ◌⊎◌, inl, inr, ℕ, zero, suc, ◌<◌, ◌≤◌, ◌^◌, Bool, true, false, if◌then◌else◌, List, [], ◌∷◌, ◌++◌, length, map, Some, All, Result, Ok, Err, refl, sym, ap, ◌∙◌, subst, arith, append-nil, append_assoc}
use Rattle.std.specs.Prelude.{slice_index}
use Rattle.std.specs.Int.{to_be_bytes, w32}
use Rattle.std.specs.List.{flat_map}
use Rattle.std.specs.Ordering.{is_eq}
use Rattle.std.proofs.lemmas.Bool.{true≢false}
use Rattle.hex.specs.declared.error.FromHexError.{FromHexError}
use Rattle.hex.specs.Hex.{IsBytes, decode_of}
use Rattle.hex.proofs.HexLemmas.{decode_of-encode_lower}
use Rattle.sha2.specs.Sha256.{sha256, digest_bytes, final_hash, initial_hash_256}
use Rattle.package_core.specs.Card.{Card, package_text}
use Rattle.package_core.specs.Whole.{IsWhole}
use Rattle.package_core.specs.Order.{package_cmp}
use Rattle.package_core.proofs.WholeLemmas.{one_package_text}
use Rattle.package_list.specs.Sorted.{AllLess, equal_of}
use Rattle.machine_state.specs.declared.limit.Limit.TheVariants.{Packages}
use Rattle.machine_state.specs.declared.repo.Repo.{Repo}
use Rattle.machine_state.specs.declared.snapshot.Snapshot.{Snapshot}
use Rattle.machine_state.specs.Ascending as names
use Rattle.machine_state.specs.Limits.{limit_number}
use Rattle.machine_state.specs.State.{IsRepo, IsSnapshot, AreRepos, AreSnapshots, IsNamedList, IsKnown, Valid, repo_name, repo_cmp, snapshot_name, snapshot_cmp}
use Rattle.machine_state.specs.Values.{StateView}
use Rattle.catalogue_lines.specs.Lines.{is_ended, line_ends}
use Rattle.catalogue_lines.specs.Pieces.{Piece, alone, packed, package_line, piece_text, Begins, Takes, joined}
use Rattle.catalogue_lines.specs.SetLines.{id_of}
use Rattle.catalogue_text.specs.Root.{repo_pieces, mirrors_pieces, repos_pieces, snapshot_pieces, snapshots_pieces, last_pieces, root_pieces, root_text}
use Rattle.catalogue_lines.specs.KnownForms.{known_pieces, KnownPart}
use Rattle.catalogue_publications.specs.PublicationLines.{publications_pieces}
use Rattle.catalogue_lines.specs.PartForms.{Ends}
use Rattle.catalogue_text.specs.Grammar.{Root, CanStand}
use Rattle.catalogue_text.specs.Faults.{IsWithin, TextsApart, IsFirstBadLine}
use Rattle.catalogue_lines.specs.Reading.{Stops, Never, Always, Each, IdsApart}
use Rattle.catalogue_text.specs.RootReading.{StopsRoot, GoodRepo, GoodSnapshot, GoodRepos, GoodSnapshots}
use Rattle.catalogue_lines.proofs.Parts.{Others}
use Rattle.catalogue_lines.proofs.PlainLemmas.{known_plain}
use Rattle.catalogue_text.proofs.RootLines.{repos_plain, repo_name_plain, comment_plain, distribution_plain, component_plain, snapshots_plain, snapshot_plain}
use Rattle.catalogue_lines.proofs.KnownParts.{known_part, known_told}
use Rattle.catalogue_text.proofs.MirrorValid.{good_mirrors, valid_mirrors, mirrors_are, mirrors_short}
use Rattle.catalogue_publications.proofs.PublicationText.{publications_lines, lines_are, lines_short}
use Rattle.catalogue_publications.proofs.PublicationValid.{good_publications, valid_publications, sources_there}
use Rattle.catalogue_lines.proofs.SetPieces.{good_set, named_list, ArePieces, pieces_both, takes_joined, known_are, set_are, shorts_both, shorts_known, set_short}
use Rattle.catalogue_text.proofs.WholeRoot.{GoodState, behind_known, behind_mirrors, behind_repos, behind_snapshots, root_part, root_told}
use Rattle.catalogue_lines.proofs.TakesLemmas.{Shorts, takes_short, takes_unique, GoesOn, nothing_begins, ended_text, joined_ended}
use Rattle.catalogue_lines.proofs.ValidLemmas.{all_cons, all_tail, all_none, each_less, sorted_each}
use Rattle.catalogue_lines.proofs.NameLemmas.{names_before, names_each}

-- ---- a valid state is good
each_repo : (known : List Card) (done xs : List Repo) → All IsRepo xs → All (λ repo. IsNamedList known repo.list) xs → names.IsAscending repo_cmp (done ++ xs) → Each (GoodRepo known) done xs
each_repo known done [] r l a = tt
each_repo known done (x ∷ xs) r l a = (
  record {
    name = ((r 0 x (omega arith)).name, names_before repo_name done x xs a);
    comment = (r 0 x (omega arith)).comment;
    distribution = (r 0 x (omega arith)).distribution;
    component = (r 0 x (omega arith)).component;
    list = good_set known x.list (l 0 x (omega arith));
  },
  each_repo known (done ++ x ∷ []) xs (all_tail IsRepo x xs r) (all_tail (λ repo. IsNamedList known repo.list) x xs l) (subst (names.IsAscending repo_cmp) (sym (append_assoc done (x ∷ []) xs)) a),
)

each_snapshot : (known : List Card) (done xs : List Snapshot) → All IsSnapshot xs → All (λ snapshot. IsNamedList known snapshot.list) xs → names.IsAscending snapshot_cmp (done ++ xs) → Each (GoodSnapshot known) done xs
each_snapshot known done [] r l a = tt
each_snapshot known done (x ∷ xs) r l a = (
  record { name = (r 0 x (omega arith), names_before snapshot_name done x xs a); list = good_set known x.list (l 0 x (omega arith)) },
  each_snapshot known (done ++ x ∷ []) xs (all_tail IsSnapshot x xs r) (all_tail (λ snapshot. IsNamedList known snapshot.list) x xs l) (subst (names.IsAscending snapshot_cmp) (sym (append_assoc done (x ∷ []) xs)) a),
)

pub good_state : (state : StateView) → Valid state → GoodState state
good_state state v = (
  (v.known.few, each_less [] state.known v.known.sorted),
  (
    good_mirrors state.known state.mirrors v.mirrors,
    (
      (v.repos.few, each_repo state.known [] state.repos v.repos.each v.repos.lists v.repos.sorted),
      (
        (v.snapshots.few, each_snapshot state.known [] state.snapshots v.snapshots.each v.snapshots.lists v.snapshots.sorted),
        (good_publications state v, (record { files = v.known.files; texts = v.known.texts }, refl)),
      ),
    ),
  ),
)

-- ---- what is good is valid
module _ (known : List Card) where
  all_repos : (done xs : List Repo) → Each (GoodRepo known) done xs → All IsRepo xs
  all_repos done [] e = all_none IsRepo
  all_repos done (x ∷ xs) e = all_cons IsRepo x xs (record { name = e.0.name.0; comment = e.0.comment; distribution = e.0.distribution; component = e.0.component }) (all_repos (done ++ x ∷ []) xs e.1)

  repo_lists : (done xs : List Repo) → Each (GoodRepo known) done xs → All (λ repo. IsNamedList known repo.list) xs
  repo_lists done [] e = all_none (λ repo. IsNamedList known repo.list)
  repo_lists done (x ∷ xs) e = all_cons (λ repo. IsNamedList known repo.list) x xs (named_list known x.list e.0.list) (repo_lists (done ++ x ∷ []) xs e.1)

  all_snapshots : (done xs : List Snapshot) → Each (GoodSnapshot known) done xs → All IsSnapshot xs
  all_snapshots done [] e = all_none IsSnapshot
  all_snapshots done (x ∷ xs) e = all_cons IsSnapshot x xs e.0.name.0 (all_snapshots (done ++ x ∷ []) xs e.1)

  snapshot_lists : (done xs : List Snapshot) → Each (GoodSnapshot known) done xs → All (λ snapshot. IsNamedList known snapshot.list) xs
  snapshot_lists done [] e = all_none (λ snapshot. IsNamedList known snapshot.list)
  snapshot_lists done (x ∷ xs) e = all_cons (λ snapshot. IsNamedList known snapshot.list) x xs (named_list known x.list e.0.list) (snapshot_lists (done ++ x ∷ []) xs e.1)

pub valid_repos : (known : List Card) (repos : List Repo) → GoodRepos known repos → AreRepos known repos
valid_repos known repos r = record {
  each = all_repos known [] repos r.1;
  lists = repo_lists known [] repos r.1;
  sorted = names_each repo_name (GoodRepo known) (λ done x g. g.name.1) [] repos tt r.1;
  few = r.0;
}

pub valid_snapshots : (known : List Card) (snapshots : List Snapshot) → GoodSnapshots known snapshots → AreSnapshots known snapshots
valid_snapshots known snapshots f = record {
  each = all_snapshots known [] snapshots f.1;
  lists = snapshot_lists known [] snapshots f.1;
  sorted = names_each snapshot_name (GoodSnapshot known) (λ done x g. g.name.1) [] snapshots tt f.1;
  few = f.0;
}

pub valid_state : (state : StateView) → All IsWhole state.known → GoodState state → Valid state
valid_state state w g = record {
  known = record {
    packages = w;
    sorted = sorted_each (AllLess package_cmp) (λ done x h. h) [] state.known tt g.0.1;
    few = g.0.0;
    files = g.1.1.1.1.1.0.files;
    texts = g.1.1.1.1.1.0.texts;
  };
  mirrors = valid_mirrors state.known state.mirrors g.1.0;
  repos = valid_repos state.known state.repos g.1.1.0;
  snapshots = valid_snapshots state.known state.snapshots g.1.1.1.0;
  publications = valid_publications state.known state.repos state.snapshots state.publications g.1.1.1.1.0;
  sources = sources_there state g.1.1.1.1.0;
}

-- ---- the pieces of a valid state are cut out of its text
repo_are : (repo : Repo) → IsRepo repo → length repo.list ≤ limit_number Packages → ArePieces (repo_pieces repo)
unfolding repo_pieces
repo_are repo g few = (repo_name_plain repo.name g.name, (comment_plain repo.comment g.comment, (distribution_plain repo.distribution g.distribution, (component_plain repo.component g.component, set_are repo.list few))))

repos_are : (known : List Card) (repos : List Repo) → All IsRepo repos → All (λ repo. IsNamedList known repo.list) repos → ArePieces (flat_map repo_pieces repos)
repos_are known [] r l = tt
repos_are known (x ∷ xs) r l = pieces_both (repo_pieces x) (flat_map repo_pieces xs) (repo_are x (r 0 x (omega arith)) (l 0 x (omega arith)).few) (repos_are known xs (all_tail IsRepo x xs r) (all_tail (λ repo. IsNamedList known repo.list) x xs l))

snapshot_are : (snapshot : Snapshot) → IsSnapshot snapshot → length snapshot.list ≤ limit_number Packages → ArePieces (snapshot_pieces snapshot)
unfolding snapshot_pieces
snapshot_are snapshot g few = (snapshot_plain snapshot.name g, set_are snapshot.list few)

snapshots_are : (known : List Card) (snapshots : List Snapshot) → All IsSnapshot snapshots → All (λ snapshot. IsNamedList known snapshot.list) snapshots → ArePieces (flat_map snapshot_pieces snapshots)
snapshots_are known [] r l = tt
snapshots_are known (x ∷ xs) r l = pieces_both (snapshot_pieces x) (flat_map snapshot_pieces xs) (snapshot_are x (r 0 x (omega arith)) (l 0 x (omega arith)).few) (snapshots_are known xs (all_tail IsSnapshot x xs r) (all_tail (λ snapshot. IsNamedList known snapshot.list) x xs l))

root_are : (state : StateView) → Valid state → ArePieces (root_pieces state)
unfolding root_pieces known_pieces repos_pieces snapshots_pieces last_pieces
root_are state v =
    pieces_both (known_pieces state.known) (behind_known state) (refl, (known_plain (length state.known) (let f = v.known.few in omega arith), known_are state.known v.known.packages))
    (pieces_both (mirrors_pieces state.mirrors) (behind_mirrors state) (mirrors_are state.known state.mirrors v.mirrors)
    (pieces_both (repos_pieces state.repos) (behind_repos state) (repos_plain (length state.repos) (let f = v.repos.few in omega arith), repos_are state.known state.repos v.repos.each v.repos.lists)
    (pieces_both (snapshots_pieces state.snapshots) (behind_snapshots state) (snapshots_plain (length state.snapshots) (let f = v.snapshots.few in omega arith), snapshots_are state.known state.snapshots v.snapshots.each v.snapshots.lists)
    (pieces_both (publications_pieces state.publications) last_pieces (lines_are (publications_pieces state.publications) (publications_lines state.known state.repos state.snapshots state.publications (good_publications state v))) (refl, tt)))))

pub takes_root : (state : StateView) → Valid state → Takes (root_text state) (root_pieces state) []
unfolding root_text
takes_root state v = takes_joined (root_pieces state) (root_are state v)

pub root_ended : (state : StateView) → is_ended (root_text state) ≡ true
unfolding root_text
root_ended state = joined_ended (root_pieces state)

pub text_is_root : (text : List ℕ) (state : StateView) → Takes text (root_pieces state) [] → is_ended text ≡ true → text ≡ root_text state
unfolding root_text
text_is_root text state t e = ended_text (root_pieces state) text t e

-- ---- their texts are short
repo_short : (repo : Repo) → Shorts (repo_pieces repo)
unfolding repo_pieces
repo_short repo = set_short repo.list

shorts_repos : (repos : List Repo) → Shorts (flat_map repo_pieces repos)
shorts_repos [] = tt
shorts_repos (x ∷ xs) = shorts_both (repo_pieces x) (flat_map repo_pieces xs) (repo_short x) (shorts_repos xs)

snapshot_short : (snapshot : Snapshot) → Shorts (snapshot_pieces snapshot)
unfolding snapshot_pieces
snapshot_short snapshot = set_short snapshot.list

shorts_snapshots : (snapshots : List Snapshot) → Shorts (flat_map snapshot_pieces snapshots)
shorts_snapshots [] = tt
shorts_snapshots (x ∷ xs) = shorts_both (snapshot_pieces x) (flat_map snapshot_pieces xs) (snapshot_short x) (shorts_snapshots xs)

root_short : (state : StateView) → Valid state → Shorts (root_pieces state)
unfolding root_pieces known_pieces repos_pieces snapshots_pieces last_pieces
root_short state v =
    shorts_both (known_pieces state.known) (behind_known state) (shorts_known state.known (let t = v.known.texts in omega arith))
    (shorts_both (mirrors_pieces state.mirrors) (behind_mirrors state) (mirrors_short state.mirrors)
    (shorts_both (repos_pieces state.repos) (behind_repos state) (shorts_repos state.repos)
    (shorts_both (snapshots_pieces state.snapshots) (behind_snapshots state) (shorts_snapshots state.snapshots)
    (shorts_both (publications_pieces state.publications) last_pieces (lines_short (publications_pieces state.publications) (publications_lines state.known state.repos state.snapshots state.publications (good_publications state v))) tt))))

-- ---- whole packages, and ids that are apart
wholes : (ps : List Card) (text rest : List ℕ) → Takes text (map packed ps) rest → All IsWhole ps
wholes [] text rest t = all_none IsWhole
wholes (p ∷ ps) text rest t = all_cons IsWhole p ps t.1.0 (wholes ps t.0 rest t.2)

pub known_whole : (known : List Card) (text rest : List ℕ) → Takes text (known_pieces known) rest → All IsWhole known
unfolding known_pieces
known_whole known text rest t = wholes known t.2.0 rest t.2.2

within_more : (part text mid front : List ℕ) → text ≡ front ++ mid → IsWithin part mid → IsWithin part text
within_more part text mid front e w = (front ++ w.0, w.1, e ∙ ap (λ t. front ++ t) w.2 ∙ sym (append_assoc front w.0 (part ++ w.1)))

stands : (ps : List Card) (text rest : List ℕ) (p : Card) → Takes text (map packed ps) rest → IsKnown ps p → IsWhole p × IsWithin (package_text p) text
stands [] text rest p t k = cc
stands (x ∷ xs) text rest p t k = by_test (is_eq (package_cmp x p)) k (stands xs t.0 rest p t.2)
  where
    here : IsWhole x × IsWithin (package_text x) text
    here = (t.1.0, (package_line (length (package_text x)) ++ 10 ∷ [], t.0, t.1.1 ∙ append_assoc (package_line (length (package_text x))) (10 ∷ package_text x) t.0 ∙ sym (append_assoc (package_line (length (package_text x))) (10 ∷ []) (package_text x ++ t.0))))

    by_test : (b : Bool) → (if b then Some x else equal_of package_cmp xs p) ≡ Some p → (IsKnown xs p → IsWhole p × IsWithin (package_text p) t.0) → IsWhole p × IsWithin (package_text p) text
    by_test true e more = let same : x ≡ p = cc in subst (λ (q : Card). IsWhole q × IsWithin (package_text q) text) same here
    by_test false e more = let h = more e in (h.0, within_more (package_text p) text t.0 (piece_text (packed x)) t.1.1 h.1)

within_line : (part text l mid : List ℕ) → Begins text (alone l) mid → IsWithin part mid → IsWithin part text
within_line part text l mid b w =
    elim b.ended [
      | inl e ↦ within_more part text mid (l ++ 10 ∷ []) (e ∙ sym (append_assoc l (10 ∷ []) mid)) w
      | inr e ↦ within_more part text mid text (sym (ap (λ t. text ++ t) e.1 ∙ append-nil text)) w
    ]

known_stands : (known : List Card) (text rest : List ℕ) (p : Card) → Takes text (known_pieces known) rest → IsKnown known p → IsWhole p × IsWithin (package_text p) text
unfolding known_pieces
known_stands known text rest p t k =
    let h = stands known t.2.0 rest p t.2.2 k in
    (h.0, within_line (package_text p) text _ t.0 t.1 (within_line (package_text p) t.0 _ t.2.0 t.2.1 h.1))

-- a digest is bytes, so its digits tell it
bytes_both : (xs ys : List ℕ) → IsBytes xs → IsBytes ys → IsBytes (xs ++ ys)
bytes_both [] ys a b i = b i
bytes_both (x ∷ xs) ys a b zero = a zero
bytes_both (x ∷ xs) ys a b (suc i) = bytes_both xs ys (λ k. a (suc k)) b i

no_bytes : IsBytes []
no_bytes zero = omega arith
no_bytes (suc i) = omega arith

word_bytes : (n : ℕ) → IsBytes (to_be_bytes w32 n)
word_bytes n zero = omega arith
word_bytes n (suc zero) = omega arith
word_bytes n (suc (suc zero)) = omega arith
word_bytes n (suc (suc (suc zero))) = omega arith
word_bytes n (suc (suc (suc (suc i)))) = no_bytes i

digest_is_bytes : (h : List ℕ) (n : ℕ) → IsBytes (digest_bytes h n)
unfolding digest_bytes
digest_is_bytes h zero = no_bytes
digest_is_bytes h (suc n) = bytes_both (digest_bytes h n) (to_be_bytes w32 (slice_index h n)) (digest_is_bytes h n) (word_bytes (slice_index h n))

sha256_bytes : (m : List ℕ) → IsBytes (sha256 m)
unfolding sha256
sha256_bytes m = digest_is_bytes (final_hash initial_hash_256 m) 8

ids_tell : (p q : Card) → id_of p ≡ id_of q → sha256 (package_text p) ≡ sha256 (package_text q)
unfolding id_of
ids_tell p q e = ap value (sym (decode_of-encode_lower (sha256 (package_text p)) (sha256_bytes (package_text p))) ∙ ap decode_of e ∙ decode_of-encode_lower (sha256 (package_text q)) (sha256_bytes (package_text q)))
  where
    value : Result (List ℕ) FromHexError → List ℕ
    value (Ok bytes) = bytes
    value (Err e) = []

pub ids_apart : (known : List Card) (text rest : List ℕ) → TextsApart text → Takes text (known_pieces known) rest → IdsApart known
ids_apart known text rest apart t p q kp kq e =
    let a = known_stands known text rest p t kp in
    let b = known_stands known text rest q t kq in
    one_package_text p q a.0 b.0 (apart p q a.0 b.0 a.1 b.1 (ids_tell p q e))

-- ---- what can stand
ends_others : (state : StateView) (xs : List Piece) → Ends state xs → Others xs
ends_others state [] e = tt
ends_others state (x ∷ xs) e = absurd e

ends_front : (state : StateView) (xs ys : List Piece) → Ends state (xs ++ ys) → Ends state xs
ends_front state [] ys e = tt
ends_front state (x ∷ xs) ys e = e

can_front : (xs : List Piece) (y : Piece) (ys : List Piece) → CanStand (xs ++ y ∷ ys) → CanStand (xs ++ y ∷ [])
can_front xs y ys h = root_part.front Ends ends_front (xs ++ y ∷ []) ys (subst CanStand (sym (append_assoc xs (y ∷ []) ys)) h)

can_others : (xs : List Piece) → CanStand xs → Others xs
can_others xs h = root_part.others Ends ends_others xs h

root_can : (state : StateView) → GoodState state → CanStand (root_pieces state)
root_can state g = subst CanStand (append-nil (root_pieces state)) (root_part.along Ends state [] g tt)

-- no valid state has a text that stops before its end
no_root : (text : List ℕ) (good : List Piece) (rest : List ℕ) → length text < 2 ^ 64 → Takes text good rest → CanStand good
    → ((next : Piece) (behind : List ℕ) → Takes rest (next ∷ []) behind → CanStand (good ++ next ∷ []) → ⊥)
    → (state : StateView) → (good ≡ root_pieces state → rest ≡ [] → ⊥) → Valid state → text ≡ root_text state → ⊥
no_root text good rest small t can bad state never v e =
    let whole = root_can state (good_state state v) in
    of (takes_unique good (root_pieces state) text rest [] (takes_short good text rest small t) (root_short state v) (can_others good can) (can_others (root_pieces state) whole) t (subst (λ (x : List ℕ). Takes x (root_pieces state) []) (sym e) (takes_root state v))) whole
  where
    on : (zs : List Piece) → root_pieces state ≡ good ++ zs → Takes rest zs [] → CanStand (root_pieces state) → ⊥
    on [] h u whole = never (sym (append-nil good) ∙ sym h) u
    on (z ∷ zs) h u whole = bad z u.0 (u.0, u.1, refl) (can_front good z zs (subst CanStand h whole))

    past : (zs : List Piece) → good ≡ root_pieces state ++ zs → Takes [] zs rest → ⊥
    past [] h u = never (h ∙ append-nil (root_pieces state)) (sym u)
    past (z ∷ zs) h u = nothing_begins z u.0 u.1

    of : GoesOn good rest (root_pieces state) [] ⊎ GoesOn (root_pieces state) [] good rest → CanStand (root_pieces state) → ⊥
    of (inl g) whole = on g.0 g.1 g.2 whole
    of (inr g) whole = past g.0 g.1 g.2

takes_front : (xs ys : List Piece) (text rest : List ℕ) → Takes text (xs ++ ys) rest → (mid : List ℕ) × Takes text xs mid
takes_front [] ys text rest t = (text, refl)
takes_front (x ∷ xs) ys text rest t = let c = takes_front xs ys t.0 rest t.2 in (c.0, (t.0, t.1, c.1))

ids_of : (state : StateView) → Takes (root_text state) (root_pieces state) [] → TextsApart (root_text state) → IdsApart state.known
unfolding root_pieces
ids_of state t apart =
    let c = takes_front (known_pieces state.known) (behind_known state) (root_text state) [] t in
    ids_apart state.known (root_text state) c.0 apart c.1

pub state_ids : (state : StateView) → Valid state → TextsApart (root_text state) → IdsApart state.known
state_ids state v apart = ids_of state (takes_root state v) apart

-- where a root stops before its end
pub stops_root : (text : List ℕ) (left : ℕ) → length text < 2 ^ 64 → TextsApart text → Stops Root text left → StopsRoot text left
stops_root text left small apart s = record {
  good = s.good;
  rest = s.rest;
  takes = s.takes;
  left_is = s.left_is;
  can = can;
  bad = bad;
  none = λ state v e. no_root text s.good s.rest small s.takes can bad state (never state v e) v e;
}
  where
    can : CanStand s.good
    can = root_part.mono Never Ends (λ a xs n. absurd n) s.good s.stand

    bad : (next : Piece) (behind : List ℕ) → Takes s.rest (next ∷ []) behind → CanStand (s.good ++ next ∷ []) → ⊥
    bad next behind t c = s.bad next behind t (root_part.mono Ends Always (λ a xs n. tt) (s.good ++ next ∷ []) c)

    never : (state : StateView) → Valid state → text ≡ root_text state → s.good ≡ root_pieces state → s.rest ≡ [] → ⊥
    never state v e h g =
        root_told Never state [] (state_ids state v (subst TextsApart e apart)) (good_state state v) (subst (Root Never) (h ∙ sym (append-nil (root_pieces state))) s.stand)

-- where only the end of the text is wrong
pub stops_behind : (text rest : List ℕ) (state : StateView) → length text < 2 ^ 64 → IdsApart state.known → GoodState state → Takes text (root_pieces state) rest → (rest ≡ [] → is_ended text ≡ false) → StopsRoot text (length rest)
stops_behind text rest state small apart g t unended = record {
  good = root_pieces state;
  rest = rest;
  takes = t;
  left_is = refl;
  can = root_can state g;
  bad = bad;
  none = λ other v e. no_root text (root_pieces state) rest small t (root_can state g) bad other (λ h r. true≢false (sym (root_ended other) ∙ ap is_ended (sym e) ∙ unended r)) v e;
}
  where
    bad : (next : Piece) (behind : List ℕ) → Takes rest (next ∷ []) behind → CanStand (root_pieces state ++ next ∷ []) → ⊥
    bad next behind u c = root_told Ends state (next ∷ []) apart g c

-- ---- laws
same_pieces : (a b : StateView) → Valid a → Valid b → root_text a ≡ root_text b → root_pieces a ≡ root_pieces b
same_pieces a b v w e =
    of (takes_unique (root_pieces a) (root_pieces b) (root_text a) [] [] (root_short a v) (root_short b w) (can_others (root_pieces a) (root_can a (good_state a v))) (can_others (root_pieces b) (root_can b (good_state b w))) (takes_root a v)
    (subst (λ (x : List ℕ). Takes x (root_pieces b) []) (sym e) (takes_root b w)))
  where
    none : (zs : List Piece) → Takes [] zs [] → zs ≡ []
    none [] u = refl
    none (z ∷ zs) u = absurd (nothing_begins z u.0 u.1)

    of : GoesOn (root_pieces a) [] (root_pieces b) [] ⊎ GoesOn (root_pieces b) [] (root_pieces a) [] → root_pieces a ≡ root_pieces b
    of (inl g) = sym (append-nil (root_pieces a)) ∙ ap (λ zs. root_pieces a ++ zs) (sym (none g.0 g.2)) ∙ sym g.1
    of (inr g) = g.1 ∙ ap (λ zs. root_pieces b ++ zs) (none g.0 g.2) ∙ append-nil (root_pieces b)

pub one_state : (a b : StateView) → TextsApart (root_text a) → Valid a → Valid b → root_text a ≡ root_text b → a ≡ b
one_state a b apart v w e =
    root_told (λ c xs. c ≡ b) a [] (state_ids a v apart) (good_state a v)
    (subst (λ (xs : List Piece). Root (λ c ys. c ≡ b) (xs ++ [])) (sym (same_pieces a b v w e)) (root_part.along (λ c xs. c ≡ b) b [] (good_state b w) refl))

same_known : (a b : StateView) → Valid a → Valid b → root_pieces a ≡ root_pieces b → a.known ≡ b.known
unfolding root_pieces
same_known a b v w h =
    known_told (λ ks xs. ks ≡ b.known) a.known (behind_known a) (good_state a v).0
    (subst (KnownPart (λ ks xs. ks ≡ b.known)) (sym h) (known_part.along (λ ks xs. ks ≡ b.known) b.known (behind_known b) (good_state b w).0 refl))

pub one_known : (a b : StateView) → Valid a → Valid b → root_text a ≡ root_text b → a.known ≡ b.known
one_known a b v w e = same_known a b v w (same_pieces a b v w e)

pub one_line : (text : List ℕ) (m n : ℕ) → length text < 2 ^ 64 → IsFirstBadLine text m → IsFirstBadLine text n → m ≡ n
one_line text m n small a b =
    of (takes_unique a.good b.good text a.rest b.rest (takes_short a.good text a.rest small a.takes) (takes_short b.good text b.rest small b.takes) (can_others a.good a.can) (can_others b.good b.can) a.takes b.takes)
  where
    on : (k l : ℕ) (x : IsFirstBadLine text k) (y : IsFirstBadLine text l) (zs : List Piece) → y.good ≡ x.good ++ zs → Takes x.rest zs y.rest → k ≡ l
    on k l x y [] h u = x.is ∙ ap (λ g. suc (line_ends (joined g))) (sym (h ∙ append-nil x.good)) ∙ sym y.is
    on k l x y (z ∷ zs) h u = absurd (x.bad z u.0 (u.0, u.1, refl) (can_front x.good z zs (subst CanStand h y.can)))

    of : GoesOn a.good a.rest b.good b.rest ⊎ GoesOn b.good b.rest a.good a.rest → m ≡ n
    of (inl g) = on m n a b g.0 g.1 g.2
    of (inr g) = sym (on n m b a g.0 g.1 g.2)
