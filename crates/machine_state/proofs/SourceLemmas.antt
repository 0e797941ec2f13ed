-- States whose publications name sources that have other names, or are fewer.
use Rattle.std.proofs.Common.{◌≡◌, ℕ, ◌<◌, Bool, true, false, cond, ◌&&◌, ◌||◌, List, [], ◌∷◌, length, map, Some, None, IsTrue, All, refl, sym, ap, subst, arith, true≢false}
use Rattle.std.specs.Prelude.{find, option_map}
use Rattle.std.specs.List.{list_any}
use Rattle.std.specs.Option.{option_cmp}
use Rattle.std.specs.Ordering.{nat_cmp, ordering_then}
use Rattle.std.specs.Cmp.Lexicographic.{slice_cmp}
use Rattle.std.specs.Str.{bytes_eq}
use Rattle.std.proofs.lemmas.List.{length-map}
use Rattle.std.proofs.lemmas.Slice.Eq.{bytes_eq-Decides}
use Rattle.std.proofs.lemmas.List.Elements.{All-cons, All-head, All-map, All-nil, All-tail}
use Rattle.ap_text.specs.Names.{is_component, is_name}
use Rattle.package_core.specs.Card.{Card}
use Rattle.machine_state.specs.declared.limit.Kind.{Kind}
use Rattle.machine_state.specs.declared.limit.Kind.TheVariants as kinds
use Rattle.machine_state.specs.declared.repo.Repo.{Repo}
use Rattle.machine_state.specs.declared.refusal.Refusal.TheVariants.{InUse}
use Rattle.machine_state.specs.Ascending.{put}
use Rattle.machine_state.specs.Lists.{IsNamedList}
use Rattle.machine_state.specs.Mirrors.{RepoLists}
use Rattle.machine_state.specs.Named.{changed, dropped, renamed}
use Rattle.machine_state.specs.Publications.{IsGeneration, IsPublication, PublicationLists, components_of, generations}
use Rattle.machine_state.specs.Sources.{in_use, renamed_to, same_kind, source_renamed, uses}
use Rattle.machine_state.specs.State.{Valid, AreRepos, ArePublications, HasSources, IsRepo, has_source, publication_cmp, repo_cmp, repo_name}
use Rattle.machine_state.specs.Texts.{AreNames}
use Rattle.machine_state.specs.Values.{PublicationView, StateView}
use Rattle.machine_state.proofs.AscendingLemmas.{map_ascending}
use Rattle.machine_state.proofs.KindLemmas.{kind_changed, kind_dropped, kind_put, kind_renamed}
use Rattle.machine_state.proofs.NamedLemmas.{changed_keeps, dropped_keeps, put_keeps, renamed_has, renamed_keeps}
use Rattle.machine_state.proofs.ValidLemmas.{all_so}

-- the same state with other repositories and publications
pub valid_repos : (state : StateView) (repos : List Repo) (publications : List PublicationView) → Valid state → AreRepos state.known repos → ArePublications state.known publications
    → All (HasSources (record state { repos = repos; publications = publications })) publications → Valid (record state { repos = repos; publications = publications })
valid_repos state repos publications v are published sources = record { known = v.known; mirrors = v.mirrors; repos = are; snapshots = v.snapshots; publications = published; sources = sources }

-- ---- the sources of publications

-- a source: the component that it is published as, and its name
abbrev Source : Type 0
Source = List ℕ × List ℕ

-- each source that was there is there
module _ (old new : StateView) where
  abbrev pub Stay : Type 0
  Stay = (kind : Kind) (name : List ℕ) → IsTrue (has_source old kind name) → IsTrue (has_source new kind name)

  pub sources_kept : Stay → (publications : List PublicationView) → All (HasSources old) publications → All (HasSources new) publications
  sources_kept stay publications all =
      all_so (HasSources old) (HasSources new)
      (λ publication. all_so (λ (source : Source). IsTrue (has_source old publication.kind source.1)) (λ (source : Source). IsTrue (has_source new publication.kind source.1)) (λ source. stay publication.kind source.1) publication.sources)
      publications all

-- ---- one of a kind has another name
module _ (kind : Kind) (before after : List ℕ) where
  components_stay : (sources : List Source) → components_of (map (λ (source : Source). (source.0, renamed_to before after source.1)) sources) ≡ components_of sources
  components_stay [] = refl
  components_stay (s ∷ ss) = ap (λ (l : List (List ℕ)). s.0 ∷ l) (components_stay ss)

  abbrev if_kind : Bool → PublicationView → PublicationView
  if_kind b p = cond b (record p { sources = map (λ source. (source.0, renamed_to before after source.1)) p.sources }) p

  publication_renamed : (p : PublicationView) → IsPublication p → IsPublication (source_renamed kind before after p)
  publication_renamed p is = by_kind (same_kind p.kind kind)
    where
      by_kind : (b : Bool) → IsPublication (if_kind b p)
      by_kind false = is
      by_kind true = record {
        prefix = is.prefix;
        dist = is.dist;
        kind = is.kind;
        origin = is.origin;
        label = is.label;
        suite = is.suite;
        codename = is.codename;
        architectures = is.architectures;
        some = is.some;
        components = subst (AreNames is_component) (sym (components_stay p.sources)) is.components;
        first = is.first;
        last = is.last;
        previous = is.previous;
        generations = subst (λ (names : List (List ℕ)). All (IsGeneration p.architectures names) (generations p)) (sym (components_stay p.sources)) is.generations;
      }

  lists_renamed : (known : List Card) (p : PublicationView) → PublicationLists known p → PublicationLists known (source_renamed kind before after p)
  lists_renamed known p lists = by_kind (same_kind p.kind kind)
    where
      by_kind : (b : Bool) → PublicationLists known (if_kind b p)
      by_kind false = lists
      by_kind true = lists

  prefix_stays : (p : PublicationView) → (source_renamed kind before after p).prefix ≡ p.prefix
  prefix_stays p = by_kind (same_kind p.kind kind)
    where
      by_kind : (b : Bool) → (if_kind b p).prefix ≡ p.prefix
      by_kind false = refl
      by_kind true = refl

  dist_stays : (p : PublicationView) → (source_renamed kind before after p).dist ≡ p.dist
  dist_stays p = by_kind (same_kind p.kind kind)
    where
      by_kind : (b : Bool) → (if_kind b p).dist ≡ p.dist
      by_kind false = refl
      by_kind true = refl

  in_order : (p q : PublicationView) → publication_cmp (source_renamed kind before after p) (source_renamed kind before after q) ≡ publication_cmp p q
  in_order p q = (λ i. ordering_then (option_cmp (slice_cmp nat_cmp) (prefix_stays p i) (prefix_stays q i)) (slice_cmp nat_cmp (dist_stays p i) (dist_stays q i)))

  -- the publications are as they have to be, with the other name
  pub publications_renamed : (known : List Card) (publications : List PublicationView) → ArePublications known publications → ArePublications known (map (source_renamed kind before after) publications)
  publications_renamed known publications a =
      let n = length-map publications (source_renamed kind before after) in
      record {
        each = All-map IsPublication (source_renamed kind before after) publications (all_so IsPublication (λ p. IsPublication (source_renamed kind before after p)) publication_renamed publications a.each);
        lists = All-map (PublicationLists known) (source_renamed kind before after) publications (all_so (PublicationLists known) (λ p. PublicationLists known (source_renamed kind before after p)) (lists_renamed known) publications a.lists);
        sorted = map_ascending publication_cmp (source_renamed kind before after) in_order publications a.sorted;
        few = omega (arith, n, a.few);
      }

  -- what is named as a source is there, by the other name where it has one
  abbrev pub Follows : StateView → StateView → Type 0
  Follows old new = (other : Kind) (name : List ℕ) → IsTrue (has_source old other name) → IsTrue (has_source new other (cond (same_kind other kind) (renamed_to before after name) name))

  pub sources_follow : (old new : StateView) → Follows old new → (publications : List PublicationView) → All (HasSources old) publications → All (HasSources new) (map (source_renamed kind before after) publications)
  sources_follow old new follows publications all =
      All-map (HasSources new) (source_renamed kind before after) publications (all_so (HasSources old) (λ p. HasSources new (source_renamed kind before after p)) each publications all)
    where
      each : (p : PublicationView) → HasSources old p → HasSources new (source_renamed kind before after p)
      each p h = by_kind (same_kind p.kind kind) (λ source. follows p.kind source.1)
        where
          by_kind : (b : Bool) → ((source : Source) → IsTrue (has_source old p.kind source.1) → IsTrue (has_source new p.kind (cond b (renamed_to before after source.1) source.1))) → HasSources new (if_kind b p)
          by_kind false f = all_so (λ (source : Source). IsTrue (has_source old p.kind source.1)) (λ (source : Source). IsTrue (has_source new p.kind source.1)) f p.sources h
          by_kind true f =
              All-map (λ (source : Source). IsTrue (has_source new p.kind source.1)) (λ (source : Source). (source.0, renamed_to before after source.1)) p.sources
              (all_so (λ (source : Source). IsTrue (has_source old p.kind source.1)) (λ (source : Source). IsTrue (has_source new p.kind (renamed_to before after source.1))) f p.sources h)

-- ---- one of a kind that no publication uses is no more
module _ (kind : Kind) (name : List ℕ) where
  none_among : (sources : List Source) → list_any (λ (source : Source). bytes_eq source.1 name) sources ≡ false → All (λ (source : Source). bytes_eq source.1 name ≡ false) sources
  none_among [] h = All-nil _
  none_among (s ∷ ss) h = by_test (bytes_eq s.1 name) refl h (none_among ss)
    where
      by_test : (b : Bool) → bytes_eq s.1 name ≡ b → (b || list_any (λ (source : Source). bytes_eq source.1 name) ss) ≡ false → (list_any (λ (source : Source). bytes_eq source.1 name) ss ≡ false → All (λ (source : Source). bytes_eq source.1 name ≡ false) ss)
          → All (λ (source : Source). bytes_eq source.1 name ≡ false) (s ∷ ss)
      by_test true e g more = absurd (true≢false g)
      by_test false e g more = All-cons (λ (source : Source). bytes_eq source.1 name ≡ false) s ss e (more g)

  -- what another name has, or another kind, is there still
  abbrev pub Remains : StateView → StateView → Type 0
  Remains old new = (other : Kind) (n : List ℕ) → (same_kind other kind && bytes_eq n name) ≡ false → IsTrue (has_source old other n) → IsTrue (has_source new other n)

  one_remains : (old new : StateView) → Remains old new → (p : PublicationView) → uses kind name p ≡ false → HasSources old p → HasSources new p
  one_remains old new remains p unused h = by_kind (same_kind p.kind kind) unused (remains p.kind)
    where
      by_kind : (b : Bool) → (b && list_any (λ (source : Source). bytes_eq source.1 name) p.sources) ≡ false
          → ((n : List ℕ) → (b && bytes_eq n name) ≡ false → IsTrue (has_source old p.kind n) → IsTrue (has_source new p.kind n)) → HasSources new p
      by_kind false e f = all_so (λ (source : Source). IsTrue (has_source old p.kind source.1)) (λ (source : Source). IsTrue (has_source new p.kind source.1)) (λ source. f source.1 refl) p.sources h
      by_kind true e f = λ k d l. f _ (none_among p.sources e k d l) (h k d l)

  pub sources_remain : (old new : StateView) → Remains old new → (publications : List PublicationView) → in_use kind name publications ≡ None → All (HasSources old) publications → All (HasSources new) publications
  sources_remain old new remains [] unused all = All-nil _
  sources_remain old new remains (p ∷ ps) unused all = by_use (uses kind name p) refl unused (λ e. sources_remain old new remains ps e (All-tail (HasSources old) p ps all))
    where
      by_use : (b : Bool) → uses kind name p ≡ b → option_map (λ (q : PublicationView). InUse kind name q.prefix q.dist) (cond b (Some p) (find (uses kind name) ps)) ≡ None → (in_use kind name ps ≡ None → All (HasSources new) ps) → All (HasSources new) (p ∷ ps)
      by_use true e g more = cc
      by_use false e g more = All-cons (HasSources new) p ps (one_remains old new remains p e (All-head (HasSources old) p ps all)) (more g)

-- ---- repositories
module _ (state : StateView) (v : Valid state) where
  -- a repository has another name, in the sources of publications too
  pub valid_repo_renamed : (before after : List ℕ) → is_name after ≡ true
      → Valid (record state { repos = renamed repo_name (λ repo name. record repo { name = name }) before after state.repos; publications = map (source_renamed kinds.Repo before after) state.publications })
  valid_repo_renamed before after good =
      valid_repos state _ _ v
      (kind_renamed repo_name IsRepo (RepoLists state.known) _ called before after state.repos (λ repo is. record { name = good; comment = is.comment; distribution = is.distribution; component = is.component }) (λ repo list. list) v.repos)
      (publications_renamed kinds.Repo before after state.known state.publications v.publications)
      (sources_follow kinds.Repo before after state new follows state.publications v.sources)
    where
      called : Repo → List ℕ → Repo
      called repo name = record repo { name = name }

      new : StateView
      new = record state { repos = renamed repo_name (λ repo name. record repo { name = name }) before after state.repos; publications = map (source_renamed kinds.Repo before after) state.publications }

      follows : Follows kinds.Repo before after state new
      follows kinds.Repo name h = by_name (bytes_eq name before) refl
        where
          by_name : (b : Bool) → bytes_eq name before ≡ b → IsTrue (has_source new kinds.Repo (cond b after name))
          by_name true e = renamed_has repo_name called (λ repo n. refl) before after state.repos (subst (λ (n : List ℕ). IsTrue (has_source state kinds.Repo n)) ((bytes_eq-Decides name before).0 e) h)
          by_name false e = renamed_keeps repo_name called (λ repo n. refl) before after state.repos name e h
      follows kinds.Snapshot name h = h
      follows kinds.Mirror name h = h
      follows kinds.Component name h = h

  -- a repository that no publication uses is no more
  pub valid_repo_dropped : (name : List ℕ) → in_use kinds.Repo name state.publications ≡ None → Valid (record state { repos = dropped repo_name name state.repos })
  valid_repo_dropped name unused =
      valid_repos state _ state.publications v (kind_dropped repo_name IsRepo (RepoLists state.known) _ name state.repos v.repos) v.publications
      (sources_remain kinds.Repo name state new remains state.publications unused v.sources)
    where
      new : StateView
      new = record state { repos = dropped repo_name name state.repos }

      remains : Remains kinds.Repo name state new
      remains kinds.Repo n apart h = dropped_keeps repo_name name n state.repos apart h
      remains kinds.Snapshot n apart h = h
      remains kinds.Mirror n apart h = h
      remains kinds.Component n apart h = h

  -- a repository has other settings
  pub valid_repo_changed : (name : List ℕ) (change : Repo → Repo) → ((repo : Repo) → (change repo).name ≡ repo.name) → ((repo : Repo) → IsRepo repo → IsRepo (change repo)) → ((repo : Repo) → IsNamedList state.known repo.list → IsNamedList state.known (change repo).list)
      → Valid (record state { repos = changed repo_name name change state.repos })
  valid_repo_changed name change same is lists =
      valid_repos state _ state.publications v (kind_changed repo_name IsRepo (RepoLists state.known) _ name change state.repos same is lists v.repos) v.publications
      (sources_kept state new stay state.publications v.sources)
    where
      new : StateView
      new = record state { repos = changed repo_name name change state.repos }

      stay : Stay state new
      stay kinds.Repo n h = changed_keeps repo_name name change same n state.repos h
      stay kinds.Snapshot n h = h
      stay kinds.Mirror n h = h
      stay kinds.Component n h = h

  -- there is a repository more
  pub valid_repo_more : (repo : Repo) → IsRepo repo → IsNamedList state.known repo.list → length state.repos < 10000 → Valid (record state { repos = put repo_cmp repo state.repos })
  valid_repo_more repo is list few =
      valid_repos state _ state.publications v (kind_put repo_name IsRepo (RepoLists state.known) _ repo state.repos is list few v.repos) v.publications
      (sources_kept state new stay state.publications v.sources)
    where
      new : StateView
      new = record state { repos = put repo_cmp repo state.repos }

      stay : Stay state new
      stay kinds.Repo n h = put_keeps repo_name repo state.repos n h
      stay kinds.Snapshot n h = h
      stay kinds.Mirror n h = h
      stay kinds.Component n h = h
