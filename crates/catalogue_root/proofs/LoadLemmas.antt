-- The loading of a state.
use Rattle.std.proofs.Common.{◌≡◌, ◌⊎◌, inl, inr, ℕ, zero, suc, ◌+◌, ◌<◌, ◌≤◌, map, arith, List, [], ◌∷◌, ◌++◌, take, drop, All, length, slice_index_or, Option, Some, None, Result, Ok, Err, IfOk, option_map, refl, sym, ◌∙◌, ap, subst}
use Rattle.std.proofs.lemmas.List.{get_or-map, length-map, get_or-take, length-take, length-append}
use Rattle.std.proofs.Math.Seq.{get_or-append_seam}
use Rattle.ap_host.proofs.ListLemmas.{round}
use Rattle.ap_host.specs.Disk.{Path, Content, Files}
use Rattle.package_core.specs.Card.{Card}
use Rattle.hash_pool.specs.Names.{pool_name}
use Rattle.machine_state.specs.State.{Valid, empty}
use Rattle.machine_state.specs.Values.{StateView}
use Rattle.machine_state.proofs.ValidLemmas.{valid_plain}
use Rattle.catalogue_text.specs.Root.{root_text}
use Rattle.catalogue_text.specs.Faults.{TextsApart}
use Rattle.catalogue_text.proofs.RootTexts.{one_state}
use Rattle.catalogue_root.specs.declared.damage.LoadFault.{LoadFault}
use Rattle.catalogue_root.specs.declared.damage.LoadFault.TheVariants.{Damaged, HostFault, OutOfMemory}
use Rattle.catalogue_root.specs.declared.damage.Damage.{Damage}
use Rattle.catalogue_root.specs.declared.damage.Damage.TheVariants.{Missing, Size, Digest, Unreadable}
use Rattle.catalogue_root.specs.Laws.{LawOfOpenStores}
use Rattle.catalogue_root.specs.Loads.{IsUnreadable, RootApart, IsFirstAmiss, IsListed, IsWrong, IsDamage, MayLoad, IsLoadOf, IsLookedFor, AreLookedFor}
use Rattle.catalogue_root.specs.Store.{IsHeld, root, IsRootOf, Open, Stored, Sound, SoundForNone, HasFile}
use Rattle.catalogue_root.proofs.FitLemmas.{open_stored, stored_open}

-- a file's length
length_of : (n : ℕ) (x : Content) → Some n ≡ option_map length x → (bytes : List ℕ) × (x ≡ Some bytes) × (n ≡ length bytes)
length_of n None e = absurd (cc)
length_of n (Some bytes) e = (bytes, refl, cc)

none_of : (x : Content) → None ≡ option_map length x → x ≡ None
none_of None e = refl
none_of (Some bytes) e = absurd (cc)

module _ (files : Files) (p : Card) (field : Option ℕ) (told : field ≡ option_map length (files (pool_name p.said.sha256))) where
  pub missing : (path : Path) → path ≡ pool_name p.said.sha256 → field ≡ None → IsWrong files p (Missing path)
  missing path at none = (at, ap files at ∙ none_of (files (pool_name p.said.sha256)) (sym none ∙ told))

  pub other_size : (path : Path) (found : ℕ) → path ≡ pool_name p.said.sha256 → field ≡ Some found → (p.said.size ≡ found → ⊥) → IsWrong files p (Size path p.said.size found)
  other_size path found at is differs =
      let w = length_of found (files (pool_name p.said.sha256)) (sym is ∙ told) in
      (at, refl, differs, w.0, ap files at ∙ w.1, w.2)

  pub has_file : (found : ℕ) → field ≡ Some found → found ≡ p.said.size → HasFile files p
  has_file found is same =
      let w = length_of found (files (pool_name p.said.sha256)) (sym is ∙ told) in
      record { bytes = w.0; file = w.1; size = sym w.2 ∙ same }

-- a store that is whole is sound
pub stored_sound : (f : Files) (s : StateView) → Stored f s → Sound f s
stored_sound f s o = record {
  held = o.held;
  root = o.root;
  there = λ k d lt. let b = o.bodies k d lt in record { bytes = b.bytes; file = b.file; size = ap (λ said. said.size) b.said };
}

-- the root tells one state
pub root_once : (f : Files) (s t : StateView) → RootApart f → Valid s → Valid t → IsRootOf (f root) s → IsRootOf (f root) t → s ≡ t
root_once f s t apart a b x y = go x y
  where
    go : IsRootOf (f root) s → IsRootOf (f root) t → s ≡ t
    go (inl x) (inl y) = let same : Some (root_text t) ≡ Some (root_text s) = sym y ∙ x in let one : root_text t ≡ root_text s = cc in one_state s t (apart (root_text s) x) a b (sym one)
    go (inl x) (inr y) = absurd (let no : Some (root_text s) ≡ None = sym x ∙ y.0 in cc)
    go (inr x) (inl y) = absurd (let no : Some (root_text t) ≡ None = sym y ∙ x.0 in cc)
    go (inr x) (inr y) = x.1 ∙ sym y.1

-- so files are sound for one state at most
pub sound_once : (f : Files) (s t : StateView) → RootApart f → Sound f s → Sound f t → s ≡ t
sound_once f s t apart a b = root_once f s t apart a.held.valid b.held.valid a.root b.root

pub stored_once : (f : Files) (s t : StateView) → RootApart f → Stored f s → Stored f t → s ≡ t
stored_once f s t apart a b = sound_once f s t apart (stored_sound f s a) (stored_sound f t b)

-- the file of a known package is wrong
no_file : (f : Files) (p : Card) (d : Damage) → IsWrong f p d → HasFile f p → ⊥
no_file f p (Missing path) w h = let no : None ≡ Some h.bytes = sym w.1 ∙ ap f w.0 ∙ h.file in cc
no_file f p (Size path said found) w h =
    let same : Some w.3 ≡ Some h.bytes = sym w.4 ∙ ap f w.0 ∙ h.file in
    let one : w.3 ≡ h.bytes = cc in
    w.2 (w.1 ∙ sym h.size ∙ sym (ap length one) ∙ sym w.5)
no_file f p (Digest path said found) w h = w
no_file f p (Unreadable path line) w h = w

-- ---- the files of packages, one after another
abbrev pub FilesTo : Files → List Card → ℕ → Type 0
FilesTo f list n = (k : ℕ) (d : Card) → k < n → HasFile f (slice_index_or list k d)

below : (k n : ℕ) → k < n + 1 → (k < n) ⊎ (k ≡ n)
below zero zero lt = inr refl
below zero (suc n) lt = inl (omega arith)
below (suc k) zero lt = absurd (omega arith)
below (suc k) (suc n) lt = elim (below k n (omega arith)) [ inl l ↦ inl (omega arith) | inr e ↦ inr (ap suc e) ]

module _ {A : Type 0} (card : A → Card) (rcs : List A) (i : ℕ) (rc : A) (lt : i < length rcs) (is : rc ≡ slice_index_or rcs i rc) where
  at_place : (d : Card) → card rc ≡ slice_index_or (map card rcs) i d
  at_place d = ap card is ∙ sym (get_or-map card rcs i rc d lt)

  pub files_more : (f : Files) → FilesTo f (map card rcs) i → HasFile f (card rc) → FilesTo f (map card rcs) (i + 1)
  files_more f so_far here k d more = elim (below k i more) [
    | inl l ↦ so_far k d l
    | inr e ↦ subst (HasFile f) (at_place d ∙ ap (λ (n : ℕ). slice_index_or (map card rcs) n d) (sym e)) here
  ]

  pub wrong_one : (f : Files) → FilesTo f (map card rcs) i → (w : Damage) → IsWrong f (card rc) w → (p : Card) × IsFirstAmiss f (map card rcs) p × IsWrong f p w
  wrong_one f so_far w wrong = (card rc, first, wrong)
    where
      first : IsFirstAmiss f (map card rcs) (card rc)
      first = record {
        front = take i (map card rcs);
        back = drop (i + 1) (map card rcs);
        split = round (map card rcs) i (card rc) (subst (λ (n : ℕ). i < n) (sym (length-map rcs card)) lt) (at_place (card rc));
        there = λ k d l. let less : k < i = omega (arith, l, length-take i (map card rcs)) in subst (HasFile f) (sym (get_or-take i (map card rcs) k d less)) (so_far k d less);
      }

pub files_all : {A : Type 0} (card : A → Card) (f : Files) (rcs : List A) (i : ℕ) → length rcs ≤ i → FilesTo f (map card rcs) i → All (HasFile f) (map card rcs)
files_all card f rcs i over so_far k d lt = so_far k d (let n : length (map card rcs) ≡ length rcs = length-map rcs card in omega (arith, n))

-- the answer of one that broke off
pub looked_err : {A T : Type 0} (card : A → Card) (f : Files) (rcs : List A) (i : ℕ) (rc : A) → i < length rcs → rc ≡ slice_index_or rcs i rc → FilesTo f (map card rcs) i → (fault : LoadFault) (r : Result T LoadFault) → r ≡ Err fault → IsLookedFor {T = T} f (card rc) (Err fault) → AreLookedFor f (map card rcs) r
looked_err {T = T} card f rcs i rc lt is so_far fault r e w = subst (AreLookedFor f (map card rcs)) (sym e) (go fault w)
  where
    go : (fault : LoadFault) → IsLookedFor {T = T} f (card rc) (Err fault) → AreLookedFor {T = T} f (map card rcs) (Err fault)
    go (Damaged d) w = wrong_one card rcs i rc lt is f so_far d w
    go HostFault w = tt
    go OutOfMemory w = tt

-- what a look found amiss doesn't depend on what it would have given
pub looked_on : (T U : Type 0) (f : Files) (list : List Card) (fault : LoadFault) → AreLookedFor {T = T} f list (Err fault) → AreLookedFor {T = U} f list (Err fault)
looked_on T U f list (Damaged d) h = h
looked_on T U f list HostFault h = tt
looked_on T U f list OutOfMemory h = tt

no_item : {X : Type 0} (P : X → Type 0) → All P []
no_item P k d lt = absurd (omega (arith, lt))

-- the state of an empty store is valid
pub empty_valid : Valid empty
empty_valid = valid_plain [] [] [] (record { packages = no_item _; sorted = tt; few = omega arith; files = no_item _; texts = omega arith }) (record { each = no_item _; lists = no_item _; sorted = tt; few = omega arith }) (record { each = no_item _; lists = no_item _; sorted = tt; few = omega arith })

empty_held : IsHeld empty
empty_held = record { valid = empty_valid; published = refl }

-- a store with no file stands for the empty state
pub empty_open : Open (λ (path : Path). None) empty
empty_open = stored_open (λ path. None) empty
    (record { held = empty_held; root = inr (refl, refl); bodies = no_item _; named = λ p bytes is e. absurd (cc) })
    (λ q is. refl)

pub law_of_open : LawOfOpenStores
law_of_open = record { stored = open_stored; sound = stored_sound; nothing = empty_open }

-- ---- a root and the files
pub loads_none : (f : Files) (r : Result StateView LoadFault) → f root ≡ None → r ≡ Ok empty → MayLoad f r
loads_none f r none is = subst (MayLoad f) (sym is) (record { held = empty_held; root = inr (none, refl); there = λ k d lt. absurd (omega (arith, lt)) })

-- a text that is no root
pub loads_fault : (f : Files) (text : List ℕ) (fault : LoadFault) (r : Result StateView LoadFault) → f root ≡ Some text → r ≡ Err fault → IsLoadOf text (Err fault) → MayLoad f r
loads_fault f text fault r there is w = subst (MayLoad f) (sym is) (go fault w)
  where
    -- no state without a publication has this text as its root
    no_root : (line : ℕ) → IsUnreadable text line → TextsApart text → (s : StateView) → IsHeld s → text ≡ root_text s → ⊥
    no_root line (inl first) apart s held e = first.none s held.valid e
    no_root line (inr has) apart s held e =
        let one : has.state ≡ s = one_state has.state s (subst TextsApart has.is apart) has.valid held.valid (sym has.is ∙ e) in
        has.some (ap (λ (x : StateView). x.publications) one ∙ held.published)

    bad : (path : Path) (line : ℕ) → path ≡ root → (TextsApart text → IsUnreadable text line) → RootApart f → SoundForNone f × IsDamage f (Unreadable path line)
    bad path line at w apart =
        let line_is = w (apart text there) in (
          (λ s sound. elim sound.root [
            | inl e ↦ no_root line line_is (apart text there) s sound.held (let same : Some text ≡ Some (root_text s) = sym there ∙ e in cc)
            | inr e ↦ let no : Some text ≡ None = sym there ∙ e.0 in cc
          ]),
          (at, text, there, line_is),
        )

    go : (fault : LoadFault) → IsLoadOf text (Err fault) → MayLoad f (Err fault)
    go (Damaged (Unreadable path line)) w = bad path line w.0 w.1
    go (Damaged (Missing path)) w = absurd w
    go (Damaged (Size path said found)) w = absurd w
    go (Damaged (Digest path said found)) w = absurd w
    go HostFault w = tt
    go OutOfMemory w = tt

-- a root whose state the pool has the files of, or hasn't
pub loads_files : (f : Files) (s : StateView) (r : Result StateView LoadFault) → IsHeld s → f root ≡ Some (root_text s) → IfOk r (λ loaded. loaded ≡ s) → AreLookedFor f s.known r → MayLoad f r
loads_files f s r held there same w = go r same w
  where
    wrong : (p : Card) (d : Damage) → IsFirstAmiss f s.known p → IsWrong f p d → RootApart f → SoundForNone f
    wrong p d first w apart t sound =
        let one : t ≡ s = root_once f t s apart sound.held.valid held.valid sound.root (inl there) in
        let all : All (HasFile f) s.known = subst (λ (x : StateView). All (HasFile f) x.known) one sound.there in
        let cut : All (HasFile f) (first.front ++ p ∷ first.back) = subst (All (HasFile f)) first.split all in
        no_file f p d w (subst (HasFile f) (get_or-append_seam first.front p first.back p) (cut (length first.front) p (omega (arith, length-append first.front (p ∷ first.back)))))

    listed : (p : Card) → IsFirstAmiss f s.known p → IsListed f p
    listed p first = record { state = s; valid = held.valid; root = inl there; first = first }

    go : (v : Result StateView LoadFault) → IfOk v (λ loaded. loaded ≡ s) → AreLookedFor f s.known v → MayLoad f v
    go (Ok t) e all = subst (Sound f) (sym e) (record { held = held; root = inl there; there = all })
    go (Err (Damaged (Missing path))) e w = λ apart. (wrong w.0 (Missing path) w.1 w.2 apart, (w.0, listed w.0 w.1, w.2))
    go (Err (Damaged (Size path said found))) e w = λ apart. (wrong w.0 (Size path said found) w.1 w.2 apart, (w.0, listed w.0 w.1, w.2))
    go (Err (Damaged (Digest path said found))) e w = absurd w.2
    go (Err (Damaged (Unreadable path line))) e w = absurd w.2
    go (Err HostFault) e w = tt
    go (Err OutOfMemory) e w = tt
