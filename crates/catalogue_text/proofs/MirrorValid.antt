-- The mirrors of a valid state: they are good behind one another, and the other way round; their pieces are cut out of their text.
use Rattle.std.proofs.Common.{◌≡◌, ℕ, Bool, true, false, not, List, [], ◌∷◌, ◌++◌, length, Option, Some, None, IsTrue, IfSome, All, refl, sym, subst, arith, append_assoc}
use Rattle.std.specs.Bool.{◌==◌}
use Rattle.std.specs.List.{list_any, list_all, flat_map}
use Rattle.std.proofs.lemmas.Bool.{and_parts, or_parts}
use Rattle.std.proofs.lemmas.Bool.Decides.{nat_tests}
use Rattle.ap_text.specs.Paths.{is_path_byte}
use Rattle.package_core.specs.Card.{Card}
use Rattle.query_tree.specs.Tree.{Tree}
use Rattle.query_tree.specs.Pieces.{is_control}
use Rattle.query_tree.specs.Written.{written}
use Rattle.machine_state.specs.declared.fetched.Fetched.{Fetched}
use Rattle.machine_state.specs.Ascending as names
use Rattle.machine_state.specs.Mirrors.{IsFetched, IsMirror, MirrorLists}
use Rattle.machine_state.specs.State.{AreMirrors, IsNamedList, mirror_name, mirror_cmp}
use Rattle.machine_state.specs.Values.{MirrorView}
use Rattle.catalogue_lines.specs.declared.shared_values.Listed.{Listed}
use Rattle.catalogue_lines.specs.declared.shared_values.Listed.TheVariants.{Components, Architectures}
use Rattle.catalogue_lines.specs.Lines.{IsPlain}
use Rattle.machine_state.specs.Words.{names_behind, yes_or_no, filter_text}
use Rattle.catalogue_text.specs.Root.{mirror_pieces, mirrors_pieces, updated_pieces}
use Rattle.catalogue_lines.specs.Reading.{Each}
use Rattle.catalogue_text.specs.MirrorReading.{IsPath, IsChoice, GoodUpdated, GoodMirror, GoodMirrors}
use Rattle.catalogue_lines.specs.NameLines.{listed_name}
use Rattle.catalogue_lines.proofs.SharedValues.{path_visible, listed_is_name}
use Rattle.catalogue_text.proofs.MirrorValues.{filter_is_line}
use Rattle.catalogue_lines.proofs.PlainLemmas.{digits_plain, is_name_plain, setting_plain}
use Rattle.catalogue_lines.proofs.SetPieces.{ArePieces, pieces_both, set_are, good_set, named_list, set_short, shorts_both}
use Rattle.catalogue_lines.proofs.TakesLemmas.{Shorts}
use Rattle.catalogue_lines.proofs.ValidLemmas.{all_cons, all_tail, all_none}
use Rattle.catalogue_lines.proofs.NameLemmas.{names_before, names_each}

-- ---- no line end is in their lines
visible_plain : (bs : List ℕ) → list_all is_path_byte bs ≡ true → IsPlain bs
visible_plain [] e = refl
visible_plain (b ∷ bs) e =
    let p = and_parts (is_path_byte b) (list_all is_path_byte bs) e in
    rw (apart b p.0) (visible_plain bs p.1)
  where
    apart : (b : ℕ) → is_path_byte b ≡ true → (b == 10) ≡ false
    apart b h = grind (arith, nat_tests)

path_plain : (most : ℕ) (path : List ℕ) → IsPath most path → IsPlain path
path_plain most path g = visible_plain path (path_visible most path g)

plain_both : (a b : List ℕ) → IsPlain a → IsPlain b → IsPlain (a ++ b)
plain_both [] b p q = q
plain_both (x ∷ xs) b p q = let t = or_parts (x == 10) (list_any (λ c. c == 10) xs) p in rw t.0 (plain_both xs b t.1 q)

names_plain : (listed : Listed) (names : List (List ℕ)) → All (λ name. IsTrue (listed_name listed name)) names → IsPlain (names_behind names)
names_plain listed [] a = refl
names_plain listed (n ∷ ns) a =
    plain_both n (names_behind ns) (is_name_plain n (listed_is_name listed n (a 0 n (omega arith)))) (names_plain listed ns (all_tail (λ name. IsTrue (listed_name listed name)) n ns a))

controls_plain : (bs : List ℕ) → list_all (λ c. not (is_control c)) bs ≡ true → IsPlain bs
unfolding is_control
controls_plain [] e = refl
controls_plain (b ∷ bs) e =
    let p = and_parts (not (is_control b)) (list_all (λ c. not (is_control c)) bs) e in
    rw (apart b p.0) (controls_plain bs p.1)
  where
    apart : (b : ℕ) → not (is_control b) ≡ true → (b == 10) ≡ false
    apart b h = grind (arith, nat_tests)

choice_plain : (filter : Option Tree) → IsChoice filter → IsPlain (filter_text filter)
choice_plain None g = refl
choice_plain (Some t) g = controls_plain (written t) (filter_is_line t g)

flag_plain : (is : Bool) → IsPlain (yes_or_no is)
flag_plain true = refl
flag_plain false = refl

date_plain : (bs : List ℕ) → list_all (λ b. not (b == 10)) bs ≡ true → IsPlain bs
date_plain [] e = refl
date_plain (b ∷ bs) e =
    let p = and_parts (not (b == 10)) (list_all (λ b. not (b == 10)) bs) e in
    rw (turned (b == 10) p.0) (date_plain bs p.1)
  where
    turned : (b : Bool) → not b ≡ true → b ≡ false
    turned true e = cc
    turned false e = refl

-- ---- their pieces
updated_are : (known : List Card) (updated : Option Fetched) → IfSome updated IsFetched → IfSome updated (λ fetched. IsNamedList known fetched.list) → ArePieces (updated_pieces updated)
updated_are known None g l = (refl, tt)
updated_are known (Some f) g l = (refl, (setting_plain f.date (date_plain f.date g.line), set_are f.list l.few))

mirror_are : (known : List Card) (mirror : MirrorView) → IsMirror mirror → MirrorLists known mirror → ArePieces (mirror_pieces mirror)
unfolding mirror_pieces
mirror_are known m g l = (
  is_name_plain m.name g.name,
  (
    path_plain 200 m.archive g.archive,
    (
      path_plain 100 m.distribution g.distribution,
      (
        names_plain Components m.components g.components.each,
        (
          names_plain Architectures m.architectures g.architectures.each,
          (setting_plain (filter_text m.filter) (choice_plain m.filter g.filter), (flag_plain m.with_deps, updated_are known m.updated g.updated l)),
        ),
      ),
    ),
  ),
)

all_are : (known : List Card) (mirrors : List MirrorView) → All IsMirror mirrors → All (MirrorLists known) mirrors → ArePieces (flat_map mirror_pieces mirrors)
all_are known [] r l = tt
all_are known (x ∷ xs) r l =
    pieces_both (mirror_pieces x) (flat_map mirror_pieces xs) (mirror_are known x (r 0 x (omega arith)) (l 0 x (omega arith))) (all_are known xs (all_tail IsMirror x xs r) (all_tail (MirrorLists known) x xs l))

pub mirrors_are : (known : List Card) (mirrors : List MirrorView) → AreMirrors known mirrors → ArePieces (mirrors_pieces mirrors)
unfolding mirrors_pieces
mirrors_are known mirrors v = (digits_plain (length mirrors) (let f = v.few in omega arith), all_are known mirrors v.each v.lists)

updated_short : (updated : Option Fetched) → Shorts (updated_pieces updated)
updated_short None = tt
updated_short (Some f) = set_short f.list

mirror_short : (mirror : MirrorView) → Shorts (mirror_pieces mirror)
unfolding mirror_pieces
mirror_short m = updated_short m.updated

all_short : (mirrors : List MirrorView) → Shorts (flat_map mirror_pieces mirrors)
all_short [] = tt
all_short (x ∷ xs) = shorts_both (mirror_pieces x) (flat_map mirror_pieces xs) (mirror_short x) (all_short xs)

pub mirrors_short : (mirrors : List MirrorView) → Shorts (mirrors_pieces mirrors)
unfolding mirrors_pieces
mirrors_short mirrors = all_short mirrors

-- ---- valid ones are good behind one another
module _ (known : List Card) where
  good_updated : (updated : Option Fetched) → IfSome updated IsFetched → IfSome updated (λ fetched. IsNamedList known fetched.list) → GoodUpdated known updated
  good_updated None g l = tt
  good_updated (Some f) g l = (g, good_set known f.list l)

  each_mirror : (done xs : List MirrorView) → All IsMirror xs → All (MirrorLists known) xs → names.IsAscending mirror_cmp (done ++ xs) → Each (GoodMirror known) done xs
  each_mirror done [] r l a = tt
  each_mirror done (x ∷ xs) r l a = let m = r 0 x (omega arith) in (
    record {
      name = (m.name, names_before mirror_name done x xs a);
      place = (m.archive, m.distribution);
      lists = (m.components, m.architectures);
      choice = (m.filter, tt);
      updated = good_updated x.updated m.updated (l 0 x (omega arith));
    },
    each_mirror (done ++ x ∷ []) xs (all_tail IsMirror x xs r) (all_tail (MirrorLists known) x xs l) (subst (names.IsAscending mirror_cmp) (sym (append_assoc done (x ∷ []) xs)) a),
  )

  pub good_mirrors : (mirrors : List MirrorView) → AreMirrors known mirrors → GoodMirrors known mirrors
  good_mirrors mirrors v = (v.few, each_mirror [] mirrors v.each v.lists v.sorted)

  -- ---- good ones are valid
  fetched_is : (updated : Option Fetched) → GoodUpdated known updated → IfSome updated IsFetched
  fetched_is None g = tt
  fetched_is (Some f) g = g.0

  fetched_list : (updated : Option Fetched) → GoodUpdated known updated → IfSome updated (λ fetched. IsNamedList known fetched.list)
  fetched_list None g = tt
  fetched_list (Some f) g = named_list known f.list g.1

  all_mirrors : (done xs : List MirrorView) → Each (GoodMirror known) done xs → All IsMirror xs
  all_mirrors done [] e = all_none IsMirror
  all_mirrors done (x ∷ xs) e = let g = e.0 in all_cons IsMirror x xs (record {
    name = g.name.0;
    archive = g.place.0;
    distribution = g.place.1;
    components = g.lists.0;
    architectures = g.lists.1;
    filter = g.choice.0;
    updated = fetched_is x.updated g.updated;
  }) (all_mirrors (done ++ x ∷ []) xs e.1)

  mirror_lists : (done xs : List MirrorView) → Each (GoodMirror known) done xs → All (MirrorLists known) xs
  mirror_lists done [] e = all_none (MirrorLists known)
  mirror_lists done (x ∷ xs) e = all_cons (MirrorLists known) x xs (fetched_list x.updated e.0.updated) (mirror_lists (done ++ x ∷ []) xs e.1)

  pub valid_mirrors : (mirrors : List MirrorView) → GoodMirrors known mirrors → AreMirrors known mirrors
  valid_mirrors mirrors g = record {
    each = all_mirrors [] mirrors g.1;
    lists = mirror_lists [] mirrors g.1;
    sorted = names_each mirror_name (GoodMirror known) (λ done x g. g.name.1) [] mirrors tt g.1;
    few = g.0;
  }
