-- The mirrors of a root, part by part.
use Rattle.std.proofs.Common.{◌≡◌, ℕ, ◌<◌, ◌≤◌, Bool, true, false, List, [], ◌++◌, length, codes, Option, Some, None, refl, sym, subst, arith}
use Rattle.std.specs.List.{flat_map}
use Rattle.std.specs.Option.{is_some}
use Rattle.std.proofs.lemmas.List.{append_cancel_left}
use Rattle.ap_text.specs.Names.{is_component}
use Rattle.package_core.specs.Card.{Card}
use Rattle.query_tree.specs.Tree.{Tree}
use Rattle.machine_state.specs.declared.fetched.Fetched.{Fetched}
use Rattle.machine_state.specs.declared.limit.Limit.TheVariants.{Mirrors}
use Rattle.machine_state.specs.Limits.{limit_number}
use Rattle.machine_state.specs.State.{mirror_name}
use Rattle.machine_state.specs.Texts.{IsDate, AreNames, is_listed}
use Rattle.machine_state.specs.Values.{MirrorView}
use Rattle.catalogue_lines.specs.declared.shared_values.Listed.TheVariants.{Components, Architectures}
use Rattle.catalogue_lines.specs.Lines.{IsLine}
use Rattle.catalogue_lines.specs.Pieces.{Piece, Takes}
use Rattle.machine_state.specs.Words.{blank_and, names_behind, yes_or_no, filter_text}
use Rattle.catalogue_text.specs.MirrorLines.{mirrors_line, mirror_line, archive_line, place_line, components_line, filter_line, deps_line, updated_line, date_line}
use Rattle.catalogue_lines.specs.NameLines.{architectures_line}
use Rattle.catalogue_lines.specs.SetLines.{set_pieces}
use Rattle.catalogue_text.specs.Root.{updated_pieces, mirror_pieces, mirrors_pieces}
use Rattle.catalogue_lines.specs.PartForms.{Line, Series, Count, SetPart, IsNext, Then}
use Rattle.catalogue_text.specs.Grammar.{FetchedPart, UpdatedPart, NextMirror, MirrorsPart}
use Rattle.catalogue_lines.specs.Reading.{NoLine, ReadsLine, ReadsPart, ReadsSeries, Stops, Each, GoodSet, IdsApart}
use Rattle.catalogue_text.specs.MirrorReading.{IsPath, IsChoice, IsEither, PlacePart, place_pieces, GoodPlace, ListsPart, lists_pieces, GoodLists, ChoicePart, choice_pieces, GoodChoice, SettingsPart, settings_pieces, GoodSettings, DatedPart, dated_pieces, GoodDated, GoodUpdated, GoodMirror, GoodMirrors}
use Rattle.catalogue_lines.proofs.Parts.{IsPart, IsTold, Others, IsOther, line_of, line_part, line_told, stops_line, stops_first, stops_then, stops_as, both_part, both_told, as_part, as_told, then_part, then_told, stops_in_first, stops_in_second, reads_then, line_read, line_in, line_up, series_part, series_told, stops_series, part_when}
use Rattle.catalogue_lines.proofs.SharedValues.{names_apart}
use Rattle.catalogue_text.proofs.MirrorValues.{filters_apart}
use Rattle.catalogue_lines.proofs.ValueLemmas.{settings_apart}
use Rattle.catalogue_lines.proofs.ReadLemmas.{counted_in, counted_up}
use Rattle.catalogue_lines.proofs.KnownParts.{GoodOf, count_part, count_told, set_part, set_told}

-- ---- each line
texts_apart : (key a b : List ℕ) → key ++ a ≡ key ++ b → b ≡ a
texts_apart key a b e = sym (append_cancel_left key a b e)

flags_apart : (a b : Bool) → yes_or_no a ≡ yes_or_no b → b ≡ a
flags_apart true true e = refl
flags_apart true false e = cc
flags_apart false true e = cc
flags_apart false false e = refl

pub archive_part : IsPart (Line archive_line (IsPath 200)) (line_of archive_line) (IsPath 200)
archive_part = line_part archive_line (IsPath 200) (λ a g. refl)

pub archive_told : IsTold (Line archive_line (IsPath 200)) (line_of archive_line) (IsPath 200)
archive_told = line_told archive_line (IsPath 200) (λ a b g h e. texts_apart (codes "archive ") a b e)

pub distribution_part : IsPart (Line place_line (IsPath 100)) (line_of place_line) (IsPath 100)
distribution_part = line_part place_line (IsPath 100) (λ a g. refl)

pub distribution_told : IsTold (Line place_line (IsPath 100)) (line_of place_line) (IsPath 100)
distribution_told = line_told place_line (IsPath 100) (λ a b g h e. texts_apart (codes "distribution ") a b e)

pub components_part : IsPart (Line components_line (AreNames is_component)) (line_of components_line) (AreNames is_component)
components_part = line_part components_line (AreNames is_component) (λ a g. refl)

pub components_told : IsTold (Line components_line (AreNames is_component)) (line_of components_line) (AreNames is_component)
components_told = line_told components_line (AreNames is_component) (λ a b g h e. names_apart Components b a h g (texts_apart (codes "components") (names_behind a) (names_behind b) e))

pub architectures_part : IsPart (Line architectures_line (AreNames is_listed)) (line_of architectures_line) (AreNames is_listed)
architectures_part = line_part architectures_line (AreNames is_listed) (λ a g. refl)

pub architectures_told : IsTold (Line architectures_line (AreNames is_listed)) (line_of architectures_line) (AreNames is_listed)
architectures_told = line_told architectures_line (AreNames is_listed) (λ a b g h e. names_apart Architectures b a h g (texts_apart (codes "architectures") (names_behind a) (names_behind b) e))

pub filter_part : IsPart (Line filter_line IsChoice) (line_of filter_line) IsChoice
filter_part = line_part filter_line IsChoice (λ a g. refl)

pub filter_told : IsTold (Line filter_line IsChoice) (line_of filter_line) IsChoice
filter_told = line_told filter_line IsChoice (λ a b g h e. filters_apart b a h g (settings_apart (filter_text b) (filter_text a) (texts_apart (codes "filter") (blank_and (filter_text a)) (blank_and (filter_text b)) e)))

pub deps_part : IsPart (Line deps_line IsEither) (line_of deps_line) IsEither
deps_part = line_part deps_line IsEither (λ a g. refl)

pub deps_told : IsTold (Line deps_line IsEither) (line_of deps_line) IsEither
deps_told = line_told deps_line IsEither (λ a b g h e. flags_apart a b (sym (texts_apart (codes "with-deps ") (yes_or_no a) (yes_or_no b) e)))

pub flag_part : IsPart (Line updated_line IsEither) (line_of updated_line) IsEither
flag_part = line_part updated_line IsEither (λ a g. refl)

pub flag_told : IsTold (Line updated_line IsEither) (line_of updated_line) IsEither
flag_told = line_told updated_line IsEither (λ a b g h e. flags_apart a b (sym (texts_apart (codes "updated ") (yes_or_no a) (yes_or_no b) e)))

pub date_part : IsPart (Line date_line IsDate) (line_of date_line) IsDate
date_part = line_part date_line IsDate (λ a g. refl)

pub date_told : IsTold (Line date_line IsDate) (line_of date_line) IsDate
date_told = line_told date_line IsDate (λ a b g h e. settings_apart b a (texts_apart (codes "date") (blank_and a) (blank_and b) e))

-- ---- the settings, group by group
pub place_part : IsPart PlacePart place_pieces GoodPlace
place_part = then_part (Line archive_line (IsPath 200)) (Line place_line (IsPath 100)) (line_of archive_line) (line_of place_line) (IsPath 200) (IsPath 100) archive_part distribution_part

pub place_told : IsTold PlacePart place_pieces GoodPlace
place_told = then_told (Line archive_line (IsPath 200)) (Line place_line (IsPath 100)) (line_of archive_line) (line_of place_line) (IsPath 200) (IsPath 100) archive_part archive_told distribution_told

pub lists_part : IsPart ListsPart lists_pieces GoodLists
lists_part = then_part (Line components_line (AreNames is_component)) (Line architectures_line (AreNames is_listed)) (line_of components_line) (line_of architectures_line) (AreNames is_component) (AreNames is_listed) components_part architectures_part

pub lists_told : IsTold ListsPart lists_pieces GoodLists
lists_told = then_told (Line components_line (AreNames is_component)) (Line architectures_line (AreNames is_listed)) (line_of components_line) (line_of architectures_line) (AreNames is_component) (AreNames is_listed) components_part components_told architectures_told

pub choice_part : IsPart ChoicePart choice_pieces GoodChoice
choice_part = then_part (Line filter_line IsChoice) (Line deps_line IsEither) (line_of filter_line) (line_of deps_line) IsChoice IsEither filter_part deps_part

pub choice_told : IsTold ChoicePart choice_pieces GoodChoice
choice_told = then_told (Line filter_line IsChoice) (Line deps_line IsEither) (line_of filter_line) (line_of deps_line) IsChoice IsEither filter_part filter_told deps_told

abbrev pub MorePart : ((List (List ℕ) × List (List ℕ)) × (Option Tree × Bool) → List Piece → Type 0) → List Piece → Type 0
MorePart = Then ListsPart ChoicePart

abbrev pub more_pieces : (List (List ℕ) × List (List ℕ)) × (Option Tree × Bool) → List Piece
more_pieces more = lists_pieces more.0 ++ choice_pieces more.1

abbrev pub GoodMore : (List (List ℕ) × List (List ℕ)) × (Option Tree × Bool) → Type 0
GoodMore more = GoodLists more.0 × GoodChoice more.1

pub more_part : IsPart MorePart more_pieces GoodMore
more_part = then_part ListsPart ChoicePart lists_pieces choice_pieces GoodLists GoodChoice lists_part choice_part

pub more_told : IsTold MorePart more_pieces GoodMore
more_told = then_told ListsPart ChoicePart lists_pieces choice_pieces GoodLists GoodChoice lists_part lists_told choice_told

pub settings_part : IsPart SettingsPart settings_pieces GoodSettings
settings_part = then_part PlacePart MorePart place_pieces more_pieces GoodPlace GoodMore place_part more_part

pub settings_told : IsTold SettingsPart settings_pieces GoodSettings
settings_told = then_told PlacePart MorePart place_pieces more_pieces GoodPlace GoodMore place_part place_told more_told

-- ---- where the settings stop
pub place_first : (text : List ℕ) → NoLine archive_line (IsPath 200) text → Stops PlacePart text (length text)
place_first text none = line_in archive_line (IsPath 200) (Line place_line (IsPath 100)) (line_of place_line) (IsPath 100) archive_part distribution_part text none

pub place_second : (text rest archive : List ℕ) → ReadsLine archive_line (IsPath 200) text archive rest → NoLine place_line (IsPath 100) rest → Stops PlacePart text (length rest)
place_second text rest archive r none =
    line_up archive_line (IsPath 200) (Line place_line (IsPath 100)) (line_of place_line) (IsPath 100) archive_part distribution_part archive_told text rest (length rest) archive r (stops_line place_line (IsPath 100) rest none)

pub lists_first : (text : List ℕ) → NoLine components_line (AreNames is_component) text → Stops ListsPart text (length text)
lists_first text none =
    line_in components_line (AreNames is_component) (Line architectures_line (AreNames is_listed)) (line_of architectures_line) (AreNames is_listed) components_part architectures_part text none

pub lists_second : (text rest : List ℕ) (components : List (List ℕ)) → ReadsLine components_line (AreNames is_component) text components rest → NoLine architectures_line (AreNames is_listed) rest → Stops ListsPart text (length rest)
lists_second text rest components r none =
    line_up components_line (AreNames is_component) (Line architectures_line (AreNames is_listed)) (line_of architectures_line) (AreNames is_listed) components_part architectures_part components_told text rest (length rest) components r
    (stops_line architectures_line (AreNames is_listed) rest none)

pub choice_first : (text : List ℕ) → NoLine filter_line IsChoice text → Stops ChoicePart text (length text)
choice_first text none = line_in filter_line IsChoice (Line deps_line IsEither) (line_of deps_line) IsEither filter_part deps_part text none

pub choice_second : (text rest : List ℕ) (filter : Option Tree) → ReadsLine filter_line IsChoice text filter rest → NoLine deps_line IsEither rest → Stops ChoicePart text (length rest)
choice_second text rest filter r none =
    line_up filter_line IsChoice (Line deps_line IsEither) (line_of deps_line) IsEither filter_part deps_part filter_told text rest (length rest) filter r (stops_line deps_line IsEither rest none)

pub settings_first : (text : List ℕ) (left : ℕ) → Stops PlacePart text left → Stops SettingsPart text left
settings_first text left s = stops_in_first PlacePart MorePart place_pieces more_pieces GoodPlace GoodMore place_part more_part text left s

pub settings_second : (text rest : List ℕ) (left : ℕ) (place : List ℕ × List ℕ) → ReadsPart place_pieces GoodPlace text place rest → Stops ListsPart rest left → Stops SettingsPart text left
settings_second text rest left place r s =
    stops_in_second PlacePart MorePart place_pieces more_pieces GoodPlace GoodMore place_part place_told text rest left place r
    (stops_in_first ListsPart ChoicePart lists_pieces choice_pieces GoodLists GoodChoice lists_part choice_part rest left s)

pub settings_third : (text rest behind : List ℕ) (left : ℕ) (place : List ℕ × List ℕ) (lists : List (List ℕ) × List (List ℕ)) → ReadsPart place_pieces GoodPlace text place rest → ReadsPart lists_pieces GoodLists rest lists behind → Stops ChoicePart behind left → Stops SettingsPart text left
settings_third text rest behind left place lists r q s =
    stops_in_second PlacePart MorePart place_pieces more_pieces GoodPlace GoodMore place_part place_told text rest left place r
    (stops_in_second ListsPart ChoicePart lists_pieces choice_pieces GoodLists GoodChoice lists_part lists_told rest behind left lists q s)

pub settings_read : (text r1 r2 rest : List ℕ) (place : List ℕ × List ℕ) (lists : List (List ℕ) × List (List ℕ)) (choice : Option Tree × Bool) → ReadsPart place_pieces GoodPlace text place r1 → ReadsPart lists_pieces GoodLists r1 lists r2 → ReadsPart choice_pieces GoodChoice r2 choice rest
    → ReadsPart settings_pieces GoodSettings text (place, (lists, choice)) rest
settings_read text r1 r2 rest place lists choice a b c = reads_then place_pieces more_pieces GoodPlace GoodMore text r1 rest place (lists, choice) a (reads_then lists_pieces choice_pieces GoodLists GoodChoice r1 r2 rest lists choice b c)

-- ---- what was fetched
module _ (known : List Card) where
  pub dated_part : IsPart (DatedPart known) dated_pieces (GoodDated known)
  dated_part = then_part (Line date_line IsDate) (SetPart known) (line_of date_line) set_pieces IsDate (GoodSet known) date_part (set_part known)

  pub dated_told : IdsApart known → IsTold (DatedPart known) dated_pieces (GoodDated known)
  dated_told apart = then_told (Line date_line IsDate) (SetPart known) (line_of date_line) set_pieces IsDate (GoodSet known) date_part date_told (set_told known apart)

  pub dated_first : (text : List ℕ) → NoLine date_line IsDate text → Stops (DatedPart known) text (length text)
  dated_first text none = line_in date_line IsDate (SetPart known) set_pieces (GoodSet known) date_part (set_part known) text none

  pub dated_second : (text rest : List ℕ) (left : ℕ) (date : List ℕ) → ReadsLine date_line IsDate text date rest → Stops (SetPart known) rest left → Stops (DatedPart known) text left
  dated_second text rest left date r s = line_up date_line IsDate (SetPart known) set_pieces (GoodSet known) date_part (set_part known) date_told text rest left date r s

  abbrev pub fetched_of : List ℕ × List Card → Option Fetched
  fetched_of dated = Some (record { date = dated.0; list = dated.1 })

  abbrev pub fetched_pieces : Option Fetched → List Piece
  fetched_pieces None = []
  fetched_pieces (Some fetched) = dated_pieces (fetched.date, fetched.list)

  abbrev pub GoodFlagged : Bool → Option Fetched → Type 0
  GoodFlagged is updated = (is ≡ is_some updated) × GoodUpdated known updated

  fetched_along : (is : Bool) (K : Option Fetched → List Piece → Type 0) (updated : Option Fetched) (more : List Piece) → GoodFlagged is updated → K updated more → FetchedPart known is K (fetched_pieces updated ++ more)
  fetched_along false K None more g k = k
  fetched_along false K (Some f) more g k = let e = g.0 in cc
  fetched_along true K None more g k = let e = g.0 in cc
  fetched_along true K (Some f) more g k = dated_part.along (λ d. K (fetched_of d)) (f.date, f.list) more g.1 k

  fetched_mono : (is : Bool) (K L : Option Fetched → List Piece → Type 0) → ((a : Option Fetched) (xs : List Piece) → K a xs → L a xs) → (xs : List Piece) → FetchedPart known is K xs → FetchedPart known is L xs
  fetched_mono false K L h xs p = h None xs p
  fetched_mono true K L h xs p = dated_part.mono (λ d. K (fetched_of d)) (λ d. L (fetched_of d)) (λ d ys q. h (fetched_of d) ys q) xs p

  fetched_front : (is : Bool) (K : Option Fetched → List Piece → Type 0) → ((a : Option Fetched) (xs ys : List Piece) → K a (xs ++ ys) → K a xs) → (xs ys : List Piece) → FetchedPart known is K (xs ++ ys) → FetchedPart known is K xs
  fetched_front false K h xs ys p = h None xs ys p
  fetched_front true K h xs ys p = dated_part.front (λ d. K (fetched_of d)) (λ d us vs q. h (fetched_of d) us vs q) xs ys p

  fetched_others : (is : Bool) (K : Option Fetched → List Piece → Type 0) → ((a : Option Fetched) (xs : List Piece) → K a xs → Others xs) → (xs : List Piece) → FetchedPart known is K xs → Others xs
  fetched_others false K h xs p = h None xs p
  fetched_others true K h xs p = dated_part.others (λ d. K (fetched_of d)) (λ d ys q. h (fetched_of d) ys q) xs p

  pub fetched_part : (is : Bool) → IsPart (FetchedPart known is) fetched_pieces (GoodFlagged is)
  fetched_part is = record { along = fetched_along is; mono = fetched_mono is; front = fetched_front is; others = fetched_others is }

  pub fetched_told : IdsApart known → (is : Bool) → IsTold (FetchedPart known is) fetched_pieces (GoodFlagged is)
  fetched_told apart false K None more g p = p
  fetched_told apart false K (Some f) more g p = let e = g.0 in cc
  fetched_told apart true K None more g p = let e = g.0 in cc
  fetched_told apart true K (Some f) more g p = dated_told apart (λ d. K (fetched_of d)) (f.date, f.list) more g.1 p

  updated_is : (updated : Option Fetched) → updated_pieces updated ≡ line_of updated_line (is_some updated) ++ fetched_pieces updated
  updated_is None = refl
  updated_is (Some f) = refl

  flagged : (updated : Option Fetched) → GoodUpdated known updated → Unit {0} × GoodFlagged (is_some updated) updated
  flagged updated g = (tt, (refl, g))

  pub updated_part : IsPart (UpdatedPart known) updated_pieces (GoodUpdated known)
  updated_part = subst (λ (f : Option Fetched → List Piece). IsPart (UpdatedPart known) f (GoodUpdated known)) (λ i updated. sym (updated_is updated) i)
      (part_when (UpdatedPart known) _ _ (GoodUpdated known) flagged
      (both_part (Line updated_line IsEither) (FetchedPart known) (line_of updated_line) fetched_pieces IsEither GoodFlagged is_some flag_part fetched_part))

  pub updated_told : IdsApart known → IsTold (UpdatedPart known) updated_pieces (GoodUpdated known)
  updated_told apart = subst (λ (f : Option Fetched → List Piece). IsTold (UpdatedPart known) f (GoodUpdated known)) (λ i updated. sym (updated_is updated) i)
      (λ K a more g. both_told (Line updated_line IsEither) (FetchedPart known) (line_of updated_line) fetched_pieces IsEither GoodFlagged is_some flag_part fetched_part flag_told (fetched_told apart) K a more (flagged a g))

  pub updated_first : (text : List ℕ) → NoLine updated_line IsEither text → Stops (UpdatedPart known) text (length text)
  updated_first text none = stops_first (Line updated_line IsEither) (FetchedPart known) (line_of updated_line) fetched_pieces IsEither GoodFlagged is_some flag_part fetched_part text (length text) (stops_line updated_line IsEither text none)

  pub updated_rest : (text rest : List ℕ) (left : ℕ) → IsLine text (updated_line true) rest → Stops (DatedPart known) rest left → Stops (UpdatedPart known) text left
  updated_rest text rest left l s =
      stops_then (Line updated_line IsEither) (FetchedPart known) (line_of updated_line) fetched_pieces IsEither GoodFlagged is_some flag_part fetched_part flag_told text rest left true tt (rest, l, refl)
      (stops_as (DatedPart known) dated_pieces (GoodDated known) fetched_of (λ updated. ([], [])) dated_part rest left s)

  pub updated_none : (text rest : List ℕ) → IsLine text (updated_line false) rest → ReadsPart updated_pieces (GoodUpdated known) text None rest
  updated_none text rest l = record { good = tt; takes = (rest, l, refl) }

  pub updated_some : (text mid rest : List ℕ) (fetched : Fetched) → IsLine text (updated_line true) mid → ReadsPart dated_pieces (GoodDated known) mid (fetched.date, fetched.list) rest → ReadsPart updated_pieces (GoodUpdated known) text (Some fetched) rest
  updated_some text mid rest fetched l r = record { good = r.good; takes = (mid, l, r.takes) }

-- ---- a mirror
abbrev pub Settings : Type 0
Settings = (List ℕ × List ℕ) × ((List (List ℕ) × List (List ℕ)) × (Option Tree × Bool))

abbrev pub Mirrored : Type 0
Mirrored = List ℕ × (Settings × Option Fetched)

abbrev pub mirror_of : Mirrored → MirrorView
mirror_of m = record {
  name = m.0;
  archive = m.1.0.0.0;
  distribution = m.1.0.0.1;
  components = m.1.0.1.0.0;
  architectures = m.1.0.1.0.1;
  filter = m.1.0.1.1.0;
  with_deps = m.1.0.1.1.1;
  updated = m.1.1;
}

abbrev pub settings_in : MirrorView → Settings
settings_in m = ((m.archive, m.distribution), ((m.components, m.architectures), (m.filter, m.with_deps)))

abbrev pub mirrored : MirrorView → Mirrored
mirrored m = (m.name, (settings_in m, m.updated))

module _ (known : List Card) (before : List MirrorView) where
  abbrev pub IsNextMirror : List ℕ → Type 0
  IsNextMirror = IsNext mirror_name before

  abbrev pub FromSettings : (Settings × Option Fetched → List Piece → Type 0) → List Piece → Type 0
  FromSettings = Then SettingsPart (UpdatedPart known)

  abbrev pub from_settings_pieces : Settings × Option Fetched → List Piece
  from_settings_pieces p = settings_pieces p.0 ++ updated_pieces p.1

  abbrev pub GoodFromSettings : Settings × Option Fetched → Type 0
  GoodFromSettings p = GoodSettings p.0 × GoodUpdated known p.1

  abbrev pub Whole : (Mirrored → List Piece → Type 0) → List Piece → Type 0
  Whole = Then (Line mirror_line IsNextMirror) FromSettings

  abbrev pub whole_pieces : Mirrored → List Piece
  whole_pieces p = line_of mirror_line p.0 ++ from_settings_pieces p.1

  abbrev pub GoodWhole : Mirrored → Type 0
  GoodWhole p = IsNextMirror p.0 × GoodFromSettings p.1

  pub mirror_name_part : IsPart (Line mirror_line IsNextMirror) (line_of mirror_line) IsNextMirror
  mirror_name_part = line_part mirror_line IsNextMirror (λ a g. refl)

  pub mirror_name_told : IsTold (Line mirror_line IsNextMirror) (line_of mirror_line) IsNextMirror
  mirror_name_told = line_told mirror_line IsNextMirror (λ a b g h e. texts_apart (codes "mirror ") a b e)

  pub from_settings : IsPart FromSettings from_settings_pieces GoodFromSettings
  from_settings = then_part SettingsPart (UpdatedPart known) settings_pieces updated_pieces GoodSettings (GoodUpdated known) settings_part (updated_part known)

  pub whole_part : IsPart Whole whole_pieces GoodWhole
  whole_part = then_part (Line mirror_line IsNextMirror) FromSettings (line_of mirror_line) from_settings_pieces IsNextMirror GoodFromSettings mirror_name_part from_settings

  good_mirror : (m : MirrorView) → GoodMirror known before m → GoodWhole (mirrored m) × (mirror_of (mirrored m) ≡ m)
  good_mirror m g = ((g.name, ((g.place, (g.lists, g.choice)), g.updated)), refl)

  pub mirror_part : IsPart (NextMirror known before) mirror_pieces (GoodMirror known before)
  unfolding NextMirror mirror_pieces
  mirror_part = part_when (NextMirror known before) mirror_pieces _ (GoodMirror known before) good_mirror (as_part Whole whole_pieces GoodWhole mirror_of mirrored whole_part)

  whole_told : IdsApart known → IsTold Whole whole_pieces GoodWhole
  whole_told apart = then_told (Line mirror_line IsNextMirror) FromSettings (line_of mirror_line) from_settings_pieces IsNextMirror GoodFromSettings mirror_name_part mirror_name_told
      (then_told SettingsPart (UpdatedPart known) settings_pieces updated_pieces GoodSettings (GoodUpdated known) settings_part settings_told (updated_told known apart))

  pub mirror_told : IdsApart known → IsTold (NextMirror known before) mirror_pieces (GoodMirror known before)
  unfolding NextMirror mirror_pieces
  mirror_told apart K m more g p = as_told Whole whole_pieces GoodWhole mirror_of mirrored whole_part (whole_told apart) K m more (good_mirror m g) p

  as_mirror : (text : List ℕ) (left : ℕ) → Stops Whole text left → Stops (NextMirror known before) text left
  unfolding NextMirror
  as_mirror text left s = stops_as Whole whole_pieces GoodWhole mirror_of mirrored whole_part text left s

  pub at_mirror : (text : List ℕ) (left : ℕ) → Stops (Line mirror_line IsNextMirror) text left → Stops (NextMirror known before) text left
  at_mirror text left s = as_mirror text left (stops_in_first (Line mirror_line IsNextMirror) FromSettings (line_of mirror_line) from_settings_pieces IsNextMirror GoodFromSettings mirror_name_part from_settings text left s)

  past_mirror : (text rest : List ℕ) (left : ℕ) (name : List ℕ) → ReadsLine mirror_line IsNextMirror text name rest → Stops FromSettings rest left → Stops (NextMirror known before) text left
  past_mirror text rest left name r s =
      as_mirror text left (stops_in_second (Line mirror_line IsNextMirror) FromSettings (line_of mirror_line) from_settings_pieces IsNextMirror GoodFromSettings mirror_name_part mirror_name_told text rest left name (line_read mirror_line IsNextMirror text rest name r) s)

  pub at_settings : (text rest : List ℕ) (left : ℕ) (name : List ℕ) → ReadsLine mirror_line IsNextMirror text name rest → Stops SettingsPart rest left → Stops (NextMirror known before) text left
  at_settings text rest left name r s =
      past_mirror text rest left name r (stops_in_first SettingsPart (UpdatedPart known) settings_pieces updated_pieces GoodSettings (GoodUpdated known) settings_part (updated_part known) rest left s)

  pub at_updated : (text rest behind : List ℕ) (left : ℕ) (name : List ℕ) (s : Settings) → ReadsLine mirror_line IsNextMirror text name rest → ReadsPart settings_pieces GoodSettings rest s behind → Stops (UpdatedPart known) behind left → Stops (NextMirror known before) text left
  at_updated text rest behind left name s r q u =
      past_mirror text rest left name r (stops_in_second SettingsPart (UpdatedPart known) settings_pieces updated_pieces GoodSettings (GoodUpdated known) settings_part settings_told rest behind left s q u)

  pub mirror_read : (text r1 r2 rest name : List ℕ) (s : Settings) (u : Option Fetched) → ReadsLine mirror_line IsNextMirror text name r1 → ReadsPart settings_pieces GoodSettings r1 s r2 → ReadsPart updated_pieces (GoodUpdated known) r2 u rest
      → ReadsPart mirror_pieces (GoodMirror known before) text (mirror_of (name, (s, u))) rest
  unfolding mirror_pieces
  mirror_read text r1 r2 rest name s u r q w = record {
    good = record { name = r.0; place = q.good.0; lists = q.good.1.0; choice = q.good.1.1; updated = w.good };
    takes = (reads_then (line_of mirror_line) from_settings_pieces IsNextMirror GoodFromSettings text r1 rest name (s, u) (line_read mirror_line IsNextMirror text r1 name r)
        (reads_then settings_pieces updated_pieces GoodSettings (GoodUpdated known) r1 r2 rest s u q w)).takes;
  }

-- ---- all mirrors
module _ (known : List Card) where
  mirrors_other : (n : ℕ) → IsOther (mirrors_line n)
  mirrors_other n = refl

  good_mirrors : (mirrors : List MirrorView) → GoodMirrors known mirrors → (length mirrors ≤ limit_number Mirrors) × GoodOf (GoodMirror known) (length mirrors) mirrors
  good_mirrors mirrors g = (g.0, (refl, g.1))

  pub mirrors_part : IsPart (MirrorsPart known) mirrors_pieces (GoodMirrors known)
  unfolding MirrorsPart mirrors_pieces
  mirrors_part = part_when (MirrorsPart known) mirrors_pieces _ (GoodMirrors known) good_mirrors
      (both_part (Count mirrors_line (limit_number Mirrors)) (λ n. Series n (NextMirror known) []) (line_of mirrors_line) (flat_map mirror_pieces) (λ n. n ≤ limit_number Mirrors) (GoodOf (GoodMirror known)) length
      (count_part mirrors_line (limit_number Mirrors) mirrors_other) (series_part (NextMirror known) mirror_pieces (GoodMirror known) (mirror_part known)))

  pub mirrors_told : IdsApart known → IsTold (MirrorsPart known) mirrors_pieces (GoodMirrors known)
  unfolding MirrorsPart mirrors_pieces
  mirrors_told apart K mirrors more g p =
      both_told (Count mirrors_line (limit_number Mirrors)) (λ n. Series n (NextMirror known) []) (line_of mirrors_line) (flat_map mirror_pieces) (λ n. n ≤ limit_number Mirrors) (GoodOf (GoodMirror known)) length
      (count_part mirrors_line (limit_number Mirrors) mirrors_other) (series_part (NextMirror known) mirror_pieces (GoodMirror known) (mirror_part known))
      (count_told (codes "mirrors ") (limit_number Mirrors) (omega arith)) (series_told (NextMirror known) mirror_pieces (GoodMirror known) (mirror_part known) (λ before. mirror_told known before apart)) K mirrors more (good_mirrors mirrors g) p

  pub stops_mirrors : IdsApart known → (count : ℕ) (text rest : List ℕ) (xs : List MirrorView) (left : ℕ) → length xs < count → Each (GoodMirror known) [] xs → Takes text (flat_map mirror_pieces xs) rest → Stops (NextMirror known xs) rest left → Stops (Series count (NextMirror known) []) text left
  stops_mirrors apart count text rest xs left few g t s = stops_series (NextMirror known) mirror_pieces (GoodMirror known) (mirror_part known) (λ before. mirror_told known before apart) count text rest xs left few g t s

  pub mirrors_count : (text : List ℕ) (most : ℕ) → most ≡ limit_number Mirrors → NoLine mirrors_line (λ n. n ≤ most) text → Stops (MirrorsPart known) text (length text)
  unfolding MirrorsPart
  mirrors_count text most e none = counted_in (codes "mirrors ") (limit_number Mirrors) mirrors_other (omega arith) (NextMirror known) mirror_pieces (GoodMirror known) (mirror_part known) text most e none

  pub mirrors_rest : (text mid : List ℕ) (n most left : ℕ) → most ≡ limit_number Mirrors → n ≤ most → IsLine text (mirrors_line n) mid → Stops (Series n (NextMirror known) []) mid left → Stops (MirrorsPart known) text left
  unfolding MirrorsPart
  mirrors_rest text mid n most left e few m s = counted_up (codes "mirrors ") (limit_number Mirrors) mirrors_other (omega arith) (NextMirror known) mirror_pieces (GoodMirror known) (mirror_part known) text mid n left (omega arith) m s

  pub mirrors_read : (text mid : List ℕ) (n most : ℕ) → most ≡ limit_number Mirrors → n ≤ most → IsLine text (mirrors_line n) mid → (xs : List MirrorView) (behind : List ℕ) → ReadsSeries mirror_pieces (GoodMirror known) n mid xs behind → ReadsPart mirrors_pieces (GoodMirrors known) text xs behind
  unfolding mirrors_pieces
  mirrors_read text mid n most e few m xs behind r = record {
    good = (let c = r.counted in omega arith, r.good);
    takes = (mid, subst (λ (k : ℕ). IsLine text (mirrors_line k) mid) (sym r.counted) m, r.takes);
  }
