-- The commands that the words of a command line spell.
use Rattle.std.specs.Prelude.{◌≡◌, ℕ, ◌+◌, ◌-◌, ◌<◌, ◌≤◌, ◌==◌, ◌⊎◌, nat_le, Bool, true, false, ◌&&◌, ◌||◌, if◌then◌else◌, List, [], ◌∷◌, ◌++◌, Option, Some, None, option_map, MatchOption, is_some, length, take, slice_index, All, codes}
use Rattle.std.specs.Str.{bytes_eq}
use Rattle.command_value.specs.declared.command.Origin.TheVariants.{Mirror}
use Rattle.command_words.specs.declared.piece.Piece.{Piece}
use Rattle.command_value.specs.Plain.{Word, Words, PlainFollow, PlainCommand, of_mirror, of_snapshot, of_publish, of_other, mirror_create, mirror_update, mirror_drop, snapshot_create, snapshot_filter, snapshot_pull, snapshot_drop, publish_snapshot, publish_switch, db_cleanup}
use Rattle.command_words.specs.Spelled.{spelled, is_command}

-- a command of a list: the index at which its first word would stand, and its words
pub record Part : Type 0 where
  pub start : ℕ
  pub words : Words

abbrev pub part : Piece → Part
part p = record { start = p.start; words = p.words.items }

abbrev pub ends_with_comma : Word → Bool
ends_with_comma word = slice_index word (length word - 1) == 44

abbrev pub without_last : Word → Word
without_last word = take (length word - 1) word

-- the words that stand before the first part's
abbrev pub put_before : ℕ → Words → List Part → List Part
put_before start words [] = []
put_before start words (p ∷ ps) = record { start = start; words = words ++ p.words } ∷ ps

-- the commands of a list, from this index on: a word `,` ends a command, and a word that ends with a
-- comma loses it and ends the command
abbrev pub cut : ℕ → Words → List Part
cut start [] = record { start = start; words = [] } ∷ []
cut start (word ∷ words) =
    if bytes_eq word (codes ",") then record { start = start; words = [] } ∷ cut (start + 1) words
    else if ends_with_comma word then record { start = start; words = without_last word ∷ [] } ∷ cut (start + 1) words
    else put_before start (word ∷ []) (cut (start + 1) words)

-- what each of the parts is, if none is nothing
abbrev pub with_first : Option PlainCommand → Option (List PlainCommand) → Option (List PlainCommand)
with_first None rest = None
with_first (Some command) rest = option_map (λ commands. command ∷ commands) rest

abbrev pub each_spelled : List Part → Option (List PlainCommand)
each_spelled [] = Some []
each_spelled (p ∷ ps) = with_first (spelled p.words) (each_spelled ps)

-- a list has at most 1,000 commands
abbrev pub listed : List Part → Option (List PlainCommand)
listed parts = if nat_le (length parts) 1000 then each_spelled parts else None

abbrev no_follow : PlainFollow
no_follow = record { architectures = None; recommends = None; suggests = None }

-- what `demo` stands for
abbrev pub demonstration : List PlainCommand
demonstration =
    of_mirror (mirror_create None None None (codes "demo") (codes "made") (codes "demo") (codes "main" ∷ []))
    ∷ of_mirror (mirror_update (codes "demo"))
    ∷ of_snapshot (snapshot_create (codes "demo-all") (Mirror (codes "demo")))
    ∷ of_snapshot (snapshot_filter (Some true) no_follow (codes "demo-all") (codes "demo-some") (codes "pkg99" ∷ []))
    ∷ of_snapshot (snapshot_pull None None None None no_follow (codes "demo-some") (codes "demo-all") (codes "demo-pulled") (codes "Name (% pkg1??)" ∷ []))
    ∷ of_publish (publish_snapshot (record {
      architectures = None;
      components = None;
      distribution = Some (codes "demo");
      origin = None;
      label = None;
      suite = None;
      codename = None;
    }) (codes "demo-all" ∷ []) (Some (codes "demo")))
    ∷ of_publish (publish_switch None (codes "demo") (Some (codes "demo")) (codes "demo-pulled" ∷ []))
    ∷ of_publish (publish_switch None (codes "demo") (Some (codes "demo")) (codes "demo-some" ∷ []))
    ∷ of_snapshot (snapshot_drop (codes "demo-all"))
    ∷ of_mirror (mirror_drop (codes "demo"))
    ∷ of_other db_cleanup
    ∷ []

abbrev pub is_from_to : ℕ → ℕ → ℕ → Bool
is_from_to low high c = nat_le low c && nat_le c high

-- a number from 2 to 200, decimal, without leading zeros: 2 to 9, 10 to 99, 100 to 199, or 200
abbrev pub is_demo_number : Word → Bool
is_demo_number (a ∷ []) = is_from_to 50 57 a
is_demo_number (a ∷ b ∷ []) = is_from_to 49 57 a && is_from_to 48 57 b
is_demo_number (a ∷ b ∷ c ∷ []) =
    ((a == 49) && is_from_to 48 57 b && is_from_to 48 57 c) || ((a == 50) && (b == 48) && (c == 48))
is_demo_number _ = false

abbrev pub demo_commands : Words → Option (List PlainCommand)
demo_commands (number ∷ []) = if is_demo_number number then Some demonstration else None
demo_commands _ = None

-- the words of a list, after `task run`
abbrev pub after_task_run : Words → Option Words
after_task_run (first ∷ second ∷ words) =
    if bytes_eq first (codes "task") && bytes_eq second (codes "run") then Some words else None
after_task_run _ = None

abbrev pub is_first : Word → Words → Bool
is_first word [] = false
is_first word (first ∷ words) = bytes_eq first word

abbrev pub rest_of : Words → Words
rest_of [] = []
rest_of (first ∷ words) = words

abbrev pub single : Option PlainCommand → Option (List PlainCommand)
single command = option_map (λ c. c ∷ []) command

abbrev pub list_or : Words → Option Words → Option (List PlainCommand)
list_or words (Some rest) = listed (cut 2 rest)
list_or words None = if is_first (codes "demo") words then demo_commands (rest_of words) else single (spelled words)

-- the commands that the words spell: a list after `task run`, those of `demo`, or one
unfoldable pub commands : Words → Option (List PlainCommand)
commands words = list_or words (after_task_run words)

-- a front of readable words
abbrev pub Begins : (Words → Bool) → Words → Type 0
Begins reads front = (rest : Words) × (reads (front ++ rest) ≡ true)

-- the index of the first of the words such that nothing readable begins with the words up to there,
-- else the index after the last word
abbrev pub IsLongestFront : (Words → Bool) → Words → ℕ → Type 0
IsLongestFront reads words place =
    (place ≤ length words) × Begins reads (take place words) ×
    (place < length words → Begins reads (take (place + 1) words) → ⊥)

abbrev pub is_readable : Words → Bool
is_readable words = is_some (commands words)

-- the place in a command of a list: the longest front of its words that can be the first of a command
abbrev pub IsPlaceIn : Part → ℕ → Type 0
IsPlaceIn p place =
    (spelled p.words ≡ None) ×
    ((inner : ℕ) × (place ≡ p.start + inner) × IsLongestFront is_command p.words inner)

-- the same, where n commands stand before it: the 1,001st has the place of its first word
abbrev pub IsPartFault : ℕ → Part → ℕ → Type 0
IsPartFault n p place = ((n ≡ 1000) × (place ≡ p.start)) ⊎ ((n < 1000) × IsPlaceIn p place)

-- the place in the first command of a list that is at fault
abbrev pub IsListFault : List Part → ℕ → Type 0
IsListFault parts place =
    (front : List Part) × (p : Part) × (back : List Part) × (parts ≡ front ++ p ∷ back) ×
    All (λ q. is_command q.words ≡ true) front × IsPartFault (length front) p place

-- the usage place of words that spell no commands
abbrev pub IsUsagePlace : Words → ℕ → Type 0
IsUsagePlace words place =
    (commands words ≡ None) ×
    MatchOption (after_task_run words) (IsLongestFront is_readable words place) (λ rest. IsListFault (cut 2 rest) place)

-- where the words after `demo` are at fault
abbrev pub demo_place : Words → Option ℕ
demo_place [] = Some 1
demo_place (number ∷ []) = if is_demo_number number then None else Some 1
demo_place (number ∷ more ∷ words) = if is_demo_number number then Some 2 else Some 1
