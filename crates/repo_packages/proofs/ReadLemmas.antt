-- What is read for commands on packages can be read.
use Rattle.std.proofs.Common.{◌≡◌, ℕ, ◌≤◌, nat_le, ◌&&◌, List, length, Option, Some, None, Bool, true, false, refl}
use Rattle.std.specs.Option.{is_some}
use Rattle.std.specs.Bool.{if◌then◌else◌}
use Rattle.std.proofs.lemmas.Bool.{leb-true}
use Rattle.ap_text.specs.Paths.{is_safe_path}
use Rattle.command_value.specs.Plain.{PlainFollow}
use Rattle.machine_state.specs.declared.refusal.Refusal.{Refusal}
use Rattle.machine_state.specs.declared.refusal.Refusal.TheVariants.{BadName}
use Rattle.machine_state.specs.Values.{StateView}
use Rattle.step_model.specs.declared.reading.Reading.TheVariants as readings
use Rattle.step_model.specs.Case.{Came, or_else}
use Rattle.step_model.specs.Names.{bad_name, bad_folder}
use Rattle.step_model.specs.Refuses.{IsReadable, reading}
use Rattle.repo_packages.specs.PackageCases.{addition_case, import_case, pair_case, removal_case, unknown}

short_path : (path : List ℕ) → bad_folder path ≡ None → length path ≤ 200
short_path path e = go (is_safe_path path) (nat_le (length path) 200) refl e
  where
    go : (x y : Bool) → nat_le (length path) 200 ≡ y → (if (x && y) then None else Some (BadName path)) ≡ None → length path ≤ 200
    go true true le e = leb-true (length path) 200 le
    go true false le e = absurd (cc)
    go false y le e = absurd (cc)

pub nothing_read : (b : Bool) → IsReadable (if b then readings.Nothing else readings.Nothing)
nothing_read true = tt
nothing_read false = tt

folder_read : (name folder : List ℕ) (first last late : Option Refusal) → IsReadable (if is_some (or_else (or_else first (or_else (bad_folder folder) last)) late) then readings.Nothing else readings.Folder name folder)
folder_read name folder (Some refusal) last late = tt
folder_read name folder None last late = by_folder (bad_folder folder) refl
  where
    by_rest : (b : Bool) → length folder ≤ 200 → IsReadable (if b then readings.Nothing else readings.Folder name folder)
    by_rest true l = tt
    by_rest false l = l

    by_folder : (o : Option Refusal) → bad_folder folder ≡ o → IsReadable (if is_some (or_else (or_else o last) late) then readings.Nothing else readings.Folder name folder)
    by_folder (Some refusal) e = tt
    by_folder None e = by_rest (is_some (or_else last late)) (short_path folder e)

-- copies and moves read nothing
pub pair_read : (state : StateView) (deps : Option Bool) (follow : PlainFollow) (source destination : List ℕ) (queries : List (List ℕ)) (came : Came) → IsReadable (reading (pair_case state deps follow source destination queries came))
pair_read state deps follow source destination queries came = nothing_read _

pub addition_reads : (name folder : List ℕ) (state : StateView) → IsReadable (reading (addition_case state name folder))
unfolding addition_case
addition_reads name folder state = folder_read name folder (bad_name name) (unknown state.repos name) None

pub removal_reads : (dry : Option Bool) (name : List ℕ) (queries : List (List ℕ)) (state : StateView) → IsReadable (reading (removal_case state dry name queries))
unfolding removal_case
removal_reads dry name queries state = nothing_read _

pub import_reads : (dry deps : Option Bool) (follow : PlainFollow) (mirror repo : List ℕ) (queries : List (List ℕ)) (state : StateView) → IsReadable (reading (import_case state dry deps follow mirror repo queries))
unfolding import_case
import_reads dry deps follow mirror repo queries state = nothing_read _
