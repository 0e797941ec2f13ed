-- Something arrives of each folder.
use Rattle.std.proofs.Common.{ℕ, List, Result, Ok, Err, refl}
use Rattle.ap_host.specs.Disk.{Files, Path}
use Rattle.package_core.specs.Card.{Card}
use Rattle.machine_state.specs.declared.refusal.Refusal.{Refusal}
use Rattle.package_intake.specs.Index.{index_bytes}
use Rattle.package_intake.proofs.IndexTotal.{index_is}
use Rattle.package_intake.specs.Arrival.{Arrives, BytesArrive, index_arrives, index_path}

pub some_arrives : (files : Files) (known own : List Card) (folder : Path) → (arrived : Result (List Card) Refusal) × Arrives files known own folder arrived
unfolding Arrives
some_arrives files known own folder = by_bytes (index_bytes (index_path folder) (files (index_path folder)))
  where
    by_bytes : (r : Result (List ℕ) Refusal) → (arrived : Result (List Card) Refusal) × BytesArrive files known own folder r arrived
    by_bytes (Ok bytes) = let i = index_is bytes in (index_arrives files known own folder i.0, (i.0, i.1, refl))
    by_bytes (Err refusal) = (Err refusal, refl)
