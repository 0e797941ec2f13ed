-- What may be passed nowhere.
use Rattle.std.specs.Prelude.{ℕ}
use Rattle.package_list.specs.declared.list.TheConstants.{MOST_KNOWN, MOST_MEMBERS}
use Rattle.machine_state.specs.declared.limit.Limit.{Limit}
use Rattle.machine_state.specs.declared.limit.Limit.TheVariants.{Mirrors, Repos, Snapshots, Publications, Packages, Known, Catalogue, Index, ReleaseBytes, Generation, File, Serial, Date}

-- the number that each limit allows: counts, lengths in bytes, and the greatest moment in seconds since 1970
abbrev pub limit_number : Limit → ℕ
limit_number Mirrors = 10000
limit_number Repos = 10000
limit_number Snapshots = 10000
limit_number Publications = 10000
limit_number Packages = MOST_MEMBERS
limit_number Known = MOST_KNOWN
limit_number Catalogue = 1073741824
limit_number Index = 134217728
limit_number ReleaseBytes = 4194304
limit_number Generation = 1073741824
limit_number File = 268435456
limit_number Serial = 4294967295
limit_number Date = 253402300799
