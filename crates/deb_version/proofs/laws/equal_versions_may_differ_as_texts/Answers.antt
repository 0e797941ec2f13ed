use Rattle.std.proofs.Common.{refl}
use Rattle.deb_version.specs.Cuts.{is_digit, rank, part_cmp}
use Rattle.deb_version.specs.VersionText.{epoch_of, start_of, upstream_in, revision_in, is_revision_byte, is_upstream_byte, bad_in_upstream, bad_in_revision, fault_of, is_version}
use Rattle.deb_version.specs.VersionOrder.{version_cmp}
use Rattle.deb_version.proofs.laws.equal_versions_may_differ_as_texts.Goals as goal

pub returns-clause-first : goal.returns-clause-first
unfolding is_version fault_of is_upstream_byte is_revision_byte is_digit bad_in_upstream bad_in_revision epoch_of start_of upstream_in revision_in
returns-clause-first c = refl

pub returns-clause-second : goal.returns-clause-second
unfolding is_version fault_of is_upstream_byte is_revision_byte is_digit bad_in_upstream bad_in_revision epoch_of start_of upstream_in revision_in
returns-clause-second c = refl

pub returns-clause-equal : goal.returns-clause-equal
unfolding version_cmp part_cmp rank is_digit epoch_of start_of upstream_in revision_in
returns-clause-equal c = refl
