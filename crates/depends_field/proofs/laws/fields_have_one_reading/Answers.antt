use Rattle.depends_field.proofs.OnlyGroups.{reading_from_groups}
use Rattle.depends_field.proofs.Unique.{one_reading}
use Rattle.depends_field.proofs.laws.fields_have_one_reading.Goals as goal

pub returns : goal.returns
returns c = λ kind text groups others is also. one_reading kind text groups others (reading_from_groups kind text groups is) also
