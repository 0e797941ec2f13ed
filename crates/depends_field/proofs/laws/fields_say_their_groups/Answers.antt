use Rattle.depends_field.proofs.Said.{groups_from_said, said_from_groups, provides_text_from_said, said_from_provides_text}
use Rattle.depends_field.proofs.laws.fields_say_their_groups.Goals as goal

pub returns-clause-groups : goal.returns-clause-groups
returns-clause-groups c = λ kind text groups. (groups_from_said kind text groups, said_from_groups kind text groups)

pub returns-clause-provides : goal.returns-clause-provides
returns-clause-provides c = λ text list. (provides_text_from_said text list, said_from_provides_text text list)
