use Rattle.std.proofs.lemmas.Result.{IfOk-weaker}
use Rattle.depends_field.specs.declared.phase.Kind.TheVariants.{Depends}
use Rattle.index_text.proofs.RelationLemmas.{known_is}
use Rattle.index_text.proofs.relations.is_depends.Goals as goal

pub returns-in-Some : goal.returns-in-Some
returns-in-Some c =
    IfOk-weaker c.is_read.result _ _ (λ b h. rw c.in-Some.is (known_is Depends c.in-Some.text.now (λ v. v.items) c.read_depends.result c.read_depends.ensures.found c.read_depends.ensures.place b h)) c.is_read.ensures
