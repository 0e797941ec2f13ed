use Rattle.std.proofs.Common.{◌∷◌, [], map}
use Rattle.std.proofs.lemmas.Result.{IfOk-weaker}
use Rattle.depends_field.specs.declared.alternative.Alternative.{Alternative}
use Rattle.depends_field.specs.declared.phase.Kind.TheVariants.{Provides}
use Rattle.index_text.proofs.RelationLemmas.{known_is}
use Rattle.index_text.proofs.relations.is_provides.Goals as goal

pub returns-in-Some : goal.returns-in-Some
returns-in-Some c =
    IfOk-weaker c.is_read.result _ _ (λ b h. rw c.in-Some.is (known_is Provides c.in-Some.text.now (λ v. map (λ (a : Alternative). a ∷ []) v.items) c.read_provides.result c.read_provides.ensures.found c.read_provides.ensures.place b h)) c.is_read.ensures
