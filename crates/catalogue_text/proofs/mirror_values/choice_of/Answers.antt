use Rattle.std.proofs.Common.{sym, ap, ◌∙◌, length, nat_eq}
use Rattle.std.proofs.lemmas.Bool.{true≢false}
use Rattle.catalogue_text.proofs.MirrorValues.{no_choice}
use Rattle.catalogue_text.proofs.mirror_values.choice_of.Goals as goal

pub returns-in-None : goal.returns-in-None
returns-in-None c = no_choice c.args.value.now c.in-None.ensures (λ e. true≢false (sym (c.is_empty.ensures ∙ ap (λ v. nat_eq (length v) 0) e) ∙ c.if-is_empty.false))
