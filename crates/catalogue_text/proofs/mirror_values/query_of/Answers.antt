use Rattle.std.proofs.Common.{sym, ap, ◌∙◌}
use Rattle.std.proofs.lemmas.Bool.{true≢false}
use Rattle.query_tree.specs.Written.{written}
use Rattle.catalogue_text.proofs.MirrorValues.{spells}
use Rattle.catalogue_text.proofs.mirror_values.query_of.Goals as goal

pub returns-in-Err-At : goal.returns-in-Err-At
returns-in-Err-At c = λ t f e. (rw c.in-Err-At.field-0-is at c.in-Err-At.ensures.only) t (spells c.args.text.now t f e)

pub returns-else-branch : goal.returns-else-branch
returns-else-branch c = λ t f e.
    true≢false (sym (c.in_ok-is_written-in-Ok.ensures.1 (ap written (c.in-Ok.ensures.only t (spells c.args.text.now t f e)) ∙ sym e)) ∙ c.if-branch.false)
