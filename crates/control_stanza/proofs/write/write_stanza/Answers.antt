use Rattle.std.proofs.Common.{sym, ap, ◌∙◌, None, Some, refl}
use Rattle.control_stanza.specs.declared.read.TheConstants.{MOST_STANZA_BYTES}
use Rattle.control_stanza.specs.Fields.{is_stanza}
use Rattle.control_stanza.proofs.WriteLemmas.{text_spells, text_reads, few_enough}
use Rattle.control_stanza.proofs.write.write_stanza.Goals as goal

pub returns-in-Ok-clause-spelled : goal.returns-in-Ok-clause-spelled
returns-in-Ok-clause-spelled c = text_spells c.args.stanza.now (ap is_stanza (sym c.fields.ensures.fields) ∙ c.fields.ensures.stanza)

pub returns-in-Ok-clause-stored : goal.returns-in-Ok-clause-stored
returns-in-Ok-clause-stored c = λ some. text_reads None c.args.stanza.now (ap is_stanza (sym c.fields.ensures.fields) ∙ c.fields.ensures.stanza) some refl

pub returns-in-Ok-clause-bounded : goal.returns-in-Ok-clause-bounded
returns-in-Ok-clause-bounded c = λ some small. text_reads (Some MOST_STANZA_BYTES) c.args.stanza.now (ap is_stanza (sym c.fields.ensures.fields) ∙ c.fields.ensures.stanza) some (few_enough MOST_STANZA_BYTES _ small)

pub returns-in-Err-clause-spelled : goal.returns-in-Err-clause-spelled
returns-in-Err-clause-spelled c = text_spells c.args.stanza.now (ap is_stanza (sym c.fields.ensures.fields) ∙ c.fields.ensures.stanza)

pub returns-in-Err-clause-stored : goal.returns-in-Err-clause-stored
returns-in-Err-clause-stored c = λ some. text_reads None c.args.stanza.now (ap is_stanza (sym c.fields.ensures.fields) ∙ c.fields.ensures.stanza) some refl

pub returns-in-Err-clause-bounded : goal.returns-in-Err-clause-bounded
returns-in-Err-clause-bounded c = λ some small. text_reads (Some MOST_STANZA_BYTES) c.args.stanza.now (ap is_stanza (sym c.fields.ensures.fields) ∙ c.fields.ensures.stanza) some (few_enough MOST_STANZA_BYTES _ small)
