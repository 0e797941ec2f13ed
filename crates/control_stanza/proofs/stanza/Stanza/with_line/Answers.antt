use Rattle.std.proofs.lemmas.Str.{is_utf8-from_IsUtf8}
use Rattle.control_stanza.proofs.FieldLemmas.{stanza_go_on}
use Rattle.control_stanza.proofs.stanza.Stanza.with_line.Goals as goal

pub invariant_of-result : goal.invariant_of-result
invariant_of-result c =
    rw c.in_ok-go_on_last.ensures (stanza_go_on _ c.args.more.now c.self.invariant c.requires.further c.requires.no_return c.requires.one_line (is_utf8-from_IsUtf8 _ c.utf8.more))
