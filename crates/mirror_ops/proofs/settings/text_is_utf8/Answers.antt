use Rattle.std.proofs.Common.{Bool, ap}
use Rattle.std.proofs.lemmas.Str.{is_utf8-from_IsUtf8}
use Rattle.mirror_ops.specs.Settings.{bad_word}
use Rattle.mirror_ops.proofs.settings.text_is_utf8.Goals as goal

pub returns : goal.returns
returns c = ap (λ (b : Bool). bad_word b c.args.text.now) (is_utf8-from_IsUtf8 c.args.text.now c.utf8.text)
