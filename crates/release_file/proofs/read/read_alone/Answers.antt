use Rattle.std.proofs.Common.{ℕ, List, arith, sym, subst}
use Rattle.std.specs.Option.{MatchOption}
use Rattle.std.specs.Result.{IfOk}
use Rattle.std.proofs.lemmas.Result.{IfOk-weaker}
use Rattle.control_stanza.specs.declared.stanza.Field.{Field}
use Rattle.release_file.specs.Release.{ReleaseView, Says}
use Rattle.release_file.proofs.ReleaseLemmas.{single, alone_of}
use Rattle.release_file.proofs.read.read_alone.Goals as goal

pub returns : goal.returns
returns c =
    let x : ℕ × List Field = c.index-stanzas-0.result in
    let said = subst (λ (z : ℕ × List Field). IfOk c.read_stanza.result (λ o. MatchOption o ((r : ReleaseView) → Says z.1 r → ⊥) (Says z.1))) (sym c.index-stanzas-0.is) c.read_stanza.ensures in
    IfOk-weaker c.read_stanza.result _ _ (λ o h. alone_of c.args.stanzas.now x o (single c.args.stanzas.now x (search (arith)) c.index-stanzas-0.is) h) said
