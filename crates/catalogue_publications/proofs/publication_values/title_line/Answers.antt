use Rattle.std.proofs.Common.{List, ℕ, sym, subst}
use Rattle.machine_state.specs.Texts.{IsTitle}
use Rattle.catalogue_lines.proofs.ValueLemmas.{no_key, no_value, at_none}
use Rattle.catalogue_publications.proofs.publication_values.title_line.Goals as goal

pub returns-in-None : goal.returns-in-None
returns-in-None c = no_key (λ (t : List ℕ). t) (IsTitle c.args.default.now) c.args.text.now c.args.key.now c.in-None.ensures

pub returns-in-None-2 : goal.returns-in-None-2
returns-in-None-2 c =
    no_value (λ (t : List ℕ). t) (IsTitle c.args.default.now) c.args.text.now c.args.key.now c.in-Some.written.now c.in-Some.rest.now c.in-Some.ensures
    (λ a g e. at_none _ _ _ c.in_ok-title_of-in-Some.ensures c.in-None-2.is (subst (IsTitle c.args.default.now) (sym e) g))
