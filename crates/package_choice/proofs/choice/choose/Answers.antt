use Rattle.std.proofs.Common.{◌≡◌, Bool, true, false, unwrap_or, List, sym, ap, ◌∙◌}
use Rattle.std.proofs.lemmas.Result.{IfOk-weaker}
use Rattle.query_tree.specs.Tree.{Tree}
use Rattle.command_value.specs.Plain.{plain_follow}
use Rattle.depend_pull.specs.Pull.{with_what_it_needs}
use Rattle.package_choice.specs.Choice.{archs_for, chosen_with, flags_of}
use Rattle.package_choice.proofs.ChoiceLemmas.{trees_are}
use Rattle.package_choice.proofs.choice.choose.Goals as goal

pub returns-then-unwrap_or : goal.returns-then-unwrap_or
returns-then-unwrap_or c = λ texts e.
    let follow = plain_follow c.args.follow.now in
    let list = c.args.list.now in
    let asked : unwrap_or c.args.with_deps.now false ≡ true = sym c.unwrap_or.ensures ∙ c.if-unwrap_or.true in
    IfOk-weaker c.followed.result _ _
    (λ found h.
    h ∙ ap (λ (l : List Tree). with_what_it_needs (flags_of follow) (archs_for follow.architectures list) list l) (sym (trees_are texts c.args.queries.now e))
    ∙ ap (λ (b : Bool). chosen_with b follow list texts) (sym asked))
    c.followed.ensures
