use Rattle.std.proofs.Common.{subst, ◌≡◌, List}
use Rattle.std.specs.Result.{OnOk}
use Rattle.machine_state.specs.Ascending.{IsAscending, put}
use Rattle.machine_state.specs.State.{mirror_cmp}
use Rattle.machine_state.specs.Values.{MirrorView}
use Rattle.mirror_ops.proofs.NameLemmas.{renamed_as}
use Rattle.mirror_ops.proofs.naming.rename_mirror.Goals as goal

pub returns-in-Some : goal.returns-in-Some
returns-in-Some c = λ a.
    let rest : List MirrorView = c.take_named.new.items.items in
    renamed_as c.args.before.now c.args.after c.args.mirrors.now.items rest c.put_named.new.items.items c.in-Some.mirror c.put_named.result a (c.in-Some.ensures.taken a) (c.in-Some.ensures.rest a)
    (subst (λ (m : MirrorView). IsAscending mirror_cmp rest → OnOk c.put_named.result (c.put_named.new.items.items ≡ put mirror_cmp m rest)) c.under.ensures c.put_named.ensures.put)
