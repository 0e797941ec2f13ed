use Rattle.std.proofs.Common.{sym, ap, ◌∙◌, drop}
use Rattle.control_stanza.specs.Fields.{has_name}
use Rattle.control_stanza.proofs.NameLemmas.{found_above, found_below}
use Rattle.control_stanza.proofs.gathered.Gathered.has_name.Goals as goal

pub returns-then-branch : goal.returns-then-branch
returns-then-branch c =
    let name = c.args.name.now in
    let above = sym (c.self.invariant.1 name) ∙ sym c.in_ok-is_listed.ensures ∙ c.if-branch.true in
    sym (ap (λ l. has_name l name) (sym c.self.view_is) ∙ found_above c.self.inside.listed c.self.inside.stanza name above)

pub returns : goal.returns
returns c =
    let name = c.args.name.now in
    let above = sym (c.self.invariant.1 name) ∙ sym c.in_ok-is_listed.ensures ∙ c.if-branch.false in
    let below = ap (λ l. has_name l name) (sym c.self.view_is) ∙ found_below c.self.inside.listed c.self.inside.stanza name above in
    let behind = c.split_at.ensures.back ∙ ap (drop c.self.inside.listed) c.fields.ensures.fields in
    c.has_field.ensures ∙ ap (λ l. has_name l name) behind ∙ sym below
