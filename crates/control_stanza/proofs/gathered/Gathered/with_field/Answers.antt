use Rattle.std.proofs.Common.{◌≡◌, List, ◌++◌, ◌∷◌, [], sym, ap, ◌∙◌, arith, subst, drop}
use Rattle.std.proofs.Math.Seq.{take-length}
use Rattle.control_stanza.specs.declared.stanza.Field.{Field}
use Rattle.control_stanza.specs.Names.{Lists}
use Rattle.control_stanza.proofs.NameLemmas.{lists_all}
use Rattle.control_stanza.proofs.gathered.Gathered.with_field.Goals as goal

pub invariant_of-result-2 : goal.invariant_of-result-2
invariant_of-result-2 c =
    let names = c.self.inside.names in
    let more = c.list_names.new.names in
    let n = c.self.inside.listed in
    let made : List Field = c.self.inside.stanza ++ c.args.field ∷ [] in
    let before : c.fields.result.now ≡ made = c.fields.ensures.fields ∙ c.in_ok-stanza.ensures in
    let after : c.fields-listed.result.now ≡ made = c.fields-listed.ensures.fields ∙ c.in_ok-stanza.ensures in
    let behind : c.split_at.result.1.now ≡ drop n made = c.split_at.ensures.back ∙ ap (drop n) before in
    let all : Lists more made = lists_all names more c.self.inside.stanza c.args.field n c.self.invariant.0 c.self.invariant.1 (λ above h. subst (λ (l : List Field). Lists more (above ++ l)) behind (c.in_ok-list_names.ensures above h)) in
    rw (after, c.in_ok-stanza.ensures) (omega arith, subst (Lists more) (sym (take-length made)) all)
