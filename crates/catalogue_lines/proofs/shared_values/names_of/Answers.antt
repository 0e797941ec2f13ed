use Rattle.std.proofs.Common.{List, ℕ, sym, ap, ◌∙◌, subst, length, nat_eq}
use Rattle.std.proofs.lemmas.Bool.{true≢false}
use Rattle.catalogue_lines.specs.NameLines.{IsNextName, listed_name}
use Rattle.catalogue_lines.proofs.ValueLemmas.{at_default, at_some}
use Rattle.catalogue_lines.proofs.SharedValues.{names_stop, names_more}
use Rattle.catalogue_lines.proofs.shared_values.names_of.Goals as goal

pub returns-in_default : goal.returns-in_default
returns-in_default c =
    let i = c.loop-rest.invariant in
    names_stop c.args.listed c.args.written.now c.loop-rest.rest.now c.loop-rest.names.items i.good i.written i.at_blank
    (λ e. true≢false (sym (c.is_empty.ensures ∙ ap (λ v. nat_eq (length v) 0) e) ∙ c.loop-rest-test.true))
    (λ name behind cut next. at_default _ _ _ c.in_ok-name.ensures c.in_default.not-Some name behind cut (subst (λ (d : List (List ℕ)). IsNextName (listed_name c.args.listed) d name) (sym c.deref.ensures.value) next))

pub loop-rest-preserved : goal.loop-rest-preserved
loop-rest-preserved c =
    let i = c.loop-rest.invariant in
    let h = at_some _ _ _ _ c.in_ok-name.ensures c.in-Some.is in
    let next = subst (λ (d : List (List ℕ)). IsNextName (listed_name c.args.listed) d c.in-Some.name) c.deref.ensures.value h.1 in
    let m = names_more c.args.listed c.args.written.now c.loop-rest.rest.now c.in-Some.name c.in-Some.behind.now c.loop-rest.names.items _ i.good i.written h.0 next c.in_ok-push.ensures.items in
    record { good = m.0; written = m.1; at_blank = λ b. h.0.next }
