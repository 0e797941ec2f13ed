use Rattle.std.proofs.Common.{◌≡◌, Result, Ok}
use Rattle.index_text.proofs.EntryLemmas.{only_listed}
use Rattle.index_text.proofs.FaultLemmas.{lines_only, lines_fault, lines_told, other_of, told}
use Rattle.index_text.proofs.read.read_packages.Goals as goal

the_stanzas : {X F : Type 0} (x y : X) → ◌≡◌ {A = Result X F} (Ok x) (Ok y) → x ≡ y
the_stanzas x y e = cc

pub returns-clause-only : goal.returns-clause-only
returns-clause-only c = λ entries h.
    let same = c.in_ok-stanzas.ensures.only h.stanzas h.made_of in
    let e = c.read_entries.ensures in
    only_listed (λ v. v.items) c.in_ok-stanzas.stanzas.items h.stanzas entries c.read_entries.result (the_stanzas _ _ same) h.are_entries h.described e.described e.other

pub returns-clause-told : goal.returns-clause-told
returns-clause-told c = λ line h.
    let e = c.read_entries.ensures in
    let stanzas = c.in_ok-stanzas.stanzas.items in
    told stanzas line c.read_entries.result (other_of c.args.bytes.now stanzas line c.in_ok-stanzas.ensures.found (λ out made. the_stanzas _ _ (c.in_ok-stanzas.ensures.only out made)) h) e.are_entries e.other

pub returns-in_err-stanzas-clause-only : goal.returns-in_err-stanzas-clause-only
returns-in_err-stanzas-clause-only c = λ entries h. lines_only (λ v. v.items ≡ entries) h.stanzas c.in_err-stanzas.field-0.0 c.from_residual.result (c.in_err-stanzas.ensures.only h.stanzas h.made_of) c.from_residual.ensures.1

pub returns-in_err-stanzas-clause-fault : goal.returns-in_err-stanzas-clause-fault
returns-in_err-stanzas-clause-fault c = lines_fault c.args.bytes.now c.in_err-stanzas.field-0.0 c.from_residual.result c.in_err-stanzas.ensures.least c.from_residual.ensures.1

pub returns-in_err-stanzas-clause-told : goal.returns-in_err-stanzas-clause-told
returns-in_err-stanzas-clause-told c = λ line h. lines_told c.args.bytes.now line c.in_err-stanzas.field-0.0 c.from_residual.result c.in_err-stanzas.ensures.least c.from_residual.ensures.1 h
