use Rattle.std.proofs.Common.{◌∷◌, []}
use Rattle.package_core.proofs.stored.one_stanza.Goals as goal

pub returns-in-Ok : goal.returns-in-Ok
returns-in-Ok c = λ fields s. c.the_only.ensures 1 fields (let h = c.in-Ok.ensures.only ((1, fields) ∷ []) s in cc)

pub returns-in-Err-At : goal.returns-in-Err-At
returns-in-Err-At c = λ fields s. let h = c.in-Err-At.ensures.only ((1, fields) ∷ []) s in let g = rw c.in-Err-At.field-0-is at h in cc
