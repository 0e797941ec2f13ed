use Rattle.std.proofs.Common.{◌≡◌, ℕ, List, ◌∷◌, ap, sym, ◌∙◌, subst, refl, inr}
use Rattle.control_stanza.specs.declared.stanza.Field.{Field}
use Rattle.release_file.specs.Release.{IsAlone}
use Rattle.release_file.proofs.ReleaseLemmas.{one_alone, lines_told, the_stanzas}
use Rattle.release_file.proofs.read.read_release.Goals as goal

pub returns-in_err-stanzas-clause-told : goal.returns-in_err-stanzas-clause-told
returns-in_err-stanzas-clause-told c = λ line h. lines_told c.args.bytes.now line c.in_err-stanzas.field-0.0 c.from_residual.result c.in_err-stanzas.ensures.least c.from_residual.ensures.1 h

pub returns-in-Some-clause-only : goal.returns-in-Some-clause-only
returns-in-Some-clause-only c = λ release h.
    let same = the_stanzas _ _ (c.in_ok-stanzas.ensures.only h.stanzas h.made_of) in
    let mine = rw c.in-Some.is at c.in_ok-release.ensures in
    one_alone c.in_ok-stanzas.stanzas.items c.in-Some.release release (subst (λ (ss : List (ℕ × List Field)). IsAlone ss c.in-Some.release) c.deref.ensures.value mine) (subst (λ (ss : List (ℕ × List Field)). IsAlone ss release) same h.alone)

pub returns-clause-only : goal.returns-clause-only
returns-clause-only c = λ release h.
    let same = the_stanzas _ _ (c.in_ok-stanzas.ensures.only h.stanzas h.made_of) in
    let none = rw c.in-None.is at c.in_ok-release.ensures in
    absurd (none release (subst (λ (ss : List (ℕ × List Field)). IsAlone ss release) (same ∙ sym c.deref.ensures.value) h.alone))

pub returns-clause-fault : goal.returns-clause-fault
returns-clause-fault c =
    inr (c.in_ok-stanzas.stanzas.items, c.in_ok-stanzas.ensures.found, λ release h. (rw c.in-None.is at c.in_ok-release.ensures) release (subst (λ (ss : List (ℕ × List Field)). IsAlone ss release) (sym c.deref.ensures.value) h), refl)
