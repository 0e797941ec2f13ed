use Rattle.std.proofs.Common.{sym, ap, ◌∙◌, subst, Option, ℕ}
use Rattle.std.specs.Str.{IsUtf8}
use Rattle.std.specs.BTreeMap.{get_by_text}
use Rattle.catalogue_lines.specs.Reading.{PlaceIs}
use Rattle.catalogue_lines.proofs.KnownLemmas.{id_utf8}
use Rattle.catalogue_lines.proofs.known.Known.place_of.Goals as goal

pub returns-in-None : goal.returns-in-None
returns-in-None c = λ i p e same. c.in-None.ensures (subst IsUtf8 same (id_utf8 p))

pub returns-in-Some : goal.returns-in-Some
returns-in-Some c =
    subst (λ (o : Option ℕ). PlaceIs c.args.self.now.list c.args.id.now o)
    (ap (get_by_text c.args.self.now.places) (sym c.in-Some.ensures.0) ∙ sym (c.copied.ensures ∙ c.get.ensures.value))
    (c.requires.places c.args.id.now)
