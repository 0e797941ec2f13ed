use Rattle.std.proofs.Common.{rules, ◌≡◌, [], true, map, ap, sym, ◌∙◌}
use Rattle.std.specs.List.{list_all}
use Rattle.ap_text.specs.Names.{is_component}
use Rattle.package_core.specs.Fields.{last_segment}
use Rattle.package_list.specs.Sorted.{union}
use Rattle.release_file.specs.Words.{words}
use Rattle.release_file.proofs.NameLemmas.{text_cmp, names_are}
use Rattle.release_file.proofs.names.read_components.Goals as goal

pub returns : goal.returns
returns c =
    let ws = c.in_ok-words-2.ensures ∙ ap (map last_segment) (c.deref.ensures.value ∙ c.in_ok-words.ensures) in
    let all : c.are_components.result ≡ true = search (rules) in
    let good = ap (list_all is_component) (sym ws ∙ sym c.deref-2.ensures.value) ∙ sym c.are_components.ensures ∙ all in
    names_are is_component (map last_segment (words c.args.text.now)) c.in_ok-names_of.field-0.items good (c.in_ok-names_of.ensures ∙ ap (union text_cmp []) (c.deref-3.ensures.value ∙ ws))
