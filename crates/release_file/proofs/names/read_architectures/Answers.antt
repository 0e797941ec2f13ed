use Rattle.std.proofs.Common.{rules, ◌≡◌, [], true, filter, ap, sym, ◌∙◌}
use Rattle.std.specs.List.{list_all}
use Rattle.ap_text.specs.Names.{is_architecture}
use Rattle.package_list.specs.Sorted.{union}
use Rattle.release_file.specs.Release.{is_wanted}
use Rattle.release_file.specs.Words.{words}
use Rattle.release_file.proofs.NameLemmas.{text_cmp, names_are}
use Rattle.release_file.proofs.names.read_architectures.Goals as goal

pub returns : goal.returns
returns c =
    let ws = c.keep_wanted.ensures ∙ ap (filter is_wanted) c.in_ok-words.ensures in
    let all : c.are_architectures.result ≡ true = search (rules) in
    let good = ap (list_all is_architecture) (sym ws ∙ sym c.deref.ensures.value) ∙ sym c.are_architectures.ensures ∙ all in
    names_are is_architecture (filter is_wanted (words c.args.text.now)) c.in_ok-names_of.field-0.items good (c.in_ok-names_of.ensures ∙ ap (union text_cmp []) (c.deref-2.ensures.value ∙ ws))
