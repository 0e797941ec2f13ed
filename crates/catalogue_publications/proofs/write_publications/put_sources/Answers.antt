use Rattle.std.proofs.Common.{◌++◌, ◌∙◌, codes, sym, ap, map, string_bytes}
use Rattle.std.specs.Fmt.{decimal}
use Rattle.catalogue_lines.specs.Pieces.{alone, piece_text, joined}
use Rattle.catalogue_publications.specs.PublicationLines.{source_line}
use Rattle.catalogue_publications.proofs.PublicationLineLemmas.{decimal_numeral}
use Rattle.catalogue_lines.proofs.WriteLemmas.{on_ok, then_one}
use Rattle.catalogue_publications.proofs.write_publications.put_sources.Goals as goal

pub returns : goal.returns
returns c =
    let count = ap decimal c.count_of.ensures.same ∙ sym (decimal_numeral _ c.count_of.ensures.small) in
    on_ok c.put_each_source.result _ _
    (λ h. then_one (string_bytes c.args.out.now) (string_bytes c.put_number.new.out) _ _ (joined (map (λ s. alone (source_line s)) c.args.sources.now))
    (c.in_ok-put_number.ensures ∙ ap (λ d. string_bytes c.args.out.now ++ piece_text (alone (codes "sources " ++ d))) count) h) c.put_each_source.ensures
