use Rattle.std.proofs.Common.{◌++◌, ◌∷◌, ◌∙◌, codes, string_bytes}
use Rattle.catalogue_lines.specs.Pieces.{alone, piece_text}
use Rattle.catalogue_lines.proofs.WriteLemmas.{on_ok}
use Rattle.catalogue_publications.proofs.write_publications.put_place.Goals as goal

pub returns : goal.returns
returns c = on_ok c.put_pair.result _ _ (λ h. h ∙ (λ i. string_bytes c.args.out.now ++ piece_text (alone (codes "publication " ++ (c.prefix_word.ensures i ++ 32 ∷ c.as_str.ensures.text i))))) c.put_pair.ensures
