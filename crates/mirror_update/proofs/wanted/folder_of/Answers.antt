use Rattle.std.proofs.Common.{◌≡◌, ℕ, List, sym, ap, ◌∙◌, subst, IsTrue}
use Rattle.ap_text.specs.Paths.{is_safe_path}
use Rattle.mirror_update.specs.Wanted.{arch_folder}
use Rattle.mirror_update.proofs.NameLemmas.{arch_safe}
use Rattle.mirror_update.proofs.wanted.folder_of.Goals as goal

pub fixed-requires : goal.fixed-requires
fixed-requires c =
    let is : c.as_str-2.result.now ≡ arch_folder c.args.arch.now = c.as_str-2.ensures.value ∙ c.in_ok-text.ensures ∙ ap arch_folder c.as_str.ensures.text in
    subst (λ (p : List ℕ). IsTrue (is_safe_path p)) (sym is) (arch_safe c.args.arch.now c.as_str.ensures.good)
