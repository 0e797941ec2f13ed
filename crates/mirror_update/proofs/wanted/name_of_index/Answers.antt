use Rattle.std.proofs.Common.{ℕ, List, sym, subst, IsTrue}
use Rattle.ap_text.specs.Paths.{is_safe_path}
use Rattle.ap_text.proofs.JoinLemmas.{safe_name}
use Rattle.mirror_update.proofs.wanted.name_of_index.Goals as goal

pub fixed-requires : goal.fixed-requires
fixed-requires c = subst (λ (p : List ℕ). IsTrue (is_safe_path p)) (sym c.as_str.ensures.text) (safe_name c.args.component.now c.as_str.ensures.good)
