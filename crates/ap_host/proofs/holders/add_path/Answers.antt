use Rattle.std.proofs.Common.{◌≡◌, ◌⊎◌, ◌↔◌, ◌++◌, ◌∷◌, [], List, ℕ, sym, subst, rules}
use Rattle.ap_host.specs.Names.{IsOneOf}
use Rattle.ap_host.proofs.HolderLemmas.{one_of_push}
use Rattle.ap_host.proofs.holders.add_path.Goals as goal

pub returns : goal.returns
returns c q =
    let pushed : c.push.new.self.items ≡ c.args.held.now.items ++ c.args.path.now ∷ [] = search rules in
    subst (λ (l : List (List ℕ)). IsOneOf q l ↔ ((q ≡ c.args.path.now) ⊎ IsOneOf q c.args.held.now.items)) (sym pushed) (one_of_push q c.args.path.now c.args.held.now.items)
