use Rattle.std.proofs.Common.{true, ◌≡◌, ◌++◌, ◌∷◌, [], filter, take, drop, suc, refl, sym, subst, arith}
use Rattle.release_file.specs.Words.{has_word}
use Rattle.release_file.specs.Release.{AreListings, IsListing}
use Rattle.release_file.proofs.NameLemmas.{next_is, cut_at}
use Rattle.release_file.proofs.ListingLemmas.{listed_at}
use Rattle.release_file.proofs.listing.read_lines.Goals as goal

pub returns-then-not-branch : goal.returns-then-not-branch
returns-then-not-branch c = λ files h.
    let i = c.loop-line.line-index in
    let lines = c.args.lines.now in
    let x = c.line-item.result in
    let bad = c.in_ok-put_listing.ensures.bad c.if-not-branch.true in
    let cut = cut_at lines i x (omega arith) c.line-item.is in
    let one = listed_at (take i lines) (drop (suc i) lines) x files (subst (λ l. has_word l ≡ true) c.text.ensures bad.0) (subst (λ ls. AreListings (filter has_word ls) files) (sym cut) h) in
    bad.1 one.0 (subst (λ l. IsListing l one.0) (sym c.text.ensures) one.1)

pub loop-line-preserved : goal.loop-line-preserved
loop-line-preserved c =
    let i = c.loop-line.line-index in
    let lines = c.args.lines.now in
    let x = c.line-item.result in
    let good = c.in_ok-put_listing.ensures.good c.if-not-branch.false (take i lines) c.loop-line.invariant in
    subst (λ ls. AreListings (filter has_word ls) c.put_listing.new.files.items) (sym (next_is lines i x (omega arith) c.line-item.is)) (subst (λ l. AreListings (filter has_word (take i lines ++ l ∷ [])) c.put_listing.new.files.items) c.text.ensures good)
