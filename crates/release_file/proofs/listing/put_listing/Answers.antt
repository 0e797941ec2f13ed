use Rattle.std.proofs.Common.{rules}
use Rattle.release_file.proofs.ListingLemmas.{one_blank, one_listing}
use Rattle.release_file.proofs.listing.put_listing.Goals as goal

pub returns-in_ok-push-in-Some-clause-good : goal.returns-in_ok-push-in-Some-clause-good
returns-in_ok-push-in-Some-clause-good c = λ t before h.
    one_listing before c.args.line.now c.args.files.now.items c.push.new.self.items c.in-Some.file (search (rules)) c.in_ok-push-in-Some.ensures.items (rw c.in-Some.is at c.in_ok-file.ensures) h
