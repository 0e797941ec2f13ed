use Rattle.std.proofs.Common.{◌≡◌, ◌++◌, take, string_bytes}
use Rattle.std.specs.List.{flat_map}
use Rattle.reply_text.specs.Replies.{repo_line}
use Rattle.reply_text.proofs.repos.put_repos.Given as goal

abbrev pub invariant-loop-repo : goal.invariant-loop-repo
invariant-loop-repo l = string_bytes l.out ≡ string_bytes l.fn.out ++ flat_map repo_line (take l.repo-index l.repos)
