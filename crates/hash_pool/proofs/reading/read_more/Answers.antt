use Rattle.std.proofs.Common.{◌<◌, length, subst, arith}
use Rattle.ap_host.specs.Disk.{live_of}
use Rattle.ap_host.specs.Calls.{Reads}
use Rattle.hash_pool.proofs.ReadLemmas.{reads_on}
use Rattle.hash_pool.proofs.reading.read_more.Goals as goal

pub returns-clause-told : goal.returns-clause-told
returns-clause-told g c x told =
    let content = live_of x c.args.path.now in
    let out = c.read_at.new.out in
    let some : 0 < length out = omega (arith, c.read_at.auto.out) in
    let reads = subst (λ k. Reads content k out c.in_ok-given.given) c.len.ensures (c.in_ok-given.ensures.read x told) in
    reads_on content c.args.bytes.now out c.extend.new.self c.in_ok-given.given _ c.kept-n.result reads some c.in_ok-given.ensures.bound c.kept-n.ensures (omega (arith, c.requires, c.len-2.ensures)) c.in_ok-extend.ensures.ok
