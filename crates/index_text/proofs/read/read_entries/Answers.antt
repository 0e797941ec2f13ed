use Rattle.std.proofs.Common.{ℕ, List, ◌++◌, refl, sym, ap, ◌∙◌}
use Rattle.std.specs.Vec.Iter.{into_iter_items}
use Rattle.control_stanza.specs.declared.stanza.Field.{Field}
use Rattle.index_text.proofs.EntryLemmas.{taken_front, one_more, entries_last, packages_last}
use Rattle.index_text.proofs.read.read_entries.Goals as goal

pub returns-in-None-2-clause-other : goal.returns-in-None-2-clause-other
returns-in-None-2-clause-other c =
    let front = taken_front c.into_iter-line-iterator.result c.loop-line.yielded c.loop-line.line-iterator c.loop-line.yielded_by in
    let other : ℕ × List Field = (c.in-Some.line, c.in-Some.stanza) in
    record {
      before = c.loop-line.yielded;
      other = other;
      behind = into_iter_items c.next.new.self;
      stanzas_are = sym c.into_iter-line-iterator.ensures.into_iter_gives.0 ∙ front ∙ ap (λ xs. c.loop-line.yielded ++ xs) c.in-Some.ensures.steps.0;
      are_entries = c.loop-line.invariant.are_entries;
      is_none = rw c.in-None-2.is at c.in_ok-entry.ensures.entry;
      line_is = refl;
    }

pub loop-line-preserved : goal.loop-line-preserved
loop-line-preserved c =
    let x : ℕ × List Field = (c.in-Some.line, c.in-Some.stanza) in
    let made = rw c.in-Some-2.is at c.in_ok-entry.ensures.entry in
    let good = rw c.in-Some-2.is at c.in_ok-entry.ensures.package in
    let pushed = c.in_ok-push-in-Some-2.ensures.items in
    record {
      are_entries = entries_last c.loop-line.yielded x c.loop-line.invariant.are_entries made.0;
      described = one_more c.loop-line.yielded x c.loop-line.entries.items c.in-Some-2.entry c.push.new.self.items c.loop-line.invariant.described made.1 pushed;
      packages = packages_last c.loop-line.entries.items c.in-Some-2.entry c.push.new.self.items pushed c.loop-line.invariant.packages good;
    }
