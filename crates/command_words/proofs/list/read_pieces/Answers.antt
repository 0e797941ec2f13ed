use Rattle.std.proofs.Common.{◌+◌, ◌<◌, ◌^◌, ◌∙◌, ap, sym, arith, inl, refl, map, Some, length}
use Rattle.std.proofs.lemmas.List.{map-append}
use Rattle.std.proofs.lemmas.Result.{err_from_is_err_and}
use Rattle.command_value.specs.Plain.{plain}
use Rattle.command_words.proofs.Each.{list_fault, piece_fault, at_piece, one_more}
use Rattle.command_words.proofs.list.read_pieces.Goals as goal

pub returns-then-i-eq-COMMANDS-clause-fault : goal.returns-then-i-eq-COMMANDS-clause-fault
returns-then-i-eq-COMMANDS-clause-fault c =
    list_fault c.args.pieces.now c.loop-i.i c.index-pieces-i.result (map plain c.loop-i.commands.items) c.index-pieces-i.result.start c.loop-i-test.true c.index-pieces-i.is c.loop-i.invariant.read (inl (c.if-i-eq-COMMANDS.true, refl))

pub read_piece-requires : goal.read_piece-requires
read_piece-requires c = at_piece (λ p. p.start + length p.words < 2 ^ 63) c.args.pieces.now c.loop-i.i c.index-pieces-i.result c.loop-i-test.true c.index-pieces-i.is c.requires

pub returns-in_err-read_piece-clause-fault : goal.returns-in_err-read_piece-clause-fault
returns-in_err-read_piece-clause-fault c =
    let p = err_from_is_err_and c.from_residual.result c.from_residual.ensures.1 in
    rw (p.1, p.2) (piece_fault c.args.pieces.now c.loop-i.i c.index-pieces-i.result (map plain c.loop-i.commands.items) c.loop-i-test.true c.index-pieces-i.is (omega arith) c.loop-i.invariant.read c.in_err-read_piece.field-0.0 c.in_err-read_piece.ensures.fault)

pub loop-i-preserved : goal.loop-i-preserved
loop-i-preserved c = record {
  few = omega arith;
  read = one_more c.args.pieces.now c.loop-i.i c.index-pieces-i.result (map plain c.loop-i.commands.items) (plain c.in_ok-read_piece.field-0) c.loop-i-test.true c.index-pieces-i.is c.loop-i.invariant.read c.in_ok-read_piece.ensures.read
      ∙ ap Some (sym (map-append plain c.loop-i.commands.items _)) ∙ ap (λ v. Some (map plain v)) (sym c.in_ok-push.ensures.items);
}
