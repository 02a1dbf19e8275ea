use mir.Facts.{Fits-le}
use mir.Val.{Fits}
use mir.Syntax.{w64}
use native.Mathlib.Omega.{arith}
use lib.ListN.{length}
use Rattle.model.specs.Codes.{command_byte}
use Rattle.run.proofs.Steps.{unknown, is_cut, has_no_room, is_given, has_gone, acted_within, bytes_all}
use Rattle.run.proofs.step.Goals as goal

pub returns-in_err-command : goal.returns-in_err-command
returns-in_err-command c = unknown c.requires.step_ready c.from_residual.result c.from_residual.ensures.1 c.in_err-command.ensures

pub returns-then-tape-at : goal.returns-then-tape-at
returns-then-tape-at c =
    is_cut c.in_ok-command.command c.requires.step_ready c.in_ok-command.ensures c.operand_bytes-read.ensures c.requires.tables.0 c.if-tape-at.true

pub returns-then-out-to : goal.returns-then-out-to
returns-then-out-to c =
    has_no_room c.in_ok-command.command c.requires.step_ready c.in_ok-command.ensures c.operand_bytes-read.ensures c.requires.tables.0 c.if-tape-at.false c.answer_bytes.ensures c.if-out-to.true

pub act-written-requires : goal.act-written-requires
act-written-requires c =
    is_given c.in_ok-command.command c.requires.step_ready c.in_ok-command.ensures c.operand_bytes-read.ensures c.requires.tables.0 c.if-tape-at.false c.answer_bytes.ensures c.if-out-to.false

pub overflow_add-result-2 : goal.overflow_add-result-2
overflow_add-result-2 c =
    let out-fits : Fits w64 (length c.args.out.now) = omega arith in
    Fits-le (acted_within (command_byte c.in_ok-command.command) (is_given c.in_ok-command.command c.requires.step_ready c.in_ok-command.ensures c.operand_bytes-read.ensures c.requires.tables.0 c.if-tape-at.false c.answer_bytes.ensures c.if-out-to.false) c.act-written.ensures) out-fits

pub returns : goal.returns
returns c =
    has_gone c.in_ok-command.command c.requires.step_ready c.in_ok-command.ensures c.operand_bytes-read.ensures c.requires.tables.0 c.if-tape-at.false c.answer_bytes.ensures c.if-out-to.false
    (bytes_all c.args.tape.now (λ i. omega (arith, c.type_inv.tape i))) c.act-written.ensures
