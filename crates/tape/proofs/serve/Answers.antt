use Rattle.std.proofs.Common.{◌≡◌, length, sym, arith}
use Rattle.std.proofs.lemmas.List.{length-take-le}
use Rattle.tape.proofs.Serving.{fresh_words, on_empty, few, served}
use Rattle.tape.proofs.serve.Goals as goal

pub slice_bounds-run-end-3 : goal.slice_bounds-run-end-3
slice_bounds-run-end-3 c = sym (length-take-le 16384 c.args.out.now (omega arith))

pub put_numbers-requires-clause-commands_fit : goal.put_numbers-requires-clause-commands_fit
put_numbers-requires-clause-commands_fit c =
    let size : length c.args.out.now ≡ 16397 = c.requires.out_len in
    let done = on_empty c.args.tape.now c.args.out.now c.run-ran.new.out c.run-ran.result size _ _ (fresh_words _ _ c.start.ensures) c.run-ran.ensures in
    (few c.args.tape.now c.args.out.now c.run-ran.new.out c.run-ran.result size c.requires.tape_len_bound done c.run-ran.auto.out).0

pub put_numbers-requires-clause-read_fits : goal.put_numbers-requires-clause-read_fits
put_numbers-requires-clause-read_fits c =
    let size : length c.args.out.now ≡ 16397 = c.requires.out_len in
    let done = on_empty c.args.tape.now c.args.out.now c.run-ran.new.out c.run-ran.result size _ _ (fresh_words _ _ c.start.ensures) c.run-ran.ensures in
    (few c.args.tape.now c.args.out.now c.run-ran.new.out c.run-ran.result size c.requires.tape_len_bound done c.run-ran.auto.out).1.0

pub put_numbers-requires-clause-room : goal.put_numbers-requires-clause-room
put_numbers-requires-clause-room c =
    let size : length c.args.out.now ≡ 16397 = c.requires.out_len in
    let done = on_empty c.args.tape.now c.args.out.now c.run-ran.new.out c.run-ran.result size _ _ (fresh_words _ _ c.start.ensures) c.run-ran.ensures in
    (few c.args.tape.now c.args.out.now c.run-ran.new.out c.run-ran.result size c.requires.tape_len_bound done c.run-ran.auto.out).1.1.1

pub returns : goal.returns
returns c =
    let size : length c.args.out.now ≡ 16397 = c.requires.out_len in
    let done = on_empty c.args.tape.now c.args.out.now c.run-ran.new.out c.run-ran.result size _ _ (fresh_words _ _ c.start.ensures) c.run-ran.ensures in
    served c.args.tape.now c.args.out.now c.run-ran.new.out c.run-ran.result size _ _ done c.put_numbers.ensures
