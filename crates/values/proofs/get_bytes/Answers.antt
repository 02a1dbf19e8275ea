use mathlib.Core.Path.{◌≡◌, ap}
use native.Mathlib.Omega.{arith}
use Rattle.words.specs.Shape.{words_in}
use Rattle.values.proofs.Numbers.{read_number}
use Rattle.values.proofs.get_bytes.Goals as goal

pub returns-in-Short : goal.returns-in-Short
returns-in-Short c =
    let a = c.args in
    let e : words_in a.width ≡ 2 = ap words_in c.in-Short.is in
    rw (e, c.get-first.ensures, c.get-second.ensures) (read_number 1 a.bytes.now a.at (omega arith))

pub returns-in-Long : goal.returns-in-Long
returns-in-Long c =
    let a = c.args in
    let e : words_in a.width ≡ 4 = ap words_in c.in-Long.is in
    rw (e, c.get-first.ensures, c.get-second.ensures, c.get.ensures, c.get-in-Long.ensures) (read_number 3 a.bytes.now a.at (omega arith))
