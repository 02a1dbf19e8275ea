use Rattle.values.proofs.Numbers.{digits_zeros}
use Rattle.values.proofs.zero.Goals as goal

pub returns : goal.returns
returns c = λ d. digits_zeros d 4
