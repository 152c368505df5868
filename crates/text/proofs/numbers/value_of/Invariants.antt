use Rattle.std.proofs.Common.{◌≡◌, drop}
use Rattle.text.specs.Numbers.{reading}
use Rattle.text.proofs.numbers.value_of.Given as goal

abbrev pub invariant-loop-b : goal.invariant-loop-b
invariant-loop-b l = reading l.high l.n (drop l.b-index l.word) ≡ reading l.high 0 l.word
