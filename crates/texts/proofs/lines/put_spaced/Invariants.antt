use Rattle.std.proofs.Common.{take}
use Rattle.texts.specs.Lines.{spaced}
use Rattle.texts.proofs.lines.put_spaced.Given as goal

abbrev pub invariant-loop-n : goal.invariant-loop-n
invariant-loop-n g l = g.W.Out.wrote l.initial.out (spaced (take l.n-index l.numbers)) l.out
