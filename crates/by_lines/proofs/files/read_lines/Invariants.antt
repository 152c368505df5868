use Rattle.by_lines.proofs.Onward.{Reading}
use Rattle.by_lines.proofs.files.read_lines.Given as goal

abbrev pub invariant-loop-line : goal.invariant-loop-line
invariant-loop-line g l = let m = g.T.Grow in Reading m.verdict m.grown m.fits l.fn.lines l.initial.to l.line-iterator l.to
