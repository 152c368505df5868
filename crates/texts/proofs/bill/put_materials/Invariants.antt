use Rattle.sinks.specs.Tallied.{count_of, volume_held}
use Rattle.texts.specs.Lines.{up_to}
use Rattle.texts.specs.Bills.{material_line}
use Rattle.texts.proofs.bill.put_materials.Given as goal

abbrev pub invariant-loop-m : goal.invariant-loop-m
invariant-loop-m g l = g.W.Out.wrote l.initial.out (up_to (material_line (count_of l.tallies) (volume_held l.tallies)) l.m) l.out
