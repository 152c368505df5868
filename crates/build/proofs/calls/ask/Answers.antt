use Rattle.std.proofs.Common.{Some, sym, ap}
use Rattle.build.specs.declared.calls.Call.TheVariants.{Sink}
use Rattle.build.specs.History.{drained, counted, measured, looked, drain, count, measure, look}
use Rattle.build.proofs.calls.ask.Goals as goal

pub returns-in-Drain : goal.returns-in-Drain
returns-in-Drain g c = λ ls cap lots start es o ws n h. (
  drained c.drain.result,
  ap (λ k. Some (Sink k)) (sym c.in-Drain.is),
  drain c.args.out.now c.drain.new.out c.drain.result h c.drain.ensures,
)

pub returns-in-Count : goal.returns-in-Count
returns-in-Count g c = λ ls cap lots start es o ws n h. (
  counted c.in-Count.material c.count.result,
  ap (λ k. Some (Sink k)) (sym c.in-Count.is),
  count c.in-Count.material c.count.result h c.count.ensures,
)

pub returns-in-Volume : goal.returns-in-Volume
returns-in-Volume g c = λ ls cap lots start es o ws n h. (
  measured c.in-Volume.material c.volume.result,
  ap (λ k. Some (Sink k)) (sym c.in-Volume.is),
  measure c.in-Volume.material c.volume.result h c.volume.ensures,
)

pub returns-in-Look : goal.returns-in-Look
returns-in-Look g c = λ ls cap lots start es o ws n h. (
  looked c.in-Look.cell c.cell.result,
  ap (λ k. Some (Sink k)) (sym c.in-Look.is),
  look c.in-Look.cell c.cell.result h c.cell.ensures,
)
