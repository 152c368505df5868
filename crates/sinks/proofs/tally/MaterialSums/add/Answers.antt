use Rattle.std.proofs.Common.{◌+◌, ◌<◌, length, get_or, set, ap, ◌∙◌, arith, rules}
use Rattle.sinks.proofs.Materials.{part_le, over_at, set_more}
use Rattle.sinks.proofs.tally.MaterialSums.add.Goals as goal

pub overflow_add-self : goal.overflow_add-self
overflow_add-self c = omega (arith, part_le (λ m. get_or c.args.self.now.each m 0) c.args.m c.requires.0, c.args.self.now.summed, c.requires.1)

pub invariant_of-self : goal.invariant_of-self
invariant_of-self c =
    let s = c.args.self.now in
    let m = c.args.m in
    let by = c.args.by in
    let h : m < length s.each = search rules in
    record {
      summed =
          over_at (λ k. get_or s.each k 0) (λ k. get_or (set s.each m (get_or s.each m 0 + by)) k 0) m by (set_more s.each m by h) c.requires.0
          ∙ ap (λ x. x + by) s.summed;
    }
