use Rattle.std.proofs.Common.{ℕ, ap, ◌∙◌, subst, arith}
use Rattle.std.specs.Slice.Iter.{iter_rest}
use Rattle.bounded.specs.Listed.{listed}
use Rattle.bounded.proofs.Listed.{pushed_in}
use Rattle.rows.specs.Lengths.{length_at}
use Rattle.rows.specs.Rows.{sizes}
use Rattle.rows.proofs.Looping.{size_read}
use Rattle.rows.proofs.Fills.{Laying, lay_fixed, lay_floating}
use Rattle.rows.proofs.split.fill.Goals.{in-Fix, in-Float+in_ok-length-in-Float}
use Rattle.rows.proofs.split.fill.Goals as goal

pub loop-i-preserved : goal.loop-i-preserved
loop-i-preserved c =
    let f : ℕ → ℕ = length_at c.args.lengths.now in
    let all = sizes c.as_slice-part-items.result.now in
    let gs = listed c.loop-i.segments in
    let g : ℕ → ℕ = length_at (iter_rest c.loop-i.floating) in
    let pushed = pushed_in 64 gs (record { length = c.match-part.length }) (listed c.push.new.self) c.push.result c.push.ensures.pushed (omega (arith, c.loop-i.invariant.count, c.as_slice-part-items.ensures.1)) in
    elim c.match-part.branch [
      | in-Fix w ↦
          let read = size_read (λ ss. ss) c.as_slice-part-items.result.now c.loop-i.i c.part-item.result _ c.loop-i-test.true c.part-item.is w.in-Fix.is in
          rw (w.floating-is)
          (lay_fixed f all gs c.loop-i.i g (listed c.push.new.self) w.in-Fix.length _ (subst (Laying f all gs c.loop-i.i g) read c.loop-i.invariant) (rw w.length-is at pushed))
      | in-Float+in_ok-length-in-Float w ↦
          let read = size_read (λ ss. ss) c.as_slice-part-items.result.now c.loop-i.i c.part-item.result _ c.loop-i-test.true c.part-item.is w.in-Float.is in
          let m = w.in_ok-length-in-Float.length in
          rw (w.floating-is)
          (lay_floating f all gs c.loop-i.i g (listed c.push.new.self) (length_at (iter_rest w.next_length.new.lengths)) m _ _ (subst (Laying f all gs c.loop-i.i g) read c.loop-i.invariant) (rw w.length-is at pushed)
          (ap (λ x. x.0) w.in_ok-length-in-Float.ensures.0 ∙ w.next_length.ensures.next) w.in_ok-length-in-Float.ensures.1 w.next_length.ensures.rest)
    ]
