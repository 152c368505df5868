use Rattle.std.proofs.Common.{◌≡◌, ℕ, Bool, true, false, cond, arith}
use Rattle.sinks.specs.Meaning.{in_grid}
use Rattle.sinks.specs.Rasters.{place_of}
use Rattle.sinks.proofs.Places.{zeros}
use Rattle.sinks.proofs.raster.Raster.new.Goals as goal

zero_both : (b : Bool) (n : ℕ) → n ≡ 0 → cond b n 0 ≡ 0
zero_both true n e = e
zero_both false n e = omega arith

pub invariant_of-result : goal.invariant_of-result
invariant_of-result c = record { small = λ n. omega (arith, zeros 4096 n) }

pub returns : goal.returns
returns c = record {
  count = λ m. (c.new.ensures m).0;
  volume = λ m. (c.new.ensures m).1;
  cell = λ d. zero_both (in_grid 1024 d) _ (zeros 4096 (place_of d));
}
