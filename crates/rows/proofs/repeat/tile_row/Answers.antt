use Rattle.std.proofs.Common.{◌≡◌, ℕ, ◌+◌, ◌-◌, [], List, replicate, sym, ap, ◌∙◌, subst, arith}
use Rattle.std.proofs.lemmas.Result.{err_from_is_err_and}
use Rattle.bounded.specs.Listed.{listed}
use Rattle.bounded.proofs.Listed.{pushed_in}
use Rattle.rows.specs.declared.size.Size.{Size}
use Rattle.rows.specs.Rows.{tile_size}
use Rattle.rows.specs.Tiles.{tile_length}
use Rattle.rows.proofs.Fills.{Laying, onward, lay_floating, lay_vanishes, lay_end}
use Rattle.rows.proofs.Tiled.{tiles_row, tile_next}
use Rattle.rows.proofs.repeat.tile_row.Goals as goal

pub loop-i-preserved : goal.loop-i-preserved
loop-i-preserved c =
    let f : ℕ → ℕ = tile_length c.args.extent.0 c.args.n in
    let all = replicate c.args.n tile_size in
    let gs = listed c.loop-i.segments in
    let pushed = pushed_in 64 gs (record { length = c.in_ok-length.length }) (listed c.push.new.self) c.push.result c.push.ensures.pushed (omega (arith, c.loop-i.invariant.count, c.requires)) in
    let here = subst (λ (ss : List Size). Laying f all gs c.loop-i.i (onward f c.loop-i.i) ss) (tile_next c.args.n c.loop-i.i c.loop-i-test.true) c.loop-i.invariant in
    lay_floating f all gs c.loop-i.i (onward f c.loop-i.i) (listed c.push.new.self) (onward f (c.loop-i.i + 1)) c.in_ok-length.length (record { 0 = 1 }) _ here
    pushed (ap (λ m. m.0) c.in_ok-length.ensures.0 ∙ c.tile_length.ensures ∙ ap f (omega arith)) c.in_ok-length.ensures.1 (λ j. ap f (omega arith))

pub returns-in_err-length : goal.returns-in_err-length
returns-in_err-length c =
    let f : ℕ → ℕ = tile_length c.args.extent.0 c.args.n in
    let all = replicate c.args.n tile_size in
    let gs = listed c.loop-i.segments in
    let here = subst (λ (ss : List Size). Laying f all gs c.loop-i.i (onward f c.loop-i.i) ss) (tile_next c.args.n c.loop-i.i c.loop-i-test.true) c.loop-i.invariant in
    let z : onward f c.loop-i.i 0 ≡ f c.loop-i.i = ap f (omega arith) in
    let p = err_from_is_err_and c.from_residual.result c.from_residual.ensures.1 in
    rw (p.1, p.2, c.in_err-length.ensures.1)
    (sym (lay_vanishes f all gs c.loop-i.i (onward f c.loop-i.i) (record { 0 = 1 }) _ here (omega (arith, z, c.tile_length.ensures, c.in_err-length.ensures.0))) ∙ tiles_row c.args.extent.0 c.args.n c.requires.0)

pub returns : goal.returns
returns c =
    let f : ℕ → ℕ = tile_length c.args.extent.0 c.args.n in
    let all = replicate c.args.n tile_size in
    let gs = listed c.loop-i.segments in
    let none : replicate (c.args.n - c.loop-i.i) tile_size ≡ [] = let z : c.args.n - c.loop-i.i ≡ 0 = omega arith in ap (λ m. replicate m tile_size) z in
    let here = subst (λ (ss : List Size). Laying f all gs c.loop-i.i (onward f c.loop-i.i) ss) none c.loop-i.invariant in
    sym (lay_end f all gs c.loop-i.i (onward f c.loop-i.i) here) ∙ tiles_row c.args.extent.0 c.args.n c.requires.0
