use Rattle.std.proofs.Common.{◌≡◌, Some, sym, ◌∙◌, refl, rules}
use Rattle.lots.proofs.Added.{lot_placed}
use Rattle.lots.proofs.Boxed.{box_shares}
use Rattle.lots.proofs.Cubes.{shares_any_lot}
use Rattle.lots.specs.Holds.{left_by, box_read, BoxMade}
use Rattle.lots.specs.Lists.{box_of}
use Rattle.lots.specs.Shares.{shares_any}
use Rattle.lots.proofs.reading.place_lot.Goals as goal
use Rattle.lots.proofs.reading.place_lot.Goals.{After-shares_with_lot}

-- what was found of the box
made : (c : After-shares_with_lot) → BoxMade c.args.lot (Some c.in_ok-cuboid.cuboid)
made c = search rules

shared : (c : After-shares_with_lot) → c.shares_with_lot.result ≡ shares_any (box_of c.in_ok-cuboid.cuboid) (left_by c.args.list.now)
shared c = shares_any_lot (box_of c.in_ok-cuboid.cuboid) c.args.list.now.lots c.shares_with_lot.result c.shares_with_lot.ensures

pub returns-then-shares_with_lot : goal.returns-then-shares_with_lot
returns-then-shares_with_lot c =
    let a = (goal.at.returns-then-shares_with_lot c).After-shares_with_lot in
    let m = made a in (
      box_shares (left_by c.args.list.now) c.args.number (box_read c.args.lot) (box_of c.in_ok-cuboid.cuboid) c.fault_at-then-shares_with_lot.result
          m.0 m.1 (sym c.if-shares_with_lot.true ∙ shared a) c.fault_at-then-shares_with_lot.ensures,
      refl,
    )

pub returns : goal.returns
returns c =
    let a = (goal.at.returns c).After-shares_with_lot in
    lot_placed c.args.number c.args.lot c.args.list.now c.in_ok-cuboid.cuboid _ c.push.result (made a) (sym c.if-shares_with_lot.false ∙ shared a) c.push.ensures
