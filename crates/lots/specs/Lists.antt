-- What a list of lots holds.
use Rattle.std.specs.Prelude.{ℕ, []}
use Rattle.geometry.specs.declared.cuboid.Cuboid.{Cuboid}
use Rattle.lots.specs.declared.list.Lot.{Lot}
use Rattle.lots.specs.declared.list.LotList.{LotList}

-- an empty list
abbrev pub no_lots : LotList
no_lots = record { lots = [] }

-- a corner and three sizes
pub record Box : Type 0 where
  pub px : ℕ
  pub py : ℕ
  pub pz : ℕ
  pub sx : ℕ
  pub sy : ℕ
  pub sz : ℕ

abbrev pub box_of : Cuboid → Box
box_of c = record {
  px = c.x.at.0;
  py = c.y.at.0;
  pz = c.z.at.0;
  sx = c.x.size.0;
  sy = c.y.size.0;
  sz = c.z.size.0;
}

-- the box of a lot
abbrev pub boxed : Lot → Box
boxed l = box_of l.cuboid
