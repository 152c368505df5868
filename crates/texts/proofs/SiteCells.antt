-- The one cell of a sink whose cells have the edge of the site.
use Rattle.std.proofs.Common.{◌≡◌, ℕ, ◌+◌, ◌<◌, Bool, true, false, cond, sym, ap, ◌∙◌, arith}
use Rattle.geometry.specs.declared.block.Block.{Block}
use Rattle.geometry.specs.declared.cell.Cell.{Cell}
use Rattle.geometry.specs.Limits.{site}
use Rattle.geometry.specs.Boxes.{shared_with, volume_of}
use Rattle.sinks.specs.Meaning.{in_grid, over_materials, materials}
use Rattle.sinks.specs.Tallied.{volume_held, Noted}
use Rattle.sinks.specs.declared.tally.Tallies.{Tallies}
use Rattle.sinks.proofs.Materials.{noted_all, over_none}
use Rattle.sinks.proofs.Shares.{shared_site}
use Rattle.texts.specs.Bills.{site_cell}

cond_plus : (b : Bool) (x y z : ℕ) → z ≡ x + y → cond b z 0 ≡ cond b x 0 + cond b y 0
cond_plus true x y z e = e
cond_plus false x y z e = omega arith

cond_none : (b : Bool) (x : ℕ) → x ≡ 0 → cond b x 0 ≡ 0
cond_none true x e = e
cond_none false x e = omega arith

-- it grows by the volume of the block
pub site_grown : (t u : Tallies) (x : Block) → Noted t u x → x.material < materials → (d : Cell) → site_cell u d ≡ site_cell t d + shared_with site d x.cuboid
site_grown t u x n h d =
    cond_plus (in_grid site d) (over_materials (volume_held t)) (volume_of x.cuboid) (over_materials (volume_held u)) (noted_all t u x n h)
    ∙ ap (λ v. site_cell t d + v) (sym (shared_site d x.cuboid))

pub site_none : (t : Tallies) → ((m : ℕ) → volume_held t m ≡ 0) → (d : Cell) → site_cell t d ≡ 0
site_none t none d = cond_none (in_grid site d) (over_materials (volume_held t)) (over_none (volume_held t) none)
