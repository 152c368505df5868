-- The laws of derivations.
use Rattle.std.specs.Prelude.{◌≡◌, ℕ, ◌+◌, ◌-◌, ◌*◌, ◌≤◌, List}
use Rattle.geometry.specs.declared.cell.Cell.{Cell}
use Rattle.geometry.specs.declared.scope.Scope.{Scope}
use Rattle.geometry.specs.declared.block.Block.{Block}
use Rattle.geometry.specs.Sums.{sum_of}
use Rattle.geometry.specs.Boxes.{volume_of, shared_with}
use Rattle.book.specs.declared.line.Line.{Line}
use Rattle.book.specs.Lines.{Checked}
use Rattle.derivation.specs.Derive.{Derived}

-- volumes of scopes and of blocks, in all and in a cell of a grid of edge e
abbrev pub scope_volume : List Scope → ℕ
scope_volume ss = sum_of (λ s. volume_of s.cuboid) ss

abbrev pub block_volume : List Block → ℕ
block_volume bs = sum_of (λ b. volume_of b.cuboid) bs

abbrev pub scopes_in : ℕ → Cell → List Scope → ℕ
scopes_in e d ss = sum_of (λ s. shared_with e d s.cuboid) ss

abbrev pub blocks_in : ℕ → Cell → List Block → ℕ
blocks_in e d bs = sum_of (λ b. shared_with e d b.cuboid) bs

-- how many steps a scope can take at most
unfoldable pub potential : Scope → ℕ
potential s = 128 * volume_of s.cuboid - (64 + s.rule)

-- of k steps that made the blocks and left the last scopes: what was made and what is left fill what there was, in
-- every cell and in all, and the steps stay within 128 for each cubic millimetre
pub record Keeping (first : List Scope) (k : ℕ) (bs : List Block) (last : List Scope) : Type 0 where
  pub cells : (e : ℕ) (d : Cell) → blocks_in e d bs + scopes_in e d last ≡ scopes_in e d first
  pub whole : block_volume bs + scope_volume last ≡ scope_volume first
  pub falls : k + sum_of potential last ≤ sum_of potential first
  pub bound : k ≤ 128 * scope_volume first

abbrev pub LawsHold : Type 0
LawsHold = (ls : List Line) (first last : List Scope) (k : ℕ) (bs : List Block) → Checked ls → Derived ls first k bs last → Keeping first k bs last

-- the derivation is one
abbrev pub OneWay : Type 0
OneWay = (ls : List Line) (first last last' : List Scope) (k : ℕ) (bs bs' : List Block)
    → Derived ls first k bs last → Derived ls first k bs' last' → (bs ≡ bs') × (last ≡ last')
