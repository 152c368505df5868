-- Entries of the wall as blocks, and sinks that took them.
use Rattle.std.specs.Prelude.{◌≡◌, ℕ, List, [], ◌∷◌}
use Rattle.geometry.specs.declared.block.Block.{Block}
use Rattle.geometry.specs.Boxes.{Fits, Boxed}
use Rattle.sinks.specs.Meaning.{Parts, Chain, Taking}
use Rattle.draw.specs.declared.Entry.{Entry}

-- the entry reaches out of the site
abbrev pub NoBlock : Entry → Type 0
NoBlock e = Fits e.corner.x.0 e.size.x.0 → Fits e.corner.y.0 e.size.y.0 → Fits e.corner.z.0 e.size.z.0 → ⊥

-- b has the corner, sizes and material of the entry
abbrev pub IsBlock : Entry → Block → Type 0
IsBlock e b = Boxed e.corner.x.0 e.corner.y.0 e.corner.z.0 e.size.x.0 e.size.y.0 e.size.z.0 b.cuboid × (b.material ≡ e.material)

-- the blocks of the entries, in their order
abbrev pub AreBlocks : List Entry → List Block → Type 0
AreBlocks [] [] = Unit {0}
AreBlocks [] (b ∷ bs) = ⊥
AreBlocks (e ∷ es) [] = ⊥
AreBlocks (e ∷ es) (b ∷ bs) = IsBlock e b × AreBlocks es bs

-- a sink took all the blocks, one after another
abbrev pub TakesAll : {S : Type 0} → ℕ → (S → Parts) → (S → Block → S → Type 0) → S → List Block → S → Type 0
TakesAll edge parts took s bs t = Chain (Taking edge parts took) s bs t
