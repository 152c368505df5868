-- Laws over the blocks that a sink took.
use Rattle.std.specs.Prelude.{◌≡◌, ℕ, ◌+◌, ◌*◌, ◌/◌, ◌<◌, ◌≤◌, List, length, take, Ok, Err, Result, MatchResult, slice_index_or}
use Rattle.geometry.specs.declared.block.Block.{Block}
use Rattle.geometry.specs.declared.cell.Cell.{Cell}
use Rattle.geometry.specs.Limits.{site}
use Rattle.geometry.specs.Sums.{total, sum_of}
use Rattle.geometry.specs.Boxes.{volume_of}
use Rattle.sinks.specs.Meaning.{Parts, Takes, Offering, Taken, Taking, Empty, Chain, PowerOfTwo, over_materials, for_material, shared_by}
use Rattle.sinks.specs.declared.offers.Refused.{Refused}

-- how many of the blocks have a material
abbrev pub count_in : List Block → ℕ → ℕ
count_in bs m = sum_of (λ x. for_material m x 1) bs

-- the volume of the blocks that have a material
abbrev pub volume_in : List Block → ℕ → ℕ
volume_in bs m = sum_of (λ x. for_material m x (volume_of x.cuboid)) bs

-- b has what a has and these blocks more
pub record GrownBy (edge : ℕ) (a b : Parts) (bs : List Block) : Type 0 where
  pub count : (m : ℕ) → b.count m ≡ a.count m + count_in bs m
  pub volume : (m : ℕ) → b.volume m ≡ a.volume m + volume_in bs m
  pub cell : (d : Cell) → b.cell d ≡ a.cell d + shared_by edge d bs

-- a sink that took blocks has grown by their sums
abbrev pub BlocksTold : {S : Type 0} → ℕ → (S → Parts) → Type 0
BlocksTold {S} edge parts = (s t : S) (bs : List Block) → Chain (Taken edge parts) s bs t → GrownBy edge (parts s) (parts t) bs

-- a number for each of n × n × n cells, added up
abbrev pub over_cells : ℕ → (Cell → ℕ) → ℕ
over_cells n f = total (λ i. total (λ j. total (λ k. f (record { i = i; j = j; k = k })) n) n) n

-- the cells of a grid share with blocks, together, the blocks' volume
abbrev pub GridsAddUp : Type 0
GridsAddUp = (e : ℕ) → PowerOfTwo e → (bs : List Block) → over_cells (site / e) (λ d. shared_by e d bs) ≡ sum_of (λ b. volume_of b.cuboid) bs

-- the cells of a sink that began empty add up to all its volumes
abbrev pub CellsAddUp : {S : Type 0} → ℕ → (S → Parts) → Type 0
CellsAddUp {S} edge parts = (s t : S) (bs : List Block) → Empty (parts s) → Chain (Taken edge parts) s bs t
    → over_cells (site / edge) (parts t).cell ≡ over_materials (parts t).volume

-- the cell x among the n × n × n cells of a finer grid that lie in the cell d
abbrev pub inner : ℕ → Cell → Cell → Cell
inner n d x = record { i = d.i * n + x.i; j = d.j * n + x.j; k = d.k * n + x.k }

-- a and b tell of the same blocks; the edge of b's cells is n times that of a's
pub record Agree (n : ℕ) (a b : Parts) : Type 0 where
  pub count : (m : ℕ) → b.count m ≡ a.count m
  pub volume : (m : ℕ) → b.volume m ≡ a.volume m
  pub cell : (d : Cell) → b.cell d ≡ over_cells n (λ x. a.cell (inner n d x))

-- two sinks that began empty and took the same blocks agree
abbrev pub SinksAgree : {S T : Type 0} → ℕ → (S → Parts) → ℕ → (T → Parts) → Type 0
SinksAgree {S} {T} fine parts coarse others = (n : ℕ) → coarse ≡ n * fine → (s s' : S) (t t' : T) (bs : List Block)
    → Empty (parts s) → Chain (Taken fine parts) s bs s' → Empty (others t) → Chain (Taken coarse others) t bs t' → Agree n (parts s') (others t')

-- a block was offered after so many that were taken, which a refusal tells
abbrev pub OffersAfter : {S : Type 0} → ℕ → (S → Parts) → (S → Block → S → Type 0) → (S → S → Type 0) → S → S → ℕ → Block → Result (Unit {0}) Refused → Type 0
OffersAfter edge parts took kept s t n x r = MatchResult r (λ _. Offering edge parts took kept s t x (Ok tt)) (λ e. (e.taken ≡ n) × Offering edge parts took kept s t x (Err e.refusal))

-- how many of n offered blocks were taken: all of them, or those before the refused one
abbrev pub taken_of : ℕ → Result (Unit {0}) Refused → ℕ
taken_of n (Ok u) = n
taken_of n (Err e) = e.taken

-- blocks were offered in order up to the first refusal: so many were taken, each as the sink promises
pub record Offers {S : Type 0} (edge : ℕ) (parts : S → Parts) (took : S → Block → S → Type 0) (kept : S → S → Type 0) (s t : S) (blocks : List Block) (r : Result (Unit {0}) Refused) : Type 0 where
  pub within : taken_of (length blocks) r ≤ length blocks
  pub through : S
  pub chain : Chain (Taking edge parts took) s (take (taken_of (length blocks) r) blocks) through
  pub ending : MatchResult r (λ _. t ≡ through)
      (λ e. (e.taken < length blocks) × kept through t × ((d : Block) → Takes edge (parts through) (parts t) (slice_index_or blocks e.taken d) (Err e.refusal)))
