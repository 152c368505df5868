-- What a sink means: four parts, and how they alter.
use Rattle.std.specs.Prelude.{◌≡◌, ℕ, ◌+◌, ◌/◌, ◌^◌, ◌<◌, ◌≤◌, Bool, true, false, cond, ◌&&◌, ◌⊎◌, List, [], ◌∷◌, ◌++◌, length, drop, Ok, Err, Result, MatchResult, ◌==◌, nat_eq, nat_lt}
use Rattle.geometry.specs.declared.block.Block.{Block}
use Rattle.geometry.specs.declared.cell.Cell.{Cell}
use Rattle.geometry.specs.Limits.{site}
use Rattle.geometry.specs.Sums.{total, count, sum_of}
use Rattle.geometry.specs.Boxes.{volume_of, shared_with}
use Rattle.sinks.specs.declared.refusal.SinkRefusal.{SinkRefusal}
use Rattle.sinks.specs.declared.refusal.SinkRefusal.TheVariants.{NoSuch, NoRoom, OverLimit, ShortBuffer}

-- material numbers are below this; 0 is void
abbrev pub materials : ℕ
materials = 16

-- the most cubic millimetres that a sink receives: the volume of the site
abbrev pub limit : ℕ
limit = 4398046511104

-- the parts of a sink's meaning, at one state: blocks and volume of each material, volume in each cell, room for a block
pub record Parts : Type 0 where
  pub count : ℕ → ℕ
  pub volume : ℕ → ℕ
  pub cell : Cell → ℕ
  pub room : Block → Bool

-- the edge of a sink's cells: a power of two from 1 to the edge of the site
abbrev pub PowerOfTwo : ℕ → Type 0
PowerOfTwo edge = count (λ k. nat_eq edge (2 ^ k)) 15 ≡ 1

-- whether a grid of that edge has the cell
abbrev pub in_grid : ℕ → Cell → Bool
in_grid edge d = nat_lt d.i (site / edge) && (nat_lt d.j (site / edge) && nat_lt d.k (site / edge))

-- a number for every material, added up
unfoldable pub over_materials : (ℕ → ℕ) → ℕ
over_materials f = total f materials

-- n for the block's own material, nothing for the others
abbrev pub for_material : ℕ → Block → ℕ → ℕ
for_material m b n = cond (m == b.material) n 0

-- the volume that blocks share with a cell of a grid of edge e
abbrev pub shared_by : ℕ → Cell → List Block → ℕ
shared_by e d bs = sum_of (λ b. shared_with e d b.cuboid) bs

-- b has what a has and one block more
pub record Grown (edge : ℕ) (a b : Parts) (x : Block) : Type 0 where
  pub count : (m : ℕ) → b.count m ≡ a.count m + for_material m x 1
  pub volume : (m : ℕ) → b.volume m ≡ a.volume m + for_material m x (volume_of x.cuboid)
  pub cell : (d : Cell) → b.cell d ≡ a.cell d + shared_with edge d x.cuboid

-- the answer to an offered block, from all volumes so far and the answer about room
abbrev pub Judged : ℕ → Bool → Block → Result (Unit {0}) SinkRefusal → Type 0
Judged all room x (Ok u) = (x.material < materials) × (all + volume_of x.cuboid ≤ limit) × (room ≡ true)
Judged all room x (Err NoSuch) = materials ≤ x.material
Judged all room x (Err OverLimit) = (x.material < materials) × (limit < all + volume_of x.cuboid)
Judged all room x (Err NoRoom) = (x.material < materials) × (all + volume_of x.cuboid ≤ limit) × (room ≡ false)
Judged all room x (Err ShortBuffer) = ⊥

-- a block is offered: a is what the sink means before, b what it means then
pub record Takes (edge : ℕ) (a b : Parts) (x : Block) (r : Result (Unit {0}) SinkRefusal) : Type 0 where
  pub judged : Judged (over_materials a.volume) (a.room x) x r
  pub after : MatchResult r (λ _. Grown edge a b x) (λ _. b ≡ a)

-- a block is offered to the sink s, which is then t: what `took` says holds of a taken block, and what `kept` says of a refusal
pub record Offering {S : Type 0} (edge : ℕ) (parts : S → Parts) (took : S → Block → S → Type 0) (kept : S → S → Type 0) (s t : S) (x : Block) (r : Result (Unit {0}) SinkRefusal) : Type 0 where
  pub takes : Takes edge (parts s) (parts t) x r
  pub state : MatchResult r (λ _. took s x t) (λ _. kept s t)

-- what a question answers about something that may not exist
abbrev pub Tells : Type 0 → ℕ → Result ℕ SinkRefusal → Type 0
Tells exists n (Ok v) = exists × (v ≡ n)
Tells exists n (Err NoSuch) = exists → ⊥
Tells exists n (Err NoRoom) = ⊥
Tells exists n (Err OverLimit) = ⊥
Tells exists n (Err ShortBuffer) = ⊥

-- a question to the sink s, which is then t, alters nothing
pub record Asking {S : Type 0} (parts : S → Parts) (kept : S → S → Type 0) (exists : Type 0) (n : ℕ) (s t : S) (r : Result ℕ SinkRefusal) : Type 0 where
  pub answer : Tells exists n r
  pub same : parts t ≡ parts s
  pub state : kept s t

-- a and b agree in all but the answers about room
pub record Keeps (a b : Parts) : Type 0 where
  pub count : (m : ℕ) → b.count m ≡ a.count m
  pub volume : (m : ℕ) → b.volume m ≡ a.volume m
  pub cell : (d : Cell) → b.cell d ≡ a.cell d

-- nothing was received yet
pub record Empty (a : Parts) : Type 0 where
  pub count : (m : ℕ) → a.count m ≡ 0
  pub volume : (m : ℕ) → a.volume m ≡ 0
  pub cell : (d : Cell) → a.cell d ≡ 0

-- a buffer with a text written over its start
abbrev pub over : List ℕ → List ℕ → List ℕ
over buffer text = text ++ drop (length text) buffer

-- what handing out a text answers and leaves in the buffer: all of the text, or nothing where the buffer is shorter
abbrev pub HandsOut : List ℕ → List ℕ → List ℕ → Result ℕ SinkRefusal → Type 0
HandsOut text buffer after (Ok n) = (n ≡ length text) × (length text ≤ length buffer) × (after ≡ over buffer text)
HandsOut text buffer after (Err ShortBuffer) = (length buffer < length text) × (after ≡ buffer)
HandsOut text buffer after (Err NoSuch) = ⊥
HandsOut text buffer after (Err NoRoom) = ⊥
HandsOut text buffer after (Err OverLimit) = ⊥

-- a drain of the sink s, which is then t: the text is handed out and emptied; nothing is altered by a refusal, or where there is no text
pub record Draining {S : Type 0} (parts : S → Parts) (text : S → List ℕ) (kept : S → S → Type 0) (s t : S) (buffer after : List ℕ) (r : Result ℕ SinkRefusal) : Type 0 where
  pub hands : HandsOut (text s) buffer after r
  pub state : MatchResult r (λ _. Keeps (parts s) (parts t) × (text t ≡ [])) (λ _. (parts t ≡ parts s) × kept s t)
  pub idle : text s ≡ [] → (parts t ≡ parts s) × kept s t

-- from s to t by the blocks, one after another, each by a step of R
abbrev pub Chain : {S : Type 0} → (S → Block → S → Type 0) → S → List Block → S → Type 0
Chain R s [] t = t ≡ s
Chain {S} R s (b ∷ bs) t = (u : S) × R s b u × Chain R u bs t

-- s takes the block and is then t
abbrev pub Taken : {S : Type 0} → ℕ → (S → Parts) → S → Block → S → Type 0
Taken edge parts s b t = Takes edge (parts s) (parts t) b (Ok tt)

-- and as the implementation promises more
abbrev pub Taking : {S : Type 0} → ℕ → (S → Parts) → (S → Block → S → Type 0) → S → Block → S → Type 0
Taking edge parts took s b t = Taken edge parts s b t × took s b t

-- the sink takes nothing: it was not asked, or it refused, and what it means is the same
abbrev pub Stays : {S : Type 0} → (S → Parts) → (S → S → Type 0) → S → S → Type 0
Stays parts kept s t = (parts t ≡ parts s) × ((t ≡ s) ⊎ kept s t)
