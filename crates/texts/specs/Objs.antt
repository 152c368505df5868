-- What the OBJ drawing means as a sink.
use Rattle.std.specs.Prelude.{◌≡◌, ℕ, ◌+◌, ◌-◌, cond, List, [], ◌∷◌, ◌++◌, length, take, drop, Err, Result, MatchResult, ◌==◌, nat_le}
use Rattle.geometry.specs.Limits.{site}
use Rattle.geometry.specs.declared.block.Block.{Block}
use Rattle.sinks.specs.Meaning.{Parts, Chain, Empty, HandsOut}
use Rattle.sinks.specs.Laws.{Offers}
use Rattle.sinks.specs.declared.offers.Refused.{Refused}
use Rattle.sinks.specs.declared.refusal.SinkRefusal.{SinkRefusal}
use Rattle.sinks.specs.Tallied.{count_of, volume_held, drawn_of}
use Rattle.texts.specs.declared.drawing.ObjText.{ObjText}
use Rattle.texts.specs.Drawings.{block_text}
use Rattle.texts.specs.Bills.{site_cell}

-- the text written since the last drain
abbrev pub obj_text : ObjText → List ℕ
obj_text s = take s.used s.out.now

-- the four parts of a drawing: there is room exactly if the block's lines fit in the unwritten rest of the buffer
abbrev pub obj_parts : ObjText → Parts
obj_parts s = record { count = count_of s.tallies; volume = volume_held s.tallies; cell = site_cell s.tallies; room = λ b. nat_le (length (block_text (drawn_of s.tallies) b)) (length s.out.now - s.used) }

-- t is s with the block's lines at the end of its text; the bytes beyond them are as they were
pub record Drawn (s : ObjText) (b : Block) (t : ObjText) : Type 0 where
  pub text : obj_text t ≡ obj_text s ++ block_text (drawn_of s.tallies) b
  pub drawn : drawn_of t.tallies ≡ drawn_of s.tallies + cond (b.material == 0) 0 1
  pub beyond : drop t.used t.out.now ≡ drop t.used s.out.now
  pub lender : t.out.ghost_name ≡ s.out.ghost_name

-- t is s with an empty text: buffer and tallies are as they were, so the count of drawn blocks goes on
pub record Begun (s t : ObjText) : Type 0 where
  pub none : t.used ≡ 0
  pub out : t.out ≡ s.out
  pub tallies : t.tallies ≡ s.tallies

-- the lines of blocks in their order, the first of them after d drawn ones
abbrev pub blocks_text : ℕ → List Block → List ℕ
blocks_text d [] = []
blocks_text d (b ∷ bs) = block_text d b ++ blocks_text (d + cond (b.material == 0) 0 1) bs

-- the text of a drawing that took blocks is the text before and then their lines
abbrev pub LinesJoin : Type 0
LinesJoin = (s t : ObjText) (bs : List Block) → Chain Drawn s bs t → obj_text t ≡ obj_text s ++ blocks_text (drawn_of s.tallies) bs

-- blocks were offered to a drawing, and then its text was handed out; the refusal of a block is passed up and leaves the buffer
pub record Drained (s : ObjText) (blocks : List Block) (buffer after : List ℕ) (r : Result ℕ SinkRefusal) : Type 0 where
  pub last : ObjText
  pub offered : Result (Unit {0}) Refused
  pub offers : Offers site obj_parts Drawn (λ u v. v ≡ u) s last blocks offered
  pub answer : MatchResult offered (λ _. HandsOut (obj_text last) buffer after r) (λ e. (r ≡ Err e.refusal) × (after ≡ buffer))

-- blocks were offered to a sink that began so, and then a text of them was handed out; the refusal of a block is passed up and leaves the buffer
pub record Sheet {S : Type 0} (edge : ℕ) (parts : S → Parts) (took : S → Block → S → Type 0) (begins : S → Type 0) (blocks : List Block) (text buffer after : List ℕ) (r : Result ℕ SinkRefusal) : Type 0 where
  pub first : S
  pub last : S
  pub offered : Result (Unit {0}) Refused
  pub begun : begins first
  pub offers : Offers edge parts took (λ u v. v ≡ u) first last blocks offered
  pub answer : MatchResult offered (λ _. HandsOut text buffer after r) (λ e. (r ≡ Err e.refusal) × (after ≡ buffer))

-- a drawing that begins in that memory
abbrev pub BeginsIn : List ℕ → ObjText → Type 0
BeginsIn memory s = Empty (obj_parts s) × (s.used ≡ 0) × (s.out.now ≡ memory)
