-- What a block list means.
use Rattle.std.specs.Prelude.{◌≡◌, List, [], ◌∷◌, ◌++◌, length, take, drop, nat_lt}
use Rattle.geometry.specs.declared.block.Block.{Block}
use Rattle.sinks.specs.Meaning.{Parts, shared_by}
use Rattle.sinks.specs.Tallied.{count_of, volume_held}
use Rattle.sinks.specs.declared.list.BlockList.{BlockList}

-- the blocks of the list, in the order of taking
abbrev pub listed : BlockList → List Block
listed l = take l.len l.slots.now

-- the four parts of a list: there is room while an entry is free
abbrev pub list_parts : BlockList → Parts
list_parts l = record { count = count_of l.tallies; volume = volume_held l.tallies; cell = λ d. shared_by 1 d (listed l); room = λ _. nat_lt l.len (length l.slots.now) }

-- t is the same list as s, with the block at its end; the entries beyond it are as they were
pub record Listed (s : BlockList) (b : Block) (t : BlockList) : Type 0 where
  pub blocks : listed t ≡ listed s ++ b ∷ []
  pub beyond : drop t.len t.slots.now ≡ drop t.len s.slots.now
  pub lender : t.slots.ghost_name ≡ s.slots.ghost_name
