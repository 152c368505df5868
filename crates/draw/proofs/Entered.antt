-- One entry more of a list that is made into blocks.
use Rattle.std.proofs.Common.{ℕ, ◌+◌, ◌<◌, List, [], ◌∷◌, ◌++◌, length, get_or, take, sym, subst}
use Rattle.std.proofs.lemmas.List.{take_more}
use Rattle.geometry.specs.declared.block.Block.{Block}
use Rattle.draw.specs.declared.Entry.{Entry}
use Rattle.draw.specs.Entries.{IsBlock, AreBlocks}

are_push : (es : List Entry) (bs : List Block) (e : Entry) (b : Block) → AreBlocks es bs → IsBlock e b → AreBlocks (es ++ e ∷ []) (bs ++ b ∷ [])
are_push [] [] e b are is = (is, tt)
are_push [] (c ∷ bs) e b are is = absurd are
are_push (x ∷ es) [] e b are is = absurd are
are_push (x ∷ es) (c ∷ bs) e b (first, rest) is = (first, are_push es bs e b rest is)

pub are_more : (es : List Entry) (n : ℕ) (bs : List Block) (d : Entry) (b : Block) → n < length es → AreBlocks (take n es) bs → IsBlock (get_or es n d) b
    → AreBlocks (take (n + 1) es) (bs ++ b ∷ [])
are_more es n bs d b h are is =
    let P : List Entry → Type 0 = λ xs. AreBlocks xs (bs ++ b ∷ []) in
    subst P (sym (take_more es n d h)) (are_push (take n es) bs (get_or es n d) b are is)
