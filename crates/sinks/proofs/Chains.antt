-- What a sink tells after blocks that it took one after another.
use Rattle.std.proofs.Common.{◌≡◌, ℕ, ◌+◌, ◌*◌, ◌/◌, ◌<◌, List, [], ◌∷◌, ◌++◌, length, get_or, take, Ok, sym, refl, ap, ◌∙◌, subst, arith}
use Rattle.std.proofs.lemmas.List.{take_more, take_all}
use Rattle.geometry.specs.declared.block.Block.{Block}
use Rattle.geometry.specs.declared.cell.Cell.{Cell}
use Rattle.geometry.specs.Limits.{site}
use Rattle.geometry.specs.Sums.{sum_of}
use Rattle.geometry.specs.Boxes.{volume_of, shared_with}
use Rattle.sinks.specs.Meaning.{Parts, Chain, Taken, Taking, PowerOfTwo, over_materials, shared_by}
use Rattle.sinks.specs.Laws.{BlocksTold, CellsAddUp, SinksAgree, Offers, inner}
use Rattle.sinks.proofs.Materials.{over_at, over_none}
use Rattle.sinks.proofs.Grids.{over_blocks, over_same_cells, shared_finer, shared_whole, divides}

-- one step more at the end
pub chain_push : {S : Type 0} (R : S → Block → S → Type 0) (s t u : S) (bs : List Block) (b : Block) → Chain R s bs t → R t b u → Chain R s (bs ++ b ∷ []) u
chain_push {S} R s t u [] b e r = let P : S → Type 0 = λ x. R x b u in (u, subst P e r, refl)
chain_push R s t u (x ∷ bs) b (v, first, rest) r = (v, first, chain_push R v t u bs b rest r)

-- the same chain by a weaker relation
pub chain_weaker : {S : Type 0} (R Q : S → Block → S → Type 0) → ((s : S) (b : Block) (t : S) → R s b t → Q s b t) → (s t : S) (bs : List Block) → Chain R s bs t → Chain Q s bs t
chain_weaker R Q w s t [] e = e
chain_weaker R Q w s t (b ∷ bs) (u, first, rest) = (u, w s b u first, chain_weaker R Q w u t bs rest)

-- a number of the state that grows by a number of each block
pub chain_sum : {S : Type 0} (R : S → Block → S → Type 0) (f : S → ℕ) (v : Block → ℕ) → ((s : S) (b : Block) (t : S) → R s b t → f t ≡ f s + v b)
    → (s t : S) (bs : List Block) → Chain R s bs t → f t ≡ f s + sum_of v bs
chain_sum R f v w s t [] e = omega (arith, ap f e)
chain_sum R f v w s t (b ∷ bs) (u, first, rest) = omega (arith, chain_sum R f v w u t bs rest, w s b u first)

pub blocks_told : {S : Type 0} (edge : ℕ) (parts : S → Parts) → BlocksTold edge parts
blocks_told edge parts s t bs chain = record {
  count = λ m. chain_sum (Taken edge parts) (λ u. (parts u).count m) _ (λ u b v r. r.after.count m) s t bs chain;
  volume = λ m. chain_sum (Taken edge parts) (λ u. (parts u).volume m) _ (λ u b v r. r.after.volume m) s t bs chain;
  cell = λ d. chain_sum (Taken edge parts) (λ u. (parts u).cell d) _ (λ u b v r. r.after.cell d) s t bs chain;
}

pub cells_add_up : {S : Type 0} (edge : ℕ) (parts : S → Parts) → PowerOfTwo edge → CellsAddUp edge parts
cells_add_up edge parts power s t bs empty chain =
    let n = site / edge in
    let cells : (d : Cell) → (parts t).cell d ≡ shared_by edge d bs = λ d. omega (arith, (blocks_told edge parts s t bs chain).cell d, empty.cell d) in
    let volumes : over_materials (parts t).volume ≡ over_materials (parts s).volume + sum_of (λ b. volume_of b.cuboid) bs =
    chain_sum (Taken edge parts) (λ u. over_materials (parts u).volume) (λ b. volume_of b.cuboid)
    (λ u b v r. over_at (parts u).volume (parts v).volume b.material (volume_of b.cuboid) r.after.volume r.judged.0) s t bs chain in
    let none : over_materials (parts s).volume ≡ 0 = over_none (parts s).volume empty.volume in
    over_same_cells n (parts t).cell (λ d. shared_by edge d bs) cells
    ∙ over_blocks edge n (λ x. x) volume_of (λ c. shared_whole edge n c (divides edge power)) bs ∙ omega arith

pub sinks_agree : {S T : Type 0} (fine : ℕ) (parts : S → Parts) (coarse : ℕ) (others : T → Parts) → SinksAgree fine parts coarse others
sinks_agree fine parts coarse others n e s s' t t' bs none one nothing other =
    let a = blocks_told fine parts s s' bs one in
    let b = blocks_told coarse others t t' bs other in
    record {
      count = λ m. omega (arith, a.count m, b.count m, none.count m, nothing.count m);
      volume = λ m. omega (arith, a.volume m, b.volume m, none.volume m, nothing.volume m);
      cell = λ d.
          let big : (others t').cell d ≡ shared_by coarse d bs = omega (arith, b.cell d, nothing.cell d) in
          let small : (x : Cell) → (parts s').cell x ≡ shared_by fine x bs = λ x. omega (arith, a.cell x, none.cell x) in
          big ∙ ap (λ k. shared_by k d bs) e ∙ sym (over_blocks fine n (inner n d) (shared_with (n * fine) d) (shared_finer fine n d) bs)
          ∙ over_same_cells n (λ x. shared_by fine (inner n d x) bs) (λ x. (parts s').cell (inner n d x)) (λ x. sym (small (inner n d x)));
    }

-- the blocks taken so far and one more
pub offers_more : {S : Type 0} (R : S → Block → S → Type 0) (s t u : S) (blocks : List Block) (n : ℕ) (b : Block) → n < length blocks → b ≡ get_or blocks n b
    → Chain R s (take n blocks) t → R t b u → Chain R s (take (n + 1) blocks) u
offers_more {S} R s t u blocks n b h is chain r =
    let P : List Block → Type 0 = λ bs. Chain R s bs u in
    let Q : Block → Type 0 = λ x. R t x u in
    subst P (sym (take_more blocks n b h)) (chain_push R s t u (take n blocks) (get_or blocks n b) chain (subst Q is r))

-- where nothing was refused, all blocks were taken
pub offers_whole : {S : Type 0} (edge : ℕ) (parts : S → Parts) (took : S → Block → S → Type 0) (kept : S → S → Type 0) (s t : S) (blocks : List Block)
    → Offers edge parts took kept s t blocks (Ok tt) → Chain (Taking edge parts took) s blocks t
offers_whole {S} edge parts took kept s t blocks offers =
    let P : List Block → Type 0 = λ bs. Chain (Taking edge parts took) s bs t in
    let Q : S → Type 0 = λ u. Chain (Taking edge parts took) s (take (length blocks) blocks) u in
    subst P (take_all (length blocks) blocks (omega arith)) (subst Q (sym offers.ending) offers.chain)
