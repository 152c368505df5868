-- The text of blocks is the join of their lines.
use Rattle.std.proofs.Common.{◌≡◌, ℕ, List, [], ◌∷◌, ◌++◌, take, Ok, Err, Result, MatchResult, sym, refl, ap, ◌∙◌, subst, arith}
use Rattle.std.proofs.lemmas.List.{append-nil, append_assoc}
use Rattle.geometry.specs.declared.block.Block.{Block}
use Rattle.sinks.specs.declared.offers.Refused.{Refused}
use Rattle.sinks.specs.declared.refusal.SinkRefusal.{SinkRefusal}
use Rattle.sinks.specs.Meaning.{HandsOut, Empty, Chain}
use Rattle.sinks.specs.Tallied.{count_of, drawn_of}
use Rattle.sinks.proofs.Materials.{over_none}
use Rattle.texts.specs.declared.drawing.ObjText.{ObjText}
use Rattle.texts.specs.Drawings.{block_text}
use Rattle.texts.specs.Objs.{obj_text, obj_parts, Drawn, blocks_text, LinesJoin}

pub lines_join : LinesJoin
lines_join s t [] e = ap obj_text e ∙ sym (append-nil (obj_text s))
lines_join s t (b ∷ bs) (u, first, rest) =
    lines_join u t bs rest ∙ ap (λ x. x ++ blocks_text (drawn_of u.tallies) bs) first.text
    ∙ append_assoc (obj_text s) (block_text (drawn_of s.tallies) b) (blocks_text (drawn_of u.tallies) bs)
    ∙ ap (λ d. obj_text s ++ (block_text (drawn_of s.tallies) b ++ blocks_text d bs)) first.drawn

-- an answer about a text is one about any equal text, which has to be equal only where no block was refused
pub same_text : (o : Result (Unit {0}) Refused) (t u b a : List ℕ) (r : Result ℕ SinkRefusal) → (o ≡ Ok tt → t ≡ u)
    → MatchResult o (λ _. HandsOut t b a r) (λ e. (r ≡ Err e.refusal) × (a ≡ b)) → MatchResult o (λ _. HandsOut u b a r) (λ e. (r ≡ Err e.refusal) × (a ≡ b))
same_text (Ok v) t u b a r same h = let P : List ℕ → Type 0 = λ x. HandsOut x b a r in subst P (same refl) h
same_text (Err e) t u b a r same h = h

-- the text of a drawing that began empty
pub text_of : (s t : ObjText) (bs : List Block) → s.used ≡ 0 → Empty (obj_parts s) → Chain Drawn s bs t → obj_text t ≡ blocks_text 0 bs
text_of s t bs e empty chain =
    let none : obj_text s ≡ [] = ap (λ n. take n s.out.now) e in
    let begin : drawn_of s.tallies ≡ 0 = omega (arith, over_none (count_of s.tallies) empty.count) in
    lines_join s t bs chain ∙ ap (λ x. x ++ blocks_text (drawn_of s.tallies) bs) none ∙ ap (λ d. blocks_text d bs) begin
