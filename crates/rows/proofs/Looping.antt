-- The step of a loop that reads a slice or fills an array.
use Rattle.std.proofs.Common.{◌≡◌, ℕ, ◌+◌, ◌<◌, List, [], ◌∷◌, ◌++◌, length, get_or, drop, sym, ap, ◌∙◌, arith, below_more}
use Rattle.std.proofs.Math.Seq.{get_or-append_seam}
use Rattle.std.proofs.lemmas.List.{drop_more, get_or_append_left}
use Rattle.geometry.specs.declared.units.Mm.{Mm}
use Rattle.rows.specs.declared.size.Size.{Size}
use Rattle.rows.specs.declared.part.Part.{Part}
use Rattle.rows.specs.Lengths.{length_at}
use Rattle.rows.specs.Rows.{sizes}

-- the elements left, where the next one was read as x
pub next_read : {X : Type 0} (xs : List X) (i : ℕ) (d x : X) → i < length xs → x ≡ get_or xs i d → drop i xs ≡ x ∷ drop (i + 1) xs
next_read xs i d x l e = drop_more xs i d l ∙ ap (λ y. y ∷ drop (i + 1) xs) (sym e)

-- what a recursion says of the parts left, where the next one was read and asks for s
pub size_read : {Y : Type 0} (F : List Size → Y) (ps : List Part) (i : ℕ) (p : Part) (s : Size) → i < length ps → p ≡ get_or ps i p → p.size ≡ s
    → F (sizes (drop i ps)) ≡ F (s ∷ sizes (drop (i + 1) ps))
size_read F ps i p s l e is =
    ap (λ qs. F (sizes qs)) (next_read ps i p p l e)
    ∙ ap (λ x. F (x ∷ sizes (drop (i + 1) ps))) is

-- one more length at the end
pub length_more : (f : ℕ → ℕ) (ms ns : List Mm) (i : ℕ) (m : Mm) → ns ≡ ms ++ m ∷ [] → length ms ≡ i → ((k : ℕ) → k < i → length_at ms k ≡ f k) → m.0 ≡ f i → (k : ℕ) → k < i + 1 → length_at ns k ≡ f k
length_more f ms ns i m e n below here =
    rw e
    (below_more (λ k. length_at (ms ++ m ∷ []) k ≡ f k) i
    (λ k h. let l : k < length ms = omega arith in ap (λ x. x.0) (get_or_append_left ms (m ∷ []) (record { 0 = 0 }) k l) ∙ below k h)
    (rw (← n) (ap (λ x. x.0) (get_or-append_seam ms m [] (record { 0 = 0 })) ∙ here ∙ ap f (sym n))))
