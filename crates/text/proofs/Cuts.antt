-- The first line of a file, and the lines joined again.
use Rattle.std.proofs.Common.{◌≡◌, ℕ, ◌+◌, ◌<◌, ◌≤◌, Bool, true, false, cond, eqb, List, [], ◌∷◌, ◌++◌, length, get_or, take, drop, sym, refl, ap, ◌∙◌, length-drop, arith}
use Rattle.std.proofs.lemmas.List.{at_drop_more, at_drop_all, append_assoc, take_more, take_all}
use Rattle.std.proofs.lemmas.Bool.{cond-true, cond-false, eq-eqb, ne_eqb, eqb-true, and_from}
use Rattle.text.proofs.Along.{along}
use Rattle.text.specs.Lines.{Cut, last_line, lines_from, lines_of, fed, completed, no_feed, no_feeds, Rejoins}

line_more : (xs acc : List ℕ) (i : ℕ) → i < length xs → (get_or xs i 0 ≡ 10 → ⊥)
    → lines_from acc (drop i xs) ≡ lines_from (acc ++ get_or xs i 0 ∷ []) (drop (i + 1) xs)
line_more xs acc i h e = at_drop_more (lines_from acc) xs i 0 h ∙ cond-false _ _ _ (ne_eqb (get_or xs i 0) 10 e)

-- up to the byte n no line ends
within_line : (xs : List ℕ) (n : ℕ) → n ≤ length xs → ((k : ℕ) → k < n → get_or xs k 0 ≡ 10 → ⊥) → lines_of xs ≡ lines_from (take n xs) (drop n xs)
within_line xs n h f =
    along (λ i. lines_from (take i xs) (drop i xs)) 0 n (omega arith)
    (λ i p q. line_more xs (take i xs) i (omega arith) (f i q) ∙ ap (λ w. lines_from w (drop (i + 1) xs)) (sym (take_more xs i 0 (omega arith))))

-- a line that a line feed ends
pub cut_at : (xs : List ℕ) (n : ℕ) → n < length xs → get_or xs n 0 ≡ 10 → ((k : ℕ) → k < n → get_or xs k 0 ≡ 10 → ⊥) → Cut xs (take n xs) (drop (n + 1) xs)
cut_at xs n h e f = record {
  same =
      within_line xs n (omega arith) f
      ∙ (at_drop_more (lines_from (take n xs)) xs n 0 h ∙ cond-true _ _ _ (eq-eqb (get_or xs n 0) 10 e));
  shorter = omega (arith, length-drop (n + 1) xs);
}

last_some : (w : List ℕ) → 0 < length w → last_line w ≡ w ∷ []
last_some [] h = absurd (omega arith)
last_some (b ∷ w) h = refl

-- a last line that none ends
pub cut_all : (xs : List ℕ) → 0 < length xs → ((k : ℕ) → k < length xs → get_or xs k 0 ≡ 10 → ⊥) → Cut xs xs []
cut_all xs h f = record {
  same =
      within_line xs (length xs) (omega arith) f
      ∙ (at_drop_all (lines_from (take (length xs) xs)) xs (length xs) (omega arith) ∙ rw (take_all (length xs) xs (omega arith)) (last_some xs h));
  shorter = h;
}

-- the lines joined again

is_fresh : List ℕ → Bool
is_fresh [] = true
is_fresh (b ∷ bs) = false

push_begun : (acc : List ℕ) (b : ℕ) → is_fresh (acc ++ b ∷ []) ≡ false
unfolding is_fresh
push_begun [] b = refl
push_begun (a ∷ acc) b = refl

fed_lines : (acc xs : List ℕ) → fed (lines_from acc xs) ≡ acc ++ completed (is_fresh acc) xs
unfolding is_fresh
fed_lines [] [] = refl
fed_lines (a ∷ acc) [] = refl
fed_lines acc (b ∷ bs) =
    (elim (eqb b 10) as (λ t. eqb b 10 ≡ t → fed (cond t (acc ∷ lines_from [] bs) (lines_from (acc ++ b ∷ []) bs)) ≡ acc ++ b ∷ completed t bs) [
      | true ↦ λ e. let q : 10 ≡ b = sym (eqb-true b 10 e) in
          ap (λ r. acc ++ 10 ∷ r) (fed_lines [] bs) ∙ ap (λ k. acc ++ k ∷ completed true bs) q
      | false ↦ λ e.
          fed_lines (acc ++ b ∷ []) bs
          ∙ (append_assoc acc (b ∷ []) (completed (is_fresh (acc ++ b ∷ [])) bs) ∙ ap (λ t. acc ++ b ∷ completed t bs) (push_begun acc b))
    ]) refl

no_feed_push : (acc : List ℕ) (b : ℕ) → no_feed acc ≡ true → eqb b 10 ≡ false → no_feed (acc ++ b ∷ []) ≡ true
no_feed_push [] b h e = cond-false _ _ _ e
no_feed_push (a ∷ acc) b h e =
    (elim (eqb a 10) as (λ t. cond t false (no_feed acc) ≡ true → cond t false (no_feed (acc ++ b ∷ [])) ≡ true)
    [ true ↦ λ h. h | false ↦ λ h. no_feed_push acc b h e ]) h

no_feed_lines : (acc xs : List ℕ) → no_feed acc ≡ true → no_feeds (lines_from acc xs) ≡ true
no_feed_lines [] [] h = refl
no_feed_lines (a ∷ acc) [] h = and_from _ true h refl
no_feed_lines acc (b ∷ bs) h =
    (elim (eqb b 10) as (λ t. eqb b 10 ≡ t → no_feeds (cond t (acc ∷ lines_from [] bs) (lines_from (acc ++ b ∷ []) bs)) ≡ true)
    [ true ↦ λ e. and_from _ _ h (no_feed_lines [] bs refl) | false ↦ λ e. no_feed_lines (acc ++ b ∷ []) bs (no_feed_push acc b h e) ]) refl

pub rejoins : (xs : List ℕ) → Rejoins xs (lines_of xs)
unfolding is_fresh
rejoins xs = record { plain = no_feed_lines [] xs refl; whole = fed_lines [] xs }
