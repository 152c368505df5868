-- Cells of the raster and the places of their numbers.
use Rattle.std.proofs.Common.{◌≡◌, ℕ, ◌+◌, ◌/◌, ◌%◌, ◌<◌, ◌≤◌, true, cond, List, length, get_or, replicate, set, ◌≢◌, subst, sym, refl, ap, ◌∙◌, ⊎_elim, arith}
use Rattle.std.proofs.lemmas.List.{get_or-replicate, get_or_past, length-replicate, get_or-set_same, get_or-set_other}
use Rattle.std.proofs.lemmas.Bool.{cases_lt, cases_eq, cases_Bool, cond-true, cond-false}
use Rattle.geometry.specs.declared.span.Span.{Span}
use Rattle.geometry.specs.declared.cuboid.Cuboid.{Cuboid}
use Rattle.geometry.specs.declared.cell.Cell.{Cell}
use Rattle.geometry.specs.Boxes.{overlap, shared_with, volume_of}
use Rattle.sinks.specs.Meaning.{in_grid}
use Rattle.sinks.specs.Rasters.{place_of, cell_at, share_at, first_of, after_of, SharedIn}
use Rattle.sinks.proofs.Shares.{grid_parts, none_x, none_y, none_z, shared_outside, shared_le}

cell_same : (d : Cell) (i j k : ℕ) → i ≡ d.i → j ≡ d.j → k ≡ d.k → ◌≡◌ {A = Cell} (record { i = i; j = j; k = k }) d
cell_same d i j k p q r = ap (λ n. record { i = n; j = j; k = k }) p ∙ ap (λ n. record { i = d.i; j = n; k = k }) q ∙ ap (λ n. record { i = d.i; j = d.j; k = n }) r

pub place_cell : (d : Cell) → in_grid 1024 d ≡ true → cell_at (place_of d) ≡ d
place_cell d within =
    let g = grid_parts 1024 d within in
    cell_same d (place_of d % 16) (place_of d / 16 % 16) (place_of d / 256) (omega arith) (omega arith) (omega arith)

pub place_lt : (d : Cell) → in_grid 1024 d ≡ true → place_of d < 4096
place_lt d within = let g = grid_parts 1024 d within in omega arith

pub share_place : (d : Cell) (c : Cuboid) → in_grid 1024 d ≡ true → share_at (place_of d) c ≡ shared_with 1024 d c
unfolding share_at
share_place d c within = ap (λ x. shared_with 1024 x c) (place_cell d within)

-- stretches of the grid that a stretch does not reach
pub before : (i : ℕ) (s : Span) → i < first_of s → overlap 1024 i s ≡ 0
before i s h = omega arith

pub beyond : (i : ℕ) (s : Span) → after_of s ≤ i → overlap 1024 i s ≡ 0
beyond i s h = omega (arith, s.some)

-- no share on one axis is no share
pub share_x : (n : ℕ) (c : Cuboid) → overlap 1024 (n % 16) c.x ≡ 0 → share_at n c ≡ 0
unfolding share_at
share_x n c z = none_x 1024 (cell_at n) c z

pub share_y : (n : ℕ) (c : Cuboid) → overlap 1024 (n / 16 % 16) c.y ≡ 0 → share_at n c ≡ 0
unfolding share_at
share_y n c z = none_y 1024 (cell_at n) c z

pub share_z : (n : ℕ) (c : Cuboid) → overlap 1024 (n / 256) c.z ≡ 0 → share_at n c ≡ 0
unfolding share_at
share_z n c z = none_z 1024 (cell_at n) c z

-- cells without a share may be left out, before the others and after them
pub shared_none : (lo hi : ℕ) (c : Cuboid) (xs : List ℕ) → ((n : ℕ) → lo ≤ n → n < hi → share_at n c ≡ 0) → SharedIn lo hi c xs xs
shared_none lo hi c xs none = record { inside = λ n l h. omega (arith, none n l h); under = λ n h. refl; over = λ n h. refl }

pub shared_skip : (lo mid hi : ℕ) (c : Cuboid) (xs ys : List ℕ) → mid ≤ hi → SharedIn lo mid c xs ys → ((n : ℕ) → mid ≤ n → n < hi → share_at n c ≡ 0) → SharedIn lo hi c xs ys
shared_skip lo mid hi c xs ys le done none = record {
  inside = λ n l h. ⊎_elim (λ (p : n < mid). done.inside n l p) (λ (p : mid ≤ n). omega (arith, done.over n p, none n p h)) (cases_lt n mid);
  under = done.under;
  over = λ n h. done.over n (omega arith);
}

-- the number of one cell more
pub shared_more : (c : Cuboid) (xs ys : List ℕ) (d : Cell) (m n p v : ℕ) → in_grid 1024 d ≡ true → p ≡ place_of d → v ≡ shared_with 1024 d c → m ≡ p → n ≡ p + 1 → p < length ys
    → SharedIn 0 m c xs ys → SharedIn 0 n c xs (set ys p (get_or ys p 0 + v))
shared_more c xs ys d m n p v within at share mp np h done =
    let here : get_or (set ys p (get_or ys p 0 + v)) p 0 ≡ get_or ys p 0 + v = get_or-set_same ys p (get_or ys p 0 + v) 0 h in
    let other : (k : ℕ) → k ≢ p → get_or (set ys p (get_or ys p 0 + v)) k 0 ≡ get_or ys k 0 = λ k q. get_or-set_other ys p k (get_or ys p 0 + v) 0 q in
    let place : share_at p c ≡ v = ap (λ k. share_at k c) at ∙ share_place d c within ∙ sym share in
    record {
      inside = λ k l q. ⊎_elim
          (λ (e : k ≡ p). subst (λ (i : ℕ). get_or (set ys p (get_or ys p 0 + v)) i 0 ≡ get_or xs i 0 + share_at i c) (sym e) (omega (arith, here, done.over p (omega arith), place)))
          (λ (e : k ≢ p). omega (arith, other k e, done.inside k l (omega arith))) (cases_eq k p);
      under = λ k l. absurd (omega arith);
      over = λ k l. omega (arith, other k (λ e. absurd (omega arith)), done.over k (omega arith));
    }

-- a raster begins with zeros
pub zeros : (n k : ℕ) → get_or {A = ℕ} (replicate n 0) k 0 ≡ 0
zeros n k =
    ⊎_elim (λ h. get_or-replicate {A = ℕ} n k 0 0 h)
    (λ h. get_or_past {X = ℕ} (replicate n 0) k 0 (let l : length {A = ℕ} (replicate n 0) ≤ k = omega (arith, length-replicate {A = ℕ} n 0) in l)) (cases_lt k n)

-- what the numbers tell of each cell after a box is added
pub cell_grown : (c : Cuboid) (xs ys : List ℕ) → SharedIn 0 4096 c xs ys → (d : Cell)
    → cond (in_grid 1024 d) (get_or ys (place_of d) 0) 0 ≡ cond (in_grid 1024 d) (get_or xs (place_of d) 0) 0 + shared_with 1024 d c
cell_grown c xs ys added d =
    ⊎_elim
    (λ within.
    let y = cond-true (in_grid 1024 d) (get_or ys (place_of d) 0) 0 within in
    let x = cond-true (in_grid 1024 d) (get_or xs (place_of d) 0) 0 within in
    omega (arith, added.inside (place_of d) (omega arith) (place_lt d within), share_place d c within))
    (λ out.
    let y = cond-false (in_grid 1024 d) (get_or ys (place_of d) 0) 0 out in
    let x = cond-false (in_grid 1024 d) (get_or xs (place_of d) 0) 0 out in
    omega (arith, shared_outside 1024 d c refl out))
    (cases_Bool (in_grid 1024 d))

-- no number passes all volumes together
pub still_small : (c : Cuboid) (xs ys : List ℕ) (a b : ℕ) → SharedIn 0 4096 c xs ys → length ys ≡ 4096 → ((n : ℕ) → get_or xs n 0 ≤ a) → b ≡ a + volume_of c
    → (n : ℕ) → get_or ys n 0 ≤ b
unfolding share_at
still_small c xs ys a b added l small e n =
    ⊎_elim (λ h. omega (arith, added.inside n (omega arith) h, small n, shared_le 1024 (cell_at n) c)) (λ h. omega (arith, get_or_past ys n 0 (omega arith))) (cases_lt n 4096)
