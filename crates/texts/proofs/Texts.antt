-- Lengths and steps of texts that are joined from parts.
use Rattle.std.proofs.Common.{◌≡◌, ℕ, zero, suc, ◌+◌, ◌-◌, ◌*◌, ◌^◌, ◌<◌, ◌≤◌, List, [], ◌∷◌, ◌++◌, length, get_or, take, decimal, sym, refl, ap, ◌∙◌, add-zero, add-one, arith, length-append}
use Rattle.std.specs.List.{flat_map}
use Rattle.std.proofs.lemmas.Fmt.{length-decimal-le}
use Rattle.std.proofs.lemmas.List.{take_more, flat_map_more}
use Rattle.texts.specs.declared.line.LineKind.{LineKind}
use Rattle.texts.specs.declared.line.LineKind.TheVariants.{Group, Vertex, Face, Material, Sum, Done, Spent, Stop, RulesRefused, LotsRefused, Block}
use Rattle.texts.specs.Lines.{start_of, end_of, spaced, line_text, up_to}

-- the length of a number
pub length_few : (n : ℕ) → n < 2 ^ 64 → length (decimal n) ≤ 20
length_few n h = length-decimal-le 20 n (omega arith) (omega arith) h

-- one number more
pub spaced_more : (ns : List ℕ) (i : ℕ) → i < length ns → spaced (take (i + 1) ns) ≡ spaced (take i ns) ++ (32 ∷ decimal (get_or ns i 0))
spaced_more ns i h = ap spaced (take_more ns i 0 h) ∙ sym (flat_map_more (λ n. 32 ∷ decimal n) [] (take i ns) (get_or ns i 0))

pub length_spaced_more : (ns : List ℕ) (i : ℕ) → i < length ns → length (spaced (take (i + 1) ns)) ≡ length (spaced (take i ns)) + (1 + length (decimal (get_or ns i 0)))
length_spaced_more ns i h = ap length (spaced_more ns i h) ∙ length-append (spaced (take i ns)) (32 ∷ decimal (get_or ns i 0)) ∙ omega arith

-- the front of a joined list is no longer than the whole
joined_front : (f : ℕ → List ℕ) (i : ℕ) (ns : List ℕ) → length (flat_map f (take i ns)) ≤ length (flat_map f ns)
joined_front f zero ns = omega arith
joined_front f (suc i) [] = omega arith
joined_front f (suc i) (n ∷ ns) = omega (arith, joined_front f i ns, length-append (f n) (flat_map f (take i ns)), length-append (f n) (flat_map f ns))

pub spaced_front : (i : ℕ) (ns : List ℕ) → length (spaced (take i ns)) ≤ length (spaced ns)
spaced_front i ns = joined_front (λ n. 32 ∷ decimal n) i ns

pub length_line : (k : LineKind) (n : ℕ) (ns : List ℕ) → length (line_text k n ns) ≡ length (start_of k) + length (decimal n) + length (spaced ns) + length (end_of k)
unfolding line_text
length_line k n ns =
    omega (
      arith,
      length-append (start_of k ++ decimal n ++ spaced ns) (end_of k),
      length-append (start_of k ++ decimal n) (spaced ns),
      length-append (start_of k) (decimal n),
    )

-- none, one more, and no longer than the whole
pub up_none : (f : ℕ → List ℕ) → up_to f 0 ≡ []
unfolding up_to
up_none f = refl

pub up_more : (f : ℕ → List ℕ) (n : ℕ) → up_to f (n + 1) ≡ up_to f n ++ f n
unfolding up_to
up_more f n = rw add-one

pub length_up_more : (f : ℕ → List ℕ) (n : ℕ) → length (up_to f (n + 1)) ≡ length (up_to f n) + length (f n)
length_up_more f n = ap length (up_more f n) ∙ length-append (up_to f n) (f n)

up_grow : (f : ℕ → List ℕ) (d n : ℕ) → length (up_to f n) ≤ length (up_to f (n + d))
up_grow f zero n = rw add-zero (omega arith)
up_grow f (suc d) n =
    let e : n + suc d ≡ n + d + 1 = omega arith in
    rw e (omega (arith, up_grow f d n, length_up_more f (n + d)))

pub up_le : (f : ℕ → List ℕ) (m n : ℕ) → m ≤ n → length (up_to f m) ≤ length (up_to f n)
up_le f m n h =
    let e : m + (n - m) ≡ n = omega arith in
    rw e at (up_grow f (n - m) m)

pub up_same : (f g : ℕ → List ℕ) (n : ℕ) → ((k : ℕ) → k < n → f k ≡ g k) → up_to f n ≡ up_to g n
unfolding up_to
up_same f g zero h = refl
up_same f g (suc n) h =
    ap (λ t. t ++ f n) (up_same f g n (λ k l. h k (omega arith))) ∙ ap (λ t. up_to g n ++ t) (h n (omega arith))

-- the pieces of a line are its text
pub line_is : {a d : List ℕ} (k : LineKind) (n : ℕ) {ms ns : List ℕ} → a ≡ start_of k → ms ≡ ns → d ≡ end_of k → a ++ decimal n ++ spaced ms ++ d ≡ line_text k n ns
unfolding line_text
line_is k n p q r = cc

-- the most bytes of a line's start and end: 9 in a drawing and in the bill, 17 in a line of its own
abbrev pub most_ends : LineKind → ℕ
most_ends Group = 9
most_ends Vertex = 9
most_ends Face = 9
most_ends Material = 9
most_ends Sum = 9
most_ends Done = 17
most_ends Spent = 17
most_ends Stop = 17
most_ends RulesRefused = 17
most_ends LotsRefused = 17
most_ends Block = 17

pub length_ends : (k : LineKind) → (length (start_of k) + length (end_of k) ≤ most_ends k) × (most_ends k ≤ 17)
length_ends Group = (omega arith, omega arith)
length_ends Vertex = (omega arith, omega arith)
length_ends Face = (omega arith, omega arith)
length_ends Material = (omega arith, omega arith)
length_ends Sum = (omega arith, omega arith)
length_ends Done = (omega arith, omega arith)
length_ends Spent = (omega arith, omega arith)
length_ends Stop = (omega arith, omega arith)
length_ends RulesRefused = (omega arith, omega arith)
length_ends LotsRefused = (omega arith, omega arith)
length_ends Block = (omega arith, omega arith)

-- a line is no longer than its start and end and twenty digits for each number allow
length_spaced_few : (ns : List ℕ) → ((k : ℕ) → get_or ns k 0 < 2 ^ 64) → length (spaced ns) ≤ 21 * length ns
length_spaced_few [] h = omega arith
length_spaced_few (n ∷ ns) h =
    omega (arith, length-append (32 ∷ decimal n) (spaced ns), length_few n (h 0), length_spaced_few ns (λ k. h (suc k)))

pub line_few : (k : LineKind) (n : ℕ) (ns : List ℕ) → n < 2 ^ 64 → ((k : ℕ) → get_or ns k 0 < 2 ^ 64) → length (line_text k n ns) ≤ 37 + 21 * length ns
line_few k n ns h hs = omega (arith, length_line k n ns, (length_ends k).0, (length_ends k).1, length_few n h, length_spaced_few ns hs)
