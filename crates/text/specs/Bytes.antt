-- The kinds of bytes.
use Rattle.std.specs.Prelude.{◌≡◌, ℕ, ◌<◌, ◌≤◌, Bool, true, false, cond, ◌&&◌, ◌||◌, List, length, Option, MatchOption, ◌==◌, nat_le, slice_index}
use Rattle.text.specs.declared.bytes.Kind.{Kind}
use Rattle.text.specs.declared.bytes.Kind.TheVariants.{Letter, Digit, Hyphen, Space, Open, Close, Other}

-- low ≤ b ≤ high
abbrev pub within : ℕ → ℕ → ℕ → Bool
within low high b = nat_le low b && nat_le b high

-- a to z and A to Z
abbrev pub is_letter : ℕ → Bool
is_letter b = within 97 122 b || within 65 90 b

-- 0 to 9
abbrev pub is_digit : ℕ → Bool
is_digit b = within 48 57 b

-- the space
abbrev pub is_space : ℕ → Bool
is_space b = b == 32

-- the kind of a byte; 45 is the hyphen, 40 and 41 are the round brackets
abbrev pub kind_of : ℕ → Kind
kind_of b =
    cond (is_letter b) Letter
    (cond (is_digit b) Digit (cond (b == 45) Hyphen (cond (is_space b) Space (cond (b == 40) Open (cond (b == 41) Close Other)))))

-- every kind but the last may stand in a line
abbrev pub may_stand : Kind → Bool
may_stand Letter = true
may_stand Digit = true
may_stand Hyphen = true
may_stand Space = true
may_stand Open = true
may_stand Close = true
may_stand Other = false

-- letters, digits, hyphens, spaces and round brackets
abbrev pub allowed : ℕ → Bool
allowed b = may_stand (kind_of b)

-- a space or a round bracket
abbrev pub separates : ℕ → Bool
separates b = is_space b || b == 40 || b == 41

-- what is told of a test by its answers is what p says
abbrev pub Answers : (ℕ → Bool → Type 0) → (ℕ → Bool) → Type 0
Answers told p = (b : ℕ) (t : Bool) → told b t → t ≡ p b

-- at the index stands the first byte from `at` on that passes p; or none does
abbrev pub FirstFrom : (ℕ → Bool) → List ℕ → ℕ → Option ℕ → Type 0
FirstFrom p l at r =
    MatchOption r ((k : ℕ) → at ≤ k → k < length l → p (slice_index l k) ≡ false)
    (λ i. (at ≤ i) × (i < length l) × (p (slice_index l i) ≡ true) × ((k : ℕ) → at ≤ k → k < i → p (slice_index l k) ≡ false))
