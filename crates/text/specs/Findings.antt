-- What can be wrong with the bytes of a line, by its leftmost column.
use Rattle.std.specs.Prelude.{◌≡◌, ℕ, ◌+◌, ◌-◌, ◌<◌, ◌≤◌, Bool, true, false, cond, not, ◌⊎◌, List, [], ◌∷◌, length, take, drop, Some, None, Option, ◌==◌, nat_lt, slice_index}
use Rattle.text.specs.Bytes.{allowed}

-- the most bytes of a line
abbrev pub line_limit : ℕ
line_limit = 240

-- the most brackets that may be open at once
abbrev pub levels : ℕ
levels = 8

-- a line that is too long, at the first byte past the longest line
abbrev pub too_long : List ℕ → Option ℕ
too_long l = cond (nat_lt line_limit (length l)) (Some (line_limit + 1)) None

-- the first column at which a byte passes a test, where the bytes begin at column k
abbrev pub first_byte : (ℕ → Bool) → ℕ → List ℕ → Option ℕ
first_byte p k [] = None
first_byte p k (b ∷ bs) = cond (p b) (Some k) (first_byte p (k + 1) bs)

-- a byte that may not stand in a line
abbrev pub is_fault : ℕ → Bool
is_fault b = not (allowed b)

-- a byte that may not stand in a line, at the first such
abbrev pub not_allowed : List ℕ → Option ℕ
not_allowed l = first_byte is_fault 1 l

-- in plain words: the byte at the column passes the test and none left of it does; or none does
abbrev pub First : (ℕ → Bool) → List ℕ → Option ℕ → Type 0
First p l (Some c) = (1 ≤ c) × (c ≤ length l) × (p (slice_index l (c - 1)) ≡ true) × ((i : ℕ) → i + 1 < c → p (slice_index l i) ≡ false)
First p l None = (i : ℕ) → i < length l → p (slice_index l i) ≡ false

-- the first answer, or else the second
abbrev pub or_else : {X : Type 0} → Option X → Option X → Option X
or_else (Some x) o = Some x
or_else None o = o

-- a closing bracket where none is open, or one that opens a level too many; d are open before column k
abbrev pub stuck : ℕ → ℕ → List ℕ → Option ℕ
stuck k d [] = None
stuck k d (b ∷ bs) =
    cond (b == 40) (cond (nat_lt d levels) (stuck (k + 1) (d + 1) bs) (Some k))
    (cond (b == 41) (cond (nat_lt 0 d) (stuck (k + 1) (d - 1) bs) (Some k)) (stuck (k + 1) d bs))

-- how many closing brackets have no opening one before them in these bytes
abbrev pub unmatched : List ℕ → ℕ
unmatched [] = 0
unmatched (b ∷ bs) = cond (b == 40) (unmatched bs - 1) (cond (b == 41) (unmatched bs + 1) (unmatched bs))

-- the last opening bracket that no later one closes, where the bytes begin at column k
abbrev pub unclosed : ℕ → List ℕ → Option ℕ
unclosed k [] = None
unclosed k (b ∷ bs) =
    or_else (unclosed (k + 1) bs) (cond (b == 40) (cond (unmatched bs == 0) (Some k) None) None)

-- a bracket that can't stand where it does, else the innermost one open at the end
abbrev pub unbalanced : List ℕ → Option ℕ
unbalanced l = or_else (stuck 1 0 l) (unclosed 1 l)

-- how often a byte stands in a list
abbrev pub count : ℕ → List ℕ → ℕ
count b [] = 0
count b (x ∷ xs) = cond (x == b) 1 0 + count b xs

-- at index i a closing bracket where as many were closed as opened, or an opening one where all levels are open
abbrev pub Cannot : List ℕ → ℕ → Type 0
Cannot l i =
    ((slice_index l i ≡ 41) × (count 40 (take i l) ≡ count 41 (take i l)))
    ⊎ ((slice_index l i ≡ 40) × (count 40 (take i l) ≡ count 41 (take i l) + levels))

-- at index i an opening bracket after which, up to any place, no more are closed than opened
abbrev pub StaysOpen : List ℕ → ℕ → Type 0
StaysOpen l i =
    (slice_index l i ≡ 40) × ((n : ℕ) → count 41 (take n (drop (i + 1) l)) ≤ count 40 (take n (drop (i + 1) l)))

-- none of the first n places is such
abbrev pub NoneBelow : (ℕ → Type 0) → ℕ → Type 0
NoneBelow P n = (i : ℕ) → i < n → P i → ⊥

-- brackets in plain words: the first that can't stand where it does; or, where there is none, the last that stays open
abbrev pub Bracketed : List ℕ → Option ℕ → Type 0
Bracketed l (Some c) =
    (1 ≤ c) × (c ≤ length l)
    × ((Cannot l (c - 1) × NoneBelow (Cannot l) (c - 1))
    ⊎ (NoneBelow (Cannot l) (length l) × StaysOpen l (c - 1) × ((i : ℕ) → c ≤ i → i < length l → StaysOpen l i → ⊥)))
Bracketed l None = NoneBelow (Cannot l) (length l) × NoneBelow (StaysOpen l) (length l)
