-- The quotas of the floating parts.
use Rattle.std.specs.Prelude.{ℕ, ◌*◌, ◌/◌, ◌%◌, List, length, slice_index_or, count_by}
use Rattle.std.specs.List.{enumerate_from}
use Rattle.geometry.specs.declared.units.Weight.{Weight}
use Rattle.rows.specs.declared.shares.Quota.{Quota}
use Rattle.rows.specs.Apportion.{tie, comes}

-- the whole share and the remainder of a part of weight w, where parts of weights that add up to W share R millimetres
abbrev pub quota : ℕ → ℕ → Weight → Quota
quota R W w = record { whole = record { 0 = (R * w.0) / W }; remainder = (R * w.0) % W }

-- the whole share and the remainder of the k-th quota
abbrev pub whole_at : List Quota → ℕ → ℕ
whole_at qs k = (slice_index_or qs k (record { whole = record { 0 = 0 }; remainder = 0 })).whole.0

abbrev pub remainder_at : List Quota → ℕ → ℕ
remainder_at qs k = (slice_index_or qs k (record { whole = record { 0 = 0 }; remainder = 0 })).remainder

-- how many of these quotas come before part i, of remainder r
abbrev pub ahead : List Quota → ℕ → ℕ → ℕ
ahead qs r i = count_by (λ p. comes tie (length qs) p.1.remainder p.0 r i) (enumerate_from 0 qs)
