-- Replacing the top of the waiting scopes.
use Rattle.std.specs.Prelude.{◌≡◌, ℕ, ◌+◌, ◌-◌, ◌<◌, ◌≤◌, List, ◌∷◌, ◌++◌, map, length, take, drop, Ok, Err, Result}
use Rattle.bounded.specs.declared.full.Full.{Full}
use Rattle.geometry.specs.declared.axis.Axis.{Axis}
use Rattle.geometry.specs.declared.scope.Scope.{Scope}
use Rattle.geometry.specs.Sums.{sum_of}
use Rattle.geometry.specs.Laws.{Laid}
use Rattle.rows.specs.declared.row.Row.{Row}
use Rattle.rows.specs.declared.refusal.RowRefusal.{RowRefusal}
use Rattle.rows.specs.Rows.{told, told_of, segments_of}
use Rattle.rows.specs.Laws.{Thick}
use Rattle.stack.specs.declared.Stack.{Stack}
use Rattle.stack.specs.Held.{entries, capacity}
use Rattle.book.specs.Lines.{Known}
use Rattle.derivation.specs.Derive.{box_of, rule_of, length_on, Cut}
use Rattle.steps.specs.declared.stop.Reason.{Reason}
use Rattle.steps.specs.declared.stop.Reason.TheVariants as reason

-- the same slice of the same lender, as long as it was
abbrev pub SameSlice : Stack Scope → Stack Scope → Type 0
SameSlice s t = (capacity t ≡ capacity s) × (t.slots.ghost_name ≡ s.slots.ghost_name)

-- the scope is the top entry
abbrev pub OnTop : Stack Scope → Scope → Type 0
OnTop t s = entries t ≡ s ∷ drop 1 (entries t)

-- lengths that fill L, each with a rule of its own
pub record Filling (L : ℕ) (ns rs : List ℕ) : Type 0 where
  pub some : 1 ≤ length ns
  pub few : length ns ≤ 64
  pub sums : sum_of (λ n. n) ns ≡ L
  pub thick : Thick ns
  pub rules : length rs ≡ length ns
  pub known : Known rs

-- ts are pieces of s of these lengths along the axis, the lowest first, with these rules, and stand in its place
abbrev pub Placed : Scope → Axis → List ℕ → List ℕ → List Scope → List Scope → Type 0
Placed s a ns rs first last = (ts : List Scope) × Laid s.cuboid a 0 ns (map box_of ts) × (map rule_of ts ≡ rs) × (last ≡ ts ++ drop 1 first)

-- the pieces stand in the place of s; or entries lack, and nothing is altered
abbrev pub Lays : List Scope → List Scope → ℕ → Scope → Axis → List ℕ → List ℕ → Result (Unit {0}) Full → Type 0
Lays first last cap s a ns rs (Ok u) = Placed s a ns rs first last
Lays first last cap s a ns rs (Err e) = (last ≡ first) × (cap < length first + (length ns - 1))

-- why a row of a scope of length L is not laid, where k of cap entries are held
abbrev pub NoRow : Axis → ℕ → Result (List ℕ) RowRefusal → ℕ → ℕ → Reason → Type 0
NoRow a L row cap k (reason.Row e b m) = (b ≡ a) × (m.0 ≡ L) × (row ≡ Err e)
NoRow a L row cap k (reason.Full b m) = (b ≡ a) × (m.0 ≡ L) × ((ns : List ℕ) × (row ≡ Ok ns) × (cap < k + (length ns - 1)))
NoRow a L row cap k (reason.Sink r) = ⊥

-- what came of a row that the code holds
abbrev pub Cuts : Scope → Axis → Result Row RowRefusal → List ℕ → List Scope → List Scope → ℕ → Result (Unit {0}) Reason → Type 0
Cuts s a row rs first last cap (Ok u) = (r : Row) × (row ≡ Ok r) × Placed s a (told r) (take (length (segments_of r)) rs) first last
Cuts s a row rs first last cap (Err w) = (last ≡ first) × NoRow a (length_on a s) (told_of row) cap (length first) w

-- what came of a row as it is defined
abbrev pub Divides : Scope → Axis → Result (List ℕ) RowRefusal → (List ℕ → List ℕ) → List Scope → List Scope → ℕ → Result (Unit {0}) Reason → Type 0
Divides s a row rules first last cap (Ok u) = (ts : List Scope) × Cut s a row rules ts × (last ≡ ts ++ drop 1 first)
Divides s a row rules first last cap (Err w) = (last ≡ first) × NoRow a (length_on a s) row cap (length first) w

-- the scope goes on with another rule
abbrev pub Relabelled : Scope → ℕ → List Scope → List Scope → Type 0
Relabelled s r first last = (t : Scope) × (last ≡ t ∷ drop 1 first) × (t.cuboid ≡ s.cuboid) × (t.rule ≡ r)
