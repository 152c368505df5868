-- What an inline list holds.
use Rattle.std.specs.Prelude.{ℕ, List, take}
use Rattle.bounded.specs.declared.inline.InlineVec.{InlineVec}

abbrev pub listed : {T : Type 0} {N : ℕ} → InlineVec T N → List T
listed v = take v.count v.items
