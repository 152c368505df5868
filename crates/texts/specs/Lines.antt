-- Lines of text.
use Rattle.std.specs.Prelude.{ℕ, zero, suc, List, [], ◌∷◌, ◌++◌, codes, decimal}
use Rattle.std.specs.List.{flat_map}
use Rattle.bounded.specs.Listed.{listed}
use Rattle.texts.specs.declared.line.Line.{Line}
use Rattle.texts.specs.declared.lines.LentLine.{LentLine}
use Rattle.texts.specs.declared.line.LineKind.{LineKind}
use Rattle.texts.specs.declared.line.LineKind.TheVariants.{Group, Vertex, Face, Material, Sum, Done, Spent, Stop, RulesRefused, LotsRefused, Block}

-- how a line of each kind begins
abbrev pub start_of : LineKind → List ℕ
start_of Group = codes "g m"
start_of Vertex = codes "v "
start_of Face = codes "f "
start_of Material = codes "(m"
start_of Sum = codes "(total "
start_of Done = codes "(done "
start_of Spent = codes "(spent "
start_of Stop = codes "(stop "
start_of RulesRefused = codes "(refused rules "
start_of LotsRefused = codes "(refused lots "
start_of Block = codes "(block "

-- how it ends; 10 is the line feed, 41 the closing bracket
abbrev pub end_of : LineKind → List ℕ
end_of Group = 10 ∷ []
end_of Vertex = 10 ∷ []
end_of Face = 10 ∷ []
end_of Material = 41 ∷ 10 ∷ []
end_of Sum = 41 ∷ 10 ∷ []
end_of Done = 41 ∷ 10 ∷ []
end_of Spent = 41 ∷ 10 ∷ []
end_of Stop = 41 ∷ 10 ∷ []
end_of RulesRefused = 41 ∷ 10 ∷ []
end_of LotsRefused = 41 ∷ 10 ∷ []
end_of Block = 41 ∷ 10 ∷ []

-- numbers, each after a space
abbrev pub spaced : List ℕ → List ℕ
spaced ns = flat_map (λ n. 32 ∷ decimal n) ns

-- a line of numbers with spaces between
unfoldable pub line_text : LineKind → ℕ → List ℕ → List ℕ
line_text k first others = start_of k ++ decimal first ++ spaced others ++ end_of k

-- the text of a line
abbrev pub text_of : {N : ℕ} → Line N → List ℕ
text_of l = line_text l.kind l.first (listed l.others)

-- the same where the other numbers are lent
abbrev pub lent_text : LentLine → List ℕ
lent_text l = line_text l.kind l.first l.others.now

-- f 0, f 1, .. f (n - 1), joined
unfoldable pub up_to : (ℕ → List ℕ) → ℕ → List ℕ
up_to f zero = []
up_to f (suc n) = up_to f n ++ f n
