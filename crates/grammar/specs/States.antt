-- What a line wants in each state of the code.
use Rattle.std.specs.Prelude.{◌≡◌, Bool, List, [], ◌∷◌, Some, None, Option}
use Rattle.geometry.specs.Limits.{site}
use Rattle.text.specs.Tokens.{Lexeme, told}
use Rattle.text.specs.declared.tokens.Token.{Token}
use Rattle.grammar.specs.Wants.{Want, form, head, name, num, range, axis, shut, items, item, parts, more, part, corner, size, weight_limit}
use Rattle.grammar.specs.declared.state.Naming.TheVariants.{Declared, Own, Rule}
use Rattle.grammar.specs.declared.state.State.{State}
use Rattle.grammar.specs.declared.state.State.TheVariants.{Start, Head, MaterialName, RuleName, Items, Item, GuardAxis, GuardLow, GuardHigh, GuardEnd, BodyName, BodyEnd, RepeatAxis, RepeatTile, SplitAxis, Parts, Part, PartLength, PartWeight, PartName, PartEnd, More, CornerX, CornerY, CornerZ, SizeX, SizeY, SizeZ, LotName, FormEnd, Done}

-- the list of wants of each state
abbrev pub expects : State → List Want
expects (Start k) = form k ∷ []
expects (Head k) = head k ∷ []
expects MaterialName = name Declared ∷ shut ∷ []
expects RuleName = name Own ∷ items 3 ∷ shut ∷ []
expects (Items k) = items k ∷ shut ∷ []
expects (Item k) = item k ∷ shut ∷ []
expects (GuardAxis k) = axis ∷ range ∷ shut ∷ items k ∷ shut ∷ []
expects (GuardLow k) = range ∷ shut ∷ items k ∷ shut ∷ []
expects (GuardHigh k low) = num low site ∷ shut ∷ items k ∷ shut ∷ []
expects (GuardEnd k) = shut ∷ items k ∷ shut ∷ []
expects (BodyName n) = name n ∷ shut ∷ shut ∷ []
expects BodyEnd = shut ∷ shut ∷ []
expects RepeatAxis = axis ∷ size ∷ name Rule ∷ shut ∷ shut ∷ []
expects RepeatTile = size ∷ name Rule ∷ shut ∷ shut ∷ []
expects SplitAxis = axis ∷ parts ∷ shut ∷ []
expects Parts = parts ∷ shut ∷ []
expects Part = part ∷ more ∷ shut ∷ []
expects PartLength = size ∷ name Rule ∷ shut ∷ more ∷ shut ∷ []
expects PartWeight = num 1 weight_limit ∷ name Rule ∷ shut ∷ more ∷ shut ∷ []
expects PartName = name Rule ∷ shut ∷ more ∷ shut ∷ []
expects PartEnd = shut ∷ more ∷ shut ∷ []
expects More = more ∷ shut ∷ []
expects CornerX = corner ∷ corner ∷ corner ∷ size ∷ size ∷ size ∷ name Rule ∷ shut ∷ []
expects CornerY = corner ∷ corner ∷ size ∷ size ∷ size ∷ name Rule ∷ shut ∷ []
expects CornerZ = corner ∷ size ∷ size ∷ size ∷ name Rule ∷ shut ∷ []
expects SizeX = size ∷ size ∷ size ∷ name Rule ∷ shut ∷ []
expects SizeY = size ∷ size ∷ name Rule ∷ shut ∷ []
expects SizeZ = size ∷ name Rule ∷ shut ∷ []
expects LotName = name Rule ∷ shut ∷ []
expects FormEnd = shut ∷ []
expects Done = []

-- the same of an answer
abbrev pub wanted : Option State → Option (List Want)
wanted None = None
wanted (Some s) = Some (expects s)

-- what is told of a test by its answers at a state and a token is what the test says of what is wanted there and of the lexeme
abbrev pub TestedBy : (State → Token → Bool → Type 0) → (List Want → Lexeme → Bool) → Type 0
TestedBy tells test = (s : State) (t : Token) (r : Bool) → tells s t r → r ≡ test (expects s) (told t)
