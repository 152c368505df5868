use Rattle.std.proofs.Common.{refl}
use Rattle.std.specs.Fmt.{digits}
use Rattle.text.specs.Numbers.{value_from, in_range, number_in}
use Rattle.judge.specs.Cases.{Lengths, Bytes, Brackets, Places, Numbers, Names, Sheet}
use Rattle.judge.proofs.cases.worked_cases.Goals as goal

lengths : Lengths
lengths = (refl, refl, refl, refl)

bytes : Bytes
bytes = (refl, refl, refl)

brackets : Brackets
brackets = (refl, refl, refl, refl, refl)

places : Places
unfolding value_from in_range number_in digits
places = (refl, refl, refl, refl, refl, refl, refl, refl, refl)

numbers : Numbers
unfolding value_from in_range number_in digits
numbers = (refl, refl, refl, refl, refl, refl, refl, refl, refl, refl)

names : Names
unfolding value_from in_range number_in digits
names = (refl, refl, refl, refl, refl)

sheet : Sheet
unfolding value_from in_range number_in digits
sheet = (refl, refl, refl, refl, refl)

pub returns : goal.returns
returns c = (lengths, bytes, brackets, places, numbers, names, sheet)
