-- Why a file is refused.
use Rattle.std.specs.Prelude.{ℕ}
use Rattle.judge.specs.declared.faults.Fault.{Fault}
use Rattle.judge.specs.declared.faults.Fault.TheVariants.{FileTooLong, LineTooLong, ByteNotAllowed, Brackets, Misplaced, BadNumber, BadName, RuleNameUsed, TooMany, LastLineGuarded, UnknownName, NotFurtherDown, OutOfSite, SharesCube, NoLot}

-- the number of each refusal
abbrev pub number_of : Fault → ℕ
number_of FileTooLong = 10
number_of LineTooLong = 11
number_of ByteNotAllowed = 12
number_of Brackets = 13
number_of Misplaced = 14
number_of BadNumber = 15
number_of BadName = 16
number_of RuleNameUsed = 17
number_of TooMany = 18
number_of LastLineGuarded = 19
number_of UnknownName = 20
number_of NotFurtherDown = 21
number_of OutOfSite = 22
number_of SharesCube = 23
number_of NoLot = 24
