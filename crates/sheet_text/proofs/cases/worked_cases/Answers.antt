use Rattle.std.proofs.Common.{refl}
use Rattle.std.specs.Fmt.{digits}
use Rattle.sinks.specs.Meaning.{over_materials}
use Rattle.texts.specs.Lines.{line_text, up_to}
use Rattle.texts.specs.Bills.{bill_text}
use Rattle.sheet_text.specs.Cases.{Lines, Whole}
use Rattle.sheet_text.proofs.cases.worked_cases.Goals as goal

lines : Lines
unfolding line_text digits
lines = (refl, refl, refl, refl, refl, refl)

whole : Whole
unfolding bill_text up_to line_text over_materials digits
whole = refl

pub returns : goal.returns
returns c = (lines, whole)
