use Rattle.std.proofs.Common.{sym, ◌∙◌, arith}
use Rattle.forms.specs.Told.{bytes_of}
use Rattle.rules.proofs.Lists.{last_is_lem, last_map}
use Rattle.rules.proofs.passes.is_last.Goals as goal

pub returns-in-len1-up : goal.returns-in-len1-up
returns-in-len1-up c = c.eq.ensures ∙ sym (last_map bytes_of _ c.args.names.now ∙ last_is_lem _ c.args.names.now _ (omega arith))
