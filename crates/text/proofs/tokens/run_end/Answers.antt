use Rattle.std.proofs.Common.{sym, subst, rules}
use Rattle.text.specs.Bytes.{separates}
use Rattle.text.specs.Tokens.{RunTo}
use Rattle.text.proofs.Lexed.{run_ends}
use Rattle.text.proofs.tokens.run_end.Goals as goal

pub returns : goal.returns
returns c =
    subst (RunTo c.args.bytes.now c.args.at) (sym c.unwrap_or.ensures)
    (run_ends c.args.bytes.now c.args.at c.index_from.result c.requires (c.index_from.ensures.first separates (λ b t e. search rules)))
