use Rattle.std.proofs.Common.{not, rules}
use Rattle.text.specs.Bytes.{is_space}
use Rattle.text.proofs.Lexed.{skipped}
use Rattle.text.proofs.tokens.skip_spaces.Goals as goal

pub returns : goal.returns
returns c =
    skipped c.args.bytes.now c.args.at c.index_from.result (c.index_from.ensures.first (λ b. not (is_space b)) (λ b t e. search rules))
