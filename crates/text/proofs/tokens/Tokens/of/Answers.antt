use Rattle.text.proofs.Formed.{tokenized}
use Rattle.text.proofs.tokens.Tokens.of.Goals as goal

pub returns-clause-law : goal.returns-clause-law
returns-clause-law c = tokenized c.args.line.bytes.now
