use Rattle.std.proofs.Common.{◌≡◌, [], ◌∷◌, rules}
use Rattle.text.specs.Tokens.{tokens_of}
use Rattle.grammar.specs.Wants.{first_at, form, misplaced}
use Rattle.grammar.proofs.Accepts.{first_stuck}
use Rattle.grammar.proofs.passes.find_misplaced.Goals as goal

pub returns : goal.returns
returns c =
    let e : c.first_at.result ≡ first_at misplaced (form c.args.file ∷ []) (tokens_of c.args.line.bytes.now) = c.first_at.ensures misplaced (λ s t r e. search rules) in
    record {
      value = e;
      first = first_stuck c.args.file (tokens_of c.args.line.bytes.now) c.first_at.result e;
    }
