use Rattle.std.proofs.Common.{◌≡◌, true, [], ◌∷◌, rules}
use Rattle.text.specs.Tokens.{tokens_of}
use Rattle.grammar.specs.Wants.{first_at, inside, form, bad_number}
use Rattle.grammar.proofs.Ordered.{tells, wrong_first}
use Rattle.grammar.proofs.passes.find_bad_number.Goals as goal

pub returns : goal.returns
returns c =
    let e : c.first_at.result ≡ first_at bad_number (form c.args.file ∷ []) (tokens_of c.args.line.bytes.now) = c.first_at.ensures bad_number (λ s t r e. search rules) in
    record {
      value = e;
      first = wrong_first bad_number (tokens_of c.args.line.bytes.now) (form c.args.file ∷ []) c.first_at.result e;
      tells = tells inside (λ n w. true) c.args.file (tokens_of c.args.line.bytes.now) c.first_at.result e;
    }
