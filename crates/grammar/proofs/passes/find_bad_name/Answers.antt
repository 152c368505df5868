use Rattle.std.proofs.Common.{◌≡◌, true, [], ◌∷◌, rules}
use Rattle.text.specs.Tokens.{tokens_of}
use Rattle.text.specs.Words.{good_name}
use Rattle.grammar.specs.Wants.{first_at, form, bad_name}
use Rattle.grammar.proofs.Ordered.{tells, wrong_first}
use Rattle.grammar.proofs.passes.find_bad_name.Goals as goal

pub returns : goal.returns
returns c =
    let e : c.first_at.result ≡ first_at bad_name (form c.args.file ∷ []) (tokens_of c.args.line.bytes.now) = c.first_at.ensures bad_name (λ s t r e. search rules) in
    record {
      value = e;
      first = wrong_first bad_name (tokens_of c.args.line.bytes.now) (form c.args.file ∷ []) c.first_at.result e;
      tells = tells (λ r w. true) (λ n w. good_name w) c.args.file (tokens_of c.args.line.bytes.now) c.first_at.result e;
    }
