use Rattle.std.proofs.Common.{◌≡◌, Bool, List}
use Rattle.text.specs.Tokens.{Lexeme, tokens_left, tokens_of}
use Rattle.grammar.specs.States.{expects, TestedBy}
use Rattle.grammar.specs.Wants.{Want, first_at}
use Rattle.grammar.proofs.passes.first_at.Given as goal

abbrev pub invariant-loop-t : goal.invariant-loop-t
invariant-loop-t g l =
    (test : List Want → Lexeme → Bool) → TestedBy (goal.F-post g l.fn.wrong) test
    → first_at test (expects l.state) (tokens_left l.t-iterator) ≡ first_at test (expects l.initial.state) (tokens_of l.fn.line.bytes.now)
