use Rattle.std.proofs.Common.{◌≡◌, Bool, List}
use Rattle.text.specs.Tokens.{Lexeme, tokens_left, tokens_of}
use Rattle.grammar.specs.States.{expects, TestedBy}
use Rattle.grammar.specs.Wants.{Want}
use Rattle.forms.specs.Met.{met}
use Rattle.judge.specs.Files.{column_of}
use Rattle.rules.proofs.passes.pick.Given as goal

abbrev pub invariant-loop-t : goal.invariant-loop-t
invariant-loop-t g l =
    (test : List Want → Lexeme → Bool) → TestedBy (goal.F-post g l.fn.picks) test
    → column_of l.left (met test (expects l.state) (tokens_left l.t-iterator))
    ≡ column_of l.fn.k (met test (expects l.initial.state) (tokens_of l.fn.line.bytes.now))
