use Rattle.std.proofs.Common.{◌≡◌, refl, rules}
use Rattle.std.proofs.lemmas.List.Recursion.{and_is}
use Rattle.text.specs.Bytes.{is_space}
use Rattle.text.specs.Lines.{is_blank}
use Rattle.text.proofs.Blank.{blank_decides}
use Rattle.text.proofs.tokens.is_blank.Goals as goal

pub returns : goal.returns
returns c =
    let e : c.all.result ≡ is_blank c.args.bytes.now = and_is is_blank is_space refl (λ _ _. refl) c.args.bytes.now 0 _ (search rules) (search rules) in
    record { value = e; decides = blank_decides c.args.bytes.now _ e }
