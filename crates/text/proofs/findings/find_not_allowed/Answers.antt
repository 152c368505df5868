use Rattle.std.proofs.Common.{◌≡◌, ◌∙◌, rules}
use Rattle.text.specs.Findings.{not_allowed, is_fault}
use Rattle.text.proofs.Found.{first_found, column_is}
use Rattle.text.proofs.findings.find_not_allowed.Goals as goal

pub returns : goal.returns
returns c =
    let e : c.map.result ≡ not_allowed c.args.line.now =
    search rules ∙ column_is is_fault c.args.line.now c.index_from.result (c.index_from.ensures.first is_fault (λ b t e. search rules)) in
    record { value = e; first = first_found is_fault c.args.line.now _ e }
