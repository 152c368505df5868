use Rattle.std.proofs.Common.{◌≡◌, ◌==◌, ◌+◌, ◌-◌, Some, None, length, take, drop, sym, subst, length-drop, arith, rules}
use Rattle.std.proofs.lemmas.Bool.{eqb-true, eqb-false}
use Rattle.std.proofs.lemmas.List.{take_all}
use Rattle.text.specs.Bytes.{FirstFrom}
use Rattle.text.specs.Lines.{Cut}
use Rattle.text.proofs.Cuts.{cut_at, cut_all}
use Rattle.text.proofs.lines.split.first_line.Goals as goal

pub returns-in-Some : goal.returns-in-Some
returns-in-Some c =
    let xs = c.args.text.now in
    let n = c.in-Some.end in
    let h : FirstFrom (λ b. b == 10) xs 0 (Some n) =
    subst (FirstFrom (λ b. b == 10) xs 0) c.in-Some.is (c.index_from.ensures.first (λ b. b == 10) (λ b t e. search rules)) in
    let q : take (length xs - (n + 1)) (drop (n + 1) xs) ≡ drop (n + 1) xs = take_all _ _ (omega (arith, length-drop (n + 1) xs)) in
    subst (Cut xs (take n xs)) (sym q) (cut_at xs n h.1 (eqb-true _ 10 h.2) (λ k l. eqb-false _ 10 (h.3 k (omega arith) l)))

pub returns-in-None : goal.returns-in-None
returns-in-None c =
    let xs = c.args.text.now in
    let h : FirstFrom (λ b. b == 10) xs 0 None =
    subst (FirstFrom (λ b. b == 10) xs 0) c.in-None.is (c.index_from.ensures.first (λ b. b == 10) (λ b t e. search rules)) in
    cut_all xs c.requires (λ k l. eqb-false _ 10 (h k (omega arith) l))
