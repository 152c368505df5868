-- The judgement, name by name and line by line.
use Rattle.rules.specs.declared.rule_book.Book.{Book}
use Rattle.std.proofs.Common.{◌≡◌, ℕ, ◌+◌, ◌<◌, List, [], ◌∷◌, length, get_or, drop, None, Option, sym, refl, ap, ◌∙◌, arith}
use Rattle.std.proofs.lemmas.List.{at_drop_more}
use Rattle.text.specs.Findings.{or_else}
use Rattle.text.specs.declared.placed.Placed.{Placed}
use Rattle.judge.specs.declared.faults.Fault.{Fault}
use Rattle.forms.specs.Told.{Name}
use Rattle.forms.specs.declared.rule.RuleLine.{RuleLine}
use Rattle.book_check.specs.declared.kind.Kind.{Kind}
use Rattle.book_check.specs.Faults.{name_fault, used_fault, line_fault, lines_fault}

-- one name more, by what is found of it
pub used_more : (ps : Book) (i : ℕ) (k : Kind) (xs : List Name) (j : ℕ) (d : Name) (o : Option (Placed Fault)) → j < length xs → o ≡ name_fault ps i k (get_or xs j d)
    → used_fault ps i k (drop j xs) ≡ or_else o (used_fault ps i k (drop (j + 1) xs))
used_more ps i k xs j d o h e = at_drop_more (used_fault ps i k) xs j d h ∙ ap (λ v. or_else v (used_fault ps i k (drop (j + 1) xs))) (sym e)

-- one line more, by what is found of it
pub lines_more : (ps : Book) (i : ℕ) (ms : List Name) (qs : List RuleLine) (n : Name) (ns : List Name) (r : RuleLine) (rs : List RuleLine) (o : Option (Placed Fault))
    → ms ≡ n ∷ ns → qs ≡ r ∷ rs → ns ≡ drop (i + 1) ps.names → o ≡ line_fault ps i n (drop (i + 1) ps.names) r
    → lines_fault ps i ms qs ≡ or_else o (lines_fault ps (i + 1) ns rs)
lines_more ps i ms qs n ns r rs o a b l e =
    ap (λ xs. lines_fault ps i xs qs) a
    ∙ (ap (lines_fault ps i (n ∷ ns)) b
    ∙ ap (λ v. or_else v (lines_fault ps (i + 1) ns rs)) (ap (λ xs. line_fault ps i n xs r) l ∙ sym e))

-- no line is left, or no name
pub names_over : (ps : Book) (i : ℕ) (ms : List Name) (qs : List RuleLine) → length ms ≡ 0 → lines_fault ps i ms qs ≡ None
names_over ps i [] bs e = refl
names_over ps i (n ∷ ns) bs e = absurd (omega arith)

pub lines_over : (ps : Book) (i : ℕ) (ms : List Name) (qs : List RuleLine) → length qs ≡ 0 → lines_fault ps i ms qs ≡ None
lines_over ps i [] bs e = refl
lines_over ps i (n ∷ ns) [] e = refl
lines_over ps i (n ∷ ns) (r ∷ rs) e = absurd (omega arith)
