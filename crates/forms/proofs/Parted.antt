-- One part, as it is taken.
use Rattle.std.proofs.Common.{◌≡◌, ℕ, ◌∷◌, Some, sym, ap, ◌∙◌, subst}
use Rattle.rows.specs.declared.size.Size.{Size}
use Rattle.text.specs.Tokens.{Lexeme, closing, tokens_left}
use Rattle.text.specs.declared.placed.Placed.{Placed}
use Rattle.text.specs.declared.tokens.Tokens.{Tokens}
use Rattle.forms.specs.Pieces.{kind_at, low_of_kind, high_of_kind, size_of, PartTo}
use Rattle.forms.specs.Taken.{Took, TookNumber, decimal_at, LastName}
use Rattle.forms.specs.Told.{Name, placed_word}
use Rattle.forms.specs.declared.words.Kind.{Kind}
use Rattle.forms.specs.declared.words.Kind.TheVariants.{Fix, Float}

-- a word, a number and a name one after the other
joined : (s t u v : Tokens) (w : Lexeme) (a : ℕ) (p : Placed ℕ) (n : Name) (h : LastName u v n)
    → tokens_left s ≡ (w, a) ∷ tokens_left t → tokens_left t ≡ (decimal_at p.value, p.column) ∷ tokens_left u
    → tokens_left s ≡ (w, a) ∷ (decimal_at p.value, p.column) ∷ placed_word n ∷ (closing, h.end) ∷ tokens_left v
joined s t u v w a p n h d e =
    d ∙ (ap (λ x. (w, a) ∷ x) e ∙ ap (λ x. (w, a) ∷ (decimal_at p.value, p.column) ∷ x) h.is)

made : (s t u v : Tokens) (k : Kind) (a : ℕ) (p : Placed ℕ) (n : Name)
    → tokens_left s ≡ (kind_at k, a) ∷ tokens_left t → t.line ≡ s.line → TookNumber (low_of_kind k) (high_of_kind k) t u (Some p) → LastName u v n
    → PartTo s v (record { size = size_of k p.value; name = n })
made s t u v Fix a p n d l e h = record {
  first = a;
  second = p.column;
  end = h.end;
  is = joined s t u v _ a p n h d e.0.is;
  within = e.1;
  low = e.2;
  high = e.3;
  line = h.line ∙ ap (λ x. x.number) (e.0.kept ∙ l);
  kept = h.kept ∙ (e.0.kept ∙ l);
}
made s t u v Float a p n d l e h = record {
  first = a;
  second = p.column;
  end = h.end;
  is = joined s t u v _ a p n h d e.0.is;
  within = e.1;
  low = e.2;
  high = e.3;
  line = h.line ∙ ap (λ x. x.number) (e.0.kept ∙ l);
  kept = h.kept ∙ (e.0.kept ∙ l);
}

pub part_taken : (s t u v : Tokens) (k : Placed Kind) (p : Placed ℕ) (n : Name) (low high : ℕ) (z : Size)
    → low ≡ low_of_kind k.value → high ≡ high_of_kind k.value → z ≡ size_of k.value p.value
    → Took kind_at s t k → TookNumber low high t u (Some p) → LastName u v n → PartTo s v (record { size = z; name = n })
part_taken s t u v k p n low high z a b c d e h =
    subst (λ (x : Size). PartTo s v (record { size = x; name = n })) (sym c)
    (made s t u v k.value k.column p n d.is d.kept
    (subst (λ x. TookNumber (low_of_kind k.value) x t u (Some p)) b (subst (λ x. TookNumber x high t u (Some p)) a e)) h)
